use Rattle.std.proofs.Common.{◌≡◌, map, arith, Err}
use Rattle.gates.specs.Shows.{Gives}
use Rattle.unfold.specs.Adding.{base_r, gate-ends, gate-many, gate-out, added_is, added-first}
use Rattle.unfold.specs.Entering.{Collects}
use Rattle.unfold.proofs.add.Goals as goal

pub returns-in_err-gather-clause-gives : goal.returns-in_err-gather-clause-gives
unfolding Collects Gives
returns-in_err-gather-clause-gives c ρ σ gs ins outs v S h f w =
    let e : c.from_residual.result ≡ Err c.in_err-gather.field-0.0 = grind arith in
    let g = rw (c.empty-ends.ensures, c.in_err-gather.was) at (c.gather.ensures ρ σ gs ins outs S h) in
    rw e (added-first _ _ ρ σ gs _ v g)

pub emit-requires : goal.emit-requires
unfolding Collects
emit-requires c =
    let p = c.requires.written_gate in
    let g = rw (c.empty-ends.ensures, c.in_ok-gather.was) at (c.gather.ensures _ _ _ _ _ p.call.stands p.call.here) in
    (c.requires.in_bounds.0, rw (c.gate_on-gate.ensures (map base_r g.wires) (gate-ends g p.fits) (gate-many g p.fits)) (gate-out g p.fits))

pub returns-clause-gives : goal.returns-clause-gives
unfolding Collects
returns-clause-gives c ρ σ gs ins outs v S h f w =
    let g = rw (c.empty-ends.ensures, c.in_ok-gather.was) at (c.gather.ensures ρ σ gs ins outs S h) in
    rw (added_is g f _ v, ← (c.gate_on-gate.ensures (map base_r g.wires) (gate-ends g f) (gate-many g f))) (c.emit.ensures.gives v w)
