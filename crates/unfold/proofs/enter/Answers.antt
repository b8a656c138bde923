use Rattle.std.proofs.Common.{◌≡◌, ◌+◌, ◌-◌, length, sym, ap, ◌∙◌, arith, subst, rules, Err}
use Rattle.frames.specs.Fresh.{name_words}
use Rattle.frames.specs.Lists.{Gathers, knows-itself}
use Rattle.tape.specs.Encoding.{list_w}
use Rattle.unfold.specs.Entering.{Enters, given-offered, tie-all, enter-first, reason_of, enters, locals_of}
use Rattle.unfold.specs.Header.{ports, here-ports, here-locals}
use Rattle.frames.specs.Ports.{Offered}
use Rattle.frames.specs.Stands.{lens}
use Rattle.unfold.proofs.enter.Goals as goal

pub after_generics-ports-requires : goal.after_generics-ports-requires
after_generics-ports-requires c = record { block = c.requires.written_header.block; here = c.requires.written_header.here }

pub overflow_sub-generics : goal.overflow_sub-generics
overflow_sub-generics c = let e = (c.after_generics-ports.ensures _ c.requires.written_header.here).1 in omega (arith, e)

pub overflow_sub-generics-2 : goal.overflow_sub-generics-2
overflow_sub-generics-2 c = let e = (c.after_generics-ports.ensures _ c.requires.written_header.here).1 in omega (arith, e)

pub tie-requires : goal.tie-requires
tie-requires c =
    let p = c.requires.written_header in
    let e = c.after_generics-ports.ensures _ p.here in
    let q : c.after_generics-ports.result - c.args.at - 1 ≡ length p.block.generics = omega (arith, e.1) in
    record { ports = ports p.block.inputs p.block.outputs p.wires; here = rw e.0 (here-ports p.here p.wires p.offers.many); offered = subst (λ n. Offered n (lens c.args.into.now.names) (ports p.block.inputs p.block.outputs p.wires)) (sym q) (given-offered p.here p.wires p.offers.many p.offers.names) }

pub returns-in_err-tied-clause-enters : goal.returns-in_err-tied-clause-enters
unfolding Gathers Enters
returns-in_err-tied-clause-enters c ρ B rs s K h f w =
    let e = c.after_generics-ports.ensures B h in
    let q : c.after_generics-ports.result - c.args.at - 1 ≡ length B.generics = omega (arith, e.1) in
    let g = rw c.in_err-tied.was at (c.tie.ensures.gathers ρ (ports B.inputs B.outputs rs) K (rw e.0 (here-ports h rs f.many)) (rw q (given-offered h rs f.many f.names))) in
    let r : c.from_residual.result ≡ Err c.in_err-tied.field-0.0 = grind arith in
    rw r (0, enter-first ρ B rs s (sym (tie-all ρ h rs f.many) ∙ g))

pub declare-requires : goal.declare-requires
declare-requires c =
    let p = c.requires.written_header in
    let e = c.after_generics-ports.ensures _ p.here in
    let q : c.after_generics-ports.result - c.args.at - 1 ≡ length p.block.generics = omega (arith, e.1) in
    let g = rw c.in_ok-tied.was at (c.tie.ensures.gathers _ (ports p.block.inputs p.block.outputs p.wires) (knows-itself _) (rw e.0 (here-ports p.here p.wires p.offers.many)) (rw q (given-offered p.here p.wires p.offers.many p.offers.names))) in
    let d = locals_of _ p.here p.offers q e.0 g c.tie.ensures.ends_unchanged in
    record { written_decls = record { decls = p.block.locals; names = _; here = rw d.place (record { declared = p.here.locals; listed = here-locals p.here }); filled = d.filled }; from_bound = (d.few, c.requires.wires_bound) }

pub returns-clause-enters : goal.returns-clause-enters
returns-clause-enters c ρ B rs s K h f w =
    let e = c.after_generics-ports.ensures B h in
    let q : c.after_generics-ports.result - c.args.at - 1 ≡ length B.generics = omega (arith, e.1) in
    let g = rw c.in_ok-tied.was at (c.tie.ensures.gathers ρ (ports B.inputs B.outputs rs) K (rw e.0 (here-ports h rs f.many)) (rw q (given-offered h rs f.many f.names))) in
    let d = locals_of ρ h f q e.0 g c.tie.ensures.ends_unchanged in
    let o = c.declare.ensures ρ B.locals _ s K (rw d.place (record { declared = h.locals; listed = here-locals h })) d.filled w in
    let m : c.map_err.result ≡ reason_of c.declare.result = search rules in
    rw m (enters ρ B rs s _ _ c.declare.result _ d.tied (ap (λ i. i + length (list_w (name_words 13) B.locals)) d.place) o)
