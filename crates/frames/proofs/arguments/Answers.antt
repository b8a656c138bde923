use Rattle.std.proofs.Common.{◌≡◌, refl, sym, ap, ◌∙◌, arith, Err}
use Rattle.frames.specs.Args.{Finds, Fits}
use Rattle.frames.specs.Lists.{here-arg, Resolves, drawing-begin, drawing-next, drawing-stop, drawing-on, drawing-end, drawing-room}
use Rattle.frames.specs.Stands.{no_vector, bases, lens, lows}
use Rattle.frames.specs.declared.Vector.{Vector}
use Rattle.std.proofs.Math.Seq.{map-set, map-set_same}
use Rattle.frames.proofs.arguments.Goals as goal

pub loop-next-init : goal.loop-next-init
loop-next-init c = ((λ ρ σ ins outs s h. drawing-begin h), refl)

pub argument-requires : goal.argument-requires
argument-requires c =
    let p = c.requires.written_args in
    let d = c.loop-next.invariant.0 _ _ _ _ p.stands p.here in
    let n = drawing-next d (sym c.among.ensures ∙ c.loop-next-test.true) in
    record { kind = n.item.kind; arg = n.item.arg; env = p.env; names = p.names; stands = p.stands; here = here-arg n.sound n.alone }

pub returns-in_err-found-clause-resolves : goal.returns-in_err-found-clause-resolves
unfolding Finds Resolves
returns-in_err-found-clause-resolves c ρ σ ins outs s h =
    let d = c.loop-next.invariant.0 ρ σ ins outs s h in
    let n = drawing-next d (sym c.among.ensures ∙ c.loop-next-test.true) in
    let e : c.from_residual.result ≡ Err c.in_err-found.field-0.0 = grind arith in
    rw e (drawing-stop d n (rw c.in_err-found.was at (c.argument.ensures.finds ρ σ _ _ s (here-arg n.sound n.alone))))

pub overflow_add-filled : goal.overflow_add-filled
overflow_add-filled c =
    let p = c.requires.written_args in
    let d = c.loop-next.invariant.0 _ _ _ _ p.stands p.here in
    let r = drawing-room d in
    omega (arith, r.0, r.1, c.requires.names_len.1)

pub loop-next-smaller : goal.loop-next-smaller
unfolding Finds
loop-next-smaller c =
    let p = c.requires.written_args in
    let d = c.loop-next.invariant.0 _ _ _ _ p.stands p.here in
    let n = drawing-next d (sym c.among.ensures ∙ c.loop-next-test.true) in
    let s = rw c.in_ok-found.was at (c.argument.ensures.finds _ _ _ _ p.stands (here-arg n.sound n.alone)) in
    omega (arith, s.1, n.alone.within, n.some)

pub loop-next-preserved : goal.loop-next-preserved
unfolding Finds Fits
loop-next-preserved c = (
  (λ ρ σ ins outs s h.
      let d = c.loop-next.invariant.0 ρ σ ins outs s h in
      let n = drawing-next d (sym c.among.ensures ∙ c.loop-next-test.true) in
      let q = rw c.in_ok-found.was at (c.argument.ensures.finds ρ σ _ _ s (here-arg n.sound n.alone)) in
      drawing-on d n q.0 (rw c.in_ok-found.was at c.argument.ensures.fits) q.1 (ap bases c.put.ensures ∙ map-set _ _ _ _) (ap lens c.put.ensures ∙ map-set _ _ _ _) refl),
  ap lows c.put.ensures ∙ map-set_same (λ (v : Vector). v.low) _ _ _ no_vector refl ∙ c.loop-next.invariant.1,
)

pub returns-clause-resolves : goal.returns-clause-resolves
returns-clause-resolves c ρ σ ins outs s h = drawing-end (c.loop-next.invariant.0 ρ σ ins outs s h) (sym c.among.ensures ∙ c.loop-next-test.false)
