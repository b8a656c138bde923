use Rattle.std.proofs.Common.{◌≡◌, sym, ◌∙◌, refl, rules, arith, Err, Some, None, [], ◌∷◌, ◌++◌, SFits, w32, to_z-of_z}
use Rattle.rules.specs.declared.Reason.TheVariants.{OutOfRange}
use Rattle.frames.specs.Laid.{laid}
use Rattle.frames.specs.Lists.{starts-values, here_of, runs-evals, Gathers, knows-itself, stored}
use Rattle.frames.specs.Runs.{begin, next, stop, onward, finish, room}
use Rattle.frames.specs.Stands.{eval-knows}
use Rattle.values.specs.Here.{Says}
use Rattle.frames.proofs.evaluate.Goals as goal

pub loop-next-init : goal.loop-next-init
unfolding laid
loop-next-init c ρ es K h = ([], begin h.listed h.grouped, refl)

pub eval-requires : goal.eval-requires
eval-requires c =
    let g = (c.loop-next.invariant _ _ (knows-itself _) c.requires.written_values.here).1 in
    let n = next starts-values g (sym c.among.ensures ∙ c.loop-next-test.true) in
    record { exp = n.item; here = here_of n.sound n.alone }

pub returns-in_err-given : goal.returns-in_err-given
unfolding Says Gathers
returns-in_err-given c ρ es K h =
    let g = (c.loop-next.invariant ρ es K h).1 in
    let n = next starts-values g (sym c.among.ensures ∙ c.loop-next-test.true) in
    let e : c.from_residual.result ≡ Err OutOfRange = grind arith in
    let v : c.eval.result ≡ None = grind arith in
    rw e (sym (runs-evals ρ es) ∙ stop starts-values g n (sym (eval-knows 2 n.item K n.sound) ∙ rw v at (c.eval.ensures n.item (here_of n.sound n.alone))))

pub overflow_add-filled : goal.overflow_add-filled
overflow_add-filled c =
    let g = (c.loop-next.invariant _ _ (knows-itself _) c.requires.written_values.here).1 in
    let r = room starts-values g in
    omega (arith, r.0, r.1, g.listed.short)

pub loop-next-smaller : goal.loop-next-smaller
unfolding Says
loop-next-smaller c =
    let g = (c.loop-next.invariant _ _ (knows-itself _) c.requires.written_values.here).1 in
    let n = next starts-values g (sym c.among.ensures ∙ c.loop-next-test.true) in
    let v : c.eval.result ≡ Some c.in_ok-given.given = grind arith in
    let s = rw v at (c.eval.ensures n.item (here_of n.sound n.alone)) in
    omega (arith, s.1, n.alone.within, n.some)

pub loop-next-preserved : goal.loop-next-preserved
unfolding Says
loop-next-preserved c ρ es K h =
    let (found, g, u) = c.loop-next.invariant ρ es K h in
    let n = next starts-values g (sym c.among.ensures ∙ c.loop-next-test.true) in
    let v : c.eval.result ≡ Some c.in_ok-given.given = grind arith in
    let s = rw v at (c.eval.ensures n.item (here_of n.sound n.alone)) in
    let x : SFits w32 c.in_ok-given.given.value = search rules in
    (found ++ (c.in_ok-given.given.value ∷ []), rw s.1 (onward starts-values g n (sym (eval-knows 2 n.item K n.sound) ∙ s.0)), stored (λ v. v) _ 0 found _ u (omega (arith, g.count)) (rw (to_z-of_z {w = w32} x) at c.keep.ensures))

pub returns : goal.returns
unfolding Gathers
returns c ρ es K h =
    let (found, g, u) = c.loop-next.invariant ρ es K h in
    let f = finish starts-values g (sym c.among.ensures ∙ c.loop-next-test.false) in
    (found, sym (runs-evals ρ es) ∙ f.0, f.1, omega (arith, g.count), u)
