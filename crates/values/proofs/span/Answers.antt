use Rattle.std.proofs.Common.{◌≡◌, ap, ◌∙◌, rules, arith, Err, Some, None, SFits, w32, to_z-of_z}
use Rattle.rules.specs.declared.Reason.TheVariants.{OutOfRange}
use Rattle.values.specs.Loops.{not-turned, turned, count_of}
use Rattle.values.proofs.span.Goals as goal

pub returns-in_err-first : goal.returns-in_err-first
returns-in_err-first c a b h =
    let e : c.from_residual.result ≡ Err OutOfRange = grind arith in
    let n : c.both_bounds.result ≡ None = grind arith in
    rw e (not-turned _ a b _ (rw n at (c.both_bounds.ensures a b h)))

pub returns : goal.returns
unfolding count_of
returns c a b h =
    let n : c.both_bounds.result ≡ Some c.in_ok-first.field-0 = grind arith in
    let x : SFits w32 c.in_ok-first.field-0.first = search rules in
    let y : SFits w32 c.in_ok-first.field-0.last = search rules in
    let k : c.map_or-count.result ≡ count_of c.above.result = search rules in
    let d = rw (to_z-of_z {w = w32} x, to_z-of_z {w = w32} y) at c.above.ensures.apart in
    rw (to_z-of_z {w = w32} x) (turned _ a b _ _ c.map_or-count.result (rw n at (c.both_bounds.ensures a b h)) (k ∙ ap count_of d))
