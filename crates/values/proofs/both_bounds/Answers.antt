use Rattle.std.proofs.Common.{rules, SFits, w32, to_z-of_z}
use Rattle.values.specs.Pairs.{second-here, no-first, no-second, two-said}
use Rattle.values.proofs.both_bounds.Goals as goal

pub returns-in_err-first : goal.returns-in_err-first
returns-in_err-first c a b h = rw c.from_residual.ensures (no-first _ a b _ _ (rw c.in_err-first.was at (c.eval.ensures a h.first)))

pub eval-requires-2 : goal.eval-requires-2
eval-requires-2 c =
    let h = c.requires.here in
    record { exp = c.requires.right; here = second-here _ _ h (rw c.in_ok-first.was at (c.eval.ensures _ h.first)) }

pub returns-in_err-last : goal.returns-in_err-last
returns-in_err-last c a b h =
    let s = rw c.in_ok-first.was at (c.eval.ensures a h.first) in
    rw c.from_residual-in_err-last.ensures (no-second _ a b _ _ _ s (rw c.in_err-last.was at (c.eval-2.ensures b (second-here _ _ h s))))

pub returns : goal.returns
returns c a b h =
    let s = rw c.in_ok-first.was at (c.eval.ensures a h.first) in
    let x : SFits w32 c.in_ok-first.first.value = search rules in
    let y : SFits w32 c.in_ok-last.last.value = search rules in
    rw (to_z-of_z {w = w32} x, to_z-of_z {w = w32} y) (two-said _ a b _ _ _ _ s (rw c.in_ok-last.was at (c.eval-2.ensures b (second-here _ _ h s))))
