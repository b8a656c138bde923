use Prim.Native.Nat.{ℕ, ◌-◌}
use Rattle.frames.specs.Laid.{laid}
use Rattle.frames.specs.Lists.{value_w, HereValues}
use Rattle.frames.specs.Runs.{Going}
use Rattle.frames.specs.Stands.{Knows}
use Rattle.rules.specs.Syntax.{Exp}
use Rattle.rules.specs.Values.{Env, eval}
use Rattle.values.specs.Factors.{Grouped}
use lib.IntN.{ℤ}
use mathlib.Core.List.{List, map}
use mathlib.Core.Path.{◌≡◌}
use Rattle.frames.proofs.evaluate.Given as goal

abbrev pub invariant-loop-next : goal.invariant-loop-next
invariant-loop-next l =
    (ρ : Env) (es : List (Exp ℕ)) → Knows l.values ρ → HereValues l.tape l.at l.end es → (found : List ℤ) × Going (eval ρ) value_w (Grouped 2) l.tape l.at l.end 0 2 es l.next l.filled found × (l.into ≡ laid l.initial.into 0 (map (λ v. v) found))

abbrev pub decreases-loop-next : goal.decreases-loop-next
decreases-loop-next l = l.end - l.next
