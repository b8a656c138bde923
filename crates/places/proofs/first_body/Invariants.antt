use Prim.Native.Nat.{ℕ, ◌≤◌}
use Rattle.places.specs.Bodies.{FirstBody}
use Rattle.places.proofs.first_body.Given as goal

abbrev pub invariant-loop-i : goal.invariant-loop-i
invariant-loop-i l = (body : ℕ) → FirstBody l.tape l.at body → (l.at ≤ l.i) × (l.i ≤ body)
