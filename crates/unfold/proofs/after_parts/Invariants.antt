use Prim.Native.Nat.{ℕ}
use Rattle.unfold.specs.Quiet.{Calm, Ahead}
use mathlib.Core.List.{List}
use Rattle.unfold.proofs.after_parts.Given as goal

abbrev pub invariant-loop-i : goal.invariant-loop-i
invariant-loop-i l = (ws : List ℕ) → Calm l.tape l.at l.end ws → Ahead l.tape l.at l.end ws l.i
