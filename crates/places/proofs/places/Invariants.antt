use Prim.Native.Nat.{ℕ}
use mathlib.Core.List.{List}
use Rattle.rules.specs.Syntax.{Program}
use Rattle.places.specs.Held.{Held}
use Rattle.places.specs.Starts.{Finding}
use Rattle.places.proofs.places.Given as goal

abbrev pub invariant-loop-k : goal.invariant-loop-k
invariant-loop-k l = (s : List ℕ) (P : Program) → Held s l.tape l.end P → Finding s l.tape l.end P l.initial.into l.into l.at l.k
