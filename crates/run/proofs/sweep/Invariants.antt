use Prim.Native.Nat.{ℕ}
use Rattle.rules.specs.Run.{Inputs}
use Rattle.run.specs.Going.{Going, Sweep}
use lib.ListN.{length}
use mathlib.Core.Bool.{Bool}
use mathlib.Core.List.{List}
use mathlib.Core.Path.{◌≡◌}
use Rattle.run.proofs.sweep.Given as goal

-- what is true of the values after the first n visits
abbrev pub Far : List ℕ → List ℕ → ℕ → Bool → List ℕ → Type 0
Far w v₀ n c v = (ins : List ℕ) → Inputs w ins → Going w ins v₀ → Going w ins v × Sweep w v₀ n c v

abbrev pub invariant-loop-i : goal.invariant-loop-i
invariant-loop-i l = (length l.values ≡ length l.initial.values) × Far l.net.words.now l.initial.values l.i l.changed l.values
