use Rattle.std.proofs.Common.{◌≡◌, ℕ, List, [], ◌∷◌, length}
use Rattle.rules.specs.Text.{bytes}
use Rattle.rules.specs.Netlist.{WellFormed, gates}
use Rattle.rules.specs.Flat.{gates_text}
use Rattle.read.specs.Ahead.{Ahead}
use Rattle.read.specs.Body.{Got}
use Rattle.read.proofs.put_gates.Given as goal

-- the first i gates are read
abbrev pub Far : List ℕ → List ℕ → List ℕ → ℕ → List ℕ → Type 0
Far t v₀ u i v = (w : List ℕ) → WellFormed w → Ahead t (gates_text w 0 (gates w) ∷ bytes "END;\n" ∷ []) → Got u w v₀ i v

abbrev pub invariant-loop-i : goal.invariant-loop-i
invariant-loop-i l = (length l.net ≡ length l.initial.net) × Far l.initial.reader.rest.now l.initial.net l.reader.rest.now l.i l.net
