-- 01, "Meaning": what a run of a netlist shows. Assumes nothing.
use Rattle.std.specs.Prelude.{◌≡◌, ℕ, ◌≤◌, ◌<◌, cond, List, [], ◌∷◌, map, length, get_or, eqb}
use Rattle.rules.specs.Netlist.{inputs, wires, gates, gate_at, inputs_at}
use Rattle.rules.specs.Meaning.{Signal, dark, makes}

-- "A run starts with inputs known, the others unsettled; a gate whose inputs are all known makes its output known"
mutual
  pub data Known (net : List ℕ) (ins : List Signal) : ℕ → Signal → Type 0 where
    given : {i : ℕ} {b : Signal} → i < inputs net → get_or ins i dark ≡ b → Known net ins i b
    made : {i : ℕ} {b : Signal} {bs : List Signal} (j : ℕ) → j < gates net → (gate_at net j).out ≡ i
        → AllKnown net ins (inputs_at (gate_at net j)) bs → makes (gate_at net j).kind bs ≡ b → Known net ins i b

  pub data AllKnown (net : List ℕ) (ins : List Signal) : List ℕ → List Signal → Type 0 where
    none : AllKnown net ins [] []
    more : {i : ℕ} {b : Signal} {is : List ℕ} {bs : List Signal} → Known net ins i b → AllKnown net ins is bs → AllKnown net ins (i ∷ is) (b ∷ bs)

-- ---- bytes: 0 and 1 for bits, 2 for unsettled

unfoldable pub to_byte : Signal → ℕ
unfolding Signal
to_byte b = cond b 1 0

unfoldable pub from_byte : ℕ → Signal
unfolding Signal
from_byte x = eqb x 1

-- "one byte (0 or 1) per main input" (20)
pub record Inputs (net bytes : List ℕ) : Type 0 where
  pub count : length bytes ≡ inputs net
  pub bits : (i : ℕ) → i < length bytes → get_or bytes i 0 < 2

-- "the answer is what is known when nothing more can be added": the byte of wire i
pub data Shown (net ins : List ℕ) (i : ℕ) : ℕ → Type 0 where
  settled : {b : Signal} → Known net (map from_byte ins) i b → Shown net ins i (to_byte b)
  unsettled : ((b : Signal) → Known net (map from_byte ins) i b → ⊥) → Shown net ins i 2

-- the values of a run: one for each wire, the rest of the buffer zero
pub record Shows (net ins values : List ℕ) : Type 0 where
  pub each : (i : ℕ) → i < wires net → Shown net ins i (get_or values i 0)
  pub rest : (i : ℕ) → wires net ≤ i → get_or values i 0 ≡ 0
