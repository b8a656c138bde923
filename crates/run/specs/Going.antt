-- How a run is found: what a slot shows, a visit of a gate, a sweep over all gates, and what holds all along. Assumes nothing.
use Rattle.std.specs.Prelude.{◌≡◌, Bool, true, false, cond, List, [], ◌∷◌, map, ℕ, ◌+◌, ◌≤◌, ◌<◌, get_or, length, set, eqb}
use Rattle.rules.specs.Netlist.{inputs, wires, gate_at, inputs_at}
use Rattle.rules.specs.Meaning.{Signal, makes}
use Rattle.rules.specs.Run.{Known, to_byte, from_byte}

-- slot k, which holds x, of a gate with n inputs shows r
abbrev pub Pin : List ℕ → ℕ → ℕ → ℕ → ℕ → Type 0
Pin v n k x r = (k < n → r ≡ get_or v x 0) × (n ≤ k → r ≡ 0)

-- all of these wires are settled
pub data Ready (v : List ℕ) : List ℕ → Type 0 where
  none : Ready v []
  more : {i : ℕ} {is : List ℕ} → (get_or v i 0 ≡ 2 → ⊥) → Ready v is → Ready v (i ∷ is)

-- one of these wires is not
pub data Wants (v : List ℕ) : List ℕ → Type 0 where
  here : {i : ℕ} {is : List ℕ} → get_or v i 0 ≡ 2 → Wants v (i ∷ is)
  later : {i : ℕ} {is : List ℕ} → Wants v is → Wants v (i ∷ is)

-- the bits on these wires
unfoldable pub bits_at : List ℕ → List ℕ → List Signal
bits_at v [] = []
bits_at v (i ∷ is) = from_byte (get_or v i 0) ∷ bits_at v is

-- gate j adds nothing
pub data Still (w v : List ℕ) (j : ℕ) : Type 0 where
  has : (get_or v (gate_at w j).out 0 ≡ 2 → ⊥) → Still w v j
  wants : Wants v (inputs_at (gate_at w j)) → Still w v j

-- a visit of gate j: whether it settled its output, and the values after it
pub data Visit (w v : List ℕ) (j : ℕ) : Bool → List ℕ → Type 0 where
  settles : get_or v (gate_at w j).out 0 ≡ 2 → Ready v (inputs_at (gate_at w j))
      → Visit w v j true (set v (gate_at w j).out (to_byte (makes (gate_at w j).kind (bits_at v (inputs_at (gate_at w j))))))
  stays : Still w v j → Visit w v j false v

-- how many bytes are 2
unfoldable pub twos : List ℕ → ℕ
twos [] = 0
twos (x ∷ v) = cond (eqb x 2) 1 0 + twos v

-- visits of the first n gates: nothing changed and each is still, or there are fewer 2s
pub data Sweep (w v₀ : List ℕ) (n : ℕ) : Bool → List ℕ → Type 0 where
  same : ((j : ℕ) → j < n → Still w v₀ j) → Sweep w v₀ n false v₀
  fewer : {v : List ℕ} → twos v < twos v₀ → Sweep w v₀ n true v

-- what holds of the values all along
pub record Going (w ins v : List ℕ) : Type 0 where
  pub input : (i : ℕ) → i < inputs w → get_or v i 0 ≡ get_or ins i 0
  pub bit : (i : ℕ) → i < wires w → (get_or v i 0 ≡ 2 → ⊥) → get_or v i 0 < 2
  pub sound : (i : ℕ) → i < wires w → (get_or v i 0 ≡ 2 → ⊥) → Known w (map from_byte ins) i (from_byte (get_or v i 0))
  pub rest : (i : ℕ) → wires w ≤ i → get_or v i 0 ≡ 0

-- the value that wire i starts with
pub data First (ins : List ℕ) (i : ℕ) : ℕ → Type 0 where
  input : i < length ins → First ins i (get_or ins i 0)
  other : length ins ≤ i → First ins i 2
