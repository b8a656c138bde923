-- 01, "Unfolding": the words of a netlist, and when they are well formed. Assumes nothing.
use Rattle.std.specs.Prelude.{◌≡◌, List, [], ◌∷◌, ℕ, ◌+◌, ◌*◌, ◌≤◌, ◌<◌, length, get_or, take}
use Rattle.rules.specs.Primitives.{inputs_of}
use Rattle.rules.specs.declared.Gate.{Gate}

-- "a table of contents of four words (inputs, outputs, wires, gates)"
abbrev pub inputs : List ℕ → ℕ
inputs w = get_or w 0 0

abbrev pub outputs : List ℕ → ℕ
outputs w = get_or w 1 0

abbrev pub wires : List ℕ → ℕ
wires w = get_or w 2 0

abbrev pub gates : List ℕ → ℕ
gates w = get_or w 3 0

-- "then five words per gate: kind, three inputs, output"
abbrev pub gate_at : List ℕ → ℕ → Gate
gate_at w i = record {
  kind = get_or w (4 + 5 * i) 0;
  a = get_or w (4 + 5 * i + 1) 0;
  b = get_or w (4 + 5 * i + 2) 0;
  c = get_or w (4 + 5 * i + 3) 0;
  out = get_or w (4 + 5 * i + 4) 0;
}

-- "an unused input slot is 65,535"
abbrev pub unused : ℕ
unused = 65535

abbrev pub slots : Gate → List ℕ
slots g = g.a ∷ g.b ∷ g.c ∷ []

-- "the kind's input slots (the first ones)"
abbrev pub inputs_at : Gate → List ℕ
inputs_at g = take (inputs_of g.kind) (slots g)

-- slot k, which holds x, of a gate with n inputs
abbrev pub Slot : ℕ → ℕ → ℕ → ℕ → Type 0
Slot n ws k x = (k < n → x < ws) × (n ≤ k → x ≡ unused)

-- a gate of a netlist with so many wires and inputs
pub record Fine (ws ins : ℕ) (g : Gate) : Type 0 where
  pub kind : g.kind ≤ 9
  pub a : Slot (inputs_of g.kind) ws 0 g.a
  pub b : Slot (inputs_of g.kind) ws 1 g.b
  pub c : Slot (inputs_of g.kind) ws 2 g.c
  pub out : g.out < ws
  -- "no main input is a gate's output"
  pub free : ins ≤ g.out

pub record WellFormed (w : List ℕ) : Type 0 where
  pub contents : 4 ≤ length w
  pub ports : inputs w + outputs w ≤ wires w
  pub few-wires : wires w ≤ 1536
  pub few-gates : gates w ≤ 1024
  pub records : 4 + 5 * gates w ≤ length w
  pub fine : (i : ℕ) → i < gates w → Fine (wires w) (inputs w) (gate_at w i)
  -- "no wire is the output of two gates"
  pub once : (i j : ℕ) → i < j → j < gates w → (gate_at w i).out ≡ (gate_at w j).out → ⊥

-- the words that count: "words after its records are ignored"
unfoldable pub records : List ℕ → List ℕ
records w = take (4 + 5 * gates w) w

-- ---- a netlist as it is made

unfoldable pub gate_words : List Gate → List ℕ
gate_words [] = []
gate_words (g ∷ gs) = g.kind ∷ g.a ∷ g.b ∷ g.c ∷ g.out ∷ gate_words gs

-- inputs, outputs, wires, and the gates in order
unfoldable pub net_words : ℕ → ℕ → ℕ → List Gate → List ℕ
net_words i o w gs = i ∷ o ∷ w ∷ length gs ∷ gate_words gs
