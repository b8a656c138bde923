-- The promises of `calls` and `written_as`. Assumes nothing.
use Rattle.std.specs.Prelude.{◌≡◌, Bool, List, ℕ}
use Rattle.rules.specs.Netlist.{WellFormed}
use Rattle.rules.specs.Text.{joined}
use Rattle.rules.specs.Flat.{flat_text}
use Rattle.netlist.specs.Decides.{Decides, decides-one}
use Rattle.compare.specs.Match.{Starts}
use Rattle.write.specs.Pieces.{call_of}

-- whether a call of the kind stands at the place
abbrev pub Calls : List ℕ → ℕ → ℕ → Bool → Type 0
Calls text at kind answer = Decides (Starts text at (joined (call_of kind))) answer

pub calls-one : (text : List ℕ) (at kind : ℕ) {a b : Bool} → Calls text at kind a → Calls text at kind b → a ≡ b
calls-one text at kind = decides-one

-- whether the words are a well-formed netlist that is written as the text
abbrev pub WrittenAs : List ℕ → List ℕ → Bool → Type 0
WrittenAs net text answer = Decides (WellFormed net × (text ≡ flat_text net)) answer

pub written_one : (net text : List ℕ) {a b : Bool} → WrittenAs net text a → WrittenAs net text b → a ≡ b
written_one net text = decides-one
