-- The promise of `well_formed`: it decides exactly when words are a well-formed netlist. Assumes nothing.
use Rattle.std.specs.Prelude.{◌≡◌, Bool, List, ℕ}
use Rattle.rules.specs.Netlist.{WellFormed}
use Rattle.netlist.specs.Decides.{Decides, decides-one}

abbrev pub Judged : List ℕ → Bool → Type 0
Judged words answer = Decides (WellFormed words) answer

pub well-formed-one : {words : List ℕ} {a b : Bool} → Judged words a → Judged words b → a ≡ b
well-formed-one = decides-one
