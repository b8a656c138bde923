-- The promise of `run`. Assumes nothing.
use Rattle.std.specs.Prelude.{◌≡◌, List, ℕ, ◌≤◌, ◌<◌, length}
use Rattle.rules.specs.Netlist.{WellFormed}
use Rattle.rules.specs.Run.{Inputs, Shows}
use Rattle.clear.specs.Zeros.{zeros}
use Rattle.netlist.specs.Answers.{Told, done, refused}

-- what a run of `net` on `ins` tells and leaves in values that were lent with `len` bytes; order: 1, 19, 20
pub data Ran (net ins : List ℕ) (len : ℕ) : Told → List ℕ → Type 0 where
  short-values : len < 1536 → Ran net ins len (refused 1) (zeros len)
  bad-netlist : 1536 ≤ len → (WellFormed net → ⊥) → Ran net ins len (refused 19) (zeros len)
  wrong-inputs : 1536 ≤ len → WellFormed net → (Inputs net ins → ⊥) → Ran net ins len (refused 20) (zeros len)
  ran : {values : List ℕ} → 1536 ≤ len → WellFormed net → Inputs net ins → length values ≡ len → Shows net ins values → Ran net ins len (done 0) values
