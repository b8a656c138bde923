-- The promise of `write`. Assumes nothing.
use Rattle.std.specs.Prelude.{◌≡◌, refl, List, ◌++◌, ℕ, ◌-◌, ◌≤◌, ◌<◌, length}
use Rattle.std.proofs.Common.{arith}
use Rattle.rules.specs.Netlist.{WellFormed}
use Rattle.rules.specs.Flat.{flat_text}
use Rattle.clear.specs.Zeros.{zeros}
use Rattle.netlist.specs.Answers.{Told, done, refused}

-- what writing `net` tells and leaves in a text that was lent with `len` bytes; order: 1, 19
pub data Wrote (net : List ℕ) (len : ℕ) : Told → List ℕ → Type 0 where
  short-text : len < 65536 → Wrote net len (refused 1) (zeros len)
  bad-netlist : 65536 ≤ len → (WellFormed net → ⊥) → Wrote net len (refused 19) (zeros len)
  wrote : 65536 ≤ len → WellFormed net → Wrote net len (done (length (flat_text net))) (flat_text net ++ zeros (len - length (flat_text net)))

-- two outcomes that are permitted for one input are equal
pub wrote_one : {net : List ℕ} {len : ℕ} {t t' : Told} {u v : List ℕ} → Wrote net len t u → Wrote net len t' v → (t ≡ t') × (u ≡ v)
wrote_one (short-text h) (short-text g) = (refl, refl)
wrote_one (short-text h) (bad-netlist g x) = absurd (omega arith)
wrote_one (short-text h) (wrote g x) = absurd (omega arith)
wrote_one (bad-netlist h x) (short-text g) = absurd (omega arith)
wrote_one (bad-netlist h x) (bad-netlist g y) = (refl, refl)
wrote_one (bad-netlist h x) (wrote g y) = absurd (x y)
wrote_one (wrote h x) (short-text g) = absurd (omega arith)
wrote_one (wrote h x) (bad-netlist g y) = absurd (y x)
wrote_one (wrote h x) (wrote g y) = (refl, refl)
