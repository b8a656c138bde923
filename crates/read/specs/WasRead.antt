-- The promise of `read`. Assumes nothing.
use Rattle.std.specs.Prelude.{◌≡◌, refl, List, ◌++◌, ℕ, ◌-◌, ◌≤◌, ◌<◌, length}
use Rattle.std.proofs.Common.{sym, ap, ◌∙◌, arith}
use Rattle.rules.specs.Netlist.{WellFormed, records}
use Rattle.rules.specs.Flat.{flat_text}
use Rattle.rules.proofs.Laws.FlatOne.{flat-one}
use Rattle.clear.specs.Zeros.{zeros}
use Rattle.netlist.specs.Answers.{Told, done, refused}

-- what reading `text` tells and leaves in words that were lent with `len` words; order: 1, 19
pub data WasRead (text : List ℕ) (len : ℕ) : Told → List ℕ → Type 0 where
  short-netlist : len < 5124 → WasRead text len (refused 1) (zeros len)
  no-netlist : 5124 ≤ len → ((net : List ℕ) → WellFormed net → text ≡ flat_text net → ⊥) → WasRead text len (refused 19) (zeros len)
  was_read : (net : List ℕ) → 5124 ≤ len → WellFormed net → text ≡ flat_text net → WasRead text len (done 0) (records net ++ zeros (len - length (records net)))

-- two outcomes that are permitted for one input are equal
pub read_one : {text : List ℕ} {len : ℕ} {t t' : Told} {u v : List ℕ} → WasRead text len t u → WasRead text len t' v → (t ≡ t') × (u ≡ v)
read_one (short-netlist h) (short-netlist g) = (refl, refl)
read_one (short-netlist h) (no-netlist g x) = absurd (omega arith)
read_one (short-netlist h) (was_read w g x e) = absurd (omega arith)
read_one (no-netlist h x) (short-netlist g) = absurd (omega arith)
read_one (no-netlist h x) (no-netlist g y) = (refl, refl)
read_one (no-netlist h x) (was_read w g y e) = absurd (x w y e)
read_one (was_read w h x e) (short-netlist g) = absurd (omega arith)
read_one (was_read w h x e) (no-netlist g y) = absurd (y w x e)
read_one {text} {len} (was_read w h x e) (was_read v g y f) =
    (refl, ap (λ (r : List ℕ). r ++ zeros (len - length r)) (flat-one w v x y (sym e ∙ f)))
