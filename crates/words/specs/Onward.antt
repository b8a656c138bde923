-- What a reader knows of a word by its places alone. Assumes nothing.
use Rattle.std.specs.Prelude.{ℕ, ◌+◌, ◌-◌, ◌≤◌, ◌<◌, ◌≡◌, cond, List, [], ◌∷◌, get_or, eqb}
use Rattle.rules.specs.declared.Word.{Word}
use Rattle.rules.specs.declared.Word.TheVariants.{Bad, Name, Number, Mark}

-- the bytes of the end and of the reserved words, by their numbers
abbrev pub widths : List ℕ
widths = 0 ∷ 5 ∷ 3 ∷ 5 ∷ 3 ∷ 8 ∷ 3 ∷ 2 ∷ 4 ∷ 4 ∷ 6 ∷ 2 ∷ 3 ∷ 6 ∷ 5 ∷ []

-- how many bytes a mark takes: `..` takes two, and any other mark one
unfoldable pub width : ℕ → ℕ
width k = cond (eqb k 46) 2 (get_or widths k 1)

-- The word from p to before q stands in a text of length len, at or after the place at. Where at is past the text, the end stands
-- before it, at len: `at - len` is by how much, and is 0 for any other place.
abbrev pub Onward : ℕ → ℕ → Word → Type 0
Onward len at (Bad p) = (at ≤ p) × (p < len)
Onward len at (Name p q) = (at ≤ p) × (p < q) × (q ≤ len) × (q ≤ p + 16)
Onward len at (Number p q v) = (at ≤ p) × (p < q) × (q ≤ len) × (q ≤ p + 6) × (v < 1000000)
Onward len at (Mark k p q) = (at ≤ p + (at - len)) × (q ≡ p + width k) × (q ≤ len) × (k < 94) × (k ≡ 0 → p ≡ len)

-- the bytes of a mark whose number is known: the right side computes
pub wide : {k : ℕ} (n : ℕ) → k ≡ n → width k ≡ cond (eqb n 46) 2 (get_or widths n 1)
unfolding width
wide n e = rw e
