-- Lists that differ at their first number. Assumes nothing.
use Rattle.std.specs.Prelude.{◌≡◌, ℕ, ◌<◌, false, List, [], ◌∷◌, length, get_or, eqb}
use Rattle.std.proofs.Common.{arith}
use Rattle.std.proofs.lemmas.Bool.{ne_eqb}
use Rattle.std.specs.Cmp.Lexicographic.{pointwise}

pub first_differs : (l r : List ℕ) → 0 < length l → 0 < length r → (get_or l 0 0 ≡ get_or r 0 0 → ⊥) → pointwise eqb l r ≡ false
first_differs [] r h g n = absurd (omega arith)
first_differs (a ∷ l) [] h g n = absurd (omega arith)
first_differs (a ∷ l) (b ∷ r) h g n = rw (ne_eqb a b n)
