-- Bytes of quoted texts, pieces of texts, and finding a spelling in a list. Assumes nothing.
use Rattle.std.specs.Prelude.{ℕ, suc, Bool, true, false, ◌&&◌, List, [], ◌∷◌, ◌++◌, length, replicate, ltb, eqb}
use Prim.Native.Char.{code}
use Prim.Native.String.{String, [] as empty, ◌∷◌ as ◌before◌}

-- a quoted text as bytes
abbrev pub bytes : String → List ℕ
bytes empty = []
bytes (c before t) = code c ∷ bytes t

-- the first if the test holds, else the second; shut, unlike the library's `cond`, so that a law can name what is picked
unfoldable pub pick {ℓ} : {A : Type ℓ} → Bool → A → A → A
pick true a b = a
pick false a b = b

-- pieces, one after the other
unfoldable pub joined : {A : Type 0} → List (List A) → List A
joined [] = []
joined (p ∷ ps) = p ++ joined ps

abbrev pub zeros : ℕ → List ℕ
zeros n = replicate n 0

-- the same bytes
unfoldable pub same : List ℕ → List ℕ → Bool
same [] [] = true
same [] (b ∷ r) = false
same (a ∷ l) [] = false
same (a ∷ l) (b ∷ r) = eqb a b && same l r

-- the number of the first spelling in a list that is the same, counted from 0; their count if there is none
unfoldable pub index_of : List ℕ → List (List ℕ) → ℕ
index_of w [] = 0
index_of w (v ∷ vs) = pick (same w v) 0 (suc (index_of w vs))

abbrev pub is_in : List ℕ → List (List ℕ) → Bool
is_in w vs = ltb (index_of w vs) (length vs)
