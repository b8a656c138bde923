-- The rules' words of lists of bytes, by those of the library. Assumes nothing.
use Rattle.std.specs.Prelude.{◌≡◌, refl, Some, None, ℕ, suc, ◌+◌, ◌<◌, Bool, true, false, not, cond, ◌||◌, List, [], ◌∷◌, map, length, get_or, T, eqb}
use Rattle.std.proofs.Common.{sym, ap, subst, arith}
use Rattle.std.specs.List.{prefix_len, list_all, position_or_len}
use Rattle.std.specs.Cmp.Lexicographic.{pointwise}
use denote.Ref.{Bor}
use Rattle.rules.specs.Text.{pick, same, index_of, is_in}
use Rattle.rules.specs.Words.{run, all}
use Rattle.rules.proofs.Laws.Outcomes.{both_yes}
use Rattle.words.specs.Found.{place}

one-more : (t : Bool) (m n : ℕ) → m ≡ n → pick t (suc m) 0 ≡ cond t (1 + n) 0
unfolding pick
one-more true m n e = omega arith
one-more false m n e = refl

pub run_is : (p : ℕ → Bool) (l : List ℕ) → run p l ≡ prefix_len p l
unfolding run
run_is p [] = refl
run_is p (b ∷ r) = one-more (p b) (run p r) (prefix_len p r) (run_is p r)

pub all_is : (p : ℕ → Bool) (l : List ℕ) → all p l ≡ list_all p l
unfolding all
all_is p [] = refl
all_is p (b ∷ r) = rw (all_is p r)

same_is : (l r : List ℕ) → same l r ≡ pointwise eqb l r
unfolding same
same_is [] [] = refl
same_is [] (b ∷ r) = refl
same_is (a ∷ l) [] = refl
same_is (a ∷ l) (b ∷ r) = rw (same_is l r)

one-on : (t u : Bool) (m n : ℕ) → t ≡ u → m ≡ n → pick t 0 (suc m) ≡ cond (not u) (1 + n) 0
unfolding pick
one-on true true m n e f = refl
one-on true false m n e f = cc
one-on false true m n e f = cc
one-on false false m n e f = omega arith

-- the letters behind references
abbrev pub spellings : List (Bor (List ℕ)) → List (List ℕ)
spellings vs = map (λ v. v.now) vs

index_is : (w : List ℕ) (vs : List (Bor (List ℕ))) → index_of w (spellings vs) ≡ position_or_len (λ v. pointwise eqb w v.now) vs
unfolding index_of
index_is w [] = refl
index_is w (v ∷ vs) = one-on (same w v.now) (pointwise eqb w v.now) _ _ (same_is w v.now) (index_is w vs)

as_many : (vs : List (Bor (List ℕ))) → length (spellings vs) ≡ length vs
as_many [] = refl
as_many (v ∷ vs) = omega (arith, as_many vs)

picked : {A : Type 0} (t : Bool) (x y : A) → pick t x y ≡ cond t x y
unfolding pick
picked true x y = refl
picked false x y = refl

pub place_is : (w : List ℕ) (vs : List (Bor (List ℕ))) → place w vs ≡ pick (is_in w (spellings vs)) (Some (index_of w (spellings vs))) None
unfolding place
place_is w vs = rw (picked (is_in w (spellings vs)) (Some (index_of w (spellings vs))) None, index_is w vs, as_many vs)

-- ---- a word that is found has the length of what it is found as

pub either : {X : Type 0} (a b : Bool) → T (a || b) → (T a → X) → (T b → X) → X
either true b t f g = f tt
either false b t f g = g t

same_length : (l r : List ℕ) → T (same l r) → length l ≡ length r
unfolding same
same_length [] [] t = refl
same_length [] (b ∷ r) t = absurd t
same_length (a ∷ l) [] t = absurd t
same_length (a ∷ l) (b ∷ r) t = ap suc (same_length l r (both_yes (eqb a b) (same l r) t).1)

at_first : (w v : List ℕ) (t : Bool) (k n : ℕ) (ls : List ℕ) (d : ℕ) → same w v ≡ t → (k < n → length w ≡ get_or ls k d) → pick t 0 (suc k) < suc n → length w ≡ get_or (length v ∷ ls) (pick t 0 (suc k)) d
unfolding pick
at_first w v true k n ls d e f h = same_length w v (subst T (sym e) tt)
at_first w v false k n ls d e f h = f (omega arith)

pub found-length : (w : List ℕ) (vs : List (List ℕ)) (d : ℕ) → index_of w vs < length vs → length w ≡ get_or (map length vs) (index_of w vs) d
unfolding index_of
found-length w [] d h = absurd (omega arith)
found-length w (v ∷ vs) d h = at_first w v (same w v) (index_of w vs) (length vs) (map length vs) d refl (found-length w vs d) h
