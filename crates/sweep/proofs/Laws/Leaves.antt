-- Laws of letters, and of finding a name. Assumes nothing.
use Rattle.std.specs.Prelude.{◌≡◌, refl, Bool, true, false, cond, ◌&&◌, List, [], ◌∷◌, map, ℕ, suc, ◌+◌, ◌-◌, ◌<◌, ◌≤◌, ◌%◌, min, eqb, get_or, take, drop, Option, Some, None}
use Rattle.std.specs.List.{position_or_len, AllWithin, HoldsAt}
use Rattle.std.specs.Option.{MatchOption, unwrap_or}
use Rattle.std.proofs.lemmas.Iterator.{index_from_first}
use Rattle.rules.specs.Primitives.{table, primitive, primitive_names}
use Rattle.std.proofs.Common.{sym, ap, ◌∙◌, drop_of_length-le, length-drop, take_all, arith}
use Rattle.std.proofs.Math.Decide.{dec_le}
use Rattle.std.proofs.Math.ListN.{length, get_or-map}
use Rattle.std.proofs.lemmas.List.{length-map}
use Rattle.std.proofs.lemmas.List.Recursion.{is_position_or_len}
use Rattle.std.proofs.lemmas.List.Sums.{position_or_len_is}
use Rattle.std.proofs.Math.Seq.{take-nil}
use lib.Pointwise.{pointwise}
use Rattle.rules.specs.Text.{pick, same, index_of}
use Rattle.tape.specs.Layout.{value_of}
use Rattle.sweep.specs.Spelling.{place_of, letters_of}
use Rattle.sweep.specs.Sweep.{Finds}

-- ---- letters

-- a part that is cut at the text's end
pub clipped : (s : List ℕ) (P N p e : ℕ) → p ≡ min P (length s) → e ≡ min (p + N) (length s) → take (e - p) (drop p s) ≡ take N (drop P s)
clipped s P N p e h k = go (dec_le P (length s)) (dec_le (P + N) (length s))
  where
    go : Dec (P ≤ length s) → Dec (P + N ≤ length s) → take (e - p) (drop p s) ≡ take N (drop P s)
    go (yes a) (yes b) = let f : p ≡ P = omega arith in let g : e - p ≡ N = omega arith in rw (g, f)
    go (yes a) (no b) =
        let f : p ≡ P = omega arith in
        let g : e - p ≡ length s - P = omega arith in
        rw (g, f) (take_all (length s - P) (drop P s) (simp length-drop (omega arith)) ∙ sym (take_all N (drop P s) (simp length-drop (omega arith))))
    go (no a) b =
        let f : length s ≤ p = omega arith in
        let g : length s ≤ P = omega arith in
        rw (drop_of_length-le s f, drop_of_length-le s g, take-nil (e - p), take-nil N)

pub letters-clipped : (s : List ℕ) (w q v p e : ℕ) → q ≡ place_of w → v ≡ value_of w → p ≡ min q (length s) → e ≡ min (p + v % 32) (length s) → take (e - p) (drop p s) ≡ letters_of s w
unfolding letters_of
letters-clipped s w q v p e a b h k = clipped s q (v % 32) p e h k ∙ rw (a, b)

-- ---- finding

-- what is found is one
pub finds-one : (l : List ℕ) (vs : List (List ℕ)) (a b : Option ℕ) → Finds l vs a → Finds l vs b → a ≡ b
finds-one l vs (Some j) (Some k) x y = ap Some (x.0 ∙ sym y.0)
finds-one l vs (Some j) None x y = absurd (omega (arith, x.0, x.1))
finds-one l vs None (Some k) x y = absurd (omega (arith, y.0, y.1))
finds-one l vs None None x y = refl

-- a spelling's number is at most how many there are, and is that where it is found nowhere
pub index-most : (l : List ℕ) (vs : List (List ℕ)) → index_of l vs ≤ length vs
unfolding index_of pick
index-most l [] = omega arith
index-most l (v ∷ vs) = go (same l v) (index-most l vs)
  where
    go : (b : Bool) → index_of l vs ≤ length vs → pick b 0 (suc (index_of l vs)) ≤ suc (length vs)
    go true e = omega arith
    go false e = omega arith

-- what is found says the spelling's number
pub finds-is : (l : List ℕ) (vs : List (List ℕ)) (r : Option ℕ) → Finds l vs r → index_of l vs ≡ unwrap_or r (length vs)
finds-is l vs (Some k) h = sym h.0
finds-is l vs None h = omega (arith, h, index-most l vs)

-- the library's test of bytes is the rules'
pub same-is : (l r : List ℕ) → pointwise eqb l r ≡ same l r
unfolding same
same-is [] [] = refl
same-is [] (b ∷ r) = refl
same-is (a ∷ l) [] = refl
same-is (a ∷ l) (b ∷ r) = ap (λ t. eqb a b && t) (same-is l r)

-- the library's searches among things, each spelled by f, find what the rules find
module _ {A : Type 0} (f : A → List ℕ) (l : List ℕ) where
  pub placed : (ws : List A) → index_of l (map f ws) ≡ position_or_len (λ w. pointwise eqb l (f w)) ws
  unfolding index_of pick
  placed = is_position_or_len (λ ws. index_of l (map f ws)) (λ w. pointwise eqb l (f w)) refl (λ w ws. rw (same-is l (f w)) (go (same l (f w)) (index_of l (map f ws))))
    where
      go : (b : Bool) (n : ℕ) → pick b 0 (suc n) ≡ cond b 0 (1 + n)
      go true n = refl
      go false n = omega arith

-- the same, from what std says of a search over the elements of a slice, or over the first numbers
module _ {A : Type 0} (f : A → List ℕ) (l : List ℕ) where
  pub finds-first : (ws : List A) (r : Option ℕ) → MatchOption r (AllWithin (λ w. pointwise eqb l (f w) ≡ false) ws 0 (length ws)) (λ i. (i < length ws) × HoldsAt (λ w. pointwise eqb l (f w) ≡ true) ws i × AllWithin (λ w. pointwise eqb l (f w) ≡ false) ws 0 i) → Finds l (map f ws) r
  unfolding index_of pick
  finds-first ws r h = go r h (index_from_first (λ ws. index_of l (map f ws)) (λ w. pointwise eqb l (f w) ≡ true) (λ w. pointwise eqb l (f w) ≡ false) refl (λ w ws e. rw (sym (same-is l (f w)) ∙ e)) (λ w ws e. rw (sym (same-is l (f w)) ∙ e) (omega arith)) ws r h)
    where
      go : (r : Option ℕ) → MatchOption r (AllWithin (λ w. pointwise eqb l (f w) ≡ false) ws 0 (length ws)) (λ i. (i < length ws) × HoldsAt (λ w. pointwise eqb l (f w) ≡ true) ws i × AllWithin (λ w. pointwise eqb l (f w) ≡ false) ws 0 i) → index_of l (map f ws) ≡ unwrap_or r (length ws) → Finds l (map f ws) r
      go (Some k) h e = (sym e, omega (arith, h.0, length-map ws f))
      go None h e = omega (arith, length-map ws f)

named : (k : ℕ) → get_or primitive_names k [] ≡ (primitive k).name
unfolding primitive
named k = get_or-map (λ p. p.name) table k _

pub finds-gate : (l : List ℕ) (r : Option ℕ) → MatchOption r ((k : ℕ) → 0 ≤ k → k < 10 → pointwise eqb l (primitive k).name ≡ false) (λ i. (0 ≤ i) × (i < 10) × (pointwise eqb l (primitive i).name ≡ true) × ((k : ℕ) → 0 ≤ k → k < i → pointwise eqb l (primitive k).name ≡ false)) → Finds l primitive_names r
finds-gate l (Some i) h = (sym (position_or_len_is (λ v. pointwise eqb l v) primitive_names i [] (omega (arith, h.1)) (λ k t. rw (named k) (h.3 k (omega arith) t)) (λ z. rw (named i) h.2)) ∙ sym (placed (λ v. v) l primitive_names), h.1)
finds-gate l None h = omega (arith, position_or_len_is (λ v. pointwise eqb l v) primitive_names 10 [] (omega arith) (λ k t. rw (named k) (h k (omega arith) t)) (λ z. absurd (omega arith)), placed (λ v. v) l primitive_names)
