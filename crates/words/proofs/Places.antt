-- Where the word at a place stands, from the definition of a word alone. Assumes nothing.
use mathlib.Core.Path.{◌≡◌, refl, sym, subst}
use mathlib.Core.Bool.{◌&&◌, ◌||◌}
use mathlib.Core.List.{List, [], ◌∷◌, map}
use Prim.Native.Nat.{ℕ, zero, suc, ◌+◌, ◌-◌, ◌*◌, ◌<◌, ◌≤◌}
use native.Mathlib.Omega.{arith}
use native.Mathlib.Decide.{dec_lt}
use lib.Dec.{T, leb, eqb, ltb→lt, leb→le, eqb→eq}
use lib.ListN.{length, get_or, take, drop, length-take, length-drop, get_or-eq_default}
use lib.Seq.{drop-cons}
use borrow.Author.Tests.{ne_eqb}
use Rattle.rules.specs.Text.{bytes}
use Rattle.rules.specs.Words.{is_separator, is_digit, is_letter, is_mark, in_word, reserved, run, all, value_of, spelled, begun, word_at}
use Rattle.rules.specs.declared.Word.{Word}
use Rattle.rules.specs.declared.Word.TheVariants.{Name, Number, Mark}
use Rattle.rules.proofs.Laws.Outcomes.{both_yes}
use Rattle.rules.proofs.Laws.Placed.{pick-of, run-most, run-some}
use Rattle.words.specs.Onward.{Onward, width, widths, wide}
use Rattle.words.proofs.Library.{either, found-length}

-- ---- the value of six digits

-- a bound, ten times as high for each digit
abbrev grow : ℕ → ℕ → ℕ
grow m zero = m
grow m (suc n) = grow (m * 10) n

value-below : (w : List ℕ) (v m : ℕ) → T (all is_digit w) → v < m → value_of v w < grow m (length w)
unfolding all value_of
value-below [] v m t h = h
value-below (d ∷ w) v m t h =
    let (a, b) = both_yes (is_digit d) (all is_digit w) t in
    let i : d ≤ 57 = leb→le d 57 (both_yes (leb 48 d) (leb d 57) a).1 in
    value-below w (v * 10 + (d - 48)) (m * 10) b (omega arith)

million : (n : ℕ) → n ≤ 6 → grow 1 n ≤ 1000000
million zero h = omega arith
million (suc zero) h = omega arith
million (suc (suc zero)) h = omega arith
million (suc (suc (suc zero))) h = omega arith
million (suc (suc (suc (suc zero)))) h = omega arith
million (suc (suc (suc (suc (suc zero))))) h = omega arith
million (suc (suc (suc (suc (suc (suc zero)))))) h = omega arith
million (suc (suc (suc (suc (suc (suc (suc n))))))) h = absurd (omega arith)

-- ---- the bytes of a mark

mark-byte : (b : ℕ) → T (is_mark b) → (40 ≤ b) × (b < 94) × (b ≡ 46 → ⊥)
mark-byte b t =
    either (leb 40 b && leb b 45 || eqb b 58 || eqb b 59 || eqb b 61 || eqb b 91) (eqb b 93) t
    (λ t. either (leb 40 b && leb b 45 || eqb b 58 || eqb b 59 || eqb b 61) (eqb b 91) t
    (λ t. either (leb 40 b && leb b 45 || eqb b 58 || eqb b 59) (eqb b 61) t
    (λ t. either (leb 40 b && leb b 45 || eqb b 58) (eqb b 59) t
    (λ t. either (leb 40 b && leb b 45) (eqb b 58) t
    (λ t. let (x, y) = both_yes (leb 40 b) (leb b 45) t in let l = leb→le 40 b x in let m = leb→le b 45 y in (l, omega arith, λ e. omega arith))
    (λ h. is 58 h tt))
    (λ h. is 59 h tt))
    (λ h. is 61 h tt))
    (λ h. is 91 h tt))
    (λ h. is 93 h tt)
  where
    is : (n : ℕ) → T (eqb b n) → T (leb 47 n && leb n 93) → (40 ≤ b) × (b < 94) × (b ≡ 46 → ⊥)
    is n h t =
        let e = eqb→eq b n h in
        let (x, y) = both_yes (leb 47 n) (leb n 93) t in
        let l = leb→le 47 n x in
        let m = leb→le n 93 y in
        (omega arith, omega arith, λ f. omega arith)

mark-width : (b : ℕ) → 40 ≤ b → (b ≡ 46 → ⊥) → width b ≡ 1
unfolding width
mark-width b h n =
    let l : 15 ≤ b = omega arith in
    rw (ne_eqb b 46 n) (get_or-eq_default widths 1 l)

reserved-width : (k : ℕ) → k < 14 → width (suc k) ≡ get_or (map length (map bytes reserved)) k 1
unfolding width
reserved-width k h = let n : suc k ≡ 46 → ⊥ = λ e. omega arith in rw (ne_eqb (suc k) 46 n)

-- ---- the places of each kind of word

module _ (len at p q : ℕ) (w : List ℕ) (a : at ≤ p) (e : q ≡ p + length w) (b : p < q) (c : q ≤ len) where
  reserved-onward : (k : ℕ) → k < 14 → length w ≡ get_or (map length (map bytes reserved)) k 1 → Onward len at (Mark (suc k) p q)
  reserved-onward k h l =
      let r = reserved-width k h in
      (omega arith, omega arith, c, omega arith, λ z. absurd (omega arith))

  number-onward : T (all is_digit w && leb (length w) 6) → Onward len at (Number p q (value_of 0 w))
  number-onward t =
      let (d, l) = both_yes (all is_digit w) (leb (length w) 6) t in
      let m = leb→le (length w) 6 l in
      let v = value-below w 0 1 d (omega arith) in
      (a, b, c, omega arith, omega (arith, million (length w) m))

  name-onward : T (is_letter (get_or w 0 0) && leb (length w) 16) → Onward len at (Name p q)
  name-onward t = let m = leb→le (length w) 16 (both_yes (is_letter (get_or w 0 0)) (leb (length w) 16) t).1 in (a, b, c, omega arith)

  spelled-onward : Onward len at (spelled p q w)
  unfolding spelled
  spelled-onward =
      let d : p < len = omega arith in
      pick-of (Onward len at) _ _ _ (λ t. let i = ltb→lt _ _ t in reserved-onward _ i (found-length w (map bytes reserved) 1 i))
      (λ t. pick-of (Onward len at) _ _ _ number-onward (λ t. pick-of (Onward len at) _ _ _ name-onward (λ t. (a, d))))

mark-onward : (len at p b : ℕ) → at ≤ p → p < len → T (is_mark b) → Onward len at (Mark b p (p + 1))
mark-onward len at p b a h t =
    let (l, m, n) = mark-byte b t in
    let w = mark-width b l n in
    (omega arith, omega arith, omega arith, m, λ z. absurd (omega arith))

-- a second dot lies within the text
dots-fit : (s : List ℕ) (p : ℕ) → T (eqb (get_or s (p + 1) 0) 46) → p + 2 ≤ length s
dots-fit s p t = go (dec_lt (p + 1) (length s))
  where
    go : Dec (p + 1 < length s) → p + 2 ≤ length s
    go (yes l) = omega arith
    go (no l) = let z : length s ≤ p + 1 = omega arith in absurd (omega (arith, eqb→eq (get_or s (p + 1) 0) 46 t, get_or-eq_default s 0 z))

dots-onward : (s : List ℕ) (at p b : ℕ) → at ≤ p → T (eqb b 46 && eqb (get_or s (p + 1) 0) 46) → Onward (length s) at (Mark b p (p + 2))
dots-onward s at p b a t =
    let (x, y) = both_yes (eqb b 46) (eqb (get_or s (p + 1) 0) 46) t in
    let e = eqb→eq b 46 x in
    let f = dots-fit s p y in
    let w = wide 46 e in
    (omega arith, omega arith, f, omega arith, λ z. absurd (omega arith))

word-onward : (s : List ℕ) (at p : ℕ) → at ≤ p → p < length s → T (in_word (get_or s p 0))
    → Onward (length s) at (spelled p (p + run in_word (drop p s)) (take (run in_word (drop p s)) (drop p s)))
word-onward s at p a h t =
    let n : 0 < run in_word (drop p s) = subst (λ l. 0 < run in_word l) (sym (drop-cons s p 0 h)) (run-some in_word (get_or s p 0) (drop (suc p) s) t) in
    let m = run-most in_word (drop p s) in
    let d = length-drop p s in
    let l : length (take (run in_word (drop p s)) (drop p s)) ≡ run in_word (drop p s) = rw length-take (omega arith) in
    spelled-onward (length s) at p _ _ a (omega arith) (omega arith) (omega arith)

begun-onward : (s : List ℕ) (at p : ℕ) → at ≤ p → p < length s → Onward (length s) at (begun s p)
unfolding begun
begun-onward s at p a h =
    pick-of (Onward (length s) at) _ _ _ (word-onward s at p a h)
    (λ t. pick-of (Onward (length s) at) _ _ _ (mark-onward (length s) at p (get_or s p 0) a h)
    (λ t. pick-of (Onward (length s) at) _ _ _ (dots-onward s at p (get_or s p 0) a) (λ t. (a, h))))

end-onward : (len at : ℕ) → Onward len at (Mark 0 len len)
end-onward len at = let w = wide {k = 0} 0 refl in (omega arith, omega arith, omega arith, omega arith, λ z. refl)

pub onward : (s : List ℕ) (at : ℕ) → Onward (length s) at (word_at s at)
unfolding word_at
onward s at =
    let le : at ≤ at + run is_separator (drop at s) = omega arith in
    pick-of (Onward (length s) at) _ _ _ (λ t. begun-onward s at _ le (ltb→lt _ _ t)) (λ t. end-onward (length s) at)

-- what is the word at a place stands as that word does
pub told : (s : List ℕ) (at : ℕ) {r : Word} → r ≡ word_at s at → (r ≡ word_at s at) × Onward (length s) at r
told s at e = (e, subst (Onward (length s) at) (sym e) (onward s at))
