-- Digits, read one after another. Assumes nothing.
use Rattle.std.specs.Prelude.{◌≡◌, ℕ, ◌+◌, ◌-◌, ◌*◌, ◌<◌, ◌≤◌, ◌^◌, suc, refl, Bool, true, false, List, [], ◌∷◌, length, get_or, drop}
use Rattle.std.proofs.Common.{sym, ◌∙◌, subst, arith, drop_of_length-le, add-one}
use Rattle.std.proofs.Math.Seq.{drop-cons}
use Rattle.std.proofs.Math.Dec.{T, leb→le}
use Rattle.std.proofs.Common.{leb}
use Rattle.std.specs.Char.{is_ascii_digit}
use Rattle.std.specs.List.{list_all}
use Rattle.rules.specs.Words.{is_digit, all, value_of}
use Rattle.rules.proofs.Laws.Outcomes.{both_yes}

yes_is : (b : Bool) → T b → b ≡ true
yes_is true t = refl
yes_is false t = absurd t

pub digits_are : (l : List ℕ) → all is_digit l ≡ list_all is_ascii_digit l
unfolding all
digits_are [] = refl
digits_are (b ∷ r) = rw (digits_are r)

pub ten-more : (i : ℕ) → 10 ^ (i + 1) ≡ 10 * 10 ^ i
ten-more i = rw add-one (omega arith)

pub a-digit : (s : List ℕ) (i : ℕ) → i < length s → all is_digit (drop i s) ≡ true → (48 ≤ get_or s i 0) × (get_or s i 0 ≤ 57) × (all is_digit (drop (i + 1) s) ≡ true)
unfolding all
a-digit s i h e =
    let t : T (all is_digit (get_or s i 0 ∷ drop (suc i) s)) = subst (λ l. T (all is_digit l)) (drop-cons s i 0 h) (subst T (sym e) tt) in
    let (d, r) = both_yes (is_digit (get_or s i 0)) (all is_digit (drop (suc i) s)) t in
    let (a, b) = both_yes (leb 48 (get_or s i 0)) (leb (get_or s i 0) 57) d in
    (leb→le 48 (get_or s i 0) a, leb→le (get_or s i 0) 57 b, rw add-one (yes_is (all is_digit (drop (suc i) s)) r))

pub on : (s : List ℕ) (v i : ℕ) → i < length s → value_of v (drop i s) ≡ value_of (v * 10 + (get_or s i 0 - 48)) (drop (i + 1) s)
unfolding value_of
on s v i h = rw (add-one, drop-cons s i 0 h)

pub said : (s : List ℕ) (v i : ℕ) → length s ≤ i → value_of 0 s ≡ value_of v (drop i s) → v ≡ value_of 0 s
unfolding value_of
said s v i h e = sym (e ∙ rw (drop_of_length-le s h))
