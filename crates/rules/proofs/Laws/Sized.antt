-- How long words are: a name has at most 16 letters, and a number is below 1,000,000. Assumes nothing.
use Rattle.std.specs.Prelude.{◌≡◌, ℕ, zero, suc, ◌+◌, ◌-◌, ◌*◌, ◌≤◌, ◌<◌, List, [], ◌∷◌, length, get_or, drop, T, leb}
use Rattle.std.proofs.Common.{sym, ap, arith, length-take-le, leb→le}
use Rattle.rules.specs.declared.Word.{Word}
use Rattle.rules.specs.declared.Word.TheVariants.{Bad, Name as Named, Number, Mark}
use Rattle.rules.specs.Words.{is_digit, is_letter, in_word, run, all, value_of, spelled, begun, word_at}
use Rattle.rules.proofs.Laws.Outcomes.{both_yes}
use Rattle.rules.proofs.Laws.Placed.{pick-of, run-most}

pub data Sized : Word → Type 0 where
  bad : {p : ℕ} → Sized (Bad p)
  named : {p q : ℕ} → q ≤ p + 16 → Sized (Named p q)
  number : {p q v : ℕ} → v < 1000000 → Sized (Number p q v)
  mark : {b p q : ℕ} → Sized (Mark b p q)

-- so many more digits after v make at most this
room : ℕ → ℕ → ℕ
room v zero = v
room v (suc n) = room (v * 10 + 9) n

room-more : (n : ℕ) {v w : ℕ} → v ≤ w → room v n ≤ room w n
unfolding room
room-more zero h = h
room-more (suc n) {v} {w} h = let k : v * 10 + 9 ≤ w * 10 + 9 = omega arith in room-more n k

digits-most : (w : List ℕ) (v : ℕ) → T (all is_digit w) → value_of v w ≤ room v (length w)
unfolding all value_of room
digits-most [] v t = omega arith
digits-most (d ∷ w) v t =
    let (a, b) = both_yes (is_digit d) (all is_digit w) t in
    let (c, e) = both_yes (leb 48 d) (leb d 57) a in
    let f = digits-most w (v * 10 + (d - 48)) b in
    let g : v * 10 + (d - 48) ≤ v * 10 + 9 = omega (arith, leb→le d 57 e) in
    let h = room-more (length w) g in
    omega arith

room-long : (n m v : ℕ) → n ≤ m → room v n ≤ room v m
unfolding room
room-long zero zero v h = omega arith
room-long zero (suc m) v h = let i = room-long zero m (v * 10 + 9) (omega arith) in omega arith
room-long (suc n) zero v h = absurd (omega arith)
room-long (suc n) (suc m) v h = room-long n m (v * 10 + 9) (omega arith)

six : (n : ℕ) → n ≤ 6 → room 0 n < 1000000
unfolding room
six n h = let i = room-long n 6 0 h in omega arith

spelled-sized : (p q : ℕ) (w : List ℕ) → q ≡ p + length w → Sized (spelled p q w)
unfolding spelled
spelled-sized p q w e =
    pick-of Sized _ _ _ (λ t. mark)
    (λ t. pick-of Sized _ _ _ (λ t.
    let (a, b) = both_yes (all is_digit w) (leb (length w) 6) t in
    let d = digits-most w 0 a in
    let f = six (length w) (leb→le (length w) 6 b) in
    let g : value_of 0 w < 1000000 = omega arith in number g)
    (λ t. pick-of Sized _ _ _ (λ t. let b = leb→le (length w) 16 (both_yes (is_letter (get_or w 0 0)) (leb (length w) 16) t).1 in let g : q ≤ p + 16 = omega arith in named g) (λ t. bad)))

begun_sized : (s : List ℕ) (p : ℕ) → Sized (begun s p)
unfolding begun
begun_sized s p =
    pick-of Sized _ _ _ (λ t. spelled-sized p _ _ (ap (λ n. p + n) (sym (length-take-le (run in_word (drop p s)) (drop p s) (run-most in_word (drop p s))))))
    (λ t. pick-of Sized _ _ _ (λ t. mark) (λ t. pick-of Sized _ _ _ (λ t. mark) (λ t. bad)))

pub word-sized : (s : List ℕ) (at : ℕ) → Sized (word_at s at)
unfolding word_at
word-sized s at = pick-of Sized _ _ _ (λ t. begun_sized s _) (λ t. mark)
