-- Laws of what a heading wants and a call gives, word by word. Assumes nothing.
use Rattle.std.specs.Prelude.{◌≡◌, refl, Bool, true, false, cond, List, [], ◌∷◌, ℕ, suc, ◌+◌, ◌-◌, ◌<◌, ◌≤◌, eqb, length, get_or, drop, filter, take_while}
use Rattle.std.proofs.Common.{ap, add-one, arith, drop_of_length-le}
use Rattle.std.proofs.lemmas.List.Sums.{take_while-cons}
use Rattle.std.specs.Int.{from_bool}
use Rattle.std.proofs.Math.Dec.{ltb}
use Rattle.std.proofs.Math.Seq.{drop-cons}
use borrow.Author.Tests.{lt-ltb, le-ltb}
use Rattle.rules.specs.Text.{pick}
use Rattle.tape.specs.Layout.{kind_of, head_in, value_of, GENERIC, IN, OUT}
use Rattle.sweep.specs.Sweep.{leading, generics_given, in_call, given, heading_at, heading_of}
use Rattle.sweep.specs.declared.Heading.{Heading}

-- the words from i on begin with the one at i
pub first-of : (t : List ℕ) (i : ℕ) → i < length t → drop i t ≡ get_or t i 0 ∷ drop (i + 1) t
first-of t i h = rw (add-one, drop-cons t i 0 h)

-- ---- leading words

module _ (k : ℕ) where
  pub leading-is : (ws : List ℕ) → length (take_while (λ w. eqb (kind_of w) k) ws) ≡ leading k ws
  unfolding leading pick
  leading-is [] = refl
  leading-is (w ∷ ws) = rw (take_while-cons (λ w. eqb (kind_of w) k) w ws) (go (eqb (kind_of w) k) (leading-is ws))
    where
      go : (b : Bool) → length (take_while (λ w. eqb (kind_of w) k) ws) ≡ leading k ws → length (cond b (w ∷ take_while (λ w. eqb (kind_of w) k) ws) []) ≡ pick b (suc (leading k ws)) 0
      go true e = ap suc e
      go false e = refl

  -- ---- arguments

  pub given-is : (ws : List ℕ) → length (filter (λ w. eqb (kind_of w) k) (take_while (λ w. in_call (kind_of w)) ws)) ≡ given k ws
  unfolding given pick
  given-is [] = refl
  given-is (w ∷ ws) = rw (take_while-cons (λ w. in_call (kind_of w)) w ws) (go (in_call (kind_of w)) (given-is ws))
    where
      more : (t : Bool) (xs : List ℕ) (n : ℕ) → length xs ≡ n → length (cond t (w ∷ xs) xs) ≡ pick t 1 0 + n
      more true xs n e = omega arith
      more false xs n e = omega arith

      go : (b : Bool) → length (filter (λ w. eqb (kind_of w) k) (take_while (λ w. in_call (kind_of w)) ws)) ≡ given k ws
          → length (filter (λ w. eqb (kind_of w) k) (cond b (w ∷ take_while (λ w. in_call (kind_of w)) ws) [])) ≡ pick b (pick (eqb (kind_of w) k) 1 0 + given k ws) 0
      go true e = more (eqb (kind_of w) k) _ _ e
      go false e = refl

-- ---- generics

pub at-most-one : (b : Bool) → from_bool b ≤ 1
at-most-one true = omega arith
at-most-one false = omega arith

module _ (t : List ℕ) (i inside : ℕ) where
  module _ (h : i < length t) where
    pub generics-stop : 2 < kind_of (get_or t i 0) → generics_given inside (drop i t) ≡ 0
    unfolding generics_given pick
    generics-stop g = rw (first-of t i h, le-ltb (kind_of (get_or t i 0)) 3 (omega arith))

    pub generics-inside : kind_of (get_or t i 0) ≤ 2 → 0 < inside → generics_given inside (drop i t) ≡ generics_given (inside - 1) (drop (i + 1) t)
    unfolding generics_given pick
    generics-inside g m = rw (first-of t i h, lt-ltb (kind_of (get_or t i 0)) 3 (omega arith), lt-ltb 0 inside m)

    pub generics-more : (n v : ℕ) → kind_of (get_or t i 0) ≤ 2 → inside ≤ 0 → n ≡ from_bool (ltb (head_in (get_or t i 0)) 2) → v ≡ pick (eqb (kind_of (get_or t i 0)) 2) (value_of (get_or t i 0)) 0
        → generics_given inside (drop i t) ≡ n + generics_given v (drop (i + 1) t)
    unfolding generics_given pick
    generics-more n v g m a b =
        let z : ltb (kind_of (get_or t i 0)) 3 ≡ true = lt-ltb (kind_of (get_or t i 0)) 3 (omega arith) in
        rw (first-of t i h, z, le-ltb 0 inside m, a, ← b) (ap (λ x. x + generics_given v (drop (i + 1) t)) (same-pick (ltb (head_in (get_or t i 0)) 2)))
      where
        same-pick : (b : Bool) → pick b 1 0 ≡ from_bool b
        same-pick true = refl
        same-pick false = refl

  pub generics-end : length t ≤ i → generics_given inside (drop i t) ≡ 0
  unfolding generics_given
  generics-end h = rw (drop_of_length-le t h)

-- ---- headings

pub made-heading : (H : List ℕ) (p g i o : ℕ) → g ≡ leading GENERIC (drop (p + 1) H) → i ≡ leading IN (drop (p + 1 + g) H) → o ≡ leading OUT (drop (p + 1 + g + i) H)
    → ◌≡◌ {A = Heading} (record { generics = g; inputs = i; outputs = o; want = p + 1 + g }) (heading_at H p)
unfolding heading_at
made-heading H p g i o a b c = rw (← a, ← b, ← c)

pub block-heading : (H F : List ℕ) (b p : ℕ) (h : Heading) → p ≡ get_or F b 0 → h ≡ heading_at H p → h ≡ heading_of H F (10 + b)
unfolding heading_of pick
block-heading H F b p h e f =
    let l : 10 ≤ 10 + b = omega arith in
    let z : 10 + b - 10 ≡ b = omega arith in
    rw (le-ltb (10 + b) 10 l, z, ← e) f
