-- A number in decimal, of any size. Assumes nothing.
use Rattle.std.specs.Prelude.{◌≡◌, refl, cond, List, [], ◌∷◌, ◌++◌, ℕ, zero, suc, ◌+◌, ◌-◌, ◌*◌, ◌/◌, ◌%◌, ◌^◌, ◌≤◌, ◌<◌, length, ltb}
use Rattle.std.proofs.Common.{sym, ap, ◌∙◌, pow-suc, mod-eq_of_lt, mod-lt, div-lt_iff_lt-mul, le-div_iff_mul-le, arith, length-append, lt-ltb, le-ltb}
use Rattle.std.proofs.Math.Nat.{pow-zero, one-le-pow, pow-le-pow_right}
use Rattle.std.proofs.Math.Decide.{dec_le}
use Rattle.io.specs.Digits.{hex_digit_ascii, last_digits, IsDigitCount}

-- the digits of n, with no zero before them, where there are at most so many
unfoldable pub spelled : ℕ → ℕ → List ℕ
spelled zero n = []
spelled (suc most) n = cond (ltb n 10) ((48 + n) ∷ []) (spelled most (n / 10) ++ ((48 + n % 10) ∷ []))

-- a number has at most one digit more than itself
unfoldable pub decimal : ℕ → List ℕ
decimal n = spelled (suc n) n

-- ---- the fewest digits that hold a number are its decimal

pub digits_long : (k n : ℕ) → length (last_digits 10 k n) ≡ k
digits_long zero n = refl
digits_long (suc k) n = omega (arith, digits_long k (n / 10), length-append (last_digits 10 k (n / 10)) (hex_digit_ascii (n % 10) ∷ []))

glyph-small : (d : ℕ) → d < 10 → hex_digit_ascii d ≡ 48 + d
glyph-small d h = rw (lt-ltb d 10 h)

one-digit : (n : ℕ) → n < 10 → last_digits 10 1 n ≡ (48 + n) ∷ []
one-digit n h = rw (mod-eq_of_lt h, lt-ltb n 10 h)

spelled-small : (most n : ℕ) → n < 10 → spelled (suc most) n ≡ (48 + n) ∷ []
unfolding spelled
spelled-small most n h = rw (lt-ltb n 10 h)

spelled-more : (most n : ℕ) → 10 ≤ n → spelled (suc most) n ≡ spelled most (n / 10) ++ ((48 + n % 10) ∷ [])
unfolding spelled
spelled-more most n h = rw (le-ltb n 10 h)

-- k + 1 digits, the first not zero
fewest-spelled : (k most n : ℕ) → k < most → n < 10 ^ suc k → (0 < k → 10 ^ k ≤ n) → last_digits 10 (suc k) n ≡ spelled most n
fewest-spelled k zero n h a b = absurd (omega arith)
fewest-spelled zero (suc most) n h a b = one-digit n (omega arith) ∙ sym (spelled-small most n (omega arith))
fewest-spelled (suc k) (suc most) n h a b =
    let p : 10 ^ suc (suc k) ≡ 10 ^ suc k * 10 = pow-suc 10 (suc k) in
    let q : 10 ^ suc k ≡ 10 ^ k * 10 = pow-suc 10 k in
    let l : 10 ^ suc k ≤ n = b (omega arith) in
    let o : 1 ≤ 10 ^ k = one-le-pow k 10 (omega arith) in
    let t : 10 ≤ n = omega arith in
    let z : 0 < 10 = omega arith in
    let u : n < 10 ^ suc k * 10 = omega arith in
    let d : 10 ^ k * 10 ≤ n = omega arith in
    let hi : n / 10 < 10 ^ suc k = (div-lt_iff_lt-mul {k = 10} {x = n} {y = 10 ^ suc k} z).1 u in
    let lo : 10 ^ k ≤ n / 10 = (le-div_iff_mul-le {k = 10} {x = 10 ^ k} {y = n} z).1 d in
    let r : n % 10 < 10 = mod-lt n z in
    ap (λ (l : List ℕ). l ++ (hex_digit_ascii (n % 10) ∷ [])) (fewest-spelled k most (n / 10) (omega arith) hi (λ z. lo))
    ∙ ap (λ (d : ℕ). spelled most (n / 10) ++ (d ∷ [])) (glyph-small (n % 10) r)
    ∙ sym (spelled-more most n t)

-- k digits are fewer than ten to the k
few : (k : ℕ) → k < 10 ^ k
few zero = omega (arith, pow-zero 10)
few (suc k) = omega (arith, few k, pow-suc 10 k)

pub fewest-decimal : (k n : ℕ) → IsDigitCount 10 1 n k → last_digits 10 k n ≡ decimal n
unfolding decimal
fewest-decimal zero n f = absurd (omega (arith, f.0))
fewest-decimal (suc zero) n f = fewest-spelled 0 (suc n) n (omega arith) f.1 (λ z. absurd (omega arith))
fewest-decimal (suc (suc k)) n f =
    let e : suc (suc k) - 1 ≡ suc k = omega arith in
    let l : 10 ^ suc k ≤ n = rw e at (f.2 (omega arith)) in
    fewest-spelled (suc k) (suc n) n (omega (arith, few (suc k))) f.1 (λ z. l)

-- twenty digits hold every number of the machine
pub at-most-20 : (k n : ℕ) → IsDigitCount 10 1 n k → n < 10 ^ 20 → k ≤ 20
at-most-20 k n f h = go (dec_le k 20)
  where
    go : Dec (k ≤ 20) → k ≤ 20
    go (yes l) = l
    go (no g) =
        let z : 0 < 10 = omega arith in
        let i : 20 ≤ k - 1 = omega arith in
        let p : 10 ^ 20 ≤ 10 ^ (k - 1) = pow-le-pow_right {n = 10} z {i = 20} {j = k - 1} i in
        let q : 10 ^ (k - 1) ≤ n = f.2 (omega arith) in
        absurd (omega arith)
