-- Laws of signed numbers: which are in range, and what a 64-bit difference of two 32-bit numbers comes to.
-- Assumes nothing.
use mathlib.Core.Path.{◌≡◌, ap, ◌∙◌, refl}
use mathlib.Core.Bool.{Bool, true, false, cond}
use Prim.Native.Nat.{ℕ, zero, suc, ◌-◌, ◌^◌, ◌<◌}
use native.Mathlib.Omega.{arith}
use lib.Dec.{ltb}
use Rattle.std.specs.Prelude.{Some, None, Result, Ok, Err, IfSome}
use Rattle.std.specs.Result.{OkIff, result_ok}
use Rattle.std.specs.Int.{FitsUnsignedBits}
use Rattle.std.proofs.lemmas.Int.{ints}
use lib.IntN.{ℤ, pos, negsuc, nat_abs, neg_ℤ, ◌+ℤ◌, ◌-ℤ◌}
use lib.Signed.{mag, lt_z, ◌≤ℤ◌}
use mir.Syntax.{w32, w64}
use mir.Val.{SFits, to_z, of_z}
use mir.Facts.{to_z-of_z, sfits_widen}
use borrow.Author.Tests.{ltb-true, ltb-false, lt-leb, le-leb}
use Rattle.rules.specs.Text.{pick}
use Rattle.values.specs.Numbers.{clipped}
use Rattle.values.specs.Sizes.{apart_of}

-- a number in range fits 32 bits
in-range : (z : ℤ) → lt_z z (negsuc 999999) ≡ false → lt_z (pos 1000000) z ≡ false → mag z < 2 ^ 31
in-range (pos n) l h = omega (arith, ltb-false 1000000 n h)
in-range (negsuc n) l h = omega (arith, ltb-false 999999 n l)

pub clip-fits : (z : ℤ) → lt_z z (negsuc 999999) ≡ false → lt_z (pos 1000000) z ≡ false → SFits w32 z
clip-fits z l h = record { sfits = in-range z l h }

pub clip-low : (z : ℤ) → lt_z z (negsuc 999999) ≡ true → None ≡ clipped z
unfolding clipped pick
clip-low (pos n) l = let z : ◌≡◌ {A = ℕ} 0 1 = cc in absurd (omega arith)
clip-low (negsuc n) l = rw (lt-leb (suc n) 1000000 (omega (arith, ltb-true 999999 n l)))

pub clip-high : (z : ℤ) → lt_z (pos 1000000) z ≡ true → None ≡ clipped z
unfolding clipped pick
clip-high (pos n) h = rw (lt-leb n 1000000 (omega (arith, ltb-true 1000000 n h)))
clip-high (negsuc n) h = let z : ◌≡◌ {A = ℕ} 0 1 = cc in absurd (omega arith)

pub clip-in : (z : ℤ) → lt_z z (negsuc 999999) ≡ false → lt_z (pos 1000000) z ≡ false → Some z ≡ clipped z
unfolding clipped pick
clip-in (pos n) l h = rw (le-leb n 1000000 (omega (arith, ltb-false 1000000 n h)))
clip-in (negsuc n) l h = rw (le-leb (suc n) 1000000 (omega (arith, ltb-false 999999 n l)))

-- a 32-bit number is the same at 64 bits
pub wide : {x : ℤ} → SFits w32 x → to_z w64 (of_z w64 (to_z w32 (of_z w32 x))) ≡ x
wide h = rw (to_z-of_z {w = w32} h) (to_z-of_z {w = w64} (sfits_widen tt h))

apart : (t : Bool) (u v n : ℕ) → u < n → v < n → mag (cond t (negsuc u) (pos v)) < n
apart true u v n h k = h
apart false u v n h k = k

negated : (n k : ℕ) → n < k → mag (neg_ℤ (pos n)) < k
negated zero k h = h
negated (suc n) k h = omega arith

-- the least number's negation is one more, so the bound on the second is a little wider
add-mag : (x y : ℤ) → mag x < 2 ^ 31 → mag y < 2 ^ 32 → mag (x +ℤ y) < 2 ^ 63
add-mag (pos a) (pos b) h k = omega arith
add-mag (pos a) (negsuc b) h k = apart (ltb a (suc b)) (suc b - suc a) (a - suc b) (2 ^ 63) (omega arith) (omega arith)
add-mag (negsuc a) (pos b) h k = apart (ltb b (suc a)) (suc a - suc b) (b - suc a) (2 ^ 63) (omega arith) (omega arith)
add-mag (negsuc a) (negsuc b) h k = omega arith

neg-mag : (y : ℤ) → mag y < 2 ^ 31 → mag (neg_ℤ y) < 2 ^ 32
neg-mag (pos n) h = negated n (2 ^ 32) (omega arith)
neg-mag (negsuc n) h = omega arith

pub sub-fits : {x y : ℤ} → SFits w32 x → SFits w32 y → SFits w64 (x -ℤ y)
sub-fits {x} {y} h k = record { sfits = add-mag x (neg_ℤ y) h.sfits (neg-mag y k.sfits) }

-- what the machine's 64-bit operation on two widened numbers gives
pub narrow : {x y : ℤ} (f : ℤ → ℤ → ℤ) → SFits w32 x → SFits w32 y → SFits w64 (f x y)
    → to_z w64 (of_z w64 (f (to_z w64 (of_z w64 (to_z w32 (of_z w32 x)))) (to_z w64 (of_z w64 (to_z w32 (of_z w32 y)))))) ≡ f x y
narrow f h k g = rw (wide h, wide k) (to_z-of_z g)

-- how far up, where it is read as a number that is not below zero
pub up_to : {E : Type 0} (d : ℤ) (r : Result ℕ E) → OkIff r (FitsUnsignedBits 64 d) (nat_abs d) → SFits w64 d → result_ok r ≡ apart_of d
unfolding apart_of
up_to (pos n) (Ok k) h f = ap Some h.1
up_to (pos n) (Err e) h f = absurd (h (omega (arith, f.sfits)))
up_to (negsuc n) (Ok k) h f = absurd h.0
up_to (negsuc n) (Err e) h f = refl

short_of : (d : ℤ) (k : ℕ) → d ≤ℤ pos 4294967295 → FitsUnsignedBits 64 d × (k ≡ nat_abs d) → k < 4294967296
short_of (pos n) k l h = omega (arith, ints, h.1)
short_of (negsuc n) k l h = absurd h.0

pub up_short : {E : Type 0} (x y : ℤ) (r : Result ℕ E) → SFits w32 x → SFits w32 y → OkIff r (FitsUnsignedBits 64 (x -ℤ y)) (nat_abs (x -ℤ y)) → IfSome (result_ok r) (λ k. k < 4294967296)
up_short x y (Ok k) f g h = short_of (x -ℤ y) k (omega (arith, ints)) h
up_short x y (Err e) f g h = tt

-- the same laws of clip's three answers over the number as a 64-bit variable holds it
pub clip_below : (z : ℤ) → SFits w64 z → lt_z (to_z w64 (of_z w64 z)) (negsuc 999999) ≡ true → None ≡ clipped z
clip_below z f l = clip-low z (rw (to_z-of_z {w = w64} f) at l)

pub clip_above : (z : ℤ) → SFits w64 z → lt_z (pos 1000000) (to_z w64 (of_z w64 z)) ≡ true → None ≡ clipped z
clip_above z f h = clip-high z (rw (to_z-of_z {w = w64} f) at h)

pub clip_fits : (z : ℤ) → SFits w64 z → lt_z (to_z w64 (of_z w64 z)) (negsuc 999999) ≡ false → lt_z (pos 1000000) (to_z w64 (of_z w64 z)) ≡ false → SFits w32 (to_z w64 (of_z w64 z))
clip_fits z f l h = let back = to_z-of_z {w = w64} f in rw back (clip-fits z (rw back at l) (rw back at h))

pub clip_within : (z : ℤ) → SFits w64 z → lt_z (to_z w64 (of_z w64 z)) (negsuc 999999) ≡ false → lt_z (pos 1000000) (to_z w64 (of_z w64 z)) ≡ false
    → Some (to_z w32 (of_z w32 (to_z w64 (of_z w64 z)))) ≡ clipped z
clip_within z f l h =
    let back = to_z-of_z {w = w64} f in
    let low = rw back at l in
    let high = rw back at h in
    rw back (ap Some (to_z-of_z {w = w32} (clip-fits z low high)) ∙ clip-in z low high)
