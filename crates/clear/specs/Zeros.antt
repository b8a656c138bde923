-- Memory that is all zero, at any width. Assumes nothing.
use Rattle.std.specs.Prelude.{◌≡◌, refl, ℕ, zero, suc, ◌-◌, length, get_or, drop}
use Rattle.std.proofs.Common.{arith}
use Rattle.std.proofs.lemmas.List.{length-replicate}
pub use Rattle.rules.specs.Text.{zeros}

pub zeros-at : (n i : ℕ) → get_or (zeros n) i 0 ≡ 0
zeros-at zero i = refl
zeros-at (suc n) zero = refl
zeros-at (suc n) (suc i) = zeros-at n i

pub zeros-long : (n : ℕ) → length (zeros n) ≡ n
zeros-long n = length-replicate n 0

pub drop-zeros : (n k : ℕ) → drop k (zeros n) ≡ zeros (n - k)
drop-zeros n zero = let e : n - 0 ≡ n = omega arith in rw e
drop-zeros zero (suc k) = let e : 0 - suc k ≡ 0 = omega arith in rw e
drop-zeros (suc n) (suc k) = let e : suc n - suc k ≡ n - k = omega arith in rw e (drop-zeros n k)
