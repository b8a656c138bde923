-- Four bytes of which the first are digits and the rest zeros: the digits give them back.
use Rattle.std.specs.Prelude.{ℕ, List, ◌≡◌, ◌≤◌, ◌-◌, ◌++◌, length, take, drop, replicate}
use Rattle.std.proofs.Common.{arith, sym, ap, ◌∙◌, take-append-drop, length-take-le}

pub counted : (n : ℕ) (bytes : List ℕ) → n ≤ 4 → length bytes ≡ 4 → length (take n bytes) ≡ n
counted n bytes h e = length-take-le n bytes (omega (arith, h, e))

pub filled : (n : ℕ) (bytes : List ℕ) → n ≤ 4 → length bytes ≡ 4 → drop n bytes ≡ replicate (4 - n) 0
    → take n bytes ++ replicate (4 - length (take n bytes)) 0 ≡ bytes
filled n bytes h e z = ap (λ k. take n bytes ++ replicate (4 - k) 0) (counted n bytes h e) ∙ ap (λ zs. take n bytes ++ zs) (sym z) ∙ take-append-drop n bytes
