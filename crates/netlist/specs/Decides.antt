-- Answers that are a bool. Assumes nothing.
use Rattle.std.specs.Prelude.{◌≡◌, ◌↔◌, refl, Bool, true, false, IsTrue, ℕ}
use Rattle.std.proofs.Common.{arith}
use Rattle.std.proofs.lemmas.Bool.{false≢true}

-- P or not P, as the answer says
pub data Decides (P : Type 0) : Bool → Type 0 where
  so : P → Decides P true
  not_so : (P → ⊥) → Decides P false

pub decides-one : {P : Type 0} {a b : Bool} → Decides P a → Decides P b → a ≡ b
decides-one (so p) (so q) = refl
decides-one (so p) (not_so n) = absurd (n p)
decides-one (not_so n) (so p) = absurd (n p)
decides-one (not_so n) (not_so m) = refl

pub holds : {P : Type 0} {b : Bool} → Decides P b → b ≡ true → P
holds (so p) e = p
holds (not_so n) e = let z : ◌≡◌ {A = ℕ} 0 1 = cc in absurd (omega arith)

pub fails : {P : Type 0} {b : Bool} → Decides P b → b ≡ false → P → ⊥
fails (not_so n) e p = n p
fails (so q) e p = let z : ◌≡◌ {A = ℕ} 0 1 = cc in absurd (omega arith)

pub decides : {P : Type 0} (b : Bool) → (IsTrue b ↔ P) → Decides P b
decides true e = so (e.0 refl)
decides false e = not_so (λ p. absurd (false≢true (e.1 p)))
