-- What an answer of the code tells. Assumes nothing.
use Rattle.std.specs.Prelude.{◌≡◌, ℕ, Result, Ok, Err}
use Rattle.std.proofs.Common.{ap, arith}
use Rattle.rules.specs.Reasons.{number}
use Rattle.rules.specs.Numbers.{same-refusal, number-some}
use Rattle.rules.specs.declared.Refusal.{Refusal}

-- number and place of a refusal, or 0, 0 and the steps
pub record Flattened : Type 0 where
  pub number : ℕ
  pub place : ℕ
  pub steps : ℕ

abbrev pub told : Result ℕ Refusal → Flattened
told (Ok steps) = record { number = 0; place = 0; steps = steps }
told (Err e) = record { number = number e.reason; place = e.place; steps = 0 }

-- what is told says which answer it was
pub same-answer : (r s : Result ℕ Refusal) → told r ≡ told s → r ≡ s
same-answer (Ok m) (Ok n) e = ap Ok (ap (λ x. x.steps) e)
same-answer (Ok m) (Err d) e = let h = number-some d.reason in let g : 0 ≡ number d.reason = ap (λ x. x.number) e in absurd (omega (arith, h, g))
same-answer (Err d) (Ok n) e = let h = number-some d.reason in let g : number d.reason ≡ 0 = ap (λ x. x.number) e in absurd (omega (arith, h, g))
same-answer (Err d) (Err f) e = ap Err (same-refusal d f (ap (λ x. x.number) e) (ap (λ x. x.place) e))
