-- 01, "Numbers of the answers": what each answer of running, writing and reading tells. Assumes nothing.
use Rattle.std.specs.Prelude.{ℕ, Result, Ok, Err}
use Rattle.rules.specs.Reasons.{number}
use Rattle.rules.specs.declared.Reason.{Reason}

-- the number, the place, and the length of the text that was written
pub record Told : Type 0 where
  pub number : ℕ
  pub place : ℕ
  pub length : ℕ

-- "0 is done"; "Write also returns the text's length"
abbrev pub done : ℕ → Told
done n = record { number = 0; place = 0; length = n }

-- "Every refusal .. returns 0 for all but its number and place"; "Place is .. 0 for 0, 1, 2, 19 and 20"
abbrev pub refused : ℕ → Told
refused n = record { number = n; place = 0; length = 0 }

-- what a job tells that was done, with a text as long as `bytes` says, or was refused
unfoldable pub told : {A : Type 0} → (A → ℕ) → Result A Reason → Told
told bytes (Ok a) = done (bytes a)
told bytes (Err e) = refused (number e)

-- of a job that writes no text
abbrev pub no_text : Unit {0} → ℕ
no_text u = 0

-- of a job whose value is the length of the text that it wrote
abbrev pub its_length : ℕ → ℕ
its_length n = n
