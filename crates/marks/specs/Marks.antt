-- What stands next in a text, by the number of a mark or reserved word (`key` of the rules gives it). Assumes nothing.
use Rattle.std.specs.Prelude.{◌≡◌, ℕ, Bool, true, false, Option, Some, None, Result, Ok, Err, List, eqb}
use Rattle.rules.specs.declared.Word.{Word}
use Rattle.rules.specs.declared.Word.TheVariants.{Bad, Name as Named, Number, Mark}
use Rattle.rules.specs.Text.{pick}
use Rattle.rules.specs.Words.{word_at}
use Rattle.rules.specs.Readers.{Reader, give, refused, marked, after}
use Rattle.rules.specs.Grammar.{op_of}
use Rattle.tape.specs.Layout.{head_of}
use Rattle.rules.specs.Outcome.{Out, ok, refuse}
use Rattle.rules.specs.Reasons.{number}
use Rattle.rules.specs.declared.Reason.TheVariants.{NoWord, WrongOrder}
use Rattle.rules.specs.declared.Refusal.{Refusal}
use Rattle.marks.specs.declared.Spot.{Spot}
use Rattle.marks.specs.declared.Joint.{Joint as Joining}
use Rattle.marks.specs.declared.Divided.{Divided}
use Rattle.marks.specs.declared.Divided.TheVariants.{Another, Last}

-- the refusal of a word that is not wanted where it stands
abbrev pub unwanted : Word → Refusal
unwanted (Bad p) = record { reason = NoWord; place = p }
unwanted (Named p q) = record { reason = WrongOrder; place = p }
unwanted (Number p q v) = record { reason = WrongOrder; place = p }
unwanted (Mark b p q) = record { reason = WrongOrder; place = p }

-- a reader that writes nothing: the value is made of the place and the end
abbrev pub Tells : {A : Type 0} → (ℕ → ℕ → A) → Out (A × ℕ) → Result Spot Refusal → Type 0
Tells make o (Ok r) = o ≡ ok (make r.place r.next, r.next)
Tells make o (Err e) = o ≡ refuse (number e.reason) e.place

-- this mark or reserved word: its place
unfoldable pub mark_at : List ℕ → ℕ → Reader ℕ
mark_at s code at = marked (word_at s at) (λ b p. pick (eqb b code) (give p) (refused 4 p))

unfoldable pub is_code : ℕ → Word → Bool
is_code code (Bad p) = false
is_code code (Named p q) = false
is_code code (Number p q v) = false
is_code code (Mark b p q) = eqb b code

-- the answer says whether it is there, and where it ends
abbrev pub Spots : ℕ → Word → Option Spot → Type 0
Spots code w (Some s) = (is_code code w ≡ true) × (after w ≡ s.next)
Spots code w None = is_code code w ≡ false

-- a mark that joins, up to n; h is the head of the factor after it
pub record Joint (joins : ℕ → Bool) (w : Word) (n h : ℕ) : Type 0 where
  pub by : ℕ
  pub place : ℕ
  pub is : w ≡ Mark by place n
  pub joining : joins by ≡ true
  pub head : h ≡ head_of (op_of by)

-- no mark that joins
unfoldable pub Ends : (ℕ → Bool) → Word → Type 0
Ends joins (Bad p) = Unit {0}
Ends joins (Named p q) = Unit {0}
Ends joins (Number p q v) = Unit {0}
Ends joins (Mark b p q) = joins b ≡ false

abbrev pub Joins : (ℕ → Bool) → Word → Option Joining → Type 0
Joins joins w (Some j) = Joint joins w j.next j.head
Joins joins w None = Ends joins w

-- what stands after an item of a list: the mark that divides, the mark that closes, or neither
unfoldable pub dividing : ℕ → ℕ → Word → Result Divided Refusal
dividing sep close (Bad p) = Err (unwanted (Bad p))
dividing sep close (Named p q) = Err (unwanted (Named p q))
dividing sep close (Number p q v) = Err (unwanted (Number p q v))
dividing sep close (Mark b p q) = pick (eqb b sep) (Ok (Another (record { next = q; place = p }))) (pick (eqb b close) (Ok (Last q)) (Err (unwanted (Mark b p q))))
