-- A number is that of one reason, and none has 0. Assumes nothing.
use Rattle.std.specs.Prelude.{◌≡◌, refl, ℕ, ◌<◌, List, [], ◌∷◌, get_or}
use Rattle.std.proofs.Common.{sym, ap, ◌∙◌, arith}
use Rattle.rules.specs.Reasons.{number}
use Rattle.rules.specs.declared.Refusal.{Refusal}
use Rattle.rules.specs.declared.Reason.{Reason}
use Rattle.rules.specs.declared.Reason.TheVariants.{ShortBuffer, LongText, NoWord, WrongOrder, TooMany, DeclaredTwice, WrongName, WrongShape, NoMain, OutOfRange, WrongVector, OutsideVector, UnequalVectors, TooDeep, TooManySteps, TooManyWires, TooManyGates, DrivenTwice, NotWellFormed, WrongInputs}

reasons : List Reason
reasons =
    ShortBuffer
    ∷ ShortBuffer
    ∷ LongText
    ∷ NoWord
    ∷ WrongOrder
    ∷ TooMany
    ∷ DeclaredTwice
    ∷ WrongName
    ∷ WrongShape
    ∷ NoMain
    ∷ OutOfRange
    ∷ WrongVector
    ∷ OutsideVector
    ∷ UnequalVectors
    ∷ TooDeep
    ∷ TooManySteps
    ∷ TooManyWires
    ∷ TooManyGates
    ∷ DrivenTwice
    ∷ NotWellFormed
    ∷ WrongInputs ∷ []

reason_of : ℕ → Reason
reason_of n = get_or reasons n ShortBuffer

numbered : (r : Reason) → reason_of (number r) ≡ r
unfolding reason_of reasons
numbered ShortBuffer = refl
numbered LongText = refl
numbered NoWord = refl
numbered WrongOrder = refl
numbered TooMany = refl
numbered DeclaredTwice = refl
numbered WrongName = refl
numbered WrongShape = refl
numbered NoMain = refl
numbered OutOfRange = refl
numbered WrongVector = refl
numbered OutsideVector = refl
numbered UnequalVectors = refl
numbered TooDeep = refl
numbered TooManySteps = refl
numbered TooManyWires = refl
numbered TooManyGates = refl
numbered DrivenTwice = refl
numbered NotWellFormed = refl
numbered WrongInputs = refl

pub same-reason : (r s : Reason) → number r ≡ number s → r ≡ s
same-reason r s e = sym (numbered r) ∙ ap reason_of e ∙ numbered s

pub same-refusal : (d e : Refusal) → number d.reason ≡ number e.reason → d.place ≡ e.place → d ≡ e
same-refusal d e h g = let k : record { reason = d.reason; place = d.place } ≡ e = rw (same-reason d.reason e.reason h, g) in k

pub number-some : (r : Reason) → 0 < number r
number-some ShortBuffer = omega arith
number-some LongText = omega arith
number-some NoWord = omega arith
number-some WrongOrder = omega arith
number-some TooMany = omega arith
number-some DeclaredTwice = omega arith
number-some WrongName = omega arith
number-some WrongShape = omega arith
number-some NoMain = omega arith
number-some OutOfRange = omega arith
number-some WrongVector = omega arith
number-some OutsideVector = omega arith
number-some UnequalVectors = omega arith
number-some TooDeep = omega arith
number-some TooManySteps = omega arith
number-some TooManyWires = omega arith
number-some TooManyGates = omega arith
number-some DrivenTwice = omega arith
number-some NotWellFormed = omega arith
number-some WrongInputs = omega arith
