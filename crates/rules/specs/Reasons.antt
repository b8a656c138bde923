-- The numbers of the reasons for which a job is refused (01, "Numbers of the answers"). Assumes nothing.
use Rattle.std.specs.Prelude.{ℕ}
use Rattle.rules.specs.declared.Reason.{Reason}
use Rattle.rules.specs.declared.Reason.TheVariants.{ShortBuffer, LongText, NoWord, WrongOrder, TooMany, DeclaredTwice, WrongName, WrongShape, NoMain, OutOfRange, WrongVector, OutsideVector, UnequalVectors, TooDeep, TooManySteps, TooManyWires, TooManyGates, DrivenTwice, NotWellFormed, WrongInputs}

abbrev pub number : Reason → ℕ
number ShortBuffer = 1
number LongText = 2
number NoWord = 3
number WrongOrder = 4
number TooMany = 5
number DeclaredTwice = 6
number WrongName = 7
number WrongShape = 8
number NoMain = 9
number OutOfRange = 10
number WrongVector = 11
number OutsideVector = 12
number UnequalVectors = 13
number TooDeep = 14
number TooManySteps = 15
number TooManyWires = 16
number TooManyGates = 17
number DrivenTwice = 18
number NotWellFormed = 19
number WrongInputs = 20
