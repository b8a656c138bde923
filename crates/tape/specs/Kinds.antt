-- The kinds of the words of a tape, by name: the numbers are those of the layout. Assumes nothing.
use Rattle.std.specs.Prelude.{ℕ}
use Rattle.tape.specs.Layout.{NUMBER, NAME, BRACKET, CALL, INPUT, OUTPUT, LOOP, INDEX, BODY, BLOCK, GENERIC, IN, OUT, VAR}
use Rattle.tape.specs.declared.Kind.{Kind}
use Rattle.tape.specs.declared.Kind.TheVariants.{Number, Name, Bracket, Call, Input, Output, Loop, Index, Body, Block, Generic, In, Out, Var, FirstFree, SecondFree}

abbrev pub code : Kind → ℕ
code Number = NUMBER
code Name = NAME
code Bracket = BRACKET
code Call = CALL
code Input = INPUT
code Output = OUTPUT
code Loop = LOOP
code Index = INDEX
code Body = BODY
code Block = BLOCK
code Generic = GENERIC
code In = IN
code Out = OUT
code Var = VAR
code FirstFree = 14
code SecondFree = 15
