-- The numbers of marks and reserved words, which `key` of the rules gives by their spelling. Assumes nothing.
use Rattle.std.specs.Prelude.{ℕ}
use Rattle.rules.specs.Words.{key}
use Rattle.marks.specs.declared.Key.{Key}
use Rattle.marks.specs.declared.Key.TheVariants.{Nothing, Block, Var, Begin, End, Generate, For, If, Then, Wire, Vector, Of, Num, Beside, Below, Open, Close, Times, Plus, Comma, Minus, Dots, Colon, Semicolon, Equals, Left, Right}

abbrev pub code : Key → ℕ
code Nothing = key ""
code Block = key "BLOCK"
code Var = key "VAR"
code Begin = key "BEGIN"
code End = key "END"
code Generate = key "GENERATE"
code For = key "FOR"
code If = key "IF"
code Then = key "THEN"
code Wire = key "WIRE"
code Vector = key "VECTOR"
code Of = key "OF"
code Num = key "NUM"
code Beside = key "BESIDE"
code Below = key "BELOW"
code Open = key "("
code Close = key ")"
code Times = key "*"
code Plus = key "+"
code Comma = key ","
code Minus = key "-"
code Dots = key ".."
code Colon = key ":"
code Semicolon = key ";"
code Equals = key "="
code Left = key "["
code Right = key "]"
