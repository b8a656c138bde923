-- What a word of the tape says of a name: its place, its letters in the text s, and, where it is declared, its role. Assumes nothing.
use Rattle.std.specs.Prelude.{ℕ, ◌+◌, ◌*◌, ◌/◌, ◌%◌, List, map, take, drop, eqb}
use Rattle.rules.specs.Text.{pick}
use Rattle.rules.specs.Syntax.{Name}
use Rattle.rules.specs.Names.{Role, a-generic, a-wire, a-vector, an-index, Entry, Scope}
use Rattle.tape.specs.Layout.{kind_of, head_in, value_of, GENERIC}

-- a place is below 2^15
abbrev pub place_of : ℕ → ℕ
place_of w = value_of w / 32 % 32768

unfoldable pub letters_of : List ℕ → ℕ → List ℕ
letters_of s w = take (value_of w % 32) (drop (place_of w) s)

abbrev pub name_of : List ℕ → ℕ → Name
name_of s w = record { place = place_of w; letters = letters_of s w }

-- the word with another value
abbrev pub valued : ℕ → ℕ → ℕ
valued w v = w / 33554432 * 33554432 + v

unfoldable pub role_in : ℕ → Role
role_in w = pick (eqb (kind_of w) GENERIC) a-generic (pick (eqb (head_in w) 0) a-wire (pick (eqb (head_in w) 1) a-vector an-index))

abbrev pub entry_of : List ℕ → ℕ → Entry
entry_of s w = record { letters = letters_of s w; role = role_in w }

-- a scope by the words of its declared names
abbrev pub scope_in : List ℕ → List ℕ → Scope
scope_in s ws = map (entry_of s) ws
