-- A resolved program's words: a name is the number of its declaration, a call's word holds its place and what it means. Assumes nothing.
use Rattle.std.specs.Prelude.{ℕ, ◌+◌, ◌*◌, List}
use Rattle.rules.specs.Syntax.{Callee, gate, block, Program}
use Rattle.tape.specs.Encoding.{blocks_w}

abbrev pub slot_w : ℕ → ℕ
slot_w k = k

-- a primitive by its kind, a block by its number and 10
unfoldable pub callee_number : Callee → ℕ
callee_number (gate k) = k
callee_number (block b) = 10 + b

abbrev pub meant_w : ℕ → Callee → ℕ
meant_w p c = p * 128 + callee_number c

-- the tape of a resolved program
abbrev pub resolved_tape : Program → List ℕ
resolved_tape P = blocks_w slot_w meant_w P.blocks
