-- The list of blocks, and their words. Assumes nothing.
use Rattle.std.specs.Prelude.{ℕ, List, [], ◌∷◌}
use Rattle.rules.specs.Grammar.{a_block}
use Rattle.rules.proofs.Laws.Enough.{enough}
use Rattle.tape.specs.Layout.{name_w}
use Rattle.tape.specs.Encoding.{list_w, block_w, callee_w}
use Rattle.tape.specs.Written.{none}
use Rattle.marks.specs.Laws.Lists.{Row, list-empty, list-split}
use Rattle.lists.specs.Items.{from}
use Rattle.declarations.specs.Rows.{grows}

pub blocks-row : (s : List ℕ) → Row s none (block_w name_w callee_w) from (list_w (block_w name_w callee_w)) [] ◌∷◌ (a_block s) "BLOCK" ""
blocks-row s = record { empty = list-empty _; split = list-split _; grows = grows; again = (enough s).texts }
