use Rattle.std.proofs.Common.{arith}
use Rattle.sweep.proofs.Laws.Leaves.{letters-clipped}
use Rattle.spellings.proofs.letters.Goals as goal

pub returns : goal.returns
returns c = letters-clipped c.args.text.now c.args.word c.place_of.result c.value_of.result c.min-start.result c.min-end.result c.place_of.ensures c.value_of.ensures (omega arith) (omega arith)
