use Rattle.std.proofs.Common.{arith}
use Rattle.read.specs.Ahead.{slot-more, slot-last, slot-none}
use Rattle.read.proofs.reader.Reader.slot.Goals as goal

pub returns-then-k-n : goal.returns-then-k-n
returns-then-k-n c = slot-none _ _ c.if-k-n.true

pub returns-then-k-n-2 : goal.returns-then-k-n-2
returns-then-k-n-2 c = slot-more _ _ c.if-k-n-2.true c.wire-wire.ensures c.skip.ensures

pub returns-else-k-n-2 : goal.returns-else-k-n-2
returns-else-k-n-2 c = slot-last _ _ (omega arith) c.if-k-n-2.false c.wire-wire.ensures
