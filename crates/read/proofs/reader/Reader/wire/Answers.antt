use Rattle.read.specs.Ahead.{wire-read}
use Rattle.read.proofs.reader.Reader.wire.Goals as goal

pub returns : goal.returns
returns c = λ n ps h a z. wire-read n h a z c.skip.ensures c.number-number.ensures.by_index c.width.ensures.0 c.skip-2.ensures
