use Rattle.std.proofs.Common.{arith}
use Rattle.write.specs.Put.{copied}
use Rattle.write.proofs.copy.Goals as goal

pub returns : goal.returns
returns c = record { next = omega arith; text = copied c.args.text.now c.args.s.now c.args.at _ c.requires c.copy_from_slice.ensures.after (omega arith) }
