use Rattle.std.proofs.Common.{◌+◌, ◌*◌, rules, arith}
use Rattle.std.proofs.lemmas.Slice.{overwrites}
use Rattle.frames.specs.Laid.{laid-is}
use Rattle.gates.specs.Shows.{words_of}
use Rattle.gates.proofs.write.Goals as goal

pub returns : goal.returns
returns c = rw (laid-is (words_of c.args.gate) c.args.net.now (4 + 5 * c.args.n) (omega arith)) (search (rules, overwrites))
