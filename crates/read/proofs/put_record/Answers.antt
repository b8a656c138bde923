use Rattle.std.proofs.Common.{◌+◌, ◌*◌, arith, rules}
use Rattle.write.specs.Put.{copied}
use Rattle.read.specs.Body.{record_of}
use Rattle.read.proofs.put_record.Goals as goal

pub returns : goal.returns
returns c = record {
  next = omega arith;
  text = rw c.from.ensures (copied c.args.net.now (record_of c.args.g) (4 + 5 * c.args.i) _ (omega arith) (search rules) (omega arith));
}
