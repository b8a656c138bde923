use Rattle.std.proofs.Common.{sym, arith}
use lib.Seq.{set_out}
use Rattle.tape.proofs.keep.Goals as goal

pub returns-else-i-row : goal.returns-else-i-row
returns-else-i-row g c = sym (set_out _ _ _ (omega arith))
