use Rattle.std.proofs.Common.{arith}
use Rattle.read.specs.Ahead.{number_read}
use Rattle.read.proofs.reader.Reader.number.Goals as goal

pub returns-then-v-lt10000-clause-by_index : goal.returns-then-v-lt10000-clause-by_index
returns-then-v-lt10000-clause-by_index c = λ n ps h a z. number_read n _ h a z c.value-v.ensures.value

pub returns-else-v-lt10000-clause-by_index : goal.returns-else-v-lt10000-clause-by_index
returns-else-v-lt10000-clause-by_index c = λ n ps h a z. absurd (omega (arith, number_read n _ h a z c.value-v.ensures.value, h))
