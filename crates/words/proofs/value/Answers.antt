use Rattle.std.proofs.Common.{arith, ◌∙◌}
use Rattle.words.proofs.Digits.{ten-more, a-digit, on, said}
use Rattle.words.proofs.value.Goals as goal

pub overflow_sub-b : goal.overflow_sub-b
overflow_sub-b c = (a-digit c.args.digits.now c.loop-b.b-index c.loop-b-test.true c.loop-b.invariant.digits).0

pub loop-b-preserved : goal.loop-b-preserved
loop-b-preserved c =
    let (f, g, h) = a-digit c.args.digits.now c.loop-b.b-index c.loop-b-test.true c.loop-b.invariant.digits in
    record { small = omega (arith, c.from.ensures, ten-more c.loop-b.b-index); digits = h; says = c.loop-b.invariant.says ∙ rw c.from.ensures (on c.args.digits.now c.loop-b.v c.loop-b.b-index c.loop-b-test.true) }

pub returns : goal.returns
returns c = said c.args.digits.now c.loop-b.v c.loop-b.b-index c.loop-b-test.false c.loop-b.invariant.says
