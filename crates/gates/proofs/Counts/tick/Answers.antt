use Rattle.std.proofs.Common.{arith}
use Rattle.gates.specs.Shows.{tick-on, tick-off}
use Rattle.gates.proofs.Counts.tick.Goals as goal

pub returns-then-self-ge-STEPS : goal.returns-then-self-ge-STEPS
returns-then-self-ge-STEPS c v net marks h = tick-off h (omega (arith, c.if-self-ge-STEPS.true))

pub returns : goal.returns
returns c v net marks h = tick-on h (omega (arith, c.if-self-ge-STEPS.false))
