use Rattle.clear.specs.Zeros.{zeros}
use Rattle.netlist.specs.Answers.{told}
use Rattle.netlist.specs.Decides.{holds, fails}
use Rattle.read.specs.Guess.{read_short, read_none, read_done}
use mathlib.Core.Path.{ap, ◌∙◌}
use native.Mathlib.Omega.{arith}
use Rattle.read.proofs.read.Goals as goal

pub returns-then-net-lt5124 : goal.returns-then-net-lt5124
unfolding told
returns-then-net-lt5124 c =
    read_short c.all.ensures (omega (arith, c.all.auto.lent))

pub returns-then-not-written_as : goal.returns-then-not-written_as
unfolding told
returns-then-not-written_as c =
    read_none (omega (arith, c.all.auto.lent, c.if-net-lt5124.false)) c.all.ensures c.guess.ensures (c.all-then-not-written_as.ensures ∙ ap zeros (c.guess.auto.net ∙ c.all.auto.lent))
    (fails c.written_as.ensures c.if-not-written_as.true)

pub returns : goal.returns
unfolding told
returns c =
    read_done (omega (arith, c.all.auto.lent, c.if-net-lt5124.false)) c.all.ensures c.guess.ensures (holds c.written_as.ensures c.if-not-written_as.false)
