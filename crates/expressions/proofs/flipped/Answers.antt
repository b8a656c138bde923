use Rattle.rules.specs.Text.{pick}
use Rattle.tape.specs.Layout.{flip}
use borrow.Author.Tests.{eq-eqb, ne_eqb}
use native.Mathlib.Omega.{arith}
use Rattle.expressions.proofs.flipped.Goals as goal

pub returns-then-head-eq0 : goal.returns-then-head-eq0
unfolding flip pick
returns-then-head-eq0 c = (rw (eq-eqb _ _ c.if-head-eq0.true), omega (arith, c.requires))

pub returns-else-head-eq0 : goal.returns-else-head-eq0
unfolding flip pick
returns-else-head-eq0 c = (rw (ne_eqb _ _ c.if-head-eq0.false), omega (arith, c.requires))
