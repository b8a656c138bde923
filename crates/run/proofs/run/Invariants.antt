use Rattle.run.specs.Going.{Going, twos}
use lib.ListN.{length}
use mathlib.Core.Path.{◌≡◌}
use Rattle.run.proofs.run.Given as goal

abbrev pub invariant-loop-net : goal.invariant-loop-net
invariant-loop-net l = (length l.values ≡ length l.initial.values) × Going l.net.words.now l.inputs l.values

abbrev pub decreases-loop-net : goal.decreases-loop-net
decreases-loop-net l = twos l.values
