use Rattle.std.proofs.Common.{◌<◌}
use Rattle.read.specs.Ahead.{SofarAt}
use Rattle.read.proofs.reader.Reader.value.Given as goal

abbrev pub invariant-loop-i : goal.invariant-loop-i
invariant-loop-i l = (l.value < 300000) × SofarAt l.self.rest.now l.i l.value
