use Rattle.run.specs.Visits.{settling}
use native.Mathlib.Omega.{arith}
use Rattle.run.proofs.visit.Goals as goal

pub returns : goal.returns
returns c =
    settling _ _ _ _ c.gate-g.ensures c.inputs-n.ensures c.from-o.ensures (omega arith) c.pin-x.ensures (omega arith) c.pin-y.ensures (omega arith) c.pin-z.ensures (omega arith)
    c.bit.ensures
