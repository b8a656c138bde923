use Rattle.std.proofs.Common.{ap, length}
use Rattle.read.specs.Ahead.{gate-read}
use Rattle.read.proofs.reader.Reader.gate.Goals as goal

pub returns : goal.returns
returns c =
    λ g ps f a.
    gate-read g f a _ _ _ _ _ _ _ _ _ _ _ _ _ _ c.kind-kind.ensures c.inputs-n.ensures (ap length c.name.ensures) c.skip.ensures
    c.slot-a.ensures c.slot-b.ensures c.slot-c.ensures c.skip-2.ensures c.wire-out.ensures c.skip-3.ensures
