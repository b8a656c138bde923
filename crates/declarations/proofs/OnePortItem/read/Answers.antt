use Rattle.declarations.specs.Parts.{port-any}
use Rattle.marks.specs.Laws.Lists.{via}
use Rattle.declarations.proofs.OnePortItem.read.Goals as goal

pub returns-clause-gives : goal.returns-clause-gives
returns-clause-gives c = via _ _ _ _ _ c.port.result (port-any _ _ _ _ _) c.port.ensures.gives
