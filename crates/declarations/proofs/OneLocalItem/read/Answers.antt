use Rattle.declarations.specs.Parts.{local-any}
use Rattle.marks.specs.Laws.Lists.{via}
use Rattle.declarations.proofs.OneLocalItem.read.Goals as goal

pub returns-clause-gives : goal.returns-clause-gives
returns-clause-gives c = via _ _ _ _ _ c.local.result (local-any _ _ _ _ _) c.local.ensures.gives
