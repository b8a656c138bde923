use Rattle.declarations.specs.Parts.{num-got}
use Rattle.marks.specs.Laws.Lists.{via}
use Rattle.marks.specs.Laws.One.{absent}
use Rattle.declarations.proofs.sort.Goals as goal

pub returns-in-Some-clause-gives : goal.returns-in-Some-clause-gives
returns-in-Some-clause-gives c = num-got _ _ _ _ c.in-Some.ensures.spots c.store_name.ensures

pub returns-clause-gives : goal.returns-clause-gives
returns-clause-gives c = via _ _ _ _ _ c.typed.result (absent "NUM" _ _ _ _ c.in_default.ensures.spots) c.typed.ensures.gives
