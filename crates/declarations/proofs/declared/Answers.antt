use Rattle.marks.specs.Laws.Exits.{tells_on}
use Rattle.marks.specs.Laws.One.{stop}
use Rattle.rules.specs.Grammar.{declared as declared_at}
use Rattle.rules.specs.Readers.{spelling}
use Rattle.declarations.proofs.declared.Goals as goal

pub returns-in_err-name-clause-tells : goal.returns-in_err-name-clause-tells
unfolding declared_at
returns-in_err-name-clause-tells c = tells_on (spelling _) _ _ c.from_residual.ensures.1 (stop _ _ _ c.in_err-name.ensures.tells)
