use Rattle.lists.specs.Items.{counted}
use Rattle.declarations.specs.Parts.{generic-got}
use native.Mathlib.Omega.{arith}
use Rattle.declarations.proofs.generic.Goals as goal

pub returns-clause-gives : goal.returns-clause-gives
returns-clause-gives c = counted _ (generic-got _ _ _ _ _ c.in_ok-name.ensures.tells (omega (arith, c.in_ok-name.ensures.named)) c.store_name.ensures) (omega arith)
