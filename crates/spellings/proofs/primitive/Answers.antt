use Rattle.std.proofs.Common.{rules}
use Rattle.std.proofs.lemmas.Iterator.{first_from_Range}
use borrow.Author.Tests.{tests}
use Rattle.sweep.proofs.Laws.Leaves.{finds-gate}
use Rattle.spellings.proofs.primitive.Goals as goal

pub returns : goal.returns
returns c = finds-gate c.args.name.now c.find.result (first_from_Range _ _ _ c.find.result _ _ c.find.ensures.ran (λ x q k. search (rules, tests)) (λ x q k. search (rules, tests)))
