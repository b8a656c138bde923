use Rattle.std.specs.Prelude.{◌≡◌, true, false, eqb}
use Rattle.std.proofs.Common.{rules}
use Rattle.std.proofs.lemmas.Iterator.{IsFirst-from_position, YieldsList-from_slice}
use lib.Pointwise.{pointwise}
use borrow.Author.Tests.{tests}
use Rattle.sweep.specs.Spelling.{letters_of}
use Rattle.sweep.proofs.Laws.Leaves.{finds-first}
use Rattle.spellings.proofs.find.Goals as goal

pub returns : goal.returns
returns c =
    finds-first (letters_of c.args.text.now) c.args.name.now c.args.words.now c.position.result (
    IsFirst-from_position _ _ c.position.result (λ w. pointwise eqb c.args.name.now (letters_of c.args.text.now w) ≡ true) (λ w. pointwise eqb c.args.name.now (letters_of c.args.text.now w) ≡ false)
    c.position.ensures.ran (YieldsList-from_slice c.args.words.now cc) (λ x q k. search (rules, tests)) (λ x q k. search (rules, tests))
    )
