use Rattle.std.proofs.Common.{◌≡◌, arith, length}
use Rattle.rules.specs.Words.{word_at}
use Rattle.rules.specs.declared.Word.TheVariants.{Mark}
use Rattle.words.proofs.Beginnings.{places}
use Rattle.words.proofs.Places.{told}
use Rattle.words.proofs.word_at.Goals as goal

pub returns-then-p-text-clause-onward : goal.returns-then-p-text-clause-onward
returns-then-p-text-clause-onward c =
    let e : c.begun.result ≡ word_at c.args.text.now c.args.at = grind (arith, places) in
    (told c.args.text.now c.args.at e).1

pub returns-clause-onward : goal.returns-clause-onward
returns-clause-onward c =
    let e : Mark 0 (length c.args.text.now) (length c.args.text.now) ≡ word_at c.args.text.now c.args.at = grind (arith, places) in
    (told c.args.text.now c.args.at e).1
