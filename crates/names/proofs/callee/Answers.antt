use Rattle.std.proofs.Common.{arith}
use Rattle.std.proofs.lemmas.List.{length-map}
use Rattle.sweep.specs.Spelling.{letters_of}
use Rattle.sweep.proofs.Laws.Steps.{callee-gate, callee-none, callee-block}
use Rattle.names.proofs.callee.Goals as goal

pub returns-in-Some : goal.returns-in-Some
returns-in-Some c = (callee-gate c.args.blocks.now.text.now c.args.blocks.now.titles.now c.args.word (rw c.letters-name.ensures at c.in-Some.ensures), c.in-Some.ensures.1)

pub returns-in-Some-find : goal.returns-in-Some-find
returns-in-Some-find c = (callee-block c.args.blocks.now.text.now c.args.blocks.now.titles.now c.args.word (rw c.letters-name.ensures at c.in_default.ensures) (rw c.letters-name.ensures at c.in-Some-find.ensures), omega (arith, c.in-Some-find.ensures.1, length-map c.args.blocks.now.titles.now (letters_of c.args.blocks.now.text.now), c.args.blocks.now.few))

pub returns-in-None : goal.returns-in-None
returns-in-None c = rw c.refusal.ensures (callee-none c.args.blocks.now.text.now c.args.blocks.now.titles.now c.args.word (rw c.letters-name.ensures at c.in_default.ensures) (rw c.letters-name.ensures at c.in-None.ensures))
