use Rattle.sweep.proofs.Laws.Steps.{block-bars, block-begins}
use Rattle.names.proofs.on_block.Goals as goal

pub returns-then-taken : goal.returns-then-taken
returns-then-taken c = λ scope until. rw c.refusal.ensures (block-bars c.args.blocks.now.text.now _ c.args.word _ (rw (c.letters.ensures, c.front-before.ensures) at c.taken.ensures) _ c.if-taken.true)

pub returns : goal.returns
returns c = λ scope until. rw c.min.ensures (block-begins c.args.blocks.now.text.now _ c.args.word _ (rw (c.letters.ensures, c.front-before.ensures) at c.taken.ensures) _ c.if-taken.false)
