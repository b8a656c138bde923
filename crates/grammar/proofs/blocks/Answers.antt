use Rattle.lists.specs.Items.{from, uncounted}
use Rattle.grammar.specs.Parts.{text-off, text-gives}
use Rattle.marks.specs.Laws.Exits.{gives_on}
use Rattle.marks.specs.Laws.One.{stop, passed}
use Rattle.rules.specs.Grammar.{blocks as blocks_at}
use Rattle.tape.specs.Encoding.{list_w, block_w, callee_w}
use Rattle.tape.specs.Layout.{name_w}
use Rattle.grammar.proofs.blocks.Goals as goal

pub returns-in_err-next-clause-gives : goal.returns-in_err-next-clause-gives
unfolding blocks_at
returns-in_err-next-clause-gives c = gives_on (from 0) (list_w (block_w name_w callee_w)) _ _ _ _ _ c.from_residual.ensures.1 (stop _ _ _ (passed "BLOCK" _ _ c.in_err-next.ensures.tells))

pub returns-in_err-first-clause-gives : goal.returns-in_err-first-clause-gives
returns-in_err-first-clause-gives c = gives_on (from 0) (list_w (block_w name_w callee_w)) _ _ _ _ _ c.from_residual-in_err-first.ensures.1 (text-off _ (passed "BLOCK" _ _ c.in_ok-next.ensures.tells) c.in_err-first.ensures.gives)

pub returns-clause-gives : goal.returns-clause-gives
returns-clause-gives c = text-gives _ (passed "BLOCK" _ _ c.in_ok-next.ensures.tells) (uncounted 0 c.in_ok-first.ensures.gives) _ c.more.result (rw c.in_ok-first.ensures.gives.counts at c.more.ensures.lists)
