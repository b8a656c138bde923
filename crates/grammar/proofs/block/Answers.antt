use Rattle.grammar.specs.Parts.{block-any, body-off, block-off, block-got}
use Rattle.marks.specs.Laws.Exits.{gives_on}
use Rattle.marks.specs.Laws.One.{passed}
use Rattle.tape.specs.Encoding.{block_w, callee_w}
use Rattle.tape.specs.Layout.{name_w}
use Rattle.lists.specs.Items.{and-one, counted}
use mathlib.Core.Path.{◌∙◌}
use native.Mathlib.Omega.{arith}
use Rattle.grammar.proofs.block.Goals as goal

pub returns-in_err-heading-clause-gives : goal.returns-in_err-heading-clause-gives
returns-in_err-heading-clause-gives c = gives_on (and-one c.args.before.names) (block_w name_w callee_w) _ _ _ _ _ c.from_residual.ensures.1 (block-any _ _ _ _ (omega arith) ∙ c.in_err-heading.ensures.titles)

pub returns-in_err-body-clause-gives : goal.returns-in_err-body-clause-gives
returns-in_err-body-clause-gives c = gives_on (and-one c.args.before.names) (block_w name_w callee_w) _ _ _ _ _ c.from_residual-in_err-body.ensures.1 (body-off _ _ _ _ (omega arith) c.in_ok-heading.ensures.titles c.in_err-body.ensures.gives)

pub returns-in_err-semicolon-clause-gives : goal.returns-in_err-semicolon-clause-gives
returns-in_err-semicolon-clause-gives c = gives_on (and-one c.args.before.names) (block_w name_w callee_w) _ _ _ _ _ c.from_residual-in_err-semicolon.ensures.1 (block-off _ _ _ _ (omega arith) c.in_ok-heading.ensures.titles c.in_ok-body.ensures.gives (passed ";" _ _ c.in_err-semicolon.ensures.tells))

pub returns-clause-gives : goal.returns-clause-gives
returns-clause-gives c = counted _ (block-got _ _ _ _ (omega arith) c.in_ok-heading.ensures.titles c.in_ok-body.ensures.gives (passed ";" _ _ c.in_ok-semicolon.ensures.tells) c.store.ensures) (omega arith)
