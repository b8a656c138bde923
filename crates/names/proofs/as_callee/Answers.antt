use Rattle.std.proofs.Common.{◌∙◌}
use Rattle.headings.specs.Callee.{wanted-is}
use Rattle.std.proofs.lemmas.Result.{err_from_is_err_and}
use Rattle.sweep.proofs.Laws.Steps.{call-unknown, call-bars, call-fits}
use Rattle.names.proofs.as_callee.Goals as goal

pub returns-in_err-callee : goal.returns-in_err-callee
returns-in_err-callee c = let p = err_from_is_err_and c.from_residual.result c.from_residual.ensures.1 in rw (p.1, p.2) (call-unknown c.args.blocks.now.text.now c.args.blocks.now.headings.words.now c.args.blocks.now.headings.firsts.now c.args.blocks.now.titles.now c.args.word c.args.rest.now c.in_err-callee.ensures)

pub returns-then-not-counts_fit : goal.returns-then-not-counts_fit
returns-then-not-counts_fit c = rw c.refusal.ensures (call-bars c.args.blocks.now.text.now c.args.blocks.now.headings.words.now c.args.blocks.now.headings.firsts.now c.args.blocks.now.titles.now c.args.word c.args.rest.now c.in_ok-callee.ensures.0 _ (rw (c.heading_of.ensures ∙ wanted-is c.args.blocks.now.headings.words.now c.args.blocks.now.headings.firsts.now c.in_ok-callee.callee c.in_ok-callee.ensures.1) at c.counts_fit.ensures) c.if-not-counts_fit.true)

pub returns : goal.returns
returns c = (call-fits c.args.blocks.now.text.now c.args.blocks.now.headings.words.now c.args.blocks.now.headings.firsts.now c.args.blocks.now.titles.now c.args.word c.args.rest.now c.in_ok-callee.ensures.0 _ (rw (c.heading_of.ensures ∙ wanted-is c.args.blocks.now.headings.words.now c.args.blocks.now.headings.firsts.now c.in_ok-callee.callee c.in_ok-callee.ensures.1) at c.counts_fit.ensures) c.if-not-counts_fit.false, c.in_ok-callee.ensures.1)
