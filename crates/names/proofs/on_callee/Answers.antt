use Rattle.headings.specs.Callee.{wanted-is}
use Rattle.std.proofs.Common.{refl, ◌∙◌}
use Rattle.std.proofs.lemmas.Result.{err_from_is_err_and}
use Rattle.sweep.proofs.Laws.Steps.{then-no, then-state}
use Rattle.names.proofs.on_callee.Goals as goal

pub returns-in_err-callee : goal.returns-in_err-callee
returns-in_err-callee c = λ scope until. let p = err_from_is_err_and c.from_residual.result c.from_residual.ensures.1 in rw (p.1, p.2) (then-no _ c.in_err-callee.ensures)

pub returns : goal.returns
returns c = λ scope until. then-state _ c.in_ok-callee.ensures.0 (c.with_value.ensures ∙ rw (c.place_of.ensures, c.code.ensures.0) refl) (rw (c.heading_of-heading.ensures ∙ wanted-is c.args.blocks.now.headings.words.now c.args.blocks.now.headings.firsts.now c.in_ok-callee.callee c.in_ok-callee.ensures.1) refl)
