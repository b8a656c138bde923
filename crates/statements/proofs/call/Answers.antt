use Rattle.std.proofs.Common.{◌∙◌}
use Rattle.marks.specs.Laws.Exits.{gives_on}
use Rattle.marks.specs.Laws.One.{on, stop}
use Rattle.rules.specs.Grammar.{calling}
use Rattle.statements.specs.Loops.{called}
use Rattle.tape.specs.Encoding.{stmts_w, callee_w}
use Rattle.tape.specs.Layout.{name_w}
use Rattle.tape.specs.Written.{none}
use Rattle.statements.proofs.call.Goals as goal

pub returns-in_err-generics-clause-gives : goal.returns-in_err-generics-clause-gives
unfolding calling
returns-in_err-generics-clause-gives c = gives_on none (stmts_w name_w callee_w) _ _ _ _ _ c.from_residual.ensures.1 (stop _ _ _ c.in_err-generics.ensures.gives)

pub returns-in_err-inputs-clause-gives : goal.returns-in_err-inputs-clause-gives
unfolding calling
returns-in_err-inputs-clause-gives c =
    gives_on none (stmts_w name_w callee_w) _ _ _ _ _ c.from_residual-in_err-inputs.ensures.1 (on _ _ _ c.in_ok-generics.ensures.gives.reads ∙ stop _ _ _ c.in_err-inputs.ensures.gives)

pub returns-in_err-outputs-clause-gives : goal.returns-in_err-outputs-clause-gives
unfolding calling
returns-in_err-outputs-clause-gives c =
    gives_on none (stmts_w name_w callee_w) _ _ _ _ _ c.from_residual-in_err-outputs.ensures.1
    (on _ _ _ c.in_ok-generics.ensures.gives.reads ∙ on _ _ _ c.in_ok-inputs.ensures.gives.reads ∙ stop _ _ _ c.in_err-outputs.ensures.gives)

pub returns-clause-gives : goal.returns-clause-gives
returns-clause-gives c = called _ _ _ c.requires.2 c.store_name.ensures c.in_ok-generics.ensures.gives c.in_ok-inputs.ensures.gives c.in_ok-outputs.ensures.gives
