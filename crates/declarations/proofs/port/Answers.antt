use Rattle.declarations.specs.Parts.{port-gives}
use Rattle.marks.specs.Laws.Exits.{gives_on}
use Rattle.marks.specs.Laws.One.{on, stop, passed}
use Rattle.rules.specs.Grammar.{port as port_at}
use Rattle.tape.specs.Encoding.{decl_w}
use Rattle.tape.specs.Layout.{name_w}
use Rattle.lists.specs.Items.{and-one, counted}
use Rattle.std.specs.Prelude.{Ok}
use mathlib.Core.Path.{◌∙◌}
use native.Mathlib.Omega.{arith}
use Rattle.declarations.proofs.port.Goals as goal

pub returns-in_err-name-clause-gives : goal.returns-in_err-name-clause-gives
unfolding port_at
returns-in_err-name-clause-gives c = gives_on (and-one c.args.before.names) (decl_w name_w _) _ _ _ _ _ c.from_residual.ensures.1 (stop _ _ _ c.in_err-name.ensures.tells)

pub returns-in_err-colon-clause-gives : goal.returns-in_err-colon-clause-gives
unfolding port_at
returns-in_err-colon-clause-gives c = gives_on (and-one c.args.before.names) (decl_w name_w _) _ _ _ _ _ c.from_residual-in_err-colon.ensures.1 (on _ _ _ c.in_ok-name.ensures.tells ∙ stop _ _ _ (passed ":" _ _ c.in_err-colon.ensures.tells))

pub returns-in_err-read-clause-gives : goal.returns-in_err-read-clause-gives
unfolding port_at
returns-in_err-read-clause-gives c = gives_on (and-one c.args.before.names) (decl_w name_w _) _ _ _ _ _ c.from_residual-in_err-read.ensures.1 (on _ _ _ c.in_ok-name.ensures.tells ∙ on _ _ _ (passed ":" _ _ c.in_ok-colon.ensures.tells) ∙ stop _ _ _ c.in_err-read.ensures.gives)

pub returns-clause-gives : goal.returns-clause-gives
returns-clause-gives c = counted _ (port-gives _ _ _ _ _ _ c.in_ok-name.ensures.tells (omega (arith, c.in_ok-name.ensures.named)) (passed ":" _ _ c.in_ok-colon.ensures.tells) _ _ _ (Ok _) c.in_ok-read.ensures.gives) (omega arith)
