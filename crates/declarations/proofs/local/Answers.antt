use Rattle.declarations.specs.Parts.{sort-off, local-off, local-got}
use Rattle.marks.specs.Laws.Exits.{gives_on}
use Rattle.marks.specs.Laws.One.{on, stop, passed}
use Rattle.rules.specs.Grammar.{local as local_at}
use Rattle.tape.specs.Encoding.{decl_w}
use Rattle.tape.specs.Layout.{name_w, VAR}
use Rattle.lists.specs.Items.{and-one, counted}
use mathlib.Core.Path.{◌∙◌}
use native.Mathlib.Omega.{arith}
use Rattle.declarations.proofs.local.Goals as goal

pub returns-in_err-name-clause-gives : goal.returns-in_err-name-clause-gives
unfolding local_at
returns-in_err-name-clause-gives c = gives_on (and-one c.args.before.names) (decl_w name_w VAR) _ _ _ _ _ c.from_residual.ensures.1 (stop _ _ _ c.in_err-name.ensures.tells)

pub returns-in_err-colon-clause-gives : goal.returns-in_err-colon-clause-gives
unfolding local_at
returns-in_err-colon-clause-gives c = gives_on (and-one c.args.before.names) (decl_w name_w VAR) _ _ _ _ _ c.from_residual-in_err-colon.ensures.1 (on _ _ _ c.in_ok-name.ensures.tells ∙ stop _ _ _ (passed ":" _ _ c.in_err-colon.ensures.tells))

pub returns-in_err-read-clause-gives : goal.returns-in_err-read-clause-gives
returns-in_err-read-clause-gives c = gives_on (and-one c.args.before.names) (decl_w name_w VAR) _ _ _ _ _ c.from_residual-in_err-read.ensures.1 (sort-off _ 0 _ _ _ _ c.in_ok-name.ensures.tells (omega (arith, c.in_ok-name.ensures.named)) (passed ":" _ _ c.in_ok-colon.ensures.tells) c.in_err-read.ensures.gives)

pub returns-in_err-semicolon-clause-gives : goal.returns-in_err-semicolon-clause-gives
returns-in_err-semicolon-clause-gives c = gives_on (and-one c.args.before.names) (decl_w name_w VAR) _ _ _ _ _ c.from_residual-in_err-semicolon.ensures.1 (local-off _ _ _ _ _ _ c.in_ok-name.ensures.tells (omega (arith, c.in_ok-name.ensures.named)) (passed ":" _ _ c.in_ok-colon.ensures.tells) c.in_ok-read.ensures.gives (passed ";" _ _ c.in_err-semicolon.ensures.tells))

pub returns-clause-gives : goal.returns-clause-gives
returns-clause-gives c = counted _ (local-got _ _ _ _ _ _ c.in_ok-name.ensures.tells (omega (arith, c.in_ok-name.ensures.named)) (passed ":" _ _ c.in_ok-colon.ensures.tells) c.in_ok-read.ensures.gives (passed ";" _ _ c.in_ok-semicolon.ensures.tells)) (omega arith)
