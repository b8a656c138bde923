use Rattle.grammar.specs.Parts.{generics-off, inputs-off, outputs-off, titled}
use Rattle.grammar.specs.Titles.{titles_on}
use Rattle.marks.specs.Laws.One.{stop}
use Rattle.rules.specs.Grammar.{a_block}
use Rattle.rules.specs.Text.{pick}
use mathlib.Core.Path.{refl}
use native.Mathlib.Omega.{arith}
use Rattle.grammar.proofs.title.Goals as goal

pub returns-in_err-name-clause-titles : goal.returns-in_err-name-clause-titles
unfolding a_block pick
returns-in_err-name-clause-titles c = titles_on _ _ _ _ _ _ _ c.from_residual.ensures.1 (stop _ _ _ c.in_err-name.ensures.tells)

pub returns-in_err-generics-clause-titles : goal.returns-in_err-generics-clause-titles
returns-in_err-generics-clause-titles c = titles_on _ _ _ _ _ _ _ c.from_residual-in_err-generics.ensures.1 (generics-off _ _ _ _ c.in_ok-name.ensures.tells c.in_err-generics.ensures.gives)

pub returns-in_err-inputs-clause-titles : goal.returns-in_err-inputs-clause-titles
returns-in_err-inputs-clause-titles c = titles_on _ _ _ _ _ _ _ c.from_residual-in_err-inputs.ensures.1 (inputs-off _ _ _ _ c.in_ok-name.ensures.tells c.in_ok-generics.ensures.gives c.in_err-inputs.ensures.gives)

pub returns-in_err-outputs-clause-titles : goal.returns-in_err-outputs-clause-titles
returns-in_err-outputs-clause-titles c = titles_on _ _ _ _ _ _ _ c.from_residual-in_err-outputs.ensures.1 (outputs-off _ _ _ _ c.in_ok-name.ensures.tells c.in_ok-generics.ensures.gives c.in_ok-inputs.ensures.gives c.in_err-outputs.ensures.gives)

pub returns-clause-titles : goal.returns-clause-titles
returns-clause-titles c = titled _ _ _ _ c.in_ok-name.ensures.tells c.in_ok-generics.ensures.gives c.in_ok-inputs.ensures.gives c.in_ok-outputs.ensures.gives (omega (arith, c.in_ok-name.ensures.named)) _ _ c.store_name.ensures refl _ c.locals.result c.locals.ensures.gives
