use Rattle.lists.specs.Items.{from, uncounted}
use Rattle.declarations.specs.Rows.{generics-row}
use Rattle.marks.specs.Laws.Exits.{gives_on}
use Rattle.marks.specs.Laws.Lists.{first_of, first_off, list-empty, via}
use Rattle.marks.specs.Laws.One.{there, absent}
use Rattle.rules.specs.Grammar.{generics as generics_at}
use Rattle.rules.specs.Readers.{give}
use Rattle.tape.specs.Encoding.{list_w, generic_w}
use Rattle.tape.specs.Written.{nothing, as-words}
use native.Mathlib.Omega.{arith}
use mathlib.Core.List.{[]}
use mathlib.Core.Path.{refl, sym, ◌∙◌}
use Rattle.declarations.proofs.generics.Goals as goal

pub returns-in_default-clause-gives : goal.returns-in_default-clause-gives
unfolding generics_at give
returns-in_default-clause-gives c = record { value = []; reads = absent "(" _ _ _ _ c.in_default.ensures.spots; wrote = as-words (sym (list-empty _)) (nothing _ _); counts = refl }

pub returns-in_err-first-clause-gives : goal.returns-in_err-first-clause-gives
unfolding generics_at
returns-in_err-first-clause-gives c = gives_on (from 0) (list_w generic_w) _ _ _ _ _ c.from_residual.ensures.1 (there "(" _ _ _ _ c.in-Some.ensures.spots ∙ first_off (generics-row _) 0 _ c.in_err-first.ensures.gives)

pub returns-clause-gives : goal.returns-clause-gives
unfolding generics_at
returns-clause-gives c = via _ _ _ _ _ c.more.result (there "(" _ _ _ _ c.in-Some.ensures.spots) (first_of (generics-row _) 0 _ _ c.more.result (uncounted 0 c.in_ok-first.ensures.gives) _ (omega (arith, c.in_ok-first.ensures.gives.counts)) c.more.ensures.lists)
