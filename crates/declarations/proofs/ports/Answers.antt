use Rattle.lists.specs.Items.{from, uncounted}
use Rattle.declarations.specs.Rows.{ports-row}
use Rattle.marks.specs.Laws.Exits.{gives_on}
use Rattle.marks.specs.Laws.Lists.{first_of, first_off, list-empty, via}
use Rattle.marks.specs.Laws.One.{on, stop, passed, there, absent}
use Rattle.rules.specs.Grammar.{ports as ports_at}
use Rattle.rules.specs.Readers.{any, give}
use Rattle.tape.specs.Encoding.{list_w, decl_w}
use Rattle.tape.specs.Kinds.{code}
use Rattle.tape.specs.Layout.{name_w}
use Rattle.tape.specs.Written.{nothing, as-words}
use mathlib.Core.List.{[]}
use mathlib.Core.Path.{sym, ◌∙◌}
use native.Mathlib.Omega.{arith}
use Rattle.declarations.proofs.ports.Goals as goal

pub returns-in_err-next-clause-gives : goal.returns-in_err-next-clause-gives
unfolding ports_at
returns-in_err-next-clause-gives c = gives_on (from _) (list_w (decl_w name_w _)) _ _ _ _ _ c.from_residual.ensures.1 (stop _ _ _ (passed "[" _ _ c.in_err-next.ensures.tells))

pub returns-in-Some-clause-gives : goal.returns-in-Some-clause-gives
unfolding ports_at any give
returns-in-Some-clause-gives c = record { value = []; reads = on _ _ _ (passed "[" _ _ c.in_ok-next.ensures.tells) ∙ there "]" _ _ _ _ c.in-Some.ensures.spots; wrote = as-words (sym (list-empty _)) (nothing _ _); counts = omega arith }

pub returns-in_err-first-clause-gives : goal.returns-in_err-first-clause-gives
unfolding ports_at any
returns-in_err-first-clause-gives c = gives_on (from _) (list_w (decl_w name_w _)) _ _ _ _ _ c.from_residual-in_err-first.ensures.1 (on _ _ _ (passed "[" _ _ c.in_ok-next.ensures.tells) ∙ absent "]" _ _ _ _ c.in_default.ensures.spots ∙ first_off (ports-row _ (code c.args.kind)) _ _ c.in_err-first.ensures.gives)

pub returns-clause-gives : goal.returns-clause-gives
unfolding ports_at any
returns-clause-gives c = via _ _ _ _ _ c.more.result (on _ _ _ (passed "[" _ _ c.in_ok-next.ensures.tells) ∙ absent "]" _ _ _ _ c.in_default.ensures.spots) (first_of (ports-row _ _) _ _ _ c.more.result (uncounted c.args.before.names c.in_ok-first.ensures.gives) _ (omega (arith, c.in_ok-first.ensures.gives.counts)) c.more.ensures.lists)
