use Rattle.std.proofs.Common.{refl, sym, ◌∙◌, []}
use Rattle.marks.specs.Laws.Exits.{gives_on}
use Rattle.marks.specs.Laws.Lists.{first, first_off, list-empty, via}
use Rattle.marks.specs.Laws.One.{on, stop, passed, there, absent}
use Rattle.rules.specs.Grammar.{arguments as arguments_at}
use Rattle.rules.specs.Readers.{any, give}
use Rattle.statements.specs.Rows.{arguments-row}
use Rattle.tape.specs.Encoding.{arg_w, list_w}
use Rattle.tape.specs.Kinds.{code}
use Rattle.tape.specs.Layout.{name_w}
use Rattle.tape.specs.Written.{none, nothing, as-words}
use Rattle.statements.proofs.arguments.Goals as goal

pub returns-in_err-open-clause-gives : goal.returns-in_err-open-clause-gives
unfolding arguments_at
returns-in_err-open-clause-gives c = gives_on none (list_w (arg_w name_w (code c.args.kind))) _ _ _ _ _ c.from_residual.ensures.1 (stop _ _ _ (passed "[" _ _ c.in_err-open.ensures.tells))

pub returns-in-Some-clause-gives : goal.returns-in-Some-clause-gives
unfolding arguments_at any give
returns-in-Some-clause-gives c =
    record { value = []; reads = on _ _ _ (passed "[" _ _ c.in_ok-open.ensures.tells) ∙ there "]" _ _ _ _ c.in-Some.ensures.spots; wrote = as-words (sym (list-empty _)) (nothing _ _); counts = refl }

pub returns-in_err-first-clause-gives : goal.returns-in_err-first-clause-gives
unfolding arguments_at any
returns-in_err-first-clause-gives c =
    gives_on none (list_w (arg_w name_w (code c.args.kind))) _ _ _ _ _ c.from_residual-in_err-first.ensures.1
    (on _ _ _ (passed "[" _ _ c.in_ok-open.ensures.tells) ∙ absent "]" _ _ _ _ c.in_default.ensures.spots ∙ first_off (arguments-row _ (code c.args.kind)) 0 _ c.in_err-first.ensures.gives)

pub returns-clause-gives : goal.returns-clause-gives
unfolding arguments_at any
returns-clause-gives c =
    via _ _ _ _ _ c.more.result (on _ _ _ (passed "[" _ _ c.in_ok-open.ensures.tells) ∙ absent "]" _ _ _ _ c.in_default.ensures.spots)
    (first (arguments-row _ _) 0 _ _ c.more.result c.in_ok-first.ensures.gives (c.more.ensures.lists 1 c.in_ok-first.ensures.gives.counts))
