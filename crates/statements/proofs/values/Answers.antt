use Rattle.std.proofs.Common.{refl, sym, ◌∙◌, []}
use Rattle.marks.specs.Laws.Exits.{gives_on}
use Rattle.marks.specs.Laws.Lists.{first, first_off, list-empty, via}
use Rattle.marks.specs.Laws.One.{there, absent}
use Rattle.rules.specs.Readers.{give}
use Rattle.statements.specs.Rows.{values-row}
use Rattle.tape.specs.Encoding.{exp_w, list_w}
use Rattle.tape.specs.Layout.{name_w}
use Rattle.tape.specs.Written.{none, nothing, as-words}
use Rattle.statements.proofs.values.Goals as goal

pub returns-in_default-clause-gives : goal.returns-in_default-clause-gives
unfolding give
returns-in_default-clause-gives c = record { value = []; reads = absent "(" _ _ _ _ c.in_default.ensures.spots; wrote = as-words (sym (list-empty _)) (nothing _ _); counts = refl }

pub returns-in_err-first-clause-gives : goal.returns-in_err-first-clause-gives
returns-in_err-first-clause-gives c =
    gives_on none (list_w (exp_w name_w 0)) _ _ _ _ _ c.from_residual.ensures.1 (there "(" _ _ _ _ c.in-Some.ensures.spots ∙ first_off (values-row _) 0 _ c.in_err-first.ensures.gives)

pub returns-clause-gives : goal.returns-clause-gives
returns-clause-gives c =
    via _ _ _ _ _ c.more.result (there "(" _ _ _ _ c.in-Some.ensures.spots) (first (values-row _) 0 _ _ c.more.result c.in_ok-first.ensures.gives (c.more.ensures.lists 1 c.in_ok-first.ensures.gives.counts))
