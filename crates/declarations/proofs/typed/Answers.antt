use Rattle.declarations.specs.Parts.{wire-got, wire-off, vector-gives}
use Rattle.marks.specs.Laws.Exits.{gives_on}
use Rattle.marks.specs.Laws.One.{passed}
use Rattle.tape.specs.Encoding.{sort_w}
use Rattle.tape.specs.Layout.{name_w}
use Rattle.tape.specs.Written.{none}
use Rattle.declarations.proofs.typed.Goals as goal

pub returns-in-Some-clause-gives : goal.returns-in-Some-clause-gives
returns-in-Some-clause-gives c = vector-gives _ _ _ _ c.in-Some.ensures.spots _ _ _ _ c.store_name.ensures c.vector.result c.vector.ensures.vectors

pub returns-in_err-wire-clause-gives : goal.returns-in_err-wire-clause-gives
returns-in_err-wire-clause-gives c = gives_on none (sort_w name_w _ _) _ _ _ _ _ c.from_residual.ensures.1 (wire-off _ 0 0 _ c.in_default.ensures.spots (passed "WIRE" _ _ c.in_err-wire.ensures.tells))

pub returns-clause-gives : goal.returns-clause-gives
returns-clause-gives c = wire-got _ _ _ _ c.in_default.ensures.spots (passed "WIRE" _ _ c.in_ok-wire.ensures.tells) c.store_name-2.ensures
