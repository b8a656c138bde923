use Rattle.rules.proofs.Made.{inputs-one, inputs-two, inputs-none}
use Rattle.rules.specs.Primitives.{primitive}
use Rattle.rules.proofs.Gate.inputs.Goals as goal

pub returns-in-7 : goal.returns-in-7
unfolding primitive
returns-in-7 c = rw c.in-7.is

pub returns-in-0 : goal.returns-in-0
returns-in-0 c = inputs-one _ c.in-0.if-kind-lt2-own.true

pub returns-in-2 : goal.returns-in-2
returns-in-2 c = inputs-two _ c.in-2.if-kind-lt2-own.false c.in-2.if-kind-lt7-own.true

pub returns-in_default : goal.returns-in_default
returns-in_default c = inputs-none _ c.in_default.if-kind-lt7-own.false c.in_default.in_default-own.rest.1
