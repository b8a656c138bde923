use mathlib.Core.Path.{refl}
use Rattle.rules.specs.Primitives.{primitive}
use Rattle.rules.proofs.Made.{no_name}
use Rattle.rules.proofs.Gate.name.Goals as goal

pub returns-in-0 : goal.returns-in-0
unfolding primitive
returns-in-0 c = rw c.in-0.is refl

pub returns-in-1 : goal.returns-in-1
unfolding primitive
returns-in-1 c = rw c.in-1.is refl

pub returns-in-2 : goal.returns-in-2
unfolding primitive
returns-in-2 c = rw c.in-2.is refl

pub returns-in-3 : goal.returns-in-3
unfolding primitive
returns-in-3 c = rw c.in-3.is refl

pub returns-in-4 : goal.returns-in-4
unfolding primitive
returns-in-4 c = rw c.in-4.is refl

pub returns-in-5 : goal.returns-in-5
unfolding primitive
returns-in-5 c = rw c.in-5.is refl

pub returns-in-6 : goal.returns-in-6
unfolding primitive
returns-in-6 c = rw c.in-6.is refl

pub returns-in-7 : goal.returns-in-7
unfolding primitive
returns-in-7 c = rw c.in-7.is refl

pub returns-in-8 : goal.returns-in-8
unfolding primitive
returns-in-8 c = rw c.in-8.is refl

pub returns-in-9 : goal.returns-in-9
unfolding primitive
returns-in-9 c = rw c.in-9.is refl

pub returns-in_default : goal.returns-in_default
returns-in_default c = no_name _ c.in_default.in_default-own.rest
