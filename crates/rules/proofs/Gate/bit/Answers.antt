use Rattle.rules.proofs.Made.{of-connect, of-not, of_and, of_or, of_xor, of-nand, of-nor, of-mux, of_one, of-rest}
use Rattle.rules.proofs.Gate.bit.Goals as goal

pub returns-in-0 : goal.returns-in-0
returns-in-0 c = of-connect _ _ _ _ c.in-0.is c.chosen.ensures

pub returns-in-1 : goal.returns-in-1
returns-in-1 c = of-not _ _ _ _ c.in-1.is c.chosen-in-1.ensures

pub returns-in-2 : goal.returns-in-2
returns-in-2 c = of_and _ _ _ _ c.in-2.is c.chosen-in-2.ensures c.chosen-in-2-2.ensures

pub returns-in-3 : goal.returns-in-3
returns-in-3 c = of_or _ _ _ _ c.in-3.is c.chosen-in-3.ensures c.chosen-in-3-2.ensures

pub returns-in-4 : goal.returns-in-4
returns-in-4 c = of_xor _ _ _ _ c.in-4.is c.chosen-in-4.ensures c.chosen-in-4-2.ensures c.chosen-in-4-3.ensures

pub returns-in-5 : goal.returns-in-5
returns-in-5 c = of-nand _ _ _ _ c.in-5.is c.chosen-in-5.ensures c.chosen-in-5-2.ensures

pub returns-in-6 : goal.returns-in-6
returns-in-6 c = of-nor _ _ _ _ c.in-6.is c.chosen-in-6.ensures c.chosen-in-6-2.ensures

pub returns-in-7 : goal.returns-in-7
returns-in-7 c = of-mux _ _ _ _ c.in-7.is c.chosen-in-7.ensures c.chosen-in-7-2.ensures c.chosen-in-7-3.ensures

pub returns-in-9 : goal.returns-in-9
returns-in-9 c = of_one _ _ _ _ c.in-9.is

pub returns-in_default : goal.returns-in_default
returns-in_default c = of-rest _ _ _ _ c.in_default.in_default-own.rest
