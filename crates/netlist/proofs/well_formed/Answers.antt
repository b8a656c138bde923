use Rattle.std.proofs.Common.{rules}
use Rattle.netlist.specs.Decides.{decides}
use Rattle.netlist.specs.Parts.{head-of, body_of, both}
use Rattle.netlist.proofs.well_formed.Goals as goal

pub returns-then-head : goal.returns-then-head
returns-then-head c = decides _ (λ t. both (search rules) (c.body.ensures.0 t), λ w. c.body.ensures.1 (body_of w))

pub returns-else-head : goal.returns-else-head
returns-else-head c = decides _ (search (rules, head-of))
