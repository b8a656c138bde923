use Rattle.std.proofs.Common.{rules}
use Rattle.netlist.specs.Decides.{not_so}
use Rattle.compare.specs.Rest.{same-text, other-text}
use Rattle.compare.proofs.written_as.Goals as goal

pub returns-in_default : goal.returns-in_default
returns-in_default c = not_so (λ p. c.in_default.ensures.refused.1 p.0)

pub returns-then-is_some : goal.returns-then-is_some
returns-then-is_some c =
    rw (← c.in-Ok.ensures.made) (same-text (record { text = c.args.text }) c.text.new.to _ c.in-Ok.net.well_formed c.text.ensures (search rules) (search rules))

pub returns-else-is_some : goal.returns-else-is_some
returns-else-is_some c = rw (← c.in-Ok.ensures.made) (other-text (record { text = c.args.text }) c.text.new.to _ c.text.ensures (search rules) (search rules))
