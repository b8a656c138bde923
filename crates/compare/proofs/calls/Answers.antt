use Rattle.std.proofs.Common.{arith}
use Rattle.netlist.specs.Decides.{not_so}
use Rattle.compare.specs.Match.{past_end}
use Rattle.compare.specs.Rest.{starts-if}
use Rattle.compare.proofs.calls.Goals as goal

pub returns-in_default : goal.returns-in_default
returns-in_default c = not_so (past_end c.args.text.now c.args.at _ (omega (arith, c.in_default.ensures.lookup.0)))

pub returns : goal.returns
returns c =
    let h = c.in-Some.ensures.lookup.0 in
    starts-if (record { text = c.in-Some.text }) c.call.new.to _ h.0 h.2 c.call.ensures c.is_some.ensures
