use Rattle.std.proofs.Common.{rules}
use Rattle.netlist.proofs.Laws.{marked-none, marked_more}
use Rattle.netlist.proofs.body.Goals as goal

pub loop-i-init : goal.loop-i-init
loop-i-init c = marked-none _

pub loop-i-preserved : goal.loop-i-preserved
loop-i-preserved c = search (rules, marked_more)
