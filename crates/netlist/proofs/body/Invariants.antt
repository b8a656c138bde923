use Rattle.netlist.proofs.Laws.{Marked}
use Rattle.netlist.proofs.body.Given as goal

abbrev pub invariant-loop-i : goal.invariant-loop-i
invariant-loop-i l = Marked l.words l.i l.marks
