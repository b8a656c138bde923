use Rattle.std.proofs.Common.{[], ◌∷◌, ◌-◌}
use Rattle.rules.specs.Netlist.{gates}
use Rattle.rules.specs.Flat.{gates_text}
use Rattle.write.specs.Taken.{Walking}
use Rattle.write.proofs.pieces.gates.Given as goal

abbrev pub invariant-loop-i : goal.invariant-loop-i
invariant-loop-i g l = Walking g.P.Pieces.takes l.initial.to (gates_text l.net.words.now 0 (gates l.net.words.now)) (gates_text l.net.words.now l.i (l.n - l.i) ∷ []) l.to
