use Rattle.std.proofs.Common.{[], ◌∷◌, ◌+◌, ◌-◌}
use Rattle.rules.specs.Flat.{ports_text}
use Rattle.write.specs.Taken.{Walking}
use Rattle.write.proofs.pieces.ports.Given as goal

abbrev pub invariant-loop-i : goal.invariant-loop-i
invariant-loop-i g l = Walking g.P.Pieces.takes l.initial.to (ports_text l.s l.n) (ports_text (l.s + l.i) (l.n - l.i) ∷ []) l.to
