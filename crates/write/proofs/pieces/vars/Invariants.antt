use Rattle.std.proofs.Common.{[], ◌∷◌, ◌+◌, ◌-◌}
use Rattle.rules.specs.Flat.{vars_text}
use Rattle.write.specs.Taken.{Walking}
use Rattle.write.proofs.pieces.vars.Given as goal

abbrev pub invariant-loop-i : goal.invariant-loop-i
invariant-loop-i g l = Walking g.P.Pieces.takes l.initial.to (vars_text l.s l.n) (vars_text (l.s + l.i) (l.n - l.i) ∷ []) l.to
