use Rattle.std.proofs.Common.{refl}
use Rattle.std.proofs.lemmas.Result.{err_from_is_err_and}
use Rattle.sweep.proofs.Laws.Steps.{then-no, then-state}
use Rattle.names.proofs.Scope.on_argument.Goals as goal

pub returns-in_err-k : goal.returns-in_err-k
returns-in_err-k c = λ row until. let p = err_from_is_err_and c.from_residual.result c.from_residual.ensures.1 in rw (p.1, p.2) (then-no _ c.in_err-k.ensures)

pub returns : goal.returns
returns c = λ row until. then-state _ c.in_ok-k.ensures.0 c.with_value.ensures (rw c.min.ensures refl)
