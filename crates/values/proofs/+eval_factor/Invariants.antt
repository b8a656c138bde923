use Prim.Native.Nat.{◌+◌, ◌-◌, ◌*◌}
use Rattle.rules.specs.Syntax.{Exp}
use Rattle.rules.specs.Values.{generics}
use Rattle.values.specs.Here.{Here}
use Rattle.values.specs.Taking.{Left}
use Prim.Native.Nat.{ℕ}
use Rattle.values.proofs.+eval_factor.Given as goal

abbrev pub decreases-eval : goal.decreases-eval
decreases-eval l = 2 * (l.end - l.at) + 1

abbrev pub decreases-factor : goal.decreases-factor
decreases-factor l = 2 * (l.next - l.i)

abbrev pub invariant-eval-loop-sum : goal.invariant-eval-loop-sum
invariant-eval-loop-sum l = (e : Exp ℕ) → Here l.tape l.at l.end e → Left (generics l.values) l.tape l.at e l.i l.sum

abbrev pub decreases-eval-loop-sum : goal.decreases-eval-loop-sum
decreases-eval-loop-sum l = l.end - l.i
