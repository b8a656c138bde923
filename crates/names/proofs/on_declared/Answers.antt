use Rattle.sweep.proofs.Laws.Steps.{declare-bars, declare-once}
use Rattle.names.proofs.on_declared.Goals as goal

pub returns-then-declared_before : goal.returns-then-declared_before
returns-then-declared_before c = λ until. rw c.refusal.ensures (declare-bars c.args.text.now _ c.args.word _ (rw (c.letters.ensures, c.front-before.ensures) at c.declared_before.ensures) _ c.if-declared_before.true)

pub returns : goal.returns
returns c = λ until. rw (c.min.ensures, c.keep.ensures) (declare-once c.args.text.now _ c.args.word _ (rw (c.letters.ensures, c.front-before.ensures) at c.declared_before.ensures) _ c.if-declared_before.false)
