use Rattle.std.proofs.Common.{refl, sym, ◌∙◌, arith}
use Rattle.read.specs.Body.{got-none, got-end, got-full, got-more}
use Rattle.read.proofs.put_gates.Goals as goal

pub loop-i-init : goal.loop-i-init
loop-i-init c = (refl, λ w wf a. got-none a)

pub returns-then-byte-eq69 : goal.returns-then-byte-eq69
returns-then-byte-eq69 c = λ w wf a. got-end wf (c.loop-i.invariant.1 w wf a) (sym c.byte.ensures ∙ c.if-byte-eq69.true)

pub loop-i-preserved : goal.loop-i-preserved
loop-i-preserved c = (
  c.put_record.auto.net ∙ c.loop-i.invariant.0,
  λ w wf a.
      got-more wf (c.loop-i.invariant.1 w wf a) (λ e. c.if-byte-eq69.false (c.byte.ensures ∙ e)) c.gate.ensures c.put_record.ensures c.pass.ensures c.skip.ensures,
)

pub returns : goal.returns
returns c = λ w wf a. got-full wf (c.loop-i.invariant.1 w wf a) (omega arith)
