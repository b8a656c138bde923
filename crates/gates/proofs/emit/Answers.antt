use Rattle.std.proofs.Common.{arith}
use Rattle.gates.specs.Shows.{emit-full, emit-input, emit-driven, emit-on}
use Rattle.gates.proofs.emit.Goals.{then-out-inputs-via-then-out-inputs, then-out-inputs-via-else-out-inputs+then-driven}
use Rattle.gates.proofs.emit.Goals as goal

pub returns-then-counts-ge-GATES-clause-gives : goal.returns-then-counts-ge-GATES-clause-gives
returns-then-counts-ge-GATES-clause-gives c v h = emit-full h _ _ (omega (arith, c.if-counts-ge-GATES.true))

pub returns-then-out-inputs-clause-gives : goal.returns-then-out-inputs-clause-gives
returns-then-out-inputs-clause-gives c v h = elim c.then-out-inputs.branch [
  | then-out-inputs-via-then-out-inputs w ↦ emit-input h _ _ c.requires.1 (omega (arith, c.if-counts-ge-GATES.false)) (omega (arith, w.if-out-inputs.true, c.from-out.ensures))
  | then-out-inputs-via-else-out-inputs+then-driven w ↦ emit-driven h _ _ c.requires.1 (omega (arith, c.if-counts-ge-GATES.false)) (rw c.from-out.ensures at w.if-driven.true)
]

pub returns-clause-gives : goal.returns-clause-gives
returns-clause-gives c v h =
    emit-on h _ _ (omega (arith, c.if-counts-ge-GATES.false)) c.requires.1 (omega (arith, c.if-out-inputs.false, c.from-out.ensures)) (rw c.from-out.ensures at c.if-driven.false) c.write.ensures (cc c.from-out.ensures)
