use Rattle.std.proofs.Common.{arith}
use Rattle.values.specs.Here.{of-kind, not-kind}
use Rattle.unfold.specs.Onward.{head-loop, head-gate, head-block, index-room}
use Rattle.unfold.proofs.begins_with.Goals.{then-meant-lt10, else-meant-lt10}
use Rattle.unfold.proofs.begins_with.Goals as goal

pub bounds-tape-at-then-is : goal.bounds-tape-at-then-is
bounds-tape-at-then-is c =
    let w = c.requires in
    index-room w.text w.statements w.here w.some (of-kind 6 c.is.ensures c.if-is.true)

pub returns-then-is : goal.returns-then-is
returns-then-is c len b h s =
    rw (c.value_of-index.ensures, c.value_of-value.ensures) (head-loop len b h s (of-kind 6 c.is.ensures c.if-is.true))

pub returns : goal.returns
returns c len b h s =
    let v = c.value_of-value.ensures in
    let k = not-kind 6 c.is.ensures c.if-is.false in
    elim c.if-meant-lt10.branch [
      | then-meant-lt10 w ↦ rw (w.what-is, v) (head-gate len b h s k (omega (arith, w.if-meant-lt10.true, v)))
      | else-meant-lt10 w ↦ rw (w.what-is, v) (head-block len b h s k (omega (arith, w.if-meant-lt10.false, v)))
    ]
