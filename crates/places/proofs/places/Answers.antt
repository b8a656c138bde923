use Rattle.std.proofs.Common.{refl, arith}
use Rattle.places.specs.Starts.{shelf, finding-begin, finding-next, finding-on, finding-end, finding-full}
use Rattle.places.proofs.places.Goals as goal

pub loop-k-init : goal.loop-k-init
loop-k-init c s P h = finding-begin _ h

pub returns-then-at-end-clause-by_index : goal.returns-then-at-end-clause-by_index
returns-then-at-end-clause-by_index c s P h = finding-end (c.loop-k.invariant s P h) (omega (arith, c.if-at-end.true))

pub returns-then-at-end-clause-by_index_2 : goal.returns-then-at-end-clause-by_index_2
returns-then-at-end-clause-by_index_2 c s P h = shelf _ _ P c.requires.1 (finding-end (c.loop-k.invariant s P h) (omega (arith, c.if-at-end.true))) h

pub after_block-at-requires : goal.after_block-at-requires
after_block-at-requires c =
    let p = c.requires.0 in
    let f = c.loop-k.invariant p.text p.program p.held in
    let a = finding-next f (omega (arith, c.if-at-end.false)) in
    record { block = a.block; here = a.here }

pub loop-k-preserved : goal.loop-k-preserved
loop-k-preserved c s P h =
    let f = c.loop-k.invariant s P h in
    let a = finding-next f (omega (arith, c.if-at-end.false)) in
    finding-on f a (c.after_block-at.ensures a.block a.here) refl

pub returns-clause-by_index : goal.returns-clause-by_index
returns-clause-by_index c s P h = let f = c.loop-k.invariant s P h in finding-end f (finding-full f (omega (arith, h.many, c.loop-k-test.false)))

pub returns-clause-by_index_2 : goal.returns-clause-by_index_2
returns-clause-by_index_2 c s P h =
    let f = c.loop-k.invariant s P h in
    shelf _ _ P c.requires.1 (finding-end f (finding-full f (omega (arith, h.many, c.loop-k-test.false)))) h
