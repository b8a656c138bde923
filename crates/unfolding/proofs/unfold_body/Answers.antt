use Rattle.std.proofs.Common.{◌≡◌, arith, Err}
use Rattle.cycle.specs.Task.{ready_of}
use Rattle.unfolding.specs.Nets.{main-task, main-no, unrolled, main-done}
use Rattle.unfolding.proofs.unfold_body.Goals as goal

pub statements-requires : goal.statements-requires
statements-requires c = ready_of (main-task c.requires.ready.body) c.requires.ready.room

pub returns-in_err-done-clause-by_index : goal.returns-in_err-done-clause-by_index
returns-in_err-done-clause-by_index c len P b =
    let q : c.from_residual.result ≡ Err c.in_err-done.field-0.0 = grind arith in
    rw q (main-no b _ _ c.in_err-done.was (rw c.requires.inputs at (c.statements.ensures.by_index _ _ _ _ _ _ (main-task b))) _)

pub contents-requires : goal.contents-requires
contents-requires c =
    let b = c.requires.ready.body in
    let u = unrolled b _ _ c.in_ok-done.was (rw c.requires.inputs at (c.statements.ensures.by_index _ _ _ _ _ _ (main-task b))) in
    (omega (arith, c.statements.ensures.net_len_unchanged, c.requires.ready.room), omega (arith, b.ports, b.wires), omega (arith, b.ports, b.wires), omega (arith, u.wires, u.few), omega (arith, u.gates, u.most))

pub returns-clause-by_index : goal.returns-clause-by_index
returns-clause-by_index c len P b =
    let u = unrolled b _ _ c.in_ok-done.was (rw c.requires.inputs at (c.statements.ensures.by_index _ _ _ _ _ _ (main-task b))) in
    main-done b _ _ c.statements.ensures.net_len_unchanged c.requires.ready.room u c.contents.ensures.net_after
