use Rattle.std.proofs.Common.{rules, refl, ◌∙◌, arith}
use Rattle.std.proofs.lemmas.Result.{err_from_is_err_and}
use Rattle.netlist.specs.Answers.{told}
use Rattle.run.specs.Ran.{ran}
use Rattle.run.specs.Visits.{going-from, sweep-fewer, sweep-still, ran-short, ran-bad, ran-wrong, shows}
use Rattle.run.proofs.run.Goals as goal

pub returns-then-values-lt1536 : goal.returns-then-values-lt1536
unfolding told
returns-then-values-lt1536 c = ran-short c.all.ensures (omega (arith, c.all.auto.lent))

pub returns-in_err-net : goal.returns-in_err-net
unfolding told
returns-in_err-net c =
    let p = err_from_is_err_and c.from_residual.result c.from_residual.ensures.1 in
    let (e, n) = c.in_err-net.ensures.refused in
    rw (p.1, p.2, e) (ran-bad c.all.ensures (omega (arith, c.all.auto.lent)) n)

pub returns-then-not-inputs_fine : goal.returns-then-not-inputs_fine
unfolding told
returns-then-not-inputs_fine c =
    rw (← c.in_ok-net.ensures.made) (ran-wrong c.all.ensures (omega (arith, c.all.auto.lent)) c.in_ok-net.net.well_formed (search rules))

pub loop-net-init : goal.loop-net-init
loop-net-init c =
    (refl, going-from _ _ _ c.in_ok-net.net.well_formed (c.inputs_fine.ensures.0 c.if-not-inputs_fine.false) c.start.ensures.by_index c.start.ensures.by_index_2)

pub loop-net-smaller : goal.loop-net-smaller
loop-net-smaller c = sweep-fewer (c.sweep.ensures _ (c.inputs_fine.ensures.0 c.if-not-inputs_fine.false) c.loop-net.invariant.1).1 (search rules)

pub returns : goal.returns
unfolding told
returns c =
    let ok = c.inputs_fine.ensures.0 c.if-not-inputs_fine.false in
    let wf = c.in_ok-net.net.well_formed in
    let s = c.sweep.ensures _ ok c.loop-net.invariant.1 in
    rw (← c.in_ok-net.ensures.made)
    (ran (omega (arith, c.all.auto.lent, c.if-values-lt1536.false)) wf ok (c.sweep.auto.values ∙ c.loop-net.invariant.0 ∙ c.start.auto.values ∙ c.all.auto.lent)
    (shows _ wf _ ok _ s.0 (sweep-still s.1 c.loop-net-test.false)))
