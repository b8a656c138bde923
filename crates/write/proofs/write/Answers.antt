use Rattle.std.proofs.Common.{arith}
use Rattle.std.proofs.lemmas.Result.{err_from_is_err_and}
use Rattle.netlist.specs.Answers.{told}
use Rattle.write.specs.Writes.{wrote-short, wrote-bad, wrote-if}
use Rattle.write.proofs.write.Goals as goal

pub returns-then-text-lt65536 : goal.returns-then-text-lt65536
unfolding told
returns-then-text-lt65536 c = wrote-short c.all.ensures (omega (arith, c.all.auto.lent))

pub returns-in_err-net : goal.returns-in_err-net
unfolding told
returns-in_err-net c =
    let p = err_from_is_err_and c.from_residual.result c.from_residual.ensures.1 in
    let (e, n) = c.in_err-net.ensures.refused in
    rw (p.1, p.2, e) (wrote-bad c.all.ensures (omega (arith, c.all.auto.lent)) n)

pub returns : goal.returns
returns c =
    rw (← c.in_ok-net.ensures.made)
    (wrote-if c.all.ensures c.put_text.result _ (omega (arith, c.all.auto.lent, c.if-text-lt65536.false)) c.in_ok-net.net.well_formed c.ok_or.ensures.value c.put_text.ensures)
