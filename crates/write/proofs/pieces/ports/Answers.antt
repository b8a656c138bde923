use Rattle.write.specs.Pieces.{ports-begin, ports-open, ports-close}
use Rattle.write.specs.Taken.{begin-one, apart, piece_is, step, stop, last}
use Rattle.write.proofs.pieces.ports.Goals as goal

pub loop-i-init : goal.loop-i-init
loop-i-init g c = piece_is (ports-begin _ _) (begin-one g.P.Pieces.laws c.args.to.now _)

pub returns-in_err-entry : goal.returns-in_err-entry
returns-in_err-entry g c =
    let laws = g.P.Pieces.laws in
    let w0 = apart _ (ports-open _ _ _ c.loop-i-test.true) c.loop-i.invariant in
    rw c.from_residual.ensures (stop laws w0 c.in_err-entry.ensures)

pub returns-in_err-mark : goal.returns-in_err-mark
returns-in_err-mark g c =
    let laws = g.P.Pieces.laws in
    let w0 = apart _ (ports-open _ _ _ c.loop-i-test.true) c.loop-i.invariant in
    let w1 = step laws w0 c.in_ok-entry.ensures in
    rw c.from_residual-in_err-mark.ensures (stop laws w1 c.in_err-mark.ensures)

pub loop-i-preserved : goal.loop-i-preserved
loop-i-preserved g c =
    let laws = g.P.Pieces.laws in
    let w0 = apart _ (ports-open _ _ _ c.loop-i-test.true) c.loop-i.invariant in
    let w1 = step laws w0 c.in_ok-entry.ensures in
    let w2 = step laws w1 c.in_ok-mark.ensures in
    w2

pub returns : goal.returns
returns g c =
    let laws = g.P.Pieces.laws in
    last laws _ _ (piece_is (ports-close _ _ _ c.loop-i-test.false) c.loop-i.invariant) c.piece.ensures
