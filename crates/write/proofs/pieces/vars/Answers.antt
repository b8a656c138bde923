use Rattle.std.proofs.Common.{[]}
use Rattle.write.specs.Pieces.{vars-begin, vars-open, vars-close}
use Rattle.write.specs.Taken.{begin-one, apart, piece_is, step, stop, finish}
use Rattle.write.proofs.pieces.vars.Goals as goal

pub loop-i-init : goal.loop-i-init
loop-i-init g c = piece_is (vars-begin _ _) (begin-one g.P.Pieces.laws c.args.to.now _)

pub returns-in_err-piece : goal.returns-in_err-piece
returns-in_err-piece g c =
    let laws = g.P.Pieces.laws in
    let w0 = apart _ (vars-open _ _ _ c.loop-i-test.true) c.loop-i.invariant in
    rw c.from_residual.ensures (stop laws w0 c.in_err-piece.ensures)

pub returns-in_err-entry : goal.returns-in_err-entry
returns-in_err-entry g c =
    let laws = g.P.Pieces.laws in
    let w0 = apart _ (vars-open _ _ _ c.loop-i-test.true) c.loop-i.invariant in
    let w1 = step laws w0 c.in_ok-piece.ensures in
    rw c.from_residual-in_err-entry.ensures (stop laws w1 c.in_err-entry.ensures)

pub returns-in_err-piece-2 : goal.returns-in_err-piece-2
returns-in_err-piece-2 g c =
    let laws = g.P.Pieces.laws in
    let w0 = apart _ (vars-open _ _ _ c.loop-i-test.true) c.loop-i.invariant in
    let w1 = step laws w0 c.in_ok-piece.ensures in
    let w2 = step laws w1 c.in_ok-entry.ensures in
    rw c.from_residual-in_err-piece-2.ensures (stop laws w2 c.in_err-piece-2.ensures)

pub loop-i-preserved : goal.loop-i-preserved
loop-i-preserved g c =
    let laws = g.P.Pieces.laws in
    let w0 = apart _ (vars-open _ _ _ c.loop-i-test.true) c.loop-i.invariant in
    let w1 = step laws w0 c.in_ok-piece.ensures in
    let w2 = step laws w1 c.in_ok-entry.ensures in
    let w3 = step laws w2 c.in_ok-piece-2.ensures in
    w3

pub returns : goal.returns
returns g c =
    let laws = g.P.Pieces.laws in
    finish laws (apart [] (vars-close _ _ _ c.loop-i-test.false) c.loop-i.invariant)
