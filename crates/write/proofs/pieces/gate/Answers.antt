use Rattle.write.specs.Pieces.{gate_parts, gate-parts}
use Rattle.write.specs.Taken.{begin, step, stop, last}
use Rattle.write.proofs.pieces.gate.Goals as goal

pub returns-in_err-call : goal.returns-in_err-call
returns-in_err-call g c =
    let laws = g.P.Pieces.laws in
    let w0 = begin laws c.args.to.now (gate_parts c.args.g) (gate-parts c.args.g) in
    rw c.from_residual.ensures (stop laws w0 c.in_err-call.ensures)

pub returns-in_err-slots : goal.returns-in_err-slots
returns-in_err-slots g c =
    let laws = g.P.Pieces.laws in
    let w0 = begin laws c.args.to.now (gate_parts c.args.g) (gate-parts c.args.g) in
    let w1 = step laws w0 c.in_ok-call.ensures in
    rw c.from_residual-in_err-slots.ensures (stop laws w1 c.in_err-slots.ensures)

pub returns-in_err-piece : goal.returns-in_err-piece
returns-in_err-piece g c =
    let laws = g.P.Pieces.laws in
    let w0 = begin laws c.args.to.now (gate_parts c.args.g) (gate-parts c.args.g) in
    let w1 = step laws w0 c.in_ok-call.ensures in
    let w2 = step laws w1 c.in_ok-slots.ensures in
    rw c.from_residual-in_err-piece.ensures (stop laws w2 c.in_err-piece.ensures)

pub returns-in_err-wire : goal.returns-in_err-wire
returns-in_err-wire g c =
    let laws = g.P.Pieces.laws in
    let w0 = begin laws c.args.to.now (gate_parts c.args.g) (gate-parts c.args.g) in
    let w1 = step laws w0 c.in_ok-call.ensures in
    let w2 = step laws w1 c.in_ok-slots.ensures in
    let w3 = step laws w2 c.in_ok-piece.ensures in
    rw c.from_residual-in_err-wire.ensures (stop laws w3 c.in_err-wire.ensures)

pub returns : goal.returns
returns g c =
    let laws = g.P.Pieces.laws in
    let w0 = begin laws c.args.to.now (gate_parts c.args.g) (gate-parts c.args.g) in
    let w1 = step laws w0 c.in_ok-call.ensures in
    let w2 = step laws w1 c.in_ok-slots.ensures in
    let w3 = step laws w2 c.in_ok-piece.ensures in
    let w4 = step laws w3 c.in_ok-wire.ensures in
    last laws _ _ w4 c.piece-2.ensures
