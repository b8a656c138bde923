use Rattle.std.proofs.Common.{rules, sym, refl}
use Rattle.write.specs.Pieces.{call_of}
use Rattle.write.specs.Taken.{begin, piece_is, step, stop, last}
use Rattle.write.proofs.pieces.call.Goals as goal

pub returns-in_err-piece : goal.returns-in_err-piece
returns-in_err-piece g c =
    let laws = g.P.Pieces.laws in
    let w0 = piece_is (sym c.name.ensures) (begin laws c.args.to.now (call_of c.args.kind) refl) in
    rw c.from_residual.ensures (stop laws w0 c.in_err-piece.ensures)

pub returns : goal.returns
returns g c =
    let laws = g.P.Pieces.laws in
    let w0 = piece_is (sym c.name.ensures) (begin laws c.args.to.now (call_of c.args.kind) refl) in
    let w1 = step laws w0 c.in_ok-piece.ensures in
    last laws c.piece-2.result c.piece-2.new.self w1 (search rules)
