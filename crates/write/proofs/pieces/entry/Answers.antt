use Rattle.std.proofs.Common.{[], ◌∷◌, refl}
use Rattle.rules.specs.Text.{bytes}
use Rattle.rules.specs.Flat.{wire_text, entry_text}
use Rattle.write.specs.Taken.{begin, step, stop, last}
use Rattle.write.proofs.pieces.entry.Goals as goal

pub returns-in_err-wire : goal.returns-in_err-wire
unfolding entry_text
returns-in_err-wire g c =
    let laws = g.P.Pieces.laws in
    let w0 = begin laws c.args.to.now (wire_text c.args.number ∷ bytes ":WIRE" ∷ []) refl in
    rw c.from_residual.ensures (stop laws w0 c.in_err-wire.ensures)

pub returns : goal.returns
unfolding entry_text
returns g c =
    let laws = g.P.Pieces.laws in
    let w0 = begin laws c.args.to.now (wire_text c.args.number ∷ bytes ":WIRE" ∷ []) refl in
    let w1 = step laws w0 c.in_ok-wire.ensures in
    last laws _ _ w1 c.piece.ensures
