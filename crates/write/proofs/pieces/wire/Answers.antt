use Rattle.std.proofs.Common.{rules, [], ◌∷◌, sym, refl, ◌∙◌}
use Rattle.rules.specs.Text.{bytes}
use Rattle.rules.specs.Flat.{decimal, wire_text}
use Rattle.write.specs.Taken.{begin, piece_is, step, stop, last}
use Rattle.write.proofs.pieces.wire.Goals as goal

pub returns-in_err-piece : goal.returns-in_err-piece
unfolding wire_text
returns-in_err-piece g c =
    let laws = g.P.Pieces.laws in
    let w0 = begin laws c.args.to.now (bytes "w" ∷ decimal c.args.number ∷ []) refl in
    rw c.from_residual.ensures (stop laws w0 (search rules))

pub returns : goal.returns
unfolding wire_text
returns g c =
    let laws = g.P.Pieces.laws in
    let w0 = begin laws c.args.to.now (bytes "w" ∷ decimal c.args.number ∷ []) refl in
    let w1 = step laws {t = c.piece.new.self} w0 (search rules) in
    last laws _ _ (piece_is (sym (c.as_slice.ensures ∙ c.decimal_of.ensures)) w1) c.piece-2.ensures
