use Rattle.std.proofs.Common.{◌≡◌, [], ◌∷◌, ◌+◌, ◌-◌, arith}
use Rattle.rules.specs.Text.{bytes}
use Rattle.rules.specs.Flat.{wire_text, between}
use Rattle.write.specs.Pieces.{slot-used, slot-free, between_none, between-some}
use Rattle.write.specs.Taken.{begin, step, stop, last, finish}
use Rattle.write.proofs.pieces.slot.Goals as goal

pub returns-then-k-n : goal.returns-then-k-n
returns-then-k-n g c = rw (slot-free c.args.n c.args.k c.args.x (omega arith)) (g.P.Pieces.laws.nothing c.args.to.now)

pub returns-in_err-wire : goal.returns-in_err-wire
returns-in_err-wire g c =
    let laws = g.P.Pieces.laws in
    let w0 = begin laws c.args.to.now (wire_text c.args.x ∷ between (bytes ",") (c.args.n - (c.args.k + 1)) ∷ []) (slot-used c.args.n c.args.k c.args.x (omega arith)) in
    rw c.from_residual.ensures (stop laws w0 c.in_err-wire.ensures)

pub returns-then-k-n-2 : goal.returns-then-k-n-2
returns-then-k-n-2 g c =
    let laws = g.P.Pieces.laws in
    let w0 = begin laws c.args.to.now (wire_text c.args.x ∷ between (bytes ",") (c.args.n - (c.args.k + 1)) ∷ []) (slot-used c.args.n c.args.k c.args.x (omega arith)) in
    let more : c.args.n - (c.args.k + 1) ≡ 0 → ⊥ = omega arith in
    let w1 = step laws w0 c.in_ok-wire.ensures in
    last laws _ _ w1 (rw (between-some (bytes ",") _ more) c.piece.ensures)

pub returns-else-k-n-2 : goal.returns-else-k-n-2
returns-else-k-n-2 g c =
    let laws = g.P.Pieces.laws in
    let w0 = begin laws c.args.to.now (wire_text c.args.x ∷ between (bytes ",") (c.args.n - (c.args.k + 1)) ∷ []) (slot-used c.args.n c.args.k c.args.x (omega arith)) in
    let done : c.args.n - (c.args.k + 1) ≡ 0 = omega arith in
    let w1 = step laws w0 c.in_ok-wire.ensures in
    finish laws (step laws w1 (rw (between_none (bytes ",") _ done) (laws.nothing _)))
