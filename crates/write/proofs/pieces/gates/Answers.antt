use Rattle.std.proofs.Common.{rules, [], sym, ap, ◌∙◌}
use Rattle.rules.specs.Flat.{gate_text, gates_text}
use Rattle.write.specs.Pieces.{gates-begin, gates-open, gates-close}
use Rattle.write.specs.Taken.{begin-one, apart, piece_is, step, stop, finish}
use Rattle.write.proofs.pieces.gates.Goals as goal

pub loop-i-init : goal.loop-i-init
loop-i-init g c = piece_is (ap (gates_text c.args.net.words.now 0) (sym c.gates-n.ensures) ∙ gates-begin _ _) (begin-one g.P.Pieces.laws c.args.to.now _)

pub returns-in_err-gate : goal.returns-in_err-gate
returns-in_err-gate g c =
    let laws = g.P.Pieces.laws in
    let w0 = apart _ (gates-open c.args.net.words.now _ _ c.loop-i-test.true) c.loop-i.invariant in
    rw c.from_residual.ensures (stop laws (piece_is (ap gate_text (sym c.gate.ensures)) w0) c.in_err-gate.ensures)

pub returns-in_err-mark : goal.returns-in_err-mark
returns-in_err-mark g c =
    let laws = g.P.Pieces.laws in
    let w0 = apart _ (gates-open c.args.net.words.now _ _ c.loop-i-test.true) c.loop-i.invariant in
    let w1 = step laws (piece_is (ap gate_text (sym c.gate.ensures)) w0) c.in_ok-gate.ensures in
    rw c.from_residual-in_err-mark.ensures (stop laws w1 (search rules))

pub returns-in_err-piece : goal.returns-in_err-piece
returns-in_err-piece g c =
    let laws = g.P.Pieces.laws in
    let w0 = apart _ (gates-open c.args.net.words.now _ _ c.loop-i-test.true) c.loop-i.invariant in
    let w1 = step laws (piece_is (ap gate_text (sym c.gate.ensures)) w0) c.in_ok-gate.ensures in
    let w2 = step laws {t = c.mark.new.to} w1 (search rules) in
    rw c.from_residual-in_err-piece.ensures (stop laws w2 c.in_err-piece.ensures)

pub loop-i-preserved : goal.loop-i-preserved
loop-i-preserved g c =
    let laws = g.P.Pieces.laws in
    let w0 = apart _ (gates-open c.args.net.words.now _ _ c.loop-i-test.true) c.loop-i.invariant in
    let w1 = step laws (piece_is (ap gate_text (sym c.gate.ensures)) w0) c.in_ok-gate.ensures in
    let w2 = step laws {t = c.mark.new.to} w1 (search rules) in
    let w3 = step laws w2 c.in_ok-piece.ensures in
    w3

pub returns : goal.returns
returns g c =
    let laws = g.P.Pieces.laws in
    finish laws (apart [] (gates-close _ _ _ c.loop-i-test.false) c.loop-i.invariant)
