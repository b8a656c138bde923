use Rattle.std.proofs.Common.{rules, sym, refl}
use Rattle.rules.specs.Netlist.{gates}
use Rattle.write.specs.Pieces.{parts, parts-of}
use Rattle.write.specs.Taken.{begin, step, stop, last}
use Rattle.write.proofs.pieces.text.Goals as goal

pub returns-in_err-piece : goal.returns-in_err-piece
returns-in_err-piece g c =
    let laws = g.P.Pieces.laws in
    let whole = parts-of c.args.net.words.now c.inputs-inputs.ensures c.outputs-outputs.ensures c.wires.ensures refl in
    let w0 = begin laws c.args.to.now (parts c.args.net.words.now c.inputs-inputs.result c.outputs-outputs.result c.wires.result (gates c.args.net.words.now)) (sym whole) in
    rw c.from_residual.ensures (stop laws w0 c.in_err-piece.ensures)

pub returns-in_err-ports : goal.returns-in_err-ports
returns-in_err-ports g c =
    let laws = g.P.Pieces.laws in
    let whole = parts-of c.args.net.words.now c.inputs-inputs.ensures c.outputs-outputs.ensures c.wires.ensures refl in
    let w0 = begin laws c.args.to.now (parts c.args.net.words.now c.inputs-inputs.result c.outputs-outputs.result c.wires.result (gates c.args.net.words.now)) (sym whole) in
    let w1 = step laws w0 c.in_ok-piece.ensures in
    rw c.from_residual-in_err-ports.ensures (stop laws w1 c.in_err-ports.ensures)

pub returns-in_err-piece-2 : goal.returns-in_err-piece-2
returns-in_err-piece-2 g c =
    let laws = g.P.Pieces.laws in
    let whole = parts-of c.args.net.words.now c.inputs-inputs.ensures c.outputs-outputs.ensures c.wires.ensures refl in
    let w0 = begin laws c.args.to.now (parts c.args.net.words.now c.inputs-inputs.result c.outputs-outputs.result c.wires.result (gates c.args.net.words.now)) (sym whole) in
    let w1 = step laws w0 c.in_ok-piece.ensures in
    let w2 = step laws w1 c.in_ok-ports.ensures in
    rw c.from_residual-in_err-piece-2.ensures (stop laws w2 c.in_err-piece-2.ensures)

pub returns-in_err-ports-2 : goal.returns-in_err-ports-2
returns-in_err-ports-2 g c =
    let laws = g.P.Pieces.laws in
    let whole = parts-of c.args.net.words.now c.inputs-inputs.ensures c.outputs-outputs.ensures c.wires.ensures refl in
    let w0 = begin laws c.args.to.now (parts c.args.net.words.now c.inputs-inputs.result c.outputs-outputs.result c.wires.result (gates c.args.net.words.now)) (sym whole) in
    let w1 = step laws w0 c.in_ok-piece.ensures in
    let w2 = step laws w1 c.in_ok-ports.ensures in
    let w3 = step laws w2 c.in_ok-piece-2.ensures in
    rw c.from_residual-in_err-ports-2.ensures (stop laws w3 c.in_err-ports-2.ensures)

pub returns-in_err-vars : goal.returns-in_err-vars
returns-in_err-vars g c =
    let laws = g.P.Pieces.laws in
    let whole = parts-of c.args.net.words.now c.inputs-inputs.ensures c.outputs-outputs.ensures c.wires.ensures refl in
    let w0 = begin laws c.args.to.now (parts c.args.net.words.now c.inputs-inputs.result c.outputs-outputs.result c.wires.result (gates c.args.net.words.now)) (sym whole) in
    let w1 = step laws w0 c.in_ok-piece.ensures in
    let w2 = step laws w1 c.in_ok-ports.ensures in
    let w3 = step laws w2 c.in_ok-piece-2.ensures in
    let w4 = step laws w3 c.in_ok-ports-2.ensures in
    rw c.from_residual-in_err-vars.ensures (stop laws w4 c.in_err-vars.ensures)

pub returns-in_err-piece-3 : goal.returns-in_err-piece-3
returns-in_err-piece-3 g c =
    let laws = g.P.Pieces.laws in
    let whole = parts-of c.args.net.words.now c.inputs-inputs.ensures c.outputs-outputs.ensures c.wires.ensures refl in
    let w0 = begin laws c.args.to.now (parts c.args.net.words.now c.inputs-inputs.result c.outputs-outputs.result c.wires.result (gates c.args.net.words.now)) (sym whole) in
    let w1 = step laws w0 c.in_ok-piece.ensures in
    let w2 = step laws w1 c.in_ok-ports.ensures in
    let w3 = step laws w2 c.in_ok-piece-2.ensures in
    let w4 = step laws w3 c.in_ok-ports-2.ensures in
    let w5 = step laws w4 c.in_ok-vars.ensures in
    rw c.from_residual-in_err-piece-3.ensures (stop laws w5 c.in_err-piece-3.ensures)

pub returns-in_err-gates : goal.returns-in_err-gates
returns-in_err-gates g c =
    let laws = g.P.Pieces.laws in
    let whole = parts-of c.args.net.words.now c.inputs-inputs.ensures c.outputs-outputs.ensures c.wires.ensures refl in
    let w0 = begin laws c.args.to.now (parts c.args.net.words.now c.inputs-inputs.result c.outputs-outputs.result c.wires.result (gates c.args.net.words.now)) (sym whole) in
    let w1 = step laws w0 c.in_ok-piece.ensures in
    let w2 = step laws w1 c.in_ok-ports.ensures in
    let w3 = step laws w2 c.in_ok-piece-2.ensures in
    let w4 = step laws w3 c.in_ok-ports-2.ensures in
    let w5 = step laws w4 c.in_ok-vars.ensures in
    let w6 = step laws w5 c.in_ok-piece-3.ensures in
    rw c.from_residual-in_err-gates.ensures (stop laws w6 c.in_err-gates.ensures)

pub returns : goal.returns
returns g c =
    let laws = g.P.Pieces.laws in
    let whole = parts-of c.args.net.words.now c.inputs-inputs.ensures c.outputs-outputs.ensures c.wires.ensures refl in
    let w0 = begin laws c.args.to.now (parts c.args.net.words.now c.inputs-inputs.result c.outputs-outputs.result c.wires.result (gates c.args.net.words.now)) (sym whole) in
    let w1 = step laws w0 c.in_ok-piece.ensures in
    let w2 = step laws w1 c.in_ok-ports.ensures in
    let w3 = step laws w2 c.in_ok-piece-2.ensures in
    let w4 = step laws w3 c.in_ok-ports-2.ensures in
    let w5 = step laws w4 c.in_ok-vars.ensures in
    let w6 = step laws w5 c.in_ok-piece-3.ensures in
    let w7 = step laws w6 c.in_ok-gates.ensures in
    last laws c.piece-4.result c.piece-4.new.self w7 (search rules)
