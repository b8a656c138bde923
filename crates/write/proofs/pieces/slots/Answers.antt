use Rattle.std.proofs.Common.{sym}
use Rattle.write.specs.Pieces.{slots_of, slots-of}
use Rattle.write.specs.Taken.{begin, step, stop, last}
use Rattle.write.proofs.pieces.slots.Goals as goal

pub returns-in_err-slot : goal.returns-in_err-slot
returns-in_err-slot g c =
    let laws = g.P.Pieces.laws in
    let w0 = begin laws c.args.to.now (slots_of c.inputs-n.result c.args.g) (sym (slots-of c.args.g c.inputs-n.ensures)) in
    rw c.from_residual.ensures (stop laws w0 c.in_err-slot.ensures)

pub returns-in_err-slot-2 : goal.returns-in_err-slot-2
returns-in_err-slot-2 g c =
    let laws = g.P.Pieces.laws in
    let w0 = begin laws c.args.to.now (slots_of c.inputs-n.result c.args.g) (sym (slots-of c.args.g c.inputs-n.ensures)) in
    let w1 = step laws w0 c.in_ok-slot.ensures in
    rw c.from_residual-in_err-slot-2.ensures (stop laws w1 c.in_err-slot-2.ensures)

pub returns : goal.returns
returns g c =
    let laws = g.P.Pieces.laws in
    let w0 = begin laws c.args.to.now (slots_of c.inputs-n.result c.args.g) (sym (slots-of c.args.g c.inputs-n.ensures)) in
    let w1 = step laws w0 c.in_ok-slot.ensures in
    let w2 = step laws w1 c.in_ok-slot-2.ensures in
    last laws _ _ w2 c.slot-3.ensures
