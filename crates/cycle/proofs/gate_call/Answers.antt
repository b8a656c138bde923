use Rattle.std.proofs.Common.{◌≡◌, rules}
use Rattle.cycle.specs.Calls.{answered, gate-here, gate-written, gate-answers}
use Rattle.cycle.proofs.gate_call.Goals as goal

pub add-requires-clause-written_gate : goal.add-requires-clause-written_gate
add-requires-clause-written_gate c =
    let r = c.requires in
    gate-written r.0.ready.task.stands (gate-here _ _ r.0.ready.task r.0.is)

pub returns-clause-by_index : goal.returns-clause-by_index
returns-clause-by_index c len P left b ρ σ v v₁ task is e =
    let g = gate-here _ _ task is in
    let a : c.map_err.result ≡ answered c.add.result c.args.call.place = search rules in
    rw a (gate-answers _ left P ρ σ v v₁ _ _ _ g e task.wires (c.add.ensures.gives ρ σ g.call.generics g.call.inputs g.call.outputs v₁ task.stands g.call.here g.fits task.shows))
