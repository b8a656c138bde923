use Rattle.std.proofs.Common.{◌≡◌, ℕ, ◌<◌, arith, refl, rules}
use Rattle.rules.specs.Primitives.{inputs_of}
use Rattle.gates.specs.Shows.{gate-is}
use Rattle.rules.proofs.Laws.Nets.{three}
use Rattle.gates.proofs.gate_on.Goals as goal

few : (k : ℕ) {n : ℕ} → n ≡ inputs_of k → n < 48
few k e = let t = three k in omega arith

pub offset_bounds-names-n : goal.offset_bounds-names-n
offset_bounds-names-n c = let r = few _ c.inputs-n.ensures in search rules

pub bounds-names-n : goal.bounds-names-n
bounds-names-n c = let r = few _ c.inputs-n.ensures in search rules

pub returns : goal.returns
returns c ws e l = rw (c.slot.ensures, c.slot-2.ensures, c.slot-3.ensures, c.inputs-n.ensures) (gate-is _ _ ws e (few _ refl) l)
