-- Why a visit of a gate adds nothing, by the words of its record. Assumes nothing.
use Rattle.std.specs.Prelude.{◌≡◌, false, List, ℕ, ◌<◌, get_or}
use Rattle.std.proofs.Common.{refl, arith}
use Rattle.rules.specs.Primitives.{inputs_of}
use Rattle.rules.specs.Netlist.{gate_at}
use Rattle.run.specs.Going.{Visit}
use Rattle.run.specs.Visits.{still-has, still-a, still-b, still-c}

module _ (w v : List ℕ) (j : ℕ) where
  pub settled : (get_or v (gate_at w j).out 0 ≡ 2 → ⊥) → Visit w v j false v
  settled h = still-has w v j (gate_at w j) refl refl h

  pub waits_first : 0 < inputs_of (gate_at w j).kind → get_or v (gate_at w j).a 0 ≡ 2 → Visit w v j false v
  waits_first h e = still-a w v j (gate_at w j) refl {n = inputs_of (gate_at w j).kind} refl (λ k. refl, λ k. absurd (omega arith)) e

  pub waits_second : 1 < inputs_of (gate_at w j).kind → get_or v (gate_at w j).b 0 ≡ 2 → Visit w v j false v
  waits_second h e = still-b w v j (gate_at w j) refl {n = inputs_of (gate_at w j).kind} refl (λ k. refl, λ k. absurd (omega arith)) e

  pub waits_third : 2 < inputs_of (gate_at w j).kind → get_or v (gate_at w j).c 0 ≡ 2 → Visit w v j false v
  waits_third h e = still-c w v j (gate_at w j) refl {n = inputs_of (gate_at w j).kind} refl (λ k. refl, λ k. absurd (omega arith)) e

pub ruleset waits = (settled, waits_first, waits_second, waits_third)
