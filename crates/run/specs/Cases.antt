-- P8 and P9 of 01, of the code: they hold of whatever `run` promises. Assumes nothing.
use Rattle.std.specs.Prelude.{◌≡◌, refl, List, [], ◌∷◌, ℕ, zero, suc, ◌≤◌, ◌<◌, get_or}
use Rattle.std.proofs.Common.{arith}
use Rattle.rules.specs.Primitives.{primitive}
use Rattle.rules.specs.Netlist.{WellFormed, gate_at}
use Rattle.rules.specs.Meaning.{Signal}
use Rattle.rules.specs.Run.{to_byte, Inputs}
use Rattle.rules.proofs.Laws.Bytes.{byte-below}
use Rattle.rules.proofs.Laws.Rings.{ring, ring-stays, choice, chosen}
use Rattle.netlist.specs.Answers.{Told}
use Rattle.run.specs.Ran.{Ran}
use Rattle.run.specs.Known.{shown-one}
use Rattle.run.specs.Follows.{run-shows}

-- ---- P8: a mux with c=0 and c=1. Its inputs are c, u, v, and wire 3 is its output

choice-well : WellFormed choice
unfolding primitive
choice-well =
    record {
      contents = omega arith;
      ports = omega arith;
      few-wires = omega arith;
      few-gates = omega arith;
      records = omega arith;
      fine = fine;
      once = λ i j l h. absurd (omega arith);
    }
  where
    fine : (i : ℕ) → i < 1 → Rattle.rules.specs.Netlist.Fine 4 3 (gate_at choice i)
    fine zero h =
        record {
          kind = omega arith;
          a = (λ l. omega arith, λ l. absurd (omega arith));
          b = (λ l. omega arith, λ l. absurd (omega arith));
          c = (λ l. omega arith, λ l. absurd (omega arith));
          out = omega arith;
          free = omega arith;
        }
    fine (suc i) h = absurd (omega arith)

three : (c : ℕ) (u v : Signal) → c < 2 → Inputs choice (c ∷ to_byte u ∷ to_byte v ∷ [])
three c u v h = record { count = refl; bits = bits }
  where
    bits : (i : ℕ) → i < 3 → get_or (c ∷ to_byte u ∷ to_byte v ∷ []) i 0 < 2
    bits zero l = h
    bits (suc zero) l = byte-below u
    bits (suc (suc zero)) l = byte-below v
    bits (suc (suc (suc i))) l = absurd (omega arith)

-- c is 0: what u is
pub mux-0 : (u v : Signal) {values : List ℕ} {len : ℕ} {t : Told} → 1536 ≤ len → Ran choice (0 ∷ to_byte u ∷ to_byte v ∷ []) len t values → get_or values 3 0 ≡ to_byte u
mux-0 u v h r = shown-one choice choice-well _ ((run-shows h choice-well (three 0 u v (omega arith)) r).1.each 3 (omega arith)) (chosen u v).0

-- c is 1: what v is
pub mux-1 : (u v : Signal) {values : List ℕ} {len : ℕ} {t : Told} → 1536 ≤ len → Ran choice (1 ∷ to_byte u ∷ to_byte v ∷ []) len t values → get_or values 3 0 ≡ to_byte v
mux-1 u v h r = shown-one choice choice-well _ ((run-shows h choice-well (three 1 u v (omega arith)) r).1.each 3 (omega arith)) (chosen u v).1

-- ---- P9: one wire, fed back through `not`. The netlist allows nothing: rules, `ring-allows-nothing`

ring-well : WellFormed ring
unfolding primitive
ring-well =
    record {
      contents = omega arith;
      ports = omega arith;
      few-wires = omega arith;
      few-gates = omega arith;
      records = omega arith;
      fine = fine;
      once = λ i j l h. absurd (omega arith);
    }
  where
    fine : (i : ℕ) → i < 1 → Rattle.rules.specs.Netlist.Fine 1 0 (gate_at ring i)
    fine zero h =
        record {
          kind = omega arith;
          a = (λ l. omega arith, λ l. absurd (omega arith));
          b = (λ l. absurd (omega arith), λ l. refl);
          c = (λ l. absurd (omega arith), λ l. refl);
          out = omega arith;
          free = omega arith;
        }
    fine (suc i) h = absurd (omega arith)

no-inputs : Inputs ring []
no-inputs = record { count = refl; bits = λ i h. absurd (omega arith) }

-- it stays 2
pub ring-shows : {values : List ℕ} {len : ℕ} {t : Told} → 1536 ≤ len → Ran ring [] len t values → get_or values 0 0 ≡ 2
ring-shows h r = shown-one ring ring-well [] ((run-shows h ring-well no-inputs r).1.each 0 (omega arith)) ring-stays
