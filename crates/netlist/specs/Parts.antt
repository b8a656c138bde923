-- Well-formedness in the two parts in which it is judged: the table of contents, and the records. Assumes nothing.
use Rattle.std.specs.Prelude.{◌≡◌, List, ℕ, ◌+◌, ◌*◌, ◌≤◌, ◌<◌, length}
use Rattle.rules.specs.Netlist.{inputs, outputs, wires, gates, gate_at, Fine, WellFormed}

pub record Head (w : List ℕ) : Type 0 where
  pub contents : 4 ≤ length w
  pub ports : inputs w + outputs w ≤ wires w
  pub few-wires : wires w ≤ 1536
  pub few-gates : gates w ≤ 1024
  pub records : 4 + 5 * gates w ≤ length w

pub record Body (w : List ℕ) : Type 0 where
  pub fine : (i : ℕ) → i < gates w → Fine (wires w) (inputs w) (gate_at w i)
  pub once : (i j : ℕ) → i < j → j < gates w → (gate_at w i).out ≡ (gate_at w j).out → ⊥

pub head-of : {w : List ℕ} → WellFormed w → Head w
head-of f = record { contents = f.contents; ports = f.ports; few-wires = f.few-wires; few-gates = f.few-gates; records = f.records }

pub body_of : {w : List ℕ} → WellFormed w → Body w
body_of f = record { fine = f.fine; once = f.once }

pub both : {w : List ℕ} → Head w → Body w → WellFormed w
both h b =
    record {
      contents = h.contents;
      ports = h.ports;
      few-wires = h.few-wires;
      few-gates = h.few-gates;
      records = h.records;
      fine = b.fine;
      once = b.once;
    }
