-- A netlist's records, with other words after them, are that netlist again. Assumes nothing.
use Rattle.std.specs.Prelude.{◌≡◌, ℕ, ◌+◌, ◌*◌, ◌≤◌, length}
use Rattle.std.proofs.Common.{sym, ◌∙◌, arith, length-append, length-take-le}
use Rattle.std.proofs.Math.Path.{ap}
use mathlib.Core.List.{List, ◌++◌}
use Rattle.std.proofs.Math.ListN.{get_or, take, get_or-append}
use Rattle.std.proofs.Math.Seq.{get_or-take, take_at}
use Rattle.rules.specs.Netlist.{gates, WellFormed, records}
use Rattle.rules.specs.Flat.{flat_text}
use Rattle.rules.proofs.Laws.Records.{well-same, flat-same}

records-length : (w : List ℕ) → WellFormed w → length (records w) ≡ 4 + 5 * gates w
unfolding records
records-length w wf = length-take-le (4 + 5 * gates w) w wf.records

pub records-fit : (w : List ℕ) → WellFormed w → length (records w) ≤ 5124
records-fit w wf = omega (arith, records-length w wf, wf.few-gates)

module _ (u z v : List ℕ) (wf : WellFormed u) (e : v ≡ records u ++ z) where
  as_many : gates v ≡ gates u
  unfolding records
  as_many =
      ap (λ (l : List ℕ). get_or l 3 0) e
      ∙ get_or-append (records u) z 0 3 (omega (arith, records-length u wf))
      ∙ get_or-take (4 + 5 * gates u) u 3 0 (omega arith)

  pub records-again : records v ≡ records u
  unfolding records
  records-again =
      ap (λ (k : ℕ). take (4 + 5 * k) v) as_many
      ∙ ap (λ (l : List ℕ). take (4 + 5 * gates u) l) e
      ∙ take_at (records u) z (4 + 5 * gates u) (records-length u wf)

  pub well-again : WellFormed v
  well-again = well-same u v (sym records-again) wf (omega (arith, as_many, ap length e, length-append (records u) z, records-length u wf))

  pub text-again : flat_text v ≡ flat_text u
  text-again = flat-same v u records-again
