-- What `flatten` promises: everything that a caller sees is what the rules say. Assumes nothing.
use Rattle.std.specs.Prelude.{◌≡◌, ℕ, List, length}
use Rattle.std.proofs.Common.{sym, ap, ◌∙◌}
use Rattle.rules.specs.Text.{zeros}
use Rattle.rules.specs.Flatten.{Answer, flatten}
pub use Rattle.flatten.specs.Told.{Flattened, told}

-- number, place and steps, with the words of the lent netlist
abbrev pub seen : Flattened → List ℕ → Answer
seen r words = record { number = r.number; place = r.place; steps = r.steps; words = words }

-- `work` and `net` are what was lent, `table` and `words` what they hold afterwards: the answer and every word of the netlist are those of
-- the rules, and the work table holds zeros
pub record Flattens (text work net : List ℕ) (r : Flattened) (table words : List ℕ) : Type 0 where
  pub answer : seen r words ≡ flatten text (length work) (length net)
  pub clean : table ≡ zeros (length work)

-- one input, one outcome
pub one-outcome : {text work net : List ℕ} {r s : Flattened} {t u v w : List ℕ} → Flattens text work net r t v → Flattens text work net s u w → (r ≡ s) × (t ≡ u) × (v ≡ w)
one-outcome {r = r} {s = s} {v = v} {w = w} a b =
    let e : seen r v ≡ seen s w = a.answer ∙ sym b.answer in
    (ap (λ x. record { number = x.number; place = x.place; steps = x.steps }) e, a.clean ∙ sym b.clean, ap (λ x. x.words) e)
