-- How a success came about: the program of the text, its unfolding, and the words lent. Assumes nothing.
use Rattle.std.specs.Prelude.{◌≡◌, ℕ, ◌-◌, List, ◌++◌, length}
use Rattle.std.proofs.Common.{ap}
use Rattle.rules.specs.Outcome.{ok}
use Rattle.rules.specs.Syntax.{Program}
use Rattle.rules.specs.Unfold.{Unfolded, unfold_main}
use Rattle.rules.specs.Text.{zeros}
use Rattle.rules.specs.Flatten.{program, flattened, answer, flatten}
use Rattle.rules.proofs.Laws.Outcomes.{inv}
use Rattle.rules.proofs.Laws.Late.{done}

pub record Way (text : List ℕ) (work net : ℕ) : Type 0 where
  pub P : Program
  pub u : Unfolded
  pub reads : program text ≡ ok P
  pub unfolds : unfold_main P ≡ ok u
  pub lent : (flatten text work net).words ≡ u.words ++ zeros (net - length u.words)
  pub counted : (flatten text work net).steps ≡ u.steps

pub way : (text : List ℕ) (work net : ℕ) → (flatten text work net).number ≡ 0 → Way text work net
unfolding flatten answer flattened
way text work net success =
    let (u, e) = done text work net success in
    inv _ _ e λ _ _ e₁.
    inv _ _ e₁ λ _ _ e₂.
    inv _ _ e₂ λ P e_p eu.
    record { P = P; u = u; reads = e_p; unfolds = eu; lent = ap (λ o. (answer net o).words) e; counted = ap (λ o. (answer net o).steps) e }
