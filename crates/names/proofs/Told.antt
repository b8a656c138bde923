-- What the test of a word's kind k has told. Assumes nothing.
use Rattle.std.specs.Prelude.{◌≡◌, ℕ, Bool, true, false, eqb}
use Rattle.std.proofs.Common.{sym, ◌∙◌}
use Rattle.std.proofs.lemmas.Bool.{eqb-true, eqb-false}

module _ (k n : ℕ) {b : Bool} (e : b ≡ eqb k n) where
  pub of-kind : b ≡ true → k ≡ n
  of-kind t = eqb-true k n (sym e ∙ t)

  pub not-of-kind : b ≡ false → k ≡ n → ⊥
  not-of-kind f = eqb-false k n (sym e ∙ f)
