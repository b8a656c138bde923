-- What stands at a place of a text. Assumes nothing.
use Rattle.std.specs.Prelude.{◌≡◌, List, ◌++◌, ℕ, ◌+◌, ◌≤◌, ◌<◌, length, drop}
use Rattle.std.proofs.Common.{sym, ap, ◌∙◌, arith, drop-drop, length-drop, length-append}
use Rattle.std.proofs.Math.Seq.{drop-append_seam}

-- the piece p stands at `at` in t
pub record Starts (t : List ℕ) (at : ℕ) (p : List ℕ) : Type 0 where
  pub inside : at + length p ≤ length t
  pub is : drop at t ≡ p ++ drop (at + length p) t

-- what is left of the text begins with it
pub starts-from : (t : List ℕ) (at : ℕ) (p rest : List ℕ) → at ≤ length t → drop at t ≡ p ++ rest → Starts t at p
starts-from t at p rest h e =
    record {
      inside = omega (arith, length-drop at t, ap length e, length-append p rest);
      is = e ∙ ap (λ (l : List ℕ). p ++ l) (sym (drop-append_seam p rest) ∙ ap (λ (l : List ℕ). drop (length p) l) (sym e) ∙ drop-drop (length p) at t);
    }

pub past_end : (t : List ℕ) (at : ℕ) (p : List ℕ) → length t < at → Starts t at p → ⊥
past_end t at p h s = omega (arith, s.inside)
