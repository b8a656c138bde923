-- Words that lie on the tape from a place on, and how they come apart. Assumes nothing.
use Rattle.std.specs.Prelude.{◌≡◌, ℕ, suc, ◌+◌, ◌≤◌, ◌<◌, List, ◌∷◌, ◌++◌, length, get_or}
use Rattle.std.proofs.Common.{ap, ◌∙◌, subst, arith, length-append, get_or-append-add}
use Rattle.std.proofs.Math.ListN.{get_or-append}

pub record Lies (t : List ℕ) (at : ℕ) (ws : List ℕ) : Type 0 where
  pub fits : at + length ws ≤ length t
  pub word : (i : ℕ) → i < length ws → get_or t (at + i) 0 ≡ get_or ws i 0

module _ {t : List ℕ} {at : ℕ} where
  pub lies-first : {w : ℕ} {ws : List ℕ} → Lies t at (w ∷ ws) → get_or t at 0 ≡ w
  lies-first {w} l = let e : at + 0 ≡ at = omega arith in subst (λ k. get_or t k 0 ≡ w) e (l.word 0 (omega arith))

  pub lies-room : {w : ℕ} {ws : List ℕ} → Lies t at (w ∷ ws) → at < length t
  lies-room l = omega (arith, l.fits)

  pub lies-rest : {w : ℕ} {ws : List ℕ} → Lies t at (w ∷ ws) → Lies t (at + 1) ws
  lies-rest {w} {ws} l = record {
    fits = omega (arith, l.fits);
    word = λ i h. let e : at + 1 + i ≡ at + suc i = omega arith in ap (λ k. get_or t k 0) e ∙ l.word (suc i) (omega arith);
  }

  pub lies-left : (a b : List ℕ) → Lies t at (a ++ b) → Lies t at a
  lies-left a b l = record {
    fits = omega (arith, l.fits, length-append a b);
    word = λ i h. l.word i (omega (arith, length-append a b)) ∙ get_or-append a b 0 i h;
  }

  pub lies-right : (a b : List ℕ) → Lies t at (a ++ b) → Lies t (at + length a) b
  lies-right a b l = record {
    fits = omega (arith, l.fits, length-append a b);
    word = λ i h. let e : at + length a + i ≡ at + (length a + i) = omega arith in ap (λ k. get_or t k 0) e ∙ l.word (length a + i) (omega (arith, length-append a b)) ∙ get_or-append-add a b i 0;
  }

-- what stands first
pub lies-front : (a b : List ℕ) → Lies (a ++ b) 0 a
lies-front a b = record {
  fits = omega (arith, length-append a b);
  word = λ i h. let e : 0 + i ≡ i = omega arith in ap (λ k. get_or (a ++ b) k 0) e ∙ get_or-append a b 0 i h;
}
