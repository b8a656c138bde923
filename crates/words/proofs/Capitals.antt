-- A word that is none of the reserved ones by its length or its first letter. Assumes nothing.
use Rattle.std.specs.Prelude.{◌≡◌, refl, Some, None, ℕ, Bool, true, false, T, List, [], ◌∷◌, map, length, eqb}
use Rattle.std.proofs.Common.{sym, subst}
use Rattle.std.proofs.Math.Facts.{eqb_yes}
use Rattle.std.specs.List.{list_all}
use Rattle.rules.specs.Text.{bytes, pick, same, index_of, is_in}
use Rattle.rules.specs.Words.{reserved}
use Rattle.rules.proofs.Laws.Outcomes.{both_yes}
use Rattle.words.specs.Capitals.{capital}

same-word : (l r : List ℕ) → T (same l r) → l ≡ r
unfolding same
same-word [] [] t = refl
same-word [] (b ∷ r) t = absurd t
same-word (a ∷ l) [] t = absurd t
same-word (a ∷ l) (b ∷ r) t = let (h, k) = both_yes (eqb a b) (same l r) t in rw (eqb_yes h, same-word l r k)

another : (p : List ℕ → Bool) (w v : List ℕ) (t : Bool) → same w v ≡ t → p w ≡ false → T (p v) → t ≡ false
another p w v true e n y = absurd (subst T n (subst (λ x. T (p x)) (sym (same-word w v (subst T (sym e) tt))) y))
another p w v false e n y = refl

-- a word that lacks what all of them have is none of them
none-of : (p : List ℕ → Bool) (w : List ℕ) (vs : List (List ℕ)) → p w ≡ false → T (list_all p vs) → index_of w vs ≡ length vs
unfolding index_of pick
none-of p w [] n a = refl
none-of p w (v ∷ vs) n a = let (y, r) = both_yes (p v) (list_all p vs) a in rw (another p w v (same w v) refl n y, none-of p w vs n r)

pub no_capital : (w : List ℕ) → capital w ≡ false → pick (is_in w (map bytes reserved)) (Some (index_of w (map bytes reserved))) None ≡ None
unfolding pick capital
no_capital w n = rw (none-of capital w (map bytes reserved) n tt)
