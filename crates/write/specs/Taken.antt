-- Pieces that are taken one after another, by whatever takes pieces, and what follows for the text that they make. Assumes nothing.
use Rattle.std.specs.Prelude.{◌≡◌, List, [], ◌∷◌, ◌++◌, ℕ, Option, Some, None, MatchOption}
use Rattle.std.proofs.Common.{sym, ap, subst, ◌∙◌, append_assoc, append-nil}
use Rattle.rules.specs.Text.{joined}
use Rattle.write.specs.Put.{joined-append}

-- a piece is taken from s to t, or it is refused at s
abbrev pub Taken : {S : Type 0} → (S → List ℕ → S → Type 0) → (S → List ℕ → Type 0) → S → List ℕ → Option (Unit {0}) → S → Type 0
Taken takes refuses s p r t = MatchOption r (refuses s p) (λ u. takes s p t)

pub record Laws {S : Type 0} (takes : S → List ℕ → S → Type 0) (refuses : S → List ℕ → Type 0) : Type 0 where
  pub nothing : (s : S) → takes s [] s
  pub then : (s t u : S) (p q : List ℕ) → takes s p t → takes t q u → takes s (p ++ q) u
  -- what begins with a piece that is refused is refused
  pub first : (s : S) (p q : List ℕ) → refuses s p → refuses s (p ++ q)
  pub later : (s t : S) (p q : List ℕ) → takes s p t → refuses t q → refuses s (p ++ q)

-- from s₀ on the text was taken up to the pieces that are left
pub record Walking {S : Type 0} (takes : S → List ℕ → S → Type 0) (s₀ : S) (whole : List ℕ) (ps : List (List ℕ)) (s : S) : Type 0 where
  pub before : List ℕ
  pub took : takes s₀ before s
  pub is : whole ≡ before ++ joined ps

module _ {S : Type 0} {takes : S → List ℕ → S → Type 0} {refuses : S → List ℕ → Type 0} (laws : Laws takes refuses) where
  pub begin : {whole : List ℕ} (s : S) (ps : List (List ℕ)) → whole ≡ joined ps → Walking takes s whole ps s
  begin s ps e = record { before = []; took = laws.nothing s; is = e }

  -- of one piece
  pub begin-one : (s : S) (p : List ℕ) → Walking takes s p (p ∷ []) s
  unfolding joined
  begin-one s p = record { before = []; took = laws.nothing s; is = sym (append-nil p) }

  -- the next piece is taken
  pub step : {s₀ s t : S} {whole p : List ℕ} {ps : List (List ℕ)} → Walking takes s₀ whole (p ∷ ps) s → takes s p t → Walking takes s₀ whole ps t
  unfolding joined
  step {s₀} {s} {t} {whole} {p} {ps} w h =
      record { before = w.before ++ p; took = laws.then s₀ s t w.before p w.took h; is = w.is ∙ sym (append_assoc w.before p (joined ps)) }

  -- the next piece is refused, and so the whole is
  pub stop : {s₀ s : S} {whole p : List ℕ} {ps : List (List ℕ)} → Walking takes s₀ whole (p ∷ ps) s → refuses s p → refuses s₀ whole
  unfolding joined
  stop {s₀} {s} {whole} {p} {ps} w h =
      subst (λ (l : List ℕ). refuses s₀ l) (sym w.is) (laws.later s₀ s w.before (p ++ joined ps) w.took (laws.first s p (joined ps) h))

  pub finish : {s₀ s : S} {whole : List ℕ} → Walking takes s₀ whole [] s → takes s₀ whole s
  unfolding joined
  finish {s₀} {s} w = subst (λ (l : List ℕ). takes s₀ l s) (sym (w.is ∙ append-nil w.before)) w.took

  -- the last piece decides
  pub last : {s₀ s : S} {whole p : List ℕ} (r : Option (Unit {0})) (t : S) → Walking takes s₀ whole (p ∷ []) s → Taken takes refuses s p r t → Taken takes refuses s₀ whole r t
  last None t w h = stop w h
  last (Some u) t w h = finish (step w h)

-- the next piece is made of others
pub apart : {S : Type 0} {takes : S → List ℕ → S → Type 0} {s₀ s : S} {whole p : List ℕ} {ps : List (List ℕ)} (qs : List (List ℕ)) → p ≡ joined qs
    → Walking takes s₀ whole (p ∷ ps) s → Walking takes s₀ whole (qs ++ ps) s
unfolding joined
apart {p} {ps} qs e w =
    record { before = w.before; took = w.took; is = w.is ∙ ap (λ (l : List ℕ). w.before ++ l) (ap (λ (l : List ℕ). l ++ joined ps) e ∙ sym (joined-append qs ps)) }

-- the next piece is written otherwise
pub piece_is : {S : Type 0} {takes : S → List ℕ → S → Type 0} {s₀ s : S} {whole p q : List ℕ} {ps : List (List ℕ)} → p ≡ q
    → Walking takes s₀ whole (p ∷ ps) s → Walking takes s₀ whole (q ∷ ps) s
piece_is {takes} {s₀} {s} {whole} {ps} e w = subst (λ (p : List ℕ). Walking takes s₀ whole (p ∷ ps) s) e w
