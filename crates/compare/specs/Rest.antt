-- Pieces compared with what is left of a text. Assumes nothing.
use Rattle.std.specs.Prelude.{◌≡◌, refl, List, [], ◌∷◌, ◌++◌, ℕ, ◌-◌, ◌≤◌, Bool, true, false, eqb, length, take, drop, Option, Some, None, is_some, slice_range}
use Rattle.std.proofs.Common.{sym, ap, ◌∙◌, append_assoc, append-nil, take_all, take-append-drop, length-drop, ne_eqb, arith}
use Rattle.std.proofs.lemmas.List.{append_cancel_left}
use Rattle.std.proofs.lemmas.Bool.{true≢false}
use Rattle.std.proofs.lemmas.Bool.Decides.{Decides-eqb}
use Rattle.std.proofs.lemmas.Slice.Eq.{slice_eq-Decides, strip_prefix_is}
use Rattle.std.specs.Cmp.Lexicographic.{pointwise}
use Rattle.rules.specs.Netlist.{WellFormed}
use Rattle.rules.specs.Flat.{flat_text}
use Rattle.netlist.specs.Decides.{Decides, so, not_so}
use Rattle.write.specs.Taken.{Taken, Laws}
use Rattle.compare.specs.Match.{Starts, starts-from}
use Rattle.compare.specs.declared.Rest.{Rest}

-- the text begins with the piece, and t is what follows
abbrev pub begins : Rest → List ℕ → Rest → Type 0
begins s p t = s.text.now ≡ p ++ t.text.now

-- the text does not begin with the piece
abbrev pub otherwise : Rest → List ℕ → Type 0
otherwise s p = (rest : List ℕ) → s.text.now ≡ p ++ rest → ⊥

pub rest_laws : Laws begins otherwise
rest_laws = record {
  nothing = λ s. refl;
  then = λ s t u p q a b. a ∙ ap (λ (l : List ℕ). p ++ l) b ∙ sym (append_assoc p q _);
  first = λ s p q h rest e. h (q ++ rest) (e ∙ append_assoc p q rest);
  later = λ s t p q a h rest e. h rest (append_cancel_left p _ _ (sym a ∙ e ∙ append_assoc p q rest));
}

-- ---- for the code

pub stripped : (s p rest : List ℕ) → pointwise eqb (take (length p) s) p ≡ true → rest ≡ drop (length p) s → s ≡ p ++ rest
stripped s p rest e f =
    let front = (slice_eq-Decides Decides-eqb (take (length p) s) p true (sym e)).0 refl in
    sym (take-append-drop (length p) s) ∙ ap (λ (l : List ℕ). l ++ drop (length p) s) front ∙ ap (λ (l : List ℕ). p ++ l) (sym f)

pub not_stripped : (s p rest : List ℕ) → pointwise eqb (take (length p) s) p ≡ false → s ≡ p ++ rest → ⊥
not_stripped s p rest e f = strip_prefix_is Decides-eqb s p None e rest f

-- what is left of t from `at` on was walked for the piece
pub starts-if : {t p : List ℕ} {at : ℕ} {b : Bool} (s u : Rest) (r : Option (Unit {0})) → at ≤ length t → s.text.now ≡ slice_range t at (length t)
    → Taken begins otherwise s p r u → b ≡ is_some r → Decides (Starts t at p) b
starts-if {t} {p} {at} s u r h e m f = go r m f
  where
    left : drop at t ≡ s.text.now
    left = sym (e ∙ take_all (length t - at) (drop at t) (omega (arith, length-drop at t)))

    go : {b : Bool} (r : Option (Unit {0})) → Taken begins otherwise s p r u → b ≡ is_some r → Decides (Starts t at p) b
    go None m f = rw f (not_so (λ st. m _ (sym left ∙ st.is)))
    go (Some x) m f = rw f (so (starts-from t at p u.text.now h (left ∙ m)))

-- a whole text was walked for a netlist's
module _ {net : List ℕ} (s u : Rest) where
  pub other-text : {b : Bool} (r : Option (Unit {0})) → Taken begins otherwise s (flat_text net) r u → is_some r ≡ false → b ≡ false
      → Decides (WellFormed net × (s.text.now ≡ flat_text net)) b
  other-text None m e f = rw f (not_so (λ p. m [] (p.1 ∙ sym (append-nil (flat_text net)))))
  other-text (Some x) m e f = absurd (true≢false e)

  pub same-text : {b : Bool} (r : Option (Unit {0})) → WellFormed net → Taken begins otherwise s (flat_text net) r u → is_some r ≡ true → b ≡ eqb (length u.text.now) 0
      → Decides (WellFormed net × (s.text.now ≡ flat_text net)) b
  same-text None wf m e f = absurd (true≢false (sym e))
  same-text (Some x) wf m e f = go u.text.now m f
    where
      go : {b : Bool} (l : List ℕ) → s.text.now ≡ flat_text net ++ l → b ≡ eqb (length l) 0 → Decides (WellFormed net × (s.text.now ≡ flat_text net)) b
      go [] m f = rw f (so (wf, m ∙ append-nil (flat_text net)))
      go (c ∷ l) m f = rw (f ∙ ne_eqb (length (c ∷ l)) 0 (λ z. omega arith)) (not_so (λ p. nonempty (append_cancel_left (flat_text net) (c ∷ l) [] (sym m ∙ p.1 ∙ sym (append-nil (flat_text net))))))
        where
          nonempty : c ∷ l ≡ [] → ⊥
          nonempty e = let n = ap length e in omega arith
