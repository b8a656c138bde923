-- Lists in a text: what the counting readers make of them. Assumes nothing.
use Rattle.std.specs.Prelude.{◌≡◌, refl, List, [], ◌∷◌, ◌++◌, ℕ, zero, suc, ◌+◌, ◌-◌, ◌≤◌, ◌<◌, get_or, length, drop}
use Rattle.std.proofs.Common.{sym, ap, subst, ◌∙◌, append-nil, arith, drop-drop, length-append}
use Rattle.std.proofs.Math.Decide.{dec_lt}
use Rattle.rules.specs.Text.{bytes, joined}
use Rattle.rules.specs.Flat.{decimal, between, wire_text, entry_text, ports_text, vars_text}
use Rattle.write.specs.Pieces.{ports-begin, ports-open, ports-close, vars-begin, vars-open, vars-close}
use Rattle.read.specs.Ahead.{Ahead, pass, look, apart}

-- r is what follows b where t begins with it, else t
abbrev pub Passes : List ℕ → ℕ → List ℕ → Type 0
Passes t b r = (get_or t 0 0 ≡ b → r ≡ drop 1 t) × ((get_or t 0 0 ≡ b → ⊥) → r ≡ t)

-- a mark is passed where it stands, if what follows without it does not begin with it
pub mark-pass : {t r : List ℕ} {ps : List (List ℕ)} (b m : ℕ) → (get_or (joined ps) 0 0 ≡ b → ⊥) → Ahead t (between (b ∷ []) m ∷ ps) → Passes t b r → Ahead r ps
unfolding between joined
mark-pass {t} {r} {ps} b zero z a f = let d = apart [] refl a in record { rest = f.1 (λ e. z (sym (look 0 d) ∙ e)) ∙ d.rest }
mark-pass b (suc m) z a f = pass a (f.0 (look 0 a))

entry_length : (n : ℕ) → length (entry_text n) ≡ 6 + length (decimal n)
unfolding entry_text wire_text joined
entry_length n =
    let p : List ℕ = bytes ":WIRE" in
    let e : length ((119 ∷ (decimal n ++ [])) ++ (p ++ [])) ≡ length (119 ∷ (decimal n ++ [])) + length (p ++ []) = length-append (119 ∷ (decimal n ++ [])) (p ++ []) in
    omega (arith, e, ap length (append-nil (decimal n)))

entry_first : (n : ℕ) (ps : List (List ℕ)) → get_or (joined (entry_text n ∷ ps)) 0 0 ≡ 119
unfolding entry_text wire_text joined
entry_first n ps = refl

-- a list of ports begins with w or a bracket
ports-first : (s n : ℕ) (ps : List (List ℕ)) → get_or (joined (ports_text s n ∷ ps)) 0 0 ≡ 44 → ⊥
unfolding ports_text entry_text wire_text joined
ports-first s zero ps e = omega arith
ports-first s (suc n) ps e = omega arith

close-first : (ps : List (List ℕ)) → get_or (joined (bytes "]\n" ∷ ps)) 0 0 ≡ 93
unfolding joined
close-first ps = refl

piece : {t p q : List ℕ} {ps : List (List ℕ)} → p ≡ q → Ahead t (p ∷ ps) → Ahead t (q ∷ ps)
piece {t} {ps} e a = subst (λ (p : List ℕ). Ahead t (p ∷ ps)) e a

module _ {t : List ℕ} {ps : List (List ℕ)} (s k n : ℕ) (h : k ≤ n) (a : Ahead t (ports_text (s + k) (n - k) ∷ ps)) where
  -- no w: the list is closed
  pub ports-stop : {r : List ℕ} → (get_or t 0 0 ≡ 119 → ⊥) → r ≡ drop 2 t → (k ≡ n) × Ahead r ps
  ports-stop {r} z f = go (dec_lt k n)
    where
      go : Dec (k < n) → (k ≡ n) × Ahead r ps
      go (yes l) = absurd (z (look 0 (apart _ (ports-open s n k l) a) ∙ entry_first (s + k) _))
      go (no l) = let g : n ≤ k = omega arith in (omega arith, pass (piece (ports-close s n k g) a) f)

  -- a w: one more entry
  pub ports-turn : {q r : List ℕ} {e : ℕ} → get_or t 0 0 ≡ 119 → e ≡ length (decimal (s + k)) → q ≡ drop (6 + e) t → Passes q 44 r
      → (k + 1 ≤ n) × Ahead r (ports_text (s + (k + 1)) (n - (k + 1)) ∷ ps)
  ports-turn {q} {r} {e} y fe fq fr = go (dec_lt k n)
    where
      go : Dec (k < n) → (k + 1 ≤ n) × Ahead r (ports_text (s + (k + 1)) (n - (k + 1)) ∷ ps)
      go (no l) = let g : n ≤ k = omega arith in absurd (omega (arith, look 0 (piece (ports-close s n k g) a), close-first ps))
      go (yes l) =
          let i : 6 + e ≡ length (entry_text (s + k)) = omega (arith, entry_length (s + k)) in
          let d = pass (apart _ (ports-open s n k l) a) (fq ∙ ap (λ (j : ℕ). drop j t) i) in
          (omega arith, mark-pass 44 (n - (k + 1)) (ports-first (s + (k + 1)) (n - (k + 1)) ps) d fr)

pub ports-start : {t : List ℕ} {ps : List (List ℕ)} (s n : ℕ) → Ahead t (ports_text s n ∷ ps) → (0 ≤ n) × Ahead t (ports_text (s + 0) (n - 0) ∷ ps)
ports-start s n a = (omega arith, piece (ports-begin s n) a)

begin-first : (ps : List (List ℕ)) → get_or (joined (bytes "BEGIN\n" ∷ ps)) 0 0 ≡ 66
unfolding joined
begin-first ps = refl

var-first : (ps : List (List ℕ)) → get_or (joined (bytes "VAR " ∷ ps)) 0 0 ≡ 86
unfolding joined
var-first ps = refl

module _ {t : List ℕ} {ps : List (List ℕ)} (s k n : ℕ) (h : k ≤ n) (a : Ahead t (vars_text (s + k) (n - k) ∷ bytes "BEGIN\n" ∷ ps)) where
  pub vars-stop : (get_or t 0 0 ≡ 86 → ⊥) → (k ≡ n) × Ahead t (bytes "BEGIN\n" ∷ ps)
  vars-stop z = go (dec_lt k n)
    where
      go : Dec (k < n) → (k ≡ n) × Ahead t (bytes "BEGIN\n" ∷ ps)
      go (yes l) = absurd (z (look 0 (apart _ (vars-open s n k l) a) ∙ var-first _))
      go (no l) = let g : n ≤ k = omega arith in (omega arith, apart [] (vars-close s n k g) a)

  pub vars-turn : {r : List ℕ} {e : ℕ} → get_or t 0 0 ≡ 86 → e ≡ length (decimal (s + k)) → r ≡ drop (12 + e) t
      → (k + 1 ≤ n) × Ahead r (vars_text (s + (k + 1)) (n - (k + 1)) ∷ bytes "BEGIN\n" ∷ ps)
  vars-turn {r} {e} y fe fr = go (dec_lt k n)
    where
      go : Dec (k < n) → (k + 1 ≤ n) × Ahead r (vars_text (s + (k + 1)) (n - (k + 1)) ∷ bytes "BEGIN\n" ∷ ps)
      go (no l) = let g : n ≤ k = omega arith in absurd (omega (arith, look 0 (apart [] (vars-close s n k g) a), begin-first ps))
      go (yes l) =
          let m = length (entry_text (s + k)) in
          let b0 = apart _ (vars-open s n k l) a in
          let i : 12 + e ≡ (4 + m) + 2 = omega (arith, entry_length (s + k)) in
          let j : drop (12 + e) t ≡ drop 2 (drop m (drop 4 t)) = ap (λ (j : ℕ). drop j t) i ∙ sym (ap (λ (l : List ℕ). drop 2 l) (drop-drop m 4 t) ∙ drop-drop 2 (4 + m) t) in
          (omega arith, pass (pass (pass b0 refl) refl) (fr ∙ j))

pub vars-start : {t : List ℕ} {ps : List (List ℕ)} (s n : ℕ) → Ahead t (vars_text s n ∷ ps) → (0 ≤ n) × Ahead t (vars_text (s + 0) (n - 0) ∷ ps)
vars-start s n a = (omega arith, piece (vars-begin s n) a)
