-- Writing pieces one after the other into lent memory. Assumes nothing.
use Rattle.std.specs.Prelude.{◌≡◌, refl, List, [], ◌∷◌, ◌++◌, ℕ, suc, ◌+◌, ◌≤◌, set, length, take, drop}
use Rattle.std.proofs.Common.{sym, ap, subst, ◌∙◌, append_assoc, drop-drop, arith, length-append}
use Rattle.std.proofs.lemmas.List.Edits.{sets-eq}
use lib.Seq.{sets, length-sets}
use Rattle.rules.specs.Text.{joined}

-- t with p from at on is u, and r is the next place
pub record Put (t : List ℕ) (at : ℕ) (p : List ℕ) (r : ℕ) (u : List ℕ) : Type 0 where
  pub next : r ≡ at + length p
  pub text : u ≡ sets t at p

pub put-none : {t : List ℕ} {at : ℕ} → Put t at [] at t
put-none = record { next = omega arith; text = refl }

sets-append : (p q t : List ℕ) (at : ℕ) → sets t at (p ++ q) ≡ sets (sets t at p) (at + length p) q
sets-append [] q t at = let e : at ≡ at + 0 = omega arith in ap (λ (a : ℕ). sets t a q) e
sets-append (b ∷ p) q t at =
    let e : suc at + length p ≡ at + suc (length p) = omega arith in
    sets-append p q (set t at b) (suc at) ∙ ap (λ (a : ℕ). sets (sets (set t at b) (suc at) p) a q) e

pub put_then : {t u v : List ℕ} {at r s : ℕ} {p q : List ℕ} → Put t at p r u → Put u r q s v → Put t at (p ++ q) s v
put_then {t} {at} {r} {p} {q} a b =
    record {
      next = omega (arith, a.next, b.next, length-append p q);
      text = b.text ∙ ap (λ (l : List ℕ). sets l r q) a.text ∙ ap (λ (k : ℕ). sets (sets t at p) k q) a.next ∙ sym (sets-append p q t at);
    }

pub put-size : {t u : List ℕ} {at r : ℕ} {p : List ℕ} → Put t at p r u → length u ≡ length t
put-size {t} {at} {p} a = ap length a.text ∙ length-sets t at p

-- pieces joined in two parts
pub joined-append : (ps qs : List (List ℕ)) → joined (ps ++ qs) ≡ joined ps ++ joined qs
unfolding joined
joined-append [] qs = refl
joined-append (p ∷ ps) qs = ap (λ (l : List ℕ). p ++ l) (joined-append ps qs) ∙ sym (append_assoc p (joined ps) (joined qs))

pub put_is : {t u p q : List ℕ} {at r : ℕ} → p ≡ q → Put t at p r u → Put t at q r u
put_is {t} {u} {at} {r} e a = subst (λ (p : List ℕ). Put t at p r u) e a

-- a part of t that was copied over
pub copied : (t s : List ℕ) (at k : ℕ) {ys : List ℕ} → at + length s ≤ length t → ys ≡ s → k ≡ length s → take at t ++ (ys ++ drop k (drop at t)) ≡ sets t at s
copied t s at k h e f = rw (e, f, drop-drop (length s) at t, sets-eq s t at h) (sym (append_assoc (take at t) s (drop (at + length s) t)))
