-- Where the words of a text stand: within the text, one after the other. Assumes nothing.
use Rattle.std.specs.Prelude.{ℕ, suc, ◌+◌, ◌≤◌, ◌<◌, Bool, true, false, List, [], ◌∷◌, length, get_or, drop, T, eqb}
use Rattle.std.proofs.Common.{sym, subst, arith, length-drop, drop-cons, ltb→lt, eqb→eq}
use Rattle.std.proofs.Math.Decide.{dec_lt}
use Rattle.std.proofs.Math.ListN.{get_or-eq_default}
use Rattle.rules.specs.Text.{pick}
use Rattle.rules.specs.declared.Word.{Word}
use Rattle.rules.specs.declared.Word.TheVariants.{Bad, Name as Named, Number, Mark}
use Rattle.rules.specs.Words.{is_separator, in_word, run, spelled, begun, word_at}
use Rattle.rules.proofs.Laws.Outcomes.{both_yes}

-- a word at or after a place of a text of a length; what is not the end takes a byte
pub data Placed (len at : ℕ) : Word → Type 0 where
  bad : {p : ℕ} → p ≤ len → Placed len at (Bad p)
  named : {p q : ℕ} → at ≤ p → p < q → q ≤ len → Placed len at (Named p q)
  number : {p q v : ℕ} → at ≤ p → p < q → q ≤ len → Placed len at (Number p q v)
  mark : {b p q : ℕ} → at ≤ p → p < q → q ≤ len → Placed len at (Mark b p q)
  the_end : at ≤ len → Placed len at (Mark 0 len len)

pub pick-of : {A : Type 0} (P : A → Type 0) (c : Bool) (x y : A) → (T c → P x) → ((T c → ⊥) → P y) → P (pick c x y)
unfolding pick
pick-of P true x y f g = f tt
pick-of P false x y f g = g (λ t. t)

pub run-most : (p : ℕ → Bool) (l : List ℕ) → run p l ≤ length l
unfolding run
run-most p [] = omega arith
run-most p (b ∷ r) = pick-of (λ n. n ≤ suc (length r)) (p b) (suc (run p r)) 0 (λ t. omega (arith, run-most p r)) (λ t. omega arith)

pub run-some : (p : ℕ → Bool) (b : ℕ) (r : List ℕ) → T (p b) → 0 < run p (b ∷ r)
unfolding run
run-some p b r t = pick-of (λ n. 0 < n) (p b) (suc (run p r)) 0 (λ h. omega arith) (λ h. absurd (h t))

spelled-placed : (len at p q : ℕ) (w : List ℕ) → at ≤ p → p < q → q ≤ len → Placed len at (spelled p q w)
unfolding spelled
spelled-placed len at p q w a b c =
    let d : p ≤ len = omega arith in
    pick-of (Placed len at) _ _ _ (λ t. mark a b c)
    (λ t. pick-of (Placed len at) _ _ _ (λ t. number a b c)
    (λ t. pick-of (Placed len at) _ _ _ (λ t. named a b c) (λ t. bad d)))

word-run : (s : List ℕ) (p : ℕ) → p < length s → T (in_word (get_or s p 0)) → (p < p + run in_word (drop p s)) × (p + run in_word (drop p s) ≤ length s)
word-run s p h t =
    let z : 0 < run in_word (drop p s) = subst (λ l. 0 < run in_word l) (sym (drop-cons s p 0 h)) (run-some in_word (get_or s p 0) (drop (suc p) s) t) in
    (omega arith, omega (arith, run-most in_word (drop p s), length-drop p s))

dots-fit : (s : List ℕ) (p : ℕ) → T (eqb (get_or s (p + 1) 0) 46) → p + 2 ≤ length s
dots-fit s p t = go (dec_lt (p + 1) (length s))
  where
    go : Dec (p + 1 < length s) → p + 2 ≤ length s
    go (yes l) = omega arith
    go (no l) = let z : length s ≤ p + 1 = omega arith in absurd (omega (arith, eqb→eq (get_or s (p + 1) 0) 46 t, get_or-eq_default s 0 z))

begun-placed : (s : List ℕ) (at p : ℕ) → at ≤ p → p < length s → Placed (length s) at (begun s p)
unfolding begun
begun-placed s at p a h =
    let d : p ≤ length s = omega arith in
    let one : p < p + 1 = omega arith in
    let two : p < p + 2 = omega arith in
    let fits : p + 1 ≤ length s = omega arith in
    pick-of (Placed (length s) at) _ _ _ (λ t. let (b, c) = word-run s p h t in spelled-placed (length s) at p _ _ a b c)
    (λ t. pick-of (Placed (length s) at) _ _ _ (λ t. mark a one fits)
    (λ t. pick-of (Placed (length s) at) _ _ _ (λ t. mark a two (dots-fit s p (both_yes (eqb (get_or s p 0) 46) (eqb (get_or s (p + 1) 0) 46) t).1))
    (λ t. bad d)))

pub word-placed : (s : List ℕ) (at : ℕ) → at ≤ length s → Placed (length s) at (word_at s at)
unfolding word_at
word-placed s at h =
    let le : at ≤ at + run is_separator (drop at s) = omega arith in
    pick-of (Placed (length s) at) _ _ _ (λ t. begun-placed s at _ le (ltb→lt _ _ t)) (λ t. the_end h)
