-- Laws of the sweep: a word by its kind, and one word after another. Assumes nothing.
use Rattle.std.specs.Prelude.{◌≡◌, refl, Bool, true, false, ◌||◌, List, [], ◌∷◌, ◌++◌, ℕ, ◌+◌, ◌<◌, ◌≤◌, eqb, length, get_or, set, take, drop, Result}
use Rattle.std.proofs.Common.{sym, ◌∙◌, subst, append-nil, add-one, arith, take-suc-set, drop-set-lt, drop-drop, drop_of_length-le, take_all}
use Rattle.std.proofs.Math.Path.{ap}
use Rattle.std.proofs.Math.Seq.{append_snoc}
use borrow.Author.Tests.{ne_eqb, lt-ltb, le-ltb}
use Rattle.rules.specs.Text.{pick}
use Rattle.rules.specs.Outcome.{Out, ok, refuse, ◌>>=◌}
use Rattle.rules.specs.declared.Refusal.{Refusal}
use Rattle.tape.specs.Layout.{kind_of, value_of}
use Rattle.sweep.specs.declared.Step.{Step}
use Rattle.sweep.specs.Spelling.{valued}
use Rattle.sweep.specs.Sweep.{State, declared_at, name_step, index_step, argument_step, call_step, block_step, declare_step, heading_of, after, called, argued, indexed, entered, begun, declares, turn, sweep, onto, Says}
use Rattle.sweep.proofs.Laws.Counts.{first-of}

pub says-as : {o u : Out (ℕ × State)} (scope until : List ℕ) (r : Result Step Refusal) → o ≡ u → Says u scope until r → Says o scope until r
says-as scope until r e h = subst (λ o. Says o scope until r) (sym e) h

module _ (s H F N : List ℕ) (p : ℕ) (S : State) (w : ℕ) (ws : List ℕ) (k : ℕ) (e : k ≡ kind_of w) where
  pub turn-name : k ≡ 1 → turn s H F N p S w ws ≡ after (name_step s p (declared_at S) S.until w) (λ k. (valued w k, S))
  unfolding turn pick
  turn-name h = rw (← e, h)

  pub turn-call : k ≡ 3 → turn s H F N p S w ws ≡ after (call_step s H F N w ws) (λ c. called (heading_of H F c) S w c)
  unfolding turn pick
  turn-call h = rw (← e, h)

  pub turn-argument : (b : Bool) → (k ≡ 1 → ⊥) → (k ≡ 3 → ⊥) → b ≡ (eqb k 4 || eqb k 5) → b ≡ true
      → turn s H F N p S w ws ≡ after (argument_step s (declared_at S) (get_or H S.want 0) w) (λ k. argued S w k)
  unfolding turn pick
  turn-argument b n₁ n₃ f t = rw (← e, ne_eqb k 1 n₁, ne_eqb k 3 n₃, ← f, t)

  pub turn-index : k ≡ 7 → turn s H F N p S w ws ≡ after (index_step s (declared_at S) w) (λ k. indexed S w k)
  unfolding turn pick
  turn-index h = rw (← e, h)

  pub turn_body : k ≡ 8 → turn s H F N p S w ws ≡ ok (entered S w (p + 1 + value_of w))
  unfolding turn pick
  turn_body h = rw (← e, h)

  pub turn-block : k ≡ 9 → turn s H F N p S w ws ≡ after (block_step s (take S.blocks N) w) (λ _. begun S w)
  unfolding turn pick
  turn-block h = rw (← e, h)

  module _ (b : Bool) (n₁ : k ≡ 1 → ⊥) (n₃ : k ≡ 3 → ⊥) (f : b ≡ (eqb k 4 || eqb k 5)) (t : b ≡ false) (n₇ : k ≡ 7 → ⊥) (n₈ : k ≡ 8 → ⊥) (n₉ : k ≡ 9 → ⊥) where
    pub turn-declared : 9 < k → turn s H F N p S w ws ≡ after (declare_step s (declared_at S) w) (λ _. declares S w)
    unfolding turn pick
    turn-declared h = rw (← e, ne_eqb k 1 n₁, ne_eqb k 3 n₃, ← f, t, ne_eqb k 7 n₇, ne_eqb k 8 n₈, ne_eqb k 9 n₉, lt-ltb 9 k h)

    pub turn-other : k ≤ 9 → turn s H F N p S w ws ≡ ok (w, S)
    unfolding turn pick
    turn-other h = rw (← e, ne_eqb k 1 n₁, ne_eqb k 3 n₃, ← f, t, ne_eqb k 7 n₇, ne_eqb k 8 n₈, ne_eqb k 9 n₉, le-ltb 9 k h)

-- ---- one word after another

after-bind : {A B : Type 0} (o : Out A) (f : A → B) → (o >>= λ x. ok (f x)) ≡ after o f
unfolding ◌>>=◌ after
after-bind (ok a) f = refl
after-bind (refuse n p) f = refl

pub onto-none : (o : Out (List ℕ)) → onto [] o ≡ o
unfolding after
onto-none (ok a) = refl
onto-none (refuse n p) = refl

-- a word more before what follows
pub onto-one : (a : List ℕ) (w : ℕ) (o : Out (List ℕ)) → onto a (after o (λ us. w ∷ us)) ≡ onto (a ++ (w ∷ [])) o
unfolding after
onto-one a w (ok us) = ap ok (sym (append_snoc a w us))
onto-one a w (refuse n p) = refl

module _ (s H F N : List ℕ) (p : ℕ) (S : State) (w : ℕ) (ws : List ℕ) where
  -- what a word is refused for comes before all that the words after it are
  pub sweep-no : {n q : ℕ} → turn s H F N p S w ws ≡ refuse n q → sweep s H F N p S (w ∷ ws) ≡ refuse n q
  unfolding sweep ◌>>=◌
  sweep-no e = rw e

  pub sweep-on : {v : ℕ} {T : State} → turn s H F N p S w ws ≡ ok (v, T) → sweep s H F N p S (w ∷ ws) ≡ after (sweep s H F N (p + 1) T ws) (λ us. v ∷ us)
  unfolding sweep ◌>>=◌
  sweep-on e = rw e (after-bind _ _)

-- ---- on the tape t, which from p on is as t₀ was

module _ (s H F N : List ℕ) (p : ℕ) (S S₀ : State) (t t₀ : List ℕ) (lt : p < length t) (same : drop p t ≡ drop p t₀) (so : sweep s H F N 0 S₀ t₀ ≡ onto (take p t) (sweep s H F N p S (drop p t₀))) where
  here : drop p t₀ ≡ get_or t p 0 ∷ drop (p + 1) t
  here = sym same ∙ first-of t p lt

  later : drop (p + 1) t ≡ drop (p + 1) t₀
  later = sym (drop-drop 1 p t) ∙ ap (drop 1) same ∙ drop-drop 1 p t₀

  pub halts : {n q : ℕ} → turn s H F N p S (get_or t p 0) (drop (p + 1) t) ≡ refuse n q → sweep s H F N 0 S₀ t₀ ≡ refuse n q
  unfolding after
  halts e = so ∙ ap (onto (take p t)) (ap (sweep s H F N p S) here ∙ sweep-no s H F N p S _ _ e)

  pub goes : {v : ℕ} {T : State} → turn s H F N p S (get_or t p 0) (drop (p + 1) t) ≡ ok (v, T)
      → sweep s H F N 0 S₀ t₀ ≡ onto (take (p + 1) (set t p v)) (sweep s H F N (p + 1) T (drop (p + 1) t₀))
  goes {v} {T} e =
      so ∙ ap (onto (take p t)) (ap (sweep s H F N p S) here ∙ sweep-on s H F N p S _ _ e) ∙ onto-one (take p t) v _
      ∙ rw (add-one p, take-suc-set t p v lt, ← (add-one p), later)

  pub goes_same : (v : ℕ) → drop (p + 1) (set t p v) ≡ drop (p + 1) t₀
  goes_same v = let a : p < p + 1 = omega arith in drop-set-lt (p + 1) t p v a ∙ later

pub begins : (s H F N : List ℕ) (S : State) (t : List ℕ) → sweep s H F N 0 S t ≡ onto (take 0 t) (sweep s H F N 0 S (drop 0 t))
begins s H F N S t = sym (onto-none _)

pub finished : (s H F N : List ℕ) (p : ℕ) (S S₀ : State) (t t₀ : List ℕ) → length t ≤ p → length t₀ ≡ length t → sweep s H F N 0 S₀ t₀ ≡ onto (take p t) (sweep s H F N p S (drop p t₀)) → sweep s H F N 0 S₀ t₀ ≡ ok t
unfolding sweep after
finished s H F N p S S₀ t t₀ h l so = let k : length t₀ ≤ p = omega arith in so ∙ rw (drop_of_length-le t₀ k) (ap ok (append-nil _ ∙ take_all p t h))
