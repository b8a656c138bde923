-- The sweep over the words of expressions is the rule for expressions. Assumes nothing.
use Rattle.std.specs.Prelude.{◌≡◌, Bool, List, [], ◌∷◌, ◌++◌, eqb, ltb, get_or}
use Rattle.std.proofs.Math.Path.{refl, ap}
use Rattle.std.proofs.Common.{sym, ◌∙◌, append_assoc, eqb-true}
use Rattle.std.proofs.Math.Bool.{true, false}
use Prim.Native.Nat.{ℕ, suc, ◌+◌, ◌-◌, ◌/◌, ◌%◌, ◌<◌, ◌≤◌}
use native.Mathlib.Omega.{arith}
use Rattle.std.proofs.Math.ListN.{length, length-append}
use Rattle.rules.specs.Text.{pick}
use Rattle.rules.specs.Outcome.{Out, ok, refuse, ◌>>=◌, at, need, need_at}
use Rattle.rules.specs.Syntax.{Name, Op, plus, minus, times, Exp, number, name, neg, group, both}
use Rattle.rules.specs.Names.{Role, a-generic, a-wire, a-vector, an-index, Scope, find, role_at, among, stands, expression}
use Rattle.rules.proofs.Laws.Outcomes.{ok-inj, inv, inv_at}
use Rattle.rules.proofs.Laws.Spelt.{SpeltName, SpeltCall, AllExp}
use Rattle.tape.specs.Layout.{pack, value_of, NUMBER, NAME, BRACKET, head_of, flip, name_w, kind-of, value-of}
use Rattle.tape.specs.Encoding.{exp_w}
use Rattle.tape.specs.Resolved.{slot_w}
use Rattle.sweep.specs.Spelling.{place_of, letters_of, name_of, valued, scope_in}
use Rattle.sweep.specs.Sweep.{State, declared_at, name_step, standing, after, onto, turn, sweep}
use Rattle.sweep.proofs.Laws.Turns.{turn-name, turn-other, sweep-on, sweep-no}

-- ---- outcomes and the words after them

-- the words of an outcome's value, and then those of the next outcome
unfoldable pub emit : {A : Type 0} → (A → List ℕ) → Out A → Out (List ℕ) → Out (List ℕ)
emit enc (ok a) R = onto (enc a) R
emit enc (refuse n p) R = refuse n p

pub onto-onto : (a b : List ℕ) (R : Out (List ℕ)) → onto a (onto b R) ≡ onto (a ++ b) R
unfolding after
onto-onto a b (ok us) = ap ok (sym (append_assoc a b us))
onto-onto a b (refuse n p) = refl

pub emit-after : {A B : Type 0} (enc : A → List ℕ) (enc' : B → List ℕ) (o : Out A) (f : A → B) (R : Out (List ℕ)) → ((a : A) → o ≡ ok a → enc' (f a) ≡ enc a)
    → emit enc o R ≡ emit enc' (after o f) R
unfolding emit after
emit-after enc enc' (ok a) f R h = rw (h a refl)
emit-after enc enc' (refuse n p) f R h = refl

pub onto-emit : {A B : Type 0} (w : List ℕ) (enc : A → List ℕ) (enc' : B → List ℕ) (o : Out A) (f : A → B) (R : Out (List ℕ)) → ((a : A) → o ≡ ok a → enc' (f a) ≡ w ++ enc a)
    → onto w (emit enc o R) ≡ emit enc' (after o f) R
unfolding emit after
onto-emit w enc enc' (ok a) f R h = onto-onto w (enc a) R ∙ rw (← (h a refl)) refl
onto-emit w enc enc' (refuse n p) f R h = refl

-- one after the other, and a value made of both
pub emit-both : {A B C : Type 0} (ea : A → List ℕ) (eb : B → List ℕ) (ec : C → List ℕ) (c : A → B → C) (oa : Out A) (ob : Out B) (R : Out (List ℕ)) → ((a : A) (b : B) → ec (c a b) ≡ ea a ++ eb b)
    → emit ea oa (emit eb ob R) ≡ emit ec (oa >>= λ a. ob >>= λ b. ok (c a b)) R
unfolding emit after ◌>>=◌
emit-both ea eb ec c (ok a) (ok b) R h = onto-onto (ea a) (eb b) R ∙ rw (← (h a b)) refl
emit-both ea eb ec c (ok a) (refuse n p) R h = refl
emit-both ea eb ec c (refuse n p) ob R h = refl

pub bind-after : {A B : Type 0} (o : Out A) (f : A → B) → after o f ≡ (o >>= λ x. ok (f x))
unfolding ◌>>=◌ after
bind-after (ok a) f = refl
bind-after (refuse n p) f = refl

-- ---- one word

module _ (s H F N : List ℕ) (p : ℕ) (S : State) (w : ℕ) (r : List ℕ) where
  pub sweep-plain : {T : State} → turn s H F N p S w r ≡ ok (w, T) → sweep s H F N p S (w ∷ r) ≡ onto (w ∷ []) (sweep s H F N (p + 1) T r)
  sweep-plain e = sweep-on s H F N p S w r e

  -- the state after it does not depend on what it becomes
  pub sweep-emit : {A : Type 0} (o : Out A) (g : A → ℕ) (T : State) → turn s H F N p S w r ≡ after o (λ k. (g k, T)) → sweep s H F N p S (w ∷ r) ≡ emit (λ k. g k ∷ []) o (sweep s H F N (p + 1) T r)
  unfolding after emit
  sweep-emit (ok k) g T e = sweep-on s H F N p S w r e
  sweep-emit (refuse n q) g T e = sweep-no s H F N p S w r e

-- ---- names as the text spells them

module _ (s : List ℕ) (few : length s ≤ 16384) (k h : ℕ) (small : h < 8) (n : Name) (spelt : SpeltName s n) where
  pub name-fits : name_w n < 33554432
  unfolding name_w
  name-fits = omega (arith, spelt.within, spelt.few)

  place_in : name_w n / 32 % 32768 ≡ n.place
  unfolding name_w
  place_in = omega (arith, spelt.within, spelt.few)

  length-in : name_w n % 32 ≡ length n.letters
  unfolding name_w
  length-in = omega (arith, spelt.few)

  pub name-place : place_of (pack k h (name_w n)) ≡ n.place
  name-place = rw (value-of k h (name_w n) small name-fits) place_in

  pub name-length : value_of (pack k h (name_w n)) % 32 ≡ length n.letters
  name-length = rw (value-of k h (name_w n) small name-fits) length-in

  pub name-letters : letters_of s (pack k h (name_w n)) ≡ n.letters
  unfolding letters_of
  name-letters = rw (name-length, name-place) (sym spelt.letters)

  pub name-itself : name_of s (pack k h (name_w n)) ≡ n
  name-itself = rw (name-place, name-letters) refl

pub valued-pack : (k h v x : ℕ) → v < 33554432 → valued (pack k h v) x ≡ pack k h x
valued-pack k h v x l = omega arith

-- ---- loops around

-- between lo and hi, the loops whose ends are u are those over L
abbrev pub Clear : List ℕ → List ℕ → ℕ → ℕ → Type 0
Clear L u lo hi = (p k : ℕ) → lo ≤ p → p < hi → ltb p (get_or u k 0) ≡ among k L

pub stands-as : (L u : List ℕ) (p k : ℕ) (r : Role) → ltb p (get_or u k 0) ≡ among k L → standing p (get_or u k 0) r ≡ stands L k r
unfolding standing stands
stands-as L u p k a-generic e = refl
stands-as L u p k a-wire e = refl
stands-as L u p k a-vector e = refl
stands-as L u p k an-index e = e

pub flip-small : (h : ℕ) → h < 8 → flip h < 8
unfolding flip pick
flip-small h l = go (eqb (h % 2) 0) refl
  where
    go : (b : Bool) → eqb (h % 2) 0 ≡ b → pick b (h + 1) (h - 1) < 8
    go true e = let z = eqb-true (h % 2) 0 e in omega arith
    go false e = omega arith

pub head_small : (o : Op) → head_of o < 8
unfolding head_of
head_small plus = omega arith
head_small minus = omega arith
head_small times = omega arith

-- ---- expressions

-- as many words, whatever stands for the names
pub exp-length : (E : Scope) (L : List ℕ) (e : Exp Name) {e' : Exp ℕ} (h g : ℕ) → expression E L e ≡ ok e' → length (exp_w slot_w h e') ≡ length (exp_w name_w g e)
unfolding expression exp_w
exp-length E L (number v) h g q = rw (← (ok-inj q)) refl
exp-length E L (name n) h g q = inv _ _ q λ k _ q₁. inv_at _ _ _ q₁ λ _ _ q₂. rw (← (ok-inj q₂)) refl
exp-length E L (neg x) h g q = inv _ _ q λ y qy q₁. rw (← (ok-inj q₁)) (exp-length E L x (flip h) (flip g) qy)
exp-length E L (group x) h g q = inv _ _ q λ y qy q₁. rw (← (ok-inj q₁)) (ap suc (exp-length E L x 0 0 qy))
exp-length E L (both o d x) h g q =
    inv _ _ q λ d' qd q₁. inv _ _ q₁ λ x' qx q₂.
    let a = exp-length E L d h g qd in
    let b = exp-length E L x (head_of o) (head_of o) qx in
    rw (← (ok-inj q₂)) (omega (arith, length-append (exp_w slot_w h d') (exp_w slot_w (head_of o) x'), length-append (exp_w name_w g d) (exp_w name_w (head_of o) x)))

module _ (s H F N : List ℕ) (few : length s ≤ 16384) (S : State) (L : List ℕ) (lo hi : ℕ) (low : hi ≤ 16384) (clear : Clear L S.until lo hi) where
  abbrev E : Scope
  E = scope_in s (declared_at S)

  abbrev Spelled : ℕ → Exp Name → Type 0
  Spelled l e = AllExp {C = Name} (SpeltName s) (SpeltCall s) (length s) l e

  name-swept : (p : ℕ) (n : Name) (w : ℕ) → name_of s w ≡ n → place_of w ≡ n.place → lo ≤ p → p < hi → expression E L (name n) ≡ after (name_step s p (declared_at S) S.until w) name
  unfolding expression name_step ◌>>=◌ after at need
  name-swept p n w e q a b = rw (e, q) (go (find E n))
    where
      inner : (k : ℕ) (c d : Bool) → c ≡ d → (need_at n.place c 7 >>= λ _. ok (name k)) ≡ after (need_at n.place d 7 >>= λ _. ok k) name
      inner k true d f = rw (← f) refl
      inner k false d f = rw (← f) refl

      go : (o : Out ℕ) → (o >>= λ k. need_at n.place (stands L k (role_at E k)) 7 >>= λ _. ok (name k)) ≡ after (o >>= λ k. need_at n.place (standing p (get_or S.until k 0) (role_at E k)) 7 >>= λ _. ok k) name
      go (ok k) = inner k _ _ (sym (stands-as L S.until p k (role_at E k) (clear p k a b)))
      go (refuse m x) = refl

  pub exp-swept : (e : Exp Name) (h p l : ℕ) (r : List ℕ) → h < 8 → Spelled l e → lo ≤ p → p + length (exp_w name_w h e) ≤ hi
      → sweep s H F N p S (exp_w name_w h e ++ r) ≡ emit (exp_w slot_w h) (expression E L e) (sweep s H F N (p + length (exp_w name_w h e)) S r)
  unfolding exp_w expression AllExp emit
  exp-swept (number v) h p l r small q a b =
      let k = kind-of NUMBER h v small (omega arith) in
      sweep-plain s H F N p S (pack NUMBER h v) r (turn-other s H F N p S (pack NUMBER h v) r 0 (sym k) false (λ z. omega arith) (λ z. omega arith) refl refl (λ z. omega arith) (λ z. omega arith) (λ z. omega arith) (omega arith))
  exp-swept (name n) h p l r small q a b =
      let v = name-fits s few NAME h small n q in
      let k = kind-of NAME h (name_w n) small v in
      sweep-emit s H F N p S (pack NAME h (name_w n)) r (name_step s p (declared_at S) S.until (pack NAME h (name_w n))) (λ k. valued (pack NAME h (name_w n)) k) S (turn-name s H F N p S (pack NAME h (name_w n)) r 1 (sym k) refl)
      ∙ emit-after _ (exp_w slot_w h) _ name _ (λ k _. ap (λ x. x ∷ []) (sym (valued-pack NAME h (name_w n) k v)))
      ∙ ap (λ o. emit (exp_w slot_w h) o (sweep s H F N (p + 1) S r)) (sym (name-swept p n (pack NAME h (name_w n)) (name-itself s few NAME h small n q) (name-place s few NAME h small n q) a (omega arith)))
  exp-swept (neg x) h p l r small q a b =
      exp-swept x (flip h) p 0 r (flip-small h small) q a b
      ∙ emit-after (exp_w slot_w (flip h)) (exp_w slot_w h) _ neg _ (λ y _. refl)
      ∙ ap (λ o. emit (exp_w slot_w h) o (sweep s H F N (p + length (exp_w name_w (flip h) x)) S r)) (bind-after (expression E L x) neg)
  exp-swept (group x) h p l r small q a b =
      let n = length (exp_w name_w 0 x) in
      let k = kind-of BRACKET h n small (omega arith) in
      let e : p + 1 + n ≡ p + suc n = omega arith in
      sweep-plain s H F N p S (pack BRACKET h n) (exp_w name_w 0 x ++ r) (turn-other s H F N p S (pack BRACKET h n) _ 2 (sym k) false (λ z. omega arith) (λ z. omega arith) refl refl (λ z. omega arith) (λ z. omega arith) (λ z. omega arith) (omega arith))
      ∙ ap (onto (pack BRACKET h n ∷ [])) (exp-swept x 0 (p + 1) 2 r (omega arith) q (omega arith) (omega arith))
      ∙ onto-emit (pack BRACKET h n ∷ []) (exp_w slot_w 0) (exp_w slot_w h) (expression E L x) group _ (λ y qy. ap (λ m. pack BRACKET h m ∷ exp_w slot_w 0 y) (exp-length E L x 0 0 qy))
      ∙ rw e (ap (λ o. emit (exp_w slot_w h) o (sweep s H F N (p + suc n) S r)) (bind-after (expression E L x) group))
  exp-swept (both o d x) h p l r small q a b =
      let m = length-append (exp_w name_w h d) (exp_w name_w (head_of o) x) in
      let e : p + length (exp_w name_w h d) + length (exp_w name_w (head_of o) x) ≡ p + length (exp_w name_w h d ++ exp_w name_w (head_of o) x) = omega arith in
      ap (sweep s H F N p S) (append_assoc (exp_w name_w h d) (exp_w name_w (head_of o) x) r)
      ∙ exp-swept d h p _ (exp_w name_w (head_of o) x ++ r) small q.1 a (omega arith)
      ∙ ap (emit (exp_w slot_w h) (expression E L d)) (exp-swept x (head_of o) (p + length (exp_w name_w h d)) _ r (head_small o) q.2 (omega arith) (omega arith))
      ∙ rw e (emit-both (exp_w slot_w h) (exp_w slot_w (head_of o)) (exp_w slot_w h) (both o) (expression E L d) (expression E L x) _ (λ y z. refl))
