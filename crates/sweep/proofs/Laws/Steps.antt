-- Laws of one word: what finding its name gives. Assumes nothing.
use Rattle.std.specs.Prelude.{◌≡◌, refl, Bool, true, false, ◌||◌, List, [], ◌∷◌, ◌++◌, map, ℕ, zero, suc, ◌+◌, ◌<◌, ◌≤◌, eqb, ltb, length, get_or, Option, Some, None, IfOk}
use Rattle.std.specs.Option.{is_some, ok_or}
use Rattle.std.proofs.Common.{sym, ap, ◌∙◌, arith, length-append}
use Rattle.std.proofs.lemmas.List.{length-map}
use borrow.Author.Tests.{lt-ltb, le-ltb, ltb-true, ltb-false}
use Rattle.rules.specs.Text.{pick, same, index_of, is_in}
use Rattle.rules.specs.Primitives.{primitive_names}
use Rattle.rules.specs.Outcome.{Out, ok, refuse, ◌>>=◌, at, need}
use Rattle.rules.specs.Names.{is_index, spellings, find, role_at, once}
use Rattle.rules.specs.Reasons.{number}
use Rattle.rules.specs.declared.Refusal.{Refusal}
use Rattle.tape.specs.Layout.{head_in}
use Rattle.sweep.specs.Spelling.{place_of, letters_of, name_of, role_in, scope_in}
use Rattle.sweep.specs.Sweep.{standing, sort_fits, shape_fits, name_step, index_step, argument_step, callee_in, call_step, counts_fit, heading_of, block_step, declare_step, after, State, Finds, Answers}

pub spelled-alike : (s ws : List ℕ) → spellings (scope_in s ws) ≡ map (letters_of s) ws
spelled-alike s [] = refl
spelled-alike s (w ∷ ws) = ap (λ l. letters_of s w ∷ l) (spelled-alike s ws)

pub role-there : (s ws : List ℕ) (k : ℕ) → k < length ws → role_at (scope_in s ws) k ≡ role_in (get_or ws k 0)
role-there s [] k h = absurd (omega arith)
role-there s (w ∷ ws) zero h = refl
role-there s (w ∷ ws) (suc k) h = role-there s ws k (omega arith)

-- a search says whether a spelling is there
pub found-in : (l : List ℕ) (vs : List (List ℕ)) (r : Option ℕ) → Finds l vs r → is_some r ≡ is_in l vs
found-in l vs (Some k) h = rw (← h.0) (sym (lt-ltb _ _ h.1))
found-in l vs None h = sym (le-ltb _ _ h)

-- the word w was looked for among the declared words
module _ (s declared : List ℕ) (w : ℕ) where
  pub find-answers : (r : Option ℕ) (e : Refusal) → Finds (letters_of s w) (map (letters_of s) declared) r → number e.reason ≡ 7 → e.place ≡ place_of w → Answers (find (scope_in s declared) (name_of s w)) (ok_or r e)
  unfolding find ◌>>=◌ at need
  find-answers (Some k) e h n p = rw (spelled-alike s declared, ← h.0, lt-ltb _ _ h.1)
  find-answers None e h n p = rw (spelled-alike s declared, le-ltb _ _ h, n, p)

  pub found-below : (r : Option ℕ) (e : Refusal) → Finds (letters_of s w) (map (letters_of s) declared) r → IfOk (ok_or r e) (λ k. k < length declared)
  found-below (Some k) e h = omega (arith, h.1, length-map declared (letters_of s))
  found-below None e h = tt

  module _ {n q : ℕ} (f : find (scope_in s declared) (name_of s w) ≡ refuse n q) where
    pub name-unknown : (p : ℕ) (u : List ℕ) → name_step s p declared u w ≡ refuse n q
    unfolding name_step ◌>>=◌
    name-unknown p u = rw f

    pub index-unknown : index_step s declared w ≡ refuse n q
    unfolding index_step ◌>>=◌
    index-unknown = rw f

    pub argument-unknown : (v : ℕ) → argument_step s declared v w ≡ refuse n q
    unfolding argument_step ◌>>=◌
    argument-unknown v = rw f

  -- it was found as the number k
  module _ {k : ℕ} (f : find (scope_in s declared) (name_of s w) ≡ ok k) (l : k < length declared) where
    -- in an expression at p
    module _ (p : ℕ) (u : List ℕ) (x : ℕ) (e : x ≡ get_or u k 0) (b : Bool) (c : b ≡ standing p x (role_in (get_or declared k 0))) where
      pub name-stands : b ≡ true → name_step s p declared u w ≡ ok k
      unfolding name_step ◌>>=◌ at need
      name-stands g = rw (f, role-there s declared k l, ← e, ← c, g)

      pub name-bars : b ≡ false → name_step s p declared u w ≡ refuse 7 (place_of w)
      unfolding name_step ◌>>=◌ at need
      name-bars g = rw (f, role-there s declared k l, ← e, ← c, g)

    -- as a loop's index
    module _ (b : Bool) (c : b ≡ is_index (role_in (get_or declared k 0))) where
      pub index-stands : b ≡ true → index_step s declared w ≡ ok k
      unfolding index_step ◌>>=◌ at need
      index-stands g = rw (f, role-there s declared k l, ← c, g)

      pub index-bars : b ≡ false → index_step s declared w ≡ refuse 7 (place_of w)
      unfolding index_step ◌>>=◌ at need
      index-bars g = rw (f, role-there s declared k l, ← c, g)

    -- as an argument, for the port of word v
    module _ (v : ℕ) (x : ℕ) (e : x ≡ head_in w) (b : Bool) (c : b ≡ sort_fits x (role_in (get_or declared k 0))) where
      pub sort-bars : b ≡ false → argument_step s declared v w ≡ refuse 7 (place_of w)
      unfolding argument_step ◌>>=◌ at need
      sort-bars g = rw (f, role-there s declared k l, ← e, ← c, g)

      module _ (t : b ≡ true) (z : Bool) (d : z ≡ shape_fits x (role_in (get_or declared k 0)) (eqb (head_in v) 0)) where
        pub shape-stands : z ≡ true → argument_step s declared v w ≡ ok k
        unfolding argument_step ◌>>=◌ at need
        shape-stands g = rw (f, role-there s declared k l, ← e, ← c, t, ← d, g)

        pub shape-bars : z ≡ false → argument_step s declared v w ≡ refuse 8 (place_of w)
        unfolding argument_step ◌>>=◌ at need
        shape-bars g = rw (f, role-there s declared k l, ← e, ← c, t, ← d, g)

-- ---- a call's name, among the words that name blocks

module _ (s N : List ℕ) (w : ℕ) where
  pub callee-gate : {k : ℕ} → Finds (letters_of s w) primitive_names (Some k) → callee_in s N w ≡ ok k
  unfolding callee_in pick
  callee-gate h = rw (← h.0, lt-ltb _ 10 h.1)

  module _ (l : Finds (letters_of s w) primitive_names None) where
    pub callee-none : Finds (letters_of s w) (map (letters_of s) N) None → callee_in s N w ≡ refuse 7 (place_of w)
    unfolding callee_in pick ◌>>=◌ at need
    callee-none h = rw (le-ltb _ 10 l, le-ltb _ _ h)

    pub callee-block : {b : ℕ} → Finds (letters_of s w) (map (letters_of s) N) (Some b) → callee_in s N w ≡ ok (10 + b)
    unfolding callee_in pick ◌>>=◌ at need
    callee-block h = rw (le-ltb _ 10 l, ← h.0, lt-ltb _ _ h.1)

-- where a word is found in two lists, one after the other
pub in-first : (w : List ℕ) (us vs : List (List ℕ)) → index_of w us < length us → index_of w (us ++ vs) ≡ index_of w us
unfolding index_of pick
in-first w [] vs h = absurd (omega arith)
in-first w (u ∷ us) vs h = go (same w u) h (in-first w us vs)
  where
    go : (b : Bool) → pick b 0 (suc (index_of w us)) < suc (length us) → (index_of w us < length us → index_of w (us ++ vs) ≡ index_of w us) → pick b 0 (suc (index_of w (us ++ vs))) ≡ pick b 0 (suc (index_of w us))
    go true h f = refl
    go false h f = ap suc (f (omega arith))

pub in-second : (w : List ℕ) (us vs : List (List ℕ)) → length us ≤ index_of w us → index_of w (us ++ vs) ≡ length us + index_of w vs
unfolding index_of pick
in-second w [] vs h = omega arith
in-second w (u ∷ us) vs h = go (same w u) h (in-second w us vs)
  where
    go : (b : Bool) → suc (length us) ≤ pick b 0 (suc (index_of w us)) → (length us ≤ index_of w us → index_of w (us ++ vs) ≡ length us + index_of w vs) → pick b 0 (suc (index_of w (us ++ vs))) ≡ suc (length us) + index_of w vs
    go true h f = absurd (omega arith)
    go false h f = let z = f (omega arith) in omega arith

shifted : (a b d : ℕ) → ltb (a + b) (a + d) ≡ ltb b d
shifted a b d = go (ltb b d) refl
  where
    go : (t : Bool) → ltb b d ≡ t → ltb (a + b) (a + d) ≡ ltb b d
    go true e = let h = ltb-true b d e in rw e (lt-ltb (a + b) (a + d) (omega arith))
    go false e = let h = ltb-false b d e in rw e (le-ltb (a + b) (a + d) (omega arith))

pub in_either : (w : List ℕ) (us vs : List (List ℕ)) → is_in w (us ++ vs) ≡ is_in w us || is_in w vs
in_either w us vs = go (ltb (index_of w us) (length us)) refl
  where
    go : (b : Bool) → ltb (index_of w us) (length us) ≡ b → is_in w (us ++ vs) ≡ is_in w us || is_in w vs
    go true e =
        let h = ltb-true (index_of w us) (length us) e in
        let g : index_of w us < length us + length vs = omega arith in
        rw (e, in-first w us vs h, length-append us vs) (lt-ltb (index_of w us) (length us + length vs) g)
    go false e =
        let h = ltb-false (index_of w us) (length us) e in
        rw (e, in-second w us vs h, length-append us vs) (shifted (length us) (index_of w vs) (length vs))

-- a spelling is looked for in two lists
module _ (l : List ℕ) (us vs : List (List ℕ)) (r : Option ℕ) (h : Finds l us r) where
  pub taken-first : is_some r ≡ true → true ≡ is_in l (us ++ vs)
  taken-first e = sym (in_either l us vs ∙ rw (sym (found-in l us r h) ∙ e))

  pub taken-second : is_some r ≡ false → (q : Option ℕ) → Finds l vs q → is_some q ≡ is_in l (us ++ vs)
  taken-second e q g = found-in l vs q g ∙ sym (in_either l us vs ∙ rw (sym (found-in l us r h) ∙ e))

-- ---- what is found becomes the answer

pub then-no : {A B : Type 0} {o : Out A} (f : A → B) {n p : ℕ} → o ≡ refuse n p → after o f ≡ refuse n p
unfolding after
then-no f e = rw e

pub then-state : {o : Out ℕ} (f : ℕ → ℕ × State) {k v : ℕ} {S : State} → o ≡ ok k → v ≡ (f k).0 → S ≡ (f k).1 → after o f ≡ ok (v, S)
unfolding after
then-state f e a b = rw (e, a, b)

-- ---- a call's counts

module _ (s H F N : List ℕ) (w : ℕ) (ws : List ℕ) where
  pub call-unknown : {n q : ℕ} → callee_in s N w ≡ refuse n q → call_step s H F N w ws ≡ refuse n q
  unfolding call_step ◌>>=◌
  call-unknown e = rw e

  module _ {c : ℕ} (e : callee_in s N w ≡ ok c) (b : Bool) (g : b ≡ counts_fit (heading_of H F c) ws) where
    pub call-fits : b ≡ true → call_step s H F N w ws ≡ ok c
    unfolding call_step ◌>>=◌ at need
    call-fits t = rw (e, ← g, t)

    pub call-bars : b ≡ false → call_step s H F N w ws ≡ refuse 8 (place_of w)
    unfolding call_step ◌>>=◌ at need
    call-bars t = rw (e, ← g, t)

-- ---- blocks and declarations

module _ (s ts : List ℕ) (w : ℕ) (r : Bool) (h : r ≡ is_in (letters_of s w) (primitive_names ++ map (letters_of s) ts)) where
  pub block-bars : {B : Type 0} (f : Unit {0} → B) → r ≡ true → after (block_step s ts w) f ≡ refuse 6 (place_of w)
  unfolding block_step at need after
  block-bars f g = rw (← h, g)

  pub block-begins : {B : Type 0} (f : Unit {0} → B) → r ≡ false → after (block_step s ts w) f ≡ ok (f tt)
  unfolding block_step at need after
  block-begins f g = rw (← h, g)

module _ (s ws : List ℕ) (w : ℕ) (r : Bool) (h : r ≡ is_in (letters_of s w) (map (letters_of s) ws)) where
  pub declare-bars : {B : Type 0} (f : Unit {0} → B) → r ≡ true → after (declare_step s ws w) f ≡ refuse 6 (place_of w)
  unfolding declare_step once at need after
  declare-bars f g = rw (spelled-alike s ws, ← h, g)

  pub declare-once : {B : Type 0} (f : Unit {0} → B) → r ≡ false → after (declare_step s ws w) f ≡ ok (f tt)
  unfolding declare_step once at need after
  declare-once f g = rw (spelled-alike s ws, ← h, g)
