-- The sweep over the words of declared names and their types is the rule for them. Assumes nothing.
use Rattle.std.specs.Prelude.{◌≡◌, Bool, ◌||◌, take}
use Rattle.std.proofs.Math.Path.{refl, sym, ap}
use Rattle.std.proofs.Common.{◌∙◌, add-one, take-suc-set, get_or-append-add}
use Rattle.std.proofs.Math.Bool.{true, false}
use mathlib.Core.List.{List, [], ◌∷◌, ◌++◌, map, append_assoc, append-nil}
use Prim.Native.Nat.{ℕ, suc, ◌+◌, ◌<◌, ◌≤◌, min}
use native.Mathlib.Omega.{arith}
use Rattle.std.proofs.Math.Dec.{eqb, ltb}
use Rattle.std.proofs.Math.ListN.{length, length-append, length-set, length-map, get_or-append}
use borrow.Author.Tests.{ne_eqb, lt-ltb, ltb-true, ltb-false}
use Rattle.rules.specs.Text.{pick, index_of}
use Rattle.rules.specs.Outcome.{Out, ok, refuse, ◌>>=◌, at, need, need_at}
use Rattle.rules.specs.Syntax.{Name, Exp, number, name, neg, group, both, Sort, wire, vector, num, Decl}
use Rattle.rules.specs.Names.{Role, a-generic, a-wire, a-vector, an-index, role_of, Entry, Scope, spellings, generic, declared, find, role_at, once, stands, expression}
use Rattle.rules.specs.Resolve.{generics, sort, declarations}
use Rattle.rules.proofs.Laws.Carried.{map-append}
use Rattle.rules.proofs.Laws.Spelt.{SpeltName, SpeltCall, All, AllSort, AllDecl}
use Rattle.tape.specs.Layout.{pack, GENERIC, name_w, kind-of, head-of}
use Rattle.tape.specs.Encoding.{list_w, exp_w, sort_w, decl_w, generic_w}
use Rattle.tape.specs.Resolved.{slot_w}
use Rattle.sweep.specs.Spelling.{role_in, entry_of, scope_in}
use Rattle.sweep.specs.Sweep.{State, declared_at, declare_step, declares, after, onto, sweep}
use Rattle.sweep.proofs.Laws.Steps.{in-first, in-second}
use Rattle.sweep.proofs.Laws.Turns.{turn-declared, onto-none}
use Rattle.sweep.proofs.Laws.Expressions.{emit, onto-onto, sweep-emit, name-fits, name-letters, name-itself, Clear, exp-swept}

-- ---- a vector's bounds do not see the vector

module _ (E : Scope) (v : Entry) (vector-role : v.role ≡ a-vector) (n : Name) where
  spellings-more : spellings (E ++ (v ∷ [])) ≡ spellings E ++ (v.letters ∷ [])
  spellings-more = map-append (λ e. e.letters) E (v ∷ [])

  abbrev l : List ℕ
  l = n.letters

  as-name : Scope → Out (Exp ℕ)
  as-name E = find E n >>= λ k. need_at n.place (stands [] k (role_at E k)) 7 >>= λ _. ok (name k)

  found_in : (D : Scope) → ltb (index_of l (spellings D)) (length (spellings D)) ≡ true → find D n ≡ ok (index_of l (spellings D))
  unfolding find ◌>>=◌ at need
  found_in D e = rw e

  with-role : (k : ℕ) (r r' : Role) → r ≡ r' → (need_at n.place (stands [] k r) 7 >>= λ _. ok (name k)) ≡ (need_at n.place (stands [] k r') 7 >>= λ _. ok (name k))
  with-role k r r' e = rw e

  seen : ltb (index_of l (spellings E)) (length (spellings E)) ≡ true → as-name (E ++ (v ∷ [])) ≡ as-name E
  unfolding as-name ◌>>=◌
  seen e =
      let h = ltb-true (index_of l (spellings E)) (length (spellings E)) e in
      let k : index_of l (spellings E) < length E = omega (arith, length-map E (λ e. e.letters)) in
      let g : index_of l (spellings E) < length (spellings E ++ (v.letters ∷ [])) = omega (arith, length-append (spellings E) (v.letters ∷ [])) in
      let i : index_of l (spellings (E ++ (v ∷ []))) ≡ index_of l (spellings E) = ap (index_of l) spellings-more ∙ in-first l (spellings E) (v.letters ∷ []) h in
      let b : ltb (index_of l (spellings (E ++ (v ∷ [])))) (length (spellings (E ++ (v ∷ [])))) ≡ true = rw (i, spellings-more) (lt-ltb (index_of l (spellings E)) (length (spellings E ++ (v.letters ∷ []))) g) in
      ap (λ o. o >>= λ k. need_at n.place (stands [] k (role_at (E ++ (v ∷ [])) k)) 7 >>= λ _. ok (name k)) (found_in (E ++ (v ∷ [])) b ∙ ap ok i)
      ∙ with-role (index_of l (spellings E)) _ _ (ap (λ e. e.role) (get_or-append E (v ∷ []) (record { letters = []; role = a-generic }) (index_of l (spellings E)) k))
      ∙ sym (ap (λ o. o >>= λ k. need_at n.place (stands [] k (role_at E k)) 7 >>= λ _. ok (name k)) (found_in E e))

  unseen : ltb (index_of l (spellings E)) (length (spellings E)) ≡ false → as-name (E ++ (v ∷ [])) ≡ as-name E
  unfolding as-name find ◌>>=◌ at need stands
  unseen e =
      let h = ltb-false (index_of l (spellings E)) (length (spellings E)) e in
      rw (spellings-more, in-second l (spellings E) (v.letters ∷ []) h, e) (go (ltb (length (spellings E) + index_of l (v.letters ∷ [])) (length (spellings E ++ (v.letters ∷ [])))) refl)
    where
      go : (b : Bool) → ltb (length (spellings E) + index_of l (v.letters ∷ [])) (length (spellings E ++ (v.letters ∷ []))) ≡ b
          → ((at n.place (need b 7) >>= λ _. ok (length (spellings E) + index_of l (v.letters ∷ []))) >>= λ k. need_at n.place (stands [] k (role_at (E ++ (v ∷ [])) k)) 7 >>= λ _. ok (name k)) ≡ refuse 7 n.place
      go false f = refl
      go true f =
          let z = ltb-true (length (spellings E) + index_of l (v.letters ∷ [])) (length (spellings E ++ (v.letters ∷ []))) f in
          let x : length (spellings E) + index_of l (v.letters ∷ []) ≡ length E + 0 = omega (arith, length-append (spellings E) (v.letters ∷ []), length-map E (λ e. e.letters)) in
          with-role (length (spellings E) + index_of l (v.letters ∷ [])) _ a-vector
          (ap (λ k. role_at (E ++ (v ∷ [])) k) x ∙ ap (λ e. e.role) (get_or-append-add E (v ∷ []) 0 (record { letters = []; role = a-generic })) ∙ vector-role)

pub exp-more : (E : Scope) (v : Entry) → v.role ≡ a-vector → (e : Exp Name) → expression (E ++ (v ∷ [])) [] e ≡ expression E [] e
unfolding expression ◌>>=◌ as-name
exp-more E v r (number x) = refl
exp-more E v r (name n) = go (ltb (index_of n.letters (spellings E)) (length (spellings E))) refl
  where
    go : (b : Bool) → ltb (index_of n.letters (spellings E)) (length (spellings E)) ≡ b → expression (E ++ (v ∷ [])) [] (name n) ≡ expression E [] (name n)
    go true e = seen E v r n e
    go false e = unseen E v r n e
exp-more E v r (neg x) = rw (exp-more E v r x)
exp-more E v r (group x) = rw (exp-more E v r x)
exp-more E v r (both o d x) = rw (exp-more E v r d, exp-more E v r x)

-- ---- one declared name

module _ (s : List ℕ) (few : length s ≤ 16384) (S : State) (w : ℕ) (there : S.count < length S.scope) (some : length S.scope ≤ 48) where
  pub one_more : scope_in s (declared_at (declares S w).1) ≡ scope_in s (declared_at S) ++ (entry_of s w ∷ [])
  one_more =
      let m : min S.count 48 ≡ S.count = omega arith in
      let t : declared_at (declares S w).1 ≡ take S.count S.scope ++ (w ∷ []) = rw (m, add-one S.count) (take-suc-set S.scope S.count w there) in
      ap (scope_in s) t ∙ map-append (entry_of s) (take S.count S.scope) (w ∷ [])

entry-generic : (s : List ℕ) (n : Name) → length s ≤ 16384 → SpeltName s n → entry_of s (pack GENERIC 0 (name_w n)) ≡ generic n
unfolding role_in pick
entry-generic s n few q =
    let small : 0 < 8 = omega arith in
    rw (name-letters s few GENERIC 0 small n q, kind-of GENERIC 0 (name_w n) small (name-fits s few GENERIC 0 small n q)) refl

unfoldable pub head_of_sort : {N : Type 0} → Sort N → ℕ
head_of_sort wire = 0
head_of_sort (vector a b) = 1
head_of_sort num = 2

pub head-of-sort : {N : Type 0} (t : Sort N) → head_of_sort t < 8
unfolding head_of_sort
head-of-sort wire = omega arith
head-of-sort (vector a b) = omega arith
head-of-sort num = omega arith

role-of-sort : (k : ℕ) (t : Sort Name) → eqb k GENERIC ≡ false → pick (eqb k GENERIC) a-generic (pick (eqb (head_of_sort t) 0) a-wire (pick (eqb (head_of_sort t) 1) a-vector an-index)) ≡ role_of t
unfolding head_of_sort role_of pick
role-of-sort k wire e = rw e
role-of-sort k (vector a b) e = rw e
role-of-sort k num e = rw e

pub entry-declared : (s : List ℕ) (k : ℕ) (d : Decl Name) → length s ≤ 16384 → (k ≡ 10 → ⊥) → SpeltName s d.name → entry_of s (pack k (head_of_sort d.sort) (name_w d.name)) ≡ declared d
unfolding role_in
entry-declared s k d few n q =
    let small = head-of-sort d.sort in
    let fine = name-fits s few k (head_of_sort d.sort) small d.name q in
    rw (name-letters s few k (head_of_sort d.sort) small d.name q, kind-of k (head_of_sort d.sort) (name_w d.name) small fine, head-of k (head_of_sort d.sort) (name_w d.name) small fine, role-of-sort k d.sort (ne_eqb k 10 n)) refl

-- ---- lists of declared names

joined_words : (w : ℕ) (ws : List ℕ) (o u : Out (Unit {0})) (R : Out (List ℕ)) → emit (λ _. w ∷ []) o (emit (λ _. ws) u R) ≡ emit (λ _. w ∷ ws) (o >>= λ _. u) R
unfolding emit after ◌>>=◌
joined_words w ws (ok a) (ok b) R = onto-onto (w ∷ []) ws R
joined_words w ws (ok a) (refuse n p) R = refl
joined_words w ws (refuse n p) u R = refl

module _ (s H F N : List ℕ) (few : length s ≤ 16384) where
  -- what the sweep makes of declared names at p, which are as many as m, and after which E are in scope
  pub record Opened (S : State) (m : ℕ) (E : Scope) (words : List ℕ) (p : ℕ) (r : List ℕ) (end : Out (List ℕ) → Out (List ℕ)) : Type 0 where
    pub final : State
    pub scope : scope_in s (declared_at final) ≡ E
    pub count : final.count ≡ S.count + m
    pub room : length final.scope ≡ length S.scope
    pub until : final.until ≡ S.until
    pub index : final.index ≡ S.index
    pub blocks : final.blocks ≡ S.blocks
    pub swept : sweep s H F N p S (words ++ r) ≡ end (sweep s H F N (p + length words) final r)

  declared-word : (S : State) (p k h : ℕ) (n : Name) (r : List ℕ) → 9 < k → h < 8 → SpeltName s n
      → sweep s H F N p S (pack k h (name_w n) ∷ r) ≡ emit (λ _. pack k h (name_w n) ∷ []) (once (scope_in s (declared_at S)) n) (sweep s H F N (p + 1) (declares S (pack k h (name_w n))).1 r)
  unfolding declare_step
  declared-word S p k h n r l small q =
      let e = kind-of k h (name_w n) small (name-fits s few k h small n q) in
      let a : (k ≡ 1 → ⊥) = λ z. omega arith in
      sweep-emit s H F N p S (pack k h (name_w n)) r (declare_step s (declared_at S) (pack k h (name_w n))) (λ _. pack k h (name_w n)) (declares S (pack k h (name_w n))).1
      (turn-declared s H F N p S (pack k h (name_w n)) r k (sym e) false (λ z. omega arith) (λ z. omega arith) (no-arg k l) refl (λ z. omega arith) (λ z. omega arith) (λ z. omega arith) l)
      ∙ ap (λ m. emit (λ _. pack k h (name_w n) ∷ []) (once (scope_in s (declared_at S)) m) (sweep s H F N (p + 1) (declares S (pack k h (name_w n))).1 r)) (name-itself s few k h small n q)
    where
      no-arg : (k : ℕ) → 9 < k → false ≡ (eqb k 4 || eqb k 5)
      no-arg k l = rw (ne_eqb k 4 (λ z. omega arith), ne_eqb k 5 (λ z. omega arith))

  pub generics-opened : (ns : List Name) (S : State) (p : ℕ) (r : List ℕ) → All (SpeltName s) ns → S.count + length ns ≤ length S.scope → length S.scope ≤ 48
      → Opened S (length ns) (scope_in s (declared_at S) ++ map generic ns) (list_w generic_w ns) p r (emit (λ _. list_w generic_w ns) (generics (scope_in s (declared_at S)) ns))
  unfolding list_w generic_w All generics emit
  generics-opened [] S p r q c l =
      let e : p + 0 ≡ p = omega arith in
      record { final = S; scope = sym (append-nil _); count = omega arith; room = refl; until = refl; index = refl; blocks = refl; swept = rw e (sym (onto-none (sweep s H F N p S r))) }
  generics-opened (n ∷ ns) S p r q c l =
      let w = pack GENERIC 0 (name_w n) in
      let S₁ = (declares S (pack GENERIC 0 (name_w n))).1 in
      let m : min S.count 48 ≡ S.count = omega arith in
      let g = one_more s few S (pack GENERIC 0 (name_w n)) (omega arith) l ∙ ap (λ x. scope_in s (declared_at S) ++ (x ∷ [])) (entry-generic s n few q.0) in
      let z = length-set S.scope S.count (pack GENERIC 0 (name_w n)) in
      let rest = generics-opened ns S₁ (p + 1) r q.1 (omega arith) (omega arith) in
      let e : p + 1 + length (list_w generic_w ns) ≡ p + suc (length (list_w generic_w ns)) = omega arith in
      record {
        final = rest.final;
        scope = rest.scope ∙ ap (λ E. E ++ map generic ns) g ∙ append_assoc (scope_in s (declared_at S)) (generic n ∷ []) (map generic ns);
        count = omega (arith, rest.count);
        room = rest.room ∙ z;
        until = rest.until;
        index = rest.index;
        blocks = rest.blocks;
        swept = declared-word S p GENERIC 0 n (list_w generic_w ns ++ r) (omega arith) (omega arith) q.0
            ∙ ap (emit (λ _. pack GENERIC 0 (name_w n) ∷ []) (once (scope_in s (declared_at S)) n)) (rest.swept ∙ ap (λ E. emit (λ _. list_w generic_w ns) (generics E ns) (sweep s H F N (p + 1 + length (list_w generic_w ns)) rest.final r)) g)
            ∙ rw e (joined (once (scope_in s (declared_at S)) n) (generics (scope_in s (declared_at S) ++ (generic n ∷ [])) ns) (sweep s H F N (p + suc (length (list_w generic_w ns))) rest.final r));
      }
    where
      joined : (o u : Out (Unit {0})) (R : Out (List ℕ)) → emit (λ _. pack GENERIC 0 (name_w n) ∷ []) o (emit (λ _. list_w generic_w ns) u R) ≡ emit (λ _. pack GENERIC 0 (name_w n) ∷ list_w generic_w ns) (o >>= λ _. u) R
      joined o u R = joined_words (pack GENERIC 0 (name_w n)) (list_w generic_w ns) o u R

-- ---- ports and VARs

abbrev made : Name → Sort ℕ → Decl ℕ
made n t = record { name = n; sort = t }

plain-decl : (w : ℕ) (enc : Decl ℕ → List ℕ) (x : Decl ℕ) (o : Out (Unit {0})) (R : Out (List ℕ)) → enc x ≡ w ∷ [] → emit (λ _. w ∷ []) o R ≡ emit enc (o >>= λ _. ok x) R
unfolding emit after ◌>>=◌
plain-decl w enc x (ok u) R h = rw h refl
plain-decl w enc x (refuse n p) R h = refl

then-made : (n : Name) (t : Sort ℕ) (o : Out (Unit {0})) → (o >>= λ _. ok (made n t)) ≡ (o >>= λ _. ok t >>= λ t. ok (made n t))
unfolding ◌>>=◌
then-made n t (ok u) = refl
then-made n t (refuse m p) = refl

vector-decl : (w : ℕ) (n : Name) (ea eb : Exp ℕ → List ℕ) (enc : Decl ℕ → List ℕ) (o : Out (Unit {0})) (oa ob : Out (Exp ℕ)) (R : Out (List ℕ)) → ((a b : Exp ℕ) → enc (made n (vector a b)) ≡ w ∷ (ea a ++ eb b))
    → emit (λ _. w ∷ []) o (emit ea oa (emit eb ob R)) ≡ emit enc (o >>= λ _. (oa >>= λ a. ob >>= λ b. ok (vector a b)) >>= λ t. ok (made n t)) R
unfolding emit after ◌>>=◌
vector-decl w n ea eb enc (ok u) (ok a) (ok b) R h = ap (onto (w ∷ [])) (onto-onto (ea a) (eb b) R) ∙ onto-onto (w ∷ []) (ea a ++ eb b) R ∙ ap (λ l. onto l R) (sym (h a b))
vector-decl w n ea eb enc (ok u) (ok a) (refuse m p) R h = refl
vector-decl w n ea eb enc (ok u) (refuse m p) ob R h = refl
vector-decl w n ea eb enc (refuse m p) oa ob R h = refl

more-decls : (n : Name) (enc : Decl ℕ → List ℕ) (o : Out (Unit {0})) (ot : Out (Sort ℕ)) (od : Out (List (Decl ℕ))) (R : Out (List ℕ))
    → emit enc (o >>= λ _. ot >>= λ t. ok (made n t)) (emit (list_w enc) od R) ≡ emit (list_w enc) (o >>= λ _. ot >>= λ t. od >>= λ ds. ok (made n t ∷ ds)) R
unfolding emit after ◌>>=◌ list_w
more-decls n enc (ok u) (ok t) (ok ds) R = onto-onto (enc (made n t)) (list_w enc ds) R
more-decls n enc (ok u) (ok t) (refuse m p) R = refl
more-decls n enc (ok u) (refuse m p) od R = refl
more-decls n enc (refuse m p) ot od R = refl

module _ (s H F N : List ℕ) (few : length s ≤ 16384) (K : ℕ) (high : 10 < K) (lo hi : ℕ) (low : hi ≤ 16384) where
  abbrev SpeltD : Decl Name → Type 0
  SpeltD d = AllDecl {C = Name} (SpeltName s) (SpeltName s) (SpeltCall s) (length s) d

  abbrev word : Name → Sort Name → ℕ
  word n t = pack K (head_of_sort t) (name_w n)

  decl-swept : (n : Name) (t : Sort Name) (S : State) (p : ℕ) (r : List ℕ) → SpeltName s n → AllSort {C = Name} (SpeltName s) (SpeltCall s) (length s) t → Clear [] S.until lo hi → lo ≤ p
      → p + length (sort_w name_w K (name_w n) t) ≤ hi → S.count < length S.scope → length S.scope ≤ 48
      → sweep s H F N p S (sort_w name_w K (name_w n) t ++ r)
      ≡ emit (decl_w slot_w K) (once (scope_in s (declared_at S)) n >>= λ _. sort (scope_in s (declared_at S)) t >>= λ t. ok (made n t)) (sweep s H F N (p + length (sort_w name_w K (name_w n) t)) (declares S (word n t)).1 r)
  unfolding sort_w decl_w AllSort sort head_of_sort role_of
  decl-swept n wire S p r q u clear a b c l = declared-word s H F N few S p K 0 n r (omega arith) (omega arith) q ∙ plain-decl (pack K 0 (name_w n)) (decl_w slot_w K) (made n wire) _ _ refl ∙ computed (once (scope_in s (declared_at S)) n) wire
    where
      computed : (o : Out (Unit {0})) (t : Sort ℕ) → emit (decl_w slot_w K) (o >>= λ _. ok (made n t)) (sweep s H F N (p + 1) (declares S (word n wire)).1 r) ≡ emit (decl_w slot_w K) (o >>= λ _. ok t >>= λ t. ok (made n t)) (sweep s H F N (p + 1) (declares S (word n wire)).1 r)
      computed o t = ap (λ o. emit (decl_w slot_w K) o (sweep s H F N (p + 1) (declares S (word n wire)).1 r)) (then-made n t o)
  decl-swept n num S p r q u clear a b c l = declared-word s H F N few S p K 2 n r (omega arith) (omega arith) q ∙ plain-decl (pack K 2 (name_w n)) (decl_w slot_w K) (made n num) _ _ refl ∙ computed (once (scope_in s (declared_at S)) n) num
    where
      computed : (o : Out (Unit {0})) (t : Sort ℕ) → emit (decl_w slot_w K) (o >>= λ _. ok (made n t)) (sweep s H F N (p + 1) (declares S (word n num)).1 r) ≡ emit (decl_w slot_w K) (o >>= λ _. ok t >>= λ t. ok (made n t)) (sweep s H F N (p + 1) (declares S (word n num)).1 r)
      computed o t = ap (λ o. emit (decl_w slot_w K) o (sweep s H F N (p + 1) (declares S (word n num)).1 r)) (then-made n t o)
  decl-swept n (vector x y) S p r q u clear a b c l =
      let A = exp_w name_w 0 x in
      let B = exp_w name_w 0 y in
      let w = pack K 1 (name_w n) in
      let S₁ = (declares S (pack K 1 (name_w n))).1 in
      let E = scope_in s (declared_at S) in
      let v = entry_of s (pack K 1 (name_w n)) in
      let m = length-append (exp_w name_w 0 x) (exp_w name_w 0 y) in
      let role : (entry_of s (pack K 1 (name_w n))).role ≡ a-vector = ap (λ e. e.role) (entry-declared s K (record { name = n; sort = vector x y }) few (λ z. omega arith) q) in
      let g = one_more s few S (pack K 1 (name_w n)) c l in
      let ex : (e : Exp Name) → expression (scope_in s (declared_at S₁)) [] e ≡ expression (scope_in s (declared_at S)) [] e = λ e. ap (λ E. expression E [] e) g ∙ exp-more (scope_in s (declared_at S)) (entry_of s (pack K 1 (name_w n))) role e in
      let z : p + 1 + length (exp_w name_w 0 x) + length (exp_w name_w 0 y) ≡ p + suc (length (exp_w name_w 0 x ++ exp_w name_w 0 y)) = omega arith in
      declared-word s H F N few S p K 1 n ((exp_w name_w 0 x ++ exp_w name_w 0 y) ++ r) (omega arith) (omega arith) q
      ∙ ap (emit (λ _. pack K 1 (name_w n) ∷ []) (once (scope_in s (declared_at S)) n)) (ap (sweep s H F N (p + 1) S₁) (append_assoc (exp_w name_w 0 x) (exp_w name_w 0 y) r)
      ∙ exp-swept s H F N few S₁ [] lo hi low clear x 0 (p + 1) 2 (exp_w name_w 0 y ++ r) (omega arith) u.0 (omega arith) (omega arith)
      ∙ ap (emit (exp_w slot_w 0) (expression (scope_in s (declared_at S₁)) [] x)) (exp-swept s H F N few S₁ [] lo hi low clear y 0 (p + 1 + length (exp_w name_w 0 x)) 2 r (omega arith) u.1 (omega arith) (omega arith))
      ∙ ap (λ o. emit (exp_w slot_w 0) o (emit (exp_w slot_w 0) (expression (scope_in s (declared_at S₁)) [] y) (sweep s H F N (p + 1 + length (exp_w name_w 0 x) + length (exp_w name_w 0 y)) S₁ r))) (ex x)
      ∙ ap (λ o. emit (exp_w slot_w 0) (expression (scope_in s (declared_at S)) [] x) (emit (exp_w slot_w 0) o (sweep s H F N (p + 1 + length (exp_w name_w 0 x) + length (exp_w name_w 0 y)) S₁ r))) (ex y))
      ∙ vector-decl (pack K 1 (name_w n)) n (exp_w slot_w 0) (exp_w slot_w 0) (decl_w slot_w K) (once (scope_in s (declared_at S)) n) (expression (scope_in s (declared_at S)) [] x) (expression (scope_in s (declared_at S)) [] y) _ (λ a b. refl)
      ∙ rw z refl

  pub decls-opened : (ds : List (Decl Name)) (S : State) (p : ℕ) (r : List ℕ) → All SpeltD ds → Clear [] S.until lo hi → lo ≤ p → p + length (list_w (decl_w name_w K) ds) ≤ hi → S.count + length ds ≤ length S.scope → length S.scope ≤ 48
      → Opened s H F N few S (length ds) (scope_in s (declared_at S) ++ map declared ds) (list_w (decl_w name_w K) ds) p r (emit (list_w (decl_w slot_w K)) (declarations (scope_in s (declared_at S)) ds))
  unfolding list_w All declarations emit decl_w
  decls-opened [] S p r q clear a b c l =
      let e : p + 0 ≡ p = omega arith in
      record { final = S; scope = sym (append-nil _); count = omega arith; room = refl; until = refl; index = refl; blocks = refl; swept = rw e (sym (onto-none (sweep s H F N p S r))) }
  decls-opened (d ∷ ds) S p r q clear a b c l =
      let W = sort_w name_w K (name_w d.name) d.sort in
      let S₁ = (declares S (word d.name d.sort)).1 in
      let E = scope_in s (declared_at S) in
      let n = length-append (sort_w name_w K (name_w d.name) d.sort) (list_w (decl_w name_w K) ds) in
      let m : min S.count 48 ≡ S.count = omega arith in
      let g = one_more s few S (word d.name d.sort) (omega arith) l ∙ ap (λ x. scope_in s (declared_at S) ++ (x ∷ [])) (entry-declared s K d few (λ z. omega arith) q.0.name) in
      let z = length-set S.scope S.count (word d.name d.sort) in
      let p₁ = p + length (sort_w name_w K (name_w d.name) d.sort) in
      let rest = decls-opened ds S₁ p₁ r q.1 clear (omega arith) (omega arith) (omega arith) (omega arith) in
      let e : p₁ + length (list_w (decl_w name_w K) ds) ≡ p + length (sort_w name_w K (name_w d.name) d.sort ++ list_w (decl_w name_w K) ds) = omega arith in
      record {
        final = rest.final;
        scope = rest.scope ∙ ap (λ E. E ++ map declared ds) g ∙ append_assoc (scope_in s (declared_at S)) (declared d ∷ []) (map declared ds);
        count = omega (arith, rest.count);
        room = rest.room ∙ z;
        until = rest.until;
        index = rest.index;
        blocks = rest.blocks;
        swept = ap (sweep s H F N p S) (append_assoc (sort_w name_w K (name_w d.name) d.sort) (list_w (decl_w name_w K) ds) r)
            ∙ decl-swept d.name d.sort S p (list_w (decl_w name_w K) ds ++ r) q.0.name q.0.sort clear a (omega arith) (omega arith) l
            ∙ ap (emit (decl_w slot_w K) (once (scope_in s (declared_at S)) d.name >>= λ _. sort (scope_in s (declared_at S)) d.sort >>= λ t. ok (made d.name t)))
            (rest.swept ∙ ap (λ E. emit (list_w (decl_w slot_w K)) (declarations E ds) (sweep s H F N (p₁ + length (list_w (decl_w name_w K) ds)) rest.final r)) g)
            ∙ more-decls d.name (decl_w slot_w K) (once (scope_in s (declared_at S)) d.name) (sort (scope_in s (declared_at S)) d.sort) (declarations (scope_in s (declared_at S) ++ (declared d ∷ [])) ds) _
            ∙ rw e refl;
      }
