-- The sweep over the words of statements is the rule for statements. Assumes nothing.
use Rattle.std.specs.Prelude.{◌≡◌, Bool, ◌&&◌, ◌||◌, List, [], ◌∷◌, ◌++◌, get_or}
use Rattle.std.proofs.Math.Path.{refl, ap}
use Rattle.std.proofs.Common.{sym, ◌∙◌, subst, append_assoc, length-append, get_or-set_same, get_or-set_other, lt-ltb, le-ltb, eqb-true}
use Rattle.std.proofs.Math.Bool.{true, false}
use Prim.Native.Nat.{ℕ, suc, ◌+◌, ◌*◌, ◌<◌, ◌≤◌, max}
use Rattle.std.proofs.Math.Decide.{dec_lt}
use native.Mathlib.Omega.{arith}
use Rattle.std.proofs.Math.Dec.{T, eqb, ltb, eqb→eq}
use Rattle.std.proofs.Math.ListN.{length, set, length-set, length-map}
use Rattle.std.proofs.Math.Seq.{set_out}
use Rattle.std.proofs.lemmas.Bool.{eqb-false}
use Rattle.rules.specs.Text.{pick}
use Rattle.rules.specs.Outcome.{Out, ok, refuse, ◌>>=◌, at, need, need_at}
use Rattle.rules.specs.Syntax.{Name, Exp, Arg, whole, part, Stmts, end, call, loop, Spelled, Callee}
use Rattle.rules.specs.Names.{Role, is_index, Scope, find, role_at, among, expression, expressions, argument, arguments}
use Rattle.rules.specs.Resolve.{Wants, called, statements}
use Rattle.rules.proofs.Laws.Outcomes.{no_ok, ok-inj, inv, inv_at, both_yes}
use Rattle.rules.proofs.Laws.Spelt.{SpeltName, SpeltCall, AllExp, AllStmts}
use Rattle.rules.proofs.Laws.Scoped.{found}
use Rattle.tape.specs.Layout.{pack, CALL, INPUT, OUTPUT, LOOP, INDEX, BODY, name_w, kind-of, value-of}
use Rattle.tape.specs.Encoding.{list_w, exp_w, arg_w, stmts_w, callee_w}
use Rattle.tape.specs.Resolved.{slot_w, callee_number, meant_w}
use Rattle.sweep.specs.Spelling.{place_of, name_of, valued, entry_of, scope_in}
use Rattle.sweep.specs.Sweep as sw
use Rattle.sweep.specs.Sweep.{State, declared_at, call_step, callee_in, counts_fit, heading_of, index_step, after, onto, indexed, entered, generics_given, given, in_call, turn, sweep}
use Rattle.sweep.proofs.Laws.Turns.{turn-call, turn-index, turn_body, turn-other, sweep-on, sweep-no, onto-none}
use Rattle.sweep.proofs.Laws.Expressions.{emit, onto-onto, sweep-plain, name-fits, name-place, name-letters, name-itself, valued-pack, Clear, exp-swept, exp-length}
use Rattle.sweep.proofs.Laws.Arguments.{moved, Wanted, exps-swept, args-swept}
use Rattle.sweep.proofs.Laws.Given.{Ends, ends-given, ends-generics, exps-generics, exps-given, args-other, args-given, args-generics}
use Rattle.sweep.proofs.Laws.Callees.{Knows, Right, callee-as, wants-right}

-- ---- the ends of loops

-- a test at q or later does not see an end before q
pub max-kept : (q a e : ℕ) → e ≤ q → ltb q (max a e) ≡ ltb q a
max-kept q a e h = go (dec_lt q a)
  where
    go : Dec (q < a) → ltb q (max a e) ≡ ltb q a
    go (yes l) = lt-ltb q (max a e) (omega arith) ∙ sym (lt-ltb q a l)
    go (no l) = le-ltb q (max a e) (omega arith) ∙ sym (le-ltb q a (omega arith))

pub set-kept : (u : List ℕ) (k e q j : ℕ) → e ≤ q → ltb q (get_or (set u k (max (get_or u k 0) e)) j 0) ≡ ltb q (get_or u j 0)
set-kept u k e q j h = go (eqb j k) refl (dec_lt k (length u))
  where
    go : (b : Bool) → eqb j k ≡ b → Dec (k < length u) → ltb q (get_or (set u k (max (get_or u k 0) e)) j 0) ≡ ltb q (get_or u j 0)
    go true z (yes l) = rw (eqb-true j k z, get_or-set_same u k (max (get_or u k 0) e) 0 l) (max-kept q (get_or u k 0) e h)
    go true z (no l) = let m : length u ≤ k = omega arith in rw (set_out u k (max (get_or u k 0) e) m)
    go false z l = rw (get_or-set_other u k j (max (get_or u k 0) e) 0 (eqb-false j k z))

-- inside the body of a loop over k
pub set-clear : (L u : List ℕ) (k lo b e hi : ℕ) → k < length u → lo ≤ b → e ≤ hi → Clear L u lo hi → Clear (k ∷ L) (set u k (max (get_or u k 0) e)) b e
unfolding among
set-clear L u k lo b e hi l m n clear q j x y = go (eqb j k) refl
  where
    go : (t : Bool) → eqb j k ≡ t → ltb q (get_or (set u k (max (get_or u k 0) e)) j 0) ≡ eqb j k || among j L
    go true z = let g : q < max (get_or u k 0) e = omega arith in rw (z, eqb-true j k z, get_or-set_same u k (max (get_or u k 0) e) 0 l) (lt-ltb q (max (get_or u k 0) e) g)
    go false z = rw (z, get_or-set_other u k j (max (get_or u k 0) e) 0 (eqb-false j k z)) (clear q j (omega arith) (omega arith))

-- ---- as many words, whatever stands for the names

exps-length : (E : Scope) (L : List ℕ) (es : List (Exp Name)) {es' : List (Exp ℕ)} → expressions E L es ≡ ok es' → length (list_w (exp_w slot_w 0) es') ≡ length (list_w (exp_w name_w 0) es)
unfolding expressions list_w
exps-length E L [] q = rw (← (ok-inj q)) refl
exps-length E L (x ∷ es) q =
    inv _ _ q λ y qy q₁. inv _ _ q₁ λ ys qys q₂.
    let a = exp-length E L x 0 0 qy in
    let b = exps-length E L es qys in
    rw (← (ok-inj q₂)) (omega (arith, length-append (exp_w slot_w 0 y) (list_w (exp_w slot_w 0) ys), length-append (exp_w name_w 0 x) (list_w (exp_w name_w 0) es)))

arg-length : (E : Scope) (L : List ℕ) (K : ℕ) (w : Role) (a : Arg Name) {a' : Arg ℕ} → argument E L w a ≡ ok a' → length (arg_w slot_w K a') ≡ length (arg_w name_w K a)
unfolding argument arg_w
arg-length E L K w (whole n) q = inv _ _ q λ k _ q₁. inv_at _ _ _ q₁ λ _ _ q₂. inv_at _ _ _ q₂ λ _ _ q₃. rw (← (ok-inj q₃)) refl
arg-length E L K w (part n x) q = inv _ _ q λ k _ q₁. inv_at _ _ _ q₁ λ _ _ q₂. inv_at _ _ _ q₂ λ _ _ q₃. inv _ _ q₃ λ y qy q₄. rw (← (ok-inj q₄)) (ap suc (exp-length E L x 0 0 qy))

args-length : (E : Scope) (L : List ℕ) (K : ℕ) (ws : List Role) (args : List (Arg Name)) {args' : List (Arg ℕ)} → arguments E L ws args ≡ ok args' → length (list_w (arg_w slot_w K) args') ≡ length (list_w (arg_w name_w K) args)
unfolding arguments list_w
args-length E L K [] [] q = rw (← (ok-inj q)) refl
args-length E L K [] (a ∷ args) q = absurd (no_ok q)
args-length E L K (w ∷ ws) [] q = absurd (no_ok q)
args-length E L K (w ∷ ws) (x ∷ args) q =
    inv _ _ q λ y qy q₁. inv _ _ q₁ λ ys qys q₂.
    let a = arg-length E L K w x qy in
    let b = args-length E L K ws args qys in
    rw (← (ok-inj q₂)) (omega (arith, length-append (arg_w slot_w K y) (list_w (arg_w slot_w K) ys), length-append (arg_w name_w K x) (list_w (arg_w name_w K) args)))

four : (a b c d : List ℕ) → length (a ++ (b ++ (c ++ d))) ≡ length a + (length b + (length c + length d))
four a b c d = omega (arith, length-append a (b ++ (c ++ d)), length-append b (c ++ d), length-append c d)

pub stmts-length : (Bs : Spelled) (E : Scope) (L : List ℕ) (c : Stmts Name Name) {c' : Stmts ℕ Callee} → statements Bs E L c ≡ ok c' → length (stmts_w slot_w meant_w c') ≡ length (stmts_w name_w callee_w c)
unfolding statements stmts_w
stmts-length Bs E L end q = rw (← (ok-inj q)) refl
stmts-length Bs E L (call p n gs ins outs rest) q =
    inv _ _ q λ w _ q₁. inv_at _ _ _ q₁ λ _ _ q₂. inv _ _ q₂ λ gs' qg q₃. inv _ _ q₃ λ ins' qi q₄. inv _ _ q₄ λ outs' qo q₅. inv _ _ q₅ λ rest' qr q₆.
    rw (← (ok-inj q₆)) (ap suc (four (list_w (exp_w slot_w 0) gs') (list_w (arg_w slot_w INPUT) ins') (list_w (arg_w slot_w OUTPUT) outs') (stmts_w slot_w meant_w rest')
    ∙ rw (exps-length E L gs qg, args-length E L INPUT _ ins qi, args-length E L OUTPUT _ outs qo, stmts-length Bs E L rest qr) (sym (four (list_w (exp_w name_w 0) gs) (list_w (arg_w name_w INPUT) ins) (list_w (arg_w name_w OUTPUT) outs) (stmts_w name_w callee_w rest)))))
stmts-length Bs E L (loop p i a b body rest) q =
    inv _ _ q λ k _ q₁. inv_at _ _ _ q₁ λ _ _ q₂. inv _ _ q₂ λ a' qa q₃. inv _ _ q₃ λ b' qb q₄. inv _ _ q₄ λ body' qbody q₅. inv _ _ q₅ λ rest' qr q₆.
    rw (← (ok-inj q₆)) (ap (λ m. suc (suc m)) (four (exp_w slot_w 0 a') (exp_w slot_w 0 b') (pack BODY 0 (length (stmts_w slot_w meant_w body')) ∷ stmts_w slot_w meant_w body') (stmts_w slot_w meant_w rest')
    ∙ rw (exp-length E L a 0 0 qa, exp-length E L b 0 0 qb, stmts-length Bs E (k ∷ L) body qbody, stmts-length Bs E L rest qr) (sym (four (exp_w name_w 0 a) (exp_w name_w 0 b) (pack BODY 0 (length (stmts_w name_w callee_w body)) ∷ stmts_w name_w callee_w body) (stmts_w name_w callee_w rest)))))

-- ---- one after another, and a statement made of all

emit-call : {A B C D X : Type 0} (w : ℕ) (ea : A → List ℕ) (eb : B → List ℕ) (ec : C → List ℕ) (ed : D → List ℕ) (ex : X → List ℕ) (f : A → B → C → D → X) (oa : Out A) (ob : Out B) (oc : Out C) (od : Out D) (R : Out (List ℕ))
    → ((a : A) (b : B) (c : C) (d : D) → ex (f a b c d) ≡ w ∷ (ea a ++ (eb b ++ (ec c ++ ed d))))
    → onto (w ∷ []) (emit ea oa (emit eb ob (emit ec oc (emit ed od R)))) ≡ emit ex (oa >>= λ a. ob >>= λ b. oc >>= λ c. od >>= λ d. ok (f a b c d)) R
unfolding emit ◌>>=◌ after
emit-call w ea eb ec ed ex f (ok a) (ok b) (ok c) (ok d) R h =
    ap (λ o. onto (w ∷ []) (onto (ea a) (onto (eb b) o))) (onto-onto (ec c) (ed d) R)
    ∙ ap (λ o. onto (w ∷ []) (onto (ea a) o)) (onto-onto (eb b) (ec c ++ ed d) R)
    ∙ ap (onto (w ∷ [])) (onto-onto (ea a) (eb b ++ (ec c ++ ed d)) R)
    ∙ onto-onto (w ∷ []) (ea a ++ (eb b ++ (ec c ++ ed d))) R
    ∙ ap (λ l. onto l R) (sym (h a b c d))
emit-call w ea eb ec ed ex f (ok a) (ok b) (ok c) (refuse n p) R h = refl
emit-call w ea eb ec ed ex f (ok a) (ok b) (refuse n p) od R h = refl
emit-call w ea eb ec ed ex f (ok a) (refuse n p) oc od R h = refl
emit-call w ea eb ec ed ex f (refuse n p) ob oc od R h = refl

emit-loop : {A B C D X : Type 0} (v w y : ℕ) (ea : A → List ℕ) (eb : B → List ℕ) (ec : C → List ℕ) (ed : D → List ℕ) (ex : X → List ℕ) (f : A → B → C → D → X) (oa : Out A) (ob : Out B) (oc : Out C) (od : Out D) (R : Out (List ℕ))
    → ((a : A) (b : B) (c : C) (d : D) → oc ≡ ok c → ex (f a b c d) ≡ v ∷ (w ∷ (ea a ++ (eb b ++ ((y ∷ ec c) ++ ed d)))))
    → onto (v ∷ []) (onto (w ∷ []) (emit ea oa (emit eb ob (onto (y ∷ []) (emit ec oc (emit ed od R)))))) ≡ emit ex (oa >>= λ a. ob >>= λ b. oc >>= λ c. od >>= λ d. ok (f a b c d)) R
unfolding emit ◌>>=◌ after
emit-loop v w y ea eb ec ed ex f (ok a) (ok b) (ok c) (ok d) R h =
    ap (λ o. onto (v ∷ []) (onto (w ∷ []) (onto (ea a) (onto (eb b) (onto (y ∷ []) o))))) (onto-onto (ec c) (ed d) R)
    ∙ ap (λ o. onto (v ∷ []) (onto (w ∷ []) (onto (ea a) (onto (eb b) o)))) (onto-onto (y ∷ []) (ec c ++ ed d) R)
    ∙ ap (λ o. onto (v ∷ []) (onto (w ∷ []) (onto (ea a) o))) (onto-onto (eb b) (y ∷ (ec c ++ ed d)) R)
    ∙ ap (λ o. onto (v ∷ []) (onto (w ∷ []) o)) (onto-onto (ea a) (eb b ++ (y ∷ (ec c ++ ed d))) R)
    ∙ ap (onto (v ∷ [])) (onto-onto (w ∷ []) (ea a ++ (eb b ++ (y ∷ (ec c ++ ed d)))) R)
    ∙ onto-onto (v ∷ []) (w ∷ (ea a ++ (eb b ++ (y ∷ (ec c ++ ed d))))) R
    ∙ ap (λ l. onto l R) (sym (h a b c d refl))
emit-loop v w y ea eb ec ed ex f (ok a) (ok b) (ok c) (refuse n p) R h = refl
emit-loop v w y ea eb ec ed ex f (ok a) (ok b) (refuse n p) od R h = refl
emit-loop v w y ea eb ec ed ex f (ok a) (refuse n p) oc od R h = refl
emit-loop v w y ea eb ec ed ex f (refuse n p) ob oc od R h = refl

-- ---- statements

wanted-left : (H : List ℕ) (v : ℕ) (ws us : List Role) → Wanted H v (ws ++ us) → Wanted H v ws
unfolding Wanted
wanted-left H v [] us t = tt
wanted-left H v (w ∷ ws) us t = (t.0, t.1, wanted-left H (v + 1) ws us t.2)

wanted-right : (H : List ℕ) (v : ℕ) (ws us : List Role) → Wanted H v (ws ++ us) → Wanted H (v + length ws) us
unfolding Wanted
wanted-right H v [] us t = let e : v + 0 ≡ v = omega arith in rw e t
wanted-right H v (w ∷ ws) us t = let e : v + suc (length ws) ≡ v + 1 + length ws = omega arith in rw e (wanted-right H (v + 1) ws us t.2)

made-call : (p₀ u : ℕ) (k : Callee) → u ≡ pack CALL 0 (p₀ * 128 + callee_number k) → (a : List (Exp ℕ)) (b d : List (Arg ℕ)) (x : Stmts ℕ Callee)
    → stmts_w slot_w meant_w (call p₀ k a b d x) ≡ u ∷ (list_w (exp_w slot_w 0) a ++ (list_w (arg_w slot_w INPUT) b ++ (list_w (arg_w slot_w OUTPUT) d ++ stmts_w slot_w meant_w x)))
unfolding stmts_w
made-call p₀ u k e a b d x = rw e refl

made-loop : (p₀ k u y : ℕ) (a b : Exp ℕ) (c d : Stmts ℕ Callee) → u ≡ pack INDEX 0 k → y ≡ pack BODY 0 (length (stmts_w slot_w meant_w c))
    → stmts_w slot_w meant_w (loop p₀ k a b c d) ≡ pack LOOP 0 p₀ ∷ (u ∷ (exp_w slot_w 0 a ++ (exp_w slot_w 0 b ++ ((y ∷ stmts_w slot_w meant_w c) ++ stmts_w slot_w meant_w d))))
unfolding stmts_w
made-loop p₀ k u y a b c d e f = rw (e, f) refl

regroup : (a b c d r : List ℕ) → (a ++ (b ++ (c ++ d))) ++ r ≡ a ++ (b ++ (c ++ (d ++ r)))
regroup a b c d r = append_assoc a (b ++ (c ++ d)) r ∙ ap (λ l. a ++ l) (append_assoc b (c ++ d) r ∙ ap (λ l. b ++ l) (append_assoc c d r))

module _ (s H F N : List ℕ) (few : length s ≤ 16384) (Bs : Spelled) (knows : Knows s H F N Bs) where
  abbrev words : Stmts Name Name → List ℕ
  words c = stmts_w name_w callee_w c

  abbrev SpeltS : Stmts Name Name → Type 0
  SpeltS c = AllStmts (SpeltName s) (SpeltCall s) (length s) c

  abbrev SpeltE : Exp Name → Type 0
  SpeltE e = AllExp {C = Name} (SpeltName s) (SpeltCall s) (length s) 2 e

  -- what the sweep makes of statements at p, r being the words after them
  pub record Went (S : State) (p : ℕ) (c : Stmts Name Name) (L : List ℕ) (r : List ℕ) : Type 0 where
    pub final : State
    pub declared : declared_at final ≡ declared_at S
    pub room : length final.scope ≡ length S.scope
    pub blocks : final.blocks ≡ S.blocks
    pub ends : length final.until ≡ length S.until
    pub kept : (q k : ℕ) → p + length (stmts_w name_w callee_w c) ≤ q → ltb q (get_or final.until k 0) ≡ ltb q (get_or S.until k 0)
    pub swept : sweep s H F N p S (stmts_w name_w callee_w c ++ r) ≡ emit (stmts_w slot_w meant_w) (statements Bs (scope_in s (declared_at S)) L c) (sweep s H F N (p + length (stmts_w name_w callee_w c)) final r)

  stays : (S : State) (p : ℕ) (c : Stmts Name Name) (L : List ℕ) (r : List ℕ)
      → sweep s H F N p S (stmts_w name_w callee_w c ++ r) ≡ emit (stmts_w slot_w meant_w) (statements Bs (scope_in s (declared_at S)) L c) (sweep s H F N (p + length (stmts_w name_w callee_w c)) S r) → Went S p c L r
  stays S p c L r e = record { final = S; declared = refl; room = refl; blocks = refl; ends = refl; kept = λ q k h. refl; swept = e }

  nothing : (S : State) (p : ℕ) (L r : List ℕ) → sweep s H F N p S (stmts_w name_w callee_w end ++ r) ≡ emit (stmts_w slot_w meant_w) (statements Bs (scope_in s (declared_at S)) L end) (sweep s H F N (p + length (stmts_w name_w callee_w end)) S r)
  unfolding stmts_w statements emit
  nothing S p L r = let e : p + 0 ≡ p = omega arith in rw e (sym (onto-none (sweep s H F N p S r)))

  stmts-ends : (c : Stmts Name Name) (r : List ℕ) → SpeltS c → Ends r → Ends (words c ++ r)
  unfolding stmts_w AllStmts Ends in_call pick
  stmts-ends end r q e = e
  stmts-ends (call p n gs ins outs rest) r q e =
      let small : 0 < 8 = omega arith in
      rw (kind-of CALL 0 (name_w n) small (name-fits s few CALL 0 small n q.0.1)) (omega arith, refl)
  stmts-ends (loop p i a b body rest) r q e =
      let small : 0 < 8 = omega arith in
      let z : p < 33554432 = omega (arith, q.0) in
      rw (kind-of LOOP 0 p small z) (omega arith, refl)

  module _ (S : State) (L : List ℕ) (p hi : ℕ) (r : List ℕ) (low : hi ≤ 16384) (clear : Clear L S.until p hi) (after-it : Ends r) where
    abbrev E : Scope
    E = scope_in s (declared_at S)

    -- ---- a call

    module _ (p₀ : ℕ) (n : Name) (gs : List (Exp Name)) (ins outs : List (Arg Name)) (rest : Stmts Name Name) (q : SpeltS (call p₀ n gs ins outs rest)) (fits : p + length (words (call p₀ n gs ins outs rest)) ≤ hi)
        (ih : (T : State) (p' : ℕ) → declared_at T ≡ declared_at S → T.until ≡ S.until → p ≤ p' → p' + length (words rest) ≤ hi → Went T p' rest L r) where
      abbrev G : List ℕ
      G = list_w (exp_w name_w 0) gs

      abbrev I : List ℕ
      I = list_w (arg_w name_w INPUT) ins

      abbrev O : List ℕ
      O = list_w (arg_w name_w OUTPUT) outs

      abbrev X : List ℕ
      X = G ++ (I ++ (O ++ (words rest ++ r)))

      abbrev w : ℕ
      w = pack CALL 0 (name_w n)

      abbrev asked : Wants → Bool
      asked W = eqb (length gs) W.generics && eqb (length ins) (length W.inputs) && eqb (length outs) (length W.outputs)

      spelt-n : SpeltName s n
      unfolding AllStmts
      spelt-n = q.0.1

      place-n : place_of (pack CALL 0 (name_w n)) ≡ n.place
      place-n = name-place s few CALL 0 (omega arith) n spelt-n

      long : suc (length G + (length I + (length O + length (words rest)))) ≡ length (words (call p₀ n gs ins outs rest))
      unfolding stmts_w
      long = ap suc (sym (four G I O (words rest)))

      opened : words (call p₀ n gs ins outs rest) ++ r ≡ pack CALL 0 (name_w n) ∷ (G ++ (I ++ (O ++ (words rest ++ r))))
      unfolding stmts_w
      opened = ap (λ l. pack CALL 0 (name_w n) ∷ l) (regroup G I O (words rest) r)

      turned : turn s H F N p S (pack CALL 0 (name_w n)) X ≡ after (call_step s H F N (pack CALL 0 (name_w n)) X) (λ c. sw.called (heading_of H F c) S (pack CALL 0 (name_w n)) c)
      turned = let small : 0 < 8 = omega arith in turn-call s H F N p S (pack CALL 0 (name_w n)) X 3 (sym (kind-of CALL 0 (name_w n) small (name-fits s few CALL 0 small n spelt-n))) refl

      callee : callee_in s N (pack CALL 0 (name_w n)) ≡ after (called Bs n) (λ W. callee_number W.callee)
      callee = callee-as s H F N Bs knows n (pack CALL 0 (name_w n)) (name-letters s few CALL 0 (omega arith) n spelt-n) place-n

      counts : (W : Wants) (t : Right H F W) → counts_fit (heading_of H F (callee_number W.callee)) X ≡ asked W
      unfolding AllStmts
      counts W t =
          let l = long in
          let e = stmts-ends rest r q.4 after-it in
          let g : generics_given 0 X ≡ length gs = exps-generics s few gs (I ++ (O ++ (words rest ++ r))) q.1 (omega arith)
          ∙ rw (args-generics s few INPUT INPUT (omega arith) (omega arith) ins (O ++ (words rest ++ r)) q.2 (args-generics s few OUTPUT OUTPUT (omega arith) (omega arith) outs (words rest ++ r) q.3 (ends-generics _ e))) (omega arith) in
          let i : given INPUT X ≡ length ins = exps-given s few INPUT gs (I ++ (O ++ (words rest ++ r))) (omega arith) q.1 (omega arith)
          ∙ args-given s few INPUT INPUT (omega arith) (omega arith) ins (O ++ (words rest ++ r)) refl q.2 (omega arith)
          ∙ rw (args-other s few INPUT OUTPUT (omega arith) (omega arith) outs (words rest ++ r) (omega arith) (λ z. omega arith) q.3 (omega arith), ends-given INPUT _ e) (omega arith) in
          let o : given OUTPUT X ≡ length outs = exps-given s few OUTPUT gs (I ++ (O ++ (words rest ++ r))) (omega arith) q.1 (omega arith)
          ∙ args-other s few OUTPUT INPUT (omega arith) (omega arith) ins (O ++ (words rest ++ r)) (omega arith) (λ z. omega arith) q.2 (omega arith)
          ∙ args-given s few OUTPUT OUTPUT (omega arith) (omega arith) outs (words rest ++ r) refl q.3 (omega arith)
          ∙ rw (ends-given OUTPUT _ e) (omega arith) in
          rw (t.counts, g, i, o)

      call-refused : {m x : ℕ} → called Bs n ≡ refuse m x → Went S p (call p₀ n gs ins outs rest) L r
      unfolding statements call_step ◌>>=◌ after emit
      call-refused {m} {x} e = stays S p (call p₀ n gs ins outs rest) L r
          (ap (sweep s H F N p S) opened ∙ sweep-no s H F N p S (pack CALL 0 (name_w n)) X {n = m} {q = x} (turned ∙ rw (callee, e) refl) ∙ rw e refl)

      call-miscounted : (W : Wants) → called Bs n ≡ ok W → asked W ≡ false → Went S p (call p₀ n gs ins outs rest) L r
      unfolding statements call_step ◌>>=◌ after emit at need
      call-miscounted W e f = stays S p (call p₀ n gs ins outs rest) L r
          (ap (sweep s H F N p S) opened ∙ sweep-no s H F N p S (pack CALL 0 (name_w n)) X {n = 8} {q = n.place} (turned ∙ rw (callee, e, counts W (wants-right s H F N Bs knows n e), f, place-n) refl) ∙ rw (e, f) refl)

      call_fits : (W : Wants) → called Bs n ≡ ok W → asked W ≡ true → Went S p (call p₀ n gs ins outs rest) L r
      unfolding statements call_step ◌>>=◌ after at need AllStmts
      call_fits W e f =
          let t = wants-right s H F N Bs knows n e in
          let v = t.want in
          let small : 0 < 8 = omega arith in
          let fine = name-fits s few CALL 0 small n spelt-n in
          let l = long in
          let y = both_yes (eqb (length gs) W.generics && eqb (length ins) (length W.inputs)) (eqb (length outs) (length W.outputs)) (subst T (sym f) tt) in
          let x = both_yes (eqb (length gs) W.generics) (eqb (length ins) (length W.inputs)) y.0 in
          let li = eqb→eq (length ins) (length W.inputs) x.1 in
          let lo = eqb→eq (length outs) (length W.outputs) y.1 in
          let p₁ = p + 1 + length G in
          let p₂ = p₁ + length I in
          let p₃ = p₂ + length O in
          let T = moved S (v + length W.inputs + length W.outputs) in
          let end = ih T p₃ refl refl (omega arith) (omega arith) in
          let z : p₃ + length (words rest) ≡ p + length (words (call p₀ n gs ins outs rest)) = omega arith in
          let c = callee_number W.callee in
          let w' : valued (pack CALL 0 (name_w n)) (place_of (pack CALL 0 (name_w n)) * 128 + c) ≡ pack CALL 0 (p₀ * 128 + c) = valued-pack CALL 0 (name_w n) _ fine ∙ rw (place-n, q.0.0) refl in
          record {
            final = end.final;
            declared = end.declared;
            room = end.room;
            blocks = end.blocks;
            ends = end.ends;
            kept = λ a k h. end.kept a k (omega arith);
            swept = ap (sweep s H F N p S) opened
                ∙ sweep-on s H F N p S (pack CALL 0 (name_w n)) X (turned ∙ rw (callee, e, counts W t, f, t.counts) refl)
                ∙ ap (onto (valued (pack CALL 0 (name_w n)) (place_of (pack CALL 0 (name_w n)) * 128 + c) ∷ [])) (exps-swept s H F N few (moved S v) L p hi low clear gs (p + 1) (I ++ (O ++ (words rest ++ r))) q.1 (omega arith) (omega arith)
                ∙ ap (emit (list_w (exp_w slot_w 0)) (expressions E L gs)) (args-swept s H F N few S L p hi low clear INPUT (omega arith) (omega arith) W.inputs ins v p₁ (O ++ (words rest ++ r)) q.2 li (wanted-left H v W.inputs W.outputs t.ports) (omega arith) (omega arith)
                ∙ ap (emit (list_w (arg_w slot_w INPUT)) (arguments E L W.inputs ins)) (args-swept s H F N few S L p hi low clear OUTPUT (omega arith) (omega arith) W.outputs outs (v + length W.inputs) p₂ (words rest ++ r) q.3 lo (wanted-right H v W.inputs W.outputs t.ports) (omega arith) (omega arith)
                ∙ ap (emit (list_w (arg_w slot_w OUTPUT)) (arguments E L W.outputs outs)) end.swept)))
                ∙ emit-call _ (list_w (exp_w slot_w 0)) (list_w (arg_w slot_w INPUT)) (list_w (arg_w slot_w OUTPUT)) (stmts_w slot_w meant_w) (stmts_w slot_w meant_w) (call p₀ W.callee) (expressions E L gs) (arguments E L W.inputs ins) (arguments E L W.outputs outs) (statements Bs E L rest) _ (made-call p₀ _ W.callee w')
                ∙ rw (e, f, z) refl;
          }

    -- ---- a loop

    module _ (p₀ : ℕ) (i : Name) (a b : Exp Name) (body rest : Stmts Name Name) (q : SpeltS (loop p₀ i a b body rest)) (fits : p + length (words (loop p₀ i a b body rest)) ≤ hi) (room : length (declared_at S) ≤ length S.until)
        (ih-body : (T : State) (k p' h : ℕ) (r' : List ℕ) → declared_at T ≡ declared_at S → length T.until ≡ length S.until → h ≤ 16384 → Clear (k ∷ L) T.until p' h → p' + length (words body) ≤ h → Ends r' → Went T p' body (k ∷ L) r')
        (ih-rest : (T : State) (p' : ℕ) → declared_at T ≡ declared_at S → length T.until ≡ length S.until → Clear L T.until p' hi → p' + length (words rest) ≤ hi → Went T p' rest L r) where
      abbrev A : List ℕ
      A = exp_w name_w 0 a

      abbrev B : List ℕ
      B = exp_w name_w 0 b

      abbrev Y : List ℕ
      Y = words body

      abbrev wb : ℕ
      wb = pack BODY 0 (length (stmts_w name_w callee_w body))

      abbrev wi : ℕ
      wi = pack INDEX 0 (name_w i)

      -- the words after the index
      abbrev Z : List ℕ
      Z = A ++ (B ++ ((pack BODY 0 (length (stmts_w name_w callee_w body)) ∷ Y) ++ (words rest ++ r)))

      spelt-i : SpeltName s i
      unfolding AllStmts
      spelt-i = q.1

      loop-opened : words (loop p₀ i a b body rest) ++ r ≡ pack LOOP 0 p₀ ∷ (pack INDEX 0 (name_w i) ∷ Z)
      unfolding stmts_w
      loop-opened = ap (λ l. pack LOOP 0 p₀ ∷ (pack INDEX 0 (name_w i) ∷ l)) (regroup A B (pack BODY 0 (length (stmts_w name_w callee_w body)) ∷ Y) (words rest) r)

      loop-long : suc (suc (length A + (length B + (suc (length Y) + length (words rest))))) ≡ length (words (loop p₀ i a b body rest))
      unfolding stmts_w
      loop-long = ap (λ m. suc (suc m)) (sym (four A B (pack BODY 0 (length (stmts_w name_w callee_w body)) ∷ Y) (words rest)))

      loop-first : sweep s H F N p S (words (loop p₀ i a b body rest) ++ r) ≡ onto (pack LOOP 0 p₀ ∷ []) (sweep s H F N (p + 1) S (pack INDEX 0 (name_w i) ∷ Z))
      unfolding AllStmts
      loop-first =
          let small : 0 < 8 = omega arith in
          let z : p₀ < 33554432 = omega (arith, q.0) in
          ap (sweep s H F N p S) loop-opened
          ∙ sweep-plain s H F N p S (pack LOOP 0 p₀) (pack INDEX 0 (name_w i) ∷ Z) (turn-other s H F N p S (pack LOOP 0 p₀) _ 6 (sym (kind-of LOOP 0 p₀ small z)) false (λ z. omega arith) (λ z. omega arith) refl refl (λ z. omega arith) (λ z. omega arith) (λ z. omega arith) (omega arith))

      index-turned : turn s H F N (p + 1) S (pack INDEX 0 (name_w i)) Z ≡ after (index_step s (declared_at S) (pack INDEX 0 (name_w i))) (λ k. indexed S (pack INDEX 0 (name_w i)) k)
      index-turned = let small : 0 < 8 = omega arith in turn-index s H F N (p + 1) S (pack INDEX 0 (name_w i)) Z 7 (sym (kind-of INDEX 0 (name_w i) small (name-fits s few INDEX 0 small i spelt-i))) refl

      loop-steps : statements Bs E L (loop p₀ i a b body rest)
          ≡ (index_step s (declared_at S) (pack INDEX 0 (name_w i)) >>= λ k. expression E L a >>= λ a. expression E L b >>= λ b. statements Bs E (k ∷ L) body >>= λ body. statements Bs E L rest >>= λ rest. ok (loop p₀ k a b body rest))
      unfolding statements index_step ◌>>=◌ at need
      loop-steps = rw (name-itself s few INDEX 0 (omega arith) i spelt-i, name-place s few INDEX 0 (omega arith) i spelt-i) (go (find E i))
        where
          inner : (k : ℕ) (c : Bool) (K : ℕ → Out (Stmts ℕ Callee)) → (need_at i.place c 7 >>= λ _. K k) ≡ ((need_at i.place c 7 >>= λ _. ok k) >>= K)
          inner k true K = refl
          inner k false K = refl

          go : (o : Out ℕ) → (o >>= λ k. need_at i.place (is_index (role_at E k)) 7 >>= λ _. expression E L a >>= λ a. expression E L b >>= λ b. statements Bs E (k ∷ L) body >>= λ body. statements Bs E L rest >>= λ rest. ok (loop p₀ k a b body rest))
              ≡ ((o >>= λ k. need_at i.place (is_index (role_at E k)) 7 >>= λ _. ok k) >>= λ k. expression E L a >>= λ a. expression E L b >>= λ b. statements Bs E (k ∷ L) body >>= λ body. statements Bs E L rest >>= λ rest. ok (loop p₀ k a b body rest))
          go (ok k) = inner k (is_index (role_at E k)) (λ k. expression E L a >>= λ a. expression E L b >>= λ b. statements Bs E (k ∷ L) body >>= λ body. statements Bs E L rest >>= λ rest. ok (loop p₀ k a b body rest))
          go (refuse m x) = refl

      index_below : {k : ℕ} → index_step s (declared_at S) (pack INDEX 0 (name_w i)) ≡ ok k → k < length S.until
      unfolding index_step
      index_below {k} e = inv _ _ e λ j ej e₁. inv_at _ _ _ e₁ λ _ _ e₂. omega (arith, found E (name_of s (pack INDEX 0 (name_w i))) ej, ok-inj e₂, length-map (declared_at S) (entry_of s))

      loop-refused : {m x : ℕ} → index_step s (declared_at S) (pack INDEX 0 (name_w i)) ≡ refuse m x → Went S p (loop p₀ i a b body rest) L r
      unfolding ◌>>=◌ after emit
      loop-refused {m} {x} e = stays S p (loop p₀ i a b body rest) L r
          (loop-first ∙ ap (onto (pack LOOP 0 p₀ ∷ [])) (sweep-no s H F N (p + 1) S (pack INDEX 0 (name_w i)) Z {n = m} {q = x} (index-turned ∙ rw e refl)) ∙ rw (loop-steps, e) refl)

      loop-goes : (k : ℕ) → index_step s (declared_at S) (pack INDEX 0 (name_w i)) ≡ ok k → Went S p (loop p₀ i a b body rest) L r
      unfolding ◌>>=◌ after AllStmts
      loop-goes k e =
          let small : 0 < 8 = omega arith in
          let fine = name-fits s few INDEX 0 small i spelt-i in
          let l = loop-long in
          let S₁ : State = record { scope = S.scope; count = S.count; until = S.until; index = k; want = S.want; blocks = S.blocks } in
          let p₂ = p + 1 + 1 + length A in
          let p₃ = p₂ + length B in
          let e₄ = p₃ + 1 + length Y in
          let z : length (stmts_w name_w callee_w body) < 33554432 = omega arith in
          let S₂ : State = record { scope = S.scope; count = S.count; until = set S.until k (max (get_or S.until k 0) e₄); index = k; want = S.want; blocks = S.blocks } in
          let inside = ih-body S₂ k (p₃ + 1) e₄ (words rest ++ r) refl (length-set S.until k (max (get_or S.until k 0) e₄)) (omega arith) (set-clear L S.until k p (p₃ + 1) e₄ hi (index_below e) (omega arith) (omega arith) clear) (omega arith) (stmts-ends rest r q.5 after-it) in
          let still : (x j : ℕ) → e₄ ≤ x → ltb x (get_or inside.final.until j 0) ≡ ltb x (get_or S.until j 0) = λ x j h. inside.kept x j h ∙ set-kept S.until k e₄ x j h in
          let end = ih-rest inside.final e₄ inside.declared (inside.ends ∙ length-set S.until k (max (get_or S.until k 0) e₄)) (λ x j h g. still x j h ∙ clear x j (omega arith) g) (omega arith) in
          let y : e₄ + length (words rest) ≡ p + length (words (loop p₀ i a b body rest)) = omega arith in
          record {
            final = end.final;
            declared = end.declared ∙ inside.declared;
            room = end.room ∙ inside.room;
            blocks = end.blocks ∙ inside.blocks;
            ends = end.ends ∙ inside.ends ∙ length-set S.until k (max (get_or S.until k 0) e₄);
            kept = λ x j h. end.kept x j (omega arith) ∙ still x j (omega arith);
            swept = loop-first
                ∙ ap (onto (pack LOOP 0 p₀ ∷ [])) (sweep-on s H F N (p + 1) S (pack INDEX 0 (name_w i)) Z (index-turned ∙ rw e refl)
                ∙ ap (onto (valued (pack INDEX 0 (name_w i)) k ∷ [])) (exp-swept s H F N few S₁ L p hi low clear a 0 (p + 1 + 1) 2 _ small q.2 (omega arith) (omega arith)
                ∙ ap (emit (exp_w slot_w 0) (expression E L a)) (exp-swept s H F N few S₁ L p hi low clear b 0 p₂ 2 _ small q.3 (omega arith) (omega arith)
                ∙ ap (emit (exp_w slot_w 0) (expression E L b)) (sweep-plain s H F N p₃ S₁ (pack BODY 0 (length (stmts_w name_w callee_w body))) (Y ++ (words rest ++ r)) {T = S₂} (turn_body s H F N p₃ S₁ (pack BODY 0 (length (stmts_w name_w callee_w body))) _ 8 (sym (kind-of BODY 0 (length (stmts_w name_w callee_w body)) small z)) refl ∙ rw (value-of BODY 0 (length (stmts_w name_w callee_w body)) small z) refl)
                ∙ ap (onto (pack BODY 0 (length (stmts_w name_w callee_w body)) ∷ [])) (inside.swept
                ∙ ap (emit (stmts_w slot_w meant_w) (statements Bs E (k ∷ L) body)) (end.swept ∙ ap (λ ws. emit (stmts_w slot_w meant_w) (statements Bs (scope_in s ws) L rest) (sweep s H F N (e₄ + length (words rest)) end.final r)) inside.declared))))))
                ∙ emit-loop (pack LOOP 0 p₀) (valued (pack INDEX 0 (name_w i)) k) (pack BODY 0 (length (stmts_w name_w callee_w body))) (exp_w slot_w 0) (exp_w slot_w 0) (stmts_w slot_w meant_w) (stmts_w slot_w meant_w) (stmts_w slot_w meant_w) (loop p₀ k) (expression E L a) (expression E L b) (statements Bs E (k ∷ L) body) (statements Bs E L rest) _
                (λ a' b' c d g. made-loop p₀ k _ _ a' b' c d (valued-pack INDEX 0 (name_w i) k fine) (sym (ap (pack BODY 0) (stmts-length Bs E (k ∷ L) body g))))
                ∙ rw (loop-steps, e, y) refl;
          }

  -- ---- all statements

  pub stmts-swept : (c : Stmts Name Name) (S : State) (L : List ℕ) (p hi : ℕ) (r : List ℕ) → SpeltS c → hi ≤ 16384 → Clear L S.until p hi → p + length (words c) ≤ hi → length (declared_at S) ≤ length S.until → Ends r → Went S p c L r
  unfolding AllStmts
  stmts-swept end S L p hi r q low clear fits room e = stays S p end L r (nothing S p L r)
  stmts-swept (call p₀ n gs ins outs rest) S L p hi r q low clear fits room e =
      go (called Bs n) refl
      (λ T p' d u a b. stmts-swept rest T L p' hi r q.4 low (λ x j h g. ap (λ u. ltb x (get_or u j 0)) u ∙ clear x j (omega arith) g) b (rw (d, u) room) e)
    where
      ask : (W : Wants) (b : Bool) → called Bs n ≡ ok W → (eqb (length gs) W.generics && eqb (length ins) (length W.inputs) && eqb (length outs) (length W.outputs)) ≡ b
          → ((T : State) (p' : ℕ) → declared_at T ≡ declared_at S → T.until ≡ S.until → p ≤ p' → p' + length (words rest) ≤ hi → Went T p' rest L r) → Went S p (call p₀ n gs ins outs rest) L r
      ask W true f g ih = call_fits S L p hi r low clear e p₀ n gs ins outs rest q fits ih W f g
      ask W false f g ih = call-miscounted S L p hi r low clear e p₀ n gs ins outs rest q fits ih W f g

      go : (o : Out Wants) → called Bs n ≡ o → ((T : State) (p' : ℕ) → declared_at T ≡ declared_at S → T.until ≡ S.until → p ≤ p' → p' + length (words rest) ≤ hi → Went T p' rest L r) → Went S p (call p₀ n gs ins outs rest) L r
      go (ok W) f ih = ask W _ f refl ih
      go (refuse m x) f ih = call-refused S L p hi r low clear e p₀ n gs ins outs rest q fits ih f
  stmts-swept (loop p₀ i a b body rest) S L p hi r q low clear fits room e =
      go (index_step s (declared_at S) (pack INDEX 0 (name_w i))) refl
      (λ T k p' h r' d u l c f g. stmts-swept body T (k ∷ L) p' h r' q.4 l c f (rw (d, u) room) g)
      (λ T p' d u c f. stmts-swept rest T L p' hi r q.5 low c f (rw (d, u) room) e)
    where
      go : (o : Out ℕ) → index_step s (declared_at S) (pack INDEX 0 (name_w i)) ≡ o
          → ((T : State) (k p' h : ℕ) (r' : List ℕ) → declared_at T ≡ declared_at S → length T.until ≡ length S.until → h ≤ 16384 → Clear (k ∷ L) T.until p' h → p' + length (words body) ≤ h → Ends r' → Went T p' body (k ∷ L) r')
          → ((T : State) (p' : ℕ) → declared_at T ≡ declared_at S → length T.until ≡ length S.until → Clear L T.until p' hi → p' + length (words rest) ≤ hi → Went T p' rest L r) → Went S p (loop p₀ i a b body rest) L r
      go (ok k) f x y = loop-goes S L p hi r low clear e p₀ i a b body rest q fits room x y k f
      go (refuse m z) f x y = loop-refused S L p hi r low clear e p₀ i a b body rest q fits room x y f
