-- The sweep over the words of a call's generics and arguments is the rule for them. Assumes nothing.
use Rattle.std.specs.Prelude.{◌≡◌, Bool, true, false, ◌||◌, eqb, get_or}
use Rattle.std.proofs.Math.Path.{refl, ap}
use Rattle.std.proofs.Common.{sym, ◌∙◌}
use mathlib.Core.List.{List, [], ◌∷◌, ◌++◌, append_assoc}
use Prim.Native.Nat.{ℕ, zero, suc, ◌+◌, ◌<◌, ◌≤◌, min}
use native.Mathlib.Omega.{arith}
use Rattle.std.proofs.Math.ListN.{length, length-append}
use Rattle.rules.specs.Text.{pick}
use Rattle.rules.specs.Outcome.{Out, ok, refuse, ◌>>=◌, at, need, need_at}
use Rattle.rules.specs.Syntax.{Name, Exp, Arg, whole, part}
use Rattle.rules.specs.Names.{Role, is_wire, is_vector, Scope, find, role_at, expression, expressions, argument, arguments}
use Rattle.rules.proofs.Laws.Spelt.{SpeltName, SpeltCall, All, AllExp, AllArg}
use Rattle.tape.specs.Layout.{pack, head_in, name_w, kind-of, head-of}
use Rattle.tape.specs.Encoding.{list_w, exp_w, arg_w}
use Rattle.tape.specs.Resolved.{slot_w}
use Rattle.sweep.specs.Spelling.{place_of, name_of, valued, scope_in}
use Rattle.sweep.specs.Sweep.{State, declared_at, argument_step, sort_fits, shape_fits, after, argued, turn, sweep}
use Rattle.sweep.proofs.Laws.Turns.{turn-argument, onto-none}
use Rattle.sweep.proofs.Laws.Expressions.{emit, emit-after, emit-both, sweep-emit, name-fits, name-place, name-itself, valued-pack, Clear, exp-swept}

-- the state whose next argument is for the port at v
abbrev pub moved : State → ℕ → State
moved S v = record { scope = S.scope; count = S.count; until = S.until; index = S.index; want = v; blocks = S.blocks }

-- the ports of these roles stand among the headings from v on
unfoldable pub Wanted : List ℕ → ℕ → List Role → Type 0
Wanted H v [] = Unit {0}
Wanted H v (w ∷ ws) = (eqb (head_in (get_or H v 0)) 0 ≡ is_wire w) × (v ≤ 3140) × Wanted H (v + 1) ws

-- ---- the rule by its steps

whole-inner : (q k : ℕ) (c d : Bool) → (need_at q c 7 >>= λ _. need_at q d 8 >>= λ _. ok (whole k)) ≡ after (need_at q c 7 >>= λ _. need_at q d 8 >>= λ _. ok k) whole
unfolding ◌>>=◌ after at need
whole-inner q k true true = refl
whole-inner q k true false = refl
whole-inner q k false d = refl

part-inner : (q k : ℕ) (c d : Bool) (o : Out (Exp ℕ)) → (need_at q c 7 >>= λ _. need_at q d 8 >>= λ _. o >>= λ e. ok (part k e)) ≡ ((need_at q c 7 >>= λ _. need_at q d 8 >>= λ _. ok k) >>= λ k. o >>= λ e. ok (part k e))
unfolding ◌>>=◌ at need
part-inner q k true true o = refl
part-inner q k true false o = refl
part-inner q k false d o = refl

module _ (s ws : List ℕ) (L : List ℕ) (wanted : Role) (v w : ℕ) (n : Name) (i : name_of s w ≡ n) (q : place_of w ≡ n.place) (port : eqb (head_in v) 0 ≡ is_wire wanted) where
  whole-steps : head_in w ≡ 0 → argument (scope_in s ws) L wanted (whole n) ≡ after (argument_step s ws v w) whole
  unfolding argument argument_step sort_fits shape_fits pick ◌>>=◌ after
  whole-steps h = rw (i, q, h, port) (go (find (scope_in s ws) n))
    where
      go : (o : Out ℕ) → (o >>= λ k. need_at n.place (is_wire (role_at (scope_in s ws) k) || is_vector (role_at (scope_in s ws) k)) 7 >>= λ _. need_at n.place (pick (is_wire wanted) (is_wire (role_at (scope_in s ws) k)) (is_vector (role_at (scope_in s ws) k))) 8 >>= λ _. ok (whole k))
          ≡ after (o >>= λ k. need_at n.place (is_wire (role_at (scope_in s ws) k) || is_vector (role_at (scope_in s ws) k)) 7 >>= λ _. need_at n.place (pick (is_wire wanted) (is_wire (role_at (scope_in s ws) k)) (is_vector (role_at (scope_in s ws) k))) 8 >>= λ _. ok k) whole
      go (ok k) = whole-inner n.place k _ _
      go (refuse m x) = refl

  part-steps : (e : Exp Name) → head_in w ≡ 1 → argument (scope_in s ws) L wanted (part n e) ≡ (argument_step s ws v w >>= λ k. expression (scope_in s ws) L e >>= λ e. ok (part k e))
  unfolding argument argument_step sort_fits shape_fits pick ◌>>=◌
  part-steps e h = rw (i, q, h, port) (go (find (scope_in s ws) n))
    where
      go : (o : Out ℕ) → (o >>= λ k. need_at n.place (is_vector (role_at (scope_in s ws) k)) 7 >>= λ _. need_at n.place (is_wire wanted) 8 >>= λ _. expression (scope_in s ws) L e >>= λ e. ok (part k e))
          ≡ ((o >>= λ k. need_at n.place (is_vector (role_at (scope_in s ws) k)) 7 >>= λ _. need_at n.place (is_wire wanted) 8 >>= λ _. ok k) >>= λ k. expression (scope_in s ws) L e >>= λ e. ok (part k e))
      go (ok k) = part-inner n.place k _ _ (expression (scope_in s ws) L e)
      go (refuse m x) = refl

module _ (s H F N : List ℕ) (few : length s ≤ 16384) (S : State) (L : List ℕ) (lo hi : ℕ) (low : hi ≤ 16384) (clear : Clear L S.until lo hi) where
  abbrev E : Scope
  E = scope_in s (declared_at S)

  abbrev SpeltE : Exp Name → Type 0
  SpeltE e = AllExp {C = Name} (SpeltName s) (SpeltCall s) (length s) 2 e

  abbrev SpeltA : Arg Name → Type 0
  SpeltA a = AllArg {C = Name} (SpeltName s) (SpeltCall s) (length s) a

  -- ---- generics

  pub exps-swept : (gs : List (Exp Name)) (p : ℕ) (r : List ℕ) → All SpeltE gs → lo ≤ p → p + length (list_w (exp_w name_w 0) gs) ≤ hi
      → sweep s H F N p S (list_w (exp_w name_w 0) gs ++ r) ≡ emit (list_w (exp_w slot_w 0)) (expressions E L gs) (sweep s H F N (p + length (list_w (exp_w name_w 0) gs)) S r)
  unfolding list_w expressions All emit
  exps-swept [] p r q a b = let e : p + 0 ≡ p = omega arith in rw e (sym (onto-none (sweep s H F N p S r)))
  exps-swept (x ∷ gs) p r q a b =
      let m = length-append (exp_w name_w 0 x) (list_w (exp_w name_w 0) gs) in
      let e : p + length (exp_w name_w 0 x) + length (list_w (exp_w name_w 0) gs) ≡ p + length (exp_w name_w 0 x ++ list_w (exp_w name_w 0) gs) = omega arith in
      ap (sweep s H F N p S) (append_assoc (exp_w name_w 0 x) (list_w (exp_w name_w 0) gs) r)
      ∙ exp-swept s H F N few S L lo hi low clear x 0 p 2 (list_w (exp_w name_w 0) gs ++ r) (omega arith) q.0 a (omega arith)
      ∙ ap (emit (exp_w slot_w 0) (expression E L x)) (exps-swept gs (p + length (exp_w name_w 0 x)) r q.1 (omega arith) (omega arith))
      ∙ rw e (emit-both (exp_w slot_w 0) (list_w (exp_w slot_w 0)) (list_w (exp_w slot_w 0)) ◌∷◌ (expression E L x) (expressions E L gs) _ (λ y z. refl))

  -- ---- arguments of kind K

  module _ (K : ℕ) (low₃ : 3 < K) (high : K < 6) where
    is-arg : true ≡ (eqb K 4 || eqb K 5)
    is-arg = go K low₃ high
      where
        go : (K : ℕ) → 3 < K → K < 6 → true ≡ (eqb K 4 || eqb K 5)
        go zero a b = absurd (omega arith)
        go (suc zero) a b = absurd (omega arith)
        go (suc (suc zero)) a b = absurd (omega arith)
        go (suc (suc (suc zero))) a b = absurd (omega arith)
        go (suc (suc (suc (suc zero)))) a b = refl
        go (suc (suc (suc (suc (suc zero))))) a b = refl
        go (suc (suc (suc (suc (suc (suc k)))))) a b = absurd (omega arith)

    arg-turn : (h p v : ℕ) (n : Name) (r : List ℕ) → h < 8 → SpeltName s n
        → turn s H F N p (moved S v) (pack K h (name_w n)) r ≡ after (argument_step s (declared_at S) (get_or H v 0) (pack K h (name_w n))) (λ k. argued (moved S v) (pack K h (name_w n)) k)
    arg-turn h p v n r small q =
        let e = kind-of K h (name_w n) small (name-fits s few K h small n q) in
        turn-argument s H F N p (moved S v) (pack K h (name_w n)) r K (sym e) true (λ z. omega arith) (λ z. omega arith) is-arg refl

    pub arg-swept : (a : Arg Name) (w : Role) (v p : ℕ) (r : List ℕ) → SpeltA a → eqb (head_in (get_or H v 0)) 0 ≡ is_wire w → v ≤ 3140 → lo ≤ p → p + length (arg_w name_w K a) ≤ hi
        → sweep s H F N p (moved S v) (arg_w name_w K a ++ r) ≡ emit (arg_w slot_w K) (argument E L w a) (sweep s H F N (p + length (arg_w name_w K a)) (moved S (v + 1)) r)
    unfolding arg_w AllArg
    arg-swept (whole n) w v p r q port l a b =
        let small : 0 < 8 = omega arith in
        let f = name-fits s few K 0 small n q in
        let m : min v 3140 ≡ v = omega arith in
        sweep-emit s H F N p (moved S v) (pack K 0 (name_w n)) r (argument_step s (declared_at S) (get_or H v 0) (pack K 0 (name_w n))) (λ k. valued (pack K 0 (name_w n)) k) (moved S (min v 3140 + 1)) (arg-turn 0 p v n r small q)
        ∙ emit-after _ (arg_w slot_w K) _ whole _ (λ k _. ap (λ x. x ∷ []) (sym (valued-pack K 0 (name_w n) k f)))
        ∙ rw m (ap (λ o. emit (arg_w slot_w K) o (sweep s H F N (p + 1) (moved S (v + 1)) r)) (sym (whole-steps s (declared_at S) L w (get_or H v 0) (pack K 0 (name_w n)) n (name-itself s few K 0 small n q) (name-place s few K 0 small n q) port (head-of K 0 (name_w n) small f))))
    arg-swept (part n e) w v p r q port l a b =
        let small : 1 < 8 = omega arith in
        let f = name-fits s few K 1 small n q.0 in
        let m : min v 3140 ≡ v = omega arith in
        let z : p + 1 + length (exp_w name_w 0 e) ≡ p + suc (length (exp_w name_w 0 e)) = omega arith in
        let R = sweep s H F N (p + 1 + length (exp_w name_w 0 e)) (moved S (v + 1)) r in
        sweep-emit s H F N p (moved S v) (pack K 1 (name_w n)) (exp_w name_w 0 e ++ r) (argument_step s (declared_at S) (get_or H v 0) (pack K 1 (name_w n))) (λ k. valued (pack K 1 (name_w n)) k) (moved S (min v 3140 + 1)) (arg-turn 1 p v n _ small q.0)
        ∙ rw m (ap (emit (λ k. valued (pack K 1 (name_w n)) k ∷ []) (argument_step s (declared_at S) (get_or H v 0) (pack K 1 (name_w n)))) (exp-swept s H F N few (moved S (v + 1)) L lo hi low clear e 0 (p + 1) 2 r (omega arith) q.1 (omega arith) (omega arith))
        ∙ emit-both (λ k. valued (pack K 1 (name_w n)) k ∷ []) (exp_w slot_w 0) (arg_w slot_w K) part (argument_step s (declared_at S) (get_or H v 0) (pack K 1 (name_w n))) (expression E L e) R (λ k y. ap (λ x. x ∷ exp_w slot_w 0 y) (sym (valued-pack K 1 (name_w n) k f)))
        ∙ rw z (ap (λ o. emit (arg_w slot_w K) o (sweep s H F N (p + suc (length (exp_w name_w 0 e))) (moved S (v + 1)) r)) (sym (part-steps s (declared_at S) L w (get_or H v 0) (pack K 1 (name_w n)) n (name-itself s few K 1 small n q.0) (name-place s few K 1 small n q.0) port e (head-of K 1 (name_w n) small f)))))

    pub args-swept : (ws : List Role) (args : List (Arg Name)) (v p : ℕ) (r : List ℕ) → All SpeltA args → length args ≡ length ws → Wanted H v ws → lo ≤ p → p + length (list_w (arg_w name_w K) args) ≤ hi
        → sweep s H F N p (moved S v) (list_w (arg_w name_w K) args ++ r) ≡ emit (list_w (arg_w slot_w K)) (arguments E L ws args) (sweep s H F N (p + length (list_w (arg_w name_w K) args)) (moved S (v + length ws)) r)
    unfolding list_w arguments All Wanted emit
    args-swept [] [] v p r q l t a b = let e : p + 0 ≡ p = omega arith in let f : v + 0 ≡ v = omega arith in rw (e, f) (sym (onto-none (sweep s H F N p (moved S v) r)))
    args-swept [] (x ∷ args) v p r q l t a b = absurd (omega arith)
    args-swept (w ∷ ws) [] v p r q l t a b = absurd (omega arith)
    args-swept (w ∷ ws) (x ∷ args) v p r q l t a b =
        let m = length-append (arg_w name_w K x) (list_w (arg_w name_w K) args) in
        let e : p + length (arg_w name_w K x) + length (list_w (arg_w name_w K) args) ≡ p + length (arg_w name_w K x ++ list_w (arg_w name_w K) args) = omega arith in
        let f : v + 1 + length ws ≡ v + suc (length ws) = omega arith in
        ap (sweep s H F N p (moved S v)) (append_assoc (arg_w name_w K x) (list_w (arg_w name_w K) args) r)
        ∙ arg-swept x w v p (list_w (arg_w name_w K) args ++ r) q.0 t.0 t.1 a (omega arith)
        ∙ ap (emit (arg_w slot_w K) (argument E L w x)) (args-swept ws args (v + 1) (p + length (arg_w name_w K x)) r q.1 (omega arith) t.2 (omega arith) (omega arith))
        ∙ rw (e, f) (emit-both (arg_w slot_w K) (list_w (arg_w slot_w K)) (list_w (arg_w slot_w K)) ◌∷◌ (argument E L w x) (arguments E L ws args) _ (λ y z. refl))
