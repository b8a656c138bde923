-- The sweep over the words of blocks is the rule for blocks. Assumes nothing.
use Rattle.std.specs.Prelude.{◌≡◌, not, ltb, get_or, set, take}
use Rattle.std.proofs.Math.Path.{refl, sym, ap}
use Rattle.std.proofs.Common.{◌∙◌, length-take, take_at}
use mathlib.Core.List.{List, [], ◌∷◌, ◌++◌, map, append_assoc, append-nil}
use Prim.Native.Nat.{ℕ, zero, suc, ◌+◌, ◌<◌, ◌≤◌, min, max}
use native.Mathlib.Omega.{arith}
use Rattle.std.proofs.Math.ListN.{length, length-append}
use Rattle.std.proofs.lemmas.List.{length-map}
use Rattle.std.proofs.Math.Seq.{set_out}
use Rattle.rules.specs.Text.{pick, is_in}
use Rattle.rules.specs.Outcome.{Out, ok, refuse, ◌>>=◌, need_at}
use Rattle.rules.specs.Primitives.{primitive_names}
use Rattle.rules.specs.Syntax.{Name, Decl, Stmts, Block, Spelled, Callee}
use Rattle.rules.specs.Names.{generic, declared, scope_of}
use Rattle.rules.specs.Resolve.{statements, generics, declarations, resolve_block, resolve_blocks}
use Rattle.rules.proofs.Laws.Carried.{map-append}
use Rattle.rules.proofs.Laws.Spelt.{SpeltBlock, All}
use Rattle.tape.specs.Layout.{pack, BLOCK, BODY, IN, OUT, VAR, name_w, kind-of, value-of}
use Rattle.tape.specs.Encoding.{list_w, stmts_w, decl_w, generic_w, block_w, callee_w}
use Rattle.tape.specs.Resolved.{slot_w, meant_w}
use Rattle.sweep.specs.Spelling.{letters_of, scope_in}
use Rattle.sweep.specs.Sweep.{State, declared_at, block_step, begun, entered, after, onto, in_call, sweep}
use Rattle.sweep.proofs.Laws.Turns.{turn-block, turn_body}
use Rattle.sweep.proofs.Laws.Expressions.{emit, onto-onto, sweep-emit, sweep-plain, name-fits, name-place, name-letters, Clear}
use Rattle.sweep.proofs.Laws.Given.{Ends}
use Rattle.sweep.proofs.Laws.Callees.{Knows}
use Rattle.sweep.proofs.Laws.Bodies.{Went, stmts-swept, stmts-length}
use Rattle.sweep.proofs.Laws.Declarations.{Opened, generics-opened, decls-opened}

emit-block : (w y : ℕ) (gw : List ℕ) (ei eo ev : List (Decl ℕ) → List ℕ) (eb : Stmts ℕ Callee → List ℕ) (ex : Block ℕ Callee → List ℕ) (f : List (Decl ℕ) → List (Decl ℕ) → List (Decl ℕ) → Stmts ℕ Callee → Block ℕ Callee)
    (on og : Out (Unit {0})) (oi oo ov : Out (List (Decl ℕ))) (ob : Out (Stmts ℕ Callee)) (R : Out (List ℕ))
    → ((i o v : List (Decl ℕ)) (b : Stmts ℕ Callee) → ob ≡ ok b → ex (f i o v b) ≡ w ∷ (gw ++ (ei i ++ (eo o ++ (ev v ++ (y ∷ eb b))))))
    → emit (λ _. w ∷ []) on (emit (λ _. gw) og (emit ei oi (emit eo oo (emit ev ov (onto (y ∷ []) (emit eb ob R))))))
    ≡ emit ex (on >>= λ _. og >>= λ _. oi >>= λ i. oo >>= λ o. ov >>= λ v. ob >>= λ b. ok (f i o v b)) R
unfolding emit after ◌>>=◌
emit-block w y gw ei eo ev eb ex f (ok t) (ok u) (ok i) (ok o) (ok v) (ok b) R h =
    ap (λ x. onto (w ∷ []) (onto gw (onto (ei i) (onto (eo o) (onto (ev v) x))))) (onto-onto (y ∷ []) (eb b) R)
    ∙ ap (λ x. onto (w ∷ []) (onto gw (onto (ei i) (onto (eo o) x)))) (onto-onto (ev v) (y ∷ eb b) R)
    ∙ ap (λ x. onto (w ∷ []) (onto gw (onto (ei i) x))) (onto-onto (eo o) (ev v ++ (y ∷ eb b)) R)
    ∙ ap (λ x. onto (w ∷ []) (onto gw x)) (onto-onto (ei i) (eo o ++ (ev v ++ (y ∷ eb b))) R)
    ∙ ap (onto (w ∷ [])) (onto-onto gw (ei i ++ (eo o ++ (ev v ++ (y ∷ eb b)))) R)
    ∙ onto-onto (w ∷ []) (gw ++ (ei i ++ (eo o ++ (ev v ++ (y ∷ eb b))))) R
    ∙ ap (λ l. onto l R) (sym (h i o v b refl))
emit-block w y gw ei eo ev eb ex f (ok t) (ok u) (ok i) (ok o) (ok v) (refuse n p) R h = refl
emit-block w y gw ei eo ev eb ex f (ok t) (ok u) (ok i) (ok o) (refuse n p) ob R h = refl
emit-block w y gw ei eo ev eb ex f (ok t) (ok u) (ok i) (refuse n p) ov ob R h = refl
emit-block w y gw ei eo ev eb ex f (ok t) (ok u) (refuse n p) oo ov ob R h = refl
emit-block w y gw ei eo ev eb ex f (ok t) (refuse n p) oi oo ov ob R h = refl
emit-block w y gw ei eo ev eb ex f (refuse n p) og oi oo ov ob R h = refl

regroup : (a b c d e r : List ℕ) → (a ++ (b ++ (c ++ (d ++ e)))) ++ r ≡ a ++ (b ++ (c ++ (d ++ (e ++ r))))
regroup a b c d e r = append_assoc a (b ++ (c ++ (d ++ e))) r ∙ ap (λ l. a ++ l) (append_assoc b (c ++ (d ++ e)) r ∙ ap (λ l. b ++ l) (append_assoc c (d ++ e) r ∙ ap (λ l. c ++ l) (append_assoc d e r)))

pub five : (a b c d e : List ℕ) → length (a ++ (b ++ (c ++ (d ++ e)))) ≡ length a + (length b + (length c + (length d + length e)))
five a b c d e = omega (arith, length-append a (b ++ (c ++ (d ++ e))), length-append b (c ++ (d ++ e)), length-append c (d ++ e), length-append d e)

made-block : (n : Name) (gs : List Name) (ins outs vs : List (Decl ℕ)) (c : Stmts ℕ Callee) {m : ℕ} → m ≡ length (stmts_w slot_w meant_w c)
    → block_w slot_w meant_w (record { name = n; generics = gs; inputs = ins; outputs = outs; locals = vs; body = c })
    ≡ pack BLOCK 0 (name_w n) ∷ (list_w generic_w gs ++ (list_w (decl_w slot_w IN) ins ++ (list_w (decl_w slot_w OUT) outs ++ (list_w (decl_w slot_w VAR) vs ++ (pack BODY 0 m ∷ stmts_w slot_w meant_w c)))))
unfolding block_w
made-block n gs ins outs vs c e = rw e refl

scope-more : (gs : List Name) (ds es : List (Decl Name)) → scope_of gs ds ++ map declared es ≡ scope_of gs (ds ++ es)
scope-more gs ds es = append_assoc (map generic gs) (map declared ds) (map declared es) ∙ ap (λ l. map generic gs ++ l) (sym (map-append declared ds es))

module _ (s H F N : List ℕ) (few : length s ≤ 16384) (Bs : Spelled) (knows : Knows s H F N Bs) (hi : ℕ) (low : hi ≤ 16384) where
  pub record Passed (S : State) (p : ℕ) (B : Block Name Name) (earlier : List (List ℕ)) (r : List ℕ) : Type 0 where
    pub final : State
    pub room : length final.scope ≡ 48
    pub ends : length final.until ≡ 48
    pub blocks : final.blocks ≡ S.blocks + 1
    pub clear : Clear [] final.until (p + length (block_w name_w callee_w B)) hi
    pub swept : sweep s H F N p S (block_w name_w callee_w B ++ r) ≡ emit (block_w slot_w meant_w) (resolve_block Bs earlier B) (sweep s H F N (p + length (block_w name_w callee_w B)) final r)

  module _ (S : State) (p : ℕ) (B : Block Name Name) (earlier : List (List ℕ)) (r : List ℕ) (q : SpeltBlock s B) (room : length S.scope ≡ 48) (ends : length S.until ≡ 48) (many : S.blocks < 64)
      (clear : Clear [] S.until p hi) (fits : p + length (block_w name_w callee_w B) ≤ hi) (before : map (letters_of s) (take S.blocks N) ≡ earlier) (after-it : Ends r) where
    abbrev w : ℕ
    w = pack BLOCK 0 (name_w B.name)

    abbrev y : ℕ
    y = pack BODY 0 (length (stmts_w name_w callee_w B.body))

    abbrev G : List ℕ
    G = list_w generic_w B.generics

    abbrev I : List ℕ
    I = list_w (decl_w name_w IN) B.inputs

    abbrev O : List ℕ
    O = list_w (decl_w name_w OUT) B.outputs

    abbrev VS : List ℕ
    VS = list_w (decl_w name_w VAR) B.locals

    abbrev Y : List ℕ
    Y = stmts_w name_w callee_w B.body

    abbrev S₀ : State
    S₀ = (begun S (pack BLOCK 0 (name_w B.name))).1

    opened : block_w name_w callee_w B ++ r ≡ pack BLOCK 0 (name_w B.name) ∷ (G ++ (I ++ (O ++ (VS ++ (pack BODY 0 (length Y) ∷ (Y ++ r))))))
    unfolding block_w
    opened = ap (λ l. pack BLOCK 0 (name_w B.name) ∷ l) (regroup G I O VS (pack BODY 0 (length Y) ∷ Y) r)

    long : suc (length G + (length I + (length O + (length VS + suc (length Y))))) ≡ length (block_w name_w callee_w B)
    unfolding block_w
    long = ap suc (sym (five G I O VS (pack BODY 0 (length Y) ∷ Y)))

    named : block_step s (take S.blocks N) (pack BLOCK 0 (name_w B.name)) ≡ need_at B.name.place (not (is_in B.name.letters (primitive_names ++ earlier))) 6
    unfolding block_step
    named =
        let small : 0 < 8 = omega arith in
        rw (name-place s few BLOCK 0 small B.name q.names.name, name-letters s few BLOCK 0 small B.name q.names.name, before) refl

    first : (X : List ℕ) → sweep s H F N p S (pack BLOCK 0 (name_w B.name) ∷ X) ≡ emit (λ _. pack BLOCK 0 (name_w B.name) ∷ []) (need_at B.name.place (not (is_in B.name.letters (primitive_names ++ earlier))) 6) (sweep s H F N (p + 1) S₀ X)
    first X =
        let small : 0 < 8 = omega arith in
        sweep-emit s H F N p S (pack BLOCK 0 (name_w B.name)) X (block_step s (take S.blocks N) (pack BLOCK 0 (name_w B.name))) (λ _. pack BLOCK 0 (name_w B.name)) S₀
        (turn-block s H F N p S (pack BLOCK 0 (name_w B.name)) X 9 (sym (kind-of BLOCK 0 (name_w B.name) small (name-fits s few BLOCK 0 small B.name q.names.name))) refl)
        ∙ ap (λ o. emit (λ _. pack BLOCK 0 (name_w B.name) ∷ []) o (sweep s H F N (p + 1) S₀ X)) named

    body-first : (T : State) (x : ℕ) → length Y < 33554432
        → sweep s H F N x T (pack BODY 0 (length Y) ∷ (Y ++ r)) ≡ onto (pack BODY 0 (length Y) ∷ []) (sweep s H F N (x + 1) (entered T (pack BODY 0 (length Y)) (x + 1 + length Y)).1 (Y ++ r))
    body-first T x z =
        let small : 0 < 8 = omega arith in
        sweep-plain s H F N x T (pack BODY 0 (length Y)) (Y ++ r) {T = (entered T (pack BODY 0 (length Y)) (x + 1 + length Y)).1}
        (turn_body s H F N x T (pack BODY 0 (length Y)) (Y ++ r) 8 (sym (kind-of BODY 0 (length Y) small z)) refl ∙ rw (value-of BODY 0 (length Y) small z) refl)

    abbrev X₅ : List ℕ
    X₅ = pack BODY 0 (length Y) ∷ (Y ++ r)

    abbrev p₂ : ℕ
    p₂ = p + 1 + length G

    abbrev p₃ : ℕ
    p₃ = p + 1 + length G + length I

    abbrev p₄ : ℕ
    p₄ = p + 1 + length G + length I + length O

    abbrev p₅ : ℕ
    p₅ = p + 1 + length G + length I + length O + length VS

    short : length Y < 33554432
    short = omega (arith, long)

    gens : Opened s H F N few S₀ (length B.generics) (scope_in s (declared_at S₀) ++ map generic B.generics) G (p + 1) (I ++ (O ++ (VS ++ X₅))) (emit (λ _. list_w generic_w B.generics) (generics (scope_in s (declared_at S₀)) B.generics))
    gens = generics-opened s H F N few B.generics S₀ (p + 1) (I ++ (O ++ (VS ++ X₅))) q.names.generics (omega (arith, q.few)) (omega arith)

    ins : Opened s H F N few gens.final (length B.inputs) (scope_in s (declared_at gens.final) ++ map declared B.inputs) I p₂ (O ++ (VS ++ X₅)) (emit (list_w (decl_w slot_w IN)) (declarations (scope_in s (declared_at gens.final)) B.inputs))
    ins = decls-opened s H F N few IN (omega arith) p hi low B.inputs gens.final p₂ (O ++ (VS ++ X₅)) q.names.inputs (λ x k a b. ap (λ u. ltb x (get_or u k 0)) gens.until ∙ clear x k a b) (omega arith) (omega (arith, long)) (omega (arith, q.few, gens.count, gens.room)) (omega (arith, gens.room))

    ins-until : ins.final.until ≡ S.until
    ins-until = ins.until ∙ gens.until

    ins-room : length ins.final.scope ≡ 48
    ins-room = ins.room ∙ gens.room ∙ room

    ins-count : ins.final.count ≡ length B.generics + length B.inputs
    ins-count = ins.count ∙ omega (arith, gens.count)

    outs : Opened s H F N few ins.final (length B.outputs) (scope_in s (declared_at ins.final) ++ map declared B.outputs) O p₃ (VS ++ X₅) (emit (list_w (decl_w slot_w OUT)) (declarations (scope_in s (declared_at ins.final)) B.outputs))
    outs = decls-opened s H F N few OUT (omega arith) p hi low B.outputs ins.final p₃ (VS ++ X₅) q.names.outputs (λ x k a b. ap (λ u. ltb x (get_or u k 0)) ins-until ∙ clear x k a b) (omega arith) (omega (arith, long)) (omega (arith, q.few, ins-count, ins-room)) (omega (arith, ins-room))

    outs-until : outs.final.until ≡ S.until
    outs-until = outs.until ∙ ins-until

    outs-room : length outs.final.scope ≡ 48
    outs-room = outs.room ∙ ins-room

    outs-count : outs.final.count ≡ length B.generics + length B.inputs + length B.outputs
    outs-count = outs.count ∙ omega (arith, ins-count)

    vars : Opened s H F N few outs.final (length B.locals) (scope_in s (declared_at outs.final) ++ map declared B.locals) VS p₄ X₅ (emit (list_w (decl_w slot_w VAR)) (declarations (scope_in s (declared_at outs.final)) B.locals))
    vars = decls-opened s H F N few VAR (omega arith) p hi low B.locals outs.final p₄ X₅ q.names.locals (λ x k a b. ap (λ u. ltb x (get_or u k 0)) outs-until ∙ clear x k a b) (omega arith) (omega (arith, long)) (omega (arith, q.few, outs-count, outs-room)) (omega (arith, outs-room))

    vars-until : vars.final.until ≡ S.until
    vars-until = vars.until ∙ outs-until

    vars-index : vars.final.index ≡ 48
    vars-index = vars.index ∙ outs.index ∙ ins.index ∙ gens.index

    abbrev S₅ : State
    S₅ = (entered vars.final (pack BODY 0 (length Y)) (p₅ + 1 + length Y)).1

    inside-until : set vars.final.until vars.final.index (max (get_or vars.final.until vars.final.index 0) (p₅ + 1 + length Y)) ≡ S.until
    inside-until = set_out vars.final.until vars.final.index _ (omega (arith, vars-index, ap length vars-until)) ∙ vars-until

    inside-length : length (set vars.final.until vars.final.index (max (get_or vars.final.until vars.final.index 0) (p₅ + 1 + length Y))) ≡ 48
    inside-length = ap length inside-until ∙ ends

    -- what is in scope
    scope₁ : scope_in s (declared_at gens.final) ≡ scope_of B.generics []
    scope₁ = gens.scope ∙ sym (append-nil (map generic B.generics))

    scope₂ : scope_in s (declared_at ins.final) ≡ scope_of B.generics B.inputs
    scope₂ = ins.scope ∙ ap (λ E. E ++ map declared B.inputs) gens.scope

    scope₃ : scope_in s (declared_at outs.final) ≡ scope_of B.generics (B.inputs ++ B.outputs)
    scope₃ = outs.scope ∙ ap (λ E. E ++ map declared B.outputs) scope₂ ∙ scope-more B.generics B.inputs B.outputs

    scope₄ : scope_in s (declared_at vars.final) ≡ scope_of B.generics (B.inputs ++ B.outputs ++ B.locals)
    scope₄ = vars.scope ∙ ap (λ E. E ++ map declared B.locals) scope₃ ∙ scope-more B.generics (B.inputs ++ B.outputs) B.locals

    few-declared : length (declared_at vars.final) ≤ 48
    few-declared = omega (arith, length-take vars.final.count vars.final.scope, vars.room, outs-room)

    inside : Went s H F N few Bs knows S₅ (p₅ + 1) B.body [] r
    inside = stmts-swept s H F N few Bs knows B.body S₅ [] (p₅ + 1) hi r q.names.body low (λ x k a b. ap (λ u. ltb x (get_or u k 0)) inside-until ∙ clear x k (omega arith) b) (omega (arith, long)) (omega (arith, few-declared, inside-length)) after-it

    to_end : p₅ + 1 + length Y ≡ p + length (block_w name_w callee_w B)
    to_end = omega (arith, long)

    blocks_more : min S.blocks 64 + 1 ≡ S.blocks + 1
    blocks_more = omega arith

    block-swept : sweep s H F N p S (block_w name_w callee_w B ++ r) ≡ emit (block_w slot_w meant_w) (resolve_block Bs earlier B) (sweep s H F N (p + length (block_w name_w callee_w B)) inside.final r)
    unfolding resolve_block
    block-swept =
        ap (sweep s H F N p S) opened
        ∙ first _
        ∙ ap (emit (λ _. pack BLOCK 0 (name_w B.name) ∷ []) (need_at B.name.place (not (is_in B.name.letters (primitive_names ++ earlier))) 6)) (gens.swept
        ∙ ap (emit (λ _. list_w generic_w B.generics) (generics [] B.generics)) (ins.swept
        ∙ ap (λ E. emit (list_w (decl_w slot_w IN)) (declarations E B.inputs) (sweep s H F N p₃ ins.final (O ++ (VS ++ X₅)))) scope₁
        ∙ ap (emit (list_w (decl_w slot_w IN)) (declarations (scope_of B.generics []) B.inputs)) (outs.swept
        ∙ ap (λ E. emit (list_w (decl_w slot_w OUT)) (declarations E B.outputs) (sweep s H F N p₄ outs.final (VS ++ X₅))) scope₂
        ∙ ap (emit (list_w (decl_w slot_w OUT)) (declarations (scope_of B.generics B.inputs) B.outputs)) (vars.swept
        ∙ ap (λ E. emit (list_w (decl_w slot_w VAR)) (declarations E B.locals) (sweep s H F N p₅ vars.final X₅)) scope₃
        ∙ ap (emit (list_w (decl_w slot_w VAR)) (declarations (scope_of B.generics (B.inputs ++ B.outputs)) B.locals)) (body-first vars.final p₅ short
        ∙ ap (onto (pack BODY 0 (length Y) ∷ [])) (inside.swept
        ∙ ap (λ E. emit (stmts_w slot_w meant_w) (statements Bs E [] B.body) (sweep s H F N (p₅ + 1 + length Y) inside.final r)) scope₄))))))
        ∙ emit-block (pack BLOCK 0 (name_w B.name)) (pack BODY 0 (length Y)) (list_w generic_w B.generics) (list_w (decl_w slot_w IN)) (list_w (decl_w slot_w OUT)) (list_w (decl_w slot_w VAR)) (stmts_w slot_w meant_w) (block_w slot_w meant_w)
        (λ ins outs vs b. record { name = B.name; generics = B.generics; inputs = ins; outputs = outs; locals = vs; body = b })
        (need_at B.name.place (not (is_in B.name.letters (primitive_names ++ earlier))) 6) (generics [] B.generics) (declarations (scope_of B.generics []) B.inputs) (declarations (scope_of B.generics B.inputs) B.outputs)
        (declarations (scope_of B.generics (B.inputs ++ B.outputs)) B.locals) (statements Bs (scope_of B.generics (B.inputs ++ B.outputs ++ B.locals)) [] B.body) _
        (λ ins outs vs c h. made-block B.name B.generics ins outs vs c (sym (stmts-length Bs _ [] B.body h)))
        ∙ ap (λ x. emit (block_w slot_w meant_w) (resolve_block Bs earlier B) (sweep s H F N x inside.final r)) to_end

    pub block-passed : Passed S p B earlier r
    block-passed = record {
      final = inside.final;
      room = inside.room ∙ vars.room ∙ outs-room;
      ends = inside.ends ∙ inside-length;
      blocks = inside.blocks ∙ vars.blocks ∙ outs.blocks ∙ ins.blocks ∙ gens.blocks ∙ blocks_more;
      clear = λ x k a c. inside.kept x k (omega (arith, to_end)) ∙ ap (λ u. ltb x (get_or u k 0)) inside-until ∙ clear x k (omega arith) c;
      swept = block-swept;
    }

  -- ---- all blocks

  abbrev spelt : Spelled → List (List ℕ)
  spelt Bs = map (λ B. B.name.letters) Bs

  blocks_end : (rest : Spelled) → All (SpeltBlock s) rest → Ends (list_w (block_w name_w callee_w) rest)
  unfolding list_w block_w Ends All in_call pick
  blocks_end [] q = tt
  blocks_end (B ∷ rest) q =
      let small : 0 < 8 = omega arith in
      rw (kind-of BLOCK 0 (name_w B.name) small (name-fits s few BLOCK 0 small B.name q.0.names.name)) (omega arith, refl)

  names-before : (done rest : Spelled) → Bs ≡ done ++ rest → map (letters_of s) (take (length done) N) ≡ spelt done
  names-before done rest e =
      taken-map (length done) N ∙ ap (take (length done)) (knows.names ∙ ap spelt e ∙ map-append (λ B. B.name.letters) done rest) ∙ take_at (spelt done) (spelt rest) (length done) (length-map done (λ B. B.name.letters))
    where
      taken-map : (n : ℕ) (ws : List ℕ) → map (letters_of s) (take n ws) ≡ take n (map (letters_of s) ws)
      taken-map zero ws = refl
      taken-map (suc n) [] = refl
      taken-map (suc n) (w ∷ ws) = ap (λ l. letters_of s w ∷ l) (taken-map n ws)

  more-blocks : (enc : Block ℕ Callee → List ℕ) (ob : Out (Block ℕ Callee)) (or : Out (List (Block ℕ Callee))) (R : Out (List ℕ)) → emit enc ob (emit (list_w enc) or R) ≡ emit (list_w enc) (ob >>= λ b. or >>= λ r. ok (b ∷ r)) R
  unfolding emit after ◌>>=◌ list_w
  more-blocks enc (ok b) (ok r) R = onto-onto (enc b) (list_w enc r) R
  more-blocks enc (ok b) (refuse n p) R = refl
  more-blocks enc (refuse n p) or R = refl

  pub blocks-swept : (rest done : Spelled) (S : State) (p : ℕ) → Bs ≡ done ++ rest → length Bs ≤ 64 → All (SpeltBlock s) rest → S.blocks ≡ length done → length S.scope ≡ 48 → length S.until ≡ 48
      → Clear [] S.until p hi → p + length (list_w (block_w name_w callee_w) rest) ≤ hi
      → sweep s H F N p S (list_w (block_w name_w callee_w) rest) ≡ emit (list_w (block_w slot_w meant_w)) (resolve_blocks Bs (spelt done) rest) (ok [])
  unfolding list_w resolve_blocks All emit after sweep
  blocks-swept [] done S p e many q b room ends clear fits = refl
  blocks-swept (B ∷ rest) done S p e many q b room ends clear fits =
      let m = length-append (block_w name_w callee_w B) (list_w (block_w name_w callee_w) rest) in
      let n = ap length e ∙ length-append done (B ∷ rest) in
      let x = block-passed S p B (spelt done) (list_w (block_w name_w callee_w) rest) q.0 room ends (omega arith) clear (omega arith) (rw b (names-before done (B ∷ rest) e)) (blocks_end rest q.1) in
      let y = blocks-swept rest (done ++ (B ∷ [])) x.final (p + length (block_w name_w callee_w B)) (e ∙ sym (append_assoc done (B ∷ []) rest)) many q.1 (x.blocks ∙ omega (arith, length-append done (B ∷ []))) x.room x.ends x.clear (omega arith) in
      x.swept
      ∙ ap (emit (block_w slot_w meant_w) (resolve_block Bs (spelt done) B)) (y ∙ ap (λ l. emit (list_w (block_w slot_w meant_w)) (resolve_blocks Bs l rest) (ok [])) (map-append (λ B. B.name.letters) done (B ∷ [])))
      ∙ more-blocks (block_w slot_w meant_w) (resolve_block Bs (spelt done) B) (resolve_blocks Bs (spelt done ++ (B.name.letters ∷ [])) rest) (ok [])
