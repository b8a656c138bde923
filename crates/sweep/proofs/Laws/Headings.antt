-- The headings gathered from the tape of a program are those of its blocks. Assumes nothing.
use Rattle.std.specs.Prelude.{◌≡◌, Bool, true, false, ◌&&◌, eqb, ltb}
use Rattle.std.proofs.Math.Path.{refl, sym, ap}
use Rattle.std.proofs.Common.{◌∙◌, subst}
use mathlib.Core.List.{List, [], ◌∷◌, ◌++◌, map, append_assoc}
use Prim.Native.Nat.{ℕ, suc, ◌+◌, ◌<◌, ◌≤◌}
use native.Mathlib.Omega.{arith}
use Rattle.std.proofs.Math.ListN.{length, length-append}
use borrow.Author.Tests.{ne_eqb, lt-ltb, le-ltb}
use Rattle.rules.specs.Text.{pick}
use Rattle.rules.specs.Syntax.{Name, Exp, Sort, wire, vector, num, Arg, whole, part, Stmts, end, call, loop, Decl, Block, Spelled}
use Rattle.rules.proofs.Laws.Spelt.{SpeltName, SpeltCall, SpeltBlock, All, AllExp, AllSort, AllArg, AllStmts, AllDecl}
use Rattle.tape.specs.Layout.{pack, kind_of, CALL, INPUT, OUTPUT, LOOP, INDEX, BODY, BLOCK, GENERIC, IN, OUT, VAR, name_w, kind-of}
use Rattle.tape.specs.Encoding.{list_w, exp_w, arg_w, stmts_w, sort_w, decl_w, generic_w, block_w, callee_w}
use Rattle.sweep.specs.Sweep.{heading, headings, titles, firsts}
use Rattle.sweep.proofs.Laws.Expressions.{name-fits}
use Rattle.sweep.proofs.Laws.Given.{Low, exp-low}
use Rattle.sweep.proofs.Laws.Declarations.{head_of_sort, head-of-sort}

-- ---- words that are no headings

-- no block, generic or port
unfoldable Plain : List ℕ → Type 0
Plain [] = Unit {0}
Plain (w ∷ ws) = (heading w ≡ false) × Plain ws

plain-both : (a b : List ℕ) → Plain a → Plain b → Plain (a ++ b)
unfolding Plain
plain-both [] b p q = q
plain-both (w ∷ a) b p q = (p.0, plain-both a b p.1 q)

low-plain : (a : List ℕ) → Low a → Plain a
unfolding Plain Low
low-plain [] p = tt
low-plain (w ∷ a) p = let h = p.0 in (rw (le-ltb 8 (kind_of w) (omega arith)) refl, low-plain a p.1)

headings-plain : (a r : List ℕ) → Plain a → headings (a ++ r) ≡ headings r
unfolding Plain headings pick
headings-plain [] r p = refl
headings-plain (w ∷ a) r p = rw p.0 (headings-plain a r p.1)

-- a word of a kind below 9 or from 13 on
no-heading : (k h v : ℕ) → h < 8 → v < 33554432 → (ltb 8 k && ltb k 13) ≡ false → heading (pack k h v) ≡ false
no-heading k h v a b e = rw (kind-of k h v a b) e

module _ (s : List ℕ) (few : length s ≤ 16384) where
  abbrev SpeltE : ℕ → Exp Name → Type 0
  SpeltE l e = AllExp {C = Name} (SpeltName s) (SpeltCall s) (length s) l e

  abbrev SpeltA : Arg Name → Type 0
  SpeltA a = AllArg {C = Name} (SpeltName s) (SpeltCall s) (length s) a

  exp-plain : (e : Exp Name) → SpeltE 2 e → length (exp_w name_w 0 e) ≤ 16384 → Plain (exp_w name_w 0 e)
  exp-plain e q b = low-plain _ (exp-low s few e 0 2 (omega arith) q b)

  exps-plain : (es : List (Exp Name)) → All (SpeltE 2) es → length (list_w (exp_w name_w 0) es) ≤ 16384 → Plain (list_w (exp_w name_w 0) es)
  unfolding list_w All Plain
  exps-plain [] q b = tt
  exps-plain (e ∷ es) q b = let m = length-append (exp_w name_w 0 e) (list_w (exp_w name_w 0) es) in plain-both (exp_w name_w 0 e) _ (exp-plain e q.0 (omega arith)) (exps-plain es q.1 (omega arith))

  module _ (K : ℕ) (high : K < 9) where
    kind-plain : (ltb 8 K && ltb K 13) ≡ false
    kind-plain = rw (le-ltb 8 K (omega arith)) refl

    args-plain : (args : List (Arg Name)) → All SpeltA args → length (list_w (arg_w name_w K) args) ≤ 16384 → Plain (list_w (arg_w name_w K) args)
    unfolding list_w arg_w All AllArg Plain
    args-plain [] q b = tt
    args-plain (whole n ∷ args) q b = let small : 0 < 8 = omega arith in (no-heading K 0 (name_w n) small (name-fits s few K 0 small n q.0) kind-plain, args-plain args q.1 (omega arith))
    args-plain (part n e ∷ args) q b =
        let small : 1 < 8 = omega arith in
        let m = length-append (exp_w name_w 0 e) (list_w (arg_w name_w K) args) in
        (no-heading K 1 (name_w n) small (name-fits s few K 1 small n q.0.0) kind-plain, plain-both (exp_w name_w 0 e) _ (exp-plain e q.0.1 (omega arith)) (args-plain args q.1 (omega arith)))

  stmts-plain : (c : Stmts Name Name) → AllStmts (SpeltName s) (SpeltCall s) (length s) c → length (stmts_w name_w callee_w c) ≤ 16384 → Plain (stmts_w name_w callee_w c)
  unfolding stmts_w AllStmts Plain
  stmts-plain end q b = tt
  stmts-plain (call p n gs ins outs rest) q b =
      let small : 0 < 8 = omega arith in
      let m₁ = length-append (list_w (exp_w name_w 0) gs) (list_w (arg_w name_w INPUT) ins ++ (list_w (arg_w name_w OUTPUT) outs ++ stmts_w name_w callee_w rest)) in
      let m₂ = length-append (list_w (arg_w name_w INPUT) ins) (list_w (arg_w name_w OUTPUT) outs ++ stmts_w name_w callee_w rest) in
      let m₃ = length-append (list_w (arg_w name_w OUTPUT) outs) (stmts_w name_w callee_w rest) in (
        no-heading CALL 0 (name_w n) small (name-fits s few CALL 0 small n q.0.1) refl,
        plain-both (list_w (exp_w name_w 0) gs) (list_w (arg_w name_w INPUT) ins ++ (list_w (arg_w name_w OUTPUT) outs ++ stmts_w name_w callee_w rest)) (exps-plain gs q.1 (omega arith)) (plain-both (list_w (arg_w name_w INPUT) ins) (list_w (arg_w name_w OUTPUT) outs ++ stmts_w name_w callee_w rest) (args-plain INPUT (omega arith) ins q.2 (omega arith)) (plain-both (list_w (arg_w name_w OUTPUT) outs) (stmts_w name_w callee_w rest) (args-plain OUTPUT (omega arith) outs q.3 (omega arith)) (stmts-plain rest q.4 (omega arith)))),
      )
  stmts-plain (loop p i a b' body rest) q b =
      let small : 0 < 8 = omega arith in
      let Y = stmts_w name_w callee_w body in
      let m₁ = length-append (exp_w name_w 0 a) (exp_w name_w 0 b' ++ ((pack BODY 0 (length (stmts_w name_w callee_w body)) ∷ stmts_w name_w callee_w body) ++ stmts_w name_w callee_w rest)) in
      let m₂ = length-append (exp_w name_w 0 b') ((pack BODY 0 (length (stmts_w name_w callee_w body)) ∷ stmts_w name_w callee_w body) ++ stmts_w name_w callee_w rest) in
      let m₃ = length-append (pack BODY 0 (length (stmts_w name_w callee_w body)) ∷ stmts_w name_w callee_w body) (stmts_w name_w callee_w rest) in
      let inner : Plain (pack BODY 0 (length (stmts_w name_w callee_w body)) ∷ stmts_w name_w callee_w body) = (no-heading BODY 0 (length (stmts_w name_w callee_w body)) small (omega arith) refl, stmts-plain body q.4 (omega arith)) in (
        no-heading LOOP 0 p small (omega (arith, q.0)) refl,
        (
          no-heading INDEX 0 (name_w i) small (name-fits s few INDEX 0 small i q.1) refl,
          plain-both (exp_w name_w 0 a) (exp_w name_w 0 b' ++ ((pack BODY 0 (length (stmts_w name_w callee_w body)) ∷ stmts_w name_w callee_w body) ++ stmts_w name_w callee_w rest)) (exp-plain a q.2 (omega arith)) (plain-both (exp_w name_w 0 b') ((pack BODY 0 (length (stmts_w name_w callee_w body)) ∷ stmts_w name_w callee_w body) ++ stmts_w name_w callee_w rest) (exp-plain b' q.3 (omega arith)) (plain-both (pack BODY 0 (length (stmts_w name_w callee_w body)) ∷ stmts_w name_w callee_w body) (stmts_w name_w callee_w rest) inner (stmts-plain rest q.5 (omega arith)))),
        ),
      )

the-body : (s : List ℕ) → length s ≤ 16384 → (c : Stmts Name Name) → AllStmts (SpeltName s) (SpeltCall s) (length s) c → suc (length (stmts_w name_w callee_w c)) ≤ 16384 → Plain (pack BODY 0 (length (stmts_w name_w callee_w c)) ∷ stmts_w name_w callee_w c)
unfolding Plain
the-body s few c q b = (no-heading BODY 0 (length (stmts_w name_w callee_w c)) (omega arith) (omega arith) refl, stmts-plain s few c q (omega arith))

-- ---- the headings of a program

abbrev pub port_w : ℕ → Decl Name → ℕ
port_w K d = pack K (head_of_sort d.sort) (name_w d.name)

abbrev pub gen_w : Name → ℕ
gen_w n = pack GENERIC 0 (name_w n)

abbrev pub title_w : Block Name Name → ℕ
title_w B = pack BLOCK 0 (name_w B.name)

abbrev pub head_w : Block Name Name → List ℕ
head_w B = title_w B ∷ (map gen_w B.generics ++ (map (port_w IN) B.inputs ++ map (port_w OUT) B.outputs))

module _ (s : List ℕ) (few : length s ≤ 16384) where
  abbrev pub SpeltD : Decl Name → Type 0
  SpeltD d = AllDecl {C = Name} (SpeltName s) (SpeltName s) (SpeltCall s) (length s) d

  is-heading : (k h v : ℕ) → h < 8 → v < 33554432 → (ltb 8 k && ltb k 13) ≡ true → heading (pack k h v) ≡ true
  is-heading k h v a b e = rw (kind-of k h v a b) e

  gens-headings : (ns : List Name) (r : List ℕ) → All (SpeltName s) ns → headings (list_w generic_w ns ++ r) ≡ map gen_w ns ++ headings r
  unfolding list_w generic_w All headings pick
  gens-headings [] r q = refl
  gens-headings (n ∷ ns) r q = let small : 0 < 8 = omega arith in rw (is-heading GENERIC 0 (name_w n) small (name-fits s few GENERIC 0 small n q.0) refl) (ap (λ l. gen_w n ∷ l) (gens-headings ns r q.1))

  -- the words of a type after the name's
  sort-tail : (K v : ℕ) (t : Sort Name) → AllSort {C = Name} (SpeltName s) (SpeltCall s) (length s) t → length (sort_w name_w K v t) ≤ 16384 → (a : List ℕ) × (sort_w name_w K v t ≡ pack K (head_of_sort t) v ∷ a) × Plain a
  unfolding sort_w head_of_sort AllSort Plain
  sort-tail K v wire q b = ([], refl, tt)
  sort-tail K v (vector x y) q b = let m = length-append (exp_w name_w 0 x) (exp_w name_w 0 y) in (exp_w name_w 0 x ++ exp_w name_w 0 y, refl, plain-both (exp_w name_w 0 x) (exp_w name_w 0 y) (exp-plain s few x q.0 (omega arith)) (exp-plain s few y q.1 (omega arith)))
  sort-tail K v num q b = ([], refl, tt)

  module _ (K : ℕ) where
    ports-headings : (ds : List (Decl Name)) (r : List ℕ) → (ltb 8 K && ltb K 13) ≡ true → All SpeltD ds → length (list_w (decl_w name_w K) ds) ≤ 16384 → headings (list_w (decl_w name_w K) ds ++ r) ≡ map (port_w K) ds ++ headings r
    unfolding list_w decl_w All headings pick
    ports-headings [] r k q b = refl
    ports-headings (d ∷ ds) r k q b =
        let m = length-append (sort_w name_w K (name_w d.name) d.sort) (list_w (decl_w name_w K) ds) in
        let t = sort-tail K (name_w d.name) d.sort q.0.sort (omega arith) in
        let small = head-of-sort d.sort in
        ap headings (append_assoc (sort_w name_w K (name_w d.name) d.sort) (list_w (decl_w name_w K) ds) r ∙ ap (λ l. l ++ (list_w (decl_w name_w K) ds ++ r)) t.1)
        ∙ rw (is-heading K (head_of_sort d.sort) (name_w d.name) small (name-fits s few K (head_of_sort d.sort) small d.name q.0.name) k)
        (ap (λ l. port_w K d ∷ l) (headings-plain t.0 (list_w (decl_w name_w K) ds ++ r) t.2 ∙ ports-headings ds r k q.1 (omega arith)))

    vars-plain : (ds : List (Decl Name)) → (ltb 8 K && ltb K 13) ≡ false → All SpeltD ds → length (list_w (decl_w name_w K) ds) ≤ 16384 → Plain (list_w (decl_w name_w K) ds)
    unfolding list_w decl_w All Plain
    vars-plain [] k q b = tt
    vars-plain (d ∷ ds) k q b =
        let m = length-append (sort_w name_w K (name_w d.name) d.sort) (list_w (decl_w name_w K) ds) in
        let t = sort-tail K (name_w d.name) d.sort q.0.sort (omega arith) in
        let small = head-of-sort d.sort in
        plain-both (sort_w name_w K (name_w d.name) d.sort) (list_w (decl_w name_w K) ds)
        (subst Plain (sym t.1) (no-heading K (head_of_sort d.sort) (name_w d.name) small (name-fits s few K (head_of_sort d.sort) small d.name q.0.name) k, t.2))
        (vars-plain ds k q.1 (omega arith))

  block-headings : (B : Block Name Name) (r : List ℕ) → SpeltBlock s B → length (block_w name_w callee_w B) ≤ 16384 → headings (block_w name_w callee_w B ++ r) ≡ head_w B ++ headings r
  unfolding block_w headings pick
  block-headings B r q b =
      let small : 0 < 8 = omega arith in
      let G = list_w generic_w B.generics in
      let I = list_w (decl_w name_w IN) B.inputs in
      let O = list_w (decl_w name_w OUT) B.outputs in
      let W = list_w (decl_w name_w VAR) B.locals in
      let Y = pack BODY 0 (length (stmts_w name_w callee_w B.body)) ∷ stmts_w name_w callee_w B.body in
      let m₁ = length-append (list_w generic_w B.generics) (I ++ (O ++ (W ++ Y))) in
      let m₂ = length-append (list_w (decl_w name_w IN) B.inputs) (O ++ (W ++ Y)) in
      let m₃ = length-append (list_w (decl_w name_w OUT) B.outputs) (W ++ Y) in
      let m₄ = length-append (list_w (decl_w name_w VAR) B.locals) Y in
      let x : (G ++ (I ++ (O ++ (W ++ Y)))) ++ r ≡ G ++ (I ++ (O ++ ((W ++ Y) ++ r))) = append_assoc G (I ++ (O ++ (W ++ Y))) r ∙ ap (λ l. G ++ l) (append_assoc I (O ++ (W ++ Y)) r ∙ ap (λ l. I ++ l) (append_assoc O (W ++ Y) r)) in
      let z : Plain (W ++ Y) = plain-both W Y (vars-plain VAR B.locals refl q.names.locals (omega arith)) (the-body s few B.body q.names.body (omega arith)) in
      rw (is-heading BLOCK 0 (name_w B.name) small (name-fits s few BLOCK 0 small B.name q.names.name) refl)
      (ap (λ l. title_w B ∷ l) (ap headings x
      ∙ gens-headings B.generics (I ++ (O ++ ((W ++ Y) ++ r))) q.names.generics
      ∙ ap (λ l. map gen_w B.generics ++ l) (ports-headings IN B.inputs (O ++ ((W ++ Y) ++ r)) refl q.names.inputs (omega arith)
      ∙ ap (λ l. map (port_w IN) B.inputs ++ l) (ports-headings OUT B.outputs ((W ++ Y) ++ r) refl q.names.outputs (omega arith)
      ∙ ap (λ l. map (port_w OUT) B.outputs ++ l) (headings-plain (W ++ Y) r z)))
      ∙ sym (append_assoc (map gen_w B.generics) (map (port_w IN) B.inputs ++ map (port_w OUT) B.outputs) (headings r) ∙ ap (λ l. map gen_w B.generics ++ l) (append_assoc (map (port_w IN) B.inputs) (map (port_w OUT) B.outputs) (headings r)))))

  pub tape-headings : (Bs : Spelled) → All (SpeltBlock s) Bs → length (list_w (block_w name_w callee_w) Bs) ≤ 16384 → headings (list_w (block_w name_w callee_w) Bs) ≡ list_w head_w Bs
  unfolding list_w All headings
  tape-headings [] q b = refl
  tape-headings (B ∷ Bs) q b = let m = length-append (block_w name_w callee_w B) (list_w (block_w name_w callee_w) Bs) in block-headings B (list_w (block_w name_w callee_w) Bs) q.0 (omega arith) ∙ ap (λ l. head_w B ++ l) (tape-headings Bs q.1 (omega arith))

-- ---- names and beginnings, by the headings alone

not-nine : (k : ℕ) → (ltb 8 k && ltb k 13) ≡ false → eqb k BLOCK ≡ false
not-nine k e = ne_eqb k BLOCK (λ z. never (sym e ∙ rw z refl))
  where
    never : ◌≡◌ {A = Bool} false true → ⊥
    never e = let z : ◌≡◌ {A = ℕ} 0 1 = cc in omega arith

titles-headings : (ws : List ℕ) → titles ws ≡ titles (headings ws)
unfolding titles headings pick
titles-headings [] = refl
titles-headings (w ∷ ws) = go (heading w) refl (titles-headings ws)
  where
    go : (b : Bool) → heading w ≡ b → titles ws ≡ titles (headings ws) → pick (eqb (kind_of w) BLOCK) (w ∷ titles ws) (titles ws) ≡ titles (pick b (w ∷ headings ws) (headings ws))
    go true e h = rw h
    go false e h = rw (not-nine (kind_of w) e) h

firsts-headings : (n : ℕ) (ws : List ℕ) → firsts n ws ≡ firsts n (headings ws)
unfolding firsts headings pick
firsts-headings n [] = refl
firsts-headings n (w ∷ ws) = go (heading w) refl (firsts-headings n ws) (firsts-headings (n + 1) ws)
  where
    go : (b : Bool) → heading w ≡ b → firsts n ws ≡ firsts n (headings ws) → firsts (n + 1) ws ≡ firsts (n + 1) (headings ws)
        → pick b (pick (eqb (kind_of w) BLOCK) (n ∷ firsts (n + 1) ws) (firsts (n + 1) ws)) (firsts n ws) ≡ firsts n (pick b (w ∷ headings ws) (headings ws))
    go true e h g = rw (e, g)
    go false e h g = h

-- where the headings of each block begin
unfoldable pub starts : ℕ → Spelled → List ℕ
starts n [] = []
starts n (B ∷ Bs) = n ∷ starts (n + length (head_w B)) Bs

module _ (s : List ℕ) (few : length s ≤ 16384) where
  -- words of a kind that is a heading's but names no block
  pass-titles : (ws r : List ℕ) → All (λ w. (eqb (kind_of w) BLOCK ≡ false)) ws → titles (ws ++ r) ≡ titles r
  unfolding titles pick All
  pass-titles [] r q = refl
  pass-titles (w ∷ ws) r q = rw q.0 (pass-titles ws r q.1)

  pass-firsts : (n : ℕ) (ws r : List ℕ) → All (λ w. (eqb (kind_of w) BLOCK ≡ false) × (heading w ≡ true)) ws → firsts n (ws ++ r) ≡ firsts (n + length ws) r
  unfolding firsts pick All
  pass-firsts n [] r q = let e : n + 0 ≡ n = omega arith in rw e
  pass-firsts n (w ∷ ws) r q = let e : n + suc (length ws) ≡ n + 1 + length ws = omega arith in rw (q.0.1, q.0.0, e) (pass-firsts (n + 1) ws r q.1)

  abbrev Passing : ℕ → Type 0
  Passing w = (eqb (kind_of w) BLOCK ≡ false) × (heading w ≡ true)

  all_both : (a b : List ℕ) → All Passing a → All Passing b → All Passing (a ++ b)
  unfolding All
  all_both [] b p q = q
  all_both (w ∷ a) b p q = (p.0, all_both a b p.1 q)

  all_first : (a : List ℕ) → All Passing a → All (λ w. (eqb (kind_of w) BLOCK ≡ false)) a
  unfolding All
  all_first [] p = tt
  all_first (w ∷ a) p = (p.0.0, all_first a p.1)

  gens-pass : (ns : List Name) → All (SpeltName s) ns → All Passing (map gen_w ns)
  unfolding All
  gens-pass [] q = tt
  gens-pass (n ∷ ns) q =
      let small : 0 < 8 = omega arith in
      let k = kind-of GENERIC 0 (name_w n) small (name-fits s few GENERIC 0 small n q.0) in
      ((rw k refl, rw k refl), gens-pass ns q.1)

  ports-pass : (K : ℕ) (ds : List (Decl Name)) → 9 < K → K < 13 → All (SpeltD s few) ds → All Passing (map (port_w K) ds)
  unfolding All
  ports-pass K [] a b q = tt
  ports-pass K (d ∷ ds) a b q =
      let small = head-of-sort d.sort in
      let k = kind-of K (head_of_sort d.sort) (name_w d.name) small (name-fits s few K (head_of_sort d.sort) small d.name q.0.name) in
      ((rw k (ne_eqb K BLOCK (λ z. omega arith)), rw (k, lt-ltb 8 K (omega arith)) (lt-ltb K 13 b)), ports-pass K ds a b q.1)

  tail-pass : (B : Block Name Name) → SpeltBlock s B → All Passing (map gen_w B.generics ++ (map (port_w IN) B.inputs ++ map (port_w OUT) B.outputs))
  tail-pass B q = all_both (map gen_w B.generics) _ (gens-pass B.generics q.names.generics) (all_both (map (port_w IN) B.inputs) (map (port_w OUT) B.outputs) (ports-pass IN B.inputs (omega arith) (omega arith) q.names.inputs) (ports-pass OUT B.outputs (omega arith) (omega arith) q.names.outputs))

  pub title-kind : (B : Block Name Name) → SpeltBlock s B → kind_of (title_w B) ≡ 9
  title-kind B q = let small : 0 < 8 = omega arith in kind-of BLOCK 0 (name_w B.name) small (name-fits s few BLOCK 0 small B.name q.names.name)

  heads-titles : (Bs : Spelled) → All (SpeltBlock s) Bs → titles (list_w head_w Bs) ≡ map title_w Bs
  unfolding list_w All titles pick
  heads-titles [] q = refl
  heads-titles (B ∷ Bs) q = rw (title-kind B q.0) (ap (λ l. title_w B ∷ l) (pass-titles (map gen_w B.generics ++ (map (port_w IN) B.inputs ++ map (port_w OUT) B.outputs)) (list_w head_w Bs) (all_first (map gen_w B.generics ++ (map (port_w IN) B.inputs ++ map (port_w OUT) B.outputs)) (tail-pass B q.0)) ∙ heads-titles Bs q.1))

  heads-firsts : (n : ℕ) (Bs : Spelled) → All (SpeltBlock s) Bs → firsts n (list_w head_w Bs) ≡ starts n Bs
  unfolding list_w All firsts starts pick
  heads-firsts n [] q = refl
  heads-firsts n (B ∷ Bs) q =
      let T = map gen_w B.generics ++ (map (port_w IN) B.inputs ++ map (port_w OUT) B.outputs) in
      let e : n + 1 + length (map gen_w B.generics ++ (map (port_w IN) B.inputs ++ map (port_w OUT) B.outputs)) ≡ n + length (head_w B) = omega arith in
      rw (title-kind B q.0) (ap (λ l. n ∷ l) (pass-firsts (n + 1) T (list_w head_w Bs) (tail-pass B q.0) ∙ rw e (heads-firsts (n + length (head_w B)) Bs q.1)))

  module _ (Bs : Spelled) (q : All (SpeltBlock s) Bs) (b : length (list_w (block_w name_w callee_w) Bs) ≤ 16384) where
    pub tape-titles : titles (list_w (block_w name_w callee_w) Bs) ≡ map title_w Bs
    tape-titles = titles-headings (list_w (block_w name_w callee_w) Bs) ∙ ap titles (tape-headings s few Bs q b) ∙ heads-titles Bs q

    pub tape-firsts : firsts 4 (list_w (block_w name_w callee_w) Bs) ≡ starts 4 Bs
    tape-firsts = firsts-headings 4 (list_w (block_w name_w callee_w) Bs) ∙ ap (firsts 4) (tape-headings s few Bs q b) ∙ heads-firsts 4 Bs q
