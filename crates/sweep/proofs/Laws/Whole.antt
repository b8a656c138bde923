-- The sweep over a program's tape, and main after it, are the rule for names. Assumes nothing.
use Rattle.std.specs.Prelude.{◌≡◌, Bool, true, false, ltb, length, set, take, drop, Result, Ok, Err}
use Rattle.std.proofs.Math.Path.{refl, sym, ap}
use Rattle.std.proofs.Common.{◌∙◌, subst, arith, length-take, length-set, length-append, length-drop, take-append-drop, ext_get_or, get_or-take, ne_eqb, lt-ltb, le-ltb}
use Rattle.std.proofs.Math.Bool.{not}
use Rattle.std.proofs.Math.Seq.{take-append_seam, drop-append_seam}
use mathlib.Core.List.{List, [], ◌∷◌, ◌++◌, map, append-nil}
use Prim.Native.Nat.{ℕ, zero, suc, ◌+◌, ◌-◌, ◌<◌, ◌≤◌}
use Rattle.std.proofs.Math.Dec.{eqb, leb-suc-suc}
use Rattle.std.proofs.Math.ListN.{get_or, length-map}
use Rattle.rules.specs.Text.{bytes, pick, index_of}
use Rattle.rules.specs.Outcome.{Out, ok, refuse, ◌>>=◌, at, need, need_at, nth}
use Rattle.rules.specs.Syntax.{Name, Block, Spelled, Callee, Program}
use Rattle.rules.specs.Names.{among}
use Rattle.rules.specs.Resolve.{resolve_blocks, main_of, names}
use Rattle.rules.proofs.Laws.Outcomes.{nth-any}
use Rattle.rules.proofs.Laws.Spelt.{SpeltBlock, All}
use Rattle.tape.specs.Layout.{kind_of, BLOCK, GENERIC, name_w}
use Rattle.tape.specs.Encoding.{list_w, block_w, callee_w, tape_of}
use Rattle.tape.specs.Resolved.{slot_w, meant_w}
use Rattle.tape.specs.Written.{put}
use Rattle.tape.specs.Lies.{Lies}
use Rattle.sweep.specs.Spelling.{place_of}
use Rattle.sweep.specs.Sweep.{start, headings, titles, firsts, leading, heading_at, Rows, Answers, Swept, main_in, after, sweep}
use Rattle.sweep.specs.Resolves.{Holds, Readable, Right, Resolves}
use Rattle.rules.specs.declared.Refusal.{Refusal}
use Rattle.sweep.proofs.Laws.Expressions.{emit, name-place}
use Rattle.sweep.proofs.Laws.Callees.{Knows, Heads}
use Rattle.sweep.proofs.Laws.Blocks.{blocks-swept}
use Rattle.sweep.proofs.Laws.Headings.{title_w, head_w, starts, tape-headings, tape-titles, tape-firsts}
use Rattle.sweep.proofs.Laws.Known.{zeros, zeros-length, put-list, heads-short, starts-below, F-list, N-list, known}

-- ---- main

lead-first : (k : ℕ) → 0 < k → (ws : List ℕ) (i : ℕ) → eqb (leading k (drop i ws)) 0 ≡ not (eqb (kind_of (get_or ws i 0)) k)
unfolding leading pick
lead-first k h [] zero = rw (ne_eqb 0 k (λ z. omega arith))
lead-first k h [] (suc i) = rw (ne_eqb 0 k (λ z. omega arith))
lead-first k h (w ∷ ws) zero = go (eqb (kind_of w) k)
  where
    go : (b : Bool) → eqb (pick b (suc (leading k ws)) 0) 0 ≡ not b
    go true = ne_eqb (suc (leading k ws)) 0 (λ z. omega arith)
    go false = refl
lead-first k h (w ∷ ws) (suc i) = lead-first k h ws i

ok-no : {A : Type 0} {n p : ℕ} {a : A} → ok a ≡ refuse n p → ⊥
ok-no e = let z : ◌≡◌ {A = ℕ} 0 1 = cc in omega arith

ok_same : {A : Type 0} {a b : A} → ok a ≡ ok b → a ≡ b
ok_same e = cc

refuse-inj : {A : Type 0} {n m p q : ℕ} → ◌≡◌ {A = Out A} (refuse n p) (refuse m q) → m ≡ n
refuse-inj e = cc

refused : {A B : Type 0} {n : ℕ} {m : ℕ} {p : ℕ} {q : ℕ} → ◌≡◌ {A = Out A} (refuse n p) (refuse m q) → ◌≡◌ {A = Out B} (refuse n p) (refuse m q)
refused {n = n} {m = m} {p = p} {q = q} e = let a : n ≡ m = cc in let b : p ≡ q = cc in rw (a, b) refl

counted-generics : (H : List ℕ) (p : ℕ) (B : Block Name Name) → Heads H p B → leading GENERIC (drop (p + 1) H) ≡ length B.generics
unfolding heading_at
counted-generics H p B h = ap (λ x. x.generics) h.counts

spelt-there : {s : List ℕ} (Bs : Spelled) (b : ℕ) {B : Block Name Name} → All (SpeltBlock s) Bs → nth 9 Bs b ≡ ok B → SpeltBlock s B
unfolding nth All
spelt-there [] b q e = absurd (ok-no (sym e))
spelt-there {s} (C ∷ Bs) zero q e = subst (λ B. SpeltBlock s B) (ok_same e) q.0
spelt-there (C ∷ Bs) (suc b) q e = spelt-there Bs b q.1 e

nth-else : {A : Type 0} (n : ℕ) (xs : List A) (b : ℕ) {m p : ℕ} → nth n xs b ≡ refuse m p → (ltb b (length xs) ≡ false) × (m ≡ n)
unfolding nth
nth-else n [] b e = (le-ltb b 0 (omega arith), refuse-inj e)
nth-else n (x ∷ xs) zero e = absurd (ok-no e)
nth-else n (x ∷ xs) (suc b) e = rw (leb-suc-suc (suc b) (length xs)) (nth-else n xs b e)

nth-there : {A : Type 0} (n : ℕ) (xs : List A) (b : ℕ) {x : A} (f : A → ℕ) → nth n xs b ≡ ok x → (ltb b (length xs) ≡ true) × (get_or (map f xs) b 0 ≡ f x)
unfolding nth
nth-there n [] b f e = absurd (ok-no (sym e))
nth-there n (x ∷ xs) zero f e = (lt-ltb 0 (suc (length xs)) (omega arith), ap f (ok_same e))
nth-there n (x ∷ xs) (suc b) f e = rw (leb-suc-suc (suc b) (length xs)) (nth-there n xs b f e)

module _ (s H F N : List ℕ) (Bs : Spelled) (few : length s ≤ 16384) (q : All (SpeltBlock s) Bs) (knows : Knows s H F N Bs) (N-is : N ≡ map title_w Bs) where
  pub main-as : main_in s H F N ≡ main_of (length s) Bs
  unfolding main_in main_of ◌>>=◌ at need
  main-as = rw (knows.names, length-map Bs (λ B. B.name.letters)) (go (nth 9 Bs (index_of (bytes "main") (map (λ B. B.name.letters) Bs))) refl)
    where
      go : (o : Out (Block Name Name)) → nth 9 Bs (index_of (bytes "main") (map (λ B. B.name.letters) Bs)) ≡ o
          → (need_at (length s) (ltb (index_of (bytes "main") (map (λ B. B.name.letters) Bs)) (length Bs)) 9 >>= λ _. need_at (place_of (get_or N (index_of (bytes "main") (map (λ B. B.name.letters) Bs)) 0)) (not (eqb (kind_of (get_or H (get_or F (index_of (bytes "main") (map (λ B. B.name.letters) Bs)) 0 + 1) 0)) GENERIC)) 9 >>= λ _. ok (index_of (bytes "main") (map (λ B. B.name.letters) Bs)))
          ≡ (at (length s) (nth 9 Bs (index_of (bytes "main") (map (λ B. B.name.letters) Bs))) >>= λ M. need_at M.name.place (eqb (length M.generics) 0) 9 >>= λ _. ok (index_of (bytes "main") (map (λ B. B.name.letters) Bs)))
      go (ok M) e =
          let i = index_of (bytes "main") (map (λ B. B.name.letters) Bs) in
          let t = nth-there 9 Bs i title_w e in
          let sp = spelt-there Bs i q e in
          let pl : place_of (get_or N i 0) ≡ M.name.place = ap place_of (ap (λ l. get_or l i 0) N-is ∙ t.1) ∙ name-place s few BLOCK 0 (omega arith) M.name sp.names.name in
          let h = knows.heads i (nth-any 9 7 Bs i e) in
          let g : not (eqb (kind_of (get_or H (get_or F i 0 + 1) 0)) GENERIC) ≡ eqb (length M.generics) 0 = sym (lead-first GENERIC (omega arith) H (get_or F i 0 + 1)) ∙ ap (λ n. eqb n 0) (counted-generics H (get_or F i 0) M h) in
          rw (t.0, pl, g, e)
      go (refuse n p) e = let t = nth-else 9 Bs (index_of (bytes "main") (map (λ B. B.name.letters) Bs)) e in rw (t.0, e, t.1)

abbrev whole : List (Block ℕ Callee) → ℕ → Program
whole bs m = record { blocks = bs; main = m }

-- ---- the tape of a program

lies-take : (t ws : List ℕ) → Lies t 0 ws → take (length ws) t ≡ ws
lies-take t ws l =
    let n : length (take (length ws) t) ≡ length ws = simp length-take (omega (arith, l.fits)) in
    ext_get_or 0 (take (length ws) t) ws n (λ i h. let k : i < length ws = omega arith in let e : 0 + i ≡ i = omega arith in get_or-take (length ws) t i 0 k ∙ subst (λ j. get_or t j 0 ≡ get_or ws i 0) e (l.word i k))

zeros-below : (xs : List ℕ) (m K : ℕ) → ((b : ℕ) → get_or xs b 0 ≤ K) → (b : ℕ) → get_or (xs ++ zeros m) b 0 ≤ K
zeros-below [] zero K f b = f b
zeros-below [] (suc m) K f zero = omega arith
zeros-below [] (suc m) K f (suc b) = zeros-below [] m K f b
zeros-below (x ∷ xs) m K f zero = f 0
zeros-below (x ∷ xs) m K f (suc b) = zeros-below xs m K (λ b. f (suc b)) b

put-length : (ws t : List ℕ) (to : ℕ) → length (put t to ws) ≡ length t
unfolding put
put-length [] t to = refl
put-length (w ∷ ws) t to = put-length ws (set t to w) (to + 1) ∙ length-set t to w

no-loops : (hi : ℕ) (p k : ℕ) → 0 ≤ p → p < hi → ltb p (get_or (zeros 48) k 0) ≡ among k []
unfolding among
no-loops hi p k a b = let z : get_or (zeros 48) k 0 ≤ 0 = zeros-below [] 48 0 (λ b. omega arith) k in le-ltb p (get_or (zeros 48) k 0) (omega arith)

module _ (s t : List ℕ) (end : ℕ) (Bs : Spelled) (holds : Holds s t end Bs) where
  taken : take end t ≡ tape_of Bs
  taken = rw holds.size (lies-take t (tape_of Bs) holds.lies)

  fits : length (list_w (block_w name_w callee_w) Bs) ≤ 16384
  fits = omega (arith, holds.size, holds.short)

  abbrev H : List ℕ
  H = put (zeros 3140) 4 (headings (take end t))

  abbrev F : List ℕ
  F = put (zeros 64) 0 (firsts 4 (take end t))

  abbrev N : List ℕ
  N = take (length (titles (take end t))) (put (zeros 64) 0 (titles (take end t)))

  H-is : H ≡ put (zeros 3140) 4 (list_w head_w Bs)
  H-is = ap (λ ws. put (zeros 3140) 4 (headings ws)) taken ∙ ap (put (zeros 3140) 4) (tape-headings s holds.few Bs holds.spelt fits)

  F-is : F ≡ put (zeros 64) 0 (starts 4 Bs)
  F-is = ap (λ ws. put (zeros 64) 0 (firsts 4 ws)) taken ∙ ap (put (zeros 64) 0) (tape-firsts s holds.few Bs holds.spelt fits)

  titles-are : titles (take end t) ≡ map title_w Bs
  titles-are = ap titles taken ∙ tape-titles s holds.few Bs holds.spelt fits

  N-is : N ≡ take (length Bs) (put (zeros 64) 0 (map title_w Bs))
  N-is = rw (titles-are, length-map Bs title_w) refl

  knows : Knows s H F N Bs
  knows = rw (H-is, F-is, N-is) (known s holds.few Bs holds.spelt holds.many)

  N-titles : N ≡ map title_w Bs
  N-titles = N-is ∙ N-list s holds.few Bs holds.spelt holds.many

  pub rows_right : Rows H F
  rows_right = record {
    few = omega (arith, put-length (headings (take end t)) (zeros 3140) 4, zeros-length 3140);
    there = λ b. subst (λ f. get_or f b 0 ≤ 3140) (sym (F-is ∙ F-list s holds.few Bs holds.spelt holds.many)) (zeros-below (starts 4 Bs) (64 - (0 + length (starts 4 Bs))) 3140 (λ b. omega (arith, starts-below s holds.few 4 b Bs, heads-short s holds.few Bs holds.spelt, holds.many)) b);
  }

  swept_as : sweep s H F N 0 (start (zeros 48) (zeros 48)) (take end t) ≡ emit (list_w (block_w slot_w meant_w)) (resolve_blocks Bs [] Bs) (ok [])
  swept_as = ap (sweep s H F N 0 (start (zeros 48) (zeros 48))) taken
      ∙ blocks-swept s H F N holds.few Bs knows 16384 (omega arith) Bs [] (start (zeros 48) (zeros 48)) 0 refl holds.many holds.spelt refl (zeros-length 48) (zeros-length 48) (no-loops 16384) (omega (arith, fits))

  pub swept-no : {n p : ℕ} → sweep s H F N 0 (start (zeros 48) (zeros 48)) (take end t) ≡ refuse n p → names (length s) Bs ≡ refuse n p
  unfolding names ◌>>=◌ emit after
  swept-no {n} {p} e = go (resolve_blocks Bs [] Bs) (sym swept_as ∙ e)
    where
      go : (o : Out (List (Block ℕ Callee))) → emit (list_w (block_w slot_w meant_w)) o (ok []) ≡ refuse n p → (o >>= λ blocks. main_of (length s) Bs >>= λ m. ok (whole blocks m)) ≡ refuse n p
      go (ok bs) e = absurd (ok-no e)
      go (refuse m q) e = refused e

  module _ (u : List ℕ) (e : sweep s H F N 0 (start (zeros 48) (zeros 48)) (take end t) ≡ ok (take end u)) (d : drop end u ≡ drop end t) (l : length u ≡ length t) where
    laid : (bs : List (Block ℕ Callee)) → take end u ≡ list_w (block_w slot_w meant_w) bs → u ≡ put t 0 (list_w (block_w slot_w meant_w) bs)
    laid bs x =
        let k : length (list_w (block_w slot_w meant_w) bs) ≡ end = sym (ap length x) ∙ simp length-take (omega (arith, holds.size, holds.lies.fits)) in
        let z : 0 + length (list_w (block_w slot_w meant_w) bs) ≡ end = omega arith in
        sym (take-append-drop end u) ∙ ap (λ l. l ++ drop end u) x ∙ ap (λ l. list_w (block_w slot_w meant_w) bs ++ l) d
        ∙ sym (put-list (list_w (block_w slot_w meant_w) bs) t 0 (omega (arith, holds.size, holds.lies.fits)) ∙ ap (λ n. list_w (block_w slot_w meant_w) bs ++ drop n t) z)

    pub main-no : {n p : ℕ} → main_in s H F N ≡ refuse n p → names (length s) Bs ≡ refuse n p
    unfolding names ◌>>=◌ emit after
    main-no {n} {p} f = go (resolve_blocks Bs [] Bs) (sym swept_as ∙ e)
      where
        go : (o : Out (List (Block ℕ Callee))) → emit (list_w (block_w slot_w meant_w)) o (ok []) ≡ ok (take end u) → (o >>= λ blocks. main_of (length s) Bs >>= λ m. ok (whole blocks m)) ≡ refuse n p
        go (ok bs) g = rw (sym (main-as s H F N Bs holds.few holds.spelt knows N-titles) ∙ f) refl
        go (refuse m q) g = absurd (ok-no (sym g))

    pub all_right : {m : ℕ} → main_in s H F N ≡ ok m → Right s Bs t u m
    unfolding names ◌>>=◌ emit after
    all_right {m} f = go (resolve_blocks Bs [] Bs) refl (sym swept_as ∙ e)
      where
        go : (o : Out (List (Block ℕ Callee))) → resolve_blocks Bs [] Bs ≡ o → emit (list_w (block_w slot_w meant_w)) o (ok []) ≡ ok (take end u) → Right s Bs t u m
        go (ok bs) x g = record {
          program = record { blocks = bs; main = m };
          named = rw (x, sym (main-as s H F N Bs holds.few holds.spelt knows N-titles) ∙ f) refl;
          main = refl;
          tape = laid bs (sym (ok_same g) ∙ append-nil (list_w (block_w slot_w meant_w) bs));
        }
        go (refuse n p) x g = absurd (ok-no (sym g))

-- ---- with rows that were gathered

module _ (s t : List ℕ) (end : ℕ) {h f n : List ℕ} {k : ℕ} (a : h ≡ put (zeros 3140) 4 (headings (take end t))) (b : f ≡ put (zeros 64) 0 (firsts 4 (take end t))) (c : n ≡ put (zeros 64) 0 (titles (take end t))) (d : k ≡ length (titles (take end t))) where
  c' : take k n ≡ take (length (titles (take end t))) (put (zeros 64) 0 (titles (take end t)))
  c' = rw (d, c) refl

  module _ (r : Readable s t end) where
    pub gathered-rows : Rows h f
    gathered-rows = rw (a, b) (rows_right s t end r.program r.holds)

    titles-64 : length n ≡ 64
    titles-64 = ap length c ∙ put-length (titles (take end t)) (zeros 64) 0 ∙ zeros-length 64

    pub titles-fit : k ≤ length n
    titles-fit = omega (arith, titles-64, d, ap length (titles-are s t end r.program r.holds), length-map r.program title_w, r.holds.many)

    pub titles-taken : k ≡ length (take k n)
    titles-taken = omega (arith, titles-fit, length-take k n)

    pub titles-few : length (take k n) ≤ 64
    titles-few = omega (arith, titles-64, length-take k n)

  swept-so : sweep s h f (take k n) 0 (start (zeros 48) (zeros 48)) (take end t) ≡ sweep s (put (zeros 3140) 4 (headings (take end t))) (put (zeros 64) 0 (firsts 4 (take end t))) (take (length (titles (take end t))) (put (zeros 64) 0 (titles (take end t)))) 0 (start (zeros 48) (zeros 48)) (take end t)
  swept-so = rw (a, b, c') refl

  main-so : main_in s h f (take k n) ≡ main_in s (put (zeros 3140) 4 (headings (take end t))) (put (zeros 64) 0 (firsts 4 (take end t))) (take (length (titles (take end t))) (put (zeros 64) 0 (titles (take end t))))
  main-so = rw (a, b, c') refl

  -- the words were swept to v, and what stood after them stays: the tape u
  module _ (v : List ℕ) (r : Result (Unit {0}) Refusal) (w : Swept (sweep s h f (take k n) 0 (start (zeros 48) (zeros 48)) (take end t)) v r) where
    pub names-wrong : {x : Refusal} → r ≡ Err x → (u : List ℕ) (Bs : Spelled) → Holds s t end Bs → Resolves s Bs t u (Err x)
    names-wrong e u Bs holds = swept-no s t end Bs holds (sym swept-so ∙ subst (Swept (sweep s h f (take k n) 0 (start (zeros 48) (zeros 48)) (take end t)) v) e w)

    pub names-right : r ≡ Ok tt → length v ≡ end → (u : List ℕ) → u ≡ v ++ drop end t → (m : Result ℕ Refusal) → Answers (main_in s h f (take k n)) m → (Bs : Spelled) → Holds s t end Bs → Resolves s Bs t u m
    names-right e l u is m g Bs holds = go m g
      where
        front : take end u ≡ v
        front = ap (take end) is ∙ subst (λ n. take n (v ++ drop end t) ≡ v) l (take-append_seam v (drop end t))

        back : drop end u ≡ drop end t
        back = ap (drop end) is ∙ subst (λ n. drop n (v ++ drop end t) ≡ drop end t) l (drop-append_seam v (drop end t))

        whole : length u ≡ length t
        whole = omega (arith, ap length is, length-append v (drop end t), length-drop end t, holds.size, holds.lies.fits)

        y : sweep s h f (take k n) 0 (start (zeros 48) (zeros 48)) (take end t) ≡ ok (take end u)
        y = subst (Swept (sweep s h f (take k n) 0 (start (zeros 48) (zeros 48)) (take end t)) v) e w ∙ ap ok (sym front)

        go : (m : Result ℕ Refusal) → Answers (main_in s h f (take k n)) m → Resolves s Bs t u m
        go (Ok m) g = all_right s t end Bs holds u (sym swept-so ∙ y) back whole (sym main-so ∙ g)
        go (Err x) g = main-no s t end Bs holds u (sym swept-so ∙ y) back whole (sym main-so ∙ g)

pub tape-there : (s t : List ℕ) (end : ℕ) → Readable s t end → end ≤ length t
tape-there s t end r = omega (arith, r.holds.size, r.holds.lies.fits)
