-- The rows that are gathered from a program's tape say what its blocks want. Assumes nothing.
use Rattle.std.specs.Prelude.{◌≡◌, eqb, set, take, replicate}
use Rattle.std.proofs.Math.Path.{refl, sym, ap, subst}
use Rattle.std.proofs.Common.{◌∙◌, add-one, get_or-drop, drop-drop, drop_at, take_at}
use mathlib.Core.List.{List, [], ◌∷◌, ◌++◌, map, append_assoc, append-nil}
use Prim.Native.Nat.{ℕ, zero, suc, ◌+◌, ◌*◌, ◌-◌, ◌<◌, ◌≤◌}
use native.Mathlib.Omega.{arith}
use Rattle.std.proofs.Math.ListN.{length, get_or, drop, length-append, get_or-append}
use Rattle.std.proofs.lemmas.List.{length-map, length-replicate}
use Rattle.std.proofs.lemmas.List.Edits.{sets, sets-eq}
use borrow.Author.Tests.{eq-eqb, ne_eqb}
use Rattle.rules.specs.Text.{pick}
use Rattle.rules.specs.Outcome.{ok, nth}
use Rattle.rules.specs.Syntax.{Name, Sort, wire, vector, num, Decl, Block, Spelled}
use Rattle.rules.specs.Names.{Role, a-wire, is_wire, role_of}
use Rattle.rules.proofs.Laws.Outcomes.{no_ok, ok-inj}
use Rattle.rules.proofs.Laws.Scoped.{nth-below}
use Rattle.rules.proofs.Laws.Spelt.{SpeltName, SpeltBlock, All}
use Rattle.tape.specs.Layout.{BLOCK, GENERIC, IN, OUT, name_w, kind-of, head-of}
use Rattle.tape.specs.Encoding.{list_w}
use Rattle.tape.specs.Written.{put}
use Rattle.sweep.specs.Spelling.{letters_of}
use Rattle.sweep.specs.Sweep.{leading, heading_at}
use Rattle.sweep.proofs.Laws.Expressions.{name-fits, name-letters}
use Rattle.sweep.proofs.Laws.Arguments.{Wanted}
use Rattle.sweep.proofs.Laws.Callees.{Knows, Heads, roles}
use Rattle.sweep.proofs.Laws.Declarations.{head_of_sort, head-of-sort}
use Rattle.sweep.proofs.Laws.Headings.{port_w, gen_w, title_w, head_w, starts, SpeltD, title-kind}

-- ---- stores

put-sets : (ws t : List ℕ) (to : ℕ) → put t to ws ≡ sets t to ws
unfolding put
put-sets [] t to = refl
put-sets (w ∷ ws) t to = rw (add-one to) (put-sets ws (set t to w) (suc to))

pub put-list : (ws t : List ℕ) (to : ℕ) → to + length ws ≤ length t → put t to ws ≡ take to t ++ (ws ++ drop (to + length ws) t)
put-list ws t to h = put-sets ws t to ∙ sets-eq ws t to h ∙ append_assoc (take to t) ws (drop (to + length ws) t)

abbrev pub zeros : ℕ → List ℕ
zeros n = replicate n 0

pub zeros-length : (n : ℕ) → length (zeros n) ≡ n
zeros-length n = length-replicate n 0

drop-zeros : (n k : ℕ) → drop k (zeros n) ≡ zeros (n - k)
drop-zeros zero zero = refl
drop-zeros zero (suc k) = let e : 0 - suc k ≡ 0 = omega arith in rw e
drop-zeros (suc n) zero = let e : suc n - 0 ≡ suc n = omega arith in rw e
drop-zeros (suc n) (suc k) = let e : suc n - suc k ≡ n - k = omega arith in rw e (drop-zeros n k)

zeros-stop : (k n : ℕ) → 0 < k → leading k (zeros n) ≡ 0
unfolding leading pick
zeros-stop k zero h = refl
zeros-stop k (suc n) h = rw (ne_eqb 0 k (λ z. omega arith))

-- ---- words that stand first

module _ (s : List ℕ) (few : length s ≤ 16384) where
  gens-lead : (ns : List Name) (r : List ℕ) → All (SpeltName s) ns → leading GENERIC r ≡ 0 → leading GENERIC (map gen_w ns ++ r) ≡ length ns
  unfolding leading pick All
  gens-lead [] r q e = e
  gens-lead (n ∷ ns) r q e = let small : 0 < 8 = omega arith in rw (kind-of GENERIC 0 (name_w n) small (name-fits s few GENERIC 0 small n q.0)) (ap suc (gens-lead ns r q.1 e))

  ports-lead : (K : ℕ) (ds : List (Decl Name)) (r : List ℕ) → All (SpeltD s few) ds → leading K r ≡ 0 → leading K (map (port_w K) ds ++ r) ≡ length ds
  unfolding leading pick All
  ports-lead K [] r q e = e
  ports-lead K (d ∷ ds) r q e =
      let small = head-of-sort d.sort in
      rw (kind-of K (head_of_sort d.sort) (name_w d.name) small (name-fits s few K (head_of_sort d.sort) small d.name q.0.name), eq-eqb K K refl) (ap suc (ports-lead K ds r q.1 e))

  ports-stop : (k K : ℕ) (ds : List (Decl Name)) (r : List ℕ) → (K ≡ k → ⊥) → All (SpeltD s few) ds → leading k r ≡ 0 → leading k (map (port_w K) ds ++ r) ≡ 0
  unfolding leading pick All
  ports-stop k K [] r n q e = e
  ports-stop k K (d ∷ ds) r n q e =
      let small = head-of-sort d.sort in
      rw (kind-of K (head_of_sort d.sort) (name_w d.name) small (name-fits s few K (head_of_sort d.sort) small d.name q.0.name), ne_eqb K k n)

  heads-stop : (k m : ℕ) (rest : Spelled) → 9 < k → All (SpeltBlock s) rest → leading k (list_w head_w rest ++ zeros m) ≡ 0
  unfolding list_w leading pick All
  heads-stop k m [] h q = zeros-stop k m (omega arith)
  heads-stop k m (B ∷ rest) h q = rw (title-kind s few B q.0, ne_eqb 9 k (λ z. omega arith))

  -- ---- what the ports want

  wire-head : (t : Sort Name) → eqb (head_of_sort t) 0 ≡ is_wire (role_of t)
  unfolding head_of_sort is_wire role_of
  wire-head wire = refl
  wire-head (vector a b) = refl
  wire-head num = refl

  ports-wanted : (H : List ℕ) (K : ℕ) (ds : List (Decl Name)) (us : List Role) (v : ℕ) (r : List ℕ) → All (SpeltD s few) ds → drop v H ≡ map (port_w K) ds ++ r → v + length ds ≤ 3141
      → (drop (v + length ds) H ≡ r → Wanted H (v + length ds) us) → Wanted H v (roles ds ++ us)
  unfolding Wanted All
  ports-wanted H K [] us v r q e b f = let z : v + 0 ≡ v = omega arith in rw z at (f (rw z e))
  ports-wanted H K (d ∷ ds) us v r q e b f =
      let small = head-of-sort d.sort in
      let z : v + 0 ≡ v = omega arith in
      let y : v + 1 + length ds ≡ v + suc (length ds) = omega arith in
      let first : get_or H v 0 ≡ port_w K d = subst (λ i. get_or H i 0 ≡ port_w K d) z (sym (get_or-drop v H 0 0) ∙ ap (λ l. get_or l 0 0) e) in
      let next : drop (v + 1) H ≡ map (port_w K) ds ++ r = sym (drop-drop 1 v H) ∙ ap (drop 1) e in (
        rw (first, head-of K (head_of_sort d.sort) (name_w d.name) small (name-fits s few K (head_of_sort d.sort) small d.name q.0.name)) (wire-head d.sort),
        omega arith,
        ports-wanted H K ds us (v + 1) r q.1 next (omega arith) (λ g. rw y (f (rw y at g))),
      )

  none : (H : List ℕ) (v : ℕ) → Wanted H v []
  unfolding Wanted
  none H v = tt

  -- ---- the heading of one block

  module _ (B : Block Name Name) (q : SpeltBlock s B) (R pre H : List ℕ) (e : H ≡ pre ++ (head_w B ++ R)) (stop : (k : ℕ) → 9 < k → leading k R ≡ 0) (fits : length pre + length (head_w B) ≤ 3140) where
    abbrev G : List ℕ
    G = map gen_w B.generics

    abbrev I : List ℕ
    I = map (port_w IN) B.inputs

    abbrev O : List ℕ
    O = map (port_w OUT) B.outputs

    abbrev p : ℕ
    p = length pre

    sizes : length (head_w B) ≡ 1 + (length B.generics + (length B.inputs + length B.outputs))
    sizes = omega (arith, length-append G (I ++ O), length-append I O, length-map B.generics gen_w, length-map B.inputs (port_w IN), length-map B.outputs (port_w OUT))

    from-generics : drop (length pre + 1) H ≡ G ++ (I ++ (O ++ R))
    from-generics = sym (drop-drop 1 (length pre) H) ∙ ap (drop 1) (ap (drop (length pre)) e ∙ drop_at pre (head_w B ++ R) (length pre) refl) ∙ (append_assoc G (I ++ O) R ∙ ap (λ l. G ++ l) (append_assoc I O R))

    from-inputs : drop (length pre + 1 + length B.generics) H ≡ I ++ (O ++ R)
    from-inputs = sym (drop-drop (length B.generics) (length pre + 1) H) ∙ ap (drop (length B.generics)) from-generics ∙ drop_at G (I ++ (O ++ R)) (length B.generics) (length-map B.generics gen_w)

    from-outputs : drop (length pre + 1 + length B.generics + length B.inputs) H ≡ O ++ R
    from-outputs = sym (drop-drop (length B.inputs) (length pre + 1 + length B.generics) H) ∙ ap (drop (length B.inputs)) from-inputs ∙ drop_at I (O ++ R) (length B.inputs) (length-map B.inputs (port_w IN))

    lead₁ : leading GENERIC (drop (length pre + 1) H) ≡ length B.generics
    lead₁ = ap (leading GENERIC) from-generics ∙ gens-lead B.generics (I ++ (O ++ R)) q.names.generics (ports-stop GENERIC IN B.inputs (O ++ R) (λ z. omega arith) q.names.inputs (ports-stop GENERIC OUT B.outputs R (λ z. omega arith) q.names.outputs (stop GENERIC (omega arith))))

    lead₂ : leading IN (drop (length pre + 1 + length B.generics) H) ≡ length B.inputs
    lead₂ = ap (leading IN) from-inputs ∙ ports-lead IN B.inputs (O ++ R) q.names.inputs (ports-stop IN OUT B.outputs R (λ z. omega arith) q.names.outputs (stop IN (omega arith)))

    lead₃ : leading OUT (drop (length pre + 1 + length B.generics + length B.inputs) H) ≡ length B.outputs
    lead₃ = ap (leading OUT) from-outputs ∙ ports-lead OUT B.outputs R q.names.outputs (stop OUT (omega arith))

    pub block-heads : Heads H (length pre) B
    unfolding heading_at
    block-heads = record {
      want = length pre + 1 + length B.generics;
      counts = rw (lead₁, lead₂, lead₃) refl;
      ports = ports-wanted H IN B.inputs (roles B.outputs) (length pre + 1 + length B.generics) (O ++ R) q.names.inputs from-inputs (omega (arith, sizes))
          (λ g. subst (λ us. Wanted H (length pre + 1 + length B.generics + length B.inputs) us) (append-nil (roles B.outputs))
          (ports-wanted H OUT B.outputs [] (length pre + 1 + length B.generics + length B.inputs) R q.names.outputs from-outputs (omega (arith, sizes)) (λ _. none H _)));
    }

  -- ---- the headings of all blocks

  all-heads : (H : List ℕ) (m : ℕ) (rest : Spelled) (pre : List ℕ) (b : ℕ) {B : Block Name Name} → H ≡ pre ++ (list_w head_w rest ++ zeros m) → All (SpeltBlock s) rest → length pre + length (list_w head_w rest) ≤ 3140 → nth 7 rest b ≡ ok B
      → Heads H (get_or (starts (length pre) rest) b 0) B
  unfolding list_w starts All nth
  all-heads H m [] pre b e q l g = absurd (no_ok g)
  all-heads H m (B ∷ rest) pre zero e q l g =
      let n = length-append (head_w B) (list_w head_w rest) in
      subst (λ B. Heads H (length pre) B) (ok-inj g) (block-heads B q.0 (list_w head_w rest ++ zeros m) pre H (e ∙ ap (λ l. pre ++ l) (append_assoc (head_w B) (list_w head_w rest) (zeros m))) (λ k h. heads-stop k m rest h q.1) (omega arith))
  all-heads H m (B ∷ rest) pre (suc b) {B = B'} e q l g =
      let n = length-append (head_w B) (list_w head_w rest) in
      let k = length-append pre (head_w B) in
      subst (λ i. Heads H (get_or (starts i rest) b 0) B') k
      (all-heads H m rest (pre ++ head_w B) b (e ∙ ap (λ l. pre ++ l) (append_assoc (head_w B) (list_w head_w rest) (zeros m)) ∙ sym (append_assoc pre (head_w B) (list_w head_w rest ++ zeros m))) q.1 (omega arith) g)

  head-short : (B : Block Name Name) → SpeltBlock s B → length (head_w B) ≤ 49
  head-short B q = omega (arith, q.few, length-append (map gen_w B.generics) (map (port_w IN) B.inputs ++ map (port_w OUT) B.outputs), length-append (map (port_w IN) B.inputs) (map (port_w OUT) B.outputs), length-map B.generics gen_w, length-map B.inputs (port_w IN), length-map B.outputs (port_w OUT))

  pub heads-short : (Bs : Spelled) → All (SpeltBlock s) Bs → length (list_w head_w Bs) ≤ 49 * length Bs
  unfolding list_w All
  heads-short [] q = omega arith
  heads-short (B ∷ Bs) q = omega (arith, head-short B q.0, heads-short Bs q.1, length-append (head_w B) (list_w head_w Bs))

  pub starts-length : (n : ℕ) (Bs : Spelled) → length (starts n Bs) ≡ length Bs
  unfolding starts
  starts-length n [] = refl
  starts-length n (B ∷ Bs) = ap suc (starts-length (n + length (head_w B)) Bs)

  pub starts-below : (n b : ℕ) (Bs : Spelled) → get_or (starts n Bs) b 0 ≤ n + length (list_w head_w Bs)
  unfolding starts list_w
  starts-below n b [] = omega arith
  starts-below n zero (B ∷ Bs) = omega arith
  starts-below n (suc b) (B ∷ Bs) = omega (arith, starts-below (n + length (head_w B)) b Bs, length-append (head_w B) (list_w head_w Bs))

  -- ---- the rows

  module _ (Bs : Spelled) (q : All (SpeltBlock s) Bs) (many : length Bs ≤ 64) where
    abbrev pub H : List ℕ
    H = put (zeros 3140) 4 (list_w head_w Bs)

    abbrev pub F : List ℕ
    F = put (zeros 64) 0 (starts 4 Bs)

    abbrev pub N : List ℕ
    N = take (length Bs) (put (zeros 64) 0 (map title_w Bs))

    pub H-list : put (zeros 3140) 4 (list_w head_w Bs) ≡ zeros 4 ++ (list_w head_w Bs ++ zeros (3140 - (4 + length (list_w head_w Bs))))
    H-list =
        let l : 4 + length (list_w head_w Bs) ≤ length (zeros 3140) = omega (arith, heads-short Bs q, zeros-length 3140) in
        put-list (list_w head_w Bs) (zeros 3140) 4 l ∙ ap (λ z. zeros 4 ++ (list_w head_w Bs ++ z)) (drop-zeros 3140 (4 + length (list_w head_w Bs)))

    pub F-list : put (zeros 64) 0 (starts 4 Bs) ≡ starts 4 Bs ++ zeros (64 - (0 + length (starts 4 Bs)))
    F-list =
        let l : 0 + length (starts 4 Bs) ≤ length (zeros 64) = omega (arith, starts-length 4 Bs, zeros-length 64) in
        put-list (starts 4 Bs) (zeros 64) 0 l ∙ ap (λ z. starts 4 Bs ++ z) (drop-zeros 64 (0 + length (starts 4 Bs)))

    pub N-list : N ≡ map title_w Bs
    N-list =
        let l : 0 + length (map title_w Bs) ≤ length (zeros 64) = omega (arith, length-map Bs title_w, zeros-length 64) in
        ap (take (length Bs)) (put-list (map title_w Bs) (zeros 64) 0 l) ∙ take_at (map title_w Bs) _ (length Bs) (length-map Bs title_w)

    titles-spelt : (Cs : Spelled) → All (SpeltBlock s) Cs → map (letters_of s) (map title_w Cs) ≡ map (λ B. B.name.letters) Cs
    unfolding All
    titles-spelt [] q = refl
    titles-spelt (B ∷ Cs) q = rw (name-letters s few BLOCK 0 (omega arith) B.name q.0.names.name) (ap (λ l. B.name.letters ∷ l) (titles-spelt Cs q.1))

    four-zeros : Wanted (zeros 4 ++ (list_w head_w Bs ++ zeros (3140 - (4 + length (list_w head_w Bs))))) 0 (a-wire ∷ a-wire ∷ a-wire ∷ a-wire ∷ [])
    unfolding Wanted is_wire
    four-zeros = (refl, omega arith, (refl, omega arith, (refl, omega arith, (refl, omega arith, tt))))

    pub known : Knows s H F N Bs
    known = record {
      names = ap (map (letters_of s)) N-list ∙ titles-spelt Bs q;
      heads = λ b {B} e.
          let l : b < length (starts 4 Bs) = omega (arith, nth-below 7 Bs b e, starts-length 4 Bs) in
          subst (λ i. Heads H i B) (sym (ap (λ f. get_or f b 0) F-list ∙ get_or-append (starts 4 Bs) _ 0 b l))
          (all-heads H (3140 - (4 + length (list_w head_w Bs))) Bs (zeros 4) b H-list q (omega (arith, heads-short Bs q)) e);
      gates = rw H-list four-zeros;
    }
