-- What unfolding gives is well formed: its limits, its drivers and its ends. Assumes nothing.
use Rattle.std.specs.Prelude.{◌≡◌, refl, ℕ, zero, suc, ◌+◌, ◌-◌, ◌≤◌, ◌<◌, false, not, length, get_or, take, T, ltb, eqb, ℤ}
use Rattle.std.proofs.Common.{sym, ap, ◌∙◌, subst, arith, length-append, leb→le, nltb→le, eqb→eq, T_not}
use mathlib.Core.List.{List, [], ◌∷◌, ◌++◌, map}
use Rattle.std.proofs.lemmas.List.{length-map}
use Rattle.std.proofs.Math.Dec.{ltb→lt, eqb_refl, not_T}
use Rattle.std.proofs.Math.IntN.{suc_ℤ}
use Rattle.rules.specs.declared.Gate.{Gate}
use Rattle.rules.specs.Outcome.{Out, ok, nth}
use Rattle.rules.specs.Primitives.{inputs_of}
use Rattle.rules.specs.Syntax.{Name, Arg, whole, part, Stmts, end, call, loop, Decl, Callee, gate, block, Program}
use Rattle.rules.specs.Values.{Env, generics, bound}
use Rattle.rules.specs.Frames.{Sig, Frame, blanks, resolve, resolves, tie, singles}
use Rattle.rules.specs.Netlist.{Slot, Fine, WellFormed, gate_at, net_words, gate_words}
use Rattle.rules.specs.Unfold.{Range, Wires, State, tick, declare, gate_on, driven, emit, Act, add_gate, act, turns, unfolds, enter, deep, Unfolded, unfold_main}
use Rattle.rules.proofs.Laws.Outcomes.{no_ok, ok-inj, inv, inv_at, at_ok, need-yes, both_yes, neither, nor}
use Rattle.rules.proofs.Laws.Nets.{gate-of, words-length}
use Rattle.rules.proofs.Laws.Same.{Ends, ends-yes, start}

-- ---- names stand for wires below n

abbrev Inside : ℕ → Range → Type 0
Inside n r = r.base + r.len ≤ n

unfoldable Insides : ℕ → List Range → Type 0
Insides n [] = Unit {0}
Insides n (r ∷ rs) = Inside n r × Insides n rs

unfoldable Under : ℕ → Frame Range → Type 0
Under n [] = Unit {0}
Under n (x ∷ σ) = Inside n x.cells × Under n σ

under-above : {n m : ℕ} (σ : Frame Range) → n ≤ m → Under n σ → Under m σ
unfolding Under
under-above [] h u = tt
under-above (x ∷ σ) h u = (omega (arith, u.0), under-above σ h u.1)

under-append : (n : ℕ) (σ τ : Frame Range) → Under n σ → Under n τ → Under n (σ ++ τ)
unfolding Under
under-append n [] τ u v = v
under-append n (x ∷ σ) τ u v = (u.0, under-append n σ τ u.1 v)

under-blanks : (n : ℕ) (ns : List Name) → Under n (blanks Wires ns)
unfolding Under blanks
under-blanks n [] = tt
under-blanks n (x ∷ ns) = (omega arith, under-blanks n ns)

under-nth : {n : ℕ} (σ : Frame Range) (k : ℕ) {x : Sig Range} → Under n σ → nth 7 σ k ≡ ok x → Inside n x.cells
unfolding nth Under
under-nth [] k u e = absurd (no_ok e)
under-nth (y ∷ σ) zero u e = rw (← (ok-inj e)) u.0
under-nth (y ∷ σ) (suc k) u e = under-nth σ k u.1 e

module _ (ρ : Env) (n : ℕ) (σ : Frame Range) (u : Under n σ) where
  inside-resolve : (a : Arg ℕ) {r : Range} → resolve Wires ρ σ a ≡ ok r → Inside n r
  unfolding resolve
  inside-resolve (whole k) e = inv _ _ e λ x ex e₁. rw (← (ok-inj e₁)) (under-nth σ k u ex)
  inside-resolve (part k i) e =
      inv _ _ e λ x ex e₁.
      inv _ _ e₁ λ v _ e₂.
      inv _ _ e₂ λ j _ e₃.
      inv _ _ e₃ λ _ t e₄.
      rw (← (ok-inj e₄)) (omega (arith, under-nth σ k u ex, ltb→lt j x.cells.len (need-yes _ _ t)))

  inside-resolves : (args : List (Arg ℕ)) {rs : List Range} → resolves Wires ρ σ args ≡ ok rs → Insides n rs
  unfolding resolves Insides
  inside-resolves [] e = rw (← (ok-inj e)) tt
  inside-resolves (a ∷ args) e =
      inv _ _ e λ c e₁ e₂.
      inv _ _ e₂ λ cs e₃ e₄.
      rw (← (ok-inj e₄)) (inside-resolve a e₁, inside-resolves args e₃)

under-tie : (ρ : Env) (n : ℕ) (ds : List (Decl ℕ)) (rs : List Range) {σ : Frame Range} → Insides n rs → tie Wires ρ ds rs ≡ ok σ → Under n σ
unfolding tie Insides Under
under-tie ρ n [] [] u e = rw (← (ok-inj e)) tt
under-tie ρ n [] (r ∷ rs) u e = absurd (no_ok e)
under-tie ρ n (t ∷ ts) [] u e = absurd (no_ok e)
under-tie ρ n (t ∷ ts) (r ∷ rs) u e =
    inv _ _ e λ h _ e₁.
    inv _ _ e₁ λ _ _ e₂.
    inv _ _ e₂ λ σ es e₃.
    rw (← (ok-inj e₃)) (u.0, under-tie ρ n ts rs u.1 es)

-- ---- a gate on wires below n

below_at : (n : ℕ) (rs : List Range) (i : ℕ) → i < length rs → Insides n rs → T (singles Wires rs) → get_or (map (λ r. r.base) rs) i 0 < n
unfolding Insides singles
below_at n [] i h u t = absurd (omega arith)
below_at n (r ∷ rs) zero h u t = omega (arith, u.0, eqb→eq r.len 1 (both_yes (eqb r.len 1) (singles Wires rs) t).0)
below_at n (r ∷ rs) (suc i) h u t = below_at n rs i (omega arith) u.1 (both_yes (eqb r.len 1) (singles Wires rs) t).1

-- what stands at place i of the first n of a list; past them, d
front : (n i d : ℕ) (ws : List ℕ) (m : ℕ) → ((j : ℕ) → j < n → get_or ws j 0 < m) → n ≤ length ws → (i < n → get_or (take n ws) i d < m) × (n ≤ i → get_or (take n ws) i d ≡ d)
front zero i d ws m f l = ((λ h. absurd (omega arith)), (λ h. refl))
front (suc n) i d [] m f l = absurd (omega arith)
front (suc n) zero d (x ∷ ws) m f l = ((λ h. f 0 (omega arith)), (λ h. absurd (omega arith)))
front (suc n) (suc i) d (x ∷ ws) m f l =
    let (a, b) = front n i d ws m (λ j h. f (suc j) (omega arith)) (omega arith) in
    ((λ h. a (omega arith)), (λ h. b (omega arith)))

fine-on : (n k : ℕ) (rs : List Range) → Insides n rs → Ends k rs → (nin : ℕ) → nin ≤ (gate_on k (map (λ r. r.base) rs)).out → Fine n nin (gate_on k (map (λ r. r.base) rs))
unfolding gate_on
fine-on n k rs u e nin h =
    let f : (i : ℕ) → Slot (inputs_of k) n i (get_or (take (inputs_of k) (map (λ r. r.base) rs)) i 65535) = λ i.
    front (inputs_of k) i 65535 (map (λ r. r.base) rs) n (λ j l. below_at n rs j (omega (arith, e.count)) u e.single) (omega (arith, length-map rs (λ r. r.base), e.count)) in
    record {
      kind = omega (arith, e.kind);
      a = f 0;
      b = f 1;
      c = f 2;
      out = below_at n rs (inputs_of k) (omega (arith, e.count)) u e.single;
      free = h;
    }

-- ---- what every state keeps

unfoldable All : (Gate → Type 0) → List Gate → Type 0
All M [] = Unit {0}
All M (g ∷ gs) = M g × All M gs

all_snoc : (M : Gate → Type 0) (gs : List Gate) (g : Gate) → All M gs → M g → All M (gs ++ (g ∷ []))
unfolding All
all_snoc M [] g a m = (m, tt)
all_snoc M (x ∷ gs) g a m = (a.0, all_snoc M gs g a.1 m)

all_map : (M N : Gate → Type 0) (gs : List Gate) → ((g : Gate) → M g → N g) → All M gs → All N gs
unfolding All
all_map M N [] f a = tt
all_map M N (g ∷ gs) f a = (f g a.0, all_map M N gs f a.1)

all-at : (M : Gate → Type 0) (gs : List Gate) (d : Gate) → All M gs → (i : ℕ) → i < length gs → M (get_or gs i d)
unfolding All
all-at M [] d a i h = absurd (omega arith)
all-at M (x ∷ gs) d a zero h = a.0
all-at M (x ∷ gs) d a (suc i) h = all-at M gs d a.1 i (omega arith)

fine-above : {n m : ℕ} (nin : ℕ) (g : Gate) → n ≤ m → Fine n nin g → Fine m nin g
fine-above nin g h f = record {
  kind = f.kind;
  a = ((λ l. omega (arith, f.a.0 l)), f.a.1);
  b = ((λ l. omega (arith, f.b.0 l)), f.b.1);
  c = ((λ l. omega (arith, f.c.0 l)), f.c.1);
  out = omega (arith, f.out);
  free = f.free;
}

-- no gate but the last drives what the last drives, and so on
unfoldable Single : List Gate → Type 0
Single [] = Unit {0}
Single (g ∷ gs) = T (not (driven gs g.out)) × Single gs

not-sym : (a b : ℕ) → T (not (eqb a b)) → T (not (eqb b a))
not-sym a b t = not_T (eqb b a) λ h. T_not (eqb a b) t (subst (λ n. T (eqb a n)) (sym (eqb→eq b a h)) (eqb_refl a))

undriven-snoc : (gs : List Gate) (g : Gate) (w : ℕ) → T (not (driven gs w)) → T (not (eqb g.out w)) → T (not (driven (gs ++ (g ∷ [])) w))
unfolding driven
undriven-snoc [] g w t h = nor (eqb g.out w) false h tt
undriven-snoc (x ∷ gs) g w t h =
    let (a, b) = neither (eqb x.out w) (driven gs w) t in
    nor (eqb x.out w) _ a (undriven-snoc gs g w b h)

single-snoc : (gs : List Gate) (g : Gate) → Single gs → T (not (driven gs g.out)) → Single (gs ++ (g ∷ []))
unfolding driven Single
single-snoc [] g s t = (tt, tt)
single-snoc (x ∷ gs) g s t =
    let (a, b) = neither (eqb x.out g.out) (driven gs g.out) t in
    (undriven-snoc gs g x.out s.0 (not-sym x.out g.out a), single-snoc gs g s.1 b)

undriven-at : (gs : List Gate) (d : Gate) (w : ℕ) → T (not (driven gs w)) → (i : ℕ) → i < length gs → w ≡ (get_or gs i d).out → ⊥
unfolding driven
undriven-at [] d w t i h e = absurd (omega arith)
undriven-at (x ∷ gs) d w t zero h e =
    T_not (eqb x.out w) (neither (eqb x.out w) (driven gs w) t).0 (subst (λ n. T (eqb x.out n)) (sym e) (eqb_refl x.out))
undriven-at (x ∷ gs) d w t (suc i) h e = undriven-at gs d w (neither (eqb x.out w) (driven gs w) t).1 i (omega arith) e

single-at : (gs : List Gate) (d : Gate) → Single gs → (i j : ℕ) → i < j → j < length gs → (get_or gs i d).out ≡ (get_or gs j d).out → ⊥
unfolding Single
single-at [] d s i j h l e = absurd (omega arith)
single-at (x ∷ gs) d s i zero h l e = absurd (omega arith)
single-at (x ∷ gs) d s zero (suc j) h l e = undriven-at gs d x.out s.0 j (omega arith) e
single-at (x ∷ gs) d s (suc i) (suc j) h l e = single-at gs d s.1 i j (omega arith) (omega arith) e

record Sane (nin : ℕ) (s : State) : Type 0 where
  wires : s.next ≤ 1536
  gates : length s.gates ≤ 1024
  steps : s.steps ≤ 20000
  single : Single s.gates
  fine : All (Fine s.next nin) s.gates

-- t is sane, and comes after s
record Kept (nin : ℕ) (s t : State) : Type 0 where
  sane : Sane nin t
  grows : s.next ≤ t.next

keep-none : (nin : ℕ) (s : State) → Sane nin s → Kept nin s s
keep-none nin s k = record { sane = k; grows = omega arith }

keep-seq : {nin : ℕ} {s t u : State} → Kept nin s t → Kept nin t u → Kept nin s u
keep-seq a b = record { sane = b.sane; grows = omega (arith, a.grows, b.grows) }

keep-tick : (nin : ℕ) (s t : State) → Sane nin s → tick s ≡ ok t → Kept nin s t
unfolding tick
keep-tick nin s t k e =
    inv _ _ e λ _ c e'.
    rw (← (ok-inj e')) (record {
      sane = record { wires = k.wires; gates = k.gates; steps = ltb→lt _ _ (need-yes _ _ c); single = k.single; fine = k.fine };
      grows = omega arith;
    })

keep-gate : (nin k p : ℕ) (vs : List ℤ) (rs : List Range) (s t : State) → Sane nin s → Insides s.next rs → add_gate nin k p vs rs s ≡ ok t → Kept nin s t
unfolding add_gate emit
keep-gate nin k p vs rs s t n u e =
    inv_at _ _ _ e λ _ e₀ e'.
    inv _ _ (at_ok p _ e') λ _ c e₁.
    inv _ _ e₁ λ _ d e₂.
    let g = gate_on k (map (λ r. r.base) rs) in
    let (a, b) = neither (ltb g.out nin) (driven s.gates g.out) (need-yes _ _ d) in
    rw (← (ok-inj e₂)) (record {
      sane = record {
        wires = n.wires;
        gates = omega (arith, length-append s.gates (g ∷ []), ltb→lt (length s.gates) 1024 (need-yes _ _ c));
        steps = n.steps;
        single = single-snoc s.gates g n.single b;
        fine = all_snoc _ s.gates g n.fine (fine-on s.next k rs u (ends-yes k rs e₀) nin (nltb→le _ _ a));
      };
      grows = omega arith;
    })

keep-declare : (nin : ℕ) (ρ : Env) (ds : List (Decl ℕ)) (σ : Frame Range) (s : State) (r : Frame Range × State)
    → Sane nin s → Under s.next σ → declare ρ ds σ s ≡ ok r → Kept nin s r.1 × Under r.1.next r.0
unfolding declare Under
keep-declare nin ρ [] σ s r k u e = rw (← (ok-inj e)) (keep-none nin s k, u)
keep-declare nin ρ (d ∷ ds) σ s r k u e =
    inv_at _ _ _ e λ h _ e₁.
    inv_at _ _ _ e₁ λ _ c e₂.
    let (p, v) = keep-declare nin ρ ds _ (record { next = s.next + h.size; steps = s.steps; gates = s.gates }) r
    (record {
      wires = leb→le _ _ (need-yes _ _ c);
      gates = k.gates;
      steps = k.steps;
      single = k.single;
      fine = all_map (Fine s.next nin) (Fine (s.next + h.size) nin) s.gates (λ g q. fine-above nin g (omega arith) q) k.fine;
    })
    (under-append _ σ _ (under-above σ (omega arith) u) (omega arith, tt)) e₂ in
    (record { sane = p.sane; grows = omega (arith, p.grows) }, v)

keep-turns : (nin n₀ p : ℕ) (f : ℤ → State → Out State) → ((i : ℤ) (s t : State) → n₀ ≤ s.next → Sane nin s → f i s ≡ ok t → Kept nin s t)
    → (i : ℤ) (n : ℕ) (s t : State) → n₀ ≤ s.next → Sane nin s → turns p f i n s ≡ ok t → Kept nin s t
unfolding turns
keep-turns nin n₀ p f body i zero s t h k e = rw (← (ok-inj e)) (keep-none nin s k)
keep-turns nin n₀ p f body i (suc n) s t h k e =
    inv_at _ _ _ e λ s₁ e₁ e₂.
    inv _ _ e₂ λ s₂ e₃ e₄.
    let a = keep-tick nin s s₁ k e₁ in
    let b = body i s₁ s₂ (omega (arith, a.grows)) a.sane e₃ in
    keep-seq a (keep-seq b (keep-turns nin n₀ p f body (suc_ℤ i) n s₂ t (omega (arith, a.grows, b.grows)) b.sane e₄))

abbrev KeepAct : ℕ → Act → Type 0
KeepAct nin go = (p : ℕ) (vs : List ℤ) (rs : List Range) (s t : State) → Sane nin s → Insides s.next rs → go p vs rs s ≡ ok t → Kept nin s t

module _ (nin : ℕ) (deeper : ℕ → Out Act) (below : (b : ℕ) (go : Act) → deeper b ≡ ok go → KeepAct nin go) where
  keep-act : (c : Callee) (go : Act) → act nin deeper c ≡ ok go → KeepAct nin go
  unfolding act
  keep-act (gate k) go e = rw (← (ok-inj e)) (keep-gate nin k)
  keep-act (block b) go e = below b go e

  keep-unfolds : (c : Stmts ℕ Callee) (ρ : Env) (σ : Frame Range) (s t : State) → Sane nin s → Under s.next σ → unfolds nin deeper c ρ σ s ≡ ok t → Kept nin s t
  unfolding unfolds
  keep-unfolds end ρ σ s t k u e = rw (← (ok-inj e)) (keep-none nin s k)
  keep-unfolds (call p c gs ins outs rest) ρ σ s t k u e =
      inv_at _ _ _ e λ s₁ e₁ e₂.
      inv_at _ _ _ e₂ λ go eg e₃.
      inv_at _ _ _ e₃ λ vs ev e₄.
      inv_at _ _ _ e₄ λ rs er e₅.
      inv _ _ e₅ λ s₂ ec e₆.
      let a = keep-tick nin s s₁ k e₁ in
      let u₁ = under-above σ a.grows u in
      let d = keep-act c go eg p vs rs s₁ s₂ a.sane (inside-resolves ρ _ σ u₁ (ins ++ outs) er) ec in
      keep-seq a (keep-seq d (keep-unfolds rest ρ σ s₂ t d.sane (under-above σ d.grows u₁) e₆))
  keep-unfolds (loop p i a b body rest) ρ σ s t k u e =
      inv_at _ _ _ e λ s₁ e₁ e₂.
      inv_at _ _ _ e₂ λ x ex e₃.
      inv_at _ _ _ e₃ λ y ey e₄.
      inv _ _ e₄ λ s₂ er e₆.
      let q = keep-tick nin s s₁ k e₁ in
      let u₁ = under-above σ q.grows u in
      let d = keep-turns nin s₁.next p _ (λ v s t h k. keep-unfolds body (bound ρ i v) σ s t k (under-above σ h u₁)) x _ s₁ s₂ (omega arith) q.sane er in
      keep-seq q (keep-seq d (keep-unfolds rest ρ σ s₂ t d.sane (under-above σ d.grows u₁) e₆))

keep-deep : (nin : ℕ) (P : Program) (d b : ℕ) (go : Act) → deep nin P d b ≡ ok go → KeepAct nin go
unfolding deep enter
keep-deep nin P zero b go e = absurd (no_ok e)
keep-deep nin P (suc d) b go e =
    inv _ _ e λ M e_m e₁.
    rw (← (ok-inj e₁)) λ p vs rs s t k u h.
    inv_at _ _ _ h λ σ et h₁.
    inv_at _ _ _ h₁ λ r ed eu.
    let (q, v) = keep-declare nin (generics vs) M.locals _ s r k (under-append _ (blanks Wires M.generics) σ (under-blanks _ M.generics) (under-tie (generics vs) _ _ rs u et)) ed in
    keep-seq q (keep-unfolds nin (deep nin P d) (keep-deep nin P d) M.body (generics vs) r.0 r.1 t q.sane v eu)

begin : (nin : ℕ) → Sane nin start
unfolding Single All
begin nin = record { wires = omega arith; gates = omega arith; steps = omega arith; single = tt; fine = tt }

-- the words of a sane state, whatever words z stand after them
well : (nin nout : ℕ) (t : State) (z : List ℕ) → Sane nin t → nin + nout ≤ t.next → WellFormed (net_words nin nout t.next t.gates ++ z)
unfolding net_words
well nin nout t z k h =
    let d : Gate = record { kind = 0; a = 0; b = 0; c = 0; out = 0 } in
    let g : (i : ℕ) → i < length t.gates → gate_at (nin ∷ nout ∷ t.next ∷ length t.gates ∷ (gate_words t.gates ++ z)) i ≡ get_or t.gates i d = λ i l.
    gate-of nin nout t.next t.gates z i d l in
    record {
      contents = omega arith;
      ports = h;
      few-wires = k.wires;
      few-gates = k.gates;
      records = omega (arith, words-length t.gates, length-append (gate_words t.gates) z);
      fine = λ i l. subst (Fine t.next nin) (sym (g i l)) (all-at (Fine t.next nin) t.gates d k.fine i l);
      once = λ i j l m e. single-at t.gates d k.single i j l m (sym (ap (λ g. g.out) (g i (omega arith))) ∙ e ∙ ap (λ g. g.out) (g j m));
    }

-- every netlist that unfolding gives is well formed, whatever words z stand after it, in at most 20,000 steps
pub unfolded-well : (P : Program) (u : Unfolded) → unfold_main P ≡ ok u → (z : List ℕ) → WellFormed (u.words ++ z) × (u.steps ≤ 20000)
unfolding unfold_main
unfolded-well P u e z =
    inv _ _ e λ M e_m e₁.
    inv _ _ e₁ λ i ei e₂.
    inv _ _ e₂ λ o eo e₃.
    inv _ _ e₃ λ l el e₄.
    inv _ _ e₄ λ t es e₅.
    let nin : ℕ = i.1.next in
    let (a, x) = keep-declare nin (generics []) M.inputs (blanks Wires M.generics) start i (begin nin) (under-blanks 0 M.generics) ei in
    let (b, y) = keep-declare nin (generics []) M.outputs i.0 i.1 o a.sane x eo in
    let (c, x₃) = keep-declare nin (generics []) M.locals o.0 o.1 l b.sane y el in
    let d = keep-unfolds nin (deep nin P 15) (keep-deep nin P 15) M.body (generics []) l.0 l.1 t c.sane x₃ es in
    subst (λ r. WellFormed (r.words ++ z) × (r.steps ≤ 20000)) (ok-inj e₅) (well nin (o.1.next - nin) t z d.sane (omega (arith, b.grows, c.grows, d.grows)), d.sane.steps)
