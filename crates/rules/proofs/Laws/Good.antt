-- Sound steps of an unfolding. From state s to state t is sound for a part of the program (`Good`) if bits that satisfy the gates so far
-- and the part's meaning F can be kept on the wires so far, and chosen on fresh ones, so that all gates hold, and if bits that satisfy
-- all gates satisfy the part's meaning B. Assumes nothing.
use Rattle.std.specs.Prelude.{◌≡◌, refl, ◌↔◌, List, [], ◌∷◌, ◌++◌, map, length, ℤ}
use Rattle.std.proofs.Common.{sym, ap, ap₂, ◌∙◌, subst, arith}
use Prim.Native.Nat.{ℕ, zero, suc, ◌+◌, ◌≤◌}
use Rattle.std.proofs.Math.IntN.{suc_ℤ}
use Rattle.rules.specs.declared.Gate.{Gate}
use Rattle.rules.specs.Outcome.{Out, ok, When}
use Rattle.rules.specs.Syntax.{Decl}
use Rattle.rules.specs.Values.{Env, Shape, shape}
use Rattle.rules.specs.Frames.{Sig, Frame}
use Rattle.rules.specs.Unfold.{Range, State, tick, declare, emit, turns}
use Rattle.rules.specs.Meaning.{Signal, carried, GateHolds, Each, Some}
use Rattle.rules.proofs.Laws.Outcomes.{ok-inj, inv, inv_at, when-ok, ok-when}
use Rattle.rules.proofs.Laws.Carried.{Load, Agree, agree-below, carried-agree, carried-length, over, over_agree, over-read, map-append}
use Rattle.rules.proofs.Laws.Natural.{view, Fixed}

-- every gate of a list holds
unfoldable pub AllHold : Load → List Gate → Type 0
AllHold w [] = Unit {0}
AllHold w (g ∷ gs) = GateHolds w g × AllHold w gs

-- the gates depend on the wires so far alone
abbrev pub Settled : State → Type 0
Settled s = (w v : Load) → Agree s.next w v → AllHold w s.gates → AllHold v s.gates

pub record Good (F B : Load → Type 0) (s t : State) : Type 0 where
  pub grows : s.next ≤ t.next
  pub settled : Settled s → Settled t
  pub there : Settled s → (w : Load) → AllHold w s.gates → F w → (v : Load) × Agree s.next w v × AllHold v t.gates
  pub back : (w : Load) → AllHold w t.gates → AllHold w s.gates × B w

pub good_none : (s : State) → Good (λ w. Unit {0}) (λ w. Unit {0}) s s
good_none s = record { grows = omega arith; settled = λ h. h; there = λ h w g f. (w, (λ i k. refl), g); back = λ w g. (g, tt) }

pub good-seq : (F₁ B₁ F₂ B₂ : Load → Type 0) {s t u : State} → ((w v : Load) → Agree s.next w v → F₂ w → F₂ v)
    → Good F₁ B₁ s t → Good F₂ B₂ t u → Good (λ w. F₁ w × F₂ w) (λ w. B₁ w × B₂ w) s u
good-seq F₁ B₁ F₂ B₂ loc p q = record {
  grows = omega arith;
  settled = λ h. q.settled (p.settled h);
  there = λ h w g f.
      let (v, a, gv) = p.there h w g f.0 in
      let (x, b, gx) = q.there (p.settled h) v gv (loc w v a f.1) in
      (x, (λ i k. a i k ∙ b i (omega (arith, p.grows))), gx);
  back = λ w g.
      let (gt, b₂) = q.back w g in
      let (gs, b₁) = p.back w gt in
      (gs, (b₁, b₂));
}

pub good-map : {F B F' B' : Load → Type 0} {s t : State} → ((w : Load) → F' w → F w) → ((w : Load) → B w → B' w) → Good F B s t → Good F' B' s t
good-map f b p = record {
  grows = p.grows;
  settled = p.settled;
  there = λ h w g x. p.there h w g (f w x);
  back = λ w g. let (gs, y) = p.back w g in (gs, b w y);
}

pub good-tick : {F B : Load → Type 0} {s t u : State} → tick s ≡ ok t → Good F B t u → Good F B s u
unfolding tick
good-tick {F} {B} {s} {t} {u} e p =
    inv _ _ e λ _ h e'.
    let q : Good F B (record { next = s.next; steps = suc s.steps; gates = s.gates }) u = rw (ok-inj e') p in
    record { grows = q.grows; settled = q.settled; there = q.there; back = q.back }

pub tick-grows : (s : State) {t : State} → tick s ≡ ok t → s.next ≤ t.next
unfolding tick
tick-grows s e = inv _ _ e λ _ h e'. rw (← (ok-inj e')) (omega arith)

-- ---- a gate

hold-snoc : (w : Load) (gs : List Gate) (g : Gate) → AllHold w (gs ++ (g ∷ [])) ↔ (AllHold w gs × GateHolds w g)
unfolding AllHold
hold-snoc w [] g = ((λ h. (tt, h.0)), (λ h. (h.1, tt)))
hold-snoc w (x ∷ gs) g =
    let ih = hold-snoc w gs g in
    ((λ h. let (a, b) = ih.0 h.1 in ((h.0, a), b)), (λ h. (h.0.0, ih.1 (h.0.1, h.1))))

pub good-emit : (nin : ℕ) (g : Gate) {F : Load → Type 0} {s t : State} → ((w v : Load) → Agree s.next w v → F w → F v)
    → ((w : Load) → F w → GateHolds w g) → ((w : Load) → GateHolds w g → F w) → emit nin g s ≡ ok t → Good F F s t
unfolding emit
good-emit nin g {F} {s} {t} loc f f⁻¹ e =
    inv _ _ e λ _ _ e₁.
    inv _ _ e₁ λ _ _ e₂.
    rw (← (ok-inj e₂)) (record {
      grows = omega arith;
      settled = λ h w v a x.
          let (gs, y) = (hold-snoc w s.gates g).0 x in
          (hold-snoc v s.gates g).1 (h w v a gs, f v (loc w v a (f⁻¹ w y)));
      there = λ h w gs x. (w, (λ i k. refl), (hold-snoc w s.gates g).1 (gs, f w x));
      back = λ w x. let (gs, y) = (hold-snoc w s.gates g).0 x in (gs, f⁻¹ w y);
    })

-- ---- fresh wires

-- what a name of this shape stands for next
abbrev pub fresh : Shape → State → Sig Range
fresh h s = record { low = h.low; cells = record { base = s.next; len = h.size } }

abbrev pub grown : Shape → State → State
grown h s = record { next = s.next + h.size; steps = s.steps; gates = s.gates }

abbrev pub given : Shape → List Signal → Sig (List Signal)
given h bs = record { low = h.low; cells = bs }

abbrev Names : Type 0
Names = Frame (List Signal)

pub fixed-fresh : (h : Shape) (σ : Frame Range) (s : State) → Fixed s.next σ → Fixed (s.next + h.size) (σ ++ (fresh h s ∷ []))
fixed-fresh h σ s fx w v a =
    rw (map-append (view w) σ, map-append (view v) σ)
    (ap₂ (λ l bs. l ++ (given h bs ∷ [])) (fx w v (agree-below (omega arith) a)) (carried-agree s.next h.size _ (omega arith) a))

good-fresh : (o : Out Shape) (h : Shape) (σ : Frame Range) (s t : State) (KF KB : Names → Type 0) → o ≡ ok h → Fixed s.next σ
    → Good (λ w. KF (map (view w) (σ ++ (fresh h s ∷ [])))) (λ w. KB (map (view w) (σ ++ (fresh h s ∷ [])))) (grown h s) t
    → Good (λ w. When o (λ h. (bs : List Signal) × (length bs ≡ h.size) × KF (map (view w) σ ++ (given h bs ∷ []))))
    (λ w. When o (λ h. (bs : List Signal) × (length bs ≡ h.size) × KB (map (view w) σ ++ (given h bs ∷ [])))) s t
good-fresh o h σ s t KF KB e fx p = record {
  grows = omega (arith, p.grows);
  settled = λ hs. p.settled (λ w v a g. hs w v (agree-below (omega arith) a) g);
  there = λ hs w g f.
      let (bs, eb, kf) = ok-when _ e f in
      let v : Load = over w s.next bs in
      let a : Agree s.next w v = over_agree w s.next bs in
      let eq : map (view v) (σ ++ (fresh h s ∷ [])) ≡ map (view w) σ ++ (given h bs ∷ []) =
      map-append (view v) σ _ ∙ ap₂ (λ l x. l ++ (given h x ∷ [])) (sym (fx w v a)) (ap (λ n. carried v s.next n) (sym eb) ∙ over-read w s.next bs) in
      let (u, b, gu) = p.there (λ w v a g. hs w v (agree-below (omega arith) a) g) v (hs w v a g) (subst KF (sym eq) kf) in
      (u, (λ i k. a i k ∙ b i (omega arith)), gu);
  back = λ w g.
      let (gs, y) = p.back w g in
      (gs, when-ok _ e (carried w s.next h.size, carried-length w s.next h.size, subst KB (map-append (view w) σ _) y));
}

pub good-declare : (ρ : Env) (ds : List (Decl ℕ)) (σ : Frame Range) (s : State) (KF KB : Names → Type 0) (r : Frame Range × State) (t : State)
    → Fixed s.next σ → declare ρ ds σ s ≡ ok r
    → (Fixed r.1.next r.0 → Good (λ w. KF (map (view w) r.0)) (λ w. KB (map (view w) r.0)) r.1 t)
    → Good (λ w. Some ρ ds (map (view w) σ) KF) (λ w. Some ρ ds (map (view w) σ) KB) s t
unfolding declare Some
good-declare ρ [] σ s KF KB r t fx e k = (rw (← (ok-inj e)) at k) fx
good-declare ρ (d ∷ ds) σ s KF KB r t fx e k =
    inv_at _ _ _ e λ h e₁ e₂.
    inv_at _ _ _ e₂ λ _ _ e₃.
    good-fresh (shape ρ d.sort) h σ s t (λ β. Some ρ ds β KF) (λ β. Some ρ ds β KB) e₁ fx
    (good-declare ρ ds (σ ++ (fresh h s ∷ [])) (grown h s) KF KB r t (fixed-fresh h σ s fx) e₃ k)

-- ---- rounds

each_map : {M N : ℤ → Type 0} → ((v : ℤ) → M v → N v) → (v : ℤ) (n : ℕ) → Each M v n → Each N v n
unfolding Each
each_map f v zero h = tt
each_map f v (suc n) h = (f v h.0, each_map f (suc_ℤ v) n h.1)

module _ (n₀ p : ℕ) (f : ℤ → State → Out State) (MF MB : ℤ → Load → Type 0) (loc : (i : ℤ) (w v : Load) → Agree n₀ w v → MF i w → MF i v)
    (body : (i : ℤ) (s t : State) → n₀ ≤ s.next → f i s ≡ ok t → Good (MF i) (MB i) s t) where
  pub good-turns : (i : ℤ) (n : ℕ) (s t : State) → n₀ ≤ s.next → turns p f i n s ≡ ok t → Good (λ w. Each (λ i. MF i w) i n) (λ w. Each (λ i. MB i w) i n) s t
  unfolding turns Each
  good-turns i zero s t h e = rw (← (ok-inj e)) (good_none s)
  good-turns i (suc n) s t h e =
      inv_at _ _ _ e λ s₁ e₁ e₂.
      inv _ _ e₂ λ s₂ e₃ e₄.
      let h₁ : n₀ ≤ s₁.next = omega (arith, tick-grows s e₁) in
      let p = body i s₁ s₂ h₁ e₃ in
      good-tick e₁
      (good-seq _ _ (λ w. Each (λ i. MF i w) (suc_ℤ i) n) (λ w. Each (λ i. MB i w) (suc_ℤ i) n)
      (λ w v a. each_map (λ j. loc j w v (agree-below h₁ a)) (suc_ℤ i) n) p
      (good-turns (suc_ℤ i) n s₂ t (omega (arith, p.grows)) e₄))
