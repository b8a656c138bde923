-- Whenever unfolding succeeds, the program and the netlist allow the same bits on main's ports. Assumes nothing.
use Rattle.std.specs.Prelude.{◌≡◌, refl, ◌&&◌, length, get_or, take, T, ltb, eqb, ℤ}
use Rattle.std.proofs.Math.Path.{sym, ap, subst}
use Rattle.std.proofs.Common.{ap₂, ◌∙◌, arith, length-append, ltb→lt, eqb→eq}
use Prim.Native.Nat.{ℕ, zero, suc, ◌+◌, ◌-◌, ◌≤◌, ◌<◌}
use mathlib.Core.List.{List, [], ◌∷◌, ◌++◌, map, append_assoc, append-nil}
use Rattle.std.proofs.Math.ListN.{length-map}
use Rattle.rules.specs.declared.Gate.{Gate}
use Rattle.rules.specs.Outcome.{Out, ok, nth}
use Rattle.rules.specs.Primitives.{inputs_of, table}
use Rattle.rules.specs.Syntax.{Stmts, end, call, loop, Decl, Block, Callee, gate, block, Program}
use Rattle.rules.specs.Values.{Env, generics, bound}
use Rattle.rules.specs.Frames.{Frame, blanks, tie, singles, ends}
use Rattle.rules.specs.Netlist.{inputs_at, net_words}
use Rattle.rules.specs.Unfold.{Range, Wires, State, declare, gate_on, Act, add_gate, act, unfolds, enter, deep}
use Rattle.rules.specs.Text.{joined}
use Rattle.rules.specs.Meaning.{Signal, dark, makes, Bits, bit, Allowed, GateAllows, CalleeAllows, Holds, Some, BlockAllows, AllowsAt, GateHolds, carried, NetAllows}
use Rattle.rules.proofs.Laws.Outcomes.{no_ok, ok-inj, inv, inv_at, ok_at, bind_ok, need-yes, when-ok, ok-when, when-inv, nth-any, both_yes, map-ok}
use Rattle.rules.proofs.Laws.Carried.{Load, carried-agree, carried-split, over, over-read, map-append}
use Rattle.rules.proofs.Laws.Natural.{read, view, nat-blanks, nat-resolves, nat-tie, Fixed, FixedR, fixed-above, fixed-resolves, fixed-tie, nat-ends, single-bits, single-at}
use Rattle.rules.proofs.Laws.Good.{AllHold, Good, good_none, good-seq, good-map, good-tick, tick-grows, good-emit, fresh, grown, given, fixed-fresh, good-declare, good-turns}
use Rattle.rules.proofs.Laws.Nets.{inputs_on, gate-of}

abbrev Names : Type 0
Names = Frame (List Signal)

-- ---- calls

-- what a call adds is sound for what it allows
abbrev GoodAct : Allowed → Allowed → Act → Type 0
GoodAct F B go =
    (p : ℕ) (vs : List ℤ) (rs : List Range) (s t : State) → FixedR s.next rs → go p vs rs s ≡ ok t
    → Good (λ w. F vs (map (read w) rs)) (λ w. B vs (map (read w) rs)) s t

map-take : {A B : Type 0} (f : A → B) (n : ℕ) (xs : List A) → map f (take n xs) ≡ take n (map f xs)
map-take f zero xs = refl
map-take f (suc n) [] = refl
map-take f (suc n) (x ∷ xs) = ap (λ l. f x ∷ l) (map-take f n xs)

pub record Ends (k : ℕ) (rs : List Range) : Type 0 where
  pub kind : k < 10
  pub count : length rs ≡ suc (inputs_of k)
  pub single : T (singles Wires rs)

pub ends-yes : (k : ℕ) (rs : List Range) {u : Unit {0}} → ends Wires k rs ≡ ok u → Ends k rs
unfolding ends
ends-yes k rs e =
    let (a, b) = both_yes (ltb k (length table) && eqb (length rs) (suc (inputs_of k))) (singles Wires rs) (need-yes _ _ e) in
    let (c, d) = both_yes (ltb k (length table)) (eqb (length rs) (suc (inputs_of k))) a in
    record { kind = ltb→lt k 10 c; count = eqb→eq _ _ d; single = b }

-- the gate holds just when the primitive allows the bits of its wires
module _ (k : ℕ) (rs : List Range) (vs : List ℤ) (u : Unit {0}) (e : ends Wires k rs ≡ ok u) (w : Load) where
  bases : List ℕ
  bases = map (λ r. r.base) rs

  many : length bases ≡ suc (inputs_of k)
  unfolding bases
  many = length-map rs (λ r. r.base) ∙ (ends-yes k rs e).count

  same_inputs : map w (inputs_at (gate_on k bases)) ≡ take (inputs_of k) (map bit (map (read w) rs))
  unfolding bases
  same_inputs = ap (map w) (inputs_on k bases (omega (arith, many))) ∙ map-take w (inputs_of k) bases ∙ ap (take (inputs_of k)) (sym (single-bits w rs (ends-yes k rs e).single))

  same-output : w (get_or bases (inputs_of k) 0) ≡ bit (get_or (map (read w) rs) (inputs_of k) [])
  unfolding bases
  same-output = sym (single-at w rs (inputs_of k) (omega (arith, (ends-yes k rs e).count)) (ends-yes k rs e).single)

  gate-there : GateAllows k vs (map (read w) rs) → GateHolds w (gate_on k (map (λ r. r.base) rs))
  unfolding GateAllows bases gate_on
  gate-there h = ap (makes k) same_inputs ∙ ok-when _ (nat-ends w k rs ∙ e) h ∙ sym same-output

  gate-back : GateHolds w (gate_on k (map (λ r. r.base) rs)) → GateAllows k vs (map (read w) rs)
  unfolding GateAllows bases gate_on
  gate-back h = when-ok _ (nat-ends w k rs ∙ e) (sym (ap (makes k) same_inputs) ∙ h ∙ same-output)

good-gate : (nin k : ℕ) → GoodAct (GateAllows k) (GateAllows k) (add_gate nin k)
unfolding add_gate
good-gate nin k p vs rs s t fx e =
    inv_at _ _ _ e λ u e₁ e₂.
    good-emit nin (gate_on k (map (λ r. r.base) rs)) {F = λ w. GateAllows k vs (map (read w) rs)} (λ w v a. subst (GateAllows k vs) (fx w v a))
    (gate-there k rs vs u e₁) (gate-back k rs vs u e₁) (Rattle.rules.proofs.Laws.Outcomes.at_ok p _ e₂)

-- ---- statements

module _ (nin : ℕ) (deeper : ℕ → Out Act) (F B : ℕ → Allowed) (below : (b : ℕ) (go : Act) → deeper b ≡ ok go → GoodAct (F b) (B b) go) where
  good-act : (c : Callee) (go : Act) → act nin deeper c ≡ ok go → GoodAct (CalleeAllows F c) (CalleeAllows B c) go
  unfolding act CalleeAllows
  good-act (gate k) go e = rw (← (ok-inj e)) (good-gate nin k)
  good-act (block b) go e = below b go e

  good-unfolds : (c : Stmts ℕ Callee) (ρ : Env) (σ : Frame Range) (s t : State) → Fixed s.next σ → unfolds nin deeper c ρ σ s ≡ ok t
      → Good (λ w. Holds F c ρ (map (view w) σ)) (λ w. Holds B c ρ (map (view w) σ)) s t
  unfolding unfolds Holds
  good-unfolds end ρ σ s t fx e = rw (← (ok-inj e)) (good_none s)
  good-unfolds (call p c gs ins outs rest) ρ σ s t fx e =
      inv_at _ _ _ e λ s₁ e₁ e₂.
      inv_at _ _ _ e₂ λ go eg e₃.
      inv_at _ _ _ e₃ λ vs ev e₄.
      inv_at _ _ _ e₄ λ rs er e₅.
      inv _ _ e₅ λ s₂ ec e₆.
      let fx₁ : Fixed s₁.next σ = fixed-above σ (tick-grows s e₁) fx in
      let g = good-act c go eg p vs rs s₁ s₂ (fixed-resolves ρ σ fx₁ (ins ++ outs) er) ec in
      good-tick e₁
      (good-seq _ _ _ _ (λ w v a. subst (Holds F rest ρ) (fx₁ w v a))
      (good-map (λ w x. ok-when _ (map-ok (map (read w)) (nat-resolves w ρ σ (ins ++ outs)) er) (ok-when _ ev x))
      (λ w y. when-ok _ ev (when-ok _ (map-ok (map (read w)) (nat-resolves w ρ σ (ins ++ outs)) er) y)) g)
      (good-unfolds rest ρ σ s₂ t (fixed-above σ g.grows fx₁) e₆))
  good-unfolds (loop p i a b body rest) ρ σ s t fx e =
      inv_at _ _ _ e λ s₁ e₁ e₂.
      inv_at _ _ _ e₂ λ x ex e₃.
      inv_at _ _ _ e₃ λ y ey e₄.
      inv _ _ e₄ λ s₂ er e₆.
      let fx₁ : Fixed s₁.next σ = fixed-above σ (tick-grows s e₁) fx in
      let g = good-turns s₁.next p _ (λ v w. Holds F body (bound ρ i v) (map (view w) σ)) (λ v w. Holds B body (bound ρ i v) (map (view w) σ))
      (λ v w u a. subst (Holds F body (bound ρ i v)) (fx₁ w u a))
      (λ v s t h. good-unfolds body (bound ρ i v) σ s t (fixed-above σ h fx₁)) x _ s₁ s₂ (omega arith) er in
      good-tick e₁
      (good-seq _ _ _ _ (λ w v a. subst (Holds F rest ρ) (fx₁ w v a))
      (good-map (λ w h. ok-when _ ey (ok-when _ ex h)) (λ w h. when-ok _ ex (when-ok _ ey h)) g)
      (good-unfolds rest ρ σ s₂ t (fixed-above σ g.grows fx₁) e₆))

  -- ---- blocks

  good-body : (M : Block ℕ Callee) (ρ : Env) (σ : Frame Range) (s t : State) (r : Frame Range × State)
      → Fixed s.next σ → declare ρ M.locals σ s ≡ ok r → unfolds nin deeper M.body ρ r.0 r.1 ≡ ok t
      → Good (λ w. Some ρ M.locals (map (view w) σ) (λ β. Holds F M.body ρ β))
      (λ w. Some ρ M.locals (map (view w) σ) (λ β. Holds B M.body ρ β)) s t
  good-body M ρ σ s t r fx ed eu = good-declare ρ M.locals σ s _ _ r t fx ed (λ fx. good-unfolds M.body ρ r.0 r.1 t fx eu)

  good-enter : (M : Block ℕ Callee) → GoodAct (BlockAllows F M) (BlockAllows B M) (enter nin deeper M)
  unfolding enter BlockAllows
  good-enter M p vs rs s t fx e =
      inv_at _ _ _ e λ τ et e₁.
      inv_at _ _ _ e₁ λ r ed eu.
      let σ : Frame Range = blanks Wires M.generics ++ τ in
      let views : (w : Load) → map (view w) σ ≡ blanks Bits M.generics ++ map (view w) τ = λ w. map-append (view w) (blanks Wires M.generics) τ ∙ ap (λ l. l ++ map (view w) τ) (nat-blanks w M.generics) in
      let fixed : Fixed s.next σ = λ w v a. views w ∙ ap (λ l. blanks Bits M.generics ++ l) (fixed-tie (generics vs) _ rs fx et w v a) ∙ sym (views v) in
      let tied : (w : Load) → tie Bits (generics vs) (M.inputs ++ M.outputs) (map (read w) rs) ≡ ok (map (view w) τ) = λ w. map-ok (map (view w)) (nat-tie w (generics vs) _ rs) et in
      good-map
      (λ w x. subst (λ β. Some (generics vs) M.locals β (λ β. Holds F M.body (generics vs) β)) (sym (views w)) (ok-when _ (tied w) x))
      (λ w y. when-ok _ (tied w) (subst (λ β. Some (generics vs) M.locals β (λ β. Holds B M.body (generics vs) β)) (views w) y))
      (good-body M (generics vs) σ s t r fixed ed eu)

good-deep : (nin : ℕ) (P : Program) (d f b : ℕ) (go : Act) → deep nin P d b ≡ ok go → GoodAct (AllowsAt P f b) (AllowsAt P d b) go
unfolding deep AllowsAt
good-deep nin P zero f b go e = absurd (no_ok e)
good-deep nin P (suc d) zero b go e =
    inv _ _ e λ M e_m e₁.
    rw (← (ok-inj e₁)) λ p vs rs s t fx h.
    good-map (λ w x. absurd x) (λ w y. when-ok _ e_m y) (good-enter nin (deep nin P d) (AllowsAt P zero) (AllowsAt P d) (good-deep nin P d zero) M p vs rs s t fx h)
good-deep nin P (suc d) (suc f) b go e =
    inv _ _ e λ M e_m e₁.
    rw (← (ok-inj e₁)) λ p vs rs s t fx h.
    good-map (λ w x. ok-when _ e_m x) (λ w y. when-ok _ e_m y) (good-enter nin (deep nin P d) (AllowsAt P f) (AllowsAt P d) (good-deep nin P d f) M p vs rs s t fx h)

-- ---- main's ports

pub declare-append : (ρ : Env) (ts us : List (Decl ℕ)) (σ : Frame Range) (s : State) {r q : Frame Range × State}
    → declare ρ ts σ s ≡ ok r → declare ρ us r.0 r.1 ≡ ok q → declare ρ (ts ++ us) σ s ≡ ok q
unfolding declare
declare-append ρ [] us σ s e f = rw (← (ok-inj e)) at f
declare-append ρ (t ∷ ts) us σ s e f =
    inv_at _ _ _ e λ h e₁ e₂.
    inv_at _ _ _ e₂ λ _ c e₃.
    bind_ok _ (ok_at _ e₁) (bind_ok _ (ok_at _ c) (declare-append ρ ts us _ _ e₃ f))

pub declare-grows : (ρ : Env) (ts : List (Decl ℕ)) (σ : Frame Range) (s : State) (r : Frame Range × State) → declare ρ ts σ s ≡ ok r → s.next ≤ r.1.next
unfolding declare
declare-grows ρ [] σ s r e = rw (← (ok-inj e)) (omega arith)
declare-grows ρ (t ∷ ts) σ s r e =
    inv_at _ _ _ e λ h e₁ e₂.
    inv_at _ _ _ e₂ λ _ _ e₃.
    omega (arith, declare-grows ρ ts _ _ r e₃)

fixed-declare : (ρ : Env) (ts : List (Decl ℕ)) (σ : Frame Range) (s : State) (r : Frame Range × State) → Fixed s.next σ → declare ρ ts σ s ≡ ok r → Fixed r.1.next r.0
unfolding declare
fixed-declare ρ [] σ s r fx e = rw (← (ok-inj e)) fx
fixed-declare ρ (t ∷ ts) σ s r fx e =
    inv_at _ _ _ e λ h e₁ e₂.
    inv_at _ _ _ e₂ λ _ _ e₃.
    fixed-declare ρ ts (σ ++ (fresh h s ∷ [])) (grown h s) r (fixed-fresh h σ s fx) e₃

-- main's ports, on fresh wires, carry the bits that they are tied to
record Ports (σ : Frame Range) (s : State) (ports : List (List Signal)) (β : Names) (r : Frame Range × State) : Type 0 where
  gates : r.1.gates ≡ s.gates
  next : r.1.next ≡ s.next + length (joined ports)
  views : (w : Load) → carried w s.next (length (joined ports)) ≡ joined ports → map (view w) r.0 ≡ map (view w) σ ++ β

declare-ports : (ρ : Env) (ts : List (Decl ℕ)) (σ : Frame Range) (s : State) (ports : List (List Signal)) (β : Names) (r : Frame Range × State)
    → declare ρ ts σ s ≡ ok r → tie Bits ρ ts ports ≡ ok β → Ports σ s ports β r
unfolding declare tie joined
declare-ports ρ [] σ s [] β r e f = rw (← (ok-inj e), ← (ok-inj f)) record { gates = refl; next = omega arith; views = λ w h. sym (append-nil _) }
declare-ports ρ [] σ s (p ∷ ps) β r e f = absurd (no_ok f)
declare-ports ρ (t ∷ ts) σ s [] β r e f = absurd (no_ok f)
declare-ports ρ (t ∷ ts) σ s (p ∷ ps) β r e f =
    inv_at _ _ _ e λ h e₁ e₂.
    inv_at _ _ _ e₂ λ _ _ e₃.
    inv _ _ f λ k f₁ f₂.
    inv _ _ f₂ λ _ tl f₃.
    inv _ _ f₃ λ γ f₄ f₅.
    let same : k ≡ h = ok-inj (sym f₁ ∙ e₁) in
    let len : h.size ≡ length p = ap (λ k. k.size) (sym same) ∙ eqb→eq _ _ (need-yes _ _ tl) in
    let ih = declare-ports ρ ts (σ ++ (fresh h s ∷ [])) (grown h s) ps γ r e₃ f₄ in
    record {
      gates = ih.gates;
      next = omega (arith, ih.next, len, length-append p (joined ps));
      views = λ w g.
          let (l, m) = carried-split w s.next p (joined ps) g in
          ih.views w (ap (λ n. carried w (s.next + n) (length (joined ps))) len ∙ m)
          ∙ ap (λ l. l ++ γ) (map-append (view w) σ _)
          ∙ append_assoc (map (view w) σ) (view w (fresh h s) ∷ []) γ
          ∙ ap (λ l. map (view w) σ ++ l) (ap (λ x. x ∷ γ) (ap₂ given (sym same) (ap (λ n. carried w s.next n) len ∙ l)) ∙ ok-inj f₅);
    }

-- ---- the theorem

abbrev pub start : State
start = record { next = 0; steps = 0; gates = [] }

-- the words of a netlist hold just when its gates do
hold-list : (w : Load) (gs : List Gate) (d : Gate) → ((i : ℕ) → i < length gs → GateHolds w (get_or gs i d)) → AllHold w gs
unfolding AllHold
hold-list w [] d f = tt
hold-list w (g ∷ gs) d f = (f 0 (omega arith), hold-list w gs d (λ i h. f (suc i) (omega arith)))

list-hold : (w : Load) (gs : List Gate) (d : Gate) → AllHold w gs → (i : ℕ) → i < length gs → GateHolds w (get_or gs i d)
unfolding AllHold
list-hold w [] d h i l = absurd (omega arith)
list-hold w (g ∷ gs) d h zero l = h.0
list-hold w (g ∷ gs) d h (suc i) l = list-hold w gs d h.1 i (omega arith)

module _ (P : Program) (ports : List (List Signal)) (M : Block ℕ Callee) (i o l : Frame Range × State) (t : State) (β : Names)
    (e_m : nth 9 P.blocks P.main ≡ ok M)
    (et : tie Bits (generics []) (M.inputs ++ M.outputs) ports ≡ ok β)
    (ei : declare (generics []) M.inputs (blanks Wires M.generics) start ≡ ok i)
    (eo : declare (generics []) M.outputs i.0 i.1 ≡ ok o)
    (el : declare (generics []) M.locals o.0 o.1 ≡ ok l)
    (es : unfolds i.1.next (deep i.1.next P 15) M.body (generics []) l.0 l.1 ≡ ok t) (z : List ℕ) where
  tied : Ports (blanks Wires M.generics) start ports β o
  tied = declare-ports (generics []) (M.inputs ++ M.outputs) _ start ports β o (declare-append (generics []) M.inputs M.outputs _ start ei eo) et

  views : (w : Load) → carried w 0 (length (joined ports)) ≡ joined ports → map (view w) o.0 ≡ blanks Bits M.generics ++ β
  views w h = tied.views w h ∙ ap (λ l. l ++ β) (nat-blanks w M.generics)

  fixed-blank : Fixed 0 (blanks Wires M.generics)
  fixed-blank w v a = nat-blanks w M.generics ∙ sym (nat-blanks v M.generics)

  fixed-ports : Fixed o.1.next o.0
  fixed-ports = fixed-declare (generics []) M.outputs i.0 i.1 o (fixed-declare (generics []) M.inputs _ start i fixed-blank ei) eo

  count : i.1.next + (o.1.next - i.1.next) ≡ length (joined ports)
  count = omega (arith, declare-grows (generics []) M.outputs i.0 i.1 o eo, tied.next)

  Main : ℕ → Names → Type 0
  Main d β = Some (generics []) M.locals β (λ β. Holds (AllowsAt P d) M.body (generics []) β)

  good : (d : ℕ) → Good (λ w. Main d (map (view w) o.0)) (λ w. Main 15 (map (view w) o.0)) o.1 t
  unfolding Main
  good d = good-body _ _ (AllowsAt P d) (AllowsAt P 15) (good-deep i.1.next P 15 d) M (generics []) o.0 o.1 t l fixed-ports el es

  none-hold : (w : Load) → AllHold w o.1.gates
  unfolding AllHold
  none-hold w = rw tied.gates tt

  blank_gate : Gate
  blank_gate = record { kind = 0; a = 0; b = 0; c = 0; out = 0 }

  pub there : (d : ℕ) → AllowsAt P d P.main [] ports → NetAllows (net_words i.1.next (o.1.next - i.1.next) t.next t.gates ++ z) (joined ports)
  unfolding AllowsAt BlockAllows Main net_words
  there zero h = absurd h
  there (suc d) h =
      let w : Load = over (λ j. dark) 0 (joined ports) in
      let q : carried w 0 (length (joined ports)) ≡ joined ports = over-read (λ j. dark) 0 (joined ports) in
      let (v, a, g) = (good d).there (λ w v a h. none-hold v) w (none-hold w) (subst (Main d) (sym (views w q)) (ok-when _ et (ok-when _ (nth-any 9 7 P.blocks P.main e_m) h))) in
      record {
        wires = v;
        given = ap (carried v 0) count ∙ sym (carried-agree 0 (length (joined ports)) o.1.next (omega (arith, tied.next)) a) ∙ q;
        hold = λ j h. subst (GateHolds v) (sym (gate-of _ _ _ t.gates z j blank_gate h)) (list-hold v t.gates blank_gate g j h);
      }

  pub back : NetAllows (net_words i.1.next (o.1.next - i.1.next) t.next t.gates ++ z) (joined ports) → AllowsAt P 16 P.main [] ports
  unfolding AllowsAt BlockAllows Main net_words
  back n =
      let g = hold-list n.wires t.gates blank_gate (λ j h. subst (GateHolds n.wires) (gate-of _ _ _ t.gates z j blank_gate h) (n.hold j h)) in
      when-ok _ (nth-any 9 7 P.blocks P.main e_m) (when-ok _ et
      (subst (Main 15) (views n.wires (sym (ap (carried n.wires 0) count) ∙ n.given)) ((good 0).back n.wires g).1))
