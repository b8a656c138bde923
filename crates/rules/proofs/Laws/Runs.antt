-- What a run knows: it holds in everything that the netlist allows, there is one value for a wire, and if all wires are known exactly one
-- combination is allowed. Assumes nothing.
use Rattle.std.specs.Prelude.{◌≡◌, length, get_or, take}
use Rattle.std.proofs.Math.Path.{refl, sym, ap₂}
use Rattle.std.proofs.Common.{ap, ◌∙◌, subst, ext_get_or}
use Prim.Native.Nat.{ℕ, zero, suc, ◌+◌, ◌≤◌, ◌<◌}
use native.Mathlib.Omega.{arith}
use Rattle.std.proofs.Math.Decide.{dec_lt}
use mathlib.Core.List.{List, [], ◌∷◌, ◌++◌, map}
use Rattle.rules.specs.declared.Gate.{Gate}
use Rattle.rules.specs.Primitives.{inputs_of}
use Rattle.rules.specs.Netlist.{inputs, outputs, wires, gates, gate_at, inputs_at, Slot, Fine, WellFormed}
use Rattle.rules.specs.Meaning.{Signal, dark, makes, GateHolds, carried, NetAllows}
use Rattle.rules.specs.Run.{Known, given, made, AllKnown, none, more}
use Rattle.rules.proofs.Laws.Carried.{Load, carried-at, carried-length, carried-append, append_inj}

-- What a run knows has that value in everything that the netlist allows with these inputs.
module _ (net : List ℕ) (ins : List Signal) (w : Load) (as-given : carried w 0 (inputs net) ≡ ins) (hold : (i : ℕ) → i < gates net → GateHolds w (gate_at net i)) where
  mutual
    pub sound : {i : ℕ} {b : Signal} → Known net ins i b → w i ≡ b
    sound {i} (given h e) = sym (carried-at w 0 (inputs net) i h ∙ ap w (omega arith)) ∙ ap (λ l. get_or l i dark) as-given ∙ e
    sound (made j h o k t) = ap w (sym o) ∙ sym (hold j h) ∙ ap (makes (gate_at net j).kind) (all_sound k) ∙ t

    all_sound : {is : List ℕ} {bs : List Signal} → AllKnown net ins is bs → map w is ≡ bs
    all_sound none = refl
    all_sound (more k ks) = ap₂ ◌∷◌ (sound k) (all_sound ks)

-- ---- a run has one value for a wire

pub one-driver : (net : List ℕ) → WellFormed net → (j k : ℕ) → j < gates net → k < gates net → (gate_at net j).out ≡ (gate_at net k).out → j ≡ k
one-driver net wf j k g h e = go (dec_lt j k) (dec_lt k j)
  where
    go : Dec (j < k) → Dec (k < j) → j ≡ k
    go (yes l) m = absurd (wf.once j k l h e)
    go (no l) (yes m) = absurd (wf.once k j m g (sym e))
    go (no l) (no m) = omega arith

module _ (net : List ℕ) (wf : WellFormed net) (ins : List Signal) where
  mutual
    pub functional : {i : ℕ} {b : Signal} → Known net ins i b → {c : Signal} → Known net ins i c → b ≡ c
    functional (given h e) (given k f) = sym e ∙ f
    functional (given h e) (made j l o k t) = absurd (omega (arith, (wf.fine j l).free))
    functional (made j l o k t) (given h e) = absurd (omega (arith, (wf.fine j l).free))
    functional (made j l o k t) (made {bs = bs} j' l' o' k' t') =
        let p : j' ≡ j = one-driver net wf j' j l' l (o' ∙ sym o) in
        let q = all-functional k (subst (λ j. AllKnown net ins (inputs_at (gate_at net j)) bs) p k') in
        sym t ∙ ap (makes (gate_at net j).kind) q ∙ ap (λ j. makes (gate_at net j).kind bs) (sym p) ∙ t'

    all-functional : {is : List ℕ} {bs : List Signal} → AllKnown net ins is bs → {cs : List Signal} → AllKnown net ins is cs → bs ≡ cs
    all-functional none none = refl
    all-functional (more k ks) (more l ls) = ap₂ ◌∷◌ (functional k l) (all-functional ks ls)

-- ---- the inputs of a gate are wires

abbrev pub Below : ℕ → List ℕ → Type 0
Below n [] = Unit {0}
Below n (i ∷ is) = (i < n) × Below n is

below-slots : (n ws : ℕ) (a b c : ℕ) → Slot n ws 0 a → Slot n ws 1 b → Slot n ws 2 c → Below ws (take n (a ∷ b ∷ c ∷ []))
below-slots zero ws a b c p q r = tt
below-slots (suc zero) ws a b c p q r = (p.0 (omega arith), tt)
below-slots (suc (suc zero)) ws a b c p q r = (p.0 (omega arith), (q.0 (omega arith), tt))
below-slots (suc (suc (suc n))) ws a b c p q r = (p.0 (omega arith), (q.0 (omega arith), (r.0 (omega arith), below_none n ws)))
  where
    below_none : (n ws : ℕ) → Below ws (take n [])
    below_none zero ws = tt
    below_none (suc n) ws = tt

pub below-inputs : (ws ins : ℕ) (g : Gate) → Fine ws ins g → Below ws (inputs_at g)
below-inputs ws ins g f = below-slots (inputs_of g.kind) ws g.a g.b g.c f.a f.b f.c

-- ---- if every wire is known, exactly one combination is allowed with these inputs

module _ (net : List ℕ) (wf : WellFormed net) (ins : List Signal) (len : length ins ≡ inputs net)
    (all : (i : ℕ) → i < wires net → (b : Signal) × Known net ins i b) where
  val : (i : ℕ) → Dec (i < wires net) → Signal
  val i (yes h) = (all i h).0
  val i (no h) = dark

  pub shown : Load
  shown i = val i (dec_lt i (wires net))

  val-known : (i : ℕ) (d : Dec (i < wires net)) → i < wires net → Known net ins i (val i d)
  unfolding val
  val-known i (yes h) k = (all i h).1
  val-known i (no h) k = absurd (h k)

  shown-known : (i : ℕ) → i < wires net → Known net ins i (shown i)
  unfolding shown
  shown-known i k = val-known i (dec_lt i (wires net)) k

  all_shown : (is : List ℕ) → Below (wires net) is → AllKnown net ins is (map shown is)
  all_shown [] h = none
  all_shown (i ∷ is) h = more (shown-known i h.0) (all_shown is h.1)

  gate-known : (j i : ℕ) (b : Signal) → j < gates net → (gate_at net j).out ≡ i → Known net ins i b → makes (gate_at net j).kind (map shown (inputs_at (gate_at net j))) ≡ b
  gate-known j i b l o (given h e) = absurd (omega (arith, (wf.fine j l).free))
  gate-known j i b l o (made {bs = bs} j' l' o' k' t') =
      let p : j' ≡ j = one-driver net wf j' j l' l (o' ∙ sym o) in
      let q = all-functional net wf ins (all_shown (inputs_at (gate_at net j)) (below-inputs _ _ _ (wf.fine j l))) (subst (λ j. AllKnown net ins (inputs_at (gate_at net j)) bs) p k') in
      ap (makes (gate_at net j).kind) q ∙ ap (λ j. makes (gate_at net j).kind bs) (sym p) ∙ t'

  shown-holds : (j : ℕ) → j < gates net → GateHolds shown (gate_at net j)
  shown-holds j h = gate-known j _ _ h refl (shown-known _ (wf.fine j h).out)

  shown-ins : carried shown 0 (inputs net) ≡ ins
  shown-ins = ext_get_or dark _ _ (carried-length shown 0 (inputs net) ∙ sym len) λ i h.
      let k : i < inputs net = rw (carried-length shown 0 (inputs net)) at h in
      carried-at shown 0 (inputs net) i k ∙ ap shown (omega arith) ∙ functional net wf ins (shown-known i (omega (arith, wf.ports))) (given k refl)

  pub outs : List Signal
  outs = carried shown (inputs net) (outputs net)

  pub allowed : NetAllows net (ins ++ outs)
  unfolding outs
  allowed = record {
    wires = shown;
    given = carried-append shown 0 (inputs net) (outputs net) ∙ ap₂ ◌++◌ shown-ins (ap (λ b. carried shown b (outputs net)) (omega arith));
    hold = shown-holds;
  }

  agree : (w : Load) (n b : ℕ) → b + n ≤ wires net → ((i : ℕ) → i < wires net → w i ≡ shown i) → carried w b n ≡ carried shown b n
  unfolding carried
  agree w zero b h f = refl
  agree w (suc n) b h f = ap₂ ◌∷◌ (f b (omega arith)) (agree w n (suc b) (omega arith) f)

  pub only : (other : List Signal) → NetAllows net (ins ++ other) → other ≡ outs
  unfolding outs
  only other n =
      let w = n.wires in
      let e = sym (carried-append w 0 (inputs net) (outputs net)) ∙ n.given in
      let (l, r) = append_inj (carried w 0 (inputs net)) ins _ other (carried-length w 0 (inputs net) ∙ sym len) e in
      let z : inputs net ≡ 0 + inputs net = omega arith in
      sym r ∙ sym (ap (λ b. carried w b (outputs net)) z) ∙ agree w (outputs net) (inputs net) wf.ports (λ i h. sound net ins w l n.hold (shown-known i h))
