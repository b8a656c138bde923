-- The first part of main's unfolding: its inputs, its outputs and its locals have the first wires. Assumes nothing.
use Rattle.std.specs.Prelude.{◌≡◌, refl, ℕ, ◌+◌, ◌-◌, ◌≤◌, List, [], ◌∷◌, length}
use Rattle.std.proofs.Math.Path.{sym}
use Rattle.std.proofs.Common.{ap, ◌∙◌, subst, arith}
use Rattle.rules.specs.Outcome.{Out, ok, refuse, ◌>>=◌, nth}
use Rattle.rules.specs.Syntax.{Decl, Block, Callee, Program}
use Rattle.rules.specs.Values.{Env, generics}
use Rattle.rules.specs.Frames.{Frame as Names, blanks}
use Rattle.rules.specs.Netlist.{net_words}
use Rattle.rules.specs.Unfold.{Range, Wires, State, declare, unfolds, deep, Unfolded, unfold_main}
use Rattle.rules.proofs.Laws.Outcomes.{ok-inj, inv, inv_at, refused, went}
use Rattle.rules.proofs.Laws.Scoped.{names_of}
use Rattle.rules.proofs.Laws.Suits.{Suits, main-suits}
use Rattle.frames.specs.Fresh.{some-state}
use Rattle.unfold.specs.Entering.{blank-many}
use Rattle.unfold.specs.Opening.{declare-many}

-- ---- main's declarations, as the rules go through them

-- how many wires the inputs have; then the names and the state after the outputs
abbrev pub ported : Block ℕ Callee → Out (ℕ × (Names Range × State))
ported M = do
  i ← declare (generics []) M.inputs (blanks Wires M.generics) (some-state 0)
  o ← declare (generics []) M.outputs i.0 i.1
  ok (i.1.next, o)

-- how many wires the inputs have and how many the outputs; then the names and the state where the body begins
abbrev pub begun : Block ℕ Callee → Out (ℕ × (ℕ × (Names Range × State)))
begun M = do
  i ← declare (generics []) M.inputs (blanks Wires M.generics) (some-state 0)
  o ← declare (generics []) M.outputs i.0 i.1
  l ← declare (generics []) M.locals o.0 o.1
  ok (i.1.next, (o.1.next - i.1.next, l))

-- ---- the whole of main

-- the body's statements from there on, and the netlist
abbrev pub finished : Program → Block ℕ Callee → ℕ × (ℕ × (Names Range × State)) → Out Unfolded
finished P M r = do
  s ← unfolds r.0 (deep r.0 P 15) M.body (generics []) r.1.1.0 r.1.1.1
  ok (record { words = net_words r.0 r.1.0 s.next s.gates; steps = s.steps })

regroup : {A B C : Type 0} (o : Out A) (J : A → Out C) (K : A → Out B) (L : B → Out C) → ((a : A) → J a ≡ (K a >>= L)) → (o >>= J) ≡ ((o >>= K) >>= L)
unfolding ◌>>=◌
regroup (ok a) J K L h = h a
regroup (refuse n p) J K L h = refl

module _ (P : Program) (M : Block ℕ Callee) (is : nth 9 P.blocks P.main ≡ ok M) where
  pub main-unfolds : unfold_main P ≡ (begun M >>= finished P M)
  unfolding unfold_main ◌>>=◌
  main-unfolds = rw is
      (regroup (declare (generics []) M.inputs (blanks Wires M.generics) (some-state 0)) _ _ (finished P M) λ i.
      regroup (declare (generics []) M.outputs i.0 i.1) _ _ (finished P M) λ o.
      regroup (declare (generics []) M.locals o.0 o.1) _ _ (finished P M) λ l.
      sym (went (finished P M) refl))

  pub main-refused : {n p : ℕ} → begun M ≡ refuse n p → unfold_main P ≡ refuse n p
  unfolding ◌>>=◌
  main-refused e = main-unfolds ∙ rw e

  module _ {nin nout : ℕ} {σ : Names Range} {s : State} (e : begun M ≡ ok (nin, (nout, (σ, s)))) where
    begun-then : unfold_main P ≡ finished P M (nin, (nout, (σ, s)))
    unfolding ◌>>=◌
    begun-then = main-unfolds ∙ rw e

    pub body_refused : {n p : ℕ} → unfolds nin (deep nin P 15) M.body (generics []) σ s ≡ refuse n p → unfold_main P ≡ refuse n p
    unfolding ◌>>=◌
    body_refused f = begun-then ∙ rw f

    pub body-done : {t : State} → unfolds nin (deep nin P 15) M.body (generics []) σ s ≡ ok t → unfold_main P ≡ ok (record { words = net_words nin nout t.next t.gates; steps = t.steps })
    unfolding ◌>>=◌
    body-done f = begun-then ∙ rw f

-- ---- what its parts are, where all went well

pub declare-grows : (ρ : Env) (ds : List (Decl ℕ)) (σ : Names Range) (s : State) {r : Names Range × State} → declare ρ ds σ s ≡ ok r → s.next ≤ r.1.next
unfolding declare
declare-grows ρ [] σ s e = rw (← (ok-inj e)) (omega arith)
declare-grows ρ (d ∷ ds) σ s e =
    inv_at _ _ _ e λ h _ e₁.
    inv_at _ _ _ e₁ λ _ _ e₂.
    omega (arith, declare-grows ρ ds _ _ e₂)

-- a role for each name
pub begun-suits : (M : Block ℕ Callee) {nin nout : ℕ} {σ : Names Range} {s : State} → begun M ≡ ok (nin, (nout, (σ, s))) → Suits σ (names_of M)
begun-suits M e =
    inv _ _ e λ i ei e₁.
    inv _ _ e₁ λ o eo e₂.
    inv _ _ e₂ λ l el e₃.
    subst (λ σ. Suits σ (names_of M)) (ap (λ r. r.1.1.0) (ok-inj e₃)) (main-suits (generics []) M (some-state 0) ei eo el)

-- ---- its parts, one after the other

-- no wire is given back
pub ported-grows : (M : Block ℕ Callee) {nin : ℕ} {σ : Names Range} {s : State} → ported M ≡ ok (nin, (σ, s)) → nin ≤ s.next
ported-grows M {nin} {σ} {s} e =
    inv _ _ e λ i ei e₁.
    inv _ _ e₁ λ o eo e₂.
    let p = ap (λ r. r.0) (ok-inj e₂) in
    let q = ap (λ r. r.1.1.next) (ok-inj e₂) in
    omega (arith, declare-grows (generics []) M.outputs i.0 i.1 eo, p, q)

pub ported-many : (M : Block ℕ Callee) {nin : ℕ} {σ : Names Range} {s : State} → ported M ≡ ok (nin, (σ, s)) → length σ ≡ length M.generics + length M.inputs + length M.outputs
ported-many M {nin} {σ} {s} e =
    inv _ _ e λ i ei e₁.
    inv _ _ e₁ λ o eo e₂.
    let p = ap (λ r. length r.1.0) (ok-inj e₂) in
    omega (arith, p, blank-many M.generics, declare-many (generics []) M.inputs (blanks Wires M.generics) (some-state 0) ei, declare-many (generics []) M.outputs i.0 i.1 eo)

module _ (M : Block ℕ Callee) where
  pub inputs-refused : {n p : ℕ} → declare (generics []) M.inputs (blanks Wires M.generics) (some-state 0) ≡ refuse n p → ported M ≡ refuse n p
  inputs-refused e = refused _ e

  module _ {σ : Names Range} {s : State} (e : declare (generics []) M.inputs (blanks Wires M.generics) (some-state 0) ≡ ok (σ, s)) where
    pub outputs-refused : {n p : ℕ} → declare (generics []) M.outputs σ s ≡ refuse n p → ported M ≡ refuse n p
    unfolding ◌>>=◌
    outputs-refused f = rw e (refused _ f)

    pub outputs-done : {o : Names Range × State} → declare (generics []) M.outputs σ s ≡ ok o → ported M ≡ ok (s.next, o)
    unfolding ◌>>=◌
    outputs-done f = rw (e, f)

  -- then the locals
  after-ports : begun M ≡ (ported M >>= λ r. declare (generics []) M.locals r.1.0 r.1.1 >>= λ l. ok (r.0, (r.1.1.next - r.0, l)))
  after-ports =
      regroup (declare (generics []) M.inputs (blanks Wires M.generics) (some-state 0)) _ _ _ λ i.
      regroup (declare (generics []) M.outputs i.0 i.1) _ _ _ λ o.
      sym (went (λ r. declare (generics []) M.locals r.1.0 r.1.1 >>= λ l. ok (r.0, (r.1.1.next - r.0, l))) refl)

  pub ports-refused : {n p : ℕ} → ported M ≡ refuse n p → begun M ≡ refuse n p
  ports-refused e = after-ports ∙ refused _ e

  module _ {nin : ℕ} {σ : Names Range} {s : State} (e : ported M ≡ ok (nin, (σ, s))) where
    pub locals-refused : {n p : ℕ} → declare (generics []) M.locals σ s ≡ refuse n p → begun M ≡ refuse n p
    unfolding ◌>>=◌
    locals-refused f = after-ports ∙ rw e (refused _ f)

    pub locals-done : {l : Names Range × State} → declare (generics []) M.locals σ s ≡ ok l → begun M ≡ ok (nin, (s.next - nin, l))
    unfolding ◌>>=◌
    locals-done f = after-ports ∙ rw (e, f)
