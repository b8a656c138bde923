-- The rules' unfolding of one statement, in the pieces that the code has: what each member of the cycle cites. Assumes nothing.
use Rattle.std.specs.Prelude.{◌≡◌, refl, ℕ, List, ◌++◌, map, ℤ, ◌-ℤ◌}
use Rattle.std.proofs.Common.{sym, ap, ◌∙◌, subst}
use Rattle.rules.specs.Outcome.{Out, ok, refuse, ◌>>=◌, at}
use Rattle.rules.specs.Syntax.{Exp, Arg, Stmts, call, loop, Block, Callee, gate, block}
use Rattle.rules.specs.Values.{Env, generics, bound, eval, evals, rounds}
use Rattle.rules.specs.Frames.{Frame as Names, blanks, resolves, tie, ends}
use Rattle.rules.specs.Unfold.{Range, Wires, State, Act, tick, declare, emit, gate_on, add_gate, act, turns, unfolds, enter}
use Rattle.rules.proofs.Laws.Outcomes.{no_ok, ok-inj, inv}
use Rattle.values.specs.Pairs.{both-bounds}
use Rattle.unfold.specs.Entering.{entered}
use Rattle.unfold.specs.Opening.{opened}
use Rattle.unfold.specs.Adding.{added}

-- what an opened call is made of
pub record Opened (ρ : Env) (σ : Names Range) (gs : List (Exp ℕ)) (args : List (Arg ℕ)) (B : Block ℕ Callee) (s : State) (vs : List ℤ) (r : Names Range × State) : Type 0 where
  pub wires : List Range
  pub names : Names Range
  pub evals : evals ρ gs ≡ ok vs
  pub resolves : resolves Wires ρ σ args ≡ ok wires
  pub tie : tie Wires (generics vs) (B.inputs ++ B.outputs) wires ≡ ok names
  pub declare : declare (generics vs) B.locals (blanks Wires B.generics ++ names) s ≡ ok r

pub opened-parts : (ρ : Env) (σ : Names Range) (gs : List (Exp ℕ)) (args : List (Arg ℕ)) (B : Block ℕ Callee) (s : State) {vs : List ℤ} {r : Names Range × State} → opened ρ σ gs args B s ≡ ok (vs, r) → Opened ρ σ gs args B s vs r
opened-parts ρ σ gs args B s {vs} {r} e =
    inv _ _ e λ vs₁ ev e₁.
    inv _ _ e₁ λ rs er e₂.
    inv _ _ e₂ λ r₁ en e₃.
    inv _ _ en λ τ eτ ed.
    let x : vs₁ ≡ vs = ap (λ x. x.0) (ok-inj e₃) in
    let y : r₁ ≡ r = ap (λ x. x.1) (ok-inj e₃) in
    subst (λ v. Opened ρ σ gs args B s v r) x (subst (λ r. Opened ρ σ gs args B s vs₁ r) y (record { wires = rs; names = τ; evals = ev; resolves = er; tie = eτ; declare = ed }))

pub record Added (nin k : ℕ) (ρ : Env) (σ : Names Range) (gs : List (Exp ℕ)) (args : List (Arg ℕ)) (s t : State) : Type 0 where
  pub values : List ℤ
  pub wires : List Range
  pub evals : evals ρ gs ≡ ok values
  pub resolves : resolves Wires ρ σ args ≡ ok wires
  pub ends : ends Wires k wires ≡ ok tt
  pub emit : emit nin (gate_on k (map (λ r. r.base) wires)) s ≡ ok t

pub added-parts : (nin k : ℕ) (ρ : Env) (σ : Names Range) (gs : List (Exp ℕ)) (args : List (Arg ℕ)) (s : State) {t : State} → added nin k ρ σ gs args s ≡ ok t → Added nin k ρ σ gs args s t
added-parts nin k ρ σ gs args s e =
    inv _ _ e λ vs ev e₁.
    inv _ _ e₁ λ rs er e₂.
    inv _ _ e₂ λ _ en e₃.
    record { values = vs; wires = rs; evals = ev; resolves = er; ends = en; emit = e₃ }

module _ (nin : ℕ) (deeper : ℕ → Out Act) (p : ℕ) (gs : List (Exp ℕ)) (ins outs : List (Arg ℕ)) (rest : Stmts ℕ Callee) (ρ : Env) (σ : Names Range) (s : State) where
  module _ (b : ℕ) (within : ℕ → Out Act) (B : Block ℕ Callee) {s₁ : State} (t : tick s ≡ ok s₁) (d : deeper b ≡ ok (enter nin within B)) where
    parts : unfolds nin deeper (call p (block b) gs ins outs rest) ρ σ s
        ≡ (at p (evals ρ gs) >>= λ vs. at p (resolves Wires ρ σ (ins ++ outs)) >>= λ rs. enter nin within B p vs rs s₁ >>= λ s₂. unfolds nin deeper rest ρ σ s₂)
    unfolding unfolds act at ◌>>=◌
    parts = rw (t, d)

    -- the block is entered, and its body unfolded
    pub block-opened : {vs : List ℤ} {σ' : Names Range} {s₂ : State} → opened ρ σ gs (ins ++ outs) B s₁ ≡ ok (vs, (σ', s₂))
        → unfolds nin deeper (call p (block b) gs ins outs rest) ρ σ s ≡ (unfolds nin within B.body (generics vs) σ' s₂ >>= λ s₃. unfolds nin deeper rest ρ σ s₃)
    unfolding enter at ◌>>=◌
    block-opened e = let o = opened-parts ρ σ gs (ins ++ outs) B s₁ e in parts ∙ rw (o.evals, o.resolves, o.tie, o.declare)

  -- a primitive: one gate more
  pub gate-added : (k : ℕ) {s₁ s₂ : State} → tick s ≡ ok s₁ → added nin k ρ σ gs (ins ++ outs) s₁ ≡ ok s₂ → unfolds nin deeper (call p (gate k) gs ins outs rest) ρ σ s ≡ unfolds nin deeper rest ρ σ s₂
  unfolding unfolds act add_gate at ◌>>=◌
  gate-added k {s₁} t e = let o = added-parts nin k ρ σ gs (ins ++ outs) s₁ e in rw (t, o.evals, o.resolves, o.ends, o.emit)

-- ---- refusals: the same number, at the statement's place

renumber : {A B : Type 0} {n q k r : ℕ} → ◌≡◌ {A = Out A} (refuse n q) (refuse k r) → (p : ℕ) → ◌≡◌ {A = Out B} (refuse n p) (refuse k p)
renumber {n = n} {k = k} e p = let x : n ≡ k = cc in rw x

-- two parts, and what comes after them
at-two : {A B X Y : Type 0} (o : Out A) (q : Out B) (L : A → B → Out X) (K : A → B → Out Y) (p : ℕ) {k r : ℕ} → ((a : A) (b : B) → o ≡ ok a → q ≡ ok b → L a b ≡ refuse k r → K a b ≡ refuse k p)
    → (o >>= λ a. q >>= λ b. L a b) ≡ refuse k r → (at p o >>= λ a. at p q >>= λ b. K a b) ≡ refuse k p
unfolding at ◌>>=◌
at-two (ok a) (ok b) L K p f e = f a b refl refl e
at-two (ok a) (refuse n r) L K p f e = renumber e p
at-two (refuse n r) q L K p f e = renumber e p

at-then : {A B X Y : Type 0} (o : Out A) (q : A → Out B) (K : A → B → Out X) (R : X → Out Y) (p : ℕ) {k r : ℕ} → (o >>= q) ≡ refuse k r → ((at p o >>= λ a. at p (q a) >>= λ b. K a b) >>= R) ≡ refuse k p
unfolding at ◌>>=◌
at-then (ok a) q K R p e = rw e
at-then (refuse n r) q K R p e = renumber e p

abbrev ending : Block ℕ Callee → State → List ℤ → List Range → Out (List ℤ × (Names Range × State))
ending B s vs rs = do
  r ← entered (generics vs) B rs s
  ok (vs, r)

no-pair : {A B : Type 0} (o : Out A) (b : B) {k r : ℕ} → ◌≡◌ {A = Out (B × A)} (o >>= λ a. ok (b, a)) (refuse k r) → o ≡ refuse k r
unfolding ◌>>=◌
no-pair (ok a) b e = absurd (no_ok (sym e))
no-pair (refuse n q) b {k} {r} e = let x : n ≡ k = cc in let y : q ≡ r = cc in rw (x, y)

module _ (nin : ℕ) (deeper : ℕ → Out Act) (p : ℕ) (gs : List (Exp ℕ)) (ins outs : List (Arg ℕ)) (rest : Stmts ℕ Callee) (ρ : Env) (σ : Names Range) (s : State) where
  -- generics, a subscript, a port or a local
  pub block_refused : (b : ℕ) (within : ℕ → Out Act) (B : Block ℕ Callee) {s₁ : State} {k q : ℕ} → tick s ≡ ok s₁ → deeper b ≡ ok (enter nin within B) → opened ρ σ gs (ins ++ outs) B s₁ ≡ refuse k q
      → unfolds nin deeper (call p (block b) gs ins outs rest) ρ σ s ≡ refuse k p
  unfolding enter
  block_refused b within B {s₁} t d e =
      parts nin deeper p gs ins outs rest ρ σ s b within B t d
      ∙ at-two (evals ρ gs) (resolves Wires ρ σ (ins ++ outs)) (ending B s₁) _ p
      (λ vs rs _ _ f. at-then (tie Wires (generics vs) (B.inputs ++ B.outputs) rs) (λ τ. declare (generics vs) B.locals (blanks Wires B.generics ++ τ) s₁) _ _ p
      (no-pair (entered (generics vs) B rs s₁) vs f)) e

at_last : {A X Y : Type 0} (o : Out A) (q : A → Out X) (R : X → Out Y) (p : ℕ) {k r : ℕ} → (o >>= q) ≡ refuse k r → ((at p o >>= λ a. at p (q a)) >>= R) ≡ refuse k p
unfolding at ◌>>=◌
at_last (ok a) q R p e = rw e
at_last (refuse n r) q R p e = renumber e p

module _ (nin : ℕ) (deeper : ℕ → Out Act) (p : ℕ) (gs : List (Exp ℕ)) (ins outs : List (Arg ℕ)) (rest : Stmts ℕ Callee) (ρ : Env) (σ : Names Range) (s : State) where
  gate-parts : (k : ℕ) {s₁ : State} → tick s ≡ ok s₁ → unfolds nin deeper (call p (gate k) gs ins outs rest) ρ σ s
      ≡ (at p (evals ρ gs) >>= λ vs. at p (resolves Wires ρ σ (ins ++ outs)) >>= λ rs. add_gate nin k p vs rs s₁ >>= λ s₂. unfolds nin deeper rest ρ σ s₂)
  unfolding unfolds act at ◌>>=◌
  gate-parts k t = rw t

  -- generics, a subscript, 17 or 18
  pub gate-refused : (k : ℕ) {s₁ : State} {n q : ℕ} → tick s ≡ ok s₁ → added nin k ρ σ gs (ins ++ outs) s₁ ≡ refuse n q → unfolds nin deeper (call p (gate k) gs ins outs rest) ρ σ s ≡ refuse n p
  unfolding add_gate
  gate-refused k {s₁} t e =
      gate-parts k t
      ∙ at-two (evals ρ gs) (resolves Wires ρ σ (ins ++ outs)) (λ vs rs. ends Wires k rs >>= λ _. emit nin (gate_on k (map (λ r. r.base) rs)) s₁) _ p
      (λ vs rs _ _ f. at_last (ends Wires k rs) (λ _. emit nin (gate_on k (map (λ r. r.base) rs)) s₁) _ p f) e

abbrev pairing : ℤ → ℤ → Out (ℤ × ℤ)
pairing x y = ok (x, y)

-- a bound out of range
module _ (nin : ℕ) (deeper : ℕ → Out Act) (p i : ℕ) (a b : Exp ℕ) (body rest : Stmts ℕ Callee) (ρ : Env) (σ : Names Range) (s : State) where
  loop-parts : {s₁ : State} → tick s ≡ ok s₁ → unfolds nin deeper (loop p i a b body rest) ρ σ s
      ≡ (at p (eval ρ a) >>= λ x. at p (eval ρ b) >>= λ y. turns p (λ v t. unfolds nin deeper body (bound ρ i v) σ t) x (rounds (y -ℤ x)) s₁ >>= λ s₂. unfolds nin deeper rest ρ σ s₂)
  unfolding unfolds at ◌>>=◌
  loop-parts t = rw t

  pub loop-refused : {s₁ : State} {k q : ℕ} → tick s ≡ ok s₁ → both-bounds ρ a b ≡ refuse k q → unfolds nin deeper (loop p i a b body rest) ρ σ s ≡ refuse k p
  loop-refused t e = loop-parts t ∙ at-two (eval ρ a) (eval ρ b) pairing _ p (λ x y _ _ f. absurd (no_ok (sym f))) e
