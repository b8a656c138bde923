-- 01, "Order", of the unfolding: what is refused first. Each law holds whatever else is wrong with what comes after. Assumes nothing.
use Rattle.std.specs.Prelude.{◌≡◌, refl, ℕ, suc, ◌+◌, ◌≤◌, ◌<◌, true, false, ◌||◌, List, ◌∷◌, ◌++◌, length, ltb, eqb, ℤ, ◌-ℤ◌}
use borrow.Author.Tests.{lt-ltb, le-ltb, lt-leb}
use Rattle.rules.specs.declared.Gate.{Gate}
use Rattle.rules.specs.Outcome.{Out, ok, refuse, ◌>>=◌, at, need, nth}
use Rattle.rules.specs.Syntax.{Exp, Arg, part, vector, Decl, Stmts, call, loop, Block, Callee, block, Program}
use Rattle.rules.specs.Values.{Env, generics, bound, eval, evals, rounds, Shape, shape}
use Rattle.rules.specs.Frames.{Cells, Sig, Frame, blanks, resolve, resolves, tie}
use Rattle.rules.specs.Unfold.{Range, Wires, State, Act, tick, declare, driven, emit, act, turns, unfolds, enter, deep}

-- ---- "A call: 15; for a block 14; generics; every subscript left to right"

-- "step 20,001"
pub step-late : (s : State) → 20000 ≤ s.steps → tick s ≡ refuse 15 0
unfolding tick need ◌>>=◌
step-late s l = rw (le-ltb s.steps 20000 l)

-- "a body at depth 17"
pub too-deep : (nin : ℕ) (P : Program) (b : ℕ) → deep nin P 0 b ≡ refuse 14 0
unfolding deep
too-deep nin P b = refl

module _ (nin : ℕ) (deeper : ℕ → Out Act) (p : ℕ) (gs : List (Exp ℕ)) (ins outs : List (Arg ℕ)) (rest : Stmts ℕ Callee) (ρ : Env) (σ : Frame Range) (s : State) where
  pub call-late : (c : Callee) {k q : ℕ} → tick s ≡ refuse k q → unfolds nin deeper (call p c gs ins outs rest) ρ σ s ≡ refuse k p
  unfolding unfolds at ◌>>=◌
  call-late c e = rw e

  pub block-deep : (b : ℕ) {s₁ : State} {k q : ℕ} → tick s ≡ ok s₁ → deeper b ≡ refuse k q → unfolds nin deeper (call p (block b) gs ins outs rest) ρ σ s ≡ refuse k p
  unfolding unfolds act at ◌>>=◌
  block-deep b e f = rw (e, f)

  module _ (c : Callee) {s₁ : State} {go : Act} (t : tick s ≡ ok s₁) (a : act nin deeper c ≡ ok go) where
    pub call-generics : {k q : ℕ} → evals ρ gs ≡ refuse k q → unfolds nin deeper (call p c gs ins outs rest) ρ σ s ≡ refuse k p
    unfolding unfolds at ◌>>=◌
    call-generics e = rw (t, a, e)

    pub call-subscripts : {vs : List ℤ} {k q : ℕ} → evals ρ gs ≡ ok vs → resolves Wires ρ σ (ins ++ outs) ≡ refuse k q → unfolds nin deeper (call p c gs ins outs rest) ρ σ s ≡ refuse k p
    unfolding unfolds at ◌>>=◌
    call-subscripts e f = rw (t, a, e, f)

module _ {A : Type 0} (C : Cells A) (ρ : Env) (σ : Frame A) where
  pub subscript-left : (x : Arg ℕ) (xs : List (Arg ℕ)) {k q : ℕ} → resolve C ρ σ x ≡ refuse k q → resolves C ρ σ (x ∷ xs) ≡ refuse k q
  unfolding resolves ◌>>=◌
  subscript-left x xs e = rw e

  -- "10 before 12"
  pub subscript-value : (i : ℕ) (e : Exp ℕ) {x : Sig A} {k q : ℕ} → nth 7 σ i ≡ ok x → eval ρ e ≡ refuse k q → resolve C ρ σ (part i e) ≡ refuse k q
  unfolding resolve ◌>>=◌
  subscript-value i e n f = rw (n, f)

-- ---- "then for a block each port's bounds (10, 11) and 13, then its locals"

module _ (nin : ℕ) (deeper : ℕ → Out Act) (B : Block ℕ Callee) (p : ℕ) (vs : List ℤ) (rs : List Range) (s : State) where
  pub block-ports : {k q : ℕ} → tie Wires (generics vs) (B.inputs ++ B.outputs) rs ≡ refuse k q → enter nin deeper B p vs rs s ≡ refuse k p
  unfolding enter at ◌>>=◌
  block-ports e = rw e

  pub block-locals : {τ : Frame Range} {k q : ℕ} → tie Wires (generics vs) (B.inputs ++ B.outputs) rs ≡ ok τ
      → declare (generics vs) B.locals (blanks Wires B.generics ++ τ) s ≡ refuse k q → enter nin deeper B p vs rs s ≡ refuse k p
  unfolding enter at ◌>>=◌
  block-locals e f = rw (e, f)

module _ {A : Type 0} (C : Cells A) (ρ : Env) (d : Decl ℕ) (ds : List (Decl ℕ)) (c : A) (cs : List A) where
  pub port-bounds : {k q : ℕ} → shape ρ d.sort ≡ refuse k q → tie C ρ (d ∷ ds) (c ∷ cs) ≡ refuse k q
  unfolding tie ◌>>=◌
  port-bounds e = rw e

  pub port-length : {h : Shape} → shape ρ d.sort ≡ ok h → eqb h.size (C.size c) ≡ false → tie C ρ (d ∷ ds) (c ∷ cs) ≡ refuse 13 0
  unfolding tie need ◌>>=◌
  port-length e f = rw (e, f)

-- ---- "for a primitive 17, then 18"

module _ (nin : ℕ) (g : Gate) (s : State) where
  pub gate-late : 1024 ≤ length s.gates → emit nin g s ≡ refuse 17 0
  unfolding emit need ◌>>=◌
  gate-late l = rw (le-ltb (length s.gates) 1024 l)

  pub gate-taken : length s.gates < 1024 → (ltb g.out nin || driven s.gates g.out) ≡ true → emit nin g s ≡ refuse 18 0
  unfolding emit need ◌>>=◌
  gate-taken l t = rw (lt-ltb (length s.gates) 1024 l, t)

-- ---- "A loop: 15, bounds, then 15 at each round"

module _ (nin : ℕ) (deeper : ℕ → Out Act) (p i : ℕ) (a b : Exp ℕ) (body rest : Stmts ℕ Callee) (ρ : Env) (σ : Frame Range) (s : State) where
  pub loop-late : {k q : ℕ} → tick s ≡ refuse k q → unfolds nin deeper (loop p i a b body rest) ρ σ s ≡ refuse k p
  unfolding unfolds at ◌>>=◌
  loop-late e = rw e

  pub loop-first : {s₁ : State} {k q : ℕ} → tick s ≡ ok s₁ → eval ρ a ≡ refuse k q → unfolds nin deeper (loop p i a b body rest) ρ σ s ≡ refuse k p
  unfolding unfolds at ◌>>=◌
  loop-first t e = rw (t, e)

  pub loop-second : {s₁ : State} {x : ℤ} {k q : ℕ} → tick s ≡ ok s₁ → eval ρ a ≡ ok x → eval ρ b ≡ refuse k q → unfolds nin deeper (loop p i a b body rest) ρ σ s ≡ refuse k p
  unfolding unfolds at ◌>>=◌
  loop-second t e f = rw (t, e, f)

  -- the bounds are worked out once, before the first round: other bounds with the same values there give the same rounds
  pub bounds-once : (a' b' : Exp ℕ) → eval ρ a' ≡ eval ρ a → eval ρ b' ≡ eval ρ b → unfolds nin deeper (loop p i a' b' body rest) ρ σ s ≡ unfolds nin deeper (loop p i a b body rest) ρ σ s
  unfolding unfolds
  bounds-once a' b' e f = rw (e, f)

  pub loop-rounds : {s₁ : State} {x y : ℤ} → tick s ≡ ok s₁ → eval ρ a ≡ ok x → eval ρ b ≡ ok y
      → unfolds nin deeper (loop p i a b body rest) ρ σ s ≡ (turns p (λ v t. unfolds nin deeper body (bound ρ i v) σ t) x (rounds (y -ℤ x)) s₁ >>= λ s₂. unfolds nin deeper rest ρ σ s₂)
  unfolding unfolds at ◌>>=◌
  loop-rounds t e f = rw (t, e, f)

pub round-late : (p : ℕ) (round : ℤ → State → Out State) (v : ℤ) (n : ℕ) (s : State) {k q : ℕ} → tick s ≡ refuse k q → turns p round v (suc n) s ≡ refuse k p
unfolding turns at ◌>>=◌
round-late p round v n s e = rw e

-- ---- "A declaration: first bound, second bound, 11, 16"

module _ (ρ : Env) where
  pub bound-first : (a b : Exp ℕ) {k q : ℕ} → eval ρ a ≡ refuse k q → shape ρ (vector a b) ≡ refuse k q
  unfolding shape ◌>>=◌
  bound-first a b e = rw e

  pub bound-second : (a b : Exp ℕ) {x : ℤ} {k q : ℕ} → eval ρ a ≡ ok x → eval ρ b ≡ refuse k q → shape ρ (vector a b) ≡ refuse k q
  unfolding shape ◌>>=◌
  bound-second a b e f = rw (e, f)

  module _ (d : Decl ℕ) (ds : List (Decl ℕ)) (σ : Frame Range) (s : State) where
    pub declared-bounds : {k q : ℕ} → shape ρ d.sort ≡ refuse k q → declare ρ (d ∷ ds) σ s ≡ refuse k d.name.place
    unfolding declare at ◌>>=◌
    declared-bounds e = rw e

    pub declared-wires : {h : Shape} → shape ρ d.sort ≡ ok h → 1536 < s.next + h.size → declare ρ (d ∷ ds) σ s ≡ refuse 16 d.name.place
    unfolding declare need at ◌>>=◌
    declared-wires {h} e l = rw (e, lt-leb (s.next + h.size) 1536 l)
