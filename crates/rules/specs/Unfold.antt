-- 01, "Unfolding": a resolved program's wires, gates and steps, and refusals 10 to 18 in their order. Assumes nothing.
use Rattle.std.specs.Prelude.{ℕ, zero, suc, ◌+◌, ◌-◌, Bool, false, not, ◌||◌, List, [], ◌∷◌, ◌++◌, map, length, get_or, take, leb, ltb, eqb, ℤ, ◌-ℤ◌}
use Rattle.std.proofs.Math.IntN.{suc_ℤ}
use Rattle.rules.specs.declared.Gate.{Gate}
use Rattle.rules.specs.Outcome.{Out, ok, refuse, ◌>>=◌, at, need, nth}
use Rattle.rules.specs.Primitives.{inputs_of}
use Rattle.rules.specs.Syntax.{Stmts, end, call, loop, Decl, Block, Callee, gate, block, Program}
use Rattle.rules.specs.Values.{Env, generics, bound, eval, evals, rounds, shape}
use Rattle.rules.specs.Frames.{Cells, Frame, blanks, resolves, tie, ends}
use Rattle.rules.specs.Netlist.{unused, net_words}

-- wires base, base + 1, .. base + len - 1
pub record Range : Type 0 where
  pub base : ℕ
  pub len : ℕ

abbrev pub Wires : Cells Range
Wires = record { size = λ r. r.len; one = λ r k. record { base = r.base + k; len = 1 }; none = record { base = 0; len = 0 } }

-- the next wire's number, the steps so far, and the gates so far
pub record State : Type 0 where
  pub next : ℕ
  pub steps : ℕ
  pub gates : List Gate

-- "A step is one statement begun or one loop round begun"; "step 20,001" (15)
unfoldable pub tick : State → Out State
tick s = do
  _ ← need (ltb s.steps 20000) 15
  ok (record { next = s.next; steps = suc s.steps; gates = s.gates })

-- declared names, each with fresh wires, behind the names σ: its bounds, 11, then "wire 1,537" (16)
unfoldable pub declare : Env → List (Decl ℕ) → Frame Range → State → Out (Frame Range × State)
declare ρ [] σ s = ok (σ, s)
declare ρ (d ∷ ds) σ s = do
  h ← at d.name.place (shape ρ d.sort)
  _ ← at d.name.place (need (leb (s.next + h.size) 1536) 16)
  declare ρ ds (σ ++ (record { low = h.low; cells = record { base = s.next; len = h.size } } ∷ []))
      (record { next = s.next + h.size; steps = s.steps; gates = s.gates })

-- ---- gates

-- a gate of a kind on its wires: the inputs, then the output
unfoldable pub gate_on : ℕ → List ℕ → Gate
gate_on k ws =
    let ins = take (inputs_of k) ws in
    record { kind = k; a = get_or ins 0 unused; b = get_or ins 1 unused; c = get_or ins 2 unused; out = get_or ws (inputs_of k) 0 }

-- a wire that a gate drives
unfoldable pub driven : List Gate → ℕ → Bool
driven [] w = false
driven (g ∷ gs) w = eqb g.out w || driven gs w

-- what a call does at its place, with these generics and these wires
abbrev pub Act : Type 0
Act = ℕ → List ℤ → List Range → State → Out State

-- so many rounds of the loop at p, from index v on: 15 at each
unfoldable pub turns : ℕ → (ℤ → State → Out State) → ℤ → ℕ → State → Out State
turns p round v zero s = ok s
turns p round v (suc n) s = do
  s ← at p (tick s)
  s ← round v s
  turns p round (suc_ℤ v) n s

-- ---- statements and blocks, where main's inputs are the wires below nin

module _ (nin : ℕ) where
  -- "gate 1,025" (17); "a gate's output already driven, or a main input" (18)
  unfoldable pub emit : Gate → State → Out State
  emit g s = do
    _ ← need (ltb (length s.gates) 1024) 17
    _ ← need (not (ltb g.out nin || driven s.gates g.out)) 18
    ok (record { next = s.next; steps = s.steps; gates = s.gates ++ (g ∷ []) })

  -- "A primitive call adds one gate."
  unfoldable pub add_gate : ℕ → Act
  add_gate k p vs rs s = do
    _ ← at p (ends Wires k rs)
    at p (emit (gate_on k (map (λ r. r.base) rs)) s)

  -- what a call does: a block does what `deeper` says, or is refused with 14, before anything of the call is looked at
  unfoldable pub act : (ℕ → Out Act) → Callee → Out Act
  act deeper (gate k) = ok (add_gate k)
  act deeper (block b) = deeper b

  -- "A call: 15; for a block 14" (act); "generics; every subscript left to right, 10 before 12; then for a block each port's bounds (10, 11)
  -- and 13" (tie), "then its locals" (declare); "for a primitive 17, then 18" (emit). "A loop: 15, bounds, then 15 at each round" (turns)
  unfoldable pub unfolds : (ℕ → Out Act) → Stmts ℕ Callee → Env → Frame Range → State → Out State
  unfolds deeper end ρ σ s = ok s
  unfolds deeper (call p c gs ins outs rest) ρ σ s = do
    s ← at p (tick s)
    go ← at p (act deeper c)
    vs ← at p (evals ρ gs)
    rs ← at p (resolves Wires ρ σ (ins ++ outs))
    s ← go p vs rs s
    unfolds deeper rest ρ σ s
  unfolds deeper (loop p i a b body rest) ρ σ s = do
    s ← at p (tick s)
    x ← at p (eval ρ a)
    y ← at p (eval ρ b)
    s ← turns p (λ v t. unfolds deeper body (bound ρ i v) σ t) x (rounds (y -ℤ x)) s
    unfolds deeper rest ρ σ s

  -- "A call of a block .. ties each port to the wires given, numbers that block's locals afresh, and unfolds its body"
  unfoldable pub enter : (ℕ → Out Act) → Block ℕ Callee → Act
  enter deeper B p vs rs s = do
    τ ← at p (tie Wires (generics vs) (B.inputs ++ B.outputs) rs)
    r ← at p (declare (generics vs) B.locals (blanks Wires B.generics ++ τ) s)
    unfolds deeper B.body (generics vs) r.0 r.1

  -- what a call of block b does, where bodies may lie so many deeper: none is "a body at depth 17" (14)
  unfoldable pub deep : Program → ℕ → ℕ → Out Act
  deep P zero b = refuse 14 0
  deep P (suc d) b = do
    B ← nth 7 P.blocks b
    ok (enter (deep P d) B)

-- a netlist's words, and the steps
pub record Unfolded : Type 0 where
  pub words : List ℕ
  pub steps : ℕ

-- "Wires are numbered from 0: main's inputs in order, its outputs, its locals. .. Then statements are unfolded in text order."
unfoldable pub unfold_main : Program → Out Unfolded
unfold_main P = do
  M ← nth 9 P.blocks P.main
  i ← declare (generics []) M.inputs (blanks Wires M.generics) (record { next = 0; steps = 0; gates = [] })
  o ← declare (generics []) M.outputs i.0 i.1
  l ← declare (generics []) M.locals o.0 o.1
  s ← unfolds i.1.next (deep i.1.next P 15) M.body (generics []) l.0 l.1
  ok (record { words = net_words i.1.next (o.1.next - i.1.next) s.next s.gates; steps = s.steps })
