-- One call, of a primitive or of a block: what the code has in hand, and what its answers say. Assumes nothing.
use Rattle.std.specs.Prelude.{◌≡◌, Bool, List, [], ◌∷◌, ◌++◌, map, length, get_or, replicate}
use Rattle.std.proofs.Math.Path.{refl}
use Rattle.std.proofs.Common.{sym, ap, ◌∙◌, subst, length-append}
use Prim.Native.Nat.{ℕ, zero, suc, ◌+◌, ◌-◌, ◌≤◌, ◌<◌}
use native.Mathlib.Omega.{arith}
use Rattle.std.proofs.lemmas.List.{length-map}
use Rattle.rules.specs.Names.{Role, a-wire, role_of}
use Rattle.rules.specs.Outcome.{ok, refuse, ◌>>=◌, nth}
use Rattle.rules.specs.Primitives.{inputs_of}
use Rattle.rules.specs.Syntax.{Exp, Arg, Stmts, end, call, Block, Callee, gate, block, Program}
use Rattle.rules.specs.Values.{Env, generics}
use Rattle.rules.specs.Frames.{Frame as Names}
use Rattle.rules.specs.Unfold.{Range, State, unfolds, tick, emit, enter, deep}
use Rattle.rules.proofs.Laws.Outcomes.{ok-inj, inv}
use Rattle.rules.proofs.Laws.Order.{call-late, loop-late, block-deep}
use Rattle.rules.proofs.Laws.Scoped.{ports_of, names_of, ArgsOk, Wanted, by-gate, by-block, StmtsOk}
use Rattle.rules.proofs.Laws.Suits.{Suits, resolves-sized, ends-fit, entered-suits}
use Rattle.rules.proofs.Laws.Late.{nth-both}
use Rattle.frames.specs.declared.Frame.{Frame}
use Rattle.frames.specs.Stands.{Stands}
use Rattle.frames.specs.Fresh.{up_to}
use Rattle.gates.specs.declared.Counts.{Counts}
use Rattle.std.specs.Prelude.{Result, Ok, Err}
use Rattle.rules.specs.declared.Reason.{Reason}
use Rattle.rules.specs.declared.Refusal.{Refusal}
use Rattle.rules.specs.Reasons.{number as number_of}
use Rattle.gates.specs.Shows.{Gives}
use Rattle.unfold.specs.declared.Opened.{Opened}
use Rattle.unfold.specs.declared.What.{What}
use Rattle.unfold.specs.declared.What.TheVariants.{Gate, Block as Called, Loop}
use Rattle.unfold.specs.Header.{body_w}
use Rattle.unfold.specs.Entering.{HereCall}
use Rattle.unfold.specs.Opening.{opened, Open, Opens, WrittenOpen}
use Rattle.unfold.specs.Adding.{added, Fits, WrittenGate}
use Rattle.unfold.specs.Statements.{HereStmts, Named, call-here}
use Rattle.unfold.specs.Onward.{alone, IsCall, IsLoop, IsWhat}
use Rattle.unfold.specs.Scope.{named-of, many-of, named-both}
use Rattle.unfold.specs.Steps.{opened-parts, added-parts, block-opened, block_refused, gate-added, gate-refused}
use Rattle.cycle.specs.Task.{Task, Ready, Answers, then-end, at-end}

-- a step's answer, at a place
abbrev pub answered : Result Counts Reason → ℕ → Result Counts Refusal
answered (Ok s) p = Ok s
answered (Err e) p = Err (record { reason = e; place = p })

-- 15 at a statement
pub late : (nin left : ℕ) (P : Program) (c : Stmts ℕ Callee) (ρ : Env) (σ : Names Range) (v : State) (p : ℕ) (w : What) {k : ℕ} → IsWhat c p w → tick v ≡ refuse k 0
    → unfolds nin (deep nin P left) (alone c) ρ σ v ≡ refuse k p
unfolding IsWhat alone
late nin left P c ρ σ v p (Gate k) (l, h) e = rw h.is (call-late nin (deep nin P left) p _ _ _ end ρ σ v (gate k) e)
late nin left P c ρ σ v p (Called b) (l, h) e = rw h.is (call-late nin (deep nin P left) p _ _ _ end ρ σ v (block b) e)
late nin left P c ρ σ v p (Loop i) (l, h) e = rw h.is (loop-late nin (deep nin P left) p i _ _ _ end ρ σ v e)

suits-many : (σ : Names Range) (E : List Role) → Suits σ E → length E ≡ length σ
unfolding Suits
suits-many [] [] u = refl
suits-many [] (r ∷ E) u = absurd u
suits-many (x ∷ σ) [] u = absurd u
suits-many (x ∷ σ) (r ∷ E) u = ap suc (suits-many σ E u.1)

-- ---- the parts of a call

-- there is a task that begins with a call, or with a loop
pub record CallReady (m : Callee) (p : ℕ) (t places : List ℕ) (last at end₁ : ℕ) (f : Frame) (s : Counts) (net : List ℕ) (marks : List Bool) : Type 0 where
  pub ready : Ready t places last at end₁ f s net marks
  pub is : IsCall m p ready.statements

pub record LoopReady (i p : ℕ) (t places : List ℕ) (last at end₁ : ℕ) (f : Frame) (s : Counts) (net : List ℕ) (marks : List Bool) : Type 0 where
  pub ready : Ready t places last at end₁ f s net marks
  pub is : IsLoop i p ready.statements

module _ {len : ℕ} {P : Program} {t places : List ℕ} {last at end₁ : ℕ} {f : Frame} {s : Counts} {net : List ℕ} {marks : List Bool} {c : Stmts ℕ Callee} {ρ : Env} {σ : Names Range} {v : State}
    (k : Task len P t places last at end₁ f s net marks c ρ σ v) (l : 5124 ≤ length net) where
  abbrev the-ready : Ready t places last at end₁ f s net marks
  the-ready = record { text = len; program = P; statements = c; env = ρ; names = σ; state = v; task = k; room = l }

  pub call-ready : {m : Callee} {p : ℕ} → IsCall m p c → CallReady m p t places last at end₁ f s net marks
  call-ready q = record { ready = the-ready; is = q }

  pub loop-ready : {i p : ℕ} → IsLoop i p c → LoopReady i p t places last at end₁ f s net marks
  loop-ready q = record { ready = the-ready; is = q }

-- a call at p, of what is called m, in the use whose names are σ
pub record CallHere (t : List ℕ) (at end₁ n : ℕ) (m : Callee) (p : ℕ) (c : Stmts ℕ Callee) : Type 0 where
  pub generics : List (Exp ℕ)
  pub inputs : List (Arg ℕ)
  pub outputs : List (Arg ℕ)
  pub is : alone c ≡ call p m generics inputs outputs end
  pub here : HereCall t (at + 1) end₁ n generics inputs outputs

call-of : (len : ℕ) (t : List ℕ) (at end₁ : ℕ) (σ : Names Range) (p : ℕ) (m : Callee) (gs : List (Exp ℕ)) (ins outs : List (Arg ℕ)) (rest : Stmts ℕ Callee) (E ws : List Role) → HereStmts len t at end₁ (call p m gs ins outs rest) → Suits σ E → ArgsOk E ws (ins ++ outs)
    → HereCall t (at + 1) end₁ (length σ) gs ins outs
call-of len t at end₁ σ p m gs ins outs rest E ws h u a =
    let n = subst (λ n. Named n (ins ++ outs)) (suits-many σ E u) (named-of E ws (ins ++ outs) a) in
    let (x, y) = named-both (length σ) ins outs n in
    call-here len h (length σ) x y

-- ---- a primitive

pub record GateHere (t : List ℕ) (at end₁ : ℕ) (ρ : Env) (σ : Names Range) (k p : ℕ) (c : Stmts ℕ Callee) : Type 0 where
  pub call : CallHere t at end₁ (length σ) (gate k) p c
  pub fits : Fits k ρ σ (call.inputs ++ call.outputs)

gate-wanted : (sigs : List (List Role)) (k : ℕ) {ws : List Role} → Wanted sigs (gate k) ws → (X : Type 0) → (k < 10 → ws ≡ replicate (suc (inputs_of k)) a-wire → X) → X
gate-wanted sigs k (by-gate h) X f = f h refl

pub gate-here : {len : ℕ} {P : Program} {t places : List ℕ} {last at end₁ : ℕ} {f : Frame} {s : Counts} {net : List ℕ} {marks : List Bool} {ρ : Env} {σ : Names Range} {v : State} (k p : ℕ) {c : Stmts ℕ Callee}
    → Task len P t places last at end₁ f s net marks c ρ σ v → IsCall (gate k) p c → GateHere t at end₁ ρ σ k p c
unfolding StmtsOk alone
gate-here {len} {P} {t} {at = at} {end₁ = end₁} {ρ = ρ} {σ = σ} k p {c} task q =
    let gs = q.generics in
    let ins = q.inputs in
    let outs = q.outputs in
    let h = subst (HereStmts len t at end₁) q.is task.here in
    let scoped = subst (StmtsOk (map ports_of P.blocks) task.roles) q.is task.scoped in
    let (ws, w, a) = scoped.0 in
    record {
      call = record { generics = gs; inputs = ins; outputs = outs; is = ap alone q.is; here = call-of len t at end₁ σ p (gate k) gs ins outs q.rest task.roles ws h task.suits a };
      fits = gate-wanted (map ports_of P.blocks) k w (Fits k ρ σ (ins ++ outs))
          λ few e. record { fits = λ rs er. ends-fit k rs few (resolves-sized ρ σ task.roles task.suits (replicate (suc (inputs_of k)) a-wire) (ins ++ outs) (subst (λ ws. ArgsOk task.roles ws (ins ++ outs)) e a) er) };
    }

pub gate-written : {t : List ℕ} {at end₁ : ℕ} {f : Frame} {ρ : Env} {σ : Names Range} {k p : ℕ} {c : Stmts ℕ Callee} → Stands f ρ σ → GateHere t at end₁ ρ σ k p c → WrittenGate t (at + 1) end₁ f k
gate-written {ρ = ρ} {σ = σ} s g = record { call = record { env = ρ; names = σ; generics = g.call.generics; inputs = g.call.inputs; outputs = g.call.outputs; stands = s; here = g.call.here }; fits = g.fits }

emit-next : (nin : ℕ) (g : _) (s : State) {u : State} → emit nin g s ≡ ok u → u.next ≡ s.next
unfolding emit
emit-next nin g s e = inv _ _ e λ _ _ e₁. inv _ _ e₁ λ _ _ e₂. ap (λ u. u.next) (sym (ok-inj e₂))

-- the gate's step is the call's answer
pub gate-answers : (nin left : ℕ) (P : Program) (ρ : Env) (σ : Names Range) (v v₁ : State) {t : List ℕ} {at end₁ k p : ℕ} {c : Stmts ℕ Callee} (r : Result Counts Reason) (net : List ℕ) (marks : List Bool) (g : GateHere t at end₁ ρ σ k p c) → tick v ≡ ok v₁ → v₁.next ≤ 1536
    → Gives (added nin k ρ σ g.call.generics (g.call.inputs ++ g.call.outputs) v₁) r net marks → Answers (unfolds nin (deep nin P left) (alone c) ρ σ v) (answered r p) net marks
unfolding Gives Answers
gate-answers nin left P ρ σ v v₁ {k = k} {p = p} (Ok s) net marks g e few (u, a, shows) =
    let gs = g.call.generics in
    let b = added-parts nin k ρ σ gs (g.call.inputs ++ g.call.outputs) v₁ a in (
      u,
      ap (λ c. unfolds nin (deep nin P left) c ρ σ v) g.call.is ∙ gate-added nin (deep nin P left) p gs g.call.inputs g.call.outputs end ρ σ v k e a ∙ at-end nin (deep nin P left) ρ σ u,
      shows,
      omega (arith, few, emit-next nin _ v₁ b.emit),
    )
gate-answers nin left P ρ σ v v₁ {k = k} {p = p} (Err n) net marks g e few a =
    ap (λ c. unfolds nin (deep nin P left) c ρ σ v) g.call.is ∙ gate-refused nin (deep nin P left) p g.call.generics g.call.inputs g.call.outputs end ρ σ v k e a

-- ---- a block

pub record BlockHere (P : Program) (t places : List ℕ) (last at end₁ : ℕ) (σ : Names Range) (b p : ℕ) (c : Stmts ℕ Callee) : Type 0 where
  pub call : CallHere t at end₁ (length σ) (block b) p c
  pub body : Block ℕ Callee
  pub nth : nth 7 P.blocks b ≡ ok body
  pub many : length body.inputs + length body.outputs ≡ length (call.inputs ++ call.outputs)
  pub scoped : StmtsOk (map ports_of P.blocks) (names_of body) body.body

block-wanted : (sigs : List (List Role)) (b : ℕ) {ws : List Role} → Wanted sigs (block b) ws → nth 7 sigs b ≡ ok ws
block-wanted sigs b (by-block e) = e

pub block_here : {len : ℕ} {P : Program} {t places : List ℕ} {last at end₁ : ℕ} {f : Frame} {s : Counts} {net : List ℕ} {marks : List Bool} {ρ : Env} {σ : Names Range} {v : State} (b p : ℕ) {c : Stmts ℕ Callee}
    → Task len P t places last at end₁ f s net marks c ρ σ v → IsCall (block b) p c → BlockHere P t places last at end₁ σ b p c
unfolding StmtsOk alone
block_here {len} {P} {t} {at = at} {end₁ = end₁} {σ = σ} b p {c} task q =
    let gs = q.generics in
    let ins = q.inputs in
    let outs = q.outputs in
    let sigs = map ports_of P.blocks in
    let h = subst (HereStmts len t at end₁) q.is task.here in
    let scoped = subst (StmtsOk sigs task.roles) q.is task.scoped in
    let (ws, w, a) = scoped.0 in
    let (B, e_b, ports, body) = nth-both sigs P.blocks b task.shelf.scoped.blocks (block-wanted sigs b w) in
    record {
      call = record { generics = gs; inputs = ins; outputs = outs; is = ap alone q.is; here = call-of len t at end₁ σ p (block b) gs ins outs q.rest task.roles ws h task.suits a };
      body = B;
      nth = e_b;
      many = omega (arith, many-of task.roles ws (ins ++ outs) a, ap length ports, length-map (B.inputs ++ B.outputs) (λ d. role_of d.sort), length-append B.inputs B.outputs);
      scoped = body;
    }

module _ {len : ℕ} {P : Program} {t places : List ℕ} {last at end₁ : ℕ} {f : Frame} {s : Counts} {net : List ℕ} {marks : List Bool} {ρ : Env} {σ : Names Range} {v₁ : State} {b p : ℕ} {c : Stmts ℕ Callee}
    (task : Task len P t places last at end₁ f s net marks c ρ σ v₁) (h : BlockHere P t places last at end₁ σ b p c) where
  pub open-written : WrittenOpen t (at + 1) end₁ (get_or places b 0) last f
  open-written = record {
    call = record { env = ρ; names = σ; generics = h.call.generics; inputs = h.call.inputs; outputs = h.call.outputs; stands = task.stands; here = h.call.here };
    block = h.body;
    here = task.shelf.block b h.body h.nth;
    many = h.many;
  }

  -- the task of the block's body
  pub body-task : {from to w : ℕ} {g : Frame} {u : Counts} (o : Open ρ σ h.call.generics (h.call.inputs ++ h.call.outputs) h.body v₁ (get_or places b 0) from to w g)
      → u.wires ≡ w → u.steps ≡ s.steps → u.gates ≡ s.gates → Task len P t places last from to g u net marks h.body.body (generics o.values) o.names (up_to v₁ w)
  body-task {from} {to} {w} o x y z =
      let q = opened-parts ρ σ h.call.generics (h.call.inputs ++ h.call.outputs) h.body v₁ o.is in
      record {
        shelf = task.shelf;
        here = subst (λ e. HereStmts len t from e h.body.body) (sym o.last) (subst (λ a. HereStmts len t a (a + length (body_w h.body.body)) h.body.body) (sym o.first) (task.shelf.body b h.body h.nth));
        roles = names_of h.body;
        scoped = h.scoped;
        suits = entered-suits (generics o.values) h.body q.wires v₁ q.tie q.declare;
        stands = o.stands;
        shows = record { wires = x; steps = y ∙ task.shows.steps; gates = z ∙ task.shows.gates; words = task.shows.words; full = task.shows.full; marks = task.shows.marks };
        wires = o.wires;
      }

  module _ (nin : ℕ) (v : State) (e : tick v ≡ ok v₁) where
    deep-there : (left : ℕ) → (left ≡ 0 → ⊥) → deep nin P left b ≡ ok (enter nin (deep nin P (left - 1)) h.body)
    unfolding deep ◌>>=◌
    deep-there zero n = absurd (n refl)
    deep-there (suc d) n = let e : suc d - 1 ≡ d = omega arith in rw (h.nth, e)

    abbrev here-is : (left : ℕ) → unfolds nin (deep nin P left) (alone c) ρ σ v ≡ unfolds nin (deep nin P left) (call p (block b) h.call.generics h.call.inputs h.call.outputs end) ρ σ v
    here-is left = ap (λ c. unfolds nin (deep nin P left) c ρ σ v) h.call.is

    -- 14
    pub block-at-17 : (left : ℕ) → left ≡ 0 → unfolds nin (deep nin P left) (alone c) ρ σ v ≡ refuse 14 p
    unfolding deep
    block-at-17 zero n = here-is 0 ∙ block-deep nin (deep nin P 0) p _ _ _ end ρ σ v b e refl
    block-at-17 (suc d) n = absurd (omega arith)

    pub block-stopped : (left : ℕ) → (left ≡ 0 → ⊥) → {k q : ℕ} → opened ρ σ h.call.generics (h.call.inputs ++ h.call.outputs) h.body v₁ ≡ refuse k q → unfolds nin (deep nin P left) (alone c) ρ σ v ≡ refuse k p
    block-stopped left n o = here-is left ∙ block_refused nin (deep nin P left) p _ _ _ end ρ σ v b (deep nin P (left - 1)) h.body e (deep-there left n) o

    pub block-entered : (left : ℕ) → (left ≡ 0 → ⊥) → {from to w : ℕ} {g : Frame} (o : Open ρ σ h.call.generics (h.call.inputs ++ h.call.outputs) h.body v₁ (get_or places b 0) from to w g)
        → unfolds nin (deep nin P left) (alone c) ρ σ v ≡ unfolds nin (deep nin P (left - 1)) h.body.body (generics o.values) o.names (up_to v₁ w)
    block-entered left n o =
        here-is left ∙ block-opened nin (deep nin P left) p _ _ _ end ρ σ v b (deep nin P (left - 1)) h.body e (deep-there left n) o.is
        ∙ then-end nin (deep nin P left) ρ σ _

-- ---- what `open` says, by its answer

pub opens-body : (ρ : Env) (σ : Names Range) (gs : List (Exp ℕ)) (args : List (Arg ℕ)) (B : Block ℕ Callee) (s : State) (place : ℕ) (r : Result Opened Reason) {q : Opened} → r ≡ Ok q
    → Opens ρ σ gs args B s place r → Open ρ σ gs args B s place q.body.at q.body.end q.wires q.frame
unfolding Opens
opens-body ρ σ gs args B s place r e o = subst (λ e. Opens ρ σ gs args B s place e) e o

pub opens-wrong : (ρ : Env) (σ : Names Range) (gs : List (Exp ℕ)) (args : List (Arg ℕ)) (B : Block ℕ Callee) (s : State) (place : ℕ) (r : Result Opened Reason) {e : Reason} → r ≡ Err e
    → Opens ρ σ gs args B s place r → (q : ℕ) × (opened ρ σ gs args B s ≡ refuse (number_of e) q)
unfolding Opens
opens-wrong ρ σ gs args B s place r e o = subst (λ e. Opens ρ σ gs args B s place e) e o

-- ---- what the first word says, by its kind

pub is-gate : (c : Stmts ℕ Callee) (p : ℕ) (w : What) {k : ℕ} → w ≡ Gate k → IsWhat c p w → (k < 10) × IsCall (gate k) p c
unfolding IsWhat
is-gate c p w e a = subst (IsWhat c p) e a

pub is_block : (c : Stmts ℕ Callee) (p : ℕ) (w : What) {b : ℕ} → w ≡ Called b → IsWhat c p w → (b < 64) × IsCall (block b) p c
unfolding IsWhat
is_block c p w e a = subst (IsWhat c p) e a

pub is_loop : (c : Stmts ℕ Callee) (p : ℕ) (w : What) {i : ℕ} → w ≡ Loop i → IsWhat c p w → (i < 48) × IsLoop i p c
unfolding IsWhat
is_loop c p w e a = subst (IsWhat c p) e a
