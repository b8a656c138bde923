-- A loop and its rounds: what the code has in hand, and what its answers say. Assumes nothing.
use Rattle.std.specs.Prelude.{◌≡◌, refl, ℕ, suc, ◌+◌, ◌-◌, ◌≤◌, ◌<◌, Bool, List, map, length, get_or, zero, ℤ, pos, negsuc, nat_abs, ◌+ℤ◌, ◌-ℤ◌}
use Rattle.std.proofs.Math.Path.{sym, ap}
use Rattle.std.proofs.Common.{◌∙◌, subst, lt-ltb, SFits, w32}
use Rattle.std.proofs.lemmas.Int.{ints, to_z-of_z, to_z_pos}
use Prim.Native.Nat.{◌^◌}
use mathlib.Core.Bool.{true, false, cond}
use lib.Dec.{ltb}
use lib.Signed.{mag}
use mir.Val.{to_z, of_z, hbits}
use native.Mathlib.Omega.{arith}
use Rattle.std.proofs.Math.IntN.{suc_ℤ}
use Rattle.rules.specs.Names.{Role}
use Rattle.rules.specs.Outcome.{Out as Outcome, ok, refuse, ◌>>=◌, at as at_place}
use Rattle.rules.specs.Syntax.{Exp, Stmts, end, loop, Callee, Program}
use Rattle.rules.specs.Values.{Env, generics, bound, eval, rounds}
use Rattle.rules.specs.Frames.{Frame as Names}
use Rattle.rules.specs.Unfold.{Range, State, unfolds, tick, turns, deep}
use Rattle.rules.proofs.Laws.Order.{loop-rounds}
use Rattle.rules.proofs.Laws.Outcomes.{refused, went, along}
use Rattle.rules.proofs.Laws.Scoped.{ports_of, StmtsOk}
use Rattle.tape.specs.Layout.{value_of}
use Rattle.tape.specs.Encoding.{exp_w}
use Rattle.tape.specs.Resolved.{slot_w}
use Rattle.values.specs.Pairs.{HereTwo, WrittenTwo, both-bounds}
use Rattle.values.specs.Loops.{Turns, eval-small, rounds-small}
use Rattle.values.specs.declared.Rounds.{Rounds}
use Rattle.std.specs.Prelude.{Result, Ok, Err}
use Rattle.rules.specs.declared.Reason.{Reason}
use Rattle.rules.specs.Reasons.{number as number_of}
use Rattle.frames.specs.declared.Frame.{Frame}
use Rattle.frames.specs.Stands.{eval-knows}
use Rattle.gates.specs.declared.Counts.{Counts}
use Rattle.unfold.specs.Header.{body_w}
use Rattle.unfold.specs.Loops.{body_at, loop-ends, loop-many, loop-bounds, loop-body}
use Rattle.unfold.specs.Onward.{alone, IsLoop}
use Rattle.unfold.specs.Statements.{HereStmts}
use Rattle.unfold.specs.Steps.{loop-refused}
use Rattle.cycle.specs.Task.{Task, Answers, then-end}

-- a loop over index i at p
pub record LoopHere (len : ℕ) (P : Program) (t : List ℕ) (at end₁ : ℕ) (E : List Role) (i p : ℕ) (c : Stmts ℕ Callee) : Type 0 where
  pub first : Exp ℕ
  pub second : Exp ℕ
  pub body : Stmts ℕ Callee
  pub is : alone c ≡ loop p i first second body end
  pub two : HereTwo t (at + 2) end₁ first second
  -- the place of the body's word
  pub place : ℕ
  pub from : place ≡ at + 2 + length (exp_w slot_w 0 first) + length (exp_w slot_w 0 second)
  pub many : value_of (get_or t place 0) ≡ length (body_w body)
  pub here : HereStmts len t (place + 1) (place + 1 + length (body_w body)) body
  pub within : place + 1 + length (body_w body) ≤ end₁
  pub scoped : StmtsOk (map ports_of P.blocks) E body

pub loop-here : {len : ℕ} {P : Program} {t places : List ℕ} {last at end₁ : ℕ} {f : Frame} {s : Counts} {net : List ℕ} {marks : List Bool} {ρ : Env} {σ : Names Range} {v : State} (i p : ℕ) {c : Stmts ℕ Callee}
    (task : Task len P t places last at end₁ f s net marks c ρ σ v) → IsLoop i p c → LoopHere len P t at end₁ task.roles i p c
unfolding StmtsOk alone
loop-here {len} {P} {t} {at = at} {end₁ = end₁} i p task q =
    let h = subst (HereStmts len t at end₁) q.is task.here in
    let scoped = subst (StmtsOk (map ports_of P.blocks) task.roles) q.is task.scoped in
    let e : at + 1 + 1 ≡ at + 2 = omega arith in
    record {
      first = q.first;
      second = q.second;
      body = q.body;
      is = ap alone q.is;
      two = subst (λ a. HereTwo t a end₁ q.first q.second) e (loop-bounds len h);
      place = body_at len h;
      from = omega arith;
      many = loop-many len h;
      here = loop-body len h;
      within = omega (arith, loop-ends len h);
      scoped = scoped.0;
    }

pub two-written : {len : ℕ} {P : Program} {t : List ℕ} {at end₁ : ℕ} {E : List Role} {i p : ℕ} {c : Stmts ℕ Callee} → LoopHere len P t at end₁ E i p c → WrittenTwo t (at + 2) end₁
two-written h = record { left = h.first; right = h.second; here = h.two }

-- the rounds of the body c over index i
abbrev pub round : ℕ → ℕ → Program → ℕ → Stmts ℕ Callee → Env → Names Range → ℤ → State → Outcome State
round nin left P i c ρ σ x u = unfolds nin (deep nin P left) c (bound ρ i x) σ u

module _ {len : ℕ} {P : Program} {t places : List ℕ} {last at end₁ : ℕ} {f : Frame} {s : Counts} {net : List ℕ} {marks : List Bool} {ρ : Env} {σ : Names Range} {v₁ : State} {i p : ℕ} {c : Stmts ℕ Callee}
    (task : Task len P t places last at end₁ f s net marks c ρ σ v₁) (h : LoopHere len P t at end₁ task.roles i p c) where
  -- the task of the loop's body
  pub loop-task : {from to : ℕ} → from ≡ h.place + 1 → to ≡ h.place + 1 + length (body_w h.body) → Task len P t places last from to f s net marks h.body ρ σ v₁
  loop-task {from} {to} x y = record {
    shelf = task.shelf;
    here = subst (λ a. HereStmts len t a to h.body) (sym x) (subst (λ b. HereStmts len t (h.place + 1) b h.body) (sym y) h.here);
    roles = task.roles;
    scoped = h.scoped;
    suits = task.suits;
    stands = task.stands;
    shows = task.shows;
    wires = task.wires;
  }

  module _ (nin left : ℕ) (v : State) (e : tick v ≡ ok v₁) where
    abbrev here-is : unfolds nin (deep nin P left) (alone c) ρ σ v ≡ unfolds nin (deep nin P left) (loop p i h.first h.second h.body end) ρ σ v
    here-is = ap (λ c. unfolds nin (deep nin P left) c ρ σ v) h.is

    known-first : eval (generics f.values) h.first ≡ eval ρ h.first
    known-first = eval-knows 2 h.first task.stands.value h.two.first.grouped

    known-second : eval (generics f.values) h.second ≡ eval ρ h.second
    known-second = eval-knows 2 h.second task.stands.value h.two.second.grouped

    -- a bound out of range
    pub loop-stopped : {k : ℕ} → both-bounds (generics f.values) h.first h.second ≡ refuse k 0 → unfolds nin (deep nin P left) (alone c) ρ σ v ≡ refuse k p
    loop-stopped {k} b =
        here-is ∙ loop-refused nin (deep nin P left) p i h.first h.second h.body end ρ σ v e (rw (known-first, known-second) at b)

    -- "bounds", worked out once
    pub loop-turned : {x y : ℤ} → eval (generics f.values) h.first ≡ ok x → eval (generics f.values) h.second ≡ ok y
        → unfolds nin (deep nin P left) (alone c) ρ σ v ≡ turns p (round nin left P i h.body ρ σ) x (rounds (y -ℤ x)) v₁
    loop-turned a b =
        here-is ∙ loop-rounds nin (deep nin P left) p i h.first h.second h.body end ρ σ v e (sym known-first ∙ a) (sym known-second ∙ b)
        ∙ then-end nin (deep nin P left) ρ σ _

-- what `span` says, where the bounds are in range
pub record Spanned (ρ : Env) (a b : Exp ℕ) (at : ℕ) (x : ℤ) (k m : ℕ) : Type 0 where
  pub to : ℤ
  pub left : eval ρ a ≡ ok x
  pub right : eval ρ b ≡ ok to
  pub count : k ≡ rounds (to -ℤ x)
  pub place : m ≡ at
  -- how far indices go
  pub small : nat_abs x ≤ 1000000
  pub few : k ≤ 2000001

pub spanned : (ρ : Env) (a b : Exp ℕ) (n place : ℕ) (r : Result Rounds Reason) {q : Rounds} → place ≡ n → r ≡ Ok q → Turns ρ a b n r → Spanned ρ a b place q.first q.count q.next
unfolding Turns
spanned ρ a b n place r {q} p e t =
    let (y, ea, eb, ek, em) = subst (Turns ρ a b n) e t in
    let u = eval-small ρ a ea in
    record { to = y; left = ea; right = eb; count = ek; place = em ∙ sym p; small = u; few = omega (arith, ek, rounds-small q.first y u (eval-small ρ b eb)) }

pub not-spanned : (ρ : Env) (a b : Exp ℕ) (n : ℕ) (r : Result Rounds Reason) {e : Reason} → r ≡ Err e → Turns ρ a b n r → both-bounds ρ a b ≡ refuse (number_of e) 0
unfolding Turns
not-spanned ρ a b n r e t = subst (Turns ρ a b n) e t

-- ---- rounds: 15, then the body

abbrev pub rounded : ℕ → ℕ → Program → ℕ → ℕ → Stmts ℕ Callee → Env → Names Range → ℤ → State → Outcome State
rounded nin left P i p c ρ σ x v = do
  u ← at_place p (tick v)
  round nin left P i c ρ σ x u

module _ (nin left : ℕ) (P : Program) (i p : ℕ) (c : Stmts ℕ Callee) (ρ : Env) (σ : Names Range) (x : ℤ) (v : State) where
  pub rounded-late : {k : ℕ} → tick v ≡ refuse k 0 → rounded nin left P i p c ρ σ x v ≡ refuse k p
  unfolding at_place ◌>>=◌
  rounded-late e = rw e

  pub rounded-on : {u : State} → tick v ≡ ok u → rounded nin left P i p c ρ σ x v ≡ round nin left P i c ρ σ x u
  unfolding at_place ◌>>=◌
  rounded-on e = rw e

  turns-on : (n : ℕ) → turns p (round nin left P i c ρ σ) x (suc n) v ≡ (rounded nin left P i p c ρ σ x v >>= λ u. turns p (round nin left P i c ρ σ) (suc_ℤ x) n u)
  unfolding turns
  turns-on n = sym (along _ _ _ _ λ u. refl)

-- after k rounds of `count`: index x, and the others are still to be done
pub record Turning (nin left len : ℕ) (P : Program) (t places : List ℕ) (last at end₁ : ℕ) (f : Frame) (i p : ℕ) (c : Stmts ℕ Callee) (ρ : Env) (σ : Names Range) (v : State) (first : ℤ) (count : ℕ) (k : ℕ) (x : ℤ) (s : Counts) (net : List ℕ) (marks : List Bool) : Type 0 where
  pub state : State
  pub task : Task len P t places last at end₁ f s net marks c ρ σ state
  pub same : turns p (round nin left P i c ρ σ) first count v ≡ turns p (round nin left P i c ρ σ) x (count - k) state

module _ (nin left len : ℕ) (P : Program) (t places : List ℕ) (last at end₁ : ℕ) (f : Frame) (i p : ℕ) (c : Stmts ℕ Callee) (ρ : Env) (σ : Names Range) (v : State) (first : ℤ) (count : ℕ) where
  pub turning-begin : {s : Counts} {net : List ℕ} {marks : List Bool} → Task len P t places last at end₁ f s net marks c ρ σ v → Turning nin left len P t places last at end₁ f i p c ρ σ v first count 0 first s net marks
  turning-begin k = let e : count ≡ count - 0 = omega arith in record { state = v; task = k; same = ap (λ n. turns p (round nin left P i c ρ σ) first n v) e }

  module _ {k : ℕ} {x : ℤ} {s : Counts} {net : List ℕ} {marks : List Bool} (g : Turning nin left len P t places last at end₁ f i p c ρ σ v first count k x s net marks) where
    abbrev next-is : k < count → turns p (round nin left P i c ρ σ) first count v ≡ (rounded nin left P i p c ρ σ x g.state >>= λ u. turns p (round nin left P i c ρ σ) (suc_ℤ x) (count - (k + 1)) u)
    next-is l =
        let e : count - k ≡ suc (count - (k + 1)) = omega arith in
        g.same ∙ ap (λ n. turns p (round nin left P i c ρ σ) x n g.state) e ∙ turns-on nin left P i p c ρ σ x g.state (count - (k + 1))

    pub turning-stop : k < count → {n q : ℕ} → rounded nin left P i p c ρ σ x g.state ≡ refuse n q → turns p (round nin left P i c ρ σ) first count v ≡ refuse n q
    turning-stop l e = next-is l ∙ refused _ e

    pub turning-on : k < count → (u : Counts) (net' : List ℕ) (marks' : List Bool) → Answers (rounded nin left P i p c ρ σ x g.state) (Ok u) net' marks' → Turning nin left len P t places last at end₁ f i p c ρ σ v first count (k + 1) (suc_ℤ x) u net' marks'
    unfolding Answers
    turning-on l u net' marks' (w, e, shows, few) = record {
      state = w;
      task = record { shelf = g.task.shelf; here = g.task.here; roles = g.task.roles; scoped = g.task.scoped; suits = g.task.suits; stands = g.task.stands; shows = shows; wires = few };
      same = next-is l ∙ went _ e;
    }

    pub turning-end : count ≤ k → Answers (turns p (round nin left P i c ρ σ) first count v) (Ok s) net marks
    unfolding Answers turns
    turning-end l =
        let e : count - k ≡ 0 = omega arith in
        (g.state, g.same ∙ ap (λ n. turns p (round nin left P i c ρ σ) x n g.state) e, g.task.shows, g.task.wires)

-- ---- the index of each round

one_more : (v : ℤ) → v +ℤ pos 1 ≡ suc_ℤ v
one_more (pos n) = let e : n + 1 ≡ suc n = omega arith in ap pos e
one_more (negsuc zero) = refl
one_more (negsuc (suc n)) =
    let l : 1 < suc (suc n) = omega arith in
    let e : suc (suc n) - 2 ≡ n = omega arith in
    rw (lt-ltb 1 (suc (suc n)) l) (ap negsuc e)

pub first-index : (v : ℤ) → v +ℤ pos 0 ≡ v
first-index v = omega (arith, ints)

pub next-index : (v : ℤ) (k : ℕ) → suc_ℤ (v +ℤ pos k) ≡ v +ℤ pos (k + 1)
next-index v k = sym (one_more (v +ℤ pos k)) ∙ omega (arith, ints)

-- it fits 32 bits, as the code works it out
apart : (t : Bool) (u w n : ℕ) → u < n → w < n → mag (cond t (negsuc u) (pos w)) < n
apart true u w n h l = h
apart false u w n h l = l

index-fits : (v : ℤ) (k : ℕ) → nat_abs v ≤ 1000000 → k ≤ 2000001 → SFits w32 (v +ℤ pos k)
index-fits (pos n) k h l = record { sfits = omega arith }
index-fits (negsuc n) k h l = record { sfits = apart (ltb k (suc n)) (suc n - suc k) (k - suc n) (2 ^ 31) (omega arith) (omega arith) }

first-fits : (v : ℤ) → nat_abs v ≤ 1000000 → SFits w32 v
first-fits (pos n) h = record { sfits = omega arith }
first-fits (negsuc n) h = record { sfits = omega arith }

pub index-is : (v : ℤ) (k : ℕ) → nat_abs v ≤ 1000000 → k ≤ 2000001 → to_z w32 (of_z w32 (to_z w32 (of_z w32 v) +ℤ to_z w32 k)) ≡ v +ℤ pos k
index-is v k h l =
    let f : k < 2 ^ hbits w32 = omega arith in
    rw (to_z-of_z w32 v (first-fits v h), to_z_pos w32 k f) (to_z-of_z w32 (v +ℤ pos k) (index-fits v k h l))
