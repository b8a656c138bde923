-- What the members of the cycle are given, and what they answer. Assumes nothing.
use Rattle.std.specs.Prelude.{◌≡◌, ℕ, ◌≤◌, ◌<◌, Bool, List, map, length}
use Rattle.std.proofs.Math.Path.{refl, sym, ap}
use Rattle.std.proofs.Common.{◌∙◌, subst, arith}
use Rattle.rules.specs.Names.{Role}
use Rattle.rules.specs.Outcome.{Out as Outcome, ok, refuse, ◌>>=◌}
use Rattle.rules.specs.Syntax.{Stmts, end, call, loop, Callee, Program}
use Rattle.rules.specs.Values.{Env}
use Rattle.rules.specs.Frames.{Frame as Names}
use Rattle.rules.specs.Unfold.{Range, State, Act, unfolds, tick, deep}
use Rattle.rules.proofs.Laws.Outcomes.{ok-inj, inv, refused, went, along}
use Rattle.rules.proofs.Laws.Scoped.{ports_of, StmtsOk}
use Rattle.rules.proofs.Laws.Suits.{Suits}
use Rattle.tape.specs.Encoding.{stmts_w}
use Rattle.frames.specs.declared.Frame.{Frame}
use Rattle.frames.specs.Stands.{Stands}
use Rattle.gates.specs.declared.Counts.{Counts}
use Rattle.std.specs.Prelude.{Result, Ok, Err}
use Rattle.rules.specs.declared.Reason.{Reason}
use Rattle.rules.specs.declared.Refusal.{Refusal}
use Rattle.rules.specs.Reasons.{number as number_of}
use Rattle.gates.specs.Shows.{Shows, Gives}
use Rattle.unfold.specs.Statements.{HereStmts}
use Rattle.unfold.specs.Onward.{later, alone, WrittenStatement}
use Rattle.unfold.specs.Shelf.{Shelf}

-- the program P on the tape t; the statements c from `at` to `end`, in a use whose names are σ and whose values are ρ; the state v so far
pub record Task (len : ℕ) (P : Program) (t places : List ℕ) (last at end : ℕ) (f : Frame) (s : Counts) (net : List ℕ) (marks : List Bool) (c : Stmts ℕ Callee) (ρ : Env) (σ : Names Range) (v : State) : Type 0 where
  pub shelf : Shelf len P t places last
  pub here : HereStmts len t at end c
  pub roles : List Role
  pub scoped : StmtsOk (map ports_of P.blocks) roles c
  pub suits : Suits σ roles
  pub stands : Stands f ρ σ
  pub shows : Shows v s net marks
  pub wires : v.next ≤ 1536

-- there is such a task, and room for every gate
pub record Ready (t places : List ℕ) (last at end : ℕ) (f : Frame) (s : Counts) (net : List ℕ) (marks : List Bool) : Type 0 where
  pub text : ℕ
  pub program : Program
  pub statements : Stmts ℕ Callee
  pub env : Env
  pub names : Names Range
  pub state : State
  pub task : Task text program t places last at end f s net marks statements env names state
  pub room : 5124 ≤ length net

-- what is answered and left, where the rules give o
unfoldable pub Answers : Outcome State → Result Counts Refusal → List ℕ → List Bool → Type 0
Answers o (Ok s) net marks = (v : State) × (o ≡ ok v) × Shows v s net marks × (v.next ≤ 1536)
Answers o (Err e) net marks = o ≡ refuse (number_of e.reason) e.place

pub no_answer : {o : Outcome State} (e : Refusal) (net : List ℕ) (marks : List Bool) → o ≡ refuse (number_of e.reason) e.place → Answers o (Err e) net marks
unfolding Answers
no_answer e net marks h = h

pub placed : {o : Outcome State} (e : Refusal) (net : List ℕ) (marks : List Bool) {p : ℕ} → e.place ≡ p → o ≡ refuse (number_of e.reason) p → Answers o (Err e) net marks
unfolding Answers
placed e net marks q h = rw q h

pub refusal : {o : Outcome State} {r : Result Counts Refusal} {e : Refusal} (net : List ℕ) (marks : List Bool) → r ≡ Err e → Answers o r net marks → o ≡ refuse (number_of e.reason) e.place
unfolding Answers
refusal {o} net marks e a = subst (λ r. Answers o r net marks) e a

pub answers-as : {o q : Outcome State} (r : Result Counts Refusal) (net : List ℕ) (marks : List Bool) → o ≡ q → Answers q r net marks → Answers o r net marks
answers-as r net marks e a = subst (λ o. Answers o r net marks) (sym e) a

pub success : (o : Outcome State) {r : Result Counts Refusal} {s : Counts} (net : List ℕ) (marks : List Bool) → r ≡ Ok s → Answers o r net marks → Answers o (Ok s) net marks
success o net marks e a = subst (λ r. Answers o r net marks) e a

-- ---- a list of statements: the first, then the others

module _ (nin : ℕ) (deeper : ℕ → Outcome Act) (ρ : Env) (σ : Names Range) where
  pub then-end : (o : Outcome State) → (o >>= λ s. unfolds nin deeper end ρ σ s) ≡ o
  unfolding ◌>>=◌ unfolds
  then-end (ok s) = refl
  then-end (refuse n p) = refl

  pub at-end : (s : State) → unfolds nin deeper end ρ σ s ≡ ok s
  unfolding unfolds
  at-end s = refl

  pub first_then : (c : Stmts ℕ Callee) (v : State) → unfolds nin deeper c ρ σ v ≡ (unfolds nin deeper (alone c) ρ σ v >>= λ v. unfolds nin deeper (later c) ρ σ v)
  unfolding unfolds alone later
  first_then end v = sym (went _ refl)
  first_then (call p c gs ins outs rest) v = sym (along _ _ _ _ λ s. along _ _ _ _ λ go. along _ _ _ _ λ vs. along _ _ _ _ λ rs. along _ _ _ _ λ s. went _ refl)
  first_then (loop p i a b body rest) v = sym (along _ _ _ _ λ s. along _ _ _ _ λ x. along _ _ _ _ λ y. along _ _ _ _ λ s. went _ refl)

later-scoped : (sigs : List (List Role)) (E : List Role) (c : Stmts ℕ Callee) → StmtsOk sigs E c → StmtsOk sigs E (later c)
unfolding StmtsOk later
later-scoped sigs E end h = h
later-scoped sigs E (call p c gs ins outs rest) h = h.1
later-scoped sigs E (loop p i a b body rest) h = h.1

-- ---- the statements from `at` on: those left at i are still to be unfolded

pub record Going (nin left len : ℕ) (P : Program) (t places : List ℕ) (last end : ℕ) (f : Frame) (c : Stmts ℕ Callee) (ρ : Env) (σ : Names Range) (v : State) (i : ℕ) (s : Counts) (net : List ℕ) (marks : List Bool) : Type 0 where
  pub rest : Stmts ℕ Callee
  pub state : State
  pub task : Task len P t places last i end f s net marks rest ρ σ state
  pub same : unfolds nin (deep nin P left) c ρ σ v ≡ unfolds nin (deep nin P left) rest ρ σ state

module _ (nin left len : ℕ) (P : Program) (t places : List ℕ) (last end₁ : ℕ) (f : Frame) (c : Stmts ℕ Callee) (ρ : Env) (σ : Names Range) (v : State) where
  pub going-begin : {i : ℕ} {s : Counts} {net : List ℕ} {marks : List Bool} → Task len P t places last i end₁ f s net marks c ρ σ v → Going nin left len P t places last end₁ f c ρ σ v i s net marks
  going-begin k = record { rest = c; state = v; task = k; same = refl }

  module _ {i : ℕ} {s : Counts} {net : List ℕ} {marks : List Bool} (g : Going nin left len P t places last end₁ f c ρ σ v i s net marks) where
    pub going-stop : {n p : ℕ} → unfolds nin (deep nin P left) (alone g.rest) ρ σ g.state ≡ refuse n p → unfolds nin (deep nin P left) c ρ σ v ≡ refuse n p
    going-stop e = g.same ∙ first_then nin (deep nin P left) ρ σ g.rest g.state ∙ refused _ e

    pub going_on : {j : ℕ} {u : Counts} {net' : List ℕ} {marks' : List Bool} → Answers (unfolds nin (deep nin P left) (alone g.rest) ρ σ g.state) (Ok u) net' marks'
        → HereStmts len t j end₁ (later g.rest) → Going nin left len P t places last end₁ f c ρ σ v j u net' marks'
    unfolding Answers
    going_on (w, e, shows, few) h = record {
      rest = later g.rest;
      state = w;
      task = record { shelf = g.task.shelf; here = h; roles = g.task.roles; scoped = later-scoped _ _ g.rest g.task.scoped; suits = g.task.suits; stands = g.task.stands; shows = shows; wires = few };
      same = g.same ∙ first_then nin (deep nin P left) ρ σ g.rest g.state ∙ went _ e;
    }

    none_left : (c : Stmts ℕ Callee) → HereStmts len t i end₁ c → end₁ ≤ i → c ≡ end
    unfolding stmts_w
    none_left end h l = refl
    none_left (call p m gs ins outs rest) h l = absurd (omega (arith, h.ends))
    none_left (loop p k a b body rest) h l = absurd (omega (arith, h.ends))

    pub going_end : end₁ ≤ i → Answers (unfolds nin (deep nin P left) c ρ σ v) (Ok s) net marks
    unfolding Answers
    going_end l = (
      g.state,
      g.same ∙ ap (λ c. unfolds nin (deep nin P left) c ρ σ g.state) (none_left g.rest g.task.here l) ∙ at-end nin (deep nin P left) ρ σ g.state,
      g.task.shows,
      g.task.wires,
    )

-- a statement stands where a task begins
pub task-written : {len : ℕ} {P : Program} {t places : List ℕ} {last i end₁ : ℕ} {f : Frame} {s : Counts} {net : List ℕ} {marks : List Bool} {c : Stmts ℕ Callee} {ρ : Env} {σ : Names Range} {v : State}
    → Task len P t places last i end₁ f s net marks c ρ σ v → i < end₁ → WrittenStatement t i end₁
task-written {len} {c = c} k l = record { text = len; statements = c; here = k.here; some = l }

-- a step was begun
tick-next : (v : State) {u : State} → tick v ≡ ok u → u.next ≡ v.next
unfolding tick
tick-next v e = inv _ _ e λ _ _ e₁. ap (λ u. u.next) (sym (ok-inj e₁))

pub record Ticked (len : ℕ) (P : Program) (t places : List ℕ) (last at end : ℕ) (f : Frame) (s : Counts) (net : List ℕ) (marks : List Bool) (c : Stmts ℕ Callee) (ρ : Env) (σ : Names Range) (v : State) : Type 0 where
  pub state : State
  pub is : tick v ≡ ok state
  pub task : Task len P t places last at end f s net marks c ρ σ state

pub ticked : {len : ℕ} {P : Program} {t places : List ℕ} {last at end₁ : ℕ} {f : Frame} {s : Counts} {net : List ℕ} {marks : List Bool} {c : Stmts ℕ Callee} {ρ : Env} {σ : Names Range} {v : State} (u : Counts)
    → Task len P t places last at end₁ f s net marks c ρ σ v → Gives (tick v) (Ok u) net marks → Ticked len P t places last at end₁ f u net marks c ρ σ v
unfolding Gives
ticked {v = v} u k (w, e, shows) = record {
  state = w;
  is = e;
  task = record { shelf = k.shelf; here = k.here; roles = k.roles; scoped = k.scoped; suits = k.suits; stands = k.stands; shows = shows; wires = omega (arith, k.wires, tick-next v e) };
}

-- what a step's function says of every state that it is shown
abbrev pub Steps : Counts → Result Counts Reason → Type 0
Steps s r = (v : State) (net : List ℕ) (marks : List Bool) → Shows v s net marks → Gives (tick v) r net marks

pub ticked-by : {len : ℕ} {P : Program} {t places : List ℕ} {last at end₁ : ℕ} {f : Frame} {s : Counts} {net : List ℕ} {marks : List Bool} {c : Stmts ℕ Callee} {ρ : Env} {σ : Names Range} {v : State} {r : Result Counts Reason} {u : Counts}
    → r ≡ Ok u → Steps s r → Task len P t places last at end₁ f s net marks c ρ σ v → Ticked len P t places last at end₁ f u net marks c ρ σ v
ticked-by {s = s} {net = net} {marks = marks} {v = v} {u = u} e h k = ticked u k (subst (Steps s) e h v net marks k.shows)

pub late_by : {v : State} {s : Counts} {net : List ℕ} {marks : List Bool} {r : Result Counts Reason} {e : Reason} → r ≡ Err e → Steps s r → Shows v s net marks → tick v ≡ refuse (number_of e) 0
unfolding Gives
late_by {v} {s} {net} {marks} e h k = subst (Steps s) e h v net marks k

-- an index is bound for a round
pub bound-task : {len : ℕ} {P : Program} {t places : List ℕ} {last at end₁ : ℕ} {f g : Frame} {s : Counts} {net : List ℕ} {marks : List Bool} {c : Stmts ℕ Callee} {ρ ρ' : Env} {σ : Names Range} {v : State}
    → Task len P t places last at end₁ f s net marks c ρ σ v → Stands g ρ' σ → Task len P t places last at end₁ g s net marks c ρ' σ v
bound-task k h = record { shelf = k.shelf; here = k.here; roles = k.roles; scoped = k.scoped; suits = k.suits; stands = h; shows = k.shows; wires = k.wires }

pub ready_of : {len : ℕ} {P : Program} {t places : List ℕ} {last at end₁ : ℕ} {f : Frame} {s : Counts} {net : List ℕ} {marks : List Bool} {c : Stmts ℕ Callee} {ρ : Env} {σ : Names Range} {v : State}
    → Task len P t places last at end₁ f s net marks c ρ σ v → 5124 ≤ length net → Ready t places last at end₁ f s net marks
ready_of {len} {P} {c = c} {ρ = ρ} {σ = σ} {v = v} k l = record { text = len; program = P; statements = c; env = ρ; names = σ; state = v; task = k; room = l }
