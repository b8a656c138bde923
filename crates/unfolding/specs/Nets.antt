-- A whole unfolding: from main on the tape to the netlist's words. Assumes nothing.
use Rattle.std.specs.Prelude.{◌≡◌, refl, ℕ, suc, ◌+◌, ◌-◌, ◌*◌, ◌≤◌, Bool, false, List, [], ◌∷◌, ◌++◌, map, get_or, set, drop, replicate, Result, Ok, Err}
use Rattle.std.proofs.Common.{sym, ◌∙◌, arith, length-set}
use Rattle.std.proofs.Math.Path.{ap, subst}
use Rattle.std.proofs.Math.ListN.{length}
use Rattle.std.proofs.lemmas.List.{length-replicate, get_or-replicate}
use Rattle.rules.specs.Text.{zeros}
use Rattle.rules.specs.declared.Gate.{Gate}
use Rattle.rules.specs.Outcome.{Out as Outcome, ok, refuse, nth}
use Rattle.rules.specs.Syntax.{Block, Callee, Program}
use Rattle.rules.specs.Values.{generics}
use Rattle.rules.specs.Frames.{Frame as Names}
use Rattle.rules.specs.Netlist.{gate_words, net_words}
use Rattle.rules.specs.Unfold.{Range, State, driven, unfolds, deep, Unfolded as Net, unfold_main}
use Rattle.rules.proofs.Laws.Outcomes.{nth-any}
use Rattle.rules.proofs.Laws.Scoped.{ports_of, names_of, StmtsOk}
use Rattle.rules.proofs.Laws.Late.{nth-there}
use Rattle.rules.proofs.Laws.Keep.{unfolded-well}
use Rattle.tape.specs.Written.{put, put_is}
use Rattle.clear.specs.Zeros.{drop-zeros}
use Rattle.frames.specs.declared.Frame.{Frame}
use Rattle.frames.specs.Laid.{laid, column, column-after}
use Rattle.frames.specs.Stands.{Stands}
use Rattle.frames.specs.Fresh.{some-state}
use Rattle.gates.specs.declared.Counts.{Counts}
use Rattle.gates.specs.Shows.{Shows, image}
use Rattle.unfold.specs.Header.{HereBlock, WrittenBlock, body_w, after_locals}
use Rattle.unfold.specs.Statements.{HereStmts}
use Rattle.unfold.specs.Shelf.{Shelf, body_from, body_to}
use Rattle.start.specs.First.{begun, main-refused, body_refused, body-done, begun-suits}
use Rattle.start.specs.Begins.{Begins}
use Rattle.start.specs.declared.Begun.{Begun}
use Rattle.rules.specs.declared.Refusal.{Refusal}
use Rattle.rules.specs.Reasons.{number as number_of}
use Rattle.places.specs.Held.{Held}
use Rattle.cycle.specs.Task.{Task, Answers, refusal, success}

-- what is answered, and the lent netlist of so many words, where the rules give o. A refusal says nothing of the words
unfoldable pub Nets : Outcome Net → ℕ → Result ℕ Refusal → List ℕ → Type 0
Nets o len (Ok n) words = (u : Net) × (o ≡ ok u) × (n ≡ u.steps) × (words ≡ u.words ++ zeros (len - length u.words))
Nets o len (Err e) words = o ≡ refuse (number_of e.reason) e.place

-- a resolved program lies on the tape, and its main is this block
pub record MainHeld (t : List ℕ) (end main : ℕ) : Type 0 where
  pub text : List ℕ
  pub program : Program
  pub held : Held text t end program
  pub is : program.main ≡ main

-- main's ports and locals have their wires, and its body is still to be unfolded, from `first` to `after`
pub record Body (len : ℕ) (P : Program) (t places : List ℕ) (last : ℕ) (net : List ℕ) (f : Frame) (nin nout w first after : ℕ) : Type 0 where
  pub shelf : Shelf len P t places last
  pub main : Block ℕ Callee
  pub is : nth 9 P.blocks P.main ≡ ok main
  pub names : Names Range
  pub begun : begun main ≡ ok (nin, (nout, (names, some-state w)))
  pub stands : Stands f (generics []) names
  pub here : HereStmts len t first after main.body
  pub scoped : StmtsOk (map ports_of P.blocks) (names_of main) main.body
  pub ports : nin + nout ≤ w
  pub wires : w ≤ 1536
  pub blank : net ≡ zeros (length net)

pub record MainReady (t places : List ℕ) (last : ℕ) (net : List ℕ) (f : Frame) (nin nout w first after : ℕ) : Type 0 where
  pub text : ℕ
  pub program : Program
  pub body : Body text program t places last net f nin nout w first after
  pub room : 5124 ≤ length net

-- ---- the table of contents

pub front : (t : List ℕ) (a b c d : ℕ) → 4 ≤ length t → set (set (set (set t 0 a) 1 b) 2 c) 3 d ≡ a ∷ b ∷ c ∷ d ∷ drop 4 t
front [] a b c d h = absurd (omega arith)
front (w ∷ []) a b c d h = absurd (omega arith)
front (w ∷ x ∷ []) a b c d h = absurd (omega arith)
front (w ∷ x ∷ y ∷ []) a b c d h = absurd (omega arith)
front (w ∷ x ∷ y ∷ z ∷ t) a b c d h = refl

pub front_long : (t : List ℕ) (a b c d : ℕ) → length (set (set (set (set t 0 a) 1 b) 2 c) 3 d) ≡ length t
front_long t a b c d = length-set (set (set (set t 0 a) 1 b) 2 c) 3 d ∙ length-set (set (set t 0 a) 1 b) 2 c ∙ length-set (set t 0 a) 1 b ∙ length-set t 0 a

laid-put : (ws t : List ℕ) (to : ℕ) → laid t to ws ≡ put t to ws
unfolding laid put
laid-put [] t to = refl
laid-put (w ∷ ws) t to = laid-put ws (set t to w) (to + 1)

column-is : (len : ℕ) (ws : List ℕ) → length ws ≤ len → column len 0 ws ≡ ws ++ zeros (len - length ws)
column-is len ws h =
    let z : 0 + length ws ≡ length ws = omega arith in
    laid-put ws (zeros len) 0
    ∙ put_is ws (zeros len) 0 (omega (arith, length-replicate {A = ℕ} len 0))
    ∙ ap (λ n. ws ++ drop n (zeros len)) z
    ∙ ap (λ l. ws ++ l) (drop-zeros len (length ws))

gates-many : (gs : List Gate) → length (gate_words gs) ≡ 5 * length gs
unfolding gate_words
gates-many [] = refl
gates-many (g ∷ gs) = omega (arith, gates-many gs)

pub contents-done : (net words : List ℕ) (gs : List Gate) (i o w : ℕ) → net ≡ image (length net) gs → length gs ≤ 1024 → 5124 ≤ length net → words ≡ i ∷ o ∷ w ∷ length gs ∷ drop 4 net
    → words ≡ net_words i o w gs ++ zeros (length net - length (net_words i o w gs))
unfolding net_words
contents-done net words gs i o w e few room q =
    let n = gates-many gs in
    let x : net ≡ 0 ∷ 0 ∷ 0 ∷ 0 ∷ (gate_words gs ++ zeros (length net - suc (suc (suc (suc (length (gate_words gs))))))) = e ∙ column-is (length net) (0 ∷ 0 ∷ 0 ∷ 0 ∷ gate_words gs) (omega (arith, n)) in
    q ∙ ap (λ t. i ∷ o ∷ w ∷ length gs ∷ t) (ap (drop 4) x)

-- ---- nothing is driven, and no gate is there

blank-words : (len : ℕ) → zeros len ≡ image len []
unfolding laid gate_words
blank-words len = column-after 4 len 0 []

pub blank-shows : (w : ℕ) (net : List ℕ) → net ≡ zeros (length net) → Shows (some-state w) (record { wires = w; steps = 0; gates = 0 }) net (replicate 1536 false)
unfolding driven
blank-shows w net e = record {
  wires = refl;
  steps = refl;
  gates = refl;
  words = e ∙ blank-words (length net);
  full = length-replicate 1536 false;
  marks = λ i h. get_or-replicate 1536 i false false h;
}

-- ---- main's body

module _ {len : ℕ} {P : Program} {t places : List ℕ} {last : ℕ} {net : List ℕ} {f : Frame} {nin nout w first after : ℕ} (b : Body len P t places last net f nin nout w first after) where
  pub main-task : Task len P t places last first after f (record { wires = w; steps = 0; gates = 0 }) net (replicate 1536 false) b.main.body (generics []) b.names (some-state w)
  main-task = record {
    shelf = b.shelf;
    here = b.here;
    roles = names_of b.main;
    scoped = b.scoped;
    suits = begun-suits b.main b.begun;
    stands = b.stands;
    shows = blank-shows w net b.blank;
    wires = b.wires;
  }

  pub main-no : {e : Refusal} {o : Result Counts Refusal} (words : List ℕ) (marks : List Bool) → o ≡ Err e → Answers (unfolds nin (deep nin P 15) b.main.body (generics []) b.names (some-state w)) o words marks → (after : List ℕ)
      → Nets (unfold_main P) (length net) (Err e) after
  unfolding Answers Nets
  main-no words marks q a after = body_refused P b.main b.is b.begun (refusal words marks q a)

  -- what the code has in hand once the body is unfolded
  pub record Unrolled (s : Counts) (words : List ℕ) : Type 0 where
    pub state : State
    pub is : unfold_main P ≡ ok (record { words = net_words nin nout state.next state.gates; steps = state.steps })
    pub wires : s.wires ≡ state.next
    pub few : state.next ≤ 1536
    pub steps : s.steps ≡ state.steps
    pub gates : s.gates ≡ length state.gates
    pub most : length state.gates ≤ 1024
    pub image : words ≡ image (length words) state.gates

  pub unrolled : {s : Counts} {o : Result Counts Refusal} (words : List ℕ) (marks : List Bool) → o ≡ Ok s → Answers (unfolds nin (deep nin P 15) b.main.body (generics []) b.names (some-state w)) o words marks → Unrolled s words
  unfolding Answers net_words
  unrolled words marks e a =
      let (v, is, shows, few) = success (unfolds nin (deep nin P 15) b.main.body (generics []) b.names (some-state w)) words marks e a in
      let done = body-done P b.main b.is b.begun is in
      record {
        state = v;
        is = done;
        wires = shows.wires;
        few = few;
        steps = shows.steps;
        gates = shows.gates;
        most = (unfolded-well P _ done []).0.few-gates;
        image = shows.words;
      }

  pub main-done : {s : Counts} (words net' : List ℕ) → length words ≡ length net → 5124 ≤ length net → Unrolled s words → net' ≡ nin ∷ nout ∷ s.wires ∷ s.gates ∷ drop 4 words → Nets (unfold_main P) (length net) (Ok s.steps) net'
  unfolding Nets
  main-done {s} words net' l room u q =
      let v = u.state in (
        record { words = net_words nin nout v.next v.gates; steps = v.steps },
        u.is,
        u.steps,
        subst (λ n. net' ≡ net_words nin nout v.next v.gates ++ zeros (n - length (net_words nin nout v.next v.gates))) l
            (contents-done words net' v.gates nin nout v.next u.image u.most (omega arith) (q ∙ rw (u.wires, u.gates))),
      )

-- ---- from main on the tape

-- main on the tape
pub record Main (len : ℕ) (P : Program) (t places : List ℕ) (end : ℕ) : Type 0 where
  pub block : Block ℕ Callee
  pub is : nth 9 P.blocks P.main ≡ ok block
  pub here : HereBlock t (get_or places P.main 0) end block
  pub body : HereStmts len t (body_from (get_or places P.main 0) block) (body_to (get_or places P.main 0) block) block.body
  pub scoped : StmtsOk (map ports_of P.blocks) (names_of block) block.body

pub main-of : {len : ℕ} {P : Program} {t places : List ℕ} {end : ℕ} → Shelf len P t places end → Main len P t places end
main-of {P = P} s =
    let (M, e, scoped) = nth-there (map ports_of P.blocks) P.blocks 9 P.main s.scoped.blocks s.scoped.main in
    let e₇ = nth-any 9 7 P.blocks P.main e in
    record { block = M; is = e; here = s.block P.main M e₇; body = s.body P.main M e₇; scoped = scoped }

module _ {len : ℕ} {P : Program} {t places : List ℕ} {end place : ℕ} {main : ℕ} (s : Shelf len P t places end) (m : Main len P t places end) (is : P.main ≡ main) (found : place ≡ get_or places main 0) where
  at : place ≡ get_or places P.main 0
  at = found ∙ ap (λ m. get_or places m 0) (sym is)

  pub main-here : HereBlock t place end m.block
  main-here = subst (λ p. HereBlock t p end m.block) (sym at) m.here

  pub main-written : WrittenBlock t place end
  main-written = record { block = m.block; here = main-here }

  pub main-not : {e : Refusal} (r : Result Begun Refusal) → r ≡ Err e → Begins m.block place r → (len₁ : ℕ) (words : List ℕ) → Nets (unfold_main P) len₁ (Err e) words
  unfolding Begins Nets
  main-not r q b len₁ words = main-refused P m.block m.is (subst (Begins m.block place) q b)

  pub main_body : {q : Begun} {net : List ℕ} (r : Result Begun Refusal) → r ≡ Ok q → Begins m.block place r → net ≡ zeros (length net)
      → Body len P t places end net q.frame q.inputs q.outputs q.wires q.body.at q.body.end
  unfolding Begins
  main_body {q} r e b blank =
      let g = subst (Begins m.block place) e b in
      record {
        shelf = s;
        main = m.block;
        is = m.is;
        names = g.names;
        begun = g.is;
        stands = g.stands;
        here = subst (λ z. HereStmts len t q.body.at z m.block.body) (sym g.last)
            (subst (λ a. HereStmts len t a (a + length (body_w m.block.body)) m.block.body) (sym (g.first ∙ ap (λ p. after_locals p m.block + 1) at)) m.body);
        scoped = m.scoped;
        ports = g.ports;
        wires = g.wires;
        blank = blank;
      }
