-- How what the code holds shows a state of the unfolding: counters, the netlist's words and the marks. Assumes nothing.
use Rattle.std.specs.Prelude.{◌≡◌, refl, ℕ, zero, suc, ◌+◌, ◌*◌, ◌≤◌, ◌<◌, Bool, false, ◌||◌, List, [], ◌∷◌, ◌++◌, length, get_or, set, take, ltb, eqb, Result, Ok, Err}
use Rattle.std.proofs.Common.{sym, ap, ◌∙◌, subst, arith, get_or-set_same, get_or-set_other, get_or-take}
use native.Mathlib.Decide.{ℕ_discrete}
use Rattle.std.proofs.Math.Bool.{true}
use Rattle.std.proofs.Math.ListN.{length-append, length-set}
use borrow.Author.Tests.{lt-ltb, le-ltb, eq-eqb, ne_eqb}
use Rattle.rules.specs.Text.{pick}
use Rattle.rules.specs.declared.Gate.{Gate}
use Rattle.rules.specs.Outcome.{Out, ok, refuse, ◌>>=◌, need}
use Rattle.rules.specs.Primitives.{inputs_of}
use Rattle.rules.specs.Netlist.{gate_words}
use Rattle.rules.specs.Unfold.{State, tick, emit, driven, gate_on}
use Rattle.rules.proofs.Laws.Order.{step-late}
use Rattle.frames.specs.Laid.{laid, column, laid-append, laid-length}
use Rattle.gates.specs.declared.Counts.{Counts}
use Rattle.rules.specs.declared.Reason.{Reason}
use Rattle.rules.specs.declared.Reason.TheVariants.{TooManySteps, TooManyGates, DrivenTwice}
use Rattle.rules.specs.Reasons.{number as number_of}
use Rattle.frames.specs.declared.Vector.{Vector}
use Rattle.frames.specs.Stands.{no_vector}

-- the netlist, of len words, before its table of contents is written
abbrev pub image : ℕ → List Gate → List ℕ
image len gs = column len 0 (0 ∷ 0 ∷ 0 ∷ 0 ∷ gate_words gs)

pub record Shows (v : State) (s : Counts) (net : List ℕ) (m : List Bool) : Type 0 where
  pub wires : s.wires ≡ v.next
  pub steps : s.steps ≡ v.steps
  pub gates : s.gates ≡ length v.gates
  pub words : net ≡ image (length net) v.gates
  pub full : length m ≡ 1536
  -- one mark for each wire
  pub marks : (w : ℕ) → w < 1536 → get_or m w false ≡ driven v.gates w

-- what the code answers and leaves, where the rules give o
unfoldable pub Gives : Out State → Result Counts Reason → List ℕ → List Bool → Type 0
Gives o (Ok s) net marks = (v : State) × (o ≡ ok v) × Shows v s net marks
Gives o (Err e) net marks = o ≡ refuse (number_of e) 0

-- some state is shown
pub record Held (s : Counts) (net : List ℕ) (marks : List Bool) : Type 0 where
  pub state : State
  pub shows : Shows state s net marks

-- ---- steps

pub tick-on : {v : State} {s : Counts} {net : List ℕ} {marks : List Bool} → Shows v s net marks → s.steps < 20000
    → Gives (tick v) (Ok (record { wires = s.wires; steps = s.steps + 1; gates = s.gates })) net marks
unfolding Gives tick need ◌>>=◌
tick-on {v} {s} h l =
    let e : v.steps < 20000 = omega (arith, h.steps) in (
      record { next = v.next; steps = suc v.steps; gates = v.gates },
      rw (lt-ltb v.steps 20000 e),
      record { wires = h.wires; steps = omega (arith, h.steps); gates = h.gates; words = h.words; full = h.full; marks = h.marks },
    )

pub tick-off : {v : State} {s : Counts} {net : List ℕ} {marks : List Bool} → Shows v s net marks → 20000 ≤ s.steps → Gives (tick v) (Err TooManySteps) net marks
unfolding Gives
tick-off {v} h l = step-late v (omega (arith, h.steps))

-- ---- gates

abbrev pub words_of : Gate → List ℕ
words_of g = g.kind ∷ g.a ∷ g.b ∷ g.c ∷ g.out ∷ []

words_more : (gs : List Gate) (g : Gate) → gate_words (gs ++ (g ∷ [])) ≡ gate_words gs ++ words_of g
unfolding gate_words
words_more [] g = refl
words_more (x ∷ gs) g = ap (λ l. x.kind ∷ x.a ∷ x.b ∷ x.c ∷ x.out ∷ l) (words_more gs g)

words-many : (gs : List Gate) → length (gate_words gs) ≡ 5 * length gs
unfolding gate_words
words-many [] = refl
words-many (x ∷ gs) = omega (arith, words-many gs)

image-more : (len : ℕ) (gs : List Gate) (g : Gate) → laid (image len gs) (4 + 5 * length gs) (words_of g) ≡ image len (gs ++ (g ∷ []))
image-more len gs g =
    let e : 0 + suc (suc (suc (suc (length (gate_words gs))))) ≡ 4 + 5 * length gs = omega (arith, words-many gs) in
    subst (λ n. laid (image len gs) n (words_of g) ≡ image len (gs ++ (g ∷ []))) e
    (laid-append (0 ∷ 0 ∷ 0 ∷ 0 ∷ gate_words gs) (words_of g) _ 0 ∙ ap (λ l. column len 0 (0 ∷ 0 ∷ 0 ∷ 0 ∷ l)) (sym (words_more gs g)))

or-last : (a b : Bool) → (a || (b || false)) ≡ (a || b)
or-last true b = refl
or-last false true = refl
or-last false false = refl

or_assoc : (a b c : Bool) → (a || (b || c)) ≡ ((a || b) || c)
or_assoc true b c = refl
or_assoc false b c = refl

or-true : (a : Bool) → (a || true) ≡ true
or-true true = refl
or-true false = refl

or-false : (a : Bool) → (a || false) ≡ a
or-false true = refl
or-false false = refl

driven-more : (gs : List Gate) (g : Gate) (w : ℕ) → driven (gs ++ (g ∷ [])) w ≡ (driven gs w || eqb g.out w)
unfolding driven
driven-more [] g w = or-last false (eqb g.out w)
driven-more (x ∷ gs) g w = rw (driven-more gs g w) (or_assoc (eqb x.out w) (driven gs w) (eqb g.out w))

marks-more : (gs : List Gate) (g : Gate) (m : List Bool) → length m ≡ 1536 → g.out < 1536 → ((w : ℕ) → w < 1536 → get_or m w false ≡ driven gs w)
    → (w : ℕ) → w < 1536 → get_or (set m g.out true) w false ≡ driven (gs ++ (g ∷ [])) w
marks-more gs g m l o h w b = go (ℕ_discrete g.out w)
  where
    go : Dec (g.out ≡ w) → get_or (set m g.out true) w false ≡ driven (gs ++ (g ∷ [])) w
    go (yes e) = rw (driven-more gs g w, eq-eqb g.out w e, ← e) (get_or-set_same m g.out true false (omega arith) ∙ sym (or-true (driven gs g.out)))
    go (no e) = rw (driven-more gs g w, ne_eqb g.out w e) (get_or-set_other m g.out w true false (λ f. e (sym f)) ∙ h w b ∙ sym (or-false (driven gs w)))

words-on : {n : ℕ} (gs : List Gate) (g : Gate) (net : List ℕ) → n ≡ length gs → net ≡ image (length net) gs
    → laid net (4 + 5 * n) (words_of g) ≡ image (length (laid net (4 + 5 * n) (words_of g))) (gs ++ (g ∷ []))
words-on {n} gs g net c e =
    let l : length (laid net (4 + 5 * n) (words_of g)) ≡ length net = laid-length (words_of g) net (4 + 5 * n) in
    subst (λ k. laid net (4 + 5 * n) (words_of g) ≡ image k (gs ++ (g ∷ []))) (sym l)
    (ap (λ k. laid net (4 + 5 * k) (words_of g)) c ∙ ap (λ t. laid t (4 + 5 * length gs) (words_of g)) e ∙ image-more (length net) gs g)

module _ {v : State} {s : Counts} {net : List ℕ} {marks : List Bool} (h : Shows v s net marks) (nin : ℕ) (g : Gate) where
  few : s.gates < 1024 → length v.gates < 1024
  few l = omega (arith, h.gates)

  pub emit-full : 1024 ≤ s.gates → Gives (emit nin g v) (Err TooManyGates) net marks
  unfolding Gives emit need ◌>>=◌
  emit-full l = rw (le-ltb (length v.gates) 1024 (omega (arith, h.gates)))

  taken : g.out < 1536 → s.gates < 1024 → (ltb g.out nin || get_or marks g.out false) ≡ true → Gives (emit nin g v) (Err DrivenTwice) net marks
  unfolding Gives emit need ◌>>=◌
  taken o l e = rw (lt-ltb (length v.gates) 1024 (few l), ← (h.marks g.out o), e)

  -- one of main's inputs, or driven
  pub emit-input : g.out < 1536 → s.gates < 1024 → g.out < nin → Gives (emit nin g v) (Err DrivenTwice) net marks
  emit-input o l i = taken o l (rw (lt-ltb g.out nin i))

  pub emit-driven : g.out < 1536 → s.gates < 1024 → get_or marks g.out false ≡ true → Gives (emit nin g v) (Err DrivenTwice) net marks
  emit-driven o l d = taken o l (rw d (or-true (ltb g.out nin)))

  pub emit-on : {net' : List ℕ} {marks' : List Bool} → s.gates < 1024 → g.out < 1536 → nin ≤ g.out → get_or marks g.out false ≡ false
      → net' ≡ laid net (4 + 5 * s.gates) (words_of g) → marks' ≡ set marks g.out true
      → Gives (emit nin g v) (Ok (record { wires = s.wires; steps = s.steps; gates = s.gates + 1 })) net' marks'
  unfolding Gives emit need ◌>>=◌
  emit-on l o i d n m = (
    record { next = v.next; steps = v.steps; gates = v.gates ++ (g ∷ []) },
    rw (lt-ltb (length v.gates) 1024 (few l), le-ltb g.out nin i, ← (h.marks g.out o), d),
    rw (n, m) (record {
      wires = h.wires;
      steps = h.steps;
      gates = omega (arith, h.gates, length-append v.gates (g ∷ []));
      words = words-on v.gates g net h.gates h.words;
      full = length-set marks g.out true ∙ h.full;
      marks = marks-more v.gates g marks h.full o h.marks;
    }),
  )

-- ---- a primitive's gate, from the wires of its arguments

-- input slot i of a gate with n inputs
unfoldable pub slot_of : List Vector → ℕ → ℕ → ℕ
slot_of ends i n = pick (ltb i n) (get_or ends i no_vector).base 65535

-- the wires that the first places hold
pub record Ends (ends : List Vector) (ws : List ℕ) : Type 0 where
  pub is : (j : ℕ) → j < 48 → (get_or ends j no_vector).base ≡ get_or ws j 0

any : (ws : List ℕ) (i d e : ℕ) → i < length ws → get_or ws i d ≡ get_or ws i e
any [] i d e h = absurd (omega arith)
any (w ∷ ws) zero d e h = refl
any (w ∷ ws) (suc i) d e h = any ws i d e (omega arith)

past : (n i d : ℕ) (ws : List ℕ) → n ≤ i → get_or (take n ws) i d ≡ d
past zero i d ws h = refl
past (suc n) i d [] h = refl
past (suc n) zero d (w ∷ ws) h = absurd (omega arith)
past (suc n) (suc i) d (w ∷ ws) h = past n i d ws (omega arith)

slot_is : (ends : List Vector) (ws : List ℕ) (i n : ℕ) → Ends ends ws → i < 48 → n < length ws → slot_of ends i n ≡ get_or (take n ws) i 65535
unfolding slot_of pick
slot_is ends ws i n e l h = go (native.Mathlib.Decide.dec_lt i n)
  where
    go : Dec (i < n) → pick (ltb i n) (get_or ends i no_vector).base 65535 ≡ get_or (take n ws) i 65535
    go (yes p) = rw (lt-ltb i n p) (e.is i l ∙ any ws i 0 65535 (omega arith) ∙ sym (get_or-take n ws i 65535 p))
    go (no p) = rw (le-ltb i n (omega arith)) (sym (past n i 65535 ws (omega arith)))

pub gate-is : (k : ℕ) (ends : List Vector) (ws : List ℕ) → Ends ends ws → inputs_of k < 48 → inputs_of k < length ws
    → record { kind = k; a = slot_of ends 0 (inputs_of k); b = slot_of ends 1 (inputs_of k); c = slot_of ends 2 (inputs_of k); out = (get_or ends (inputs_of k) no_vector).base } ≡ gate_on k ws
unfolding gate_on
gate-is k ends ws e b l =
    rw (slot_is ends ws 0 (inputs_of k) e (omega arith) l, slot_is ends ws 1 (inputs_of k) e (omega arith) l, slot_is ends ws 2 (inputs_of k) e (omega arith) l, e.is (inputs_of k) b)
