-- The impostors of 01, as what they answer and leave: none of them keeps the promise of `flatten`. Those that are a change of the code stand
-- in must-fail/. Assumes nothing.
use Rattle.std.specs.Prelude.{◌≡◌, refl, ◌↔◌, ℕ, zero, suc, ◌+◌, ◌*◌, ◌-◌, ◌≤◌, ◌<◌, Bool, true, false, cond, List, [], ◌∷◌, ◌++◌, map, length, get_or, replicate}
use Rattle.std.proofs.Common.{sym, ap, ◌∙◌, subst, arith}
use Prim.Native.String.{String}
use Rattle.std.proofs.lemmas.List.{length-replicate, get_or-replicate}
use Rattle.rules.specs.Text.{bytes, zeros}
use Rattle.rules.specs.Outcome.{ok}
use Rattle.rules.specs.Syntax.{Program}
use Rattle.rules.specs.Netlist.{inputs, outputs, wires, gates, gate_at}
use Rattle.rules.specs.Meaning.{Signal, dark, makes, GateHolds, carried, Allows, NetAllows}
use Rattle.rules.specs.Run.{from_byte}
use Rattle.rules.specs.Primitives.{primitive}
use Rattle.rules.specs.Flatten.{Answer, program, flatten}
use Rattle.rules.proofs.Edges.{design, designed, twice}
use Rattle.rules.proofs.Laws.Rings.{choice}
use Rattle.clear.specs.Zeros.{zeros-at, zeros-long}
use Rattle.netlist.specs.Answers.{Told}
use Rattle.run.specs.Ran.{Ran}
use Rattle.flatten.specs.Promise.{Flattened, Flattens}
use Rattle.flatten.specs.Starts.{Accepted}
use Rattle.flatten.specs.Code.{done-exactly, same_bits}
use Rattle.flatten.specs.Table.{gives, Is, Table, table, Limits, limits, mux}

-- a flattener, as its callers see it: for a text, and a work table and a netlist that are lent, what it answers, and what then stands in both
pub record Outcome : Type 0 where
  pub told : Flattened
  pub work : List ℕ
  pub words : List ℕ

abbrev pub Flattener : Type 0
Flattener = List ℕ → List ℕ → List ℕ → Outcome

-- it keeps the promise
abbrev pub Keeps : Flattener → Type 0
Keeps F = (text work net : List ℕ) → Flattens text work net (F text work net).told (F text work net).work (F text work net).words

-- P6: `odd` used twice, each time with its own locals
abbrev pub doubled : List ℕ
doubled =
    2 ∷ 2 ∷ 10 ∷ 8
    ∷ 0 ∷ 0 ∷ 65535 ∷ 65535 ∷ 4
    ∷ 0 ∷ 1 ∷ 65535 ∷ 65535 ∷ 5
    ∷ 8 ∷ 65535 ∷ 65535 ∷ 65535 ∷ 6
    ∷ 4 ∷ 6 ∷ 4 ∷ 65535 ∷ 7
    ∷ 0 ∷ 7 ∷ 65535 ∷ 65535 ∷ 2
    ∷ 8 ∷ 65535 ∷ 65535 ∷ 65535 ∷ 8
    ∷ 4 ∷ 8 ∷ 5 ∷ 65535 ∷ 9
    ∷ 0 ∷ 9 ∷ 65535 ∷ 65535 ∷ 3 ∷ []

-- the second use of `odd` tied to the wires of the first: its locals are 6 and 7 again
abbrev pub tied : List ℕ
tied =
    2 ∷ 2 ∷ 8 ∷ 8
    ∷ 0 ∷ 0 ∷ 65535 ∷ 65535 ∷ 4
    ∷ 0 ∷ 1 ∷ 65535 ∷ 65535 ∷ 5
    ∷ 8 ∷ 65535 ∷ 65535 ∷ 65535 ∷ 6
    ∷ 4 ∷ 6 ∷ 4 ∷ 65535 ∷ 7
    ∷ 0 ∷ 7 ∷ 65535 ∷ 65535 ∷ 2
    ∷ 8 ∷ 65535 ∷ 65535 ∷ 65535 ∷ 6
    ∷ 4 ∷ 6 ∷ 5 ∷ 65535 ∷ 7
    ∷ 0 ∷ 7 ∷ 65535 ∷ 65535 ∷ 3 ∷ []

-- or not unfolded at all: its output is tied to the last wire of the first, 7
abbrev pub tied-over : List ℕ
tied-over =
    2 ∷ 2 ∷ 8 ∷ 6
    ∷ 0 ∷ 0 ∷ 65535 ∷ 65535 ∷ 4
    ∷ 0 ∷ 1 ∷ 65535 ∷ 65535 ∷ 5
    ∷ 8 ∷ 65535 ∷ 65535 ∷ 65535 ∷ 6
    ∷ 4 ∷ 6 ∷ 4 ∷ 65535 ∷ 7
    ∷ 0 ∷ 7 ∷ 65535 ∷ 65535 ∷ 2
    ∷ 0 ∷ 7 ∷ 65535 ∷ 65535 ∷ 3 ∷ []

-- buffers to lend, of the least sizes; the netlist holds old words
desk : List ℕ
desk = zeros 16384

sheet : List ℕ
sheet = replicate 5124 1

desk-long : 16384 ≤ length desk
unfolding desk
desk-long = omega (arith, zeros-long 16384)

sheet-long : 5124 ≤ length sheet
unfolding sheet
sheet-long = omega (arith, length-replicate {A = ℕ} 5124 1)

old : get_or sheet 5123 0 ≡ 1
unfolding sheet
old = get_or-replicate {A = ℕ} 5124 5123 1 0 (omega arith)

cases : Table desk sheet
cases = table desk sheet desk-long sheet-long

ends : Limits desk sheet
ends = limits desk sheet desk-long sheet-long

-- the promise can be kept
abbrev by-the-rules : Flattener
by-the-rules text work net =
    let a = flatten text (length work) (length net) in
    record { told = record { number = a.number; place = a.place; steps = a.steps }; work = zeros (length work); words = a.words }

pub kept : Keeps by-the-rules
kept text work net = record { answer = refl; clean = refl }

module _ (F : Flattener) (keeps : Keeps F) where
  -- ---- the impostors of 01

  -- it refuses everything
  pub refuses-everything : ((text work net : List ℕ) → (F text work net).told.number ≡ 0 → ⊥) → ⊥
  refuses-everything h = h (bytes design) desk sheet (ap (λ a. a.number) (cases.p5 _ _ _ (keeps _ _ _)))

  -- or any text that the rules accept
  pub refuses-one : (text work net : List ℕ) → Accepted text (length work) (length net) → ((F text work net).told.number ≡ 0 → ⊥) → ⊥
  refuses-one text work net a h = h ((done-exactly (keeps text work net)).1 a)

  -- it has a single fixed netlist: what it leaves where it says done does not depend on the text
  pub one-netlist : (fixed : List ℕ → List ℕ → List ℕ) → ((text work net : List ℕ) → (F text work net).told.number ≡ 0 → (F text work net).words ≡ fixed work net) → ⊥
  one-netlist fixed h =
      let K : Answer → Type 0 = λ a. a.number ≡ 0 → a.words ≡ fixed desk sheet in
      let p = subst K (cases.p5 _ _ _ (keeps _ _ _)) (h _ _ _) refl in
      let q = subst K (cases.p8 _ _ _ (keeps _ _ _)) (h _ _ _) refl in
      let z : ◌≡◌ {A = ℕ} 8 4 = ap wires (p ∙ sym q) in
      omega arith

  -- it leaves zeros and says done
  pub zeros-and-done : ((text work net : List ℕ) → (F text work net).told.number ≡ 0 → (F text work net).words ≡ zeros (length net)) → ⊥
  zeros-and-done = one-netlist (λ work net. zeros (length net))

  -- it unfolds the first use of a block and ties later uses to its wires
  pub ties-later-uses : (work net : List ℕ) → 16384 ≤ length work → 5124 ≤ length net → (z : List ℕ) → (F (bytes twice) work net).words ≡ tied ++ z → ⊥
  ties-later-uses work net a b z h =
      let e = ap (λ a. a.words) ((table work net a b).p6 _ _ _ (keeps _ _ _)) in
      let z : ◌≡◌ {A = ℕ} 10 8 = ap wires (sym e ∙ h) in
      omega arith

  pub ties-over : (work net : List ℕ) → 16384 ≤ length work → 5124 ≤ length net → (z : List ℕ) → (F (bytes twice) work net).words ≡ tied-over ++ z → ⊥
  ties-over work net a b z h =
      let e = ap (λ a. a.words) ((table work net a b).p6 _ _ _ (keeps _ _ _)) in
      let z : ◌≡◌ {A = ℕ} 8 6 = ap gates (sym e ∙ h) in
      omega arith

  -- it invents the steps: they are one number, or the gates, or made of the netlist in any other way
  pub invents-steps : (made : List ℕ → ℕ) → ((text work net : List ℕ) → (F text work net).told.number ≡ 0 → (F text work net).told.steps ≡ made (F text work net).words) → ⊥
  invents-steps made h =
      let K : Answer → Type 0 = λ a. a.number ≡ 0 → a.steps ≡ made a.words in
      let p = subst K (cases.p4 _ _ _ (keeps _ _ _)) (h _ _ _) refl in
      let q = subst K (cases.p7.0 _ _ _ (keeps _ _ _)) (h _ _ _) refl in
      let z : ◌≡◌ {A = ℕ} 1 0 = p ∙ sym q in
      omega arith

  -- ---- more of them

  -- it makes the place of the number alone, as 0 for every refusal
  pub invents-places : (made : ℕ → ℕ) → ((text work net : List ℕ) → ((F text work net).told.number ≡ 0 → ⊥) → (F text work net).told.place ≡ made (F text work net).told.number) → ⊥
  invents-places made h =
      let K : Answer → Type 0 = λ a. (a.number ≡ 0 → ⊥) → a.place ≡ made a.number in
      let p = subst K (ends.itself _ _ _ (keeps _ _ _)) (h _ _ _) (λ e. omega arith) in
      let q = subst K (ends.depth.1 _ _ _ (keeps _ _ _)) (h _ _ _) (λ e. omega arith) in
      let z : ◌≡◌ {A = ℕ} 23 560 = p ∙ sym q in
      omega arith

  -- it leaves the words that stand after the records
  pub keeps-the-tail : ((text work net : List ℕ) (i : ℕ) → (F text work net).told.number ≡ 0 → 4 + 5 * gates (F text work net).words ≤ i → get_or (F text work net).words i 0 ≡ get_or net i 0) → ⊥
  keeps-the-tail h =
      let K : Answer → Type 0 = λ a. (i : ℕ) → a.number ≡ 0 → 4 + 5 * gates a.words ≤ i → get_or a.words i 0 ≡ get_or sheet i 0 in
      let p = subst K (cases.p5 _ _ _ (keeps _ _ _)) (h _ _ _) 5123 refl (omega arith) in
      let z : ◌≡◌ {A = ℕ} 0 1 = sym (zeros-at (length sheet - 29) 5094) ∙ p ∙ old in
      omega arith

  -- it leaves the work table dirty: a word of it, on one path, for one text
  pub leaves-the-table-dirty : (text work net : List ℕ) (i : ℕ) → (get_or (F text work net).work i 0 ≡ 0 → ⊥) → ⊥
  leaves-the-table-dirty text work net i h = h (ap (λ t. get_or t i 0) (keeps text work net).clean ∙ zeros-at (length work) i)

  -- it counts main's outputs as inputs
  pub outputs-as-inputs : (work net : List ℕ) → 16384 ≤ length work → 5124 ≤ length net → inputs (F (bytes design) work net).words ≡ 4 → ⊥
  outputs-as-inputs work net a b h =
      let z : ◌≡◌ {A = ℕ} 3 4 = sym (ap (λ a. inputs a.words) ((table work net a b).p5 _ _ _ (keeps _ _ _))) ∙ h in
      omega arith

  -- a runner that shows 2 on every wire
  pub shows-2 : (work net : List ℕ) → 16384 ≤ length work → 5124 ≤ length net → (len : ℕ) (t : Told) (values : List ℕ) → 1536 ≤ len
      → Ran (F (bytes design) work net).words (1 ∷ 1 ∷ 0 ∷ []) len t values → ((i : ℕ) → get_or values i 0 ≡ 2) → ⊥
  shows-2 work net a b len t values l g all =
      let z : ◌≡◌ {A = ℕ} 2 0 = sym (all 3) ∙ ((table work net a b).p5-run _ _ _ (keeps _ _ _) len t values l g).1 in
      omega arith

-- ---- demand 3 alone excludes three of them: their netlists allow other bits than the programs

-- a program allows what the netlist of the rules allows
agrees : (text : String) (n : List ℕ) (steps : ℕ) → Is desk sheet text (gives n steps) → (P : Program) → program (bytes text) ≡ ok P
    → (bits : List Signal) → Allows P bits ↔ NetAllows (n ++ zeros (length sheet - length n)) bits
agrees text n steps is P reads bits =
    let f = kept (bytes text) desk sheet in
    let e = is _ _ _ f in
    subst (λ w. Allows P bits ↔ NetAllows w bits) (ap (λ a. a.words) e) (same_bits f (ap (λ a. a.number) e) P reads bits)

-- x(0) is 1, and p
lone : List Signal
lone = map from_byte (1 ∷ 0 ∷ 0 ∷ 1 ∷ [])

-- b is 1, and d
second : List Signal
second = map from_byte (0 ∷ 1 ∷ 0 ∷ 1 ∷ [])

lone-designed : (z : List ℕ) → NetAllows (designed ++ z) lone
unfolding lone Signal dark makes primitive from_byte carried
lone-designed z = record { wires = w; given = refl; hold = go }
  where
    w : ℕ → Signal
    w i = get_or (true ∷ false ∷ false ∷ true ∷ false ∷ true ∷ true ∷ true ∷ []) i false

    go : (i : ℕ) → i < 5 → GateHolds w (gate_at (designed ++ z) i)
    go zero h = refl
    go (suc zero) h = refl
    go (suc (suc zero)) h = refl
    go (suc (suc (suc zero))) h = refl
    go (suc (suc (suc (suc zero)))) h = refl
    go (suc (suc (suc (suc (suc i))))) h = absurd (omega arith)

lone-chosen : (z : List ℕ) → NetAllows (choice ++ z) lone → ⊥
unfolding lone Signal dark makes primitive from_byte carried
lone-chosen z n = go (n.wires 0) (n.wires 1) (n.wires 2) (n.wires 3) n.given (n.hold 0 (omega arith))
  where
    go : (c u v q : Bool) → c ∷ u ∷ v ∷ q ∷ [] ≡ true ∷ false ∷ false ∷ true ∷ [] → cond c v u ≡ q → ⊥
    go c u v q e h = let z : ◌≡◌ {A = ℕ} 0 1 = cc in omega arith

-- a single fixed netlist
pub one-netlist-two-programs : (P Q : Program) → program (bytes design) ≡ ok P → program (bytes mux) ≡ ok Q
    → (n : List ℕ) → ((bits : List Signal) → Allows P bits ↔ NetAllows n bits) → ((bits : List Signal) → Allows Q bits ↔ NetAllows n bits) → ⊥
one-netlist-two-programs P Q reads reads' n same same' =
    lone-chosen _ ((agrees mux choice 1 cases.p8 Q reads' lone).0 ((same' lone).1 ((same lone).0 ((agrees design designed 10 cases.p5 P reads lone).1 (lone-designed _)))))

no-wires : (n : ℕ) → NetAllows (zeros n) []
unfolding carried dark
no-wires n = record {
  wires = λ i. dark;
  given = let e : inputs (zeros n) + outputs (zeros n) ≡ 0 = omega (arith, zeros-at n 0, zeros-at n 1) in rw e;
  hold = λ i h. absurd (omega (arith, zeros-at n 3));
}

some-wires : (z : List ℕ) → NetAllows (designed ++ z) [] → ⊥
unfolding carried
some-wires z n = let z : ◌≡◌ {A = ℕ} 4 0 = ap length n.given in omega arith

-- zeros
pub zeros-for-a-program : (P : Program) → program (bytes design) ≡ ok P → (n : ℕ) → ((bits : List Signal) → Allows P bits ↔ NetAllows (zeros n) bits) → ⊥
zeros-for-a-program P reads n same = some-wires _ ((agrees design designed 10 cases.p5 P reads []).0 ((same []).1 (no-wires n)))

-- both uses of `odd` have their own wires: 6 and 7, 8 and 9
second-allowed : (z : List ℕ) → NetAllows (doubled ++ z) second
unfolding second Signal dark makes primitive from_byte carried
second-allowed z = record { wires = w; given = refl; hold = go }
  where
    w : ℕ → Signal
    w i = get_or (false ∷ true ∷ false ∷ true ∷ false ∷ true ∷ false ∷ false ∷ false ∷ true ∷ []) i false

    go : (i : ℕ) → i < 8 → GateHolds w (gate_at (doubled ++ z) i)
    go zero h = refl
    go (suc zero) h = refl
    go (suc (suc zero)) h = refl
    go (suc (suc (suc zero))) h = refl
    go (suc (suc (suc (suc zero)))) h = refl
    go (suc (suc (suc (suc (suc zero))))) h = refl
    go (suc (suc (suc (suc (suc (suc zero)))))) h = refl
    go (suc (suc (suc (suc (suc (suc (suc zero))))))) h = refl
    go (suc (suc (suc (suc (suc (suc (suc (suc i)))))))) h = absurd (omega arith)

-- one wire drives both outputs
one-wire : (w : ℕ → Signal) → carried w 0 4 ≡ second → makes 0 (w 7 ∷ []) ≡ w 2 → makes 0 (w 7 ∷ []) ≡ w 3 → ⊥
unfolding second Signal dark makes primitive from_byte carried
one-wire w given c d = go (w 0) (w 1) (w 2) (w 3) given (sym c ∙ d)
  where
    go : (a b c d : Bool) → a ∷ b ∷ c ∷ d ∷ [] ≡ false ∷ true ∷ false ∷ true ∷ [] → c ≡ d → ⊥
    go a b c d e h = let z : ◌≡◌ {A = ℕ} 0 1 = cc in omega arith

-- later uses tied to the wires of the first
pub tied-for-a-program : (P : Program) → program (bytes twice) ≡ ok P → (z : List ℕ) → ((bits : List Signal) → Allows P bits ↔ NetAllows (tied ++ z) bits) → ⊥
unfolding primitive
tied-for-a-program P reads z same =
    let n = (same second).0 ((agrees twice doubled 14 cases.p6 P reads second).1 (second-allowed _)) in
    one-wire n.wires n.given (n.hold 4 (omega arith)) (n.hold 7 (omega arith))

pub tied-over-for-a-program : (P : Program) → program (bytes twice) ≡ ok P → (z : List ℕ) → ((bits : List Signal) → Allows P bits ↔ NetAllows (tied-over ++ z) bits) → ⊥
unfolding primitive
tied-over-for-a-program P reads z same =
    let n = (same second).0 ((agrees twice doubled 14 cases.p6 P reads second).1 (second-allowed _)) in
    one-wire n.wires n.given (n.hold 4 (omega arith)) (n.hold 5 (omega arith))
