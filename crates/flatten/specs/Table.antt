-- P1 to P10 of 01, of the code, in one table (`Table`), proved by one theorem (`table`): whatever buffers are lent, if they are long enough,
-- a call of `flatten` on these texts has no other outcome. Then the R cases that compute (`Limits`, `limits`). Assumes nothing.
use Rattle.std.specs.Prelude.{◌≡◌, refl, ℕ, zero, suc, ◌-◌, ◌≤◌, ◌<◌, true, false, List, [], ◌∷◌, ◌++◌, map, length, get_or}
use Rattle.std.proofs.Common.{sym, ap, ◌∙◌, subst, arith, lit≤}
use Prim.Native.String.{String}
use Rattle.rules.specs.Text.{bytes, zeros, pick, same, index_of}
use Rattle.rules.specs.Outcome.{Out, refuse, ◌>>=◌, at, need, nth}
use Rattle.rules.specs.Primitives.{primitive}
use Rattle.rules.specs.Words.{run, all, value_of, spelled, begun, word_at}
use Rattle.rules.specs.Syntax.{before}
use Rattle.rules.specs.Readers
use Rattle.rules.specs.Grammar
use Rattle.rules.specs.Names
use Rattle.rules.specs.Resolve
use Rattle.rules.specs.Values
use Rattle.rules.specs.Frames
use Rattle.rules.specs.Netlist
use Rattle.rules.specs.Netlist.{wires, records}
use Rattle.rules.specs.Unfold
use Rattle.rules.specs.Unfold.{Unfolded}
use Rattle.rules.specs.Meaning.{Signal, dark, makes, NetAllows}
use Rattle.rules.specs.Run.{Known, given, made, none, more, to_byte, from_byte, Inputs, Shown, settled}
use Rattle.rules.specs.Flat.{flat_text}
use Rattle.rules.specs.Flatten
use Rattle.rules.specs.Flatten.{Answer, answer, flattened, flatten}
use Rattle.rules.proofs.Edges
use Rattle.rules.proofs.Edges.{of, design, designed, twice, full, over, edges}
use Rattle.rules.proofs.Laws.Bytes.{byte-below}
use Rattle.rules.proofs.Laws.Records.{flat-same}
use Rattle.rules.proofs.Laws.Rings.{ring, choice}
use Rattle.netlist.specs.Answers.{Told, done}
use Rattle.run.specs.Ran.{Ran}
use Rattle.run.specs.Known.{shown-one}
use Rattle.run.specs.Follows.{run-shows}
use Rattle.write.specs.Wrote.{Wrote}
use Rattle.flatten.specs.Promise.{Flattened, Flattens, seen}
use Rattle.flatten.specs.Starts.{starts}
use Rattle.flatten.specs.Code.{well-formed}
use Rattle.flatten.specs.Round.{is-written}
use Rattle.flatten.specs.Longer.{shown-too, allowed-too}

-- ---- what is said of a text

-- done, in so many steps: these words, and zeros in the rest of the lent netlist
abbrev pub gives : List ℕ → ℕ → ℕ → Answer
gives words steps len = record { number = 0; place = 0; steps = steps; words = words ++ zeros (len - length words) }

-- refusal n at place p, and zeros in the lent netlist
abbrev pub refuses : ℕ → ℕ → ℕ → Answer
refuses n p len = record { number = n; place = p; steps = 0; words = zeros len }

-- something holds of whatever words a call on this text, lent `work` and `net`, comes back with
abbrev pub Always : List ℕ → List ℕ → String → (Flattened → List ℕ → Type 0) → Type 0
Always work net text K = (r : Flattened) (table words : List ℕ) → Flattens (bytes text) work net r table words → K r words

-- number, place, steps and every word are these
abbrev pub Is : List ℕ → List ℕ → String → (ℕ → Answer) → Type 0
Is work net text a = Always work net text λ r words. seen r words ≡ a (length net)

-- `run` on the words and these input bytes, with values enough lent, is done and shows x on wire i
abbrev pub RunShows : List ℕ → List ℕ → String → List ℕ → ℕ → ℕ → Type 0
RunShows work net text ins i x =
    Always work net text λ r words. (len : ℕ) (t : Told) (values : List ℕ) → 1536 ≤ len → Ran words ins len t values → (t ≡ done 0) × (get_or values i 0 ≡ x)

-- `write` on the words, with text enough lent, writes this
abbrev pub Prints : List ℕ → List ℕ → String → String → Type 0
Prints work net text flat =
    Always work net text λ r words. (len : ℕ) (t : Told) (out : List ℕ) → 65536 ≤ len → Wrote words len t out
    → (t ≡ done (length (bytes flat))) × (out ≡ bytes flat ++ zeros (len - length (bytes flat)))

-- the words allow no bits
abbrev pub AllowsNothing : List ℕ → List ℕ → String → Type 0
AllowsNothing work net text = Always work net text λ r words. (bits : List Signal) → NetAllows words bits → ⊥

-- ---- the table

-- a gate `zero` on wire 0, the only one
abbrev pub zeroed : List ℕ
zeroed = 0 ∷ 0 ∷ 1 ∷ 1 ∷ 8 ∷ 65535 ∷ 65535 ∷ 65535 ∷ 0 ∷ []

-- the design's flat text
abbrev pub printed : String
printed = "BLOCK main\n[w0:WIRE,w1:WIRE,w2:WIRE]\n[w3:WIRE]\nVAR w4:WIRE;\nVAR w5:WIRE;\nVAR w6:WIRE;\nVAR w7:WIRE;\nBEGIN\nzero [] [w4];\nxor [w4,w0] [w5];\nxor [w5,w1] [w6];\nxor [w6,w2] [w7];\nconnect [w7] [w3]\nEND;\n"

abbrev pub mux : String
mux = "BLOCK main [c:WIRE,u:WIRE,v:WIRE] [q:WIRE] BEGIN mux [c,u,v] [q] END;"

abbrev pub fed-back : String
fed-back = "BLOCK main [] [] VAR x:WIRE; BEGIN not [x] [x] END;"

pub record Table (work net : List ℕ) : Type 0 where
  -- 2-3-4 is -5, the only subscript of x
  pub p1 : Is work net "BLOCK main [] [] VAR x:VECTOR (-5..-5) OF WIRE; BEGIN zero [] [x(2-3-4)] END;" (gives zeroed 1)
  -- -2*3 is -6, the only subscript of x
  pub p2 : Is work net "BLOCK main [] [] VAR x:VECTOR (-6..-6) OF WIRE; BEGIN zero [] [x(-2*3)] END;" (gives zeroed 1)
  -- 1000*1000 is accepted, 1000*1001 is 10
  pub p3 : Is work net "BLOCK main [] [] VAR x:VECTOR (999999+1..999999+1) OF WIRE; BEGIN zero [] [x(1000*1000)] END;" (gives zeroed 1)
      × Is work net "BLOCK main [] [] VAR x:VECTOR (999999+1..999999+1) OF WIRE; BEGIN zero [] [x(1000*1001)] END;" (refuses 10 66)
  -- loop 1..0 adds nothing
  pub p4 : Is work net "BLOCK main [] [] VAR i:NUM; VAR x:WIRE; BEGIN GENERATE FOR i=1..0 BEGIN zero [] [x] END END;" (gives (0 ∷ 0 ∷ 1 ∷ 0 ∷ []) 1)
  -- the design, contents and gates
  pub p5 : Is work net design (gives designed 10)
  -- what is printed of it
  pub p5-printed : Prints work net design printed
  -- with x(0)=1, x(1)=1, x(2)=0 the output is 0
  pub p5-run : RunShows work net design (1 ∷ 1 ∷ 0 ∷ []) 3 0
  -- odd (1) called twice with different wires: two t's, four distinct locals, 6 to 9
  pub p6 : Is work net twice (gives (2 ∷ 2 ∷ 10 ∷ 8
      ∷ 0 ∷ 0 ∷ 65535 ∷ 65535 ∷ 4
      ∷ 0 ∷ 1 ∷ 65535 ∷ 65535 ∷ 5
      ∷ 8 ∷ 65535 ∷ 65535 ∷ 65535 ∷ 6
      ∷ 4 ∷ 6 ∷ 4 ∷ 65535 ∷ 7
      ∷ 0 ∷ 7 ∷ 65535 ∷ 65535 ∷ 2
      ∷ 8 ∷ 65535 ∷ 65535 ∷ 65535 ∷ 8
      ∷ 4 ∷ 8 ∷ 5 ∷ 65535 ∷ 9
      ∷ 0 ∷ 9 ∷ 65535 ∷ 65535 ∷ 3 ∷ []) 14)
  -- vector (0..0) has one wire, (0..1) is 11
  pub p7 : Is work net "BLOCK main [] [] VAR x:VECTOR (0..0) OF WIRE; BEGIN END;" (gives (0 ∷ 0 ∷ 1 ∷ 0 ∷ []) 0)
      × Is work net "BLOCK main [] [] VAR x:VECTOR (0..1) OF WIRE; BEGIN END;" (refuses 11 21)
  -- a mux
  pub p8 : Is work net mux (gives choice 1)
  -- with c=0 it shows u, with c=1 it shows v
  pub p8-runs : (u v : Signal) → RunShows work net mux (0 ∷ to_byte u ∷ to_byte v ∷ []) 3 (to_byte u) × RunShows work net mux (1 ∷ to_byte u ∷ to_byte v ∷ []) 3 (to_byte v)
  -- a wire fed back through not
  pub p9 : Is work net fed-back (gives ring 1)
  -- it stays 2 and the netlist allows nothing
  pub p9-runs : RunShows work net fed-back [] 0 2 × AllowsNothing work net fed-back
  -- wire 1,536 accepted, 1,537 not
  pub p10 : Is work net full (gives (0 ∷ 0 ∷ 1536 ∷ 0 ∷ []) 0) × Is work net over (refuses 16 207)

-- the R cases that compute
pub record Limits (work net : List ℕ) : Type 0 where
  -- empty text is 4 at 0
  pub empty : Is work net "" (refuses 4 0)
  -- 256 and 257 wires
  pub wide : Is work net "BLOCK main [] [] VAR x:VECTOR (255..0) OF WIRE; BEGIN END;" (gives (0 ∷ 0 ∷ 256 ∷ 0 ∷ []) 0)
      × Is work net "BLOCK main [] [] VAR x:VECTOR (256..0) OF WIRE; BEGIN END;" (refuses 11 21)
  -- a block that calls itself
  pub itself : Is work net "BLOCK main [] [] BEGIN main [] [] END;" (refuses 14 23)
  -- an unused block with an unknown name
  pub unused-block : Is work net "BLOCK main [] [] BEGIN END; BLOCK idle [] [] BEGIN nobody [] [] END;" (refuses 7 51)
  -- 20,000 and 20,001 steps
  pub steps : Is work net "BLOCK main [] [] VAR i:NUM; BEGIN GENERATE FOR i=1..19999 BEGIN END END;" (gives (0 ∷ 0 ∷ 0 ∷ 0 ∷ []) 20000)
      × Is work net "BLOCK main [] [] VAR i:NUM; BEGIN GENERATE FOR i=1..20000 BEGIN END END;" (refuses 15 34)
  -- 16 and 17 bodies inside one another
  pub depth : Is work net "BLOCK main [] [] BEGIN b1 [] [] END; BLOCK b1 [] [] BEGIN b2 [] [] END; BLOCK b2 [] [] BEGIN b3 [] [] END; BLOCK b3 [] [] BEGIN b4 [] [] END; BLOCK b4 [] [] BEGIN b5 [] [] END; BLOCK b5 [] [] BEGIN b6 [] [] END; BLOCK b6 [] [] BEGIN b7 [] [] END; BLOCK b7 [] [] BEGIN b8 [] [] END; BLOCK b8 [] [] BEGIN b9 [] [] END; BLOCK b9 [] [] BEGIN b10 [] [] END; BLOCK b10 [] [] BEGIN b11 [] [] END; BLOCK b11 [] [] BEGIN b12 [] [] END; BLOCK b12 [] [] BEGIN b13 [] [] END; BLOCK b13 [] [] BEGIN b14 [] [] END; BLOCK b14 [] [] BEGIN b15 [] [] END; BLOCK b15 [] [] BEGIN END; " (gives (0 ∷ 0 ∷ 0 ∷ 0 ∷ []) 15)
      × Is work net "BLOCK main [] [] BEGIN b1 [] [] END; BLOCK b1 [] [] BEGIN b2 [] [] END; BLOCK b2 [] [] BEGIN b3 [] [] END; BLOCK b3 [] [] BEGIN b4 [] [] END; BLOCK b4 [] [] BEGIN b5 [] [] END; BLOCK b5 [] [] BEGIN b6 [] [] END; BLOCK b6 [] [] BEGIN b7 [] [] END; BLOCK b7 [] [] BEGIN b8 [] [] END; BLOCK b8 [] [] BEGIN b9 [] [] END; BLOCK b9 [] [] BEGIN b10 [] [] END; BLOCK b10 [] [] BEGIN b11 [] [] END; BLOCK b11 [] [] BEGIN b12 [] [] END; BLOCK b12 [] [] BEGIN b13 [] [] END; BLOCK b13 [] [] BEGIN b14 [] [] END; BLOCK b14 [] [] BEGIN b15 [] [] END; BLOCK b15 [] [] BEGIN b16 [] [] END; BLOCK b16 [] [] BEGIN END; " (refuses 14 560)

-- ---- the proof

-- what the definition says of a text for the least sizes, the code does with any
on : {s : List ℕ} {o : Out Unfolded} → flattened s 16384 5124 ≡ o → length s ≤ 16384 → (work net : List ℕ) → 16384 ≤ length work → 5124 ≤ length net
    → (r : Flattened) (table words : List ℕ) → Flattens s work net r table words → seen r words ≡ answer (length net) o
unfolding flatten
on {s} e h work net a b r table words f =
    f.answer ∙ ap (answer (length net)) (starts s (length work) (length net) a b h ∙ sym (starts s 16384 5124 (omega arith) (omega arith) h) ∙ e)

-- P1 to P3 as texts
record Values-as-texts : Type 0 where
  p1 : of "BLOCK main [] [] VAR x:VECTOR (-5..-5) OF WIRE; BEGIN zero [] [x(2-3-4)] END;" ≡ Edges.net zeroed 1
  p2 : of "BLOCK main [] [] VAR x:VECTOR (-6..-6) OF WIRE; BEGIN zero [] [x(-2*3)] END;" ≡ Edges.net zeroed 1
  p3 : of "BLOCK main [] [] VAR x:VECTOR (999999+1..999999+1) OF WIRE; BEGIN zero [] [x(1000*1000)] END;" ≡ Edges.net zeroed 1
  p3-over : of "BLOCK main [] [] VAR x:VECTOR (999999+1..999999+1) OF WIRE; BEGIN zero [] [x(1000*1001)] END;" ≡ refuse 10 66

values-as-texts : Values-as-texts
unfolding pick same index_of ◌>>=◌ at need nth primitive run all value_of spelled begun word_at before Readers.◌>>=◌ Readers.give Readers.marked Readers.named Readers.is_next Readers.after Readers.mark Readers.a_name Readers.if_next Readers.rest_up_to Readers.some Readers.any Grammar.factored Grammar.joined Grammar.chain_up_to Grammar.chain Grammar.factor Grammar.bounds Grammar.declared Grammar.vectored Grammar.a_type Grammar.port Grammar.local Grammar.generics Grammar.ports Grammar.argument Grammar.arguments Grammar.calling Grammar.looping Grammar.stated Grammar.statement Grammar.body Grammar.a_block Grammar.blocks Grammar.grammar Names.is_wire Names.is_vector Names.is_index Names.role_of Names.find Names.once Names.among Names.stands Names.expression Names.expressions Names.argument Names.arguments Resolve.called Resolve.statements Resolve.generics Resolve.sort Resolve.declarations Resolve.resolve_block Resolve.resolve_blocks Resolve.main_of Resolve.names Values.ranged Values.apply Values.eval Values.evals Values.rounds Values.width Values.shape Frames.offset Frames.blanks Frames.resolve Frames.resolves Frames.tie Frames.singles Frames.ends Unfold.tick Unfold.declare Unfold.gate_on Unfold.driven Unfold.emit Unfold.add_gate Unfold.act Unfold.turns Unfold.unfolds Unfold.enter Unfold.deep Unfold.unfold_main Netlist.gate_words Netlist.net_words Flatten.program Flatten.flattened
values-as-texts = record { p1 = refl; p2 = refl; p3 = refl; p3-over = refl }

-- a run of words that came back as n
module _ (work net : List ℕ) (text : String) (n : List ℕ) (steps : ℕ) (is : Is work net text (gives n steps))
    (whole : (z : List ℕ) → records (n ++ z) ≡ records n) where
  words_are : Always work net text λ r words. words ≡ n ++ zeros (length net - length n)
  words_are r table words f = ap (λ a. a.words) (is r table words f)

  same-records : Always work net text λ r words. records words ≡ records n
  same-records r table words f = ap records (words_are r table words f) ∙ whole (zeros (length net - length n))

  shows : {ins : List ℕ} {i x : ℕ} → ((z : List ℕ) → Inputs (n ++ z) ins) → ((z : List ℕ) → i < wires (n ++ z)) → Shown n ins i x → RunShows work net text ins i x
  shows {ins} {i} {x} fits below s r table words f len t values h g =
      let wf = well-formed f (ap (λ a. a.number) (is r table words f)) in
      let e : words ≡ n ++ zeros (length net - length n) = words_are r table words f in
      let l : i < wires words = subst (λ w. i < wires w) (sym e) (below _) in
      let (d, q) = run-shows h wf (subst (λ w. Inputs w ins) (sym e) (fits _)) g in
      (d, shown-one words wf ins (q.each i l) (shown-too n words (sym (same-records r table words f)) s))

  prints : (flat : String) → flat_text n ≡ bytes flat → Prints work net text flat
  prints flat q r table words f len t out h w =
      let e : flat_text words ≡ bytes flat = flat-same words n (same-records r table words f) ∙ q in
      let (a, b) = is-written f (ap (λ a. a.number) (is r table words f)) w h in
      (a ∙ ap (λ l. done (length l)) e, b ∙ ap (λ l. l ++ zeros (len - length l)) e)

  allows-nothing : ((bits : List Signal) → NetAllows n bits → ⊥) → AllowsNothing work net text
  allows-nothing k r table words f bits a = k bits (allowed-too words n (same-records r table words f) bits a)

whole-design : (z : List ℕ) → records (designed ++ z) ≡ records designed
unfolding records
whole-design z = refl

whole-choice : (z : List ℕ) → records (choice ++ z) ≡ records choice
unfolding records
whole-choice z = refl

whole-ring : (z : List ℕ) → records (ring ++ z) ≡ records ring
unfolding records
whole-ring z = refl

three : (a b c : ℕ) → a < 2 → b < 2 → c < 2 → (i : ℕ) → i < 3 → get_or (a ∷ b ∷ c ∷ []) i 0 < 2
three a b c f g h zero l = f
three a b c f g h (suc zero) l = g
three a b c f g h (suc (suc zero)) l = h
three a b c f g h (suc (suc (suc i))) l = absurd (omega arith)

-- the design's gates one by one: wires 4, 5, 6, 7 and then 3
even : Shown designed (1 ∷ 1 ∷ 0 ∷ []) 3 0
unfolding Signal dark makes primitive from_byte to_byte
even =
    let ins : List Signal = map from_byte (1 ∷ 1 ∷ 0 ∷ []) in
    let x0 : Known designed ins 0 true = given {i = 0} (omega arith) refl in
    let x1 : Known designed ins 1 true = given {i = 1} (omega arith) refl in
    let x2 : Known designed ins 2 false = given {i = 2} (omega arith) refl in
    let w4 : Known designed ins 4 false = made 0 (omega arith) refl none refl in
    let w5 : Known designed ins 5 true = made 1 (omega arith) refl (more w4 (more x0 none)) refl in
    let w6 : Known designed ins 6 false = made 2 (omega arith) refl (more w5 (more x1 none)) refl in
    let w7 : Known designed ins 7 false = made 3 (omega arith) refl (more w6 (more x2 none)) refl in
    let w3 : Known designed ins 3 false = made 4 (omega arith) refl (more w7 none) refl in
    settled w3

module _ (work net : List ℕ) (a : 16384 ≤ length work) (b : 5124 ≤ length net) where
  designed-is : Is work net design (gives designed 10)
  unfolding answer
  designed-is = on edges.p5 (lit≤ tt) work net a b

  mux-is : Is work net mux (gives choice 1)
  unfolding answer
  mux-is = on edges.p8.0 (lit≤ tt) work net a b

  fed-back-is : Is work net fed-back (gives ring 1)
  unfolding answer
  fed-back-is = on edges.p9.0 (lit≤ tt) work net a b

  mux-shows : (c : ℕ) (u v x : Signal) → c < 2 → Shown choice (c ∷ to_byte u ∷ to_byte v ∷ []) 3 (to_byte x) → RunShows work net mux (c ∷ to_byte u ∷ to_byte v ∷ []) 3 (to_byte x)
  mux-shows c u v x h s =
      shows work net mux choice 1 mux-is whole-choice (λ z. record { count = refl; bits = three c _ _ h (byte-below u) (byte-below v) }) (λ z. omega arith) s

  pub table : Table work net
  unfolding answer
  table = record {
    p1 = on values-as-texts.p1 (lit≤ tt) work net a b;
    p2 = on values-as-texts.p2 (lit≤ tt) work net a b;
    p3 = (on values-as-texts.p3 (lit≤ tt) work net a b, on values-as-texts.p3-over (lit≤ tt) work net a b);
    p4 = on edges.p4 (lit≤ tt) work net a b;
    p5 = designed-is;
    p5-printed = prints work net design designed 10 designed-is whole-design printed edges.p5-printed;
    p5-run = shows work net design designed 10 designed-is whole-design (λ z. record { count = refl; bits = three 1 1 0 (omega arith) (omega arith) (omega arith) }) (λ z. omega arith) even;
    p6 = on edges.p6 (lit≤ tt) work net a b;
    p7 = (on edges.p7.0 (lit≤ tt) work net a b, on edges.p7.1 (lit≤ tt) work net a b);
    p8 = mux-is;
    p8-runs = λ u v. (mux-shows 0 u v u (omega arith) (edges.p8.1 u v).0, mux-shows 1 u v v (omega arith) (edges.p8.1 u v).1);
    p9 = fed-back-is;
    p9-runs = (
      shows work net fed-back ring 1 fed-back-is whole-ring (λ z. record { count = refl; bits = λ i h. absurd (omega arith) }) (λ z. omega arith) edges.p9.1,
      allows-nothing work net fed-back ring 1 fed-back-is whole-ring edges.p9.2,
    );
    p10 = (on edges.p10.0 (lit≤ tt) work net a b, on edges.p10.1 (lit≤ tt) work net a b);
  }

  pub limits : Limits work net
  unfolding answer
  limits = record {
    empty = on (Edges.limits).empty (lit≤ tt) work net a b;
    wide = (on (Edges.limits).wide.0 (lit≤ tt) work net a b, on (Edges.limits).wide.1 (lit≤ tt) work net a b);
    itself = on (Edges.limits).itself (lit≤ tt) work net a b;
    unused-block = on (Edges.limits).unused-block (lit≤ tt) work net a b;
    steps = (on (Edges.limits).steps.0 (lit≤ tt) work net a b, on (Edges.limits).steps.1 (lit≤ tt) work net a b);
    depth = (on (Edges.limits).depth.0 (lit≤ tt) work net a b, on (Edges.limits).depth.1 (lit≤ tt) work net a b);
  }
