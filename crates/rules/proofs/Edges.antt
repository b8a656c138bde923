-- 01, "Edges to prove and to run": P1 to P10 in one table (`Edges`), proved by one theorem (`edges`). Assumes nothing.
use Rattle.std.specs.Prelude.{◌≡◌, refl, ℕ, List, [], ◌∷◌, ℤ, pos, negsuc}
use Prim.Native.String.{String}
use Rattle.rules.specs.Text.{bytes, pick, joined, same, index_of}
use Rattle.rules.specs.Outcome.{Out, ok, refuse, ◌>>=◌, at, need, nth}
use Rattle.rules.specs.Primitives.{primitive}
use Rattle.rules.specs.Words.{run, all, value_of, spelled, begun, word_at}
use Rattle.rules.specs.Syntax.{before}
use Rattle.rules.specs.Readers
use Rattle.rules.specs.Grammar
use Rattle.rules.specs.Names
use Rattle.rules.specs.Resolve
use Rattle.rules.specs.Values
use Rattle.rules.specs.Values.{eval, generics}
use Rattle.rules.specs.Frames
use Rattle.rules.specs.Netlist
use Rattle.rules.specs.Unfold
use Rattle.rules.specs.Unfold.{Unfolded}
use Rattle.rules.specs.Meaning.{Signal, NetAllows}
use Rattle.rules.specs.Run.{to_byte, Shown}
use Rattle.rules.specs.Flat
use Rattle.rules.specs.Flat.{flat_text}
use Rattle.rules.specs.Flatten
use Rattle.rules.specs.Flatten.{flattened}
use Rattle.rules.proofs.Laws.Rings.{ring, ring-stays, ring-allows-nothing, choice, chosen}

-- the value of an expression without names
unfoldable pub value : String → Out ℤ
value t = do
  r ← Grammar.expression (bytes t) 0
  e ← Names.expression [] [] r.0
  eval (generics []) e

-- the answer to a text, with buffers of the least sizes
abbrev pub of : String → Out Unfolded
of t = flattened (bytes t) 16384 5124

abbrev pub net : List ℕ → ℕ → Out Unfolded
net words steps = ok (record { words = words; steps = steps })

-- 01's design from text to gates
abbrev pub design : String
design = "BLOCK main [x:VECTOR (2..0) OF WIRE] [p:WIRE]\nBEGIN odd (3) [x] [p] END;\nBLOCK odd (n) [v:VECTOR (n-1..0) OF WIRE] [q:WIRE]\nVAR t:VECTOR (n..0) OF WIRE; VAR i:NUM;\nBEGIN\nzero [] [t(0)];\nGENERATE FOR i=0..n-1 BEGIN xor [t(i),v(i)] [t(i+1)] END;\nconnect [t(n)] [q]\nEND;\n"

-- its netlist
abbrev pub designed : List ℕ
designed =
    3 ∷ 1 ∷ 8 ∷ 5
    ∷ 8 ∷ 65535 ∷ 65535 ∷ 65535 ∷ 4
    ∷ 4 ∷ 4 ∷ 0 ∷ 65535 ∷ 5
    ∷ 4 ∷ 5 ∷ 1 ∷ 65535 ∷ 6
    ∷ 4 ∷ 6 ∷ 2 ∷ 65535 ∷ 7
    ∷ 0 ∷ 7 ∷ 65535 ∷ 65535 ∷ 3 ∷ []

-- `odd` of the design, called twice with different wires
abbrev pub twice : String
twice = "BLOCK main [a:WIRE,b:WIRE] [c:WIRE,d:WIRE]\nVAR x:VECTOR (0..0) OF WIRE; VAR y:VECTOR (0..0) OF WIRE;\nBEGIN connect [a] [x(0)]; connect [b] [y(0)]; odd (1) [x] [c]; odd (1) [y] [d] END;\nBLOCK odd (n) [v:VECTOR (n-1..0) OF WIRE] [q:WIRE]\nVAR t:VECTOR (n..0) OF WIRE; VAR i:NUM;\nBEGIN\nzero [] [t(0)];\nGENERATE FOR i=0..n-1 BEGIN xor [t(i),v(i)] [t(i+1)] END;\nconnect [t(n)] [q]\nEND;\n"

-- six vectors of 256 wires, and one wire more
abbrev pub full : String
full = "BLOCK main [] [] VAR a:VECTOR (255..0) OF WIRE; VAR b:VECTOR (255..0) OF WIRE; VAR c:VECTOR (255..0) OF WIRE; VAR d:VECTOR (255..0) OF WIRE; VAR e:VECTOR (255..0) OF WIRE; VAR f:VECTOR (255..0) OF WIRE; BEGIN END;"

abbrev pub over : String
over = "BLOCK main [] [] VAR a:VECTOR (255..0) OF WIRE; VAR b:VECTOR (255..0) OF WIRE; VAR c:VECTOR (255..0) OF WIRE; VAR d:VECTOR (255..0) OF WIRE; VAR e:VECTOR (255..0) OF WIRE; VAR f:VECTOR (255..0) OF WIRE; VAR g:WIRE; BEGIN END;"

pub record Edges : Type 0 where
  -- 2-3-4 is -5
  pub p1 : value "2-3-4" ≡ ok (negsuc 4)
  -- -2*3 is -6
  pub p2 : value "-2*3" ≡ ok (negsuc 5)
  -- 1000*1000 is accepted, 1000*1001 is 10
  pub p3 : (value "1000*1000" ≡ ok (pos 1000000)) × (value "1000*1001" ≡ refuse 10 0)
  -- loop 1..0 adds nothing
  pub p4 : of "BLOCK main [] [] VAR i:NUM; VAR x:WIRE; BEGIN GENERATE FOR i=1..0 BEGIN zero [] [x] END END;" ≡ net (0 ∷ 0 ∷ 1 ∷ 0 ∷ []) 1
  -- the design, contents and gates
  pub p5 : of design ≡ net designed 10
  -- and what the program prints of it
  pub p5-printed : flat_text designed ≡ bytes "BLOCK main\n[w0:WIRE,w1:WIRE,w2:WIRE]\n[w3:WIRE]\nVAR w4:WIRE;\nVAR w5:WIRE;\nVAR w6:WIRE;\nVAR w7:WIRE;\nBEGIN\nzero [] [w4];\nxor [w4,w0] [w5];\nxor [w5,w1] [w6];\nxor [w6,w2] [w7];\nconnect [w7] [w3]\nEND;\n"
  -- odd (1) called twice with different wires: two t's, four distinct locals, 6 to 9
  pub p6 : of twice ≡ net (2 ∷ 2 ∷ 10 ∷ 8
      ∷ 0 ∷ 0 ∷ 65535 ∷ 65535 ∷ 4
      ∷ 0 ∷ 1 ∷ 65535 ∷ 65535 ∷ 5
      ∷ 8 ∷ 65535 ∷ 65535 ∷ 65535 ∷ 6
      ∷ 4 ∷ 6 ∷ 4 ∷ 65535 ∷ 7
      ∷ 0 ∷ 7 ∷ 65535 ∷ 65535 ∷ 2
      ∷ 8 ∷ 65535 ∷ 65535 ∷ 65535 ∷ 8
      ∷ 4 ∷ 8 ∷ 5 ∷ 65535 ∷ 9
      ∷ 0 ∷ 9 ∷ 65535 ∷ 65535 ∷ 3 ∷ []) 14
  -- vector (0..0) has one wire, (0..1) is 11
  pub p7 : (of "BLOCK main [] [] VAR x:VECTOR (0..0) OF WIRE; BEGIN END;" ≡ net (0 ∷ 0 ∷ 1 ∷ 0 ∷ []) 0)
      × (of "BLOCK main [] [] VAR x:VECTOR (0..1) OF WIRE; BEGIN END;" ≡ refuse 11 21)
  -- a mux with c=0 and c=1
  pub p8 : (of "BLOCK main [c:WIRE,u:WIRE,v:WIRE] [q:WIRE] BEGIN mux [c,u,v] [q] END;" ≡ net choice 1)
      × ((u v : Signal) → Shown choice (0 ∷ to_byte u ∷ to_byte v ∷ []) 3 (to_byte u) × Shown choice (1 ∷ to_byte u ∷ to_byte v ∷ []) 3 (to_byte v))
  -- a wire fed back through not stays 2 and the netlist allows nothing
  pub p9 : (of "BLOCK main [] [] VAR x:WIRE; BEGIN not [x] [x] END;" ≡ net ring 1) × Shown ring [] 0 2 × ((bits : List Signal) → NetAllows ring bits → ⊥)
  -- wire 1,536 accepted, 1,537 not
  pub p10 : (of full ≡ net (0 ∷ 0 ∷ 1536 ∷ 0 ∷ []) 0) × (of over ≡ refuse 16 207)

pub edges : Edges
unfolding value pick same index_of ◌>>=◌ at need nth primitive run all value_of spelled begun word_at before Readers.◌>>=◌ Readers.give Readers.marked Readers.named Readers.is_next Readers.after Readers.mark Readers.a_name Readers.if_next Readers.rest_up_to Readers.some Readers.any Grammar.factored Grammar.joined Grammar.chain_up_to Grammar.chain Grammar.factor Grammar.bounds Grammar.declared Grammar.vectored Grammar.a_type Grammar.port Grammar.local Grammar.generics Grammar.ports Grammar.argument Grammar.arguments Grammar.calling Grammar.looping Grammar.stated Grammar.statement Grammar.body Grammar.a_block Grammar.blocks Grammar.grammar Names.is_wire Names.is_vector Names.is_index Names.role_of Names.find Names.once Names.among Names.stands Names.expression Names.expressions Names.argument Names.arguments Resolve.called Resolve.statements Resolve.generics Resolve.sort Resolve.declarations Resolve.resolve_block Resolve.resolve_blocks Resolve.main_of Resolve.names Values.ranged Values.apply Values.eval Values.evals Values.rounds Values.width Values.shape Frames.offset Frames.blanks Frames.resolve Frames.resolves Frames.tie Frames.singles Frames.ends Unfold.tick Unfold.declare Unfold.gate_on Unfold.driven Unfold.emit Unfold.add_gate Unfold.act Unfold.turns Unfold.unfolds Unfold.enter Unfold.deep Unfold.unfold_main Netlist.gate_words Netlist.net_words Flatten.program Flatten.flattened flat_text joined Flat.decimal Flat.between Flat.wire_text Flat.entry_text Flat.ports_text Flat.vars_text Flat.wires_text Flat.gate_text Flat.gates_text
edges = record {
  p1 = refl;
  p2 = refl;
  p3 = (refl, refl);
  p4 = refl;
  p5 = refl;
  p5-printed = refl;
  p6 = refl;
  p7 = (refl, refl);
  p8 = (refl, chosen);
  p9 = (refl, ring-stays, ring-allows-nothing);
  p10 = (refl, refl);
}

-- 01's R list, as far as it computes here; the tests run it whole
pub record Limits : Type 0 where
  -- empty text is 4 at 0
  pub empty : of "" ≡ refuse 4 0
  -- 256 and 257 wires
  pub wide : (of "BLOCK main [] [] VAR x:VECTOR (255..0) OF WIRE; BEGIN END;" ≡ net (0 ∷ 0 ∷ 256 ∷ 0 ∷ []) 0) × (of "BLOCK main [] [] VAR x:VECTOR (256..0) OF WIRE; BEGIN END;" ≡ refuse 11 21)
  -- a block that calls itself
  pub itself : of "BLOCK main [] [] BEGIN main [] [] END;" ≡ refuse 14 23
  -- an unused block with an unknown name
  pub unused-block : of "BLOCK main [] [] BEGIN END; BLOCK idle [] [] BEGIN nobody [] [] END;" ≡ refuse 7 51
  -- 20,000 and 20,001 steps
  pub steps : (of "BLOCK main [] [] VAR i:NUM; BEGIN GENERATE FOR i=1..19999 BEGIN END END;" ≡ net (0 ∷ 0 ∷ 0 ∷ 0 ∷ []) 20000) × (of "BLOCK main [] [] VAR i:NUM; BEGIN GENERATE FOR i=1..20000 BEGIN END END;" ≡ refuse 15 34)
  -- 16 and 17 bodies inside one another
  pub depth : (of "BLOCK main [] [] BEGIN b1 [] [] END; BLOCK b1 [] [] BEGIN b2 [] [] END; BLOCK b2 [] [] BEGIN b3 [] [] END; BLOCK b3 [] [] BEGIN b4 [] [] END; BLOCK b4 [] [] BEGIN b5 [] [] END; BLOCK b5 [] [] BEGIN b6 [] [] END; BLOCK b6 [] [] BEGIN b7 [] [] END; BLOCK b7 [] [] BEGIN b8 [] [] END; BLOCK b8 [] [] BEGIN b9 [] [] END; BLOCK b9 [] [] BEGIN b10 [] [] END; BLOCK b10 [] [] BEGIN b11 [] [] END; BLOCK b11 [] [] BEGIN b12 [] [] END; BLOCK b12 [] [] BEGIN b13 [] [] END; BLOCK b13 [] [] BEGIN b14 [] [] END; BLOCK b14 [] [] BEGIN b15 [] [] END; BLOCK b15 [] [] BEGIN END; " ≡ net (0 ∷ 0 ∷ 0 ∷ 0 ∷ []) 15) × (of "BLOCK main [] [] BEGIN b1 [] [] END; BLOCK b1 [] [] BEGIN b2 [] [] END; BLOCK b2 [] [] BEGIN b3 [] [] END; BLOCK b3 [] [] BEGIN b4 [] [] END; BLOCK b4 [] [] BEGIN b5 [] [] END; BLOCK b5 [] [] BEGIN b6 [] [] END; BLOCK b6 [] [] BEGIN b7 [] [] END; BLOCK b7 [] [] BEGIN b8 [] [] END; BLOCK b8 [] [] BEGIN b9 [] [] END; BLOCK b9 [] [] BEGIN b10 [] [] END; BLOCK b10 [] [] BEGIN b11 [] [] END; BLOCK b11 [] [] BEGIN b12 [] [] END; BLOCK b12 [] [] BEGIN b13 [] [] END; BLOCK b13 [] [] BEGIN b14 [] [] END; BLOCK b14 [] [] BEGIN b15 [] [] END; BLOCK b15 [] [] BEGIN b16 [] [] END; BLOCK b16 [] [] BEGIN END; " ≡ refuse 14 560)

pub limits : Limits
unfolding value pick same index_of ◌>>=◌ at need nth primitive run all value_of spelled begun word_at before Readers.◌>>=◌ Readers.give Readers.marked Readers.named Readers.is_next Readers.after Readers.mark Readers.a_name Readers.if_next Readers.rest_up_to Readers.some Readers.any Grammar.factored Grammar.joined Grammar.chain_up_to Grammar.chain Grammar.factor Grammar.bounds Grammar.declared Grammar.vectored Grammar.a_type Grammar.port Grammar.local Grammar.generics Grammar.ports Grammar.argument Grammar.arguments Grammar.calling Grammar.looping Grammar.stated Grammar.statement Grammar.body Grammar.a_block Grammar.blocks Grammar.grammar Names.is_wire Names.is_vector Names.is_index Names.role_of Names.find Names.once Names.among Names.stands Names.expression Names.expressions Names.argument Names.arguments Resolve.called Resolve.statements Resolve.generics Resolve.sort Resolve.declarations Resolve.resolve_block Resolve.resolve_blocks Resolve.main_of Resolve.names Values.ranged Values.apply Values.eval Values.evals Values.rounds Values.width Values.shape Frames.offset Frames.blanks Frames.resolve Frames.resolves Frames.tie Frames.singles Frames.ends Unfold.tick Unfold.declare Unfold.gate_on Unfold.driven Unfold.emit Unfold.add_gate Unfold.act Unfold.turns Unfold.unfolds Unfold.enter Unfold.deep Unfold.unfold_main Netlist.gate_words Netlist.net_words Flatten.program Flatten.flattened
limits = record {
  empty = refl;
  wide = (refl, refl);
  itself = refl;
  unused-block = refl;
  steps = (refl, refl);
  depth = (refl, refl);
}
