-- The drawing of docs/WORK-TABLE.md, computed. Assumes nothing.
use Rattle.std.specs.Prelude.{◌≡◌, refl, [], ◌∷◌}
use Prim.Native.String.{String}
use Rattle.rules.specs.Text.{bytes, pick, same, index_of}
use Rattle.rules.specs.Outcome.{ok, ◌>>=◌}
use Rattle.rules.specs.Words.{run, all, value_of, spelled, begun, word_at}
use Rattle.rules.specs.Syntax.{before}
use Rattle.rules.specs.Readers
use Rattle.rules.specs.Grammar
use Rattle.tape.specs.Layout.{pack, NUMBER, NAME, BRACKET, CALL, INPUT, OUTPUT, LOOP, INDEX, BODY, BLOCK, GENERIC, IN, OUT, VAR, head_of, flip, spelt, name_w}
use Rattle.tape.specs.Encoding.{list_w, exp_w, arg_w, stmts_w, sort_w, decl_w, generic_w, block_w, tape_of}

abbrev drawn : String
drawn = "BLOCK odd (n) [v:VECTOR (n-1..0) OF WIRE] [q:WIRE]\nVAR i:NUM;\nBEGIN GENERATE FOR i=0..n-1 BEGIN xor [t(i),v(-(i+1))] [q] END END;\n"

pub drawing : (do
  P ← Grammar.grammar (bytes drawn)
  ok (tape_of P)) ≡ ok
    (pack BLOCK 0 (spelt 6 9)
    ∷ pack GENERIC 0 (spelt 11 12)
    ∷ pack IN 1 (spelt 15 16)
    ∷ pack NAME 0 (spelt 25 26)
    ∷ pack NUMBER 4 1
    ∷ pack NUMBER 0 0
    ∷ pack OUT 0 (spelt 43 44)
    ∷ pack VAR 2 (spelt 55 56)
    ∷ pack BODY 0 14
    ∷ pack LOOP 0 68
    ∷ pack INDEX 0 (spelt 81 82)
    ∷ pack NUMBER 0 0
    ∷ pack NAME 0 (spelt 86 87)
    ∷ pack NUMBER 4 1
    ∷ pack BODY 0 8
    ∷ pack CALL 0 (spelt 96 99)
    ∷ pack INPUT 1 (spelt 101 102)
    ∷ pack NAME 0 (spelt 103 104)
    ∷ pack INPUT 1 (spelt 106 107)
    ∷ pack BRACKET 1 2
    ∷ pack NAME 0 (spelt 110 111)
    ∷ pack NUMBER 2 1
    ∷ pack OUTPUT 0 (spelt 118 119) ∷ [])
unfolding pick same index_of ◌>>=◌ run all value_of spelled begun word_at before Readers.◌>>=◌ Readers.give Readers.marked Readers.named Readers.is_next Readers.after Readers.mark Readers.a_name Readers.if_next Readers.rest_up_to Readers.some Readers.any Grammar.factored Grammar.joined Grammar.chain_up_to Grammar.chain Grammar.factor Grammar.bounds Grammar.declared Grammar.vectored Grammar.a_type Grammar.port Grammar.local Grammar.generics Grammar.ports Grammar.argument Grammar.arguments Grammar.calling Grammar.looping Grammar.stated Grammar.statement Grammar.body Grammar.a_block Grammar.blocks Grammar.grammar head_of flip name_w list_w exp_w arg_w stmts_w sort_w decl_w generic_w block_w
drawing = refl
