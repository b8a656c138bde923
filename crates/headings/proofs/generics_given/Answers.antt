use Rattle.std.specs.Prelude.{◌≡◌, ltb, get_or}
use Rattle.std.specs.Int.{from_bool}
use Rattle.std.proofs.Common.{arith, refl, ◌∙◌}
use Rattle.tape.specs.Layout.{head_in}
use Rattle.sweep.proofs.Laws.Counts.{at-most-one, generics-stop, generics-inside, generics-more, generics-end}
use Rattle.headings.proofs.generics_given.Goals.{then-inside-gt0, else-inside-gt0}
use Rattle.headings.proofs.generics_given.Goals as goal

pub returns-then-code-kind_of : goal.returns-then-code-kind_of
returns-then-code-kind_of c = let z = generics-stop c.args.words.now c.loop-word.word-index c.loop-word.inside c.loop-word-test.true (omega (arith, c.code.ensures.0)) in omega arith

pub loop-word-preserved : goal.loop-word-preserved
loop-word-preserved c = elim c.if-inside-gt0.branch [
  | then-inside-gt0 w ↦ let z = generics-inside c.args.words.now c.loop-word.word-index c.loop-word.inside c.loop-word-test.true (omega (arith, c.code.ensures.0)) (omega arith) in record { few = omega arith; ahead = cc }
  | else-inside-gt0 w ↦
      let n : w.from-given.result ≡ from_bool (ltb (head_in (get_or c.args.words.now c.loop-word.word-index 0)) 2) = w.from-given.ensures ∙ rw w.head_of.ensures refl in
      let z = generics-more c.args.words.now c.loop-word.word-index c.loop-word.inside c.loop-word-test.true w.from-given.result w.words_inside-inside.result (omega (arith, c.code.ensures.0)) (omega arith) n w.words_inside-inside.ensures in
      record { few = omega (arith, at-most-one (ltb (head_in (get_or c.args.words.now c.loop-word.word-index 0)) 2)); ahead = rw (w.given-is, w.inside-is) (omega arith) }
]

pub returns : goal.returns
returns c = let z = generics-end c.args.words.now c.loop-word.word-index c.loop-word.inside c.loop-word-test.false in omega arith
