use Rattle.std.proofs.Common.{sym, ◌∙◌, arith}
use Rattle.sweep.proofs.Laws.Gather.{firsts-skip, firsts-pass, firsts-keep, firsts-end}
use Rattle.headings.proofs.gather_firsts.Goals.{then-is_heading, then-is, else-is, else-is_heading}
use Rattle.headings.proofs.gather_firsts.Goals as goal

pub loop-word-preserved : goal.loop-word-preserved
loop-word-preserved c = elim c.if-is_heading.branch [
  | then-is_heading w ↦ elim w.if-is.branch [
    | then-is v ↦ let z = firsts-keep c.args.tape.now c.loop-word.word-index c.loop-word-test.true _ c.is_heading.ensures w.if-is_heading.true _ w.is.ensures v.if-is.true c.loop-word.places c.loop-word.blocks c.loop-word.next in record { few = omega arith; fewer = omega arith; ahead = cc }
    | else-is v ↦ let z = firsts-pass c.args.tape.now c.loop-word.word-index c.loop-word-test.true _ c.is_heading.ensures w.if-is_heading.true _ w.is.ensures v.if-is.false c.loop-word.places c.loop-word.blocks c.loop-word.next in record { few = omega arith; fewer = omega arith; ahead = cc }
  ]
  | else-is_heading w ↦ let z = firsts-skip c.args.tape.now c.loop-word.word-index c.loop-word-test.true _ c.is_heading.ensures w.if-is_heading.false c.loop-word.places c.loop-word.blocks c.loop-word.next in record { few = omega arith; fewer = omega arith; ahead = cc }
]

pub returns : goal.returns
returns c = sym (firsts-end c.args.tape.now c.loop-word.word-index c.loop-word-test.false _ _ _) ∙ c.loop-word.invariant.ahead
