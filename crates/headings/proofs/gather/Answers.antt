use Rattle.std.proofs.Common.{sym, ◌∙◌, arith}
use Rattle.sweep.proofs.Laws.Gather.{wanted-no, wanted-kept, wanted-more, wanted-end, wanted-none}
use Rattle.headings.proofs.gather.Goals.{then-wanted, else-wanted}
use Rattle.headings.proofs.gather.Goals as goal

pub loop-word-preserved : goal.loop-word-preserved
loop-word-preserved g c = elim c.if-wanted.branch [
  | then-wanted w ↦ record { few = omega arith; ahead = λ p h. let f = sym (h _ _ c.wanted.ensures) ∙ w.if-wanted.true in let z = wanted-kept c.args.tape.now c.loop-word.word-index c.loop-word-test.true p f c.loop-word.rows c.loop-word.next in let y = wanted-more c.args.tape.now c.loop-word.word-index c.loop-word-test.true p f c.loop-word.next in let a = c.loop-word.invariant.ahead p h in (cc, omega arith) }
  | else-wanted w ↦ record { few = omega arith; ahead = λ p h. let f = sym (h _ _ c.wanted.ensures) ∙ w.if-wanted.false in let z = wanted-no c.args.tape.now c.loop-word.word-index c.loop-word-test.true p f in let a = c.loop-word.invariant.ahead p h in (cc, cc) }
]

pub returns : goal.returns
returns g c = λ p h. let a = c.loop-word.invariant.ahead p h in (sym (wanted-end c.args.tape.now c.loop-word.word-index c.loop-word-test.false p _ _) ∙ a.0, sym (wanted-none c.args.tape.now c.loop-word.word-index c.loop-word-test.false p _) ∙ a.1)
