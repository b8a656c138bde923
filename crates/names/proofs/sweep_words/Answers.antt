use Rattle.std.proofs.Common.{refl, arith}
use Rattle.std.proofs.lemmas.Result.{err_from_is_err_and}
use Rattle.sweep.specs.Sweep.{state_of, start}
use Rattle.sweep.proofs.Laws.Turns.{begins, halts, goes, goes_same, finished}
use Rattle.names.proofs.sweep_words.Goals as goal

pub loop-at-init : goal.loop-at-init
loop-at-init c = record { same = refl; going = begins c.args.blocks.now.text.now c.args.blocks.now.headings.words.now c.args.blocks.now.headings.firsts.now c.args.blocks.now.titles.now (start c.args.scope.now c.args.until.now) c.args.tape.now }

pub loop-at-preserved : goal.loop-at-preserved
loop-at-preserved c = record { same = goes_same c.args.blocks.now.text.now c.args.blocks.now.headings.words.now c.args.blocks.now.headings.firsts.now c.args.blocks.now.titles.now c.loop-at.at (state_of c.loop-at.scope c.loop-at.until c.loop-at.spot) (start c.args.scope.now c.args.until.now) c.loop-at.tape c.args.tape.now (omega (arith, c.loop-at.auto.tape)) c.loop-at.invariant.same c.loop-at.invariant.going c.in_ok-step.step.word; going = goes c.args.blocks.now.text.now c.args.blocks.now.headings.words.now c.args.blocks.now.headings.firsts.now c.args.blocks.now.titles.now c.loop-at.at (state_of c.loop-at.scope c.loop-at.until c.loop-at.spot) (start c.args.scope.now c.args.until.now) c.loop-at.tape c.args.tape.now (omega (arith, c.loop-at.auto.tape)) c.loop-at.invariant.same c.loop-at.invariant.going c.in_ok-step.ensures }

pub returns-in_err-step : goal.returns-in_err-step
returns-in_err-step c = let p = err_from_is_err_and c.from_residual.result c.from_residual.ensures.1 in rw (p.1, p.2) (halts c.args.blocks.now.text.now c.args.blocks.now.headings.words.now c.args.blocks.now.headings.firsts.now c.args.blocks.now.titles.now c.loop-at.at (state_of c.loop-at.scope c.loop-at.until c.loop-at.spot) (start c.args.scope.now c.args.until.now) c.loop-at.tape c.args.tape.now (omega (arith, c.loop-at.auto.tape)) c.loop-at.invariant.same c.loop-at.invariant.going c.in_err-step.ensures)

pub returns : goal.returns
returns c = finished c.args.blocks.now.text.now c.args.blocks.now.headings.words.now c.args.blocks.now.headings.firsts.now c.args.blocks.now.titles.now c.loop-at.at (state_of c.loop-at.scope c.loop-at.until c.loop-at.spot) (start c.args.scope.now c.args.until.now) c.loop-at.tape c.args.tape.now (omega (arith, c.loop-at.auto.tape)) (omega (arith, c.loop-at.auto.tape)) c.loop-at.invariant.going
