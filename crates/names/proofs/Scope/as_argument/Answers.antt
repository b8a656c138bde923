use Rattle.std.proofs.Common.{arith}
use Rattle.std.proofs.lemmas.Result.{err_from_is_err_and}
use Rattle.sweep.proofs.Laws.Steps.{argument-unknown, sort-bars, shape-bars, shape-stands}
use Rattle.names.proofs.Scope.as_argument.Goals as goal

pub returns-in_err-k : goal.returns-in_err-k
returns-in_err-k c = let p = err_from_is_err_and c.from_residual.result c.from_residual.ensures.1 in rw (p.1, p.2) (argument-unknown c.args.self.now.text.now c.args.self.now.words.now c.args.word c.in_err-k.ensures.rules c.args.port)

pub returns-then-not-sort_fits : goal.returns-then-not-sort_fits
returns-then-not-sort_fits c = rw c.refusal.ensures (sort-bars c.args.self.now.text.now c.args.self.now.words.now c.args.word c.in_ok-k.ensures.rules c.in_ok-k.ensures.there c.args.port _ c.head_of-head.ensures _ c.sort_fits.ensures c.if-not-sort_fits.true)

pub returns-then-not-shape_fits : goal.returns-then-not-shape_fits
returns-then-not-shape_fits c = rw c.refusal-then-not-shape_fits.ensures (shape-bars c.args.self.now.text.now c.args.self.now.words.now c.args.word c.in_ok-k.ensures.rules c.in_ok-k.ensures.there c.args.port _ c.head_of-head.ensures _ c.sort_fits.ensures c.if-not-sort_fits.false _ (rw c.head_of.ensures at c.shape_fits.ensures) c.if-not-shape_fits.true)

pub returns : goal.returns
returns c = (shape-stands c.args.self.now.text.now c.args.self.now.words.now c.args.word c.in_ok-k.ensures.rules c.in_ok-k.ensures.there c.args.port _ c.head_of-head.ensures _ c.sort_fits.ensures c.if-not-sort_fits.false _ (rw c.head_of.ensures at c.shape_fits.ensures) c.if-not-shape_fits.false, omega (arith, c.in_ok-k.ensures.there, c.args.self.now.few))
