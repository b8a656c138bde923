use Rattle.std.proofs.Common.{arith}
use Rattle.std.proofs.lemmas.Result.{err_from_is_err_and}
use Rattle.sweep.proofs.Laws.Steps.{index-unknown, index-bars, index-stands}
use Rattle.names.proofs.Scope.as_index.Goals as goal

pub returns-in_err-k : goal.returns-in_err-k
returns-in_err-k c = let p = err_from_is_err_and c.from_residual.result c.from_residual.ensures.1 in rw (p.1, p.2) (index-unknown c.args.self.now.text.now c.args.self.now.words.now c.args.word c.in_err-k.ensures.rules)

pub returns-then-not-is_index : goal.returns-then-not-is_index
returns-then-not-is_index c = rw c.refusal.ensures (index-bars c.args.self.now.text.now c.args.self.now.words.now c.args.word c.in_ok-k.ensures.rules c.in_ok-k.ensures.there _ c.is_index.ensures c.if-not-is_index.true)

pub returns : goal.returns
returns c = (index-stands c.args.self.now.text.now c.args.self.now.words.now c.args.word c.in_ok-k.ensures.rules c.in_ok-k.ensures.there _ c.is_index.ensures c.if-not-is_index.false, omega (arith, c.in_ok-k.ensures.there, c.args.self.now.few))
