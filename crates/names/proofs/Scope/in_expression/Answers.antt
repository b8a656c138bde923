use Rattle.std.specs.Prelude.{◌≡◌, get_or}
use Rattle.std.proofs.Common.{arith, rules}
use Rattle.std.proofs.lemmas.Result.{err_from_is_err_and}
use Rattle.sweep.proofs.Laws.Steps.{name-unknown, name-bars, name-stands}
use Rattle.names.proofs.Scope.in_expression.Goals as goal

pub returns-in_err-k : goal.returns-in_err-k
returns-in_err-k c = let p = err_from_is_err_and c.from_residual.result c.from_residual.ensures.1 in rw (p.1, p.2) (name-unknown c.args.self.now.text.now c.args.self.now.words.now c.args.word c.in_err-k.ensures.rules c.args.at c.args.self.now.until.now)

pub returns-then-not-stands : goal.returns-then-not-stands
returns-then-not-stands c = let e : c.unwrap_or-ends.result ≡ get_or c.args.self.now.until.now c.in_ok-k.k 0 = search rules in rw c.refusal.ensures (name-bars c.args.self.now.text.now c.args.self.now.words.now c.args.word c.in_ok-k.ensures.rules c.in_ok-k.ensures.there c.args.at c.args.self.now.until.now _ e _ c.stands.ensures c.if-not-stands.true)

pub returns : goal.returns
returns c = let e : c.unwrap_or-ends.result ≡ get_or c.args.self.now.until.now c.in_ok-k.k 0 = search rules in (name-stands c.args.self.now.text.now c.args.self.now.words.now c.args.word c.in_ok-k.ensures.rules c.in_ok-k.ensures.there c.args.at c.args.self.now.until.now _ e _ c.stands.ensures c.if-not-stands.false, omega (arith, c.in_ok-k.ensures.there, c.args.self.now.few))
