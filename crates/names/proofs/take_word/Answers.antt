use Rattle.std.specs.Prelude.{◌≡◌, ◌+◌, ◌-◌, length, take, drop}
use Rattle.std.proofs.Common.{refl, ◌∙◌, arith, length-drop, take_all}
use Rattle.names.proofs.Told.{of-kind, not-of-kind}
use Rattle.sweep.proofs.Laws.Turns.{says-as, turn-name, turn-call, turn-argument, turn-index, turn_body, turn-block, turn-declared, turn-other}
use Rattle.names.proofs.take_word.Goals as goal

pub returns-then-is : goal.returns-then-is
returns-then-is c = says-as c.args.scope.now c.args.until.now c.on_name.result (turn-name _ _ _ _ _ _ _ _ _ refl (of-kind _ _ c.is.ensures c.if-is.true)) (rw c.front-before.ensures at (c.on_name.ensures c.args.scope.now))

pub returns-then-is-2 : goal.returns-then-is-2
returns-then-is-2 c = let rest : take (length c.args.tape.now - (c.args.at + 1)) (drop (c.args.at + 1) c.args.tape.now) ≡ drop (c.args.at + 1) c.args.tape.now = take_all (length c.args.tape.now - (c.args.at + 1)) (drop (c.args.at + 1) c.args.tape.now) (simp length-drop (omega arith)) in says-as c.args.scope.now c.args.until.now c.on_callee.result (turn-call _ _ _ _ _ _ _ _ _ refl (of-kind _ _ c.is-2.ensures c.if-is-2.true)) (rw rest at (c.on_callee.ensures c.args.scope.now c.args.until.now))

pub returns-then-is_argument : goal.returns-then-is_argument
returns-then-is_argument c = says-as c.args.scope.now c.args.until.now c.on_argument.result (turn-argument _ _ _ _ _ _ _ _ _ refl _ (not-of-kind _ _ c.is.ensures c.if-is.false) (not-of-kind _ _ c.is-2.ensures c.if-is-2.false) c.is_argument.ensures c.if-is_argument.true) (rw (c.word-port.ensures, c.front-before.ensures) at (c.on_argument.ensures c.args.scope.now c.args.until.now))

pub returns-then-is-3 : goal.returns-then-is-3
returns-then-is-3 c = says-as c.args.scope.now c.args.until.now c.on_index.result (turn-index _ _ _ _ _ _ _ _ _ refl (of-kind _ _ c.is-3.ensures c.if-is-3.true)) (rw c.front-before.ensures at (c.on_index.ensures c.args.scope.now c.args.until.now))

pub returns-then-is-4 : goal.returns-then-is-4
returns-then-is-4 c = turn_body _ _ _ _ _ _ _ _ _ refl (of-kind _ _ c.is-4.ensures c.if-is-4.true) ∙ rw (c.enter.ensures, c.value_of.ensures) refl

pub returns-then-is-5 : goal.returns-then-is-5
returns-then-is-5 c = says-as c.args.scope.now c.args.until.now c.on_block.result (turn-block _ _ _ _ _ _ _ _ _ refl (of-kind _ _ c.is-5.ensures c.if-is-5.true)) (c.on_block.ensures c.args.scope.now c.args.until.now)

pub returns-then-code-kind_of : goal.returns-then-code-kind_of
returns-then-code-kind_of c = says-as c.on_declared.new.scope c.args.until.now c.on_declared.result (turn-declared _ _ _ _ _ _ _ _ _ refl _ (not-of-kind _ _ c.is.ensures c.if-is.false) (not-of-kind _ _ c.is-2.ensures c.if-is-2.false) c.is_argument.ensures c.if-is_argument.false (not-of-kind _ _ c.is-3.ensures c.if-is-3.false) (not-of-kind _ _ c.is-4.ensures c.if-is-4.false) (not-of-kind _ _ c.is-5.ensures c.if-is-5.false) (omega (arith, c.code.ensures.0))) (c.on_declared.ensures c.args.until.now)

pub returns : goal.returns
returns c = turn-other _ _ _ _ _ _ _ _ _ refl _ (not-of-kind _ _ c.is.ensures c.if-is.false) (not-of-kind _ _ c.is-2.ensures c.if-is-2.false) c.is_argument.ensures c.if-is_argument.false (not-of-kind _ _ c.is-3.ensures c.if-is-3.false) (not-of-kind _ _ c.is-4.ensures c.if-is-4.false) (not-of-kind _ _ c.is-5.ensures c.if-is-5.false) (omega (arith, c.code.ensures.0))
