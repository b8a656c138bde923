use Rattle.std.proofs.Common.{arith, rules, ◌≡◌, set}
use Rattle.marks.specs.Laws.Exits.{gives_on}
use Rattle.marks.specs.Laws.One.{stop, passed}
use Rattle.rules.specs.Grammar.{argument as argument_at}
use Rattle.statements.specs.Loops.{whole-got, part_off, close-off, part-got}
use Rattle.tape.specs.Encoding.{arg_w}
use Rattle.tape.specs.Kinds.{code}
use Rattle.tape.specs.Layout.{pack, spelt, name_w}
use Rattle.tape.specs.Written.{none}
use Rattle.statements.proofs.argument.Goals as goal

pub returns-in_err-name-clause-gives : goal.returns-in_err-name-clause-gives
unfolding argument_at
returns-in_err-name-clause-gives c = gives_on none (arg_w name_w (code c.args.kind)) _ _ _ _ _ c.from_residual.ensures.1 (stop _ _ _ c.in_err-name.ensures.tells)

pub returns-in_default-clause-gives : goal.returns-in_default-clause-gives
returns-in_default-clause-gives c =
    let o = c.in_ok-name.ensures in
    whole-got _ _ _ _ _ o.tells (omega arith) c.in_default.ensures.spots c.store_name.ensures

pub returns-in_err-subscript-clause-gives : goal.returns-in_err-subscript-clause-gives
returns-in_err-subscript-clause-gives c =
    let o = c.in_ok-name.ensures in
    gives_on none (arg_w name_w (code c.args.kind)) _ _ _ _ _ c.from_residual-in_err-subscript.ensures.1 (part_off _ 0 _ _ _ o.tells (omega arith) c.in-Some.ensures.spots c.in_err-subscript.ensures.gives)

pub returns-in_err-close-clause-gives : goal.returns-in_err-close-clause-gives
returns-in_err-close-clause-gives c =
    let o = c.in_ok-name.ensures in
    gives_on none (arg_w name_w (code c.args.kind)) _ _ _ _ _ c.from_residual-in_err-close.ensures.1
    (close-off _ 0 _ _ _ o.tells (omega arith) c.in-Some.ensures.spots c.in_ok-subscript.ensures.gives (passed ")" _ _ c.in_err-close.ensures.tells))

pub returns-clause-gives : goal.returns-clause-gives
returns-clause-gives c =
    let o = c.in_ok-name.ensures in
    let name = c.in_ok-name.name in
    let w : c.store_name-2.new.tape ≡ set c.args.tape.now c.args.to (pack (code c.args.kind) 1 (spelt name.place name.next)) = search rules in
    part-got _ _ _ _ _ o.tells (omega arith) c.in-Some.ensures.spots w c.in_ok-subscript.ensures.gives (passed ")" _ _ c.in_ok-close.ensures.tells)
