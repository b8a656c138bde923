use Rattle.std.proofs.lemmas.Result.{err_from_is_err_and}
use Rattle.grammar.specs.Promise.{table-short, text-long, text-refused, text-stands}
use mathlib.Core.Path.{refl}
use native.Mathlib.Omega.{arith}
use Rattle.grammar.proofs.read_onto.Goals as goal

pub returns-then-table-lt16384 : goal.returns-then-table-lt16384
returns-then-table-lt16384 c = table-short _ c.args.table.now c.if-table-lt16384.true

pub returns-then-text-gt16384 : goal.returns-then-text-gt16384
returns-then-text-gt16384 c = text-long _ c.args.table.now c.if-table-lt16384.false c.if-text-gt16384.true

pub returns-in_err-read : goal.returns-in_err-read
returns-in_err-read c =
    let p = err_from_is_err_and c.from_residual.result c.from_residual.ensures.1 in
    rw (p.1, p.2) (text-refused _ c.args.table.now c.if-table-lt16384.false c.if-text-gt16384.false c.in_err-read.ensures.gives)

pub returns : goal.returns
returns c = text-stands _ c.args.table.now c.if-table-lt16384.false c.if-text-gt16384.false c.in_ok-read.ensures.gives (omega (arith, c.in_ok-read.ensures.spends)) _ refl
