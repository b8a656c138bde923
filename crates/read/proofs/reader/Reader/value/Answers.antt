use Rattle.std.proofs.Common.{get_or, arith}
use Rattle.std.proofs.lemmas.Bool.{MatchBool-at_true, MatchBool-at_false}
use Rattle.read.specs.Ahead.{Digit, so-1, sofar-most, sofar_more, value_stop, value_full}
use Rattle.read.proofs.reader.Reader.value.Goals as goal

pub loop-i-init : goal.loop-i-init
loop-i-init c = (omega arith, so-1 (omega arith))

pub loop-i-preserved : goal.loop-i-preserved
loop-i-preserved c =
    let t = c.args.self.now.rest.now in
    let d = MatchBool-at_true _ _ c.if-not-is_ascii_digit.false c.is_ascii_digit.ensures.cases in
    let digit : Digit (get_or t c.loop-i.i 0) = (omega arith, omega arith) in
    let s = sofar_more t c.loop-i.invariant.1 c.loop-i-test.true digit (omega arith) in
    (sofar-most s (omega (arith, c.byte.ensures, c.amount-value.ensures)), s)

pub returns-after-loop-i-clause-value : goal.returns-after-loop-i-clause-value
returns-after-loop-i-clause-value c = value_full c.args.self.now.rest.now c.loop-i.invariant.1 (omega arith)

pub returns-then-not-is_ascii_digit-clause-value : goal.returns-then-not-is_ascii_digit-clause-value
returns-then-not-is_ascii_digit-clause-value c =
    let d = MatchBool-at_false _ _ c.if-not-is_ascii_digit.true c.is_ascii_digit.ensures.cases in
    value_stop c.args.self.now.rest.now c.loop-i.invariant.1 c.loop-i-test.true (λ z. absurd (omega (arith, d, z.0, z.1)))
