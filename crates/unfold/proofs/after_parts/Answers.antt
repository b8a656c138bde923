use Rattle.std.proofs.Common.{◌≡◌, inl, inr, sym, ◌∙◌, arith}
use Rattle.unfold.specs.Quiet.{ahead-begin, ahead-end, ahead-on, loud-is, soft-is}
use Rattle.unfold.proofs.after_parts.Goals as goal

pub loop-i-init : goal.loop-i-init
loop-i-init c ws h = ahead-begin h

pub returns-then-is_loud : goal.returns-then-is_loud
returns-then-is_loud c ws h = ahead-end (c.loop-i.invariant ws h) (inr (loud-is _ (sym c.is_loud.ensures ∙ c.if-is_loud.true)))

pub loop-i-preserved : goal.loop-i-preserved
loop-i-preserved c ws h =
    let s = soft-is _ (sym c.is_loud.ensures ∙ c.if-is_loud.false) in
    ahead-on (c.loop-i.invariant ws h) (omega (arith, c.loop-i-test.true)) s.0 s.1 s.2

pub returns : goal.returns
returns c ws h =
    let a = c.loop-i.invariant ws h in
    let q : c.args.end ≡ c.loop-i.i = omega (arith, a.calm.within, c.loop-i-test.false) in
    q ∙ ahead-end a (inl (omega (arith, q)))
