use Rattle.std.proofs.Common.{◌≡◌, ◌+◌, [], ◌∷◌, ◌++◌, refl, ◌∙◌, arith}
use Rattle.frames.specs.Runs.{begin, next, onward, finish}
use Rattle.tape.specs.Encoding.{generic_w}
use Rattle.values.specs.Here.{of-kind, not-kind}
use Rattle.unfold.specs.Header.{here-generics, starts-generics, generics-many, is_among, over-other, over-end}
use Rattle.unfold.proofs.after_generics.Goals as goal

pub loop-i-init : goal.loop-i-init
loop-i-init c B h = ([], 0, begin (here-generics h) h.generics)

pub returns-then-not-is : goal.returns-then-not-is
returns-then-not-is c B h =
    let (f, k, g) = c.loop-i.invariant B h in
    let e = finish starts-generics g (over-other _ _ _ 10 (not-kind 10 c.is.ensures c.if-not-is.true)) in
    (e.1, omega (arith, e.1, generics-many B.generics))

pub loop-i-preserved : goal.loop-i-preserved
unfolding generic_w
loop-i-preserved c B h =
    let (f, k, g) = c.loop-i.invariant B h in
    let n = next starts-generics g (is_among _ _ _ 10 (omega (arith, c.loop-i-test.true)) (of-kind 10 c.is.ensures c.if-not-is.false)) in
    (f ++ (n.item ∷ []), k + 1, onward starts-generics g n refl)

pub returns : goal.returns
returns c B h =
    let (f, k, g) = c.loop-i.invariant B h in
    let q : c.args.end ≡ c.loop-i.i = omega (arith, g.listed.within, c.loop-i-test.false) in
    let e = finish starts-generics g (rw (← q) (over-end _ c.args.end 10 10)) in
    (q ∙ e.1, omega (arith, q, e.1, generics-many B.generics))
