use Rattle.std.proofs.Common.{◌≡◌, sym, ◌∙◌, rules, arith, Err, Some, None, SFits, w32, to_z-of_z}
use Rattle.rules.specs.declared.Reason.TheVariants.{WrongVector}
use Rattle.values.specs.Sizes.{size_below, size-over, size_fits}
use Rattle.values.proofs.sized.Goals as goal

pub returns-in_err-more : goal.returns-in_err-more
returns-in_err-more c =
    let e : c.from_residual.result ≡ Err WrongVector = grind arith in
    let n : c.above.result ≡ None = grind arith in
    let f : SFits w32 c.args.bounds.first = search rules in
    let l : SFits w32 c.args.bounds.last = search rules in
    rw e (size_below _ _ _ (sym n ∙ rw (to_z-of_z {w = w32} f, to_z-of_z {w = w32} l) at c.above.ensures.apart))

pub returns-then-more-ge-MOST : goal.returns-then-more-ge-MOST
returns-then-more-ge-MOST c =
    let n : c.above.result ≡ Some c.in_ok-more.more = grind arith in
    let f : SFits w32 c.args.bounds.first = search rules in
    let l : SFits w32 c.args.bounds.last = search rules in
    size-over _ _ _ (sym n ∙ rw (to_z-of_z {w = w32} f, to_z-of_z {w = w32} l) at c.above.ensures.apart) (omega (arith, c.if-more-ge-MOST.true))

pub returns : goal.returns
returns c =
    let n : c.above.result ≡ Some c.in_ok-more.more = grind arith in
    let f : SFits w32 c.args.bounds.first = search rules in
    let l : SFits w32 c.args.bounds.last = search rules in
    rw (to_z-of_z {w = w32} l) (size_fits _ _ _ (sym n ∙ rw (to_z-of_z {w = w32} f, to_z-of_z {w = w32} l) at c.above.ensures.apart) (omega (arith, c.if-more-ge-MOST.false)))
