use Rattle.std.proofs.Common.{◌≡◌, sym, ◌∙◌, arith, Err, Some, None}
use Rattle.rules.specs.declared.Reason.TheVariants.{OutOfRange}
use Rattle.values.specs.Sizes.{sort-room, is-wire, is-num, pair, not-sized, vector-sized}
use Rattle.values.proofs.measure.Goals as goal

pub bounds-tape-at : goal.bounds-tape-at
bounds-tape-at c = (sort-room c.requires.here).0

pub both_bounds-requires : goal.both_bounds-requires
both_bounds-requires c =
    let b = pair _ c.requires.here (λ e. omega (arith, c.in_default)) (λ e. omega (arith, c.in_default)) in
    record { left = b.first; right = b.second; here = b.here }

pub returns-in_err-ok_or-in_default : goal.returns-in_err-ok_or-in_default
returns-in_err-ok_or-in_default c k v s h =
    let b = pair s h (λ e. omega (arith, c.in_default)) (λ e. omega (arith, c.in_default)) in
    let e : c.from_residual.result ≡ Err OutOfRange = grind arith in
    let n : c.both_bounds.result ≡ None = grind arith in
    rw e (not-sized _ s b _ _ (rw n at c.both_bounds.ensures b.first b.second b.here))

pub returns-in-0 : goal.returns-in-0
returns-in-0 c k v s h = is-wire _ s h (sym c.head_of-head.ensures ∙ c.in-0.is)

pub returns-in-2 : goal.returns-in-2
returns-in-2 c k v s h = is-num _ s h (sym c.head_of-head.ensures ∙ c.in-2.is)

pub returns-in_ok-ok_or-in_default : goal.returns-in_ok-ok_or-in_default
returns-in_ok-ok_or-in_default c k v s h =
    let b = pair s h (λ e. omega (arith, c.in_default)) (λ e. omega (arith, c.in_default)) in
    let n : c.both_bounds.result ≡ Some c.in_ok-ok_or-in_default.field-0 = grind arith in
    vector-sized _ s b _ _ (rw n at c.both_bounds.ensures b.first b.second b.here) c.sized.ensures
