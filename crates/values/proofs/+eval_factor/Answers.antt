use mathlib.Core.Path.{sym, ◌∙◌}
use native.Mathlib.Omega.{arith}
use Rattle.std.proofs.Common.{◌≡◌, rules, SFits, w32, to_z-of_z}
use Rattle.values.specs.Here.{of-kind, not-kind, number_in}
use Rattle.values.specs.Taking.{begin, factor-next, factor-some, turn, onward, ended, ended_beyond, one_word, inside, bracket-value}
use Rattle.values.proofs.+eval_factor.Goals as goal

pub eval-loop-sum-init : goal.eval-loop-sum-init
eval-loop-sum-init t c e h = rw c.empty-sum.ensures (begin h)

pub eval-after-next-requires : goal.eval-after-next-requires
eval-after-next-requires t c =
    let h = c.requires.here in
    let u = turn h (c.loop-sum.invariant _ h) in
    (u.room, u.short)

pub eval-factor-v-requires : goal.eval-factor-v-requires
eval-factor-v-requires t c =
    let h = c.requires.here in
    let l = c.loop-sum.invariant _ h in
    let u = turn h l in
    (omega (arith, u.from, u.forward, u.within, c.after-next.ensures), record { factor = l.first; here = rw c.after-next.ensures (factor-next h l) })

pub eval-offset_bounds-tape-i : goal.eval-offset_bounds-tape-i
eval-offset_bounds-tape-i t c = let h = (turn c.requires.here (c.loop-sum.invariant _ c.requires.here)).short in search rules

pub eval-bounds-tape-i : goal.eval-bounds-tape-i
eval-bounds-tape-i t c = (turn c.requires.here (c.loop-sum.invariant _ c.requires.here)).room

pub eval-goes_on-requires : goal.eval-goes_on-requires
eval-goes_on-requires t c = c.requires.here.limit

pub eval-returns-in_err-value : goal.eval-returns-in_err-value
eval-returns-in_err-value t c e h =
    let l = c.loop-sum.invariant e h in
    rw c.from_residual.ensures (ended_beyond h l _ _ _ _ c.take-sum.ensures c.head_of-head.ensures (c.factor-v.ensures l.first (rw c.after-next.ensures (factor-next h l))) c.after-next.ensures (sym c.goes_on.ensures ∙ c.if-not-goes_on.true) (sym c.total.ensures ∙ c.in_err-value.was))

pub eval-returns-then-not-goes_on : goal.eval-returns-then-not-goes_on
eval-returns-then-not-goes_on t c e h =
    let l = c.loop-sum.invariant e h in
    let z : SFits w32 c.in_ok-value.value = search rules in
    rw (to_z-of_z {w = w32} z) (ended h l _ _ _ _ c.take-sum.ensures c.head_of-head.ensures (c.factor-v.ensures l.first (rw c.after-next.ensures (factor-next h l))) c.after-next.ensures (sym c.goes_on.ensures ∙ c.if-not-goes_on.true) (sym c.total.ensures ∙ c.in_ok-value.was))

pub eval-loop-sum-smaller : goal.eval-loop-sum-smaller
eval-loop-sum-smaller t c =
    let u = turn c.requires.here (c.loop-sum.invariant _ c.requires.here) in
    omega (arith, u.forward, u.within, c.after-next.ensures)

pub eval-loop-sum-preserved : goal.eval-loop-sum-preserved
eval-loop-sum-preserved t c e h =
    let l = c.loop-sum.invariant e h in
    onward h l _ _ _ _ c.take-sum.ensures c.head_of-head.ensures (c.factor-v.ensures l.first (rw c.after-next.ensures (factor-next h l))) c.after-next.ensures (sym c.goes_on.ensures ∙ c.if-not-goes_on.false)

pub factor-bounds-tape-i : goal.factor-bounds-tape-i
factor-bounds-tape-i t c = let k = c.requires.here in omega (arith, k.limit, factor-some k)

pub factor-overflow_add-i : goal.factor-overflow_add-i
factor-overflow_add-i t c = let k = c.requires.here in omega (arith, k.short, factor-some k)

pub factor-eval-requires : goal.factor-eval-requires
factor-eval-requires t c =
    let k = c.requires.here in
    let b = inside _ _ _ _ _ k (of-kind 2 c.is.ensures c.if-is.true) in
    (omega (arith, factor-some k), record { exp = b.exp; here = b.here })

pub factor-returns-then-is : goal.factor-returns-then-is
factor-returns-then-is t c f k =
    let b = inside _ _ _ _ _ k (of-kind 2 c.is.ensures c.if-is.true) in
    let s = bracket-value _ f.base b _ _ (c.eval.ensures b.exp b.here) in
    let e : c.map.result ≡ number_in c.eval.result = search rules in
    e ∙ s

pub factor-plain-requires : goal.factor-plain-requires
factor-plain-requires t c = (one_word _ c.args.values.now _ _ _ _ c.requires.here (not-kind 2 c.is.ensures c.if-is.false)).slot

pub factor-returns : goal.factor-returns
factor-returns t c f k = c.plain.ensures ∙ (one_word _ _ _ _ _ _ k (not-kind 2 c.is.ensures c.if-is.false)).is
