use Rattle.std.proofs.Common.{◌≡◌, ◌+◌, ◌≤◌, ◌<◌, sym, ◌∙◌, rules, arith, Err, Some, None, SFits, w32, to_z-of_z}
use Rattle.rules.specs.declared.Reason.TheVariants.{OutOfRange, OutsideVector}
use Rattle.frames.specs.Args.{arg_name, Finds, Fits, arg-room, arg-name, a-part, finds-whole, finds-beyond, finds-below, finds-above, finds-one}
use Rattle.frames.specs.Stands.{name-inside, vector_at}
use Rattle.values.specs.Here.{Says}
use Rattle.frames.proofs.argument.Goals as goal

pub bounds-tape-at : goal.bounds-tape-at
bounds-tape-at c = (arg-room c.requires.here).0

pub bounds-frame-value_of : goal.bounds-frame-value_of
bounds-frame-value_of c = omega (arith, c.value_of.ensures ∙ arg-name _ c.requires.stands.few c.requires.here, c.requires.stands.few, c.requires.here.slot)

pub bounds-frame-value_of-2 : goal.bounds-frame-value_of-2
bounds-frame-value_of-2 c = omega (arith, c.value_of.ensures ∙ arg-name _ c.requires.stands.few c.requires.here, c.requires.stands.few, c.requires.here.slot)

pub bounds-frame-value_of-3 : goal.bounds-frame-value_of-3
bounds-frame-value_of-3 c = omega (arith, c.value_of.ensures ∙ arg-name _ c.requires.stands.few c.requires.here, c.requires.stands.few, c.requires.here.slot)

pub returns-then-head_of-eq0-clause-finds : goal.returns-then-head_of-eq0-clause-finds
returns-then-head_of-eq0-clause-finds c ρ σ kind a s h =
    rw (c.value_of.ensures ∙ arg-name a s.few h) (finds-whole s a h (sym c.head_of.ensures ∙ c.if-head_of-eq0.true))

pub returns-then-head_of-eq0-clause-fits : goal.returns-then-head_of-eq0-clause-fits
unfolding Fits
returns-then-head_of-eq0-clause-fits c =
    let slot : c.value_of.result ≡ arg_name c.requires.arg = c.value_of.ensures ∙ arg-name _ c.requires.stands.few c.requires.here in
    rw slot (name-inside c.requires.stands _ c.requires.here.slot)

pub eval-requires : goal.eval-requires
eval-requires c =
    let p = a-part _ c.requires.stands.few c.requires.here (λ e. c.if-head_of-eq0.false (c.head_of.ensures ∙ e)) in
    record { exp = p.exp; here = p.here }

pub returns-in_err-subscript-clause-finds : goal.returns-in_err-subscript-clause-finds
unfolding Says Finds
returns-in_err-subscript-clause-finds c ρ σ kind a s h =
    let p = a-part a s.few h (λ e. c.if-head_of-eq0.false (c.head_of.ensures ∙ e)) in
    let e : c.from_residual.result ≡ Err OutOfRange = grind arith in
    let n : c.eval.result ≡ None = grind arith in
    rw e (finds-beyond s a h p (rw n at (c.eval.ensures p.exp p.here)))

pub returns-in_err-subscript-clause-fits : goal.returns-in_err-subscript-clause-fits
unfolding Fits
returns-in_err-subscript-clause-fits c = let e : c.from_residual.result ≡ Err OutOfRange = grind arith in rw e tt

pub returns-in_err-i-clause-finds : goal.returns-in_err-i-clause-finds
unfolding Says Finds
returns-in_err-i-clause-finds c ρ σ kind a s h =
    let p = a-part a s.few h (λ e. c.if-head_of-eq0.false (c.head_of.ensures ∙ e)) in
    let x : SFits w32 c.in_ok-subscript.subscript.value = search rules in
    let y : SFits w32 (vector_at c.args.frame.now c.value_of.result).low = search rules in
    let e : c.from_residual-in_err-i.result ≡ Err OutsideVector = grind arith in
    let v : c.eval.result ≡ Some c.in_ok-subscript.subscript = grind arith in
    let n : c.above.result ≡ None = grind arith in
    let gap = rw (to_z-of_z {w = w32} x, to_z-of_z {w = w32} y, c.value_of.ensures ∙ arg-name a s.few h) at c.above.ensures.apart in
    let said = rw v at (c.eval.ensures p.exp p.here) in
    rw e (finds-below s a h p _ said.0 (sym n ∙ gap))

pub returns-in_err-i-clause-fits : goal.returns-in_err-i-clause-fits
unfolding Fits
returns-in_err-i-clause-fits c = let e : c.from_residual-in_err-i.result ≡ Err OutsideVector = grind arith in rw e tt

pub returns-then-i-from-clause-finds : goal.returns-then-i-from-clause-finds
unfolding Says Finds
returns-then-i-from-clause-finds c ρ σ kind a s h =
    let p = a-part a s.few h (λ e. c.if-head_of-eq0.false (c.head_of.ensures ∙ e)) in
    let x : SFits w32 c.in_ok-subscript.subscript.value = search rules in
    let y : SFits w32 (vector_at c.args.frame.now c.value_of.result).low = search rules in
    let v : c.eval.result ≡ Some c.in_ok-subscript.subscript = grind arith in
    let n : c.above.result ≡ Some c.in_ok-i.i = grind arith in
    let slot = c.value_of.ensures ∙ arg-name a s.few h in
    let gap = rw (to_z-of_z {w = w32} x, to_z-of_z {w = w32} y, slot) at c.above.ensures.apart in
    let said = rw v at (c.eval.ensures p.exp p.here) in
    let past : (vector_at c.args.frame.now (arg_name a)).len ≤ c.in_ok-i.i = rw (← slot) (omega (arith, c.if-i-from.true, c.from.ensures)) in
    finds-above s a h p _ said.0 (sym n ∙ gap) past

pub returns-then-i-from-clause-fits : goal.returns-then-i-from-clause-fits
unfolding Fits
returns-then-i-from-clause-fits c = tt

pub overflow_add-result-2 : goal.overflow_add-result-2
overflow_add-result-2 c =
    let slot : c.value_of.result ≡ arg_name c.requires.arg = c.value_of.ensures ∙ arg-name _ c.requires.stands.few c.requires.here in
    let inside : (vector_at c.args.frame.now c.value_of.result).base + (vector_at c.args.frame.now c.value_of.result).len ≤ 1536 = rw slot (name-inside c.requires.stands _ c.requires.here.slot) in
    record { fits = omega (arith, inside, c.from.ensures, c.if-i-from.false) }

pub returns-clause-finds : goal.returns-clause-finds
unfolding Says Finds
returns-clause-finds c ρ σ kind a s h =
    let p = a-part a s.few h (λ e. c.if-head_of-eq0.false (c.head_of.ensures ∙ e)) in
    let x : SFits w32 c.in_ok-subscript.subscript.value = search rules in
    let y : SFits w32 (vector_at c.args.frame.now c.value_of.result).low = search rules in
    let v : c.eval.result ≡ Some c.in_ok-subscript.subscript = grind arith in
    let n : c.above.result ≡ Some c.in_ok-i.i = grind arith in
    let slot = c.value_of.ensures ∙ arg-name a s.few h in
    let gap = rw (to_z-of_z {w = w32} x, to_z-of_z {w = w32} y, slot) at c.above.ensures.apart in
    let said = rw v at (c.eval.ensures p.exp p.here) in
    let below : c.in_ok-i.i < (vector_at c.args.frame.now (arg_name a)).len = rw (← slot) (omega (arith, c.if-i-from.false, c.from.ensures)) in
    (rw slot (finds-one s a h p _ said.0 (sym n ∙ gap) below), said.1 ∙ p.after)

pub returns-clause-fits : goal.returns-clause-fits
unfolding Fits
returns-clause-fits c =
    let slot : c.value_of.result ≡ arg_name c.requires.arg = c.value_of.ensures ∙ arg-name _ c.requires.stands.few c.requires.here in
    let inside : (vector_at c.args.frame.now c.value_of.result).base + (vector_at c.args.frame.now c.value_of.result).len ≤ 1536 = rw slot (name-inside c.requires.stands _ c.requires.here.slot) in
    omega (arith, inside, c.from.ensures, c.if-i-from.false)
