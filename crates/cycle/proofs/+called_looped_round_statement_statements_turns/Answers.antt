use Rattle.std.proofs.Common.{◌≡◌, ◌+◌, refl, sym, ap, ◌∙◌, arith, rules, get_or, Ok, Err, SFits, w32, to_z-of_z}
use Rattle.cycle.specs.Task.{going-begin, going-stop, going_on, going_end, task-written, ticked-by, late_by, bound-task, ready_of, no_answer, placed, refusal, answers-as, success}
use Rattle.cycle.specs.Calls.{call-ready, loop-ready, late, block_here, open-written, body-task, block-at-17, block-stopped, block-entered, opens-body, opens-wrong, is-gate, is_block, is_loop}
use Rattle.cycle.specs.Rounds.{loop-here, two-written, loop-task, loop-stopped, loop-turned, spanned, not-spanned, rounded-late, rounded-on, turning-begin, turning-stop, turning-on, turning-end, first-index, next-index, index-is}
use Rattle.tape.specs.Layout.{value_of}
use Rattle.unfold.specs.declared.Span.{Span}
use Rattle.cycle.proofs.+called_looped_round_statement_statements_turns.Goals as goal

-- ---- a call

pub called-returns-then-within-eq0-clause-by_index : goal.called-returns-then-within-eq0-clause-by_index
called-returns-then-within-eq0-clause-by_index t c len P b ρ σ v v₁ task is e = no_answer _ _ _ (block-at-17 task (block_here _ _ task is) _ v e _ c.if-within-eq0.true)

pub called-open-requires-clause-written_open : goal.called-open-requires-clause-written_open
called-open-requires-clause-written_open t c = let r = c.requires.0 in open-written r.ready.task (block_here _ _ r.ready.task r.is)

pub called-returns-in_err-opened-clause-by_index : goal.called-returns-in_err-opened-clause-by_index
called-returns-in_err-opened-clause-by_index t c len P b ρ σ v v₁ k is e =
    let h = block_here _ _ k is in
    let m : c.open.result ≡ Err c.in_err-opened.field-0.0.reason = grind arith in
    let p : c.in_err-opened.field-0.0.place ≡ c.args.call.place = grind arith in
    let q : c.from_residual.result ≡ Err c.in_err-opened.field-0.0 = grind arith in
    let o = opens-wrong _ _ _ _ _ _ _ _ m (c.open.ensures ρ σ h.call.generics h.call.inputs h.call.outputs h.body v₁ k.stands h.call.here (k.shelf.block _ h.body h.nth) h.many (sym k.shows.wires)) in
    rw q (placed _ _ _ p (block-stopped k h _ v e _ c.if-within-eq0.false o.1))

pub called-statements-requires : goal.called-statements-requires
called-statements-requires t c =
    let r = c.requires.0 in
    let k = r.ready.task in
    let h = block_here _ _ k r.is in
    let m : c.open.result ≡ Ok c.in_ok-opened.opened = grind arith in
    let o = opens-body _ _ _ _ _ _ _ _ m (c.open.ensures r.ready.env r.ready.names h.call.generics h.call.inputs h.call.outputs h.body r.ready.state k.stands h.call.here (k.shelf.block _ h.body h.nth) h.many (sym k.shows.wires)) in
    let b = body-task k h o refl refl refl in
    (omega (arith, c.if-within-eq0.false, b.here.short), ready_of b r.ready.room)

pub called-returns-clause-by_index : goal.called-returns-clause-by_index
called-returns-clause-by_index t c len P b ρ σ v v₁ k is e =
    let h = block_here _ _ k is in
    let m : c.open.result ≡ Ok c.in_ok-opened.opened = grind arith in
    let o = opens-body _ _ _ _ _ _ _ _ m (c.open.ensures ρ σ h.call.generics h.call.inputs h.call.outputs h.body v₁ k.stands h.call.here (k.shelf.block _ h.body h.nth) h.many (sym k.shows.wires)) in
    let q = body-task k h o refl refl refl in
    answers-as _ _ _ (block-entered k h _ v e _ c.if-within-eq0.false o) (c.statements.ensures.by_index _ _ _ _ _ _ q)

-- ---- a loop

pub looped-span-requires : goal.looped-span-requires
looped-span-requires t c = let r = c.requires.0 in two-written (loop-here _ _ r.ready.task r.is)

pub looped-returns-in_err-rounds-clause-by_index : goal.looped-returns-in_err-rounds-clause-by_index
looped-returns-in_err-rounds-clause-by_index t c len P b ρ σ v v₁ k is e =
    let h = loop-here _ _ k is in
    let m : c.span.result ≡ Err c.in_err-rounds.field-0.0.reason = grind arith in
    let p : c.in_err-rounds.field-0.0.place ≡ c.args.it.place = grind arith in
    let q : c.from_residual.result ≡ Err c.in_err-rounds.field-0.0 = grind arith in
    rw q (placed _ _ _ p (loop-stopped k h _ _ v e (not-spanned _ _ _ _ _ m (c.span.ensures _ _ h.two))))

pub looped-body_at-body-requires : goal.looped-body_at-body-requires
looped-body_at-body-requires t c =
    let r = c.requires.0 in
    let k = r.ready.task in
    let h = loop-here _ _ k r.is in
    let m : c.span.result ≡ Ok c.in_ok-rounds.rounds = grind arith in
    let s = spanned _ _ _ _ _ _ h.from m (c.span.ensures _ _ h.two) in
    (omega (arith, s.place, h.here.limit), omega (arith, s.place, h.here.short))

pub looped-turns-requires : goal.looped-turns-requires
looped-turns-requires t c =
    let r = c.requires.0 in
    let k = r.ready.task in
    let h = loop-here _ _ k r.is in
    let m : c.span.result ≡ Ok c.in_ok-rounds.rounds = grind arith in
    let s = spanned _ _ _ _ _ _ h.from m (c.span.ensures _ _ h.two) in
    let x = s.place in
    let first : c.body_at-body.result.at ≡ c.in_ok-rounds.rounds.next + 1 = ap (λ (s : Span). s.at) c.body_at-body.ensures in
    let last : c.body_at-body.result.end ≡ c.in_ok-rounds.rounds.next + 1 + value_of (get_or c.args.program.now.tape.now c.in_ok-rounds.rounds.next 0) = ap (λ (s : Span). s.end) c.body_at-body.ensures in
    let many = ap (λ j. value_of (get_or c.args.program.now.tape.now j 0)) x ∙ h.many in
    let z : SFits w32 c.in_ok-rounds.rounds.first = search rules in
    (omega (arith, x, first, last, many, h.within, h.from), (ready_of (loop-task k h (omega (arith, x, first)) (omega (arith, x, last, many))) r.ready.room, c.requires.1, rw (to_z-of_z {w = w32} z) s.small, s.few))

pub looped-returns-clause-by_index : goal.looped-returns-clause-by_index
looped-returns-clause-by_index t c len P b ρ σ v v₁ k is e =
    let h = loop-here _ _ k is in
    let m : c.span.result ≡ Ok c.in_ok-rounds.rounds = grind arith in
    let s = spanned _ _ _ _ _ _ h.from m (c.span.ensures _ _ h.two) in
    let x = s.place in
    let first : c.body_at-body.result.at ≡ c.in_ok-rounds.rounds.next + 1 = ap (λ (s : Span). s.at) c.body_at-body.ensures in
    let last : c.body_at-body.result.end ≡ c.in_ok-rounds.rounds.next + 1 + value_of (get_or c.args.program.now.tape.now c.in_ok-rounds.rounds.next 0) = ap (λ (s : Span). s.end) c.body_at-body.ensures in
    let many = ap (λ j. value_of (get_or c.args.program.now.tape.now j 0)) x ∙ h.many in
    let z : SFits w32 c.in_ok-rounds.rounds.first = search rules in
    let a = rw (to_z-of_z {w = w32} z, s.count) at (c.turns.ensures.by_index len P h.body ρ σ v₁ (loop-task k h (omega (arith, x, first)) (omega (arith, x, last, many)))) in
    answers-as _ _ _ (loop-turned k h _ _ v e s.left s.right) a

-- ---- a round

pub round-returns-in_err-begun-clause-by_index : goal.round-returns-in_err-begun-clause-by_index
round-returns-in_err-begun-clause-by_index t c len P b ρ σ v k =
    let m : c.tick.result ≡ Err c.in_err-begun.field-0.0.reason = grind arith in
    let p : c.in_err-begun.field-0.0.place ≡ c.args.one.place = grind arith in
    let q : c.from_residual.result ≡ Err c.in_err-begun.field-0.0 = grind arith in
    rw q (placed _ _ _ p (rounded-late _ _ P _ _ b ρ σ _ v (late_by m c.tick.ensures k.shows)))

pub round-statements-requires : goal.round-statements-requires
round-statements-requires t c =
    let r = c.requires.0 in
    let m : c.tick.result ≡ Ok c.in_ok-begun.begun = grind arith in
    let u = ticked-by m c.tick.ensures r.task in
    (omega arith, ready_of (bound-task u.task (c.with_index.ensures _ _ u.task.stands)) r.room)

pub round-returns-clause-by_index : goal.round-returns-clause-by_index
round-returns-clause-by_index t c len P b ρ σ v k =
    let m : c.tick.result ≡ Ok c.in_ok-begun.begun = grind arith in
    let u = ticked-by m c.tick.ensures k in
    let z : SFits w32 c.args.one.value = search rules in
    let g = rw (to_z-of_z {w = w32} z) at (c.with_index.ensures ρ σ u.task.stands) in
    answers-as _ _ _ (rounded-on _ _ P _ _ b ρ σ _ v u.is) (c.statements.ensures.by_index len P b _ σ u.state (bound-task u.task g))

-- ---- a statement

pub statement-returns-in_err-begun-clause-by_index : goal.statement-returns-in_err-begun-clause-by_index
statement-returns-in_err-begun-clause-by_index t c len P b ρ σ v k =
    let m : c.tick.result ≡ Err c.in_err-begun.field-0.0.reason = grind arith in
    let p : c.in_err-begun.field-0.0.place ≡ c.begins_with-head.result.place = grind arith in
    let q : c.from_residual.result ≡ Err c.in_err-begun.field-0.0 = grind arith in
    rw q (placed _ _ _ p (late _ _ P b ρ σ v _ _ (c.begins_with-head.ensures _ _ k.here c.requires.1) (late_by m c.tick.ensures k.shows)))

pub statement-gate_call-requires : goal.statement-gate_call-requires
statement-gate_call-requires t c =
    let r = c.requires.0 in
    let m : c.tick.result ≡ Ok c.in_ok-begun.begun = grind arith in
    let u = ticked-by m c.tick.ensures r.task in
    let g = is-gate _ _ _ c.in-Gate.is (c.begins_with-head.ensures _ _ r.task.here c.requires.1) in
    (call-ready u.task r.room g.1, g.0)

pub statement-called-requires : goal.statement-called-requires
statement-called-requires t c =
    let r = c.requires.0 in
    let m : c.tick.result ≡ Ok c.in_ok-begun.begun = grind arith in
    let u = ticked-by m c.tick.ensures r.task in
    let g = is_block _ _ _ c.in-Block.is (c.begins_with-head.ensures _ _ r.task.here c.requires.1) in
    (omega arith, (call-ready u.task r.room g.1, g.0, c.requires.1))

pub statement-looped-requires : goal.statement-looped-requires
statement-looped-requires t c =
    let r = c.requires.0 in
    let m : c.tick.result ≡ Ok c.in_ok-begun.begun = grind arith in
    let u = ticked-by m c.tick.ensures r.task in
    let g = is_loop _ _ _ c.in-Loop.is (c.begins_with-head.ensures _ _ r.task.here c.requires.1) in
    (omega arith, (loop-ready u.task r.room g.1, g.0, c.requires.1))

pub statement-returns-in-Gate-clause-by_index : goal.statement-returns-in-Gate-clause-by_index
statement-returns-in-Gate-clause-by_index t c len P b ρ σ v k =
    let m : c.tick.result ≡ Ok c.in_ok-begun.begun = grind arith in
    let u = ticked-by m c.tick.ensures k in
    let g = is-gate _ _ _ c.in-Gate.is (c.begins_with-head.ensures _ _ k.here c.requires.1) in
    c.gate_call.ensures.by_index len P _ b ρ σ v u.state u.task g.1 u.is

pub statement-returns-in-Block-clause-by_index : goal.statement-returns-in-Block-clause-by_index
statement-returns-in-Block-clause-by_index t c len P b ρ σ v k =
    let m : c.tick.result ≡ Ok c.in_ok-begun.begun = grind arith in
    let u = ticked-by m c.tick.ensures k in
    let g = is_block _ _ _ c.in-Block.is (c.begins_with-head.ensures _ _ k.here c.requires.1) in
    c.called.ensures.by_index len P b ρ σ v u.state u.task g.1 u.is

pub statement-returns-in-Loop-clause-by_index : goal.statement-returns-in-Loop-clause-by_index
statement-returns-in-Loop-clause-by_index t c len P b ρ σ v k =
    let m : c.tick.result ≡ Ok c.in_ok-begun.begun = grind arith in
    let u = ticked-by m c.tick.ensures k in
    let g = is_loop _ _ _ c.in-Loop.is (c.begins_with-head.ensures _ _ k.here c.requires.1) in
    c.looped.ensures.by_index len P b ρ σ v u.state u.task g.1 u.is

-- ---- statements

pub statements-loop-at-init : goal.statements-loop-at-init
statements-loop-at-init t c = (refl, omega arith, λ len P b ρ σ v k. going-begin _ _ len P _ _ _ _ _ b ρ σ v k)

pub statements-statement-requires : goal.statements-statement-requires
statements-statement-requires t c =
    let r = c.requires in
    let g = c.loop-at.invariant.2 _ _ _ _ _ _ r.task in
    (omega (arith, c.loop-at.invariant.1, c.loop-at-test.true), (ready_of g.task (omega (arith, c.loop-at.invariant.0, r.room)), c.loop-at-test.true))

pub statements-returns-in_err-so_far-clause-by_index : goal.statements-returns-in_err-so_far-clause-by_index
statements-returns-in_err-so_far-clause-by_index t c len P b ρ σ v k =
    let g = c.loop-at.invariant.2 len P b ρ σ v k in
    let q : c.from_residual.result ≡ Err c.in_err-so_far.field-0.0 = grind arith in
    rw q (no_answer _ _ _ (going-stop _ _ len P _ _ _ _ _ b ρ σ v g (refusal _ _ c.in_err-so_far.was (c.statement.ensures.by_index _ _ _ _ _ _ g.task))))

pub statements-after_statement-at-requires : goal.statements-after_statement-at-requires
statements-after_statement-at-requires t c =
    let g = c.loop-at.invariant.2 _ _ _ _ _ _ c.requires.task in
    task-written g.task c.loop-at-test.true

pub statements-loop-at-smaller : goal.statements-loop-at-smaller
statements-loop-at-smaller t c =
    let g = c.loop-at.invariant.2 _ _ _ _ _ _ c.requires.task in
    let a = c.after_statement-at.ensures _ _ g.task.here c.loop-at-test.true in
    omega (arith, a.1, c.loop-at-test.true)

pub statements-loop-at-preserved : goal.statements-loop-at-preserved
statements-loop-at-preserved t c =
    let g₀ = c.loop-at.invariant.2 _ _ _ _ _ _ c.requires.task in
    let a₀ = c.after_statement-at.ensures _ _ g₀.task.here c.loop-at-test.true in (
      c.statement.ensures.net_len_unchanged ∙ c.loop-at.invariant.0,
      omega (arith, a₀.1, c.loop-at.invariant.1),
      λ len P b ρ σ v k.
          let g = c.loop-at.invariant.2 len P b ρ σ v k in
          going_on _ _ len P _ _ _ _ _ b ρ σ v g (success _ _ _ c.in_ok-so_far.was (c.statement.ensures.by_index _ _ _ _ _ _ g.task)) (c.after_statement-at.ensures _ _ g.task.here c.loop-at-test.true).0,
    )

pub statements-returns-clause-by_index : goal.statements-returns-clause-by_index
statements-returns-clause-by_index t c len P b ρ σ v k =
    going_end _ _ len P _ _ _ _ _ b ρ σ v (c.loop-at.invariant.2 len P b ρ σ v k) c.loop-at-test.false

-- ---- rounds

pub turns-loop-k-init : goal.turns-loop-k-init
turns-loop-k-init t c = (refl, λ len P b ρ σ v k. rw (first-index c.args.each.first) (turning-begin _ _ len P _ _ _ _ _ _ _ _ b ρ σ v _ _ k))

pub turns-round-requires : goal.turns-round-requires
turns-round-requires t c =
    let r = c.requires.0 in
    let g = c.loop-k.invariant.1 _ _ _ _ _ _ r.task in
    (omega arith, (ready_of g.task (omega (arith, c.loop-k.invariant.0, r.room)), c.requires.1))

pub turns-returns-in_err-so_far-clause-by_index : goal.turns-returns-in_err-so_far-clause-by_index
turns-returns-in_err-so_far-clause-by_index t c len P b ρ σ v k =
    let g = c.loop-k.invariant.1 len P b ρ σ v k in
    let a = c.round.ensures.by_index _ _ _ _ _ _ g.task in
    let q : c.from_residual.result ≡ Err c.in_err-so_far.field-0.0 = grind arith in
    let i = index-is c.args.each.first c.loop-k.k c.requires.2 (omega (arith, c.loop-k-test.true, c.requires.3)) in
    rw q (no_answer _ _ _ (turning-stop _ _ len P _ _ _ _ _ _ _ _ b ρ σ v _ _ g (omega (arith, c.loop-k-test.true)) (refusal _ _ c.in_err-so_far.was (rw i at a))))

pub turns-loop-k-preserved : goal.turns-loop-k-preserved
turns-loop-k-preserved t c =
    let i = index-is c.args.each.first c.loop-k.k c.requires.2 (omega (arith, c.loop-k-test.true, c.requires.3)) in (
      c.round.ensures.net_len_unchanged ∙ c.loop-k.invariant.0,
      λ len P b ρ σ v k.
          let g = c.loop-k.invariant.1 len P b ρ σ v k in
          let a = rw i at (c.round.ensures.by_index _ _ _ _ _ _ g.task) in
          rw (← (next-index c.args.each.first c.loop-k.k)) (turning-on _ _ len P _ _ _ _ _ _ _ _ b ρ σ v _ _ g (omega (arith, c.loop-k-test.true)) _ _ _ (success _ _ _ c.in_ok-so_far.was a)),
    )

pub turns-returns-clause-by_index : goal.turns-returns-clause-by_index
turns-returns-clause-by_index t c len P b ρ σ v k =
    turning-end _ _ len P _ _ _ _ _ _ _ _ b ρ σ v _ _ (c.loop-k.invariant.1 len P b ρ σ v k) (omega (arith, c.loop-k-test.false))
