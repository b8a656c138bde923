use Rattle.std.proofs.Common.{refl, sym, ◌∙◌, suc, arith, inl, inr}
use Rattle.marks.specs.Laws.Exits.{gives_on}
use Rattle.marks.specs.Laws.Lists.{begun, wrong, last, item-off, on, first, first_off, via}
use Rattle.marks.specs.Laws.One.{past, there, absent}
use Rattle.rules.specs.Readers.{any, give}
use Rattle.statements.specs.Loops.{at-bad, at-number, at_name, loop-over, head-off, body-off, looped}
use Rattle.statements.specs.Rows.{statements-row, end_empty}
use Rattle.tape.specs.Encoding.{stmts_w, callee_w}
use Rattle.tape.specs.Layout.{name_w}
use Rattle.tape.specs.Written.{none, nothing, as-words}
use Rattle.statements.proofs.+more_statements_statement_statements.Goals as goal

pub more_statements-loop-next-init : goal.more_statements-loop-next-init
more_statements-loop-next-init t c = ((1, begun (statements-row _ _) _ _ _ _), refl, omega arith, omega (arith, c.requires), omega arith, omega arith, refl)

pub more_statements-returns-in_err-next-clause-gives : goal.more_statements-returns-in_err-next-clause-gives
more_statements-returns-in_err-next-clause-gives t c =
    gives_on none (stmts_w name_w callee_w) _ _ _ _ _ c.from_residual.ensures.1 (wrong (statements-row _ _) c.loop-next.invariant.0.1 c.loop-next.invariant.3 _ c.in_err-next.ensures.value)

pub more_statements-returns-in-Last-clause-gives : goal.more_statements-returns-in-Last-clause-gives
more_statements-returns-in-Last-clause-gives t c =
    rw c.loop-next.invariant.6 (last (statements-row _ _) c.loop-next.invariant.0.1 c.loop-next.invariant.3 _ _ (rw c.in-Last.is at c.in_ok-next.ensures.value) refl)

pub more_statements-returns-in_err-read-in-Another-clause-gives : goal.more_statements-returns-in_err-read-in-Another-clause-gives
more_statements-returns-in_err-read-in-Another-clause-gives t c =
    gives_on none (stmts_w name_w callee_w) _ _ _ _ _ c.from_residual-in_err-read-in-Another.ensures.1
    (item-off (statements-row _ _) c.loop-next.invariant.0.1 c.loop-next.invariant.3 (rw c.in-Another.is at c.in_ok-next.ensures.value) c.in_err-read-in-Another.ensures.gives)

pub more_statements-loop-next-preserved : goal.more_statements-loop-next-preserved
more_statements-loop-next-preserved t c =
    let i = c.loop-next.invariant in
    let u = c.in_ok-read-in-Another.ensures in
    let p = rw c.in-Another.is at c.in_ok-next.ensures.parted in
    ((suc i.0.0, on (statements-row _ _) i.0.1 i.3 (rw c.in-Another.is at c.in_ok-next.ensures.value) u.gives), c.statement.auto.tape ∙ i.1, omega arith, omega arith, omega arith, omega arith, u.gives.counts)

pub statement-returns-then-left-eq0-clause-gives : goal.statement-returns-then-left-eq0-clause-gives
statement-returns-then-left-eq0-clause-gives t c = loop-over _ _ _ (sym c.in-Mark.ensures.value) (c.if-b-code.false ∙ c.code.ensures) c.if-left-eq0.true

pub statement-returns-in_err-head-in-Mark-clause-gives : goal.statement-returns-in_err-head-in-Mark-clause-gives
statement-returns-in_err-head-in-Mark-clause-gives t c =
    gives_on none (stmts_w name_w callee_w) _ _ _ _ _ c.from_residual.ensures.1 (head-off _ _ _ (sym c.in-Mark.ensures.value) (c.if-b-code.false ∙ c.code.ensures) c.if-left-eq0.false c.in_err-head-in-Mark.ensures.heads)

pub statement-returns-in_err-body-in-Mark-clause-gives : goal.statement-returns-in_err-body-in-Mark-clause-gives
statement-returns-in_err-body-in-Mark-clause-gives t c =
    gives_on none (stmts_w name_w callee_w) _ _ _ _ _ c.from_residual-in_err-body-in-Mark.ensures.1
    (body-off _ _ _ (sym c.in-Mark.ensures.value) (c.if-b-code.false ∙ c.code.ensures) c.if-left-eq0.false c.in_ok-head-in-Mark.ensures.heads c.in_err-body-in-Mark.ensures.gives)

pub statement-loop_head-requires : goal.statement-loop_head-requires
statement-loop_head-requires t c =
    let w = past _ _ _ _ _ _ (c.if-b-code.false ∙ c.code.ensures) c.requires.1 c.in-Mark.ensures.onward in
    omega (arith, c.requires)

pub statement-returns-in-Bad-clause-gives : goal.statement-returns-in-Bad-clause-gives
statement-returns-in-Bad-clause-gives t c =
    elim c.in-Bad.is [
      | inl i ↦ at-bad _ _ _ (sym c.word_at-word.ensures.value ∙ i.1) ∙ rw (c.unwanted.ensures, i.1)
      | inr i ↦ at-number _ _ _ (sym c.word_at-word.ensures.value ∙ i.3) ∙ rw (c.unwanted.ensures, i.3)
    ]

pub statement-returns-in-Name-clause-gives : goal.statement-returns-in-Name-clause-gives
statement-returns-in-Name-clause-gives t c = via _ _ _ _ _ c.call.result (at_name _ _ _ (sym c.in-Name.ensures.value)) c.call.ensures.gives

pub statement-returns-in_ok-body-in-Mark-clause-gives : goal.statement-returns-in_ok-body-in-Mark-clause-gives
statement-returns-in_ok-body-in-Mark-clause-gives t c =
    looped _ _ _ (sym c.in-Mark.ensures.value) (c.if-b-code.false ∙ c.code.ensures) c.if-left-eq0.false c.in_ok-head-in-Mark.ensures.heads c.in_ok-body-in-Mark.ensures.gives c.store.ensures

pub statements-returns-in-Some-clause-gives : goal.statements-returns-in-Some-clause-gives
unfolding any give
statements-returns-in-Some-clause-gives t c =
    record { value = _; reads = there "END" _ _ _ _ c.in-Some.ensures.spots; wrote = as-words (sym end_empty) (nothing _ _); counts = refl }

pub statements-returns-in_err-first-clause-gives : goal.statements-returns-in_err-first-clause-gives
unfolding any
statements-returns-in_err-first-clause-gives t c =
    gives_on none (stmts_w name_w callee_w) _ _ _ _ _ c.from_residual.ensures.1 (absent "END" _ _ _ _ c.in_default.ensures.spots ∙ first_off (statements-row _ c.args.left) 0 _ c.in_err-first.ensures.gives)

pub statements-returns-clause-gives : goal.statements-returns-clause-gives
unfolding any
statements-returns-clause-gives t c =
    via _ _ _ _ _ c.more_statements.result (absent "END" _ _ _ _ c.in_default.ensures.spots)
    (first (statements-row _ _) 0 _ _ c.more_statements.result c.in_ok-first.ensures.gives c.more_statements.ensures.gives)
