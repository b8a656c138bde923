use Rattle.rules.specs.Grammar.{is_sum}
use Rattle.tape.specs.Layout.{head_of}
use Rattle.std.proofs.Common.{arith, sym, ◌∙◌}
use borrow.Author.Tests.{ne_eqb}
use Rattle.rules.specs.Text.{pick}
use Rattle.marks.specs.Marks.{Ends}
use Rattle.marks.specs.Laws.One.{past}
use Rattle.marks.proofs.Others.{no-mark}
use Rattle.marks.proofs.sum.Goals as goal

pub returns-in_default : goal.returns-in_default
returns-in_default c = record { joins = rw (← c.word_at.ensures.value) (no-mark is_sum _ c.in_default.not-Mark); joined = tt }

pub returns-then-b-code-clause-joins : goal.returns-then-b-code-clause-joins
unfolding pick head_of
returns-then-b-code-clause-joins c =
    let e = c.if-b-code.true ∙ c.code.ensures in
    record { by = c.in-Mark.b; place = c.in-Mark.field-1; is = sym c.in-Mark.ensures.value; joining = rw e; head = rw e }

pub returns-then-b-code-clause-joined : goal.returns-then-b-code-clause-joined
returns-then-b-code-clause-joined c =
    let o = past _ _ _ _ _ _ (c.if-b-code.true ∙ c.code.ensures) c.requires c.in-Mark.ensures.onward in
    omega arith

pub returns-then-b-code-2-clause-joins : goal.returns-then-b-code-2-clause-joins
unfolding pick head_of
returns-then-b-code-2-clause-joins c =
    let e = c.if-b-code-2.true ∙ c.code-2.ensures in
    record { by = c.in-Mark.b; place = c.in-Mark.field-1; is = sym c.in-Mark.ensures.value; joining = rw e; head = rw e }

pub returns-then-b-code-2-clause-joined : goal.returns-then-b-code-2-clause-joined
returns-then-b-code-2-clause-joined c =
    let o = past _ _ _ _ _ _ (c.if-b-code-2.true ∙ c.code-2.ensures) c.requires c.in-Mark.ensures.onward in
    omega arith

pub returns-clause-joins : goal.returns-clause-joins
unfolding Ends
returns-clause-joins c = rw (← c.in-Mark.ensures.value, ne_eqb _ _ (rw c.code.ensures at c.if-b-code.false), ne_eqb _ _ (rw c.code-2.ensures at c.if-b-code-2.false))
