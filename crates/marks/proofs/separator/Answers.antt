use Rattle.std.proofs.Common.{arith, ◌∙◌}
use borrow.Author.Tests.{eq-eqb, ne_eqb}
use Rattle.rules.specs.Text.{pick}
use Rattle.marks.specs.Marks.{dividing}
use Rattle.marks.specs.Laws.One.{past}
use Rattle.marks.proofs.Others.{undivided}
use Rattle.marks.proofs.separator.Goals as goal

pub returns-in_default : goal.returns-in_default
returns-in_default g c = record { value = undivided _ _ _ c.word_at-word.ensures.value c.unwanted.ensures c.in_default.not-Mark; parted = tt }

pub returns-then-b-code-clause-value : goal.returns-then-b-code-clause-value
unfolding dividing pick
returns-then-b-code-clause-value g c = rw (← c.in-Mark.ensures.value, eq-eqb _ _ (c.if-b-code.true ∙ c.code.ensures))

pub returns-then-b-code-clause-parted : goal.returns-then-b-code-clause-parted
returns-then-b-code-clause-parted g c = past _ _ _ _ _ _ (c.if-b-code.true ∙ c.code.ensures) c.requires c.in-Mark.ensures.onward

pub returns-then-b-code-2-clause-value : goal.returns-then-b-code-2-clause-value
unfolding dividing pick
returns-then-b-code-2-clause-value g c = rw (← c.in-Mark.ensures.value, ne_eqb _ _ (rw c.code.ensures at c.if-b-code.false), eq-eqb _ _ (c.if-b-code-2.true ∙ c.code-2.ensures))

pub returns-then-b-code-2-clause-parted : goal.returns-then-b-code-2-clause-parted
returns-then-b-code-2-clause-parted g c =
    let o = past _ _ _ _ _ _ (c.if-b-code-2.true ∙ c.code-2.ensures) c.requires c.in-Mark.ensures.onward in
    omega arith

pub returns-clause-value : goal.returns-clause-value
unfolding dividing pick
returns-clause-value g c = rw (← c.in-Mark.ensures.value, ne_eqb _ _ (rw c.code.ensures at c.if-b-code.false), ne_eqb _ _ (rw c.code-2.ensures at c.if-b-code-2.false), c.unwanted-2.ensures)
