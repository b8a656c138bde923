use Rattle.std.proofs.Common.{◌∙◌}
use borrow.Author.Tests.{eq-eqb, ne_eqb}
use Rattle.rules.specs.Readers.{after}
use Rattle.marks.specs.Marks.{is_code}
use Rattle.marks.specs.Laws.One.{past}
use Rattle.marks.proofs.Others.{no_code}
use Rattle.marks.proofs.optional.Goals as goal

pub returns-in_default : goal.returns-in_default
returns-in_default g c = record { spots = rw (← c.word_at.ensures.value) (no_code _ _ c.in_default.not-Mark); past = tt }

pub returns-then-b-code-clause-spots : goal.returns-then-b-code-clause-spots
unfolding is_code
returns-then-b-code-clause-spots g c = rw (← c.in-Mark.ensures.value) (ne_eqb _ _ (rw c.code.ensures at c.if-b-code.true))

pub returns-clause-spots : goal.returns-clause-spots
unfolding is_code after
returns-clause-spots g c = (rw (← c.in-Mark.ensures.value) (eq-eqb _ _ (c.if-b-code.false ∙ c.code.ensures)), rw (← c.in-Mark.ensures.value))

pub returns-clause-past : goal.returns-clause-past
returns-clause-past g c = past _ _ _ _ _ _ (c.if-b-code.false ∙ c.code.ensures) c.requires c.in-Mark.ensures.onward
