use Rattle.std.proofs.Common.{◌∙◌}
use borrow.Author.Tests.{eq-eqb}
use Rattle.rules.specs.Text.{pick}
use Rattle.rules.specs.Readers.{give, marked}
use Rattle.marks.specs.Marks.{mark_at}
use Rattle.marks.specs.Laws.One.{past}
use Rattle.marks.proofs.Others.{not_a_mark, another_mark}
use Rattle.marks.proofs.mark.Goals as goal

pub returns-in_default : goal.returns-in_default
returns-in_default g c = record { tells = not_a_mark _ _ _ c.word_at-word.ensures.value c.unwanted.ensures c.in_default.not-Mark; past = tt }

pub returns-then-b-code-clause-tells : goal.returns-then-b-code-clause-tells
returns-then-b-code-clause-tells g c = another_mark _ _ _ c.in-Mark.ensures.value c.unwanted-then-b-code.ensures (rw c.code.ensures at c.if-b-code.true)

pub returns-clause-tells : goal.returns-clause-tells
unfolding mark_at marked give pick
returns-clause-tells g c = rw (← c.in-Mark.ensures.value, eq-eqb _ _ (c.if-b-code.false ∙ c.code.ensures))

pub returns-clause-past : goal.returns-clause-past
returns-clause-past g c = past _ _ _ _ _ _ (c.if-b-code.false ∙ c.code.ensures) c.requires c.in-Mark.ensures.onward
