use Rattle.rules.specs.Readers.{a_name, named}
use Rattle.marks.proofs.Others.{not_a_name}
use Rattle.marks.proofs.name.Goals as goal

pub returns-in_default : goal.returns-in_default
returns-in_default c = record { tells = not_a_name _ _ c.word_at-word.ensures.value c.unwanted.ensures c.in_default.not-Name; named = tt }

pub returns-clause-tells : goal.returns-clause-tells
unfolding a_name named
returns-clause-tells c = rw (← c.in-Name.ensures.value)
