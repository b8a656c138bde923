use Rattle.std.specs.Prelude.{map}
use Rattle.std.proofs.Common.{◌∙◌, sym}
use Rattle.rules.specs.Primitives.{primitive_names}
use Rattle.sweep.specs.Spelling.{letters_of}
use Rattle.sweep.proofs.Laws.Steps.{taken-first, taken-second}
use Rattle.spellings.proofs.taken.Goals as goal

pub returns-then-is_some : goal.returns-then-is_some
returns-then-is_some c = c.if-is_some.true ∙ taken-first c.args.name.now primitive_names (map (letters_of c.args.text.now) c.args.before.now) c.primitive.result c.primitive.ensures (sym c.is_some.ensures ∙ c.if-is_some.true)

pub returns-else-is_some : goal.returns-else-is_some
returns-else-is_some c = c.is_some-else-is_some.ensures ∙ taken-second c.args.name.now primitive_names (map (letters_of c.args.text.now) c.args.before.now) c.primitive.result c.primitive.ensures (sym c.is_some.ensures ∙ c.if-is_some.false) c.find.result c.find.ensures
