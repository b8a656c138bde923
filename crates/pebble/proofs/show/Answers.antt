use Rattle.rules.specs.Numbers.{number-some}
use Rattle.netlist.specs.Answers.{told, its_length}
use Rattle.pebble.specs.Front.{front, says-refusal, says-spoiled, says-flat}
use borrow.Author.Rules.{rules}
use mathlib.Core.Path.{ap, refl}
use native.Mathlib.Omega.{arith}
use Rattle.pebble.proofs.show.Goals as goal

pub returns-in-Err : goal.returns-in-Err
returns-in-Err c = rw c.in-Err.is (says-refusal (number-some _) (front c.put_refusal.ensures.put (omega (arith, c.put_refusal.ensures.upper_bound))))

pub returns-in-Ok-write : goal.returns-in-Ok-write
unfolding told
returns-in-Ok-write c = rw c.in-Ok.is (says-flat refl c.write.ensures (search rules) (ap (told its_length) c.in-Ok-write.is))

pub returns-in-Err-write : goal.returns-in-Err-write
unfolding told
returns-in-Err-write c =
    rw c.in-Ok.is (says-spoiled refl c.write.ensures (search rules) (ap (told its_length) c.in-Err-write.is) (number-some _) (front {t = c.write.new.text} (search rules) (omega arith)))
