use Rattle.pebble.specs.Decimal.{decimal}
use Rattle.pebble.specs.Printed.{refused_text}
use Rattle.rules.specs.Text.{joined}
use Rattle.write.specs.Put.{put-none, put_is, put_then}
use borrow.Author.Rules.{rules}
use mathlib.Core.Path.{ap}
use Rattle.pebble.proofs.put_refusal.Goals as goal

pub returns-clause-put : goal.returns-clause-put
unfolding refused_text joined
returns-clause-put c =
    put_then c.copy-a.ensures
    (put_then (put_is (ap decimal c.number.ensures) c.put_number-b.ensures.put)
    (put_then c.copy-c.ensures (put_then (put_is (search rules) c.put_number-d.ensures.put) (put_then c.copy.ensures put-none))))
