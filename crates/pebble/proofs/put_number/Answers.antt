use Rattle.std.proofs.Common.{◌∙◌}
use Rattle.pebble.specs.Decimal.{fewest-decimal}
use Rattle.write.specs.Put.{put_is}
use Rattle.pebble.proofs.put_number.Goals as goal

pub returns-clause-put : goal.returns-clause-put
returns-clause-put c =
    put_is (c.decimal-k.ensures.digits ∙ fewest-decimal c.decimal-k.result c.args.n c.decimal-k.ensures.len) c.copy.ensures
