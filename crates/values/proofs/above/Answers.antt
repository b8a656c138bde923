use Rattle.values.proofs.Signs.{narrow, sub-fits, up_to, up_short}
use lib.IntN.{◌-ℤ◌}
use Rattle.values.proofs.above.Goals as goal

pub returns-clause-apart : goal.returns-clause-apart
returns-clause-apart c =
    let back = narrow ◌-ℤ◌ c.ranges.x c.ranges.y (sub-fits c.ranges.x c.ranges.y) in
    rw c.ok.ensures.value (up_to _ _ (rw (c.from.ensures, c.from-2.ensures, back) at c.try_from.ensures) (sub-fits c.ranges.x c.ranges.y))

pub returns-clause-short : goal.returns-clause-short
returns-clause-short c =
    let back = narrow ◌-ℤ◌ c.ranges.x c.ranges.y (sub-fits c.ranges.x c.ranges.y) in
    rw c.ok.ensures.value (up_short _ _ _ c.ranges.x c.ranges.y (rw (c.from.ensures, c.from-2.ensures, back) at c.try_from.ensures))
