use Rattle.sweep.specs.Sweep.{heading}
use Rattle.sweep.proofs.Laws.Gather.{headings-are}
use Rattle.headings.proofs.gather_heads.Goals as goal

pub returns : goal.returns
returns c = rw headings-are at (c.gather.ensures heading (λ w b e. e)).0
