use Rattle.sweep.proofs.Laws.Counts.{block-heading}
use Rattle.headings.proofs.Headings.heading_of.Goals as goal

pub returns-in-Block : goal.returns-in-Block
returns-in-Block c = rw c.in-Block.is (block-heading c.args.self.now.words.now c.args.self.now.firsts.now c.in-Block.block _ _ c.first.ensures.0 c.heading_at.ensures)
