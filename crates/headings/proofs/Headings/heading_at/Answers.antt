use Rattle.sweep.proofs.Laws.Counts.{made-heading}
use Rattle.headings.proofs.Headings.heading_at.Goals as goal

pub returns : goal.returns
returns c = made-heading c.args.self.now.words.now c.args.at _ _ _ (rw (← c.rest.ensures) c.leading-generics.ensures.counts) (rw (← c.rest-2.ensures) c.leading-inputs.ensures.counts) (rw (← c.rest-3.ensures) c.leading-outputs.ensures.counts)
