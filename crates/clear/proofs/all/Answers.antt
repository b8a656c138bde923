use Rattle.clear.proofs.all.Goals as goal

pub returns : goal.returns
returns g c = rw (← c.ZERO.ensures) (c.fill.ensures.after (g.met.T.Cell.copies c.ZERO.result).1)
