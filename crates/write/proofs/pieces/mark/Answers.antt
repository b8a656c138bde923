use Rattle.write.specs.Pieces.{between_none, between-some}
use Rattle.write.proofs.pieces.mark.Goals as goal

pub returns-then-more-eq0 : goal.returns-then-more-eq0
returns-then-more-eq0 g c = rw (between_none c.args.mark.now c.args.more c.if-more-eq0.true) (g.P.Pieces.laws.nothing c.args.to.now)

pub returns-else-more-eq0 : goal.returns-else-more-eq0
returns-else-more-eq0 g c = rw (between-some c.args.mark.now c.args.more c.if-more-eq0.false) c.piece.ensures
