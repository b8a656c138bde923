-- The law by which a block past the limit is refused, as a set that an attribute can name. Assumes nothing.
use Rattle.grammar.specs.Parts.{block-over}

pub ruleset limits = (block-over)
