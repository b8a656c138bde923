-- What the roles of the code mean. Assumes nothing.
use Rattle.rules.specs.Names.{Role as Sort, a-generic, a-wire, a-vector, an-index}
use Rattle.spellings.specs.declared.Role.{Role}
use Rattle.spellings.specs.declared.Role.TheVariants.{Wire, Vector, Num, Generic}

abbrev pub meant : Role → Sort
meant Wire = a-wire
meant Vector = a-vector
meant Num = an-index
meant Generic = a-generic
