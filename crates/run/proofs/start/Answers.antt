use Rattle.std.proofs.Common.{rules}
use Rattle.std.proofs.lemmas.List.{places}
use Rattle.run.specs.Visits.{first_of}
use Rattle.run.proofs.start.Goals as goal

pub returns-clause-by_index : goal.returns-clause-by_index
returns-clause-by_index c = λ i h. first_of (λ k. search (rules, places)) (λ k. search (rules, places))
