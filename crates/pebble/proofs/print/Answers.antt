use mathlib.Core.Path.{ap}
use borrow.Author.Rules.{rules}
use Rattle.pebble.specs.Printed.{as-promised}
use Rattle.pebble.proofs.print.Goals as goal

pub returns : goal.returns
returns c =
    let says = c.show.ensures in
    let flat = c.flatten-answer.ensures.answer in
    as-promised _ (ap (λ a. a.number) flat) (ap (λ a. a.place) flat) (ap (λ a. a.words) flat) (search rules) (search rules) says
