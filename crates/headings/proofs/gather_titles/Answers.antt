use Rattle.std.specs.Prelude.{eqb}
use Rattle.std.proofs.Common.{arith, rules}
use Rattle.tape.specs.Layout.{kind_of, BLOCK}
use Rattle.sweep.proofs.Laws.Gather.{titles-are}
use Rattle.headings.proofs.gather_titles.Goals as goal

pub returns : goal.returns
returns c = let z = c.gather.ensures (λ w. eqb (kind_of w) BLOCK) (λ w b q. search rules) in (rw (← titles-are c.args.tape.now) z.0, rw (← titles-are c.args.tape.now) (omega (arith, z.1)))
