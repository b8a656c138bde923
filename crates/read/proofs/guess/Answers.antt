use Rattle.read.specs.Body.{guessed}
use Rattle.read.proofs.guess.Goals as goal

pub returns : goal.returns
returns c =
    λ w wf e.
    guessed w wf e c.requires c.skip.ensures c.ports-inputs.ensures.ports_reads c.skip-2.ensures c.ports-outputs.ensures.ports_reads c.vars-others.ensures.vars_reads
    c.skip-3.ensures c.put_gates-gates.ensures c.put_head.ensures
