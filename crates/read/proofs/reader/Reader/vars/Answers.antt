use Rattle.std.proofs.Common.{sym, ◌∙◌}
use Rattle.read.specs.Loops.{vars-stop, vars-turn}
use Rattle.read.proofs.reader.Reader.vars.Goals as goal

pub returns-then-byte-ne86-clause-vars_reads : goal.returns-then-byte-ne86-clause-vars_reads
returns-then-byte-ne86-clause-vars_reads c =
    λ n ps h a. let s = c.loop-k.invariant n ps h a in vars-stop _ _ n s.0 s.1 (λ e. c.if-byte-ne86.true (c.byte.ensures ∙ e))

pub loop-k-preserved : goal.loop-k-preserved
loop-k-preserved c =
    λ n ps h a.
    let s = c.loop-k.invariant n ps h a in
    vars-turn _ _ n s.0 s.1 (sym c.byte.ensures ∙ c.if-byte-ne86.false) c.width.ensures.0 c.skip.ensures
