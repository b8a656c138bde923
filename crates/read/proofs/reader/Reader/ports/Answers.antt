use Rattle.std.proofs.Common.{sym, ◌∙◌}
use Rattle.read.specs.Loops.{ports-stop, ports-turn}
use Rattle.read.proofs.reader.Reader.ports.Goals as goal

pub returns-then-byte-ne119-clause-ports_reads : goal.returns-then-byte-ne119-clause-ports_reads
returns-then-byte-ne119-clause-ports_reads c =
    λ n ps h a. let s = c.loop-k.invariant n ps h a in ports-stop _ _ n s.0 s.1 (λ e. c.if-byte-ne119.true (c.byte.ensures ∙ e)) c.skip.ensures

pub loop-k-preserved : goal.loop-k-preserved
loop-k-preserved c =
    λ n ps h a.
    let s = c.loop-k.invariant n ps h a in
    ports-turn _ _ n s.0 s.1 (sym c.byte.ensures ∙ c.if-byte-ne119.false) c.width.ensures.0 c.skip-in-loop-k.ensures c.pass.ensures
