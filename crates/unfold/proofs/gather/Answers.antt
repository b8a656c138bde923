use Rattle.std.proofs.Common.{◌≡◌, Err, arith}
use Rattle.frames.specs.Lists.{Gathers}
use Rattle.unfold.specs.Entering.{Collects, gathered-first, collect}
use Rattle.unfold.proofs.gather.Goals as goal

pub evaluate-requires : goal.evaluate-requires
evaluate-requires c = let p = c.requires.written_call in record { written_values = record { exps = p.generics; here = p.here.values }; into_len = c.requires.to_bound.1 }

pub returns-in_err-given : goal.returns-in_err-given
unfolding Gathers Collects
returns-in_err-given c ρ σ gs ins outs s h =
    let e : c.from_residual.result ≡ Err c.in_err-given.field-0.0 = grind arith in
    rw e (gathered-first ρ σ gs _ (rw c.in_err-given.was at (c.evaluate.ensures ρ gs s.value h.values)))

pub arguments-requires-clause-written_args : goal.arguments-requires-clause-written_args
unfolding Gathers
arguments-requires-clause-written_args c =
    let p = c.requires.written_call in
    let (vs, e, n, k, u) = rw c.in_ok-given.was at (c.evaluate.ensures _ _ p.stands.value p.here.values) in
    record { env = p.env; names = p.names; inputs = p.inputs; outputs = p.outputs; stands = p.stands; here = rw n p.here.args }

pub returns : goal.returns
unfolding Gathers
returns c ρ σ gs ins outs s h =
    let (vs, e, n, k, u) = rw c.in_ok-given.was at (c.evaluate.ensures ρ gs s.value h.values) in
    collect ρ σ gs _ _ _ _ _ _ vs e u (c.arguments.ensures.resolves ρ σ ins outs s (rw n h.args)) c.arguments.ensures.lows_unchanged
