use Rattle.std.proofs.Common.{◌≡◌, ◌+◌, refl, ap, ◌∙◌, arith, Err, get_or}
use Rattle.frames.specs.Fresh.{some-state}
use Rattle.tape.specs.Layout.{value_of}
use Rattle.unfold.specs.Entering.{Collects, Enters}
use Rattle.unfold.specs.Header.{body-many, body-room}
use Rattle.unfold.specs.Opening.{Opens, offers-of, opened-first, opened-then, opened-ok, frame-stands, known_of}
use Rattle.unfold.specs.declared.Span.{Span}
use Rattle.unfold.proofs.open.Goals as goal

pub after_generics-requires : goal.after_generics-requires
after_generics-requires c = record { block = c.requires.written_open.block; here = c.requires.written_open.here }

pub overflow_sub-to : goal.overflow_sub-to
overflow_sub-to c = let e = (c.after_generics.ensures _ c.requires.written_open.here).1 in omega (arith, e)

pub overflow_sub-to-2 : goal.overflow_sub-to-2
overflow_sub-to-2 c = let e = (c.after_generics.ensures _ c.requires.written_open.here).1 in omega (arith, e)

pub returns-in_err-gather : goal.returns-in_err-gather
unfolding Collects Opens
returns-in_err-gather c ρ σ gs ins outs B s S h b n w =
    let e : c.from_residual.result ≡ Err c.in_err-gather.field-0.0 = grind arith in
    rw e (0, opened-first ρ σ gs _ B s (rw c.in_err-gather.was at (c.gather.ensures ρ σ gs ins outs S h)))

pub enter-requires-clause-written_header : goal.enter-requires-clause-written_header
unfolding Collects
enter-requires-clause-written_header c =
    let p = c.requires.written_open in
    let e = (c.after_generics.ensures _ p.here).1 in
    let g = rw (c.empty-inner.ensures, c.in_ok-gather.was) at (c.gather.ensures _ _ _ _ _ p.call.stands p.call.here) in
    record { block = p.block; wires = g.wires; here = p.here; offers = offers-of p.block g (omega (arith, e)) p.many }

pub returns-in_err-fresh : goal.returns-in_err-fresh
unfolding Collects Enters Opens
returns-in_err-fresh c ρ σ gs ins outs B s S h b n w =
    let e = (c.after_generics.ensures B b).1 in
    let g = rw (c.empty-inner.ensures, c.in_ok-gather.was) at (c.gather.ensures ρ σ gs ins outs S h) in
    let (p, f) = rw c.in_err-fresh.was at (c.enter.ensures.enters _ B g.wires s (known_of g.values g.stored) b (offers-of B g (omega (arith, e)) n) w) in
    let r : c.from_residual-in_err-fresh.result ≡ Err c.in_err-fresh.field-0.0 = grind arith in
    rw r (p, opened-then ρ σ gs _ B s g.evals g.resolves f)

pub body_at-requires : goal.body_at-requires
unfolding Collects Enters
body_at-requires c =
    let p = c.requires.written_open in
    let e = (c.after_generics.ensures _ p.here).1 in
    let g = rw (c.empty-inner.ensures, c.in_ok-gather.was) at (c.gather.ensures _ _ _ _ _ p.call.stands p.call.here) in
    let (τ, f, q, u, l) = rw c.in_ok-fresh.was at (c.enter.ensures.enters _ p.block g.wires (some-state c.args.wires) (known_of g.values g.stored) p.here (offers-of p.block g (omega (arith, e)) p.many) refl) in
    let r = body-room p.here in
    (omega (arith, q, r, p.here.limit), omega (arith, q, r, p.here.short))

pub returns : goal.returns
unfolding Collects Enters Opens
returns c ρ σ gs ins outs B s S h b n w =
    let e = (c.after_generics.ensures B b).1 in
    let g = rw (c.empty-inner.ensures, c.in_ok-gather.was) at (c.gather.ensures ρ σ gs ins outs S h) in
    let o = offers-of B g (omega (arith, e)) n in
    let (τ, f, q, u, l) = rw c.in_ok-fresh.was at (c.enter.ensures.enters _ B g.wires s (known_of g.values g.stored) b o w) in
    let first : c.body_at.result.at ≡ c.in_ok-fresh.fresh.next + 1 = ap (λ (s : Span). s.at) c.body_at.ensures in
    let last : c.body_at.result.end ≡ c.in_ok-fresh.fresh.next + 1 + value_of (get_or c.args.program.now.tape.now c.in_ok-fresh.fresh.next 0) = ap (λ (s : Span). s.end) c.body_at.ensures in
    let many = ap (λ i. value_of (get_or c.args.program.now.tape.now i 0)) q ∙ body-many b in
    record {
      values = g.values;
      names = τ;
      is = opened-ok ρ σ gs _ B s g.evals g.resolves f;
      stands = frame-stands b g.values g.wires s o.many f (c.enter.ensures.values_unchanged ∙ g.stored) l;
      wires = u;
      first = first ∙ ap (λ n. n + 1) q;
      last = omega (arith, first, last, many);
    }
