use Rattle.std.proofs.Common.{◌≡◌, ◌-◌, [], length, ap, refl, arith, replicate, pos, Err}
use Rattle.frames.specs.Fresh.{Declares, some-state}
use Rattle.rules.specs.Frames.{blanks}
use Rattle.rules.specs.Unfold.{Wires}
use Rattle.rules.specs.Values.{generics}
use Rattle.start.specs.Begins.{Begins, knows-none, blank-filled, decls-in, decls-out, decls-var, inputs-of, numbered_of, wired-of, body-inside, began_of}
use Rattle.start.specs.First.{inputs-refused, outputs-refused, ports-refused, locals-refused}
use Rattle.frames.specs.declared.Frame.{Frame}
use Rattle.frames.specs.Stands.{Knows, no_vector}
use Rattle.start.proofs.begin.Goals as goal

pub after_generics-ports-requires : goal.after_generics-ports-requires
after_generics-ports-requires c = c.requires

pub overflow_sub-generics : goal.overflow_sub-generics
overflow_sub-generics c = let e = (c.after_generics-ports.ensures _ c.requires.here).1 in omega (arith, e)

pub declare-requires-clause-written_decls : goal.declare-requires-clause-written_decls
declare-requires-clause-written_decls c =
    let p = c.requires in
    let z = c.empty-frame.ensures in
    let n : c.empty-frame.result.names ≡ replicate 48 no_vector = ap (λ (f : Frame). f.names) z in
    let e = c.after_generics-ports.ensures p.block p.here in
    let q : c.after_generics-ports.result - c.args.place - 1 ≡ length p.block.generics = omega (arith, e.1) in
    record { decls = p.block.inputs; names = blanks Wires p.block.generics; here = decls-in p.here e.0; filled = blank-filled p.block.generics q n }

pub declare-requires-clause-from_bound : goal.declare-requires-clause-from_bound
declare-requires-clause-from_bound c =
    let e = c.after_generics-ports.ensures _ c.requires.here in
    (omega (arith, e.1, c.requires.here.few), omega arith)

pub returns-in_err-ins : goal.returns-in_err-ins
unfolding Declares Begins
returns-in_err-ins c M h =
    let z = c.empty-frame.ensures in
    let K : Knows c.empty-frame.result.values (generics []) = rw z knows-none in
    let n : c.empty-frame.result.names ≡ replicate 48 no_vector = ap (λ (f : Frame). f.names) z in
    let e = c.after_generics-ports.ensures M h in
    let q : c.after_generics-ports.result - c.args.place - 1 ≡ length M.generics = omega (arith, e.1) in
    let g = c.declare.ensures (generics []) M.inputs (blanks Wires M.generics) (some-state 0) K (decls-in h e.0) (blank-filled M.generics q n) refl in
    let r : c.from_residual.result ≡ Err c.in_err-ins.field-0.0 = grind arith in
    rw r (ports-refused M (inputs-refused M (rw c.in_err-ins.was at g)))

pub declare-requires-2-clause-written_decls : goal.declare-requires-2-clause-written_decls
declare-requires-2-clause-written_decls c =
    let p = c.requires in
    let z = c.empty-frame.ensures in
    let K : Knows c.empty-frame.result.values (generics []) = rw z knows-none in
    let n : c.empty-frame.result.names ≡ replicate 48 no_vector = ap (λ (f : Frame). f.names) z in
    let e = c.after_generics-ports.ensures p.block p.here in
    let q : c.after_generics-ports.result - c.args.place - 1 ≡ length p.block.generics = omega (arith, e.1) in
    let g = c.declare.ensures (generics []) p.block.inputs (blanks Wires p.block.generics) (some-state 0) K (decls-in p.here e.0) (blank-filled p.block.generics q n) refl in
    let x = inputs-of p.here e.0 (rw c.in_ok-ins.was at g) in
    record { decls = p.block.outputs; names = x.names; here = decls-out p.here x.next; filled = x.filled }

pub declare-requires-2-clause-from_bound : goal.declare-requires-2-clause-from_bound
declare-requires-2-clause-from_bound c =
    let p = c.requires in
    let z = c.empty-frame.ensures in
    let K : Knows c.empty-frame.result.values (generics []) = rw z knows-none in
    let n : c.empty-frame.result.names ≡ replicate 48 no_vector = ap (λ (f : Frame). f.names) z in
    let e = c.after_generics-ports.ensures p.block p.here in
    let q : c.after_generics-ports.result - c.args.place - 1 ≡ length p.block.generics = omega (arith, e.1) in
    let g = c.declare.ensures (generics []) p.block.inputs (blanks Wires p.block.generics) (some-state 0) K (decls-in p.here e.0) (blank-filled p.block.generics q n) refl in
    let x = inputs-of p.here e.0 (rw c.in_ok-ins.was at g) in
    (x.few, omega (arith, x.wires))

pub returns-in_err-outs : goal.returns-in_err-outs
unfolding Declares Begins
returns-in_err-outs c M h =
    let z = c.empty-frame.ensures in
    let K : Knows c.empty-frame.result.values (generics []) = rw z knows-none in
    let n : c.empty-frame.result.names ≡ replicate 48 no_vector = ap (λ (f : Frame). f.names) z in
    let e = c.after_generics-ports.ensures M h in
    let q : c.after_generics-ports.result - c.args.place - 1 ≡ length M.generics = omega (arith, e.1) in
    let g = c.declare.ensures (generics []) M.inputs (blanks Wires M.generics) (some-state 0) K (decls-in h e.0) (blank-filled M.generics q n) refl in
    let x = inputs-of h e.0 (rw c.in_ok-ins.was at g) in
    let o = c.declare-2.ensures (generics []) M.outputs x.names (some-state _) K (decls-out h x.next) x.filled refl in
    let r : c.from_residual-in_err-outs.result ≡ Err c.in_err-outs.field-0.0 = grind arith in
    rw r (ports-refused M (outputs-refused M {σ = x.names} x.is (rw c.in_err-outs.was at o)))

pub declare-requires-3-clause-written_decls : goal.declare-requires-3-clause-written_decls
declare-requires-3-clause-written_decls c =
    let p = c.requires in
    let z = c.empty-frame.ensures in
    let K : Knows c.empty-frame.result.values (generics []) = rw z knows-none in
    let n : c.empty-frame.result.names ≡ replicate 48 no_vector = ap (λ (f : Frame). f.names) z in
    let e = c.after_generics-ports.ensures p.block p.here in
    let q : c.after_generics-ports.result - c.args.place - 1 ≡ length p.block.generics = omega (arith, e.1) in
    let g = c.declare.ensures (generics []) p.block.inputs (blanks Wires p.block.generics) (some-state 0) K (decls-in p.here e.0) (blank-filled p.block.generics q n) refl in
    let x = inputs-of p.here e.0 (rw c.in_ok-ins.was at g) in
    let o = c.declare-2.ensures (generics []) p.block.outputs x.names (some-state _) K (decls-out p.here x.next) x.filled refl in
    let y = numbered_of p.here x (rw c.in_ok-outs.was at o) in
    record { decls = p.block.locals; names = y.names; here = decls-var p.here y.next; filled = y.filled }

pub declare-requires-3-clause-from_bound : goal.declare-requires-3-clause-from_bound
declare-requires-3-clause-from_bound c =
    let p = c.requires in
    let z = c.empty-frame.ensures in
    let K : Knows c.empty-frame.result.values (generics []) = rw z knows-none in
    let n : c.empty-frame.result.names ≡ replicate 48 no_vector = ap (λ (f : Frame). f.names) z in
    let e = c.after_generics-ports.ensures p.block p.here in
    let q : c.after_generics-ports.result - c.args.place - 1 ≡ length p.block.generics = omega (arith, e.1) in
    let g = c.declare.ensures (generics []) p.block.inputs (blanks Wires p.block.generics) (some-state 0) K (decls-in p.here e.0) (blank-filled p.block.generics q n) refl in
    let x = inputs-of p.here e.0 (rw c.in_ok-ins.was at g) in
    let o = c.declare-2.ensures (generics []) p.block.outputs x.names (some-state _) K (decls-out p.here x.next) x.filled refl in
    let y = numbered_of p.here x (rw c.in_ok-outs.was at o) in
    (y.few, y.wires)

pub returns-in_err-locals : goal.returns-in_err-locals
unfolding Declares Begins
returns-in_err-locals c M h =
    let z = c.empty-frame.ensures in
    let K : Knows c.empty-frame.result.values (generics []) = rw z knows-none in
    let n : c.empty-frame.result.names ≡ replicate 48 no_vector = ap (λ (f : Frame). f.names) z in
    let e = c.after_generics-ports.ensures M h in
    let q : c.after_generics-ports.result - c.args.place - 1 ≡ length M.generics = omega (arith, e.1) in
    let g = c.declare.ensures (generics []) M.inputs (blanks Wires M.generics) (some-state 0) K (decls-in h e.0) (blank-filled M.generics q n) refl in
    let x = inputs-of h e.0 (rw c.in_ok-ins.was at g) in
    let o = c.declare-2.ensures (generics []) M.outputs x.names (some-state _) K (decls-out h x.next) x.filled refl in
    let y = numbered_of h x (rw c.in_ok-outs.was at o) in
    let l = c.declare-3.ensures (generics []) M.locals y.names (some-state _) K (decls-var h y.next) y.filled refl in
    let r : c.from_residual-in_err-locals.result ≡ Err c.in_err-locals.field-0.0 = grind arith in
    rw r (locals-refused M {σ = y.names} y.is (rw c.in_err-locals.was at l))

pub body_at-requires : goal.body_at-requires
body_at-requires c =
    let p = c.requires in
    let z = c.empty-frame.ensures in
    let K : Knows c.empty-frame.result.values (generics []) = rw z knows-none in
    let n : c.empty-frame.result.names ≡ replicate 48 no_vector = ap (λ (f : Frame). f.names) z in
    let e = c.after_generics-ports.ensures p.block p.here in
    let q : c.after_generics-ports.result - c.args.place - 1 ≡ length p.block.generics = omega (arith, e.1) in
    let g = c.declare.ensures (generics []) p.block.inputs (blanks Wires p.block.generics) (some-state 0) K (decls-in p.here e.0) (blank-filled p.block.generics q n) refl in
    let x = inputs-of p.here e.0 (rw c.in_ok-ins.was at g) in
    let o = c.declare-2.ensures (generics []) p.block.outputs x.names (some-state _) K (decls-out p.here x.next) x.filled refl in
    let y = numbered_of p.here x (rw c.in_ok-outs.was at o) in
    let l = c.declare-3.ensures (generics []) p.block.locals y.names (some-state _) K (decls-var p.here y.next) y.filled refl in
    let w = wired-of p.here y (rw c.in_ok-locals.was at l) in
    let i = body-inside p.here w in
    (omega (arith, i, p.here.limit), omega (arith, i, p.here.short))

pub overflow_sub-result : goal.overflow_sub-result
overflow_sub-result c =
    let p = c.requires in
    let z = c.empty-frame.ensures in
    let K : Knows c.empty-frame.result.values (generics []) = rw z knows-none in
    let n : c.empty-frame.result.names ≡ replicate 48 no_vector = ap (λ (f : Frame). f.names) z in
    let e = c.after_generics-ports.ensures p.block p.here in
    let q : c.after_generics-ports.result - c.args.place - 1 ≡ length p.block.generics = omega (arith, e.1) in
    let g = c.declare.ensures (generics []) p.block.inputs (blanks Wires p.block.generics) (some-state 0) K (decls-in p.here e.0) (blank-filled p.block.generics q n) refl in
    let x = inputs-of p.here e.0 (rw c.in_ok-ins.was at g) in
    let o = c.declare-2.ensures (generics []) p.block.outputs x.names (some-state _) K (decls-out p.here x.next) x.filled refl in
    let y = numbered_of p.here x (rw c.in_ok-outs.was at o) in
    y.grows

pub returns : goal.returns
unfolding Begins
returns c M h =
    let z = c.empty-frame.ensures in
    let K : Knows c.empty-frame.result.values (generics []) = rw z knows-none in
    let n : c.empty-frame.result.names ≡ replicate 48 no_vector = ap (λ (f : Frame). f.names) z in
    let e = c.after_generics-ports.ensures M h in
    let q : c.after_generics-ports.result - c.args.place - 1 ≡ length M.generics = omega (arith, e.1) in
    let g = c.declare.ensures (generics []) M.inputs (blanks Wires M.generics) (some-state 0) K (decls-in h e.0) (blank-filled M.generics q n) refl in
    let x = inputs-of h e.0 (rw c.in_ok-ins.was at g) in
    let o = c.declare-2.ensures (generics []) M.outputs x.names (some-state _) K (decls-out h x.next) x.filled refl in
    let y = numbered_of h x (rw c.in_ok-outs.was at o) in
    let l = c.declare-3.ensures (generics []) M.locals y.names (some-state _) K (decls-var h y.next) y.filled refl in
    let w = wired-of h y (rw c.in_ok-locals.was at l) in
    let v : c.empty-frame.result.values ≡ replicate 48 (pos 0) = ap (λ (f : Frame). f.values) z in
    rw v (began_of h w c.body_at.ensures)
