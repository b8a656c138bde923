use Rattle.std.proofs.Common.{◌≡◌, refl, sym, ◌∙◌, rules, arith, Ok, Err, ◌/◌, SFits, w32, to_z-of_z}
use Rattle.frames.specs.Fresh.{Declares, some-state, name-place, declaring-begin, declaring-next, declaring-refused, declaring-full, declaring-on, declaring-end}
use Rattle.frames.specs.Lists.{knows-itself}
use Rattle.frames.specs.Ports.{here-sort}
use Rattle.frames.specs.Stands.{shape-knows}
use Rattle.tape.specs.Encoding.{decl_w}
use Rattle.values.specs.Sizes.{Sizes}
use Rattle.frames.proofs.declare.Goals as goal

pub loop-kind-init : goal.loop-kind-init
loop-kind-init g c ρ ds σ s K h f e = declaring-begin h e c.requires.from_bound.1 f

pub offset_bounds-tape-next : goal.offset_bounds-tape-next
offset_bounds-tape-next g c =
    let p = c.requires.written_decls in
    let d = c.loop-kind.invariant _ _ _ (some-state c.args.from.wires) (knows-itself _) p.here p.filled refl in
    let n = declaring-next d (sym c.among.ensures ∙ c.loop-kind-test.true) in
    let r = n.alone.short in
    let q = n.alone.within in
    let m = n.some in
    search rules

pub bounds-tape-next : goal.bounds-tape-next
bounds-tape-next g c =
    let p = c.requires.written_decls in
    let d = c.loop-kind.invariant _ _ _ (some-state c.args.from.wires) (knows-itself _) p.here p.filled refl in
    let n = declaring-next d (sym c.among.ensures ∙ c.loop-kind-test.true) in
    omega (arith, n.alone.within, n.alone.limit, n.some)

pub measure-requires : goal.measure-requires
measure-requires g c =
    let p = c.requires.written_decls in
    let d = c.loop-kind.invariant _ _ _ (some-state c.args.from.wires) (knows-itself _) p.here p.filled refl in
    let n = declaring-next d (sym c.among.ensures ∙ c.loop-kind-test.true) in
    record { kind = _; value = _; sort = n.decl.sort; here = here-sort n.sound n.alone }

pub returns-in_err-size : goal.returns-in_err-size
unfolding Sizes Declares
returns-in_err-size g c ρ ds σ s K h f e =
    let d = c.loop-kind.invariant ρ ds σ s K h f e in
    let n = declaring-next d (sym c.among.ensures ∙ c.loop-kind-test.true) in
    let m : c.measure.result ≡ Err c.in_err-size.field-0.0.reason = grind arith in
    let p : c.in_err-size.field-0.0.place ≡ c.value_of.result / 32 = grind arith in
    let q : c.from_residual.result ≡ Err c.in_err-size.field-0.0 = grind arith in
    rw q (declaring-refused d n (sym (shape-knows _ K n.sound.sort) ∙ rw m at (c.measure.ensures _ _ _ (here-sort n.sound n.alone))) (p ∙ rw c.value_of.ensures (name-place n)))

pub overflow_sub-wires : goal.overflow_sub-wires
overflow_sub-wires g c =
    let p = c.requires.written_decls in
    let d = c.loop-kind.invariant _ _ _ (some-state c.args.from.wires) (knows-itself _) p.here p.filled refl in
    let w = d.wires in
    search rules

pub returns-then-size-wires : goal.returns-then-size-wires
unfolding Sizes Declares
returns-then-size-wires g c ρ ds σ s K h f e =
    let d = c.loop-kind.invariant ρ ds σ s K h f e in
    let n = declaring-next d (sym c.among.ensures ∙ c.loop-kind-test.true) in
    let m : c.measure.result ≡ Ok c.in_ok-size.size = grind arith in
    let q = rw m at (c.measure.ensures _ _ _ (here-sort n.sound n.alone)) in
    declaring-full d n (sym (shape-knows _ K n.sound.sort) ∙ q.0) (rw c.value_of.ensures (name-place n)) (omega (arith, d.wires, c.if-size-wires.true))

pub overflow_cast-vector : goal.overflow_cast-vector
overflow_cast-vector g c =
    let p = c.requires.written_decls in
    let d = c.loop-kind.invariant _ _ _ (some-state c.args.from.wires) (knows-itself _) p.here p.filled refl in
    record { fits = omega (arith, d.wires) }

pub overflow_add-filled : goal.overflow_add-filled
overflow_add-filled g c =
    let p = c.requires.written_decls in
    let d = c.loop-kind.invariant _ _ _ (some-state c.args.from.wires) (knows-itself _) p.here p.filled refl in
    omega (arith, d.room, c.requires.from_bound.0, d.listed.short, d.listed.within)

pub loop-kind-smaller : goal.loop-kind-smaller
unfolding Sizes decl_w
loop-kind-smaller g c =
    let p = c.requires.written_decls in
    let d = c.loop-kind.invariant _ _ _ (some-state c.args.from.wires) (knows-itself _) p.here p.filled refl in
    let n = declaring-next d (sym c.among.ensures ∙ c.loop-kind-test.true) in
    let m : c.measure.result ≡ Ok c.in_ok-size.size = grind arith in
    let q = rw m at (c.measure.ensures _ _ _ (here-sort n.sound n.alone)) in
    omega (arith, q.1, n.alone.within, n.some)

pub loop-kind-preserved : goal.loop-kind-preserved
unfolding Sizes decl_w
loop-kind-preserved g c ρ ds σ s K h f e =
    let d = c.loop-kind.invariant ρ ds σ s K h f e in
    let n = declaring-next d (sym c.among.ensures ∙ c.loop-kind-test.true) in
    let m : c.measure.result ≡ Ok c.in_ok-size.size = grind arith in
    let q = rw m at (c.measure.ensures _ _ _ (here-sort n.sound n.alone)) in
    let x : SFits w32 c.in_ok-size.size.low = search rules in
    declaring-on d n (sym (shape-knows _ K n.sound.sort) ∙ q.0) (omega (arith, d.wires, c.if-size-wires.false)) q.1 (rw (to_z-of_z {w = w32} x) at c.keep.ensures) refl refl

pub returns : goal.returns
returns g c ρ ds σ s K h f e = declaring-end (c.loop-kind.invariant ρ ds σ s K h f e) (sym c.among.ensures ∙ c.loop-kind-test.false)
