use Rattle.std.proofs.Common.{◌≡◌, refl, ℕ, List, get_or, sym, ap, ◌∙◌, rules, arith, Err, SFits, w32, to_z-of_z}
use Rattle.frames.specs.Lists.{Gathers, knows-itself}
use Rattle.frames.specs.Ports.{here-sort, tying-begin, tying-next, tying-place, tying-refused, tying-apart, tying-on, tying-end}
use Rattle.frames.specs.Stands.{shape-knows, no_vector, lens}
use Rattle.frames.specs.declared.Vector.{Vector}
use Rattle.std.proofs.Math.ListN.{get_or-map}
use Rattle.std.proofs.Math.Seq.{map-set, map-set_same}
use Rattle.tape.specs.Encoding.{decl_w}
use Rattle.values.specs.Sizes.{Sizes}
use Rattle.frames.proofs.tie.Goals as goal

len-at : (vs us : List Vector) (k : ℕ) → lens vs ≡ lens us → (get_or vs k no_vector).len ≡ get_or (lens us) k 0
len-at vs us k e = sym (get_or-map (λ (v : Vector). v.len) vs k no_vector) ∙ ap (λ l. get_or l k 0) e

pub loop-at-init : goal.loop-at-init
loop-at-init c = ((λ ρ xs K h o. tying-begin h o), refl, refl)

pub measure-requires : goal.measure-requires
measure-requires c =
    let p = c.requires in
    let d = c.loop-at.invariant.0 _ _ (knows-itself _) p.here p.offered in
    let n = tying-next d (sym c.among.ensures ∙ c.loop-at-test.true) in
    record { kind = _; value = _; sort = n.item.decl.sort; here = here-sort n.sound.decl n.alone }

pub returns-in_err-size-clause-gathers : goal.returns-in_err-size-clause-gathers
unfolding Sizes Gathers
returns-in_err-size-clause-gathers c ρ xs K h o =
    let d = c.loop-at.invariant.0 ρ xs K h o in
    let n = tying-next d (sym c.among.ensures ∙ c.loop-at-test.true) in
    let e : c.from_residual.result ≡ Err c.in_err-size.field-0.0 = grind arith in
    rw e (tying-refused d n (sym (shape-knows _ K n.sound.decl.sort) ∙ rw c.in_err-size.was at (c.measure.ensures _ _ _ (here-sort n.sound.decl n.alone))))

pub offset_bounds-names-filled : goal.offset_bounds-names-filled
offset_bounds-names-filled c =
    let p = c.requires in
    let d = c.loop-at.invariant.0 _ _ (knows-itself _) p.here p.offered in
    let r = tying-place d (tying-next d (sym c.among.ensures ∙ c.loop-at-test.true)) in
    search rules

pub bounds-names-filled : goal.bounds-names-filled
bounds-names-filled c =
    let p = c.requires in
    let d = c.loop-at.invariant.0 _ _ (knows-itself _) p.here p.offered in
    tying-place d (tying-next d (sym c.among.ensures ∙ c.loop-at-test.true))

pub returns-then-from-size-clause-gathers : goal.returns-then-from-size-clause-gathers
unfolding Sizes Gathers
returns-then-from-size-clause-gathers c ρ xs K h o =
    let d = c.loop-at.invariant.0 ρ xs K h o in
    let n = tying-next d (sym c.among.ensures ∙ c.loop-at-test.true) in
    let q = rw c.in_ok-size.was at (c.measure.ensures _ _ _ (here-sort n.sound.decl n.alone)) in
    tying-apart d n (sym (shape-knows _ K n.sound.decl.sort) ∙ q.0) (λ e. absurd (omega (arith, c.if-from-size.true, c.from.ensures, e, len-at _ _ c.loop-at.filled c.loop-at.invariant.2)))

pub offset_bounds-names-filled-in-loop-at : goal.offset_bounds-names-filled-in-loop-at
offset_bounds-names-filled-in-loop-at c =
    let p = c.requires in
    let d = c.loop-at.invariant.0 _ _ (knows-itself _) p.here p.offered in
    let r = tying-place d (tying-next d (sym c.among.ensures ∙ c.loop-at-test.true)) in
    search rules

pub bounds-names-filled-in-loop-at : goal.bounds-names-filled-in-loop-at
bounds-names-filled-in-loop-at c =
    let p = c.requires in
    let d = c.loop-at.invariant.0 _ _ (knows-itself _) p.here p.offered in
    tying-place d (tying-next d (sym c.among.ensures ∙ c.loop-at-test.true))

pub overflow_add-filled : goal.overflow_add-filled
overflow_add-filled c =
    let p = c.requires in
    let d = c.loop-at.invariant.0 _ _ (knows-itself _) p.here p.offered in
    let r = tying-place d (tying-next d (sym c.among.ensures ∙ c.loop-at-test.true)) in
    search rules

pub loop-at-smaller : goal.loop-at-smaller
unfolding Sizes decl_w
loop-at-smaller c =
    let p = c.requires in
    let d = c.loop-at.invariant.0 _ _ (knows-itself _) p.here p.offered in
    let n = tying-next d (sym c.among.ensures ∙ c.loop-at-test.true) in
    let q = rw c.in_ok-size.was at (c.measure.ensures _ _ _ (here-sort n.sound.decl n.alone)) in
    omega (arith, q.1, n.alone.within, n.some)

pub loop-at-preserved : goal.loop-at-preserved
unfolding Sizes decl_w
loop-at-preserved c = (
  (λ ρ xs K h o.
      let d = c.loop-at.invariant.0 ρ xs K h o in
      let n = tying-next d (sym c.among.ensures ∙ c.loop-at-test.true) in
      let q = rw c.in_ok-size.was at (c.measure.ensures _ _ _ (here-sort n.sound.decl n.alone)) in
      let x : SFits w32 c.in_ok-size.size.low = search rules in
      tying-on d n (sym (shape-knows _ K n.sound.decl.sort) ∙ q.0) (omega (arith, c.if-from-size.false, c.from.ensures, len-at _ _ c.loop-at.filled c.loop-at.invariant.2)) q.1 (map-set _ _ _ _ ∙ rw (to_z-of_z {w = w32} x) refl) refl),
  map-set_same (λ (v : Vector). v.base) _ _ _ no_vector refl ∙ c.loop-at.invariant.1,
  map-set_same (λ (v : Vector). v.len) _ _ _ no_vector refl ∙ c.loop-at.invariant.2,
)

pub returns-clause-gathers : goal.returns-clause-gathers
returns-clause-gathers c ρ xs K h o = tying-end (c.loop-at.invariant.0 ρ xs K h o) (sym c.among.ensures ∙ c.loop-at-test.false)
