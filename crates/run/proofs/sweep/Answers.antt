use Rattle.std.proofs.Common.{◌<◌, ◌≤◌, length}
use Rattle.rules.specs.Netlist.{gates}
use Rattle.run.specs.Going.{same}
use Rattle.run.specs.Visits.{visited, sweep-more}
use mathlib.Core.Path.{refl, ◌∙◌}
use native.Mathlib.Omega.{arith}
use Rattle.run.proofs.sweep.Goals as goal

pub loop-i-init : goal.loop-i-init
loop-i-init c = (refl, λ ins ok g. (g, same (λ j h. absurd (omega arith))))

pub loop-i-preserved : goal.loop-i-preserved
loop-i-preserved c = (
  c.visit-changed.auto.values ∙ c.loop-i.invariant.0,
  λ ins ok g0.
      let s = c.loop-i.invariant.1 ins ok g0 in
      let long : 1536 ≤ length c.loop-i.values = omega (arith, c.loop-i.invariant.0, c.requires) in
      let within : c.loop-i.i < gates c.args.net.words.now = omega (arith, c.loop-i-test.true) in (
        visited _ c.args.net.well_formed ins ok long within s.0 c.visit-changed.ensures,
        sweep-more _ c.args.net.well_formed ins ok long within s.1 c.visit-changed.ensures,
      ),
)
