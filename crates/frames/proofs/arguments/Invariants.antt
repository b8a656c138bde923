use Prim.Native.Nat.{ℕ, ◌-◌}
use Rattle.frames.specs.Lists.{HereArgs, Drawing}
use Rattle.frames.specs.Stands.{Stands, bases, lens, lows}
use Rattle.rules.specs.Frames.{Frame as Names}
use Rattle.rules.specs.Syntax.{Arg}
use Rattle.rules.specs.Unfold.{Range}
use Rattle.rules.specs.Values.{Env}
use lib.ListN.{length}
use mathlib.Core.List.{List}
use mathlib.Core.Path.{◌≡◌}
use Rattle.frames.proofs.arguments.Given as goal

abbrev pub invariant-loop-next : goal.invariant-loop-next
invariant-loop-next l =
    ((ρ : Env) (σ : Names Range) (ins outs : List (Arg ℕ)) → Stands l.frame ρ σ → HereArgs l.tape l.at l.end (length σ) ins outs
    → Drawing ρ σ l.tape l.at l.end l.to ins outs (bases l.initial.names) (lens l.initial.names) l.next l.filled (bases l.names) (lens l.names))
    × (lows l.names ≡ lows l.initial.names)

abbrev pub decreases-loop-next : goal.decreases-loop-next
decreases-loop-next l = l.end - l.next
