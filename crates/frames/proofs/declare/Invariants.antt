use Prim.Native.Nat.{ℕ, ◌-◌}
use Rattle.frames.specs.Fresh.{Filled, HereDecls, Declaring}
use Rattle.frames.specs.Stands.{Knows}
use Rattle.rules.specs.Frames.{Frame as Names}
use Rattle.rules.specs.Syntax.{Decl}
use Rattle.rules.specs.Unfold.{Range, State}
use Rattle.rules.specs.Values.{Env}
use mathlib.Core.List.{List}
use mathlib.Core.Path.{◌≡◌}
use Rattle.frames.proofs.declare.Given as goal

abbrev pub invariant-loop-kind : goal.invariant-loop-kind
invariant-loop-kind g l =
    (ρ : Env) (ds : List (Decl ℕ)) (σ : Names Range) (s : State) → Knows l.values ρ → HereDecls l.tape l.fn.from.next l.end (g.K.Coded.code l.kind) ds → Filled σ l.fn.from.filled l.initial.names → s.next ≡ l.fn.from.wires
    → Declaring ρ l.tape l.fn.from.next l.end (g.K.Coded.code l.kind) l.fn.from.filled ds σ s l.next l.filled l.wires l.names

abbrev pub decreases-loop-kind : goal.decreases-loop-kind
decreases-loop-kind g l = l.end - l.next
