use Prim.Native.Nat.{◌-◌}
use Rattle.frames.specs.Ports.{Port, HerePorts, Offered, Tying}
use Rattle.frames.specs.Stands.{Knows, bases, lens, lows}
use Rattle.rules.specs.Values.{Env}
use mathlib.Core.List.{List}
use mathlib.Core.Path.{◌≡◌}
use Rattle.frames.proofs.tie.Given as goal

abbrev pub invariant-loop-at : goal.invariant-loop-at
invariant-loop-at l =
    ((ρ : Env) (xs : List Port) → Knows l.values ρ → HerePorts l.tape l.at l.end xs → Offered l.to (lens l.initial.names) xs
    → Tying ρ l.tape l.at l.end l.to xs (lens l.initial.names) (lows l.initial.names) l.next l.filled (lows l.names))
    × (bases l.names ≡ bases l.initial.names) × (lens l.names ≡ lens l.initial.names)

abbrev pub decreases-loop-at : goal.decreases-loop-at
decreases-loop-at l = l.end - l.next
