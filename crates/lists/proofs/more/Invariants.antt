use Prim.Native.Nat.{◌-◌}
use Rattle.marks.specs.Room.{Spends}
use Rattle.rules.specs.declared.Refusal.{Refusal}
use Rattle.std.specs.Prelude.{Ok, Result}
use Rattle.tape.specs.declared.Read.{Read}
use Prim.Native.Nat.{ℕ}
use lib.ListN.{length}
use mathlib.Core.List.{List}
use mathlib.Core.Path.{◌≡◌}
use Rattle.lists.proofs.more.Given as goal

abbrev pub invariant-loop-next : goal.invariant-loop-next
invariant-loop-next g l =
    ((v : List ℕ) (r : Result Read Refusal) → g.I.Item.lists l.item l.text l.tape l.read v r → g.I.Item.lists l.item l.text l.initial.tape l.fn.before v r) × (length l.tape ≡ length l.initial.tape) × Spends 0 0 (length l.text) l.fn.before.next l.fn.before.end (Ok l.read)

abbrev pub decreases-loop-next : goal.decreases-loop-next
decreases-loop-next g l = length l.text - l.read.next
