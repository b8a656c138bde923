use Prim.Native.Nat.{◌-◌, ◌≤◌}
use lib.ListN.{length}
use mathlib.Core.Path.{◌≡◌}
use Rattle.pebble.proofs.read_all.Given as goal

abbrev pub invariant-loop-have : goal.invariant-loop-have
invariant-loop-have l = (length l.text ≡ length l.initial.text) × (l.have ≤ length l.text)

abbrev pub decreases-loop-have : goal.decreases-loop-have
decreases-loop-have l = length l.text - l.have
