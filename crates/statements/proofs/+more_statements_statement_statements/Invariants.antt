use Prim.Native.Nat.{◌+◌, ◌-◌, ◌*◌, ◌≤◌}
use Rattle.marks.specs.Laws.Lists.{Listing}
use Rattle.statements.specs.Rows.{statements-row}
use lib.ListN.{length}
use mathlib.Core.Path.{◌≡◌}
use Prim.Native.Nat.{ℕ}
use Rattle.statements.proofs.+more_statements_statement_statements.Given as goal

abbrev pub decreases-more_statements : goal.decreases-more_statements
decreases-more_statements l = l.left * 3 + 1

abbrev pub decreases-statement : goal.decreases-statement
decreases-statement l = l.left * 3

abbrev pub decreases-statements : goal.decreases-statements
decreases-statements l = l.left * 3 + 2

abbrev pub invariant-more_statements-loop-next : goal.invariant-more_statements-loop-next
invariant-more_statements-loop-next l =
    ((k : ℕ) × Listing (statements-row l.text l.left) l.initial.tape 1 l.at l.to l.tape k l.read.next l.read.end) × (length l.tape ≡ length l.initial.tape) × (l.at ≤ l.read.next) × (l.read.next ≤ length l.text) × (l.to ≤ l.read.end) × (2 * l.read.end + l.at ≤ 2 * l.to + l.read.next) × (l.read.names ≡ 0)

abbrev pub decreases-more_statements-loop-next : goal.decreases-more_statements-loop-next
decreases-more_statements-loop-next l = length l.text - l.read.next
