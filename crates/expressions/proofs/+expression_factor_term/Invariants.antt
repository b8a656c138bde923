use Prim.Native.Nat.{◌+◌, ◌-◌, ◌*◌}
use Rattle.marks.specs.Laws.Chains.{Going}
use Rattle.marks.specs.Room.{Spends}
use Rattle.rules.specs.Grammar.{is_product, is_sum, chain, expression_of, factor as factor_at}
use Rattle.std.specs.Prelude.{Ok}
use lib.ListN.{length}
use mathlib.Core.List.{List}
use mathlib.Core.Path.{◌≡◌}
use Prim.Native.Nat.{ℕ}
use Rattle.expressions.proofs.+expression_factor_term.Given as goal

abbrev pub decreases-expression : goal.decreases-expression
decreases-expression l = l.left * 3 + 2

abbrev pub decreases-factor : goal.decreases-factor
decreases-factor l = l.left * 3

abbrev pub decreases-term : goal.decreases-term
decreases-term l = l.left * 3 + 1

abbrev pub invariant-expression-loop-next : goal.invariant-expression-loop-next
invariant-expression-loop-next l =
    ((t : List ℕ) → Going is_sum (chain l.text is_product (factor_at l.text l.left)) l.text (expression_of l.text (factor_at l.text l.left) l.at) l.fn.head t l.to l.initial.tape l.initial.read.next l.initial.read.end → Going is_sum (chain l.text is_product (factor_at l.text l.left)) l.text (expression_of l.text (factor_at l.text l.left) l.at) l.fn.head t l.to l.tape l.read.next l.read.end)
    × (length l.tape ≡ length l.initial.tape) × Spends 1 0 (length l.text) l.at l.to (Ok l.read) × (l.read.names ≡ 0)

abbrev pub decreases-expression-loop-next : goal.decreases-expression-loop-next
decreases-expression-loop-next l = length l.text - l.read.next

abbrev pub invariant-term-loop-next : goal.invariant-term-loop-next
invariant-term-loop-next l =
    ((t : List ℕ) → Going is_product (factor_at l.text l.left) l.text (chain l.text is_product (factor_at l.text l.left) l.at) l.fn.head t l.to l.initial.tape l.initial.read.next l.initial.read.end → Going is_product (factor_at l.text l.left) l.text (chain l.text is_product (factor_at l.text l.left) l.at) l.fn.head t l.to l.tape l.read.next l.read.end)
    × (length l.tape ≡ length l.initial.tape) × Spends 1 0 (length l.text) l.at l.to (Ok l.read) × (l.read.names ≡ 0)

abbrev pub decreases-term-loop-next : goal.decreases-term-loop-next
decreases-term-loop-next l = length l.text - l.read.next
