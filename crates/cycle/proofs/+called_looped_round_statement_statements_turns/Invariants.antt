use mathlib.Core.Path.{◌≡◌}
use Prim.Native.Nat.{◌+◌, ◌-◌, ◌*◌, ◌≤◌}
use lib.ListN.{length}
use lib.IntN.{pos, ◌+ℤ◌}
use Rattle.rules.specs.Syntax.{Stmts, Callee, Program}
use Rattle.rules.specs.Values.{Env}
use Rattle.rules.specs.Frames.{Frame as Names}
use Rattle.rules.specs.Unfold.{Range, State}
use Rattle.cycle.specs.Task.{Task, Going}
use Rattle.cycle.specs.Rounds.{Turning}
use Prim.Native.Nat.{ℕ}
use Rattle.cycle.proofs.+called_looped_round_statement_statements_turns.Given as goal

abbrev pub decreases-called : goal.decreases-called
decreases-called l = l.within.now.left * 268435456 + 4 * (l.call.words.end - l.call.words.at) + 1

abbrev pub decreases-looped : goal.decreases-looped
decreases-looped l = l.within.now.left * 268435456 + 4 * (l.it.words.end - l.it.words.at) + 1

abbrev pub decreases-round : goal.decreases-round
decreases-round l = l.within.now.left * 268435456 + 4 * (l.body.end - l.body.at) + 4

abbrev pub decreases-statement : goal.decreases-statement
decreases-statement l = l.within.now.left * 268435456 + 4 * (l.words.end - l.words.at) + 2

abbrev pub decreases-statements : goal.decreases-statements
decreases-statements l = l.within.now.left * 268435456 + 4 * (l.body.end - l.body.at) + 3

abbrev pub decreases-turns : goal.decreases-turns
decreases-turns l = l.within.now.left * 268435456 + 4 * (l.body.end - l.body.at) + 5

abbrev pub invariant-statements-loop-at : goal.invariant-statements-loop-at
invariant-statements-loop-at l =
    (length l.net ≡ length l.initial.net) × (l.body.at ≤ l.at) × ((len : ℕ) (P : Program) (c : Stmts ℕ Callee) (ρ : Env) (σ : Names Range) (v : State)
    → Task len P l.program.tape.now l.program.places.now l.program.last l.body.at l.body.end l.within.frame l.fn.counts l.initial.net l.initial.marks c ρ σ v
    → Going l.program.inputs l.within.left len P l.program.tape.now l.program.places.now l.program.last l.body.end l.within.frame c ρ σ v l.at l.so_far l.net l.marks)

abbrev pub decreases-statements-loop-at : goal.decreases-statements-loop-at
decreases-statements-loop-at l = l.body.end - l.at

abbrev pub invariant-turns-loop-k : goal.invariant-turns-loop-k
invariant-turns-loop-k l =
    (length l.net ≡ length l.initial.net) × ((len : ℕ) (P : Program) (c : Stmts ℕ Callee) (ρ : Env) (σ : Names Range) (u : State)
    → Task len P l.program.tape.now l.program.places.now l.program.last l.body.at l.body.end l.within.frame l.fn.counts l.initial.net l.initial.marks c ρ σ u
    → Turning l.program.inputs l.within.left len P l.program.tape.now l.program.places.now l.program.last l.body.at l.body.end l.within.frame l.each.index l.each.place c ρ σ u l.each.first l.each.count l.k (l.each.first +ℤ pos l.k) l.so_far l.net l.marks)
