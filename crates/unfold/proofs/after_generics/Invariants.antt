use Prim.Native.Nat.{ℕ, ◌+◌, ◌<◌}
use Rattle.frames.specs.Runs.{Going}
use Rattle.rules.specs.Outcome.{ok}
use Rattle.rules.specs.Syntax.{Name, Block, Callee}
use Rattle.tape.specs.Encoding.{generic_w}
use Rattle.tape.specs.Layout.{name_w}
use Rattle.unfold.specs.Header.{HereBlock}
use mathlib.Core.List.{List}
use Rattle.unfold.proofs.after_generics.Given as goal

abbrev pub invariant-loop-i : goal.invariant-loop-i
invariant-loop-i l =
    (B : Block ℕ Callee) → HereBlock l.tape l.at l.end B → (found : List Name) × (k : ℕ) × Going (λ n. ok n) generic_w (λ n. name_w n < 33554432) l.tape (l.at + 1) l.end 10 10 B.generics l.i k found
