-- The whole of flattening: from a text and the lengths of the lent buffers to number, place, steps and netlist words. Assumes nothing.
use Rattle.std.specs.Prelude.{ℕ, ◌-◌, ◌&&◌, List, ◌++◌, length, leb}
use Rattle.rules.specs.Text.{zeros}
use Rattle.rules.specs.Outcome.{Out, ok, refuse, ◌>>=◌, need}
use Rattle.rules.specs.Syntax.{Program}
use Rattle.rules.specs.Grammar.{grammar}
use Rattle.rules.specs.Resolve.{names}
use Rattle.rules.specs.Unfold.{Unfolded, unfold_main}

-- the program that a text is: 3, 4, 5, then 6, 7, 8, then 9
unfoldable pub program : List ℕ → Out Program
program text = do
  S ← grammar text
  names (length text) S

-- "Order: 1, 2. Then words from the front .. Then unfolding": a work table and a netlist of these lengths are lent
unfoldable pub flattened : List ℕ → ℕ → ℕ → Out Unfolded
flattened text work net = do
  _ ← need (leb 16384 work && leb 5124 net) 1
  _ ← need (leb (length text) 16384) 2
  P ← program text
  unfold_main P

-- what a caller sees: number, place, steps, and every word of the lent netlist
pub record Answer : Type 0 where
  pub number : ℕ
  pub place : ℕ
  pub steps : ℕ
  pub words : List ℕ

-- "What a success does not use of a result buffer is zero"; "Every refusal leaves all result buffers zero and returns 0 for all but its
-- number and place"
unfoldable pub answer : ℕ → Out Unfolded → Answer
answer net (ok u) = record { number = 0; place = 0; steps = u.steps; words = u.words ++ zeros (net - length u.words) }
answer net (refuse n p) = record { number = n; place = p; steps = 0; words = zeros net }

unfoldable pub flatten : List ℕ → ℕ → ℕ → Answer
flatten text work net = answer net (flattened text work net)
