use Rattle.std.proofs.Common.{ℕ, ◌+◌, ◌-◌, ◌≤◌, List, ◌∷◌}
use Rattle.rules.specs.Text.{bytes}
use Rattle.rules.specs.Flat.{vars_text}
use Rattle.read.specs.Ahead.{Ahead}
use Rattle.read.proofs.reader.Reader.vars.Given as goal

-- the first k of the n lines are passed
abbrev pub Far : List ℕ → ℕ → List ℕ → ℕ → Type 0
Far t s u k = (n : ℕ) (ps : List (List ℕ)) → n ≤ 1536 → Ahead t (vars_text s n ∷ bytes "BEGIN\n" ∷ ps) → (k ≤ n) × Ahead u (vars_text (s + k) (n - k) ∷ bytes "BEGIN\n" ∷ ps)

abbrev pub invariant-loop-k : goal.invariant-loop-k
invariant-loop-k l = Far l.initial.self.rest.now l.s l.self.rest.now l.k
