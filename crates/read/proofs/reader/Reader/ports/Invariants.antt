use Rattle.std.proofs.Common.{ℕ, ◌+◌, ◌-◌, ◌≤◌, List, ◌∷◌}
use Rattle.rules.specs.Flat.{ports_text}
use Rattle.read.specs.Ahead.{Ahead}
use Rattle.read.proofs.reader.Reader.ports.Given as goal

-- the first k of the n ports are passed
abbrev pub Far : List ℕ → ℕ → List ℕ → ℕ → Type 0
Far t s u k = (n : ℕ) (ps : List (List ℕ)) → n ≤ 1536 → Ahead t (ports_text s n ∷ ps) → (k ≤ n) × Ahead u (ports_text (s + k) (n - k) ∷ ps)

abbrev pub invariant-loop-k : goal.invariant-loop-k
invariant-loop-k l = Far l.initial.self.rest.now l.s l.self.rest.now l.k
