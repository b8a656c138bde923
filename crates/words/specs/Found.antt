-- A word that is looked for among others, which are held by references. Assumes nothing.
use Rattle.std.specs.Prelude.{Option, ℕ, List, eqb}
use Rattle.std.specs.List.{position}
use Rattle.std.specs.Cmp.Lexicographic.{pointwise}
use denote.Ref.{Bor}

-- which of the words it is, counted from 0
unfoldable pub place : List ℕ → List (Bor (List ℕ)) → Option ℕ
place w vs = position (λ v. pointwise eqb w v.now) vs
