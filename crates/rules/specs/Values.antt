-- The values of expressions and the sizes of types. "Values are signed; each subexpression must lie in -1,000,000..1,000,000" (10).
-- Assumes nothing.
use Rattle.std.specs.Prelude.{ℕ, zero, suc, cond, List, [], ◌∷◌, get_or, leb, eqb, ℤ, pos, negsuc, nat_abs, ◌+ℤ◌, ◌-ℤ◌, ◌*ℤ◌, neg_ℤ}
use Rattle.rules.specs.Outcome.{Out, ok, refuse, ◌>>=◌, need}
use Rattle.rules.specs.Syntax.{Op, plus, minus, times, Exp, number, name, neg, group, both, Sort, wire, vector, num}

-- the value of each generic and of each loop's index, by the number of its declaration
abbrev pub Env : Type 0
Env = ℕ → ℤ

-- the generics, which a block declares first
abbrev pub generics : List ℤ → Env
generics vs = λ j. get_or vs j (pos 0)

-- the same, where the index i has the value v
abbrev pub bound : Env → ℕ → ℤ → Env
bound ρ i v = λ j. cond (eqb i j) v (ρ j)

unfoldable pub ranged : ℤ → Out ℤ
ranged v = do
  _ ← need (leb (nat_abs v) 1000000) 10
  ok v

unfoldable pub apply : Op → ℤ → ℤ → ℤ
apply plus x y = x +ℤ y
apply minus x y = x -ℤ y
apply times x y = x *ℤ y

unfoldable pub eval : Env → Exp ℕ → Out ℤ
eval ρ (number n) = ranged (pos n)
eval ρ (name i) = ranged (ρ i)
eval ρ (neg e) = do
  x ← eval ρ e
  ranged (neg_ℤ x)
eval ρ (group e) = eval ρ e
eval ρ (both op d e) = do
  x ← eval ρ d
  y ← eval ρ e
  ranged (apply op x y)

unfoldable pub evals : Env → List (Exp ℕ) → Out (List ℤ)
evals ρ [] = ok []
evals ρ (e ∷ es) = do
  v ← eval ρ e
  vs ← evals ρ es
  ok (v ∷ vs)

-- "A loop with a > b does nothing; else its body is unfolded for a, a+1, .. b": how many rounds, from b - a
unfoldable pub rounds : ℤ → ℕ
rounds (pos k) = suc k
rounds (negsuc k) = zero

-- ---- types

-- the lowest index, and how many wires
pub record Shape : Type 0 where
  pub low : ℤ
  pub size : ℕ

-- "A vector (a..b), a >= b, holds a-b+1 wires": how many, from a - b, or 11
unfoldable pub width : ℤ → Out ℕ
width (pos k) = do
  _ ← need (leb (suc k) 256) 11
  ok (suc k)
width (negsuc k) = refuse 11 0

-- first bound, second bound, 11; a loop index takes no wire
unfoldable pub shape : Env → Sort ℕ → Out Shape
shape ρ wire = ok (record { low = pos 0; size = 1 })
shape ρ (vector a b) = do
  x ← eval ρ a
  y ← eval ρ b
  n ← width (x -ℤ y)
  ok (record { low = y; size = n })
shape ρ num = ok (record { low = pos 0; size = 0 })
