-- 01, "Primitives": the table of kinds. A kind's number is its row, counted from 0. Assumes nothing.
use Rattle.std.specs.Prelude.{ℕ, Bool, true, false, not, ◌&&◌, ◌||◌, cond, List, [], ◌∷◌, map, get_or}
use Prim.Native.String.{String}
use Rattle.std.specs.Bool.{beq}
use Rattle.rules.specs.Text.{bytes}

-- a row: the name, the number of inputs, and the output at the first inputs; the others are not looked at
pub record Primitive : Type 0 where
  pub name : List ℕ
  pub inputs : ℕ
  pub output : Bool → Bool → Bool → Bool

abbrev row : String → ℕ → (Bool → Bool → Bool → Bool) → Primitive
row name inputs output = record { name = bytes name; inputs = inputs; output = output }

abbrev pub table : List Primitive
table =
    row "connect" 1 (λ a b c. a)
    ∷ row "not" 1 (λ a b c. not a)
    ∷ row "and" 2 (λ a b c. a && b)
    ∷ row "or" 2 (λ a b c. a || b)
    ∷ row "xor" 2 (λ a b c. not (beq a b))
    ∷ row "nand" 2 (λ a b c. not (a && b))
    ∷ row "nor" 2 (λ a b c. not (a || b))
    -- mux [c,u,v]: u if c is 0, else v
    ∷ row "mux" 3 (λ c u v. cond c v u)
    ∷ row "zero" 0 (λ a b c. false)
    ∷ row "one" 0 (λ a b c. true)
    ∷ []

-- the row of a kind; past the table there is none
unfoldable pub primitive : ℕ → Primitive
primitive k = get_or table k (row "" 0 (λ a b c. false))

abbrev pub inputs_of : ℕ → ℕ
inputs_of k = (primitive k).inputs

abbrev pub primitive_names : List (List ℕ)
primitive_names = map (λ p. p.name) table
