-- What each kind counts and makes. Assumes nothing.
use mathlib.Core.Path.{◌≡◌, refl, sym, ap}
use mathlib.Core.Bool.{Bool, true, false, cond}
use mathlib.Core.List.{List, [], ◌∷◌}
use Prim.Native.Nat.{ℕ, zero, suc, ◌+◌, ◌-◌, ◌≤◌, ◌<◌}
use native.Mathlib.Omega.{arith}
use lib.ListN.{get_or, get_or-eq_default}
use lib.Dec.{eqb}
use Rattle.rules.specs.Primitives.{Primitive, table, primitive, inputs_of}
use Rattle.rules.specs.Meaning.{Signal, dark, makes}
use Rattle.rules.specs.Run.{to_byte, from_byte}

pub inputs-one : (k : ℕ) → k < 2 → 1 ≡ inputs_of k
unfolding primitive
inputs-one zero h = refl
inputs-one (suc zero) h = refl
inputs-one (suc (suc k)) h = absurd (omega arith)

pub inputs-two : (k : ℕ) → 2 ≤ k → k < 7 → 2 ≡ inputs_of k
unfolding primitive
inputs-two zero g h = absurd (omega arith)
inputs-two (suc zero) g h = absurd (omega arith)
inputs-two (suc (suc zero)) g h = refl
inputs-two (suc (suc (suc zero))) g h = refl
inputs-two (suc (suc (suc (suc zero)))) g h = refl
inputs-two (suc (suc (suc (suc (suc zero))))) g h = refl
inputs-two (suc (suc (suc (suc (suc (suc zero)))))) g h = refl
inputs-two (suc (suc (suc (suc (suc (suc (suc k))))))) g h = absurd (omega arith)

pub inputs-none : (k : ℕ) → 7 ≤ k → (k ≡ 7 → ⊥) → 0 ≡ inputs_of k
unfolding primitive
inputs-none k g h = go (k - 8) (omega arith)
  where
    go : (j : ℕ) → k ≡ 8 + j → 0 ≡ inputs_of k
    go zero e = rw e
    go (suc zero) e = rw e
    go (suc (suc j)) e = sym (ap (λ (p : Primitive). p.inputs) (get_or-eq_default table _ {n = k} (omega arith)))

past : (n k : ℕ) → n ≤ k → (k ≡ n → ⊥) → suc n ≤ k
past n k h g = omega arith

past-seven : (k : ℕ) → ((((((((Unit {0} × (k ≡ 0 → ⊥)) × (k ≡ 1 → ⊥)) × (k ≡ 2 → ⊥)) × (k ≡ 3 → ⊥)) × (k ≡ 4 → ⊥)) × (k ≡ 5 → ⊥)) × (k ≡ 6 → ⊥)) × (k ≡ 7 → ⊥)) → 8 ≤ k
past-seven k h =
    past 7 k (past 6 k (past 5 k (past 4 k (past 3 k (past 2 k (past 1 k (past 0 k (omega arith)
    h.0.0.0.0.0.0.0.1) h.0.0.0.0.0.0.1) h.0.0.0.0.0.1) h.0.0.0.0.1) h.0.0.0.1) h.0.0.1) h.0.1) h.1

-- 8, or past the table: nothing but 0 is made
bit-none : (k : ℕ) (is : List Signal) → 8 ≤ k → (k ≡ 9 → ⊥) → 0 ≡ to_byte (makes k is)
unfolding primitive to_byte makes Signal
bit-none k is g h = go (k - 8) (omega arith)
  where
    go : (j : ℕ) → k ≡ 8 + j → 0 ≡ to_byte (makes k is)
    go zero e = rw e
    go (suc zero) e = absurd (h (omega arith))
    go (suc (suc j)) e = sym (ap (λ (p : Primitive). to_byte (p.output (get_or is 0 dark) (get_or is 1 dark) (get_or is 2 dark))) (get_or-eq_default table _ {n = k} (omega arith)))

-- v where the byte c stands for 1, else u
abbrev pub chosen_of : ℕ → ℕ → ℕ → ℕ
chosen_of c u v = cond (eqb c 1) v u

abbrev pub given : ℕ → ℕ → ℕ → List Signal
given a b c = from_byte a ∷ from_byte b ∷ from_byte c ∷ []

-- a fact of three bits, by their eight cases
by_bits : (P : Bool → Bool → Bool → Type 0) → P false false false → P false false true → P false true false → P false true true
    → P true false false → P true false true → P true true false → P true true true → (x y z : Bool) → P x y z
by_bits P a b c d e f g h false false false = a
by_bits P a b c d e f g h false false true = b
by_bits P a b c d e f g h false true false = c
by_bits P a b c d e f g h false true true = d
by_bits P a b c d e f g h true false false = e
by_bits P a b c d e f g h true false true = f
by_bits P a b c d e f g h true true false = g
by_bits P a b c d e f g h true true true = h

bit-connect : (a b c : ℕ) → chosen_of a 0 1 ≡ to_byte (makes 0 (given a b c))
unfolding primitive to_byte from_byte makes Signal
bit-connect a b c = by_bits (λ x y z. cond x 1 0 ≡ to_byte (makes 0 (x ∷ y ∷ z ∷ []))) refl refl refl refl refl refl refl refl (eqb a 1) (eqb b 1) (eqb c 1)

bit_not : (a b c : ℕ) → chosen_of a 1 0 ≡ to_byte (makes 1 (given a b c))
unfolding primitive to_byte from_byte makes Signal
bit_not a b c = by_bits (λ x y z. cond x 0 1 ≡ to_byte (makes 1 (x ∷ y ∷ z ∷ []))) refl refl refl refl refl refl refl refl (eqb a 1) (eqb b 1) (eqb c 1)

bit_and : (a b c : ℕ) → chosen_of a 0 (chosen_of b 0 1) ≡ to_byte (makes 2 (given a b c))
unfolding primitive to_byte from_byte makes Signal
bit_and a b c = by_bits (λ x y z. cond x (cond y 1 0) 0 ≡ to_byte (makes 2 (x ∷ y ∷ z ∷ []))) refl refl refl refl refl refl refl refl (eqb a 1) (eqb b 1) (eqb c 1)

bit_or : (a b c : ℕ) → chosen_of a (chosen_of b 0 1) 1 ≡ to_byte (makes 3 (given a b c))
unfolding primitive to_byte from_byte makes Signal
bit_or a b c = by_bits (λ x y z. cond x 1 (cond y 1 0) ≡ to_byte (makes 3 (x ∷ y ∷ z ∷ []))) refl refl refl refl refl refl refl refl (eqb a 1) (eqb b 1) (eqb c 1)

bit_xor : (a b c : ℕ) → chosen_of a (chosen_of b 0 1) (chosen_of b 1 0) ≡ to_byte (makes 4 (given a b c))
unfolding primitive to_byte from_byte makes Signal
bit_xor a b c = by_bits (λ x y z. cond x (cond y 0 1) (cond y 1 0) ≡ to_byte (makes 4 (x ∷ y ∷ z ∷ []))) refl refl refl refl refl refl refl refl (eqb a 1) (eqb b 1) (eqb c 1)

bit-nand : (a b c : ℕ) → chosen_of a 1 (chosen_of b 1 0) ≡ to_byte (makes 5 (given a b c))
unfolding primitive to_byte from_byte makes Signal
bit-nand a b c = by_bits (λ x y z. cond x (cond y 0 1) 1 ≡ to_byte (makes 5 (x ∷ y ∷ z ∷ []))) refl refl refl refl refl refl refl refl (eqb a 1) (eqb b 1) (eqb c 1)

bit-nor : (a b c : ℕ) → chosen_of a (chosen_of b 1 0) 0 ≡ to_byte (makes 6 (given a b c))
unfolding primitive to_byte from_byte makes Signal
bit-nor a b c = by_bits (λ x y z. cond x 0 (cond y 0 1) ≡ to_byte (makes 6 (x ∷ y ∷ z ∷ []))) refl refl refl refl refl refl refl refl (eqb a 1) (eqb b 1) (eqb c 1)

bit-mux : (a b c : ℕ) → chosen_of a (chosen_of b 0 1) (chosen_of c 0 1) ≡ to_byte (makes 7 (given a b c))
unfolding primitive to_byte from_byte makes Signal
bit-mux a b c = by_bits (λ x y z. cond x (cond z 1 0) (cond y 1 0) ≡ to_byte (makes 7 (x ∷ y ∷ z ∷ []))) refl refl refl refl refl refl refl refl (eqb a 1) (eqb b 1) (eqb c 1)

bit-one : (is : List Signal) → 1 ≡ to_byte (makes 9 is)
unfolding primitive to_byte makes Signal
bit-one is = refl

-- ---- what each arm of the match returns

module _ (k a b c : ℕ) {r : ℕ} where
  pub of-connect : k ≡ 0 → r ≡ chosen_of a 0 1 → r ≡ to_byte (makes k (given a b c))
  of-connect e f = rw (e, f) (bit-connect a b c)

  pub of-not : k ≡ 1 → r ≡ chosen_of a 1 0 → r ≡ to_byte (makes k (given a b c))
  of-not e f = rw (e, f) (bit_not a b c)

  pub of_and : {y : ℕ} → k ≡ 2 → y ≡ chosen_of b 0 1 → r ≡ chosen_of a 0 y → r ≡ to_byte (makes k (given a b c))
  of_and e f g = rw (e, g, f) (bit_and a b c)

  pub of_or : {y : ℕ} → k ≡ 3 → y ≡ chosen_of b 0 1 → r ≡ chosen_of a y 1 → r ≡ to_byte (makes k (given a b c))
  of_or e f g = rw (e, g, f) (bit_or a b c)

  pub of_xor : {y z : ℕ} → k ≡ 4 → y ≡ chosen_of b 0 1 → z ≡ chosen_of b 1 0 → r ≡ chosen_of a y z → r ≡ to_byte (makes k (given a b c))
  of_xor e f g h = rw (e, h, f, g) (bit_xor a b c)

  pub of-nand : {y : ℕ} → k ≡ 5 → y ≡ chosen_of b 1 0 → r ≡ chosen_of a 1 y → r ≡ to_byte (makes k (given a b c))
  of-nand e f g = rw (e, g, f) (bit-nand a b c)

  pub of-nor : {y : ℕ} → k ≡ 6 → y ≡ chosen_of b 1 0 → r ≡ chosen_of a y 0 → r ≡ to_byte (makes k (given a b c))
  of-nor e f g = rw (e, g, f) (bit-nor a b c)

  pub of-mux : {y z : ℕ} → k ≡ 7 → y ≡ chosen_of b 0 1 → z ≡ chosen_of c 0 1 → r ≡ chosen_of a y z → r ≡ to_byte (makes k (given a b c))
  of-mux e f g h = rw (e, h, f, g) (bit-mux a b c)

module _ (k a b c : ℕ) where
  pub of_one : k ≡ 9 → 1 ≡ to_byte (makes k (given a b c))
  of_one e = rw e (bit-one (given a b c))

  -- zero, and a number past the table
  pub of-rest : (((((((((Unit {0} × (k ≡ 0 → ⊥)) × (k ≡ 1 → ⊥)) × (k ≡ 2 → ⊥)) × (k ≡ 3 → ⊥)) × (k ≡ 4 → ⊥)) × (k ≡ 5 → ⊥)) × (k ≡ 6 → ⊥)) × (k ≡ 7 → ⊥)) × (k ≡ 9 → ⊥)) → 0 ≡ to_byte (makes k (given a b c))
  of-rest (h, n9) = bit-none k (given a b c) (past-seven k h) n9

-- a number past the table has no name
pub no_name : (k : ℕ) → ((((((((((Unit {0} × (k ≡ 0 → ⊥)) × (k ≡ 1 → ⊥)) × (k ≡ 2 → ⊥)) × (k ≡ 3 → ⊥)) × (k ≡ 4 → ⊥)) × (k ≡ 5 → ⊥)) × (k ≡ 6 → ⊥)) × (k ≡ 7 → ⊥)) × (k ≡ 8 → ⊥)) × (k ≡ 9 → ⊥)) → [] ≡ (primitive k).name
unfolding primitive
no_name k ((h, n8), n9) =
    let g : 10 ≤ k = past 9 k (past 8 k (past-seven k h) n8) n9 in
    rw (get_or-eq_default table _ {n = k} g) refl
