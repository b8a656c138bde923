-- What the names of one use of a block stand for. Written once, over any cells: wires for the unfolding, bits for the meaning.
-- Assumes nothing.
use Rattle.std.specs.Prelude.{ℕ, suc, Bool, true, ◌&&◌, List, [], ◌∷◌, map, length, ltb, eqb, ℤ, pos, negsuc, ◌-ℤ◌}
use Rattle.rules.specs.Outcome.{Out, ok, refuse, ◌>>=◌, need, nth}
use Rattle.rules.specs.Primitives.{table, inputs_of}
use Rattle.rules.specs.Syntax.{Name, Arg, whole, part, Decl}
use Rattle.rules.specs.Values.{Env, eval, shape}

-- Cells of a kind A: how many an A holds, the one at a place, alone, counted from the lowest, and no cells at all.
pub record Cells (A : Type 0) : Type 0 where
  pub size : A → ℕ
  pub one : A → ℕ → A
  pub none : A

-- what a name stands for: its cells, and the index of the lowest
pub record Sig (A : Type 0) : Type 0 where
  pub low : ℤ
  pub cells : A

-- what each declared name of a block stands for, by its number
abbrev pub Frame : Type 0 → Type 0
Frame A = List (Sig A)

-- how far a subscript lies above the lowest index, or 12
unfoldable pub offset : ℤ → Out ℕ
offset (pos k) = ok k
offset (negsuc k) = refuse 12 0

module _ {A : Type 0} (C : Cells A) where
  -- a generic has no cells
  unfoldable pub blanks : List Name → Frame A
  blanks ns = map (λ n. record { low = pos 0; cells = C.none }) ns

  module _ (ρ : Env) where
    -- the cells of an argument: its subscript's value (10), then 12. A resolved program names declarations that there are (7)
    unfoldable pub resolve : Frame A → Arg ℕ → Out A
    resolve σ (whole k) = do
      x ← nth 7 σ k
      ok x.cells
    resolve σ (part k e) = do
      x ← nth 7 σ k
      v ← eval ρ e
      i ← offset (v -ℤ x.low)
      _ ← need (ltb i (C.size x.cells)) 12
      ok (C.one x.cells i)

    -- "every subscript left to right"
    unfoldable pub resolves : Frame A → List (Arg ℕ) → Out (List A)
    resolves σ [] = ok []
    resolves σ (a ∷ rest) = do
      c ← resolve σ a
      cs ← resolves σ rest
      ok (c ∷ cs)

    -- each port tied to the cells given, lowest to lowest: its bounds (10, 11), then 13. A resolved program gives as many as there are (8)
    unfoldable pub tie : List (Decl ℕ) → List A → Out (Frame A)
    tie [] [] = ok []
    tie [] (c ∷ cs) = refuse 8 0
    tie (d ∷ ds) [] = refuse 8 0
    tie (d ∷ ds) (c ∷ cs) = do
      h ← shape ρ d.sort
      _ ← need (eqb h.size (C.size c)) 13
      r ← tie ds cs
      ok (record { low = h.low; cells = c } ∷ r)

  -- each holds one cell
  unfoldable pub singles : List A → Bool
  singles [] = true
  singles (c ∷ cs) = eqb (C.size c) 1 && singles cs

  -- the ends of a primitive: as many single cells as it has inputs, and one for its output. A resolved
  -- program gives no other (8); the meaning asks the same
  unfoldable pub ends : ℕ → List A → Out (Unit {0})
  ends k cs = need (ltb k (length table) && eqb (length cs) (suc (inputs_of k)) && singles cs) 8
