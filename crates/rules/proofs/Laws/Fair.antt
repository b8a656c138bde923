-- Every reader is fair: from a place within the text it goes on within the text, never back, or refuses 3, 4 or 5 at a place within it.
-- Assumes nothing.
use Rattle.std.specs.Prelude.{ℕ, ◌≤◌, List, length}
use Rattle.rules.specs.Outcome.{Out, ok, refuse}
use Rattle.rules.specs.Readers.{Reader}
use Rattle.rules.specs.Grammar.{is_product, chain, factor, expression, declared, port, local, argument, statement, a_block, blocks}
use Rattle.rules.proofs.Laws.Sure.{Sure, on as sure-on, off as sure-off, sure-term, sure-factor, sure-expression, sure-declared, sure-port, sure-local, sure-argument, sure-statement, sure-a_block, sure-blocks}

pub data Fair (len at : ℕ) {A : Type 0} : Out (A × ℕ) → Type 0 where
  on : {a : A} {n : ℕ} → at ≤ n → n ≤ len → Fair len at (ok (a, n))
  off : {n p : ℕ} → 3 ≤ n → n ≤ 5 → p ≤ len → Fair len at (refuse n p)

pub fair-of : {A : Type 0} {P : A → Type 0} {len at : ℕ} {o : Out (A × ℕ)} → Sure len at P o → Fair len at o
fair-of (sure-on a b c) = on a b
fair-of (sure-off a b c) = off a b c

module _ (s : List ℕ) where
  -- a reader that is fair wherever it starts
  abbrev pub FairReader : {A : Type 0} → Reader A → Type 0
  FairReader r = (at : ℕ) → at ≤ length s → Fair (length s) at (r at)

  pub fair-factor : (left : ℕ) → FairReader (factor s left)
  fair-factor left at h = fair-of (sure-factor s left at h)

  pub fair-term : (left : ℕ) → FairReader (chain s is_product (factor s left))
  fair-term left at h = fair-of (sure-term s (factor s left) (sure-factor s left) at h)

  pub fair-expression : FairReader (expression s)
  fair-expression at h = fair-of (sure-expression s at h)

  pub fair-declared : (k : ℕ) → FairReader (declared s k)
  fair-declared k at h = fair-of (sure-declared s k at h)

  pub fair-port : (k p : ℕ) → FairReader (port s k p)
  fair-port k p at h = fair-of (sure-port s k p at h)

  pub fair-local : (k p : ℕ) → FairReader (local s k p)
  fair-local k p at h = fair-of (sure-local s k p at h)

  pub fair-argument : FairReader (argument s)
  fair-argument at h = fair-of (sure-argument s at h)

  pub fair-statement : (left : ℕ) → FairReader (statement s left)
  fair-statement left at h = fair-of (sure-statement s left at h)

  pub fair-a_block : (k p : ℕ) → p ≤ length s → FairReader (a_block s k p)
  fair-a_block k p l at h = fair-of (sure-a_block s k p l at h)

  pub fair-blocks : FairReader (blocks s)
  fair-blocks at h = fair-of (sure-blocks s at h)
