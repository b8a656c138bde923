-- A resolved program on the tape: each block lies where a table of places says. Assumes nothing.
use Rattle.std.specs.Prelude.{◌≡◌, ℕ, ◌+◌, ◌≤◌, List, length, get_or}
use Rattle.rules.specs.Outcome.{ok, nth}
use Rattle.rules.specs.Syntax.{Block, Callee, Program}
use Rattle.rules.proofs.Laws.Scoped.{Scoped}
use Rattle.unfold.specs.Header.{HereBlock, body_w, after_locals}
use Rattle.unfold.specs.Statements.{HereStmts}

-- the first word of a body, where its block lies at `at`, and the place after its last
abbrev pub body_from : ℕ → Block ℕ Callee → ℕ
body_from at B = after_locals at B + 1

abbrev pub body_to : ℕ → Block ℕ Callee → ℕ
body_to at B = body_from at B + length (body_w B.body)

-- every block of P, which a text of len bytes is, lies on the tape t before `last`, where the table says
pub record Shelf (len : ℕ) (P : Program) (t places : List ℕ) (last : ℕ) : Type 0 where
  pub block : (b : ℕ) (B : Block ℕ Callee) → nth 7 P.blocks b ≡ ok B → HereBlock t (get_or places b 0) last B
  pub body : (b : ℕ) (B : Block ℕ Callee) → nth 7 P.blocks b ≡ ok B → HereStmts len t (body_from (get_or places b 0) B) (body_to (get_or places b 0) B) B.body
  pub scoped : Scoped P
  pub many : length P.blocks ≤ 64
