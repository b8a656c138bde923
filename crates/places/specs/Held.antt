-- A resolved program on the tape. Assumes nothing.
use Rattle.std.specs.Prelude.{◌≡◌, ℕ, ◌≤◌, List, length}
use Rattle.rules.specs.Syntax.{Program}
use Rattle.rules.proofs.Laws.Spelt.{All}
use Rattle.rules.proofs.Laws.Numbered.{NumberedBlock}
use Rattle.rules.proofs.Laws.Scoped.{Scoped}
use Rattle.tape.specs.Resolved.{resolved_tape}
use Rattle.tape.specs.Lies.{Lies}

-- the first `end` words of the tape t are those of the program P, which the text s is
pub record Held (s t : List ℕ) (end : ℕ) (P : Program) : Type 0 where
  pub lies : Lies t 0 (resolved_tape P)
  pub size : end ≡ length (resolved_tape P)
  pub short : end ≤ 16384
  pub numbered : All (NumberedBlock s) P.blocks
  pub many : length P.blocks ≤ 64
  pub scoped : Scoped P
  pub few : length s ≤ 16384

-- they are those of some program
pub record Resolved (t : List ℕ) (end : ℕ) : Type 0 where
  pub text : List ℕ
  pub program : Program
  pub held : Held text t end program
