-- What resolving the names of a tape answers and leaves. Assumes nothing.
use Rattle.std.specs.Prelude.{◌≡◌, List, ℕ, ◌≤◌, length, Result, Ok, Err}
use Rattle.rules.specs.Outcome.{ok, refuse}
use Rattle.rules.specs.Syntax.{Spelled, Program}
use Rattle.rules.specs.Resolve.{names}
use Rattle.rules.proofs.Laws.Spelt.{SpeltBlock, All}
use Rattle.tape.specs.Encoding.{tape_of}
use Rattle.tape.specs.Resolved.{resolved_tape}
use Rattle.tape.specs.Written.{put}
use Rattle.tape.specs.Lies.{Lies}
use Rattle.rules.specs.Reasons.{number}
use Rattle.rules.specs.declared.Refusal.{Refusal}

-- the first `end` words of the tape t are those of the program Bs, which the text s spells
pub record Holds (s t : List ℕ) (end : ℕ) (Bs : Spelled) : Type 0 where
  pub lies : Lies t 0 (tape_of Bs)
  pub size : end ≡ length (tape_of Bs)
  pub short : end ≤ 16384
  pub spelt : All (SpeltBlock s) Bs
  pub many : length Bs ≤ 64
  pub few : length s ≤ 16384

-- they are those of some program
pub record Readable (s t : List ℕ) (end : ℕ) : Type 0 where
  pub program : Spelled
  pub holds : Holds s t end program

-- the names are right, main is the block m, and the tape t, resolved, is u
pub record Right (s : List ℕ) (Bs : Spelled) (t u : List ℕ) (m : ℕ) : Type 0 where
  pub program : Program
  pub named : names (length s) Bs ≡ ok program
  pub main : program.main ≡ m
  pub tape : u ≡ put t 0 (resolved_tape program)

-- a refusal says nothing of the tape
abbrev pub Resolves : List ℕ → Spelled → List ℕ → List ℕ → Result ℕ Refusal → Type 0
Resolves s Bs t u (Ok m) = Right s Bs t u m
Resolves s Bs t u (Err e) = names (length s) Bs ≡ refuse (number e.reason) e.place
