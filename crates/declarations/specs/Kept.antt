-- What the declarations of a block leave on the tape. Assumes nothing.
use Rattle.std.specs.Prelude.{◌≡◌, ℕ, ◌+◌, ◌≤◌, ◌<◌, Result, Ok, Err, List, ◌++◌}
use Rattle.rules.specs.Outcome.{ok, refuse}
use Rattle.rules.specs.Syntax.{vector}
use Rattle.rules.specs.Grammar.{Expr, vectored}
use Rattle.tape.specs.Layout.{name_w}
use Rattle.tape.specs.Encoding.{exp_w}
use Rattle.tape.specs.Written.{Wrote}
use Rattle.tape.specs.declared.Read.{Read}
use Rattle.rules.specs.Reasons.{number}
use Rattle.rules.specs.declared.Refusal.{Refusal}
use Rattle.marks.specs.declared.Spot.{Spot}

-- what was read is allowed, so there were fewer than `most` before it
abbrev pub Below : {A : Type 0} → ℕ → ℕ → Result A Refusal → Type 0
Below most k (Ok r) = k < most
Below most k (Err e) = Unit {0}

-- a name whose place and length fit a word of the tape
abbrev pub Fits : Spot → Type 0
Fits name = (name.place < 32768) × (name.place ≤ name.next) × (name.next ≤ name.place + 16)

-- the bounds of a vector
pub record Vectored (s : List ℕ) (at : ℕ) (t : List ℕ) (to : ℕ) (u : List ℕ) (n m c : ℕ) : Type 0 where
  pub low : Expr
  pub high : Expr
  pub reads : vectored s at ≡ ok (vector low high, n)
  pub wrote : Wrote t to (exp_w name_w 0 low ++ exp_w name_w 0 high) u m
  pub size : c ≡ 0

abbrev pub Vectors : List ℕ → ℕ → List ℕ → ℕ → List ℕ → Result Read Refusal → Type 0
Vectors s at t to u (Ok r) = Vectored s at t to u r.next r.end r.names
Vectors s at t to u (Err e) = vectored s at ≡ refuse (number e.reason) e.place
