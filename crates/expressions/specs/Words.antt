-- What closes a bracket, and the words of two bounds. Assumes nothing.
use Rattle.std.specs.Prelude.{◌≡◌, ℕ, ◌-◌, ◌≤◌, ◌<◌, Result, Ok, Err, List, ◌++◌, length, set}
use Rattle.rules.specs.Outcome.{ok, refuse}
use Rattle.rules.specs.Grammar.{Expr}
use Rattle.tape.specs.Layout.{pack, BRACKET, name_w}
use Rattle.tape.specs.Encoding.{exp_w}
use Rattle.tape.specs.declared.Read.{Read}
use Rattle.rules.specs.Reasons.{number}
use Rattle.rules.specs.declared.Refusal.{Refusal}
use Rattle.marks.specs.Marks.{mark_at}

-- a closing bracket was passed, and the bracket's word stands before the words of the expression in it
pub record Closed (s : List ℕ) (at : ℕ) (t : List ℕ) (to end head : ℕ) (u : List ℕ) (n m c : ℕ) : Type 0 where
  pub place : ℕ
  pub reads : mark_at s 41 at ≡ ok (place, n)
  pub ended : m ≡ end
  pub tape : u ≡ set t to (pack BRACKET head (end - to - 1))
  pub size : c ≡ 0
  pub past : (at < n) × (n ≤ length s)

abbrev pub Closes : List ℕ → ℕ → List ℕ → ℕ → ℕ → ℕ → List ℕ → Result Read Refusal → Type 0
Closes s at t to end head u (Ok r) = Closed s at t to end head u r.next r.end r.names
Closes s at t to end head u (Err e) = mark_at s 41 at ≡ refuse (number e.reason) e.place

unfoldable pub bounds_w : Expr × Expr → List ℕ
bounds_w r = exp_w name_w 0 r.0 ++ exp_w name_w 0 r.1
