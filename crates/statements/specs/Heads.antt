-- A loop up to its BEGIN. Assumes nothing.
use Rattle.std.specs.Prelude.{◌≡◌, ℕ, ◌+◌, ◌≤◌, Result, Ok, Err, IsErrAnd, List, ◌∷◌, ◌++◌, length, set}
use Rattle.std.proofs.Common.{◌∙◌}
use native.Mathlib.Omega.{arith}
use Rattle.std.proofs.lemmas.Result.{err_from_is_err_and}
use Rattle.rules.specs.Outcome.{ok, refuse}
use Rattle.rules.specs.Syntax.{Name, end, loop}
use Rattle.rules.specs.Readers.{Reader, ◌>>=◌, give, spelling, mark, a_name}
use Rattle.rules.specs.Grammar.{Expr, Body, bounds, looping}
use Rattle.tape.specs.Layout.{pack, LOOP, INDEX, spelt, name_w}
use Rattle.tape.specs.Encoding.{exp_w}
use Rattle.tape.specs.Written.{Wrote, Got, none, stored, later, as-words}
use Rattle.tape.specs.declared.Read.{Read}
use Rattle.rules.specs.Reasons.{number}
use Rattle.rules.specs.declared.Refusal.{Refusal}
use Rattle.marks.specs.Laws.One.{on, spelt_is}
use Rattle.expressions.specs.Words.{bounds_w}

-- the index and the bounds were read up to n, so that a loop at p is what its body makes of them; their words were written
pub record Headed (s : List ℕ) (p at : ℕ) (t : List ℕ) (to : ℕ) (u : List ℕ) (n m : ℕ) : Type 0 where
  pub index : Name
  pub low : Expr
  pub high : Expr
  pub goes : (inside : Reader Body) → looping s inside p at ≡ (inside >>= λ b. give (loop p index low high b end)) n
  pub wrote : Wrote t to (pack LOOP 0 p ∷ pack INDEX 0 (name_w index) ∷ (exp_w name_w 0 low ++ exp_w name_w 0 high)) u m

abbrev pub Heads : List ℕ → ℕ → ℕ → List ℕ → ℕ → List ℕ → Result Read Refusal → Type 0
Heads s p at t to u (Ok r) = Headed s p at t to u r.next r.end
Heads s p at t to u (Err e) = (inside : Reader Body) → looping s inside p at ≡ refuse (number e.reason) e.place

-- the exit of a `?`
pub heads_on : (s : List ℕ) (p at : ℕ) (t : List ℕ) (to : ℕ) (u : List ℕ) (r : Result Read Refusal) (e : Refusal) → IsErrAnd r (λ y. y ≡ e) → ((inside : Reader Body) → looping s inside p at ≡ refuse (number e.reason) e.place) → Heads s p at t to u r
heads_on s p at t to u r e h g = let q = err_from_is_err_and r h in rw (q.1, q.2) g

module _ {s : List ℕ} {p at a b c i x y n : ℕ} {t v u w : List ℕ} {to m k : ℕ} where
  -- all its parts
  pub headed : mark s "FOR" at ≡ ok (x, a) → a_name s a ≡ ok (spelling s i b, b) → b ≤ length s → mark s "=" b ≡ ok (y, c) → v ≡ set t to (pack LOOP 0 p) → u ≡ set v (to + 1) (pack INDEX 0 (spelt i b))
      → {z : ℕ} (d : Got none bounds_w (bounds s c) u (to + 2) w n m k) {q : ℕ} → mark s "BEGIN" n ≡ ok (z, q) → Headed s p at t to w q m
  unfolding looping bounds_w
  headed f g r h l o d e = let two : to + 2 ≡ to + 1 + 1 = omega arith in record {
    index = spelling s i b;
    low = d.value.0;
    high = d.value.1;
    goes = λ inside. on _ _ _ f ∙ on _ _ _ g ∙ on _ _ _ h ∙ on _ _ _ d.reads ∙ on _ _ _ e;
    wrote = as-words (rw (spelt_is s i b r)) (later (stored l) (later (stored o) (rw two at d.wrote)));
  }
