-- Two expressions on the tape, one after the other, as the bounds of a vector and of a loop are. Assumes nothing.
use Rattle.std.specs.Prelude.{◌≡◌, ℕ, ◌+◌, List, length, ℤ, Option, Some, None}
use Rattle.std.proofs.Common.{subst, sym, ap, ◌∙◌}
use Rattle.rules.specs.Outcome.{Out, ok, refuse, ◌>>=◌}
use Rattle.rules.specs.Syntax.{Exp}
use Rattle.rules.specs.Values.{Env, eval}
use Rattle.rules.proofs.Laws.Outcomes.{no_ok}
use Rattle.tape.specs.Encoding.{exp_w}
use Rattle.tape.specs.Resolved.{slot_w}
use Rattle.values.specs.declared.Valued.{Valued}
use Rattle.values.specs.declared.Bounds.{Bounds}
use Rattle.values.specs.Here.{Here, Says}

pub record HereTwo (t : List ℕ) (at end : ℕ) (a b : Exp ℕ) : Type 0 where
  pub first : Here t at end a
  pub second : Here t (at + length (exp_w slot_w 0 a)) end b

pub record WrittenTwo (t : List ℕ) (at end : ℕ) : Type 0 where
  pub left : Exp ℕ
  pub right : Exp ℕ
  pub here : HereTwo t at end left right

-- first bound, second bound
abbrev pub both-bounds : Env → Exp ℕ → Exp ℕ → Out (ℤ × ℤ)
both-bounds ρ a b = do
  x ← eval ρ a
  y ← eval ρ b
  ok (x, y)

-- the rules' two outcomes, and the place after the words
unfoldable pub SaysTwo : Env → Exp ℕ → Exp ℕ → ℕ → Option Bounds → Type 0
SaysTwo ρ a b n (Some r) = (eval ρ a ≡ ok r.first) × (eval ρ b ≡ ok r.last) × (r.next ≡ n)
SaysTwo ρ a b n None = both-bounds ρ a b ≡ refuse 10 0

-- ---- as the code reads them

pub second-here : {t : List ℕ} {at end : ℕ} {a b : Exp ℕ} (o : Out ℤ) (r : Valued) → HereTwo t at end a b → Says o (at + length (exp_w slot_w 0 a)) (Some r) → Here t r.next end b
unfolding Says
second-here {t} {at} {end} {a} {b} o r h s = subst (λ n. Here t n end b) (sym s.1) h.second

module _ (ρ : Env) (a b : Exp ℕ) where
  pub no-first : (m n : ℕ) → Says (eval ρ a) m None → SaysTwo ρ a b n None
  unfolding Says SaysTwo ◌>>=◌
  no-first m n s = rw s

  pub no-second : (m l : ℕ) (x : Valued) → Says (eval ρ a) m (Some x) → Says (eval ρ b) (x.next + l) None → SaysTwo ρ a b (m + l) None
  unfolding Says SaysTwo ◌>>=◌
  no-second m l x s u = rw (s.0, u)

  pub two-said : (m l : ℕ) (x y : Valued) → Says (eval ρ a) m (Some x) → Says (eval ρ b) (x.next + l) (Some y)
      → SaysTwo ρ a b (m + l) (Some (record { first = x.value; last = y.value; next = y.next }))
  unfolding Says SaysTwo
  two-said m l x y s u = (s.0, u.0, u.1 ∙ ap (λ i. i + l) s.1)

-- two outcomes, one after the other
pairs : Out ℤ → Out ℤ → Out (ℤ × ℤ)
pairs o u = do
  x ← o
  y ← u
  ok (x, y)

-- what goes on with both bounds is refused where they are
pub bounds-refused : {A : Type 0} (ρ : Env) (a b : Exp ℕ) (K : ℤ → ℤ → Out A) {n p : ℕ} → both-bounds ρ a b ≡ refuse n p → (eval ρ a >>= λ x. eval ρ b >>= λ y. K x y) ≡ refuse n p
unfolding ◌>>=◌ pairs
bounds-refused {A} ρ a b K {n} {p} = go (eval ρ a) (eval ρ b)
  where
    go : (o u : Out ℤ) → pairs o u ≡ refuse n p → (o >>= λ x. u >>= λ y. K x y) ≡ refuse n p
    go (ok x) (ok y) e = absurd (no_ok (sym e))
    go (ok x) (refuse k q) e = let f : (k ≡ n) × (q ≡ p) = (cc, cc) in rw (f.0, f.1)
    go (refuse k q) u e = let f : (k ≡ n) × (q ≡ p) = (cc, cc) in rw (f.0, f.1)
