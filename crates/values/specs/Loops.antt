-- The rounds of a loop, from its bounds on the tape. Assumes nothing.
use Rattle.std.specs.Prelude.{◌≡◌, refl, ℕ, zero, suc, ◌+◌, ◌-◌, ◌≤◌, ◌<◌, Bool, true, false, cond, ltb, ℤ, pos, negsuc, nat_abs, neg_ℤ, ◌+ℤ◌, ◌-ℤ◌, Option, Some, None, Result, Ok, Err}
use Rattle.std.proofs.Common.{◌∙◌, subst, arith, leb→le}
use Rattle.std.proofs.Math.IntN.{suc_ℤ}
use Rattle.rules.specs.Outcome.{ok, refuse}
use Rattle.rules.specs.Syntax.{Exp, number, name, neg, group, both}
use Rattle.rules.specs.Values.{Env, ranged, eval, rounds}
use Rattle.rules.proofs.Laws.Outcomes.{ok-inj, inv, need-yes}
use Rattle.rules.specs.declared.Reason.{Reason}
use Rattle.rules.specs.declared.Reason.TheVariants.{OutOfRange}
use Rattle.values.specs.declared.Bounds.{Bounds}
use Rattle.rules.specs.Reasons.{number as number_of}
use Rattle.values.specs.declared.Rounds.{Rounds}
use Rattle.values.specs.Pairs.{both-bounds, SaysTwo}
use Rattle.values.specs.Sizes.{apart_of}

-- the first index, how many rounds, and the place after the words
unfoldable pub Turns : Env → Exp ℕ → Exp ℕ → ℕ → Result Rounds Reason → Type 0
Turns ρ a b n (Ok r) = (y : ℤ) × (eval ρ a ≡ ok r.first) × (eval ρ b ≡ ok y) × (r.count ≡ rounds (y -ℤ r.first)) × (r.next ≡ n)
Turns ρ a b n (Err e) = both-bounds ρ a b ≡ refuse (number_of e) 0

-- how many rounds, by how far the last index lies above the first
unfoldable pub count_of : Option ℕ → ℕ
count_of (Some k) = k + 1
count_of None = 0

pub rounds-are : (d : ℤ) → count_of (apart_of d) ≡ rounds d
unfolding apart_of rounds count_of
rounds-are (pos k) = omega arith
rounds-are (negsuc k) = refl

-- ---- as the code finds them

module _ (ρ : Env) (a b : Exp ℕ) (n : ℕ) where
  pub not-turned : SaysTwo ρ a b n None → Turns ρ a b n (Err OutOfRange)
  unfolding SaysTwo Turns
  not-turned s = s

  pub turned : (r : Bounds) (k : ℕ) → SaysTwo ρ a b n (Some r) → k ≡ count_of (apart_of (r.last -ℤ r.first)) → Turns ρ a b n (Ok (record { first = r.first; count = k; next = r.next }))
  unfolding SaysTwo Turns
  turned r k s e = (r.last, s.0, s.1, e ∙ rounds-are (r.last -ℤ r.first), s.2)

-- ---- no index leaves the range by more than the rounds: the code's 32 bits hold it

ranged-small : (v : ℤ) {x : ℤ} → ranged v ≡ ok x → nat_abs x ≤ 1000000
unfolding ranged
ranged-small v e = inv _ _ e λ _ t e₁. subst (λ x. nat_abs x ≤ 1000000) (ok-inj e₁) (leb→le _ _ (need-yes _ _ t))

pub eval-small : (ρ : Env) (e : Exp ℕ) {x : ℤ} → eval ρ e ≡ ok x → nat_abs x ≤ 1000000
unfolding eval
eval-small ρ (number n) e = ranged-small _ e
eval-small ρ (name i) e = ranged-small _ e
eval-small ρ (neg d) e = inv _ _ e λ x _ f. ranged-small _ f
eval-small ρ (group d) e = eval-small ρ d e
eval-small ρ (both op c d) e = inv _ _ e λ x _ f. inv _ _ f λ y _ g. ranged-small _ g

rounds-cond : (t : Bool) (u v n : ℕ) → v < n → rounds (cond t (negsuc u) (pos v)) ≤ n
unfolding rounds
rounds-cond true u v n h = omega arith
rounds-cond false u v n h = h

rounds-less : (y : ℤ) (n : ℕ) → nat_abs y ≤ 1000000 → n ≤ 1000000 → rounds (y +ℤ neg_ℤ (pos n)) ≤ 2000001
unfolding rounds
rounds-less (pos a) zero h k = omega arith
rounds-less (pos a) (suc n) h k = rounds-cond (ltb a (suc n)) (suc n - suc a) (a - suc n) 2000001 (omega arith)
rounds-less (negsuc a) zero h k = rounds-cond (ltb 0 (suc a)) (suc a - 1) (0 - suc a) 2000001 (omega arith)
rounds-less (negsuc a) (suc n) h k = omega arith

rounds-more : (y : ℤ) (n : ℕ) → nat_abs y ≤ 1000000 → n < 1000000 → rounds (y +ℤ pos (suc n)) ≤ 2000001
unfolding rounds
rounds-more (pos a) n h k = omega arith
rounds-more (negsuc a) n h k = rounds-cond (ltb (suc n) (suc a)) (suc a - suc (suc n)) (suc n - suc a) 2000001 (omega arith)

pub rounds-small : (x y : ℤ) → nat_abs x ≤ 1000000 → nat_abs y ≤ 1000000 → rounds (y -ℤ x) ≤ 2000001
rounds-small (pos n) y h k = rounds-less y n k h
rounds-small (negsuc n) y h k = rounds-more y n k h

pub next_small : (v : ℤ) (n : ℕ) → nat_abs v ≤ n → nat_abs (suc_ℤ v) ≤ n + 1
next_small (pos a) n h = omega arith
next_small (negsuc zero) n h = omega arith
next_small (negsuc (suc a)) n h = omega arith
