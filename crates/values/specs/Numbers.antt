-- Numbers in range, or none, and the rules' values as such numbers. Assumes nothing.
use Rattle.std.specs.Prelude.{◌≡◌, refl, ℕ, zero, suc, Bool, true, false, T, leb, ℤ, pos, negsuc, nat_abs, neg_ℤ, ◌+ℤ◌, ◌-ℤ◌, ◌*ℤ◌, Option, Some, None}
use Rattle.std.proofs.Common.{ap, ◌∙◌}
use Rattle.std.proofs.Math.IntN.{neg_ℤ-neg_ℤ}
use Rattle.rules.specs.Text.{pick}
use Rattle.rules.specs.Outcome.{Out, ok, refuse, ◌>>=◌, need}
use Rattle.rules.specs.Syntax.{Op, plus, minus, times, Exp, number, name, neg, group, both}
use Rattle.rules.specs.Values.{Env, ranged, apply, eval}
use Rattle.values.specs.declared.Mark.{Mark}
use Rattle.values.specs.declared.Mark.TheVariants.{First, Plus, Minus, Times}

unfoldable pub clipped : ℤ → Option ℤ
clipped z = pick (leb (nat_abs z) 1000000) (Some z) None

unfoldable pub negation : Option ℤ → Option ℤ
negation (Some x) = clipped (neg_ℤ x)
negation None = None

-- two numbers joined by a mark; by none, the second alone
unfoldable pub join : Mark → ℤ → ℤ → Option ℤ
join First x y = Some y
join Plus x y = clipped (x +ℤ y)
join Minus x y = clipped (x -ℤ y)
join Times x y = clipped (x *ℤ y)

unfoldable pub joined : Mark → Option ℤ → Option ℤ → Option ℤ
joined m (Some x) (Some y) = join m x y
joined m (Some x) None = None
joined m None y = None

-- the rules' outcome that a number stands for
unfoldable pub outcome : Option ℤ → Out ℤ
outcome (Some z) = ok z
outcome None = refuse 10 0

unfoldable pub mark_of : Op → Mark
mark_of plus = Plus
mark_of minus = Minus
mark_of times = Times

-- the value of an expression
unfoldable pub value : Env → Exp ℕ → Option ℤ
value ρ (number n) = clipped (pos n)
value ρ (name i) = clipped (ρ i)
value ρ (neg e) = negation (value ρ e)
value ρ (group e) = value ρ e
value ρ (both op d e) = joined (mark_of op) (value ρ d) (value ρ e)

-- ---- it is the rules' value

ranged-is : (z : ℤ) → outcome (clipped z) ≡ ranged z
unfolding outcome clipped ranged pick need ◌>>=◌
ranged-is z = go (leb (nat_abs z) 1000000)
  where
    go : (c : Bool) → outcome (pick c (Some z) None) ≡ (need c 10 >>= λ _. ok z)
    go true = refl
    go false = refl

apply-is : (op : Op) (x y : ℤ) → outcome (join (mark_of op) x y) ≡ ranged (apply op x y)
unfolding join mark_of apply pick
apply-is plus x y = ranged-is (x +ℤ y)
apply-is minus x y = ranged-is (x -ℤ y)
apply-is times x y = ranged-is (x *ℤ y)

neg_is : (v : Option ℤ) → outcome (negation v) ≡ (outcome v >>= λ x. ranged (neg_ℤ x))
unfolding outcome negation ◌>>=◌
neg_is (Some x) = ranged-is (neg_ℤ x)
neg_is None = refl

joined_is : (op : Op) (v w : Option ℤ) → outcome (joined (mark_of op) v w) ≡ (outcome v >>= λ x. outcome w >>= λ y. ranged (apply op x y))
unfolding outcome joined ◌>>=◌
joined_is op (Some x) (Some y) = apply-is op x y
joined_is op (Some x) None = refl
joined_is op None w = refl

pub value-is : (ρ : Env) (e : Exp ℕ) → outcome (value ρ e) ≡ eval ρ e
unfolding value eval
value-is ρ (number n) = ranged-is (pos n)
value-is ρ (name i) = ranged-is (ρ i)
value-is ρ (neg e) = neg_is (value ρ e) ∙ rw (value-is ρ e)
value-is ρ (group e) = value-is ρ e
value-is ρ (both op d e) = joined_is op (value ρ d) (value ρ e) ∙ rw (value-is ρ d, value-is ρ e)

-- ---- two minuses

unfoldable Fine : Option ℤ → Type 0
Fine (Some z) = T (leb (nat_abs z) 1000000)
Fine None = Unit {0}

clipped-fine : (z : ℤ) → Fine (clipped z)
unfolding Fine clipped pick
clipped-fine z = go (leb (nat_abs z) 1000000) refl
  where
    go : (c : Bool) → leb (nat_abs z) 1000000 ≡ c → Fine (pick c (Some z) None)
    go true e = rw e tt
    go false e = tt

neg-fine : (v : Option ℤ) → Fine (negation v)
unfolding Fine negation
neg-fine (Some x) = clipped-fine (neg_ℤ x)
neg-fine None = tt

join-fine : (op : Op) (x y : ℤ) → Fine (join (mark_of op) x y)
unfolding join mark_of pick
join-fine plus x y = clipped-fine (x +ℤ y)
join-fine minus x y = clipped-fine (x -ℤ y)
join-fine times x y = clipped-fine (x *ℤ y)

joined-fine : (op : Op) (v w : Option ℤ) → Fine (joined (mark_of op) v w)
unfolding Fine joined
joined-fine op (Some x) (Some y) = join-fine op x y
joined-fine op (Some x) None = tt
joined-fine op None w = tt

value-fine : (ρ : Env) (e : Exp ℕ) → Fine (value ρ e)
unfolding value
value-fine ρ (number n) = clipped-fine (pos n)
value-fine ρ (name i) = clipped-fine (ρ i)
value-fine ρ (neg e) = neg-fine (value ρ e)
value-fine ρ (group e) = value-fine ρ e
value-fine ρ (both op d e) = joined-fine op (value ρ d) (value ρ e)

abs_neg : (z : ℤ) → nat_abs (neg_ℤ z) ≡ nat_abs z
abs_neg (pos zero) = refl
abs_neg (pos (suc n)) = refl
abs_neg (negsuc n) = refl

clipped-in : (z : ℤ) → T (leb (nat_abs z) 1000000) → clipped z ≡ Some z
unfolding clipped pick
clipped-in z t = go (leb (nat_abs z) 1000000) t
  where
    go : (c : Bool) → T c → pick c (Some z) None ≡ Some z
    go true t = refl
    go false t = absurd t

negation-in : (z : ℤ) → T (leb (nat_abs z) 1000000) → negation (Some z) ≡ Some (neg_ℤ z)
unfolding negation
negation-in z t = clipped-in (neg_ℤ z) (rw abs_neg t)

twice : (v : Option ℤ) → Fine v → negation (negation v) ≡ v
unfolding Fine negation
twice (Some z) t = ap negation (negation-in z t) ∙ negation-in (neg_ℤ z) (rw abs_neg t) ∙ ap Some (neg_ℤ-neg_ℤ z)
twice None t = refl

pub value-twice : (ρ : Env) (e : Exp ℕ) → negation (negation (value ρ e)) ≡ value ρ e
value-twice ρ e = twice (value ρ e) (value-fine ρ e)
