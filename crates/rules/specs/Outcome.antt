-- Outcomes: a value, or a refusal's number and place (01, "Numbers of the answers"). Assumes nothing.
use Rattle.std.specs.Prelude.{ℕ, zero, suc, Bool, true, false, List, [], ◌∷◌}

pub data Out (A : Type 0) : Type 0 where
  ok : A → Out A
  refuse : ℕ → ℕ → Out A

-- one after the other: the first refusal is the answer
infixl 20 ◌>>=◌
unfoldable pub ◌>>=◌ : {A B : Type 0} → Out A → (A → Out B) → Out B
ok a >>= f = f a
refuse n p >>= f = refuse n p

-- the same refusal, at the place p
unfoldable pub at : {A : Type 0} → ℕ → Out A → Out A
at p (ok a) = ok a
at p (refuse n q) = refuse n p

-- the test holds, or else refusal n; `at` gives its place, and 1 and 2 keep the place 0
unfoldable pub need : Bool → ℕ → Out (Unit {0})
need true n = ok tt
need false n = refuse n 0

abbrev pub need_at : ℕ → Bool → ℕ → Out (Unit {0})
need_at p c n = at p (need c n)

-- the k-th of a list, counted from 0, or else refusal n
unfoldable pub nth : {A : Type 0} → ℕ → List A → ℕ → Out A
nth n [] k = refuse n 0
nth n (x ∷ xs) zero = ok x
nth n (x ∷ xs) (suc k) = nth n xs k

-- there is a value, and it is such
unfoldable pub When : {A : Type 0} → Out A → (A → Type 0) → Type 0
When (ok a) K = K a
When (refuse n p) K = ⊥
