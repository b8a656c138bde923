-- Laws of outcomes: how a sequence that succeeds comes apart. Assumes nothing.
use Rattle.std.specs.Prelude.{◌≡◌, ℕ, zero, suc, Bool, not, ◌&&◌, ◌||◌, List, [], ◌∷◌, map, T}
use Rattle.std.proofs.Math.Path.{refl}
use Rattle.std.proofs.Common.{ap, ◌∙◌, arith}
use Rattle.std.proofs.Math.Bool.{true, false}
use Rattle.rules.specs.Outcome.{Out, ok, refuse, ◌>>=◌, at, need, nth, When}

pub no_ok : {A : Type 0} {n p : ℕ} {a : A} → refuse n p ≡ ok a → ⊥
no_ok e = let z : ◌≡◌ {A = ℕ} 0 1 = cc in omega arith

pub ok-inj : {A : Type 0} {a b : A} → ok a ≡ ok b → a ≡ b
ok-inj e = cc

-- a sequence that succeeds: its first part did, and then its second
pub inv : {A B X : Type 0} (o : Out A) (K : A → Out B) {b : B} → (o >>= K) ≡ ok b → ((a : A) → o ≡ ok a → K a ≡ ok b → X) → X
unfolding ◌>>=◌
inv (ok a) K e f = f a refl e
inv (refuse n p) K e f = absurd (no_ok e)

pub at_ok : {A : Type 0} (p : ℕ) (o : Out A) {a : A} → at p o ≡ ok a → o ≡ ok a
unfolding at
at_ok p (ok a) e = e
at_ok p (refuse n q) e = absurd (no_ok e)

pub ok_at : {A : Type 0} (p : ℕ) {o : Out A} {a : A} → o ≡ ok a → at p o ≡ ok a
unfolding at
ok_at p e = rw e refl

pub inv_at : {A B X : Type 0} (p : ℕ) (o : Out A) (K : A → Out B) {b : B} → (at p o >>= K) ≡ ok b → ((a : A) → o ≡ ok a → K a ≡ ok b → X) → X
inv_at p o K e f = inv (at p o) K e λ a e₁ e₂. f a (at_ok p o e₁) e₂

-- the other way round
pub bind_ok : {A B : Type 0} {o : Out A} (K : A → Out B) {a : A} {b : B} → o ≡ ok a → K a ≡ ok b → (o >>= K) ≡ ok b
unfolding ◌>>=◌
bind_ok K e h = rw e h

-- a sequence, by what its first part gives
pub refused : {A B : Type 0} {o : Out A} (K : A → Out B) {n p : ℕ} → o ≡ refuse n p → (o >>= K) ≡ refuse n p
unfolding ◌>>=◌
refused K e = rw e

pub went : {A B : Type 0} {o : Out A} (K : A → Out B) {a : A} → o ≡ ok a → (o >>= K) ≡ K a
unfolding ◌>>=◌
went K e = rw e

-- what is done after a sequence is done after its last part
pub along : {A B C : Type 0} (o : Out A) (f : A → Out B) (K : B → Out C) (g : A → Out C) → ((a : A) → (f a >>= K) ≡ g a) → ((o >>= f) >>= K) ≡ (o >>= g)
unfolding ◌>>=◌
along (ok a) f K g h = h a
along (refuse n p) f K g h = refl

-- a test that is passed
pub need-yes : (c : Bool) (n : ℕ) {u : Unit {0}} → need c n ≡ ok u → T c
unfolding need
need-yes true n e = tt
need-yes false n e = absurd (no_ok e)

pub yes-need : (c : Bool) (n : ℕ) → T c → need c n ≡ ok tt
unfolding need
yes-need true n t = refl
yes-need false n t = absurd t

pub when-ok : {A : Type 0} {o : Out A} {a : A} (K : A → Type 0) → o ≡ ok a → K a → When o K
unfolding When
when-ok K e k = rw e k

pub ok-when : {A : Type 0} {o : Out A} {a : A} (K : A → Type 0) → o ≡ ok a → When o K → K a
unfolding When
ok-when K e k = rw e at k

pub when-inv : {A X : Type 0} (o : Out A) (K : A → Type 0) → When o K → ((a : A) → o ≡ ok a → K a → X) → X
unfolding When
when-inv (ok a) K k f = f a refl k
when-inv (refuse n p) K k f = absurd k

-- what is there is there whichever refusal would be given
pub nth-any : {A : Type 0} (n m : ℕ) (xs : List A) (k : ℕ) {x : A} → nth n xs k ≡ ok x → nth m xs k ≡ ok x
unfolding nth
nth-any n m [] k e = absurd (no_ok e)
nth-any n m (x ∷ xs) zero e = e
nth-any n m (x ∷ xs) (suc k) e = nth-any n m xs k e

-- ---- tests joined

pub both_yes : (a b : Bool) → T (a && b) → T a × T b
both_yes true b t = (tt, t)
both_yes false b t = absurd t

pub neither : (a b : Bool) → T (not (a || b)) → T (not a) × T (not b)
neither true b t = absurd t
neither false b t = (tt, t)

pub nor : (a b : Bool) → T (not a) → T (not b) → T (not (a || b))
nor true b h k = h
nor false b h k = k

-- ---- the value of an outcome, mapped

unfoldable pub map_out : {A B : Type 0} → (A → B) → Out A → Out B
map_out f (ok a) = ok (f a)
map_out f (refuse n p) = refuse n p

pub map-ok : {A B : Type 0} (f : A → B) {o : Out A} {o' : Out B} {a : A} → o' ≡ map_out f o → o ≡ ok a → o' ≡ ok (f a)
unfolding map_out
map-ok f p e = p ∙ ap (map_out f) e

module _ {A A' B B' : Type 0} (f : A → A') (g : B → B') where
  pub nat-bind : (o : Out A) (K : A → Out B) (K' : A' → Out B') → ((a : A) → K' (f a) ≡ map_out g (K a)) → (map_out f o >>= K') ≡ map_out g (o >>= K)
  unfolding ◌>>=◌ map_out
  nat-bind (ok a) K K' h = h a
  nat-bind (refuse n p) K K' h = refl

module _ {A B B' : Type 0} (g : B → B') where
  pub nat-same : (o : Out A) (K : A → Out B) (K' : A → Out B') → ((a : A) → K' a ≡ map_out g (K a)) → (o >>= K') ≡ map_out g (o >>= K)
  unfolding ◌>>=◌ map_out
  nat-same (ok a) K K' h = h a
  nat-same (refuse n p) K K' h = refl

module _ {B B' : Type 0} (g : B → B') where
  pub nat-need : (c c' : Bool) (n : ℕ) (K : Unit {0} → Out B) (K' : Unit {0} → Out B') → c' ≡ c → (T c → K' tt ≡ map_out g (K tt))
      → (need c' n >>= K') ≡ map_out g (need c n >>= K)
  unfolding ◌>>=◌ map_out need
  nat-need true c' n K K' e h = rw e (h tt)
  nat-need false c' n K K' e h = rw e refl

pub nat-nth : {A B : Type 0} (f : A → B) (m : ℕ) (xs : List A) (n : ℕ) → nth m (map f xs) n ≡ map_out f (nth m xs n)
unfolding nth map_out
nat-nth f m [] n = refl
nat-nth f m (x ∷ xs) zero = refl
nat-nth f m (x ∷ xs) (suc n) = nat-nth f m xs n
