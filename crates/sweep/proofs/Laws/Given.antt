-- What a call gives, counted by its words, is what its lists hold. Assumes nothing.
use Rattle.std.specs.Prelude.{◌≡◌, Bool, true, false, eqb, ltb}
use Rattle.std.proofs.Math.Path.{refl, ap}
use Rattle.std.proofs.Common.{sym, ◌∙◌}
use mathlib.Core.List.{List, [], ◌∷◌, ◌++◌, append_assoc}
use Prim.Native.Nat.{ℕ, zero, suc, ◌+◌, ◌-◌, ◌%◌, ◌<◌, ◌≤◌}
use Rattle.std.proofs.Math.Nat.{zero-add}
use native.Mathlib.Omega.{arith}
use Rattle.std.proofs.Math.ListN.{length, length-append}
use borrow.Author.Tests.{eq-eqb, ne_eqb, lt-ltb, le-ltb, eqb-false}
use Rattle.rules.specs.Text.{pick}
use Rattle.rules.specs.Syntax.{Name, Op, plus, minus, times, Exp, number, name, neg, group, both, Arg, whole, part}
use Rattle.rules.proofs.Laws.Spelt.{SpeltName, SpeltCall, All, AllExp, AllArg}
use Rattle.tape.specs.Layout.{kind_of, NUMBER, NAME, BRACKET, head_of, flip, name_w, kind-of, value-of, head-of}
use Rattle.tape.specs.Encoding.{list_w, exp_w, arg_w}
use Rattle.sweep.specs.Sweep.{generics_given, in_call, given}
use Rattle.sweep.proofs.Laws.Expressions.{name-fits, flip-small, head_small}

-- words of expressions
unfoldable pub Low : List ℕ → Type 0
Low [] = Unit {0}
Low (w ∷ ws) = (kind_of w < 3) × Low ws

low-both : (a b : List ℕ) → Low a → Low b → Low (a ++ b)
unfolding Low
low-both [] b p q = q
low-both (w ∷ a) b p q = (p.0, low-both a b p.1 q)

-- words at whose first a call has ended
unfoldable pub Ends : List ℕ → Type 0
Ends [] = Unit {0}
Ends (w ∷ ws) = (2 < kind_of w) × (in_call (kind_of w) ≡ false)

pub ends-given : (K : ℕ) (r : List ℕ) → Ends r → given K r ≡ 0
unfolding Ends given pick
ends-given K [] e = refl
ends-given K (w ∷ r) e = rw e.1

pub ends-generics : (r : List ℕ) → Ends r → generics_given 0 r ≡ 0
unfolding Ends generics_given pick
ends-generics [] e = refl
ends-generics (w ∷ r) e = let h = e.0 in rw (le-ltb (kind_of w) 3 h)

low-in-call : (k : ℕ) → k < 3 → in_call k ≡ true
unfolding in_call pick
low-in-call k h = rw (ne_eqb k 3 (λ z. omega arith)) (lt-ltb k 6 (omega arith))

given-low : (K : ℕ) (a r : List ℕ) → 2 < K → Low a → given K (a ++ r) ≡ given K r
unfolding Low given pick
given-low K [] r l q = refl
given-low K (w ∷ a) r l q = let h = q.0 in rw (low-in-call (kind_of w) h, ne_eqb (kind_of w) K (λ z. omega arith), zero-add (given K (a ++ r))) (given-low K a r l q.1)

generics-inside : (a r : List ℕ) → Low a → generics_given (length a) (a ++ r) ≡ generics_given 0 r
unfolding Low generics_given pick
generics-inside [] r q = refl
generics-inside (w ∷ a) r q =
    let h = q.0 in
    let z : 0 < suc (length a) = omega arith in
    let e : suc (length a) - 1 ≡ length a = omega arith in
    rw (lt-ltb (kind_of w) 3 h, lt-ltb 0 (suc (length a)) z, e) (generics-inside a r q.1)

flip_low : (h : ℕ) → h < 8 → ltb (flip h) 2 ≡ ltb h 2
unfolding flip pick
flip_low zero l = refl
flip_low (suc zero) l = refl
flip_low (suc (suc h)) l = go (eqb (suc (suc h) % 2) 0) refl
  where
    go : (b : Bool) → eqb (suc (suc h) % 2) 0 ≡ b → ltb (pick b (suc (suc h) + 1) (suc (suc h) - 1)) 2 ≡ ltb (suc (suc h)) 2
    go true e = le-ltb (suc (suc h) + 1) 2 (omega arith) ∙ sym (le-ltb (suc (suc h)) 2 (omega arith))
    go false e = let z = eqb-false (suc (suc h) % 2) 0 e in le-ltb (suc (suc h) - 1) 2 (odd h z) ∙ sym (le-ltb (suc (suc h)) 2 (omega arith))
      where
        odd : (h : ℕ) → (suc (suc h) % 2 ≡ 0 → ⊥) → 2 ≤ suc (suc h) - 1
        odd zero z = absurd (z refl)
        odd (suc h) z = omega arith

module _ (s : List ℕ) (few : length s ≤ 16384) where
  abbrev SpeltE : ℕ → Exp Name → Type 0
  SpeltE l e = AllExp {C = Name} (SpeltName s) (SpeltCall s) (length s) l e

  abbrev SpeltA : Arg Name → Type 0
  SpeltA a = AllArg {C = Name} (SpeltName s) (SpeltCall s) (length s) a

  pub exp-low : (e : Exp Name) (h l : ℕ) → h < 8 → SpeltE l e → length (exp_w name_w h e) ≤ 16384 → Low (exp_w name_w h e)
  unfolding exp_w AllExp Low
  exp-low (number v) h l small q b = let k = kind-of NUMBER h v small (omega arith) in (omega arith, tt)
  exp-low (name n) h l small q b = let k = kind-of NAME h (name_w n) small (name-fits s few NAME h small n q) in (omega arith, tt)
  exp-low (neg x) h l small q b = exp-low x (flip h) 0 (flip-small h small) q b
  exp-low (group x) h l small q b = let k = kind-of BRACKET h (length (exp_w name_w 0 x)) small (omega arith) in (omega arith, exp-low x 0 2 (omega arith) q (omega arith))
  exp-low (both o d x) h l small q b =
      let m = length-append (exp_w name_w h d) (exp_w name_w (head_of o) x) in
      low-both (exp_w name_w h d) (exp_w name_w (head_of o) x) (exp-low d h _ small q.1 (omega arith)) (exp-low x (head_of o) _ (head_small o) q.2 (omega arith))

  head-high : (o : Op) → ltb (head_of o) 2 ≡ false
  unfolding head_of
  head-high plus = refl
  head-high minus = refl
  head-high times = refl

  exp-generics : (e : Exp Name) (h l : ℕ) (r : List ℕ) → h < 8 → SpeltE l e → length (exp_w name_w h e) ≤ 16384 → generics_given 0 (exp_w name_w h e ++ r) ≡ pick (ltb h 2) 1 0 + generics_given 0 r
  unfolding exp_w AllExp generics_given pick
  exp-generics (number v) h l r small q b =
      let z : v < 33554432 = omega arith in
      rw (kind-of NUMBER h v small z, head-of NUMBER h v small z)
  exp-generics (name n) h l r small q b =
      let z = name-fits s few NAME h small n q in
      rw (kind-of NAME h (name_w n) small z, head-of NAME h (name_w n) small z)
  exp-generics (neg x) h l r small q b = exp-generics x (flip h) 0 r (flip-small h small) q b ∙ rw (flip_low h small)
  exp-generics (group x) h l r small q b =
      let n = length (exp_w name_w 0 x) in
      let z : length (exp_w name_w 0 x) < 33554432 = omega arith in
      rw (kind-of BRACKET h (length (exp_w name_w 0 x)) small z, head-of BRACKET h (length (exp_w name_w 0 x)) small z, value-of BRACKET h (length (exp_w name_w 0 x)) small z)
      (ap (λ g. pick (ltb h 2) 1 0 + g) (generics-inside (exp_w name_w 0 x) r (exp-low x 0 2 (omega arith) q (omega arith))))
  exp-generics (both o d x) h l r small q b =
      let m = length-append (exp_w name_w h d) (exp_w name_w (head_of o) x) in
      ap (generics_given 0) (append_assoc (exp_w name_w h d) (exp_w name_w (head_of o) x) r)
      ∙ exp-generics d h _ (exp_w name_w (head_of o) x ++ r) small q.1 (omega arith)
      ∙ ap (λ g. pick (ltb h 2) 1 0 + g) (exp-generics x (head_of o) _ r (head_small o) q.2 (omega arith) ∙ rw (head-high o) (zero-add (generics_given 0 r)))

  pub exps-generics : (gs : List (Exp Name)) (r : List ℕ) → All (SpeltE 2) gs → length (list_w (exp_w name_w 0) gs) ≤ 16384 → generics_given 0 (list_w (exp_w name_w 0) gs ++ r) ≡ length gs + generics_given 0 r
  unfolding list_w All pick
  exps-generics [] r q b = omega arith
  exps-generics (x ∷ gs) r q b =
      let m = length-append (exp_w name_w 0 x) (list_w (exp_w name_w 0) gs) in
      let z = exp-generics x 0 2 (list_w (exp_w name_w 0) gs ++ r) (omega arith) q.0 (omega arith) in
      let y = exps-generics gs r q.1 (omega arith) in
      ap (generics_given 0) (append_assoc (exp_w name_w 0 x) (list_w (exp_w name_w 0) gs) r) ∙ z ∙ rw y (one_more (length gs) (generics_given 0 r))
    where
      one_more : (a b : ℕ) → pick (ltb 0 2) 1 0 + (a + b) ≡ suc a + b
      one_more a b = omega arith

  pub exps-given : (K : ℕ) (gs : List (Exp Name)) (r : List ℕ) → 2 < K → All (SpeltE 2) gs → length (list_w (exp_w name_w 0) gs) ≤ 16384 → given K (list_w (exp_w name_w 0) gs ++ r) ≡ given K r
  unfolding list_w All
  exps-given K [] r l q b = refl
  exps-given K (x ∷ gs) r l q b =
      let m = length-append (exp_w name_w 0 x) (list_w (exp_w name_w 0) gs) in
      ap (given K) (append_assoc (exp_w name_w 0 x) (list_w (exp_w name_w 0) gs) r)
      ∙ given-low K (exp_w name_w 0 x) (list_w (exp_w name_w 0) gs ++ r) l (exp-low x 0 2 (omega arith) q.0 (omega arith))
      ∙ exps-given K gs r l q.1 (omega arith)

  -- ---- arguments of kind K, counted as those of kind J

  module _ (J K : ℕ) (low : 3 < K) (high : K < 6) where
    in-call : in_call K ≡ true
    unfolding in_call pick
    in-call = rw (ne_eqb K 3 (λ z. omega arith)) (lt-ltb K 6 (omega arith))

    arg-given : (a : Arg Name) (r : List ℕ) → 2 < J → SpeltA a → length (arg_w name_w K a) ≤ 16384 → given J (arg_w name_w K a ++ r) ≡ pick (eqb K J) 1 0 + given J r
    unfolding arg_w AllArg given pick
    arg-given (whole n) r l q b =
        let small : 0 < 8 = omega arith in
        rw (kind-of K 0 (name_w n) small (name-fits s few K 0 small n q), in-call)
    arg-given (part n e) r l q b =
        let small : 1 < 8 = omega arith in
        rw (kind-of K 1 (name_w n) small (name-fits s few K 1 small n q.0), in-call) (ap (λ g. pick (eqb K J) 1 0 + g) (given-low J (exp_w name_w 0 e) r l (exp-low e 0 2 (omega arith) q.1 (omega arith))))

    pub args-other : (args : List (Arg Name)) (r : List ℕ) → 2 < J → (K ≡ J → ⊥) → All SpeltA args → length (list_w (arg_w name_w K) args) ≤ 16384 → given J (list_w (arg_w name_w K) args ++ r) ≡ given J r
    unfolding list_w All pick
    args-other [] r l n q b = refl
    args-other (x ∷ args) r l n q b =
        let m = length-append (arg_w name_w K x) (list_w (arg_w name_w K) args) in
        ap (given J) (append_assoc (arg_w name_w K x) (list_w (arg_w name_w K) args) r)
        ∙ arg-given x (list_w (arg_w name_w K) args ++ r) l q.0 (omega arith)
        ∙ rw (ne_eqb K J n, zero-add (given J (list_w (arg_w name_w K) args ++ r))) (args-other args r l n q.1 (omega arith))

    pub args-given : (args : List (Arg Name)) (r : List ℕ) → K ≡ J → All SpeltA args → length (list_w (arg_w name_w K) args) ≤ 16384 → given J (list_w (arg_w name_w K) args ++ r) ≡ length args + given J r
    unfolding list_w All pick
    args-given [] r n q b = omega arith
    args-given (x ∷ args) r n q b =
        let m = length-append (arg_w name_w K x) (list_w (arg_w name_w K) args) in
        let y = args-given args r n q.1 (omega arith) in
        ap (given J) (append_assoc (arg_w name_w K x) (list_w (arg_w name_w K) args) r)
        ∙ arg-given x (list_w (arg_w name_w K) args ++ r) (omega arith) q.0 (omega arith)
        ∙ rw (eq-eqb K J n, y) (omega arith)

    pub args-generics : (args : List (Arg Name)) (r : List ℕ) → All SpeltA args → generics_given 0 r ≡ 0 → generics_given 0 (list_w (arg_w name_w K) args ++ r) ≡ 0
    unfolding list_w arg_w All AllArg generics_given pick
    args-generics [] r q e = e
    args-generics (whole n ∷ args) r q e =
        let small : 0 < 8 = omega arith in
        let z : 3 ≤ K = omega arith in
        rw (kind-of K 0 (name_w n) small (name-fits s few K 0 small n q.0), le-ltb K 3 z)
    args-generics (part n x ∷ args) r q e =
        let small : 1 < 8 = omega arith in
        let z : 3 ≤ K = omega arith in
        rw (kind-of K 1 (name_w n) small (name-fits s few K 1 small n q.0.0), le-ltb K 3 z)
