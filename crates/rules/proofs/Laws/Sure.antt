-- What readers give: from a place within the text a reader goes on within the text, never back, and what it gives is as the text spells
-- it, or it refuses 3, 4 or 5 at a place within the text. Assumes nothing.
use Rattle.std.specs.Prelude.{◌≡◌, Bool, ◌||◌, take, drop, ltb, eqb}
use Rattle.std.proofs.Math.Path.{refl}
use Rattle.std.proofs.Common.{sym, ap, subst, length-drop, length-take-le, eqb→eq}
use Prim.Native.Nat.{ℕ, zero, suc, ◌+◌, ◌-◌, ◌≤◌, ◌<◌}
use Prim.Native.String.{String}
use native.Mathlib.Omega.{arith}
use Rattle.std.proofs.Math.Bool.{true, false}
use mathlib.Core.List.{List, [], ◌∷◌}
use Rattle.std.proofs.Math.ListN.{length}
use Rattle.std.proofs.Math.Dec.{T, ltb→lt}
use Rattle.rules.specs.declared.Word.{Word}
use Rattle.rules.specs.declared.Word.TheVariants.{Name as Named, Number}
use Rattle.rules.specs.Text.{pick}
use Rattle.rules.specs.Outcome.{Out, ok, refuse, ◌>>=◌ as ◌and-then◌}
use Rattle.rules.specs.Words.{word_at, key}
use Rattle.rules.specs.Syntax.{Name, plus, minus, times, neg, group, both, Sort, wire, vector, num, Arg, whole, part, end, call, loop, before, Decl, Spelled}
use Rattle.rules.specs.Readers.{Reader, ◌>>=◌, give, refused, marked, spelling, named as named_of, is_next, after, mark as mark_of, a_name, if_next, rest_up_to, some, any}
use Rattle.rules.specs.Grammar.{Expr, Body, factored, joined, is_sum, is_product, op_of, chain_up_to, chain, expression_of, factor, expression, bounds, declared, vectored, a_type, port, local, generics, ports, argument, arguments, calling, looping, stated, statement, body, a_block, blocks}
use Rattle.rules.proofs.Laws.Outcomes.{no_ok, ok-inj}
use Rattle.rules.proofs.Laws.Placed.{Placed, bad, named, number, mark, the_end, word-placed, pick-of}
use Rattle.rules.proofs.Laws.Sized.{Sized, word-sized, named as short-name, number as small-number}
use Rattle.rules.proofs.Laws.Spelt.{SpeltName, SpeltCall, SpeltBlock, All, strength, AllExp, all_above, AllSort, AllArg, AllStmts, before-all, AllDecl}

pub data Sure (len at : ℕ) {A : Type 0} (P : A → Type 0) : Out (A × ℕ) → Type 0 where
  on : {a : A} {n : ℕ} → at ≤ n → n ≤ len → P a → Sure len at P (ok (a, n))
  off : {n p : ℕ} → 3 ≤ n → n ≤ 5 → p ≤ len → Sure len at P (refuse n p)

pub sure-ok : {A : Type 0} {P : A → Type 0} {len at : ℕ} {o : Out (A × ℕ)} {r : A × ℕ} → Sure len at P o → o ≡ ok r → P r.0
sure-ok {P = P} (on a b c) e = subst (λ r. P r.0) (ok-inj e) c
sure-ok (off a b c) e = absurd (no_ok e)

-- ---- how readers are put together

pub sure-from : {A : Type 0} {P : A → Type 0} {len at n : ℕ} {o : Out (A × ℕ)} → at ≤ n → Sure len n P o → Sure len at P o
sure-from {at = at} h (on {n = m} a b c) = let z : at ≤ m = omega arith in on z b c
sure-from h (off a b c) = off a b c

pub sure-then : {A B : Type 0} {P : A → Type 0} {Q : B → Type 0} {len at : ℕ} {o : Out (A × ℕ)} (f : A → Reader B) → Sure len at P o
    → ((a : A) → P a → (n : ℕ) → n ≤ len → Sure len n Q (f a n)) → Sure len at Q (◌and-then◌ o (λ r. f r.0 r.1))
unfolding ◌and-then◌
sure-then f (on {a} {n} h k p) g = sure-from h (g a p n k)
sure-then f (off a b c) g = off a b c

module _ (s : List ℕ) where
  -- a reader that gives such things wherever it starts
  abbrev pub SureReader : {A : Type 0} → (A → Type 0) → Reader A → Type 0
  SureReader P r = (at : ℕ) → at ≤ length s → Sure (length s) at P (r at)

  pub sure-bind : {A B : Type 0} {P : A → Type 0} {Q : B → Type 0} {m : Reader A} {f : A → Reader B} → SureReader P m → ((a : A) → P a → SureReader Q (f a)) → SureReader Q (m >>= f)
  unfolding ◌>>=◌
  sure-bind {f = f} p q at h = sure-then f (p at h) q

  pub sure-give : {A : Type 0} {P : A → Type 0} (a : A) → P a → SureReader P (give a)
  unfolding give
  sure-give a p at h = let z : at ≤ at = omega arith in on z h p

  sure-no : {A : Type 0} {P : A → Type 0} (n p : ℕ) → 3 ≤ n → n ≤ 5 → p ≤ length s → SureReader P (refused n p)
  sure-no n p a b c at h = off a b c

  sure-pick : {A : Type 0} {P : A → Type 0} (c : Bool) {x y : Reader A} → (T c → SureReader P x) → SureReader P y → SureReader P (pick c x y)
  unfolding pick
  sure-pick true p q = p tt
  sure-pick false p q = q

  -- a refusal of this number at a place within the text
  no-3 : {A : Type 0} {P : A → Type 0} {at p : ℕ} → p ≤ length s → Sure (length s) at P (refuse 3 p)
  no-3 h = off {n = 3} (omega arith) (omega arith) h

  no-4 : {A : Type 0} {P : A → Type 0} {at p : ℕ} → p ≤ length s → Sure (length s) at P (refuse 4 p)
  no-4 h = off {n = 4} (omega arith) (omega arith) h

  -- ---- one word

  sure-marked : {A : Type 0} {P : A → Type 0} {at : ℕ} {w : Word} (f : ℕ → ℕ → Reader A) → Placed (length s) at w → ((b p : ℕ) → p ≤ length s → SureReader P (f b p))
      → Sure (length s) at P (marked w f)
  unfolding marked
  sure-marked f (bad h) g = no-3 h
  sure-marked f (named a b c) g = no-4 (omega arith)
  sure-marked f (number a b c) g = no-4 (omega arith)
  sure-marked f (mark {b} {p} {q} h k l) g = sure-from (omega arith) (g b p (omega arith) q l)
  sure-marked f (the_end h) g = sure-from h (g 0 (length s) (omega arith) (length s) (omega arith))

  sure-mark : (k : String) → SureReader (λ p. p ≤ length s) (mark_of s k)
  unfolding mark_of
  sure-mark k at h = sure-marked _ (word-placed s at h) λ b p l. sure-pick _ (λ _. sure-give p l) (sure-no 4 p (omega arith) (omega arith) l)

  -- a name of the text, from p to q
  spelt : (p q : ℕ) → p < q → q ≤ length s → q ≤ p + 16 → SpeltName s (spelling s p q)
  spelt p q a b c =
      let l : length (take (q - p) (drop p s)) ≡ q - p = length-take-le (q - p) (drop p s) (omega (arith, length-drop p s)) in
      record { within = omega arith; some = omega arith; few = omega arith; letters = ap (λ n. take n (drop p s)) (sym l) }

  short : {p q : ℕ} → Sized (Named p q) → q ≤ p + 16
  short (short-name h) = h

  small : {p q v : ℕ} → Sized (Number p q v) → v < 1000000
  small (small-number h) = h

  sure-named : {at : ℕ} {w : Word} → Placed (length s) at w → Sized w → Sure (length s) at (SpeltName s) (named_of s w)
  unfolding named_of
  sure-named (bad h) z = no-3 h
  sure-named {at} (named {p} {q} a b c) z = let y : at ≤ q = omega arith in on y c (spelt p q b c (short z))
  sure-named (number a b c) z = no-4 (omega arith)
  sure-named (mark h k l) z = no-4 (omega arith)
  sure-named (the_end h) z = no-4 (omega arith)

  sure-a_name : SureReader (SpeltName s) (a_name s)
  unfolding a_name
  sure-a_name at h = sure-named (word-placed s at h) (word-sized s at)

  after_next : {at : ℕ} (k : String) {w : Word} → Placed (length s) at w → T (is_next k w) → (at ≤ after w) × (after w ≤ length s)
  unfolding is_next after
  after_next k (bad h) t = absurd t
  after_next k (named a b c) t = absurd t
  after_next k (number a b c) t = absurd t
  after_next k (mark a b c) t = (omega arith, c)
  after_next k (the_end h) t = (h, omega arith)

  sure-if_next : {A : Type 0} {P : A → Type 0} (k : String) {x y : Reader A} → SureReader P x → SureReader P y → SureReader P (if_next s k x y)
  unfolding if_next
  sure-if_next {P = P} k {x} {y} p q at h =
      pick-of (λ r. Sure (length s) at P (r at)) (is_next k (word_at s at)) (λ _. x (after (word_at s at))) y
      (λ t. let (a, b) = after_next k (word-placed s at h) t in sure-from a (p (after (word_at s at)) b)) (λ t. q at h)

  -- ---- lists: what holds of what is read after k items

  module _ {A B : Type 0} {P : ℕ → A → Type 0} (R : ℕ → B → Type 0) (none : B) (more : A → B → B) (item : ℕ → ℕ → Reader A) (sep close : String)
      (nil : (k : ℕ) → R k none) (cons : (k : ℕ) (a : A) (r : B) → P k a → R (suc k) r → R k (more a r)) (sure : (k p : ℕ) → p ≤ length s → SureReader (P k) (item k p)) where
    pub sure-rest_up_to : (bound k : ℕ) → SureReader (R k) (rest_up_to s none more item sep close bound k)
    unfolding rest_up_to
    sure-rest_up_to zero k at h = off {n = 4} {p = 0} (omega arith) (omega arith) (omega arith)
    sure-rest_up_to (suc bound) k at h = sure-marked _ (word-placed s at h) λ b p l.
        sure-pick _ (λ _. sure-bind (sure k p l) λ a x. sure-bind (sure-rest_up_to bound (suc k)) λ r y. sure-give (more a r) (cons k a r x y))
        (sure-pick _ (λ _. sure-give none (nil k)) (sure-no 4 p (omega arith) (omega arith) l))

    pub sure-some : (k : ℕ) → SureReader (R k) (some s none more item sep close k)
    unfolding some
    sure-some k = sure-bind (sure k 0 (omega arith)) λ a x. sure-bind (sure-rest_up_to _ (suc k)) λ r y. sure-give (more a r) (cons k a r x y)

    pub sure-any : (k : ℕ) → SureReader (R k) (any s none more item sep close k)
    unfolding any
    sure-any k = sure-if_next close (sure-give none (nil k)) (sure-some k)

  -- lists whose items are not counted
  module _ {A : Type 0} {P : A → Type 0} (item : ℕ → ℕ → Reader A) (sep close : String) (sure : (k p : ℕ) → p ≤ length s → SureReader P (item k p)) where
    pub sure-list : (k : ℕ) → SureReader (All P) (any s [] ◌∷◌ item sep close k)
    unfolding All
    sure-list k = sure-any {P = λ _. P} (λ _. All P) [] ◌∷◌ item sep close (λ _. tt) (λ k a r x y. (x, y)) sure k

    pub sure-items : (k : ℕ) → SureReader (All P) (some s [] ◌∷◌ item sep close k)
    unfolding All
    sure-items k = sure-some {P = λ _. P} (λ _. All P) [] ◌∷◌ item sep close (λ _. tt) (λ k a r x y. (x, y)) sure k

  -- lists of names declared after k others
  abbrev Counted : {A : Type 0} → (A → Type 0) → ℕ → List A → Type 0
  Counted P k l = All P l × (k ≤ 48 → k + length l ≤ 48)

  -- ---- expressions

  abbrev SpeltAt : ℕ → Expr → Type 0
  SpeltAt l e = AllExp {C = Name} (SpeltName s) (SpeltCall s) (length s) l e

  abbrev SpeltExp : Expr → Type 0
  SpeltExp e = SpeltAt 2 e

  sure-factored : {at : ℕ} {w : Word} (f g : ℕ → Reader Expr) → Placed (length s) at w → Sized w → ((p : ℕ) → p ≤ length s → SureReader (SpeltAt 0) (f p)) → ((p : ℕ) → p ≤ length s → SureReader (SpeltAt 0) (g p))
      → Sure (length s) at (SpeltAt 0) (factored s w f g)
  unfolding factored AllExp
  sure-factored f g (bad h) z p q = no-3 h
  sure-factored {at} f g (named {p = x} {q = y} a b c) z p q = let l : at ≤ y = omega arith in on l c (spelt x y b c (short z))
  sure-factored {at} f g (number {q = y} a b c) z p q = let l : at ≤ y = omega arith in on l c (small z)
  sure-factored f g (mark {p = x} {q = y} a b c) z p q =
      sure-from (omega arith) (sure-pick _ (λ _. p x (omega arith)) (sure-pick _ (λ _. q x (omega arith)) (sure-no 4 x (omega arith) (omega arith) (omega arith))) y c)
  sure-factored f g (the_end h) z p q =
      sure-from h (sure-pick _ (λ _. p (length s) (omega arith)) (sure-pick _ (λ _. q (length s) (omega arith)) (sure-no 4 (length s) (omega arith) (omega arith) (omega arith))) (length s) (omega arith))

  sure-joined : {P : Expr → Type 0} {at : ℕ} {w : Word} (joins : ℕ → Bool) (f : ℕ → Reader Expr) (g : Reader Expr) → Placed (length s) at w → at ≤ length s → ((b : ℕ) → T (joins b) → SureReader P (f b)) → SureReader P g
      → Sure (length s) at P (joined joins w f g at)
  unfolding joined
  sure-joined {at = at} joins f g (bad h) l p q = q at l
  sure-joined {at = at} joins f g (named a b c) l p q = q at l
  sure-joined {at = at} joins f g (number a b c) l p q = q at l
  sure-joined {P} {at} joins f g (mark {b} {q = z} h k c) l p q =
      pick-of (λ r. Sure (length s) at P (r at)) (joins b) (λ _. f b z) g (λ t. sure-from (omega arith) (p b t z c)) (λ t. q at l)
  sure-joined {P} {at} joins f g (the_end h) l p q =
      pick-of (λ r. Sure (length s) at P (r at)) (joins 0) (λ _. f 0 (length s)) g (λ t. sure-from h (p 0 t (length s) (omega arith))) (λ t. q at l)

  -- marks of one strength join items of the level below
  module _ (l : ℕ) (joins : ℕ → Bool) (strong : (b : ℕ) → T (joins b) → strength (op_of b) ≡ suc l) (item : Reader Expr) (sure : SureReader (SpeltAt l) item) where
    sure-chain_up_to : (bound : ℕ) (e : Expr) → SpeltAt (suc l) e → SureReader (SpeltAt (suc l)) (chain_up_to s joins item bound e)
    unfolding chain_up_to AllExp
    sure-chain_up_to zero e x at h = off {n = 4} {p = 0} (omega arith) (omega arith) (omega arith)
    sure-chain_up_to (suc bound) e x at h =
        sure-joined joins _ _ (word-placed s at h) h
        (λ b t. sure-bind sure λ d y. let q = strong b t in let one : suc l - 1 ≡ l = omega arith in
        sure-chain_up_to bound (both (op_of b) e d) (rw (q, one) (omega arith, x, y)))
        (sure-give e x)

    pub sure-chain : SureReader (SpeltAt (suc l)) (chain s joins item)
    unfolding chain
    sure-chain = sure-bind sure λ e x. sure-chain_up_to _ e (all_above (SpeltName s) (SpeltCall s) (length s) l (suc l) e (omega arith) x)

  sum-strong : (b : ℕ) → T (is_sum b) → strength (op_of b) ≡ 2
  unfolding strength pick
  sum-strong b t = sum_is (eqb b (key "+")) (eqb b (key "-")) t
    where
      sum_is : (p m : Bool) → T (p || m) → strength (pick p plus (pick m minus times)) ≡ 2
      sum_is true m t = refl
      sum_is false true t = refl
      sum_is false false t = absurd t

  product-strong : (b : ℕ) → T (is_product b) → strength (op_of b) ≡ 1
  unfolding strength pick
  product-strong b t = rw (eqb→eq b (key "*") t) refl

  pub sure-term : (f : Reader Expr) → SureReader (SpeltAt 0) f → SureReader (SpeltAt 1) (chain s is_product f)
  sure-term f h = sure-chain 0 is_product product-strong f h

  sure-expression_of : (f : Reader Expr) → SureReader (SpeltAt 0) f → SureReader SpeltExp (expression_of s f)
  sure-expression_of f h = sure-chain 1 is_sum sum-strong (chain s is_product f) (sure-term f h)

  pub sure-factor : (left : ℕ) → SureReader (SpeltAt 0) (factor s left)
  unfolding factor AllExp
  sure-factor zero at h = sure-factored _ _ (word-placed s at h) (word-sized s at) (λ p l. sure-no 5 p (omega arith) (omega arith) l) (λ p l. sure-no 5 p (omega arith) (omega arith) l)
  sure-factor (suc left) at h = sure-factored _ _ (word-placed s at h) (word-sized s at)
      (λ p l. sure-bind (sure-factor left) λ e x. sure-give (neg e) x)
      (λ p l. sure-bind (sure-expression_of (factor s left) (sure-factor left)) λ e x. sure-bind (sure-mark ")") λ _ _. sure-give (group e) x)

  pub sure-expression : SureReader SpeltExp (expression s)
  sure-expression = sure-expression_of (factor s 15) (sure-factor 15)

  sure-bounds : SureReader (λ r. SpeltExp r.0 × SpeltExp r.1) (bounds s)
  unfolding bounds
  sure-bounds = sure-bind sure-expression λ a x. sure-bind (sure-mark "..") λ _ _. sure-bind sure-expression λ b y. sure-give (a, b) (x, y)

  -- ---- blocks, up to BEGIN

  abbrev SpeltSort : Sort Name → Type 0
  SpeltSort t = AllSort {C = Name} (SpeltName s) (SpeltCall s) (length s) t

  abbrev SpeltDecl : Decl Name → Type 0
  SpeltDecl d = AllDecl {C = Name} (SpeltName s) (SpeltName s) (SpeltCall s) (length s) d

  pub sure-declared : (k : ℕ) → SureReader (λ n. SpeltName s n × (k < 48)) (declared s k)
  unfolding declared
  sure-declared k = sure-bind sure-a_name λ n x. sure-pick (ltb k 48) (λ t. sure-give n (x, ltb→lt k 48 t)) (sure-no 5 n.place (omega arith) (omega arith) (omega (arith, x.within)))

  sure-vectored : SureReader SpeltSort (vectored s)
  unfolding vectored AllSort
  sure-vectored = sure-bind (sure-mark "(") λ _ _. sure-bind sure-bounds λ r x. sure-bind (sure-mark ")") λ _ _. sure-bind (sure-mark "OF") λ _ _. sure-bind (sure-mark "WIRE") λ _ _. sure-give (vector r.0 r.1) x

  sure-a_type : SureReader SpeltSort (a_type s)
  unfolding a_type AllSort
  sure-a_type = sure-if_next "VECTOR" sure-vectored (sure-bind (sure-mark "WIRE") λ _ _. sure-give wire tt)

  pub sure-port : (k p : ℕ) → SureReader (λ d. SpeltDecl d × (k < 48)) (port s k p)
  unfolding port
  sure-port k p = sure-bind (sure-declared k) λ n x. sure-bind (sure-mark ":") λ _ _. sure-bind sure-a_type λ t y. sure-give (record { name = n; sort = t }) (record { name = x.0; sort = y }, x.1)

  pub sure-local : (k p : ℕ) → SureReader (λ d. SpeltDecl d × (k < 48)) (local s k p)
  unfolding local AllSort
  sure-local k p = sure-bind (sure-declared k) λ n x. sure-bind (sure-mark ":") λ _ _. sure-bind {P = SpeltSort} (sure-if_next "NUM" (sure-give num tt) sure-a_type) λ t y. sure-bind (sure-mark ";") λ _ _. sure-give (record { name = n; sort = t }) (record { name = x.0; sort = y }, x.1)

  -- one more name declared
  one_more : {A : Type 0} (P : A → Type 0) (k : ℕ) (a : A) (l : List A) → P a × (k < 48) → Counted P (suc k) l → Counted P k (a ∷ l)
  unfolding All
  one_more P k a l x y = ((x.0, y.0), λ h. let z = y.1 (omega (arith, x.1)) in omega arith)

  no_more : {A : Type 0} (P : A → Type 0) (k : ℕ) → Counted {A = A} P k []
  unfolding All
  no_more P k = (tt, λ h. omega arith)

  sure-generics : SureReader (Counted (SpeltName s) 0) (generics s)
  unfolding generics
  sure-generics = sure-if_next "(" (sure-some {P = λ k n. SpeltName s n × (k < 48)} (Counted (SpeltName s)) [] ◌∷◌ _ "," ")" (no_more (SpeltName s)) (one_more (SpeltName s)) (λ k p l. sure-declared k) 0) (sure-give [] (no_more (SpeltName s) 0))

  sure-ports : (k : ℕ) → SureReader (Counted SpeltDecl k) (ports s k)
  unfolding ports
  sure-ports k = sure-bind (sure-mark "[") λ _ _. sure-any {P = λ k d. SpeltDecl d × (k < 48)} (Counted SpeltDecl) [] ◌∷◌ (port s) "," "]" (no_more SpeltDecl) (one_more SpeltDecl) (λ k p l. sure-port k p) k

  -- ---- statements

  abbrev SpeltArg : Arg Name → Type 0
  SpeltArg a = AllArg {C = Name} (SpeltName s) (SpeltCall s) (length s) a

  abbrev SpeltBody : Body → Type 0
  SpeltBody b = AllStmts (SpeltName s) (SpeltCall s) (length s) b

  pub sure-argument : SureReader SpeltArg (argument s)
  unfolding argument AllArg
  sure-argument = sure-bind sure-a_name λ n x. sure-if_next "(" (sure-bind sure-expression λ e y. sure-bind (sure-mark ")") λ _ _. sure-give (part n e) (x, y)) (sure-give (whole n) x)

  sure-arguments : SureReader (All SpeltArg) (arguments s)
  unfolding arguments
  sure-arguments = sure-bind (sure-mark "[") λ _ _. sure-list _ "," "]" (λ k p l. sure-argument) 0

  sure-calling : (n : Name) → SpeltName s n → SureReader SpeltBody (calling s n)
  unfolding calling AllStmts All
  sure-calling n x =
      sure-bind {P = All SpeltExp} (sure-if_next "(" (sure-items _ "," ")" (λ k p l. sure-expression) 0) (sure-give [] tt)) λ gs y.
      sure-bind sure-arguments λ ins z. sure-bind sure-arguments λ outs u. sure-give (call n.place n gs ins outs end) ((refl, x), y, z, u, tt)

  sure-looping : (inside : Reader Body) (p : ℕ) → p < length s → SureReader SpeltBody inside → SureReader SpeltBody (looping s inside p)
  unfolding looping AllStmts
  sure-looping inside p h f =
      sure-bind (sure-mark "FOR") λ _ _. sure-bind sure-a_name λ i x. sure-bind (sure-mark "=") λ _ _. sure-bind sure-bounds λ r y. sure-bind (sure-mark "BEGIN") λ _ _.
      sure-bind f λ b z. sure-give (loop p i r.0 r.1 b end) (h, x, y.0, y.1, z, tt)

  sure-stated : {at : ℕ} {w : Word} (f : ℕ → Reader Body) → Placed (length s) at w → Sized w → ((p : ℕ) → p < length s → SureReader SpeltBody (f p)) → Sure (length s) at SpeltBody (stated s w f)
  unfolding stated
  sure-stated f (bad h) z g = no-3 h
  sure-stated f (named {p} {q} a b c) z g = sure-from (omega arith) (sure-calling (spelling s p q) (spelt p q b c (short z)) q c)
  sure-stated f (number a b c) z g = no-4 (omega arith)
  sure-stated f (mark {p = x} {q = y} a b c) z g = sure-from (omega arith) (sure-pick _ (λ _. g x (omega arith)) (sure-no 4 x (omega arith) (omega arith) (omega arith)) y c)
  sure-stated f (the_end h) z g = sure-from h (sure-pick _ (λ t. absurd t) (sure-no 4 (length s) (omega arith) (omega arith) (omega arith)) (length s) (omega arith))

  sure-bodies : (stmt : Reader Body) → SureReader SpeltBody stmt → SureReader SpeltBody (any s end before (λ _ _. stmt) ";" "END" 0)
  unfolding AllStmts
  sure-bodies stmt f = sure-any {P = λ _. SpeltBody} (λ _. SpeltBody) end before _ ";" "END" (λ _. tt) (λ k a r x y. before-all (SpeltName s) (SpeltCall s) (length s) a r x y) (λ k p l. f) 0

  pub sure-statement : (left : ℕ) → SureReader SpeltBody (statement s left)
  unfolding statement
  sure-statement zero at h = sure-stated _ (word-placed s at h) (word-sized s at) (λ p l. sure-no 5 p (omega arith) (omega arith) (omega arith))
  sure-statement (suc left) at h = sure-stated _ (word-placed s at h) (word-sized s at) (λ p l. sure-looping _ p l (sure-bodies (statement s left) (sure-statement left)))

  pub sure-body : SureReader SpeltBody (body s)
  unfolding body
  sure-body = sure-bodies (statement s 8) (sure-statement 8)

  pub sure-a_block : (k p : ℕ) → p ≤ length s → SureReader (λ B. SpeltBlock s B × (k < 64)) (a_block s k p)
  unfolding a_block
  sure-a_block k p l =
      sure-pick (ltb k 64) (λ t.
      sure-bind sure-a_name λ n x. sure-bind sure-generics λ gs y. sure-bind (sure-ports (length gs)) λ ins z. sure-bind (sure-ports (length gs + length ins)) λ outs u.
      sure-bind (sure-rest_up_to {P = λ k d. SpeltDecl d × (k < 48)} (Counted SpeltDecl) [] ◌∷◌ (local s) "VAR" "BEGIN" (no_more SpeltDecl) (one_more SpeltDecl) (λ k p l. sure-local k p) _ (length gs + length ins + length outs)) λ vs v.
      sure-bind sure-body λ b w. sure-bind (sure-mark ";") λ _ _.
      let g₀ = y.1 (omega arith) in
      let g₁ = z.1 (omega arith) in
      let g₂ = u.1 (omega arith) in
      let g₃ = v.1 (omega arith) in
      sure-give _ (record { names = record { name = x; generics = y.0; inputs = z.0; outputs = u.0; locals = v.0; body = w }; few = g₃ }, ltb→lt k 64 t))
      (sure-no 5 p (omega arith) (omega arith) l)

  -- at most 64 blocks after k others
  abbrev Blocks : ℕ → Spelled → Type 0
  Blocks k Bs = All (SpeltBlock s) Bs × (k ≤ 64 → k + length Bs ≤ 64)

  pub sure-blocks : SureReader (λ Bs. All (SpeltBlock s) Bs × (length Bs ≤ 64)) (blocks s)
  unfolding blocks All
  sure-blocks =
      sure-bind (sure-mark "BLOCK") λ p l. sure-bind (sure-a_block 0 p l) λ b x.
      sure-bind (sure-rest_up_to {P = λ k B. SpeltBlock s B × (k < 64)} Blocks [] ◌∷◌ (a_block s) "BLOCK" "" (λ k. (tt, λ h. omega arith)) (λ k B r x y. ((x.0, y.0), λ h. let z = y.1 (omega (arith, x.1)) in omega arith)) sure-a_block _ 1) λ r y.
      let z = y.1 (omega arith) in
      sure-give (b ∷ r) ((x.0, y.0), omega arith)
