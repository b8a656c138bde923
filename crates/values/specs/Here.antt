-- The words of an expression's factors, and where on the tape they stand. Assumes nothing.
use Rattle.std.specs.Prelude.{◌≡◌, refl, ℕ, ◌+◌, ◌-◌, ◌/◌, ◌%◌, ◌≤◌, ◌<◌, Bool, true, false, ◌&&◌, List, [], ◌∷◌, ◌++◌, length, get_or, eqb, leb, ltb, ℤ, Option, Some, None, option_map}
use Rattle.std.proofs.Common.{sym, ap, ◌∙◌, arith, append_assoc, append-nil, eqb-true}
use Rattle.std.proofs.lemmas.Bool.{eqb-false}
use Rattle.rules.specs.Text.{pick}
use Rattle.rules.specs.Outcome.{Out, ok, refuse}
use Rattle.rules.specs.Syntax.{Op, plus, minus, times, Exp, number, name, neg, group, both}
use Rattle.rules.proofs.Laws.Spelt.{All, AllExp}
use Rattle.rules.proofs.Laws.Outcomes.{ok-inj, no_ok}
use Rattle.tape.specs.Layout.{kind_of, head_in, head_of, flip}
use Rattle.tape.specs.Encoding.{exp_w, list_w}
use Rattle.tape.specs.Resolved.{slot_w}
use Rattle.tape.specs.Lies.{Lies}
use Rattle.values.specs.declared.Valued.{Valued}
use Rattle.values.specs.Numbers.{outcome}
use Rattle.values.specs.Factors.{Factor, factors, Grouped, flip-half}

-- ---- a word's kind, as the code asks for it

pub of-kind : {k : ℕ} {b : Bool} (n : ℕ) → b ≡ eqb k n → b ≡ true → k ≡ n
of-kind {k} n e t = eqb-true k n (sym e ∙ t)

pub not-kind : {k : ℕ} {b : Bool} (n : ℕ) → b ≡ eqb k n → b ≡ false → k ≡ n → ⊥
not-kind {k} n e f q = eqb-false k n (sym e ∙ f) q

-- ---- an expression on the tape

-- whether the word at i is a factor that goes on with an expression
unfoldable pub goes_on : List ℕ → ℕ → ℕ → Bool
goes_on t i end = ltb i end && leb (kind_of (get_or t i 0)) 2 && leb 2 (head_in (get_or t i 0))

-- the words of e lie at `at`, and nothing that goes on with it comes after it, up to `end`
pub record Here (t : List ℕ) (at end : ℕ) (e : Exp ℕ) : Type 0 where
  pub grouped : Grouped 2 e
  pub lies : Lies t at (exp_w slot_w 0 e)
  pub within : at + length (exp_w slot_w 0 e) ≤ end
  pub limit : end ≤ length t
  pub short : end < 33554432
  pub stops : goes_on t (at + length (exp_w slot_w 0 e)) end ≡ false

-- some expression lies there
pub record Written (t : List ℕ) (at end : ℕ) : Type 0 where
  pub exp : Exp ℕ
  pub here : Here t at end exp

-- the rules' outcome, and the place after the words
unfoldable pub Says : Out ℤ → ℕ → Option Valued → Type 0
Says o n (Some r) = (o ≡ ok r.value) × (r.next ≡ n)
Says o n None = o ≡ refuse 10 0

-- ---- a factor on the tape

unfoldable pub Plain : Exp ℕ → Type 0
Plain (number v) = v < 1000000
Plain (name n) = n < 48
Plain (neg e) = ⊥
Plain (group e) = Grouped 2 e
Plain (both o d e) = ⊥

pub record Sound (f : Factor) : Type 0 where
  pub head : f.head < 8
  pub base : Plain f.base

abbrev pub factor_w : Factor → List ℕ
factor_w f = exp_w slot_w f.head f.base

pub record HereFactor (t : List ℕ) (at next : ℕ) (f : Factor) : Type 0 where
  pub sound : Sound f
  pub lies : Lies t at (factor_w f)
  pub after : next ≡ at + length (factor_w f)
  pub limit : next ≤ length t
  pub short : next < 33554432

pub record WrittenFactor (t : List ℕ) (at next : ℕ) : Type 0 where
  pub factor : Factor
  pub here : HereFactor t at next factor

-- ---- the factors of an expression

list-append : (f : Factor → List ℕ) (a b : List Factor) → list_w f (a ++ b) ≡ list_w f a ++ list_w f b
unfolding list_w
list-append f [] b = refl
list-append f (x ∷ a) b = rw (list-append f a b) (sym (append_assoc (f x) (list_w f a) (list_w f b)))

one_word : (f : Factor) → list_w factor_w (f ∷ []) ≡ factor_w f
unfolding list_w
one_word f = append-nil (factor_w f)

pub factors-words : (h : ℕ) (e : Exp ℕ) → list_w factor_w (factors h e) ≡ exp_w slot_w h e
unfolding factors exp_w
factors-words h (number v) = one_word (record { head = h; base = number v })
factors-words h (name n) = one_word (record { head = h; base = name n })
factors-words h (neg e) = factors-words (flip h) e
factors-words h (group e) = one_word (record { head = h; base = group e })
factors-words h (both o d e) = list-append factor_w (factors h d) (factors (head_of o) e) ∙ rw (factors-words h d, factors-words (head_of o) e)

all_append : (P : Factor → Type 0) (a b : List Factor) → All P a → All P b → All P (a ++ b)
unfolding All
all_append P [] b p q = q
all_append P (x ∷ a) b p q = (p.0, all_append P a b p.1 q)

pub flip-below : (h : ℕ) → h < 8 → flip h < 8
unfolding flip pick
flip-below h l = go (eqb (h % 2) 0) refl
  where
    go : (c : Bool) → eqb (h % 2) 0 ≡ c → pick c (h + 1) (h - 1) < 8
    go true e = omega (arith, eqb-true (h % 2) 0 e)
    go false e = omega (arith, eqb-false (h % 2) 0 e)

flip-above : (h : ℕ) → 2 ≤ h → 2 ≤ flip h
unfolding flip pick
flip-above h l = go (eqb (h % 2) 0) refl
  where
    go : (c : Bool) → eqb (h % 2) 0 ≡ c → 2 ≤ pick c (h + 1) (h - 1)
    go true e = omega (arith, eqb-true (h % 2) 0 e)
    go false e = omega (arith, eqb-false (h % 2) 0 e)

pub head-below : (o : Op) → head_of o < 8
unfolding head_of
head-below plus = omega arith
head-below minus = omega arith
head-below times = omega arith

head-above : (o : Op) → 2 ≤ head_of o
unfolding head_of
head-above plus = omega arith
head-above minus = omega arith
head-above times = omega arith

pub factors-sound : (h l : ℕ) (e : Exp ℕ) → h < 8 → Grouped l e → All Sound (factors h e)
unfolding factors All AllExp Plain
factors-sound h l (number v) k p = (record { head = k; base = p }, tt)
factors-sound h l (name n) k p = (record { head = k; base = p }, tt)
factors-sound h l (neg e) k p = factors-sound (flip h) 0 e (flip-below h k) p
factors-sound h l (group e) k p = (record { head = k; base = p }, tt)
factors-sound h l (both o d e) k p = all_append Sound (factors h d) (factors (head_of o) e) (factors-sound h _ d k p.1) (factors-sound (head_of o) _ e (head-below o) p.2)

abbrev pub Joins : Factor → Type 0
Joins f = 2 ≤ f.head

later-join : (h : ℕ) (e : Exp ℕ) → 2 ≤ h → All Joins (factors h e)
unfolding factors All
later-join h (number v) k = (k, tt)
later-join h (name n) k = (k, tt)
later-join h (neg e) k = later-join (flip h) e (flip-above h k)
later-join h (group e) k = (k, tt)
later-join h (both o d e) k = all_append Joins (factors h d) (factors (head_of o) e) (later-join h d k) (later-join (head_of o) e (head-above o))

-- a first factor, and others that go on with it
pub record Row (h : ℕ) (fs : List Factor) : Type 0 where
  pub first : Factor
  pub others : List Factor
  pub whole : fs ≡ first ∷ others
  pub join : All Joins others
  pub mark : first.head / 2 ≡ h / 2

row-append : (h : ℕ) (a b : List Factor) → Row h a → All Joins b → Row h (a ++ b)
row-append h a b r j = record { first = r.first; others = r.others ++ b; whole = ap (λ l. l ++ b) r.whole; join = all_append Joins r.others b r.join j; mark = r.mark }

pub row : (h : ℕ) (e : Exp ℕ) → Row h (factors h e)
unfolding factors All
row h (number v) = record { first = record { head = h; base = number v }; others = []; whole = refl; join = tt; mark = refl }
row h (name n) = record { first = record { head = h; base = name n }; others = []; whole = refl; join = tt; mark = refl }
row h (neg e) = let r = row (flip h) e in record { first = r.first; others = r.others; whole = r.whole; join = r.join; mark = r.mark ∙ flip-half h }
row h (group e) = record { first = record { head = h; base = group e }; others = []; whole = refl; join = tt; mark = refl }
row h (both o d e) = row-append h (factors h d) (factors (head_of o) e) (row h d) (later-join (head_of o) e (head-above o))

-- ---- numbers and values

abbrev pub number_in : Option Valued → Option ℤ
number_in r = option_map (λ v. v.value) r

unfoldable pub value_at : Option ℤ → ℕ → Option Valued
value_at (Some z) n = Some (record { value = z; next = n })
value_at None n = None

pub says-number : (v : Option ℤ) (n : ℕ) (r : Option Valued) → Says (outcome v) n r → number_in r ≡ v
unfolding Says outcome
says-number (Some z) n (Some r) s = ap Some (sym (ok-inj s.0))
says-number (Some z) n None s = absurd (no_ok (sym s))
says-number None n (Some r) s = absurd (no_ok s.0)
says-number None n None s = refl

pub says-value : (v : Option ℤ) (n : ℕ) → Says (outcome v) n (value_at v n)
unfolding Says value_at outcome
says-value (Some z) n = (refl, refl)
says-value None n = refl
