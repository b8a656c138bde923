-- Where an expression stops, and types on the tape. Assumes nothing.
use Rattle.std.specs.Prelude.{◌≡◌, refl, ℕ, suc, ◌+◌, ◌≤◌, ◌<◌, Bool, true, false, ◌&&◌, List, ◌∷◌, ◌++◌, length, get_or, leb, ltb, ℤ, pos, negsuc, ◌-ℤ◌, Option, Some, None, Result, Ok, Err}
use Rattle.std.proofs.Common.{sym, ap, ◌∙◌, subst, arith, length-append, le-ltb, le-leb}
use Rattle.std.proofs.lemmas.Bool.{lt-leb}
use Rattle.rules.specs.Outcome.{Out, ok, refuse, ◌>>=◌, need}
use Rattle.rules.specs.Syntax.{Exp, Sort, wire, vector, num, Callee}
use Rattle.rules.specs.Values.{Env, eval, Shape, shape, width}
use Rattle.rules.proofs.Laws.Spelt.{All, AllSort}
use Rattle.tape.specs.Layout.{kind_of, head_in, head-of}
use Rattle.tape.specs.Encoding.{exp_w, list_w, sort_w}
use Rattle.tape.specs.Resolved.{slot_w}
use Rattle.tape.specs.Lies.{Lies, lies-first, lies-rest, lies-left, lies-right}
use Rattle.rules.specs.declared.Reason.{Reason}
use Rattle.rules.specs.declared.Reason.TheVariants.{OutOfRange, WrongVector}
use Rattle.rules.specs.Reasons.{number as number_of}
use Rattle.values.specs.declared.Bounds.{Bounds}
use Rattle.values.specs.declared.Size.{Size}
use Rattle.values.specs.Factors.{Grouped}
use Rattle.values.specs.Here.{goes_on, Sound, factor_w, row, factors-words, factors-sound}
use Rattle.values.specs.Taking.{leads, plain-some}
use Rattle.values.specs.Pairs.{HereTwo, both-bounds, bounds-refused, SaysTwo}

-- ---- where an expression stops

third : (a b c : Bool) → c ≡ false → a && b && c ≡ false
third true true c e = e
third true false c e = refl
third false b c e = refl

second : (a b c : Bool) → b ≡ false → a && b && c ≡ false
second true b c e = rw e
second false b c e = refl

-- at the end of its words
pub stops_end : (t : List ℕ) (i end : ℕ) → end ≤ i → goes_on t i end ≡ false
unfolding goes_on
stops_end t i end h = rw (le-ltb i end h)

-- at a word of another kind
pub stops-kind : (t : List ℕ) (i end : ℕ) → 2 < kind_of (get_or t i 0) → goes_on t i end ≡ false
unfolding goes_on
stops-kind t i end h = second (ltb i end) (leb (kind_of (get_or t i 0)) 2) _ (lt-leb _ _ h)

-- the first word of an expression
pub record Opens (t : List ℕ) (i : ℕ) (e : Exp ℕ) : Type 0 where
  pub kind : kind_of (get_or t i 0) ≤ 2
  pub head : head_in (get_or t i 0) < 2
  pub some : 0 < length (exp_w slot_w 0 e)

pub opens : {t : List ℕ} {i : ℕ} (e : Exp ℕ) → Grouped 2 e → Lies t i (exp_w slot_w 0 e) → length (exp_w slot_w 0 e) < 33554432 → Opens t i e
unfolding All list_w
opens {t} {i} e g l s =
    let r = row 0 e in
    let w : list_w factor_w (r.first ∷ r.others) ≡ exp_w slot_w 0 e = ap (list_w factor_w) (sym r.whole) ∙ factors-words 0 e in
    let a : All Sound (r.first ∷ r.others) = subst (All Sound) r.whole (factors-sound 0 2 e (omega arith) g) in
    let n = length-append (factor_w r.first) (list_w factor_w r.others) in
    let m : length (factor_w r.first) ≤ 33554432 = omega (arith, n, ap length w) in
    let d = leads t i r.first.head r.first.base a.0.head a.0.base m (lies-left (factor_w r.first) (list_w factor_w r.others) (subst (Lies t i) (sym w) l)) in
    record { kind = d.kind; head = omega (arith, d.head, r.mark); some = omega (arith, n, ap length w, plain-some r.first.head r.first.base a.0.base) }

pub stops_first : (t : List ℕ) (i end : ℕ) (e : Exp ℕ) → Grouped 2 e → Lies t i (exp_w slot_w 0 e) → length (exp_w slot_w 0 e) < 33554432 → goes_on t i end ≡ false
unfolding goes_on
stops_first t i end e g l s = third (ltb i end) (leb (kind_of (get_or t i 0)) 2) _ (lt-leb 2 (head_in (get_or t i 0)) (opens e g l s).head)

-- how far up, if not down
unfoldable pub apart_of : ℤ → Option ℕ
apart_of (pos k) = Some k
apart_of (negsuc k) = None

-- ---- a type on the tape: the words of a declaration of kind k, written as v

abbrev pub GroupedSort : Sort ℕ → Type 0
GroupedSort s = AllSort {C = Callee} (λ k. k < 48) (λ p c. Unit {0}) 0 s

pub record HereSort (t : List ℕ) (at end k v : ℕ) (s : Sort ℕ) : Type 0 where
  pub grouped : GroupedSort s
  pub value : v < 33554432
  pub lies : Lies t at (sort_w slot_w k v s)
  pub within : at + length (sort_w slot_w k v s) ≤ end
  pub limit : end ≤ length t
  pub short : end < 33554432
  pub stops : goes_on t (at + length (sort_w slot_w k v s)) end ≡ false

pub record WrittenSort (t : List ℕ) (at end : ℕ) : Type 0 where
  pub kind : ℕ
  pub value : ℕ
  pub sort : Sort ℕ
  pub here : HereSort t at end kind value sort

-- the rules' outcome, and the place after the words
unfoldable pub Sizes : Out Shape → ℕ → Result Size Reason → Type 0
Sizes o n (Ok r) = (o ≡ ok (record { low = r.low; size = r.wires })) × (r.next ≡ n)
Sizes o n (Err e) = o ≡ refuse (number_of e) 0

-- from bounds in hand
unfoldable pub size_of : ℤ → ℤ → Out Shape
size_of x y = do
  n ← width (x -ℤ y)
  ok (record { low = y; size = n })

-- ---- what the code meets

-- the head of the declaration's word
unfoldable pub head_for : Sort ℕ → ℕ
head_for wire = 0
head_for (vector a b) = 1
head_for num = 2

sort-some : (k v : ℕ) (s : Sort ℕ) → 0 < length (sort_w slot_w k v s)
unfolding sort_w
sort-some k v wire = omega arith
sort-some k v (vector a b) = omega arith
sort-some k v num = omega arith

pub sort-room : {t : List ℕ} {at end k v : ℕ} {s : Sort ℕ} → HereSort t at end k v s → (at < length t) × (at < 33554432)
sort-room {k = k} {v = v} {s = s} h = (omega (arith, h.within, h.limit, sort-some k v s), omega (arith, h.within, h.short, sort-some k v s))

sort-head : {t : List ℕ} {at end k v : ℕ} (s : Sort ℕ) → HereSort t at end k v s → head_in (get_or t at 0) ≡ head_for s
unfolding sort_w head_for
sort-head {k = k} {v = v} wire h = rw (lies-first h.lies) (head-of k 0 v (omega arith) h.value)
sort-head {k = k} {v = v} (vector a b) h = rw (lies-first h.lies) (head-of k 1 v (omega arith) h.value)
sort-head {k = k} {v = v} num h = rw (lies-first h.lies) (head-of k 2 v (omega arith) h.value)

module _ (ρ : Env) {t : List ℕ} {at end k v : ℕ} where
  pub is-wire : (s : Sort ℕ) → HereSort t at end k v s → head_in (get_or t at 0) ≡ 0 → Sizes (shape ρ s) (at + length (sort_w slot_w k v s)) (Ok (record { low = pos 0; wires = 1; next = at + 1 }))
  unfolding sort_w head_for Sizes shape
  is-wire wire h e = (refl, refl)
  is-wire (vector a b) h e = absurd (omega (arith, sort-head (vector a b) h))
  is-wire num h e = absurd (omega (arith, sort-head num h))

  pub is-num : (s : Sort ℕ) → HereSort t at end k v s → head_in (get_or t at 0) ≡ 2 → Sizes (shape ρ s) (at + length (sort_w slot_w k v s)) (Ok (record { low = pos 0; wires = 0; next = at + 1 }))
  unfolding sort_w head_for Sizes shape
  is-num wire h e = absurd (omega (arith, sort-head wire h))
  is-num (vector a b) h e = absurd (omega (arith, sort-head (vector a b) h))
  is-num num h e = (refl, refl)

-- a vector: its bounds one after the other
pub record Pair (t : List ℕ) (at end k v : ℕ) (s : Sort ℕ) : Type 0 where
  pub first : Exp ℕ
  pub second : Exp ℕ
  pub is : s ≡ vector first second
  pub here : HereTwo t (at + 1) end first second
  pub after : at + 1 + length (exp_w slot_w 0 first) + length (exp_w slot_w 0 second) ≡ at + length (sort_w slot_w k v s)

pair-vector : {t : List ℕ} {at end k v : ℕ} (a b : Exp ℕ) → HereSort t at end k v (vector a b) → Pair t at end k v (vector a b)
unfolding sort_w AllSort
pair-vector {t} {at} {end} {k} {v} a b h =
    let n = length-append (exp_w slot_w 0 a) (exp_w slot_w 0 b) in
    let l = lies-rest h.lies in
    let m = lies-right (exp_w slot_w 0 a) (exp_w slot_w 0 b) l in
    let e : at + 1 + length (exp_w slot_w 0 a) + length (exp_w slot_w 0 b) ≡ at + suc (length (exp_w slot_w 0 a ++ exp_w slot_w 0 b)) = omega (arith, n) in
    record {
      first = a;
      second = b;
      is = refl;
      here = record {
        first = record {
          grouped = h.grouped.0;
          lies = lies-left (exp_w slot_w 0 a) (exp_w slot_w 0 b) l;
          within = omega (arith, h.within, n);
          limit = h.limit;
          short = h.short;
          stops = stops_first t _ end b h.grouped.1 m (omega (arith, h.within, h.short, n));
        };
        second = record {
          grouped = h.grouped.1;
          lies = m;
          within = omega (arith, h.within, n);
          limit = h.limit;
          short = h.short;
          stops = subst (λ i. goes_on t i end ≡ false) (sym e) h.stops;
        };
      };
      after = e;
    }

pub pair : {t : List ℕ} {at end k v : ℕ} (s : Sort ℕ) → HereSort t at end k v s → (head_in (get_or t at 0) ≡ 0 → ⊥) → (head_in (get_or t at 0) ≡ 2 → ⊥) → Pair t at end k v s
unfolding head_for
pair wire h n m = absurd (n (sort-head wire h))
pair (vector a b) h n m = pair-vector a b h
pair num h n m = absurd (m (sort-head num h))

module _ (ρ : Env) {t : List ℕ} {at end k v : ℕ} (s : Sort ℕ) (b : Pair t at end k v s) where
  wrong_pair : both-bounds ρ b.first b.second ≡ refuse 10 0 → shape ρ s ≡ refuse 10 0
  unfolding shape ◌>>=◌ size_of
  wrong_pair e = rw b.is (bounds-refused ρ b.first b.second (λ x y. size_of x y) e)

  pub vector-size : {x y : ℤ} → eval ρ b.first ≡ ok x → eval ρ b.second ≡ ok y → shape ρ s ≡ size_of x y
  unfolding shape ◌>>=◌ size_of
  vector-size e f = rw (b.is, e, f)

  pub not-sized : (m n : ℕ) → SaysTwo ρ b.first b.second m None → Sizes (shape ρ s) n (Err OutOfRange)
  unfolding SaysTwo Sizes
  not-sized m n e = wrong_pair e

  pub vector-sized : (r : Bounds) (z : Result Size Reason) → SaysTwo ρ b.first b.second (at + 1 + length (exp_w slot_w 0 b.first) + length (exp_w slot_w 0 b.second)) (Some r)
      → Sizes (size_of r.first r.last) r.next z → Sizes (shape ρ s) (at + length (sort_w slot_w k v s)) z
  unfolding SaysTwo
  vector-sized r z e h = rw (vector-size e.0 e.1, sym (e.2 ∙ b.after)) h

-- ---- a vector's size from its bounds

abbrev From : ℤ → ℤ → Out Shape
From y d = width d >>= λ n. ok (record { low = y; size = n })

from-below : (y d : ℤ) → None ≡ apart_of d → From y d ≡ refuse 11 0
unfolding apart_of width ◌>>=◌
from-below y (pos k) e = let z : ◌≡◌ {A = ℕ} 0 1 = cc in absurd (omega arith)
from-below y (negsuc k) e = refl

from-over : (y d : ℤ) {k : ℕ} → Some k ≡ apart_of d → 256 ≤ k → From y d ≡ refuse 11 0
unfolding apart_of width ◌>>=◌ need
from-over y (pos j) {k} e h = let q : k ≡ j = cc in rw (lt-leb (suc j) 256 (omega arith))
from-over y (negsuc j) e h = let z : ◌≡◌ {A = ℕ} 0 1 = cc in absurd (omega arith)

from-fits : (y d : ℤ) {k : ℕ} → Some k ≡ apart_of d → k < 256 → From y d ≡ ok (record { low = y; size = k + 1 })
unfolding apart_of width ◌>>=◌ need
from-fits y (pos j) {k} e h = let q : k ≡ j = cc in let r : k + 1 ≡ suc j = omega arith in rw (r, le-leb (suc j) 256 (omega arith))
from-fits y (negsuc j) e h = let z : ◌≡◌ {A = ℕ} 0 1 = cc in absurd (omega arith)

module _ (x y : ℤ) (n : ℕ) where
  pub size_below : None ≡ apart_of (x -ℤ y) → Sizes (size_of x y) n (Err WrongVector)
  unfolding Sizes size_of
  size_below e = from-below y (x -ℤ y) e

  pub size-over : {k : ℕ} → Some k ≡ apart_of (x -ℤ y) → 256 ≤ k → Sizes (size_of x y) n (Err WrongVector)
  unfolding Sizes size_of
  size-over e h = from-over y (x -ℤ y) e h

  pub size_fits : {k : ℕ} → Some k ≡ apart_of (x -ℤ y) → k < 256 → Sizes (size_of x y) n (Ok (record { low = y; wires = k + 1; next = n }))
  unfolding Sizes size_of
  size_fits e h = (from-fits y (x -ℤ y) e h, refl)
