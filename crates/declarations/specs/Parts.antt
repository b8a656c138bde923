-- Laws of the declarations of a block. Assumes nothing.
use Rattle.std.specs.Prelude.{◌≡◌, ℕ, ◌+◌, ◌≤◌, ◌<◌, true, false, Result, Ok, Err, IsErrAnd, List, length, set}
use Rattle.std.proofs.Math.Path.{refl}
use Rattle.std.proofs.Common.{◌∙◌, lt-ltb, le-ltb}
use Rattle.std.proofs.lemmas.Result.{err_from_is_err_and}
use Rattle.rules.specs.Text.{pick}
use Rattle.rules.specs.Outcome.{ok, refuse}
use Rattle.rules.specs.Words.{word_at}
use Rattle.rules.specs.Syntax.{wire, vector, num}
use Rattle.rules.specs.Readers.{give, spelling, after, mark, a_name, if_next}
use Rattle.rules.specs.Grammar.{bounds, declared, vectored, a_type, port, local}
use Rattle.tape.specs.Layout.{pack, GENERIC, spelt, name_w}
use Rattle.tape.specs.Encoding.{sort_w, decl_w, generic_w}
use Rattle.tape.specs.Written.{Got, Gives, none, stored, later, as-words}
use Rattle.tape.specs.declared.Read.{Read}
use Rattle.rules.specs.declared.Refusal.{Refusal}
use Rattle.marks.specs.Marks.{is_code}
use Rattle.marks.specs.Laws.Exits.{Refused}
use Rattle.marks.specs.Laws.One.{on, stop, there, absent, spelt_is}
use Rattle.expressions.specs.Words.{bounds_w}
use Rattle.declarations.specs.Kept.{Vectored, Vectors}

-- ---- names that are declared

module _ (s : List ℕ) (k at p q : ℕ) (n : a_name s at ≡ ok (spelling s p q, q)) where
  pub allowed : k < 48 → declared s k at ≡ ok (spelling s p q, q)
  unfolding declared pick give
  allowed h = on _ _ _ n ∙ rw (lt-ltb _ _ h)

  -- "49th name declared in a block"
  pub over : 48 ≤ k → declared s k at ≡ refuse 5 p
  unfolding declared pick
  over h = on _ _ _ n ∙ rw (le-ltb _ _ h)

pub generic-got : (s : List ℕ) (k at p q : ℕ) → declared s k at ≡ ok (spelling s p q, q) → q ≤ length s → {t u : List ℕ} {to : ℕ} → u ≡ set t to (pack GENERIC 0 (spelt p q))
    → Got none generic_w (declared s k at) t to u q (to + 1) 0
unfolding generic_w
generic-got s k at p q n l e = record { value = spelling s p q; reads = n; wrote = as-words (rw (spelt_is s p q l)) (stored e); counts = refl }

-- ---- types

module _ (s : List ℕ) (k v at : ℕ) where
  pub wire-got : is_code 10 (word_at s at) ≡ false → {p n : ℕ} → mark s "WIRE" at ≡ ok (p, n) → {t u : List ℕ} {to : ℕ} → u ≡ set t to (pack k 0 v) → Got none (sort_w name_w k v) (a_type s at) t to u n (to + 1) 0
  unfolding a_type sort_w give
  wire-got o m e = record { value = wire; reads = absent "VECTOR" s at _ _ o ∙ on _ _ _ m; wrote = stored e; counts = refl }

  pub wire-off : is_code 10 (word_at s at) ≡ false → {i j : ℕ} → mark s "WIRE" at ≡ refuse i j → a_type s at ≡ refuse i j
  unfolding a_type
  wire-off o m = absent "VECTOR" s at _ _ o ∙ stop _ _ _ m

  pub vector-gives : {a : ℕ} → (is_code 10 (word_at s at) ≡ true) × (after (word_at s at) ≡ a) → (t u w : List ℕ) (to : ℕ) → u ≡ set t to (pack k 1 v) → (r : Result Read Refusal) → Vectors s a u (to + 1) w r
      → Gives none (sort_w name_w k v) (a_type s at) t to w r
  unfolding a_type sort_w
  vector-gives o t u w to e (Ok r) d = record {
    value = vector d.low d.high;
    reads = there "VECTOR" s at _ _ o ∙ d.reads;
    wrote = later (stored e) d.wrote;
    counts = d.size;
  }
  vector-gives o t u w to e (Err r) d = there "VECTOR" s at _ _ o ∙ d

  pub num-got : {n : ℕ} → (is_code 12 (word_at s at) ≡ true) × (after (word_at s at) ≡ n) → {t u : List ℕ} {to : ℕ} → u ≡ set t to (pack k 2 v)
      → Got none (sort_w name_w k v) (if_next s "NUM" (give num) (a_type s) at) t to u n (to + 1) 0
  unfolding sort_w give
  num-got o e = record { value = num; reads = there "NUM" s at _ _ o; wrote = stored e; counts = refl }

-- the exit of a `?`: the refusal of a part is that of the whole
pub vectors_on : (s : List ℕ) (at : ℕ) (t : List ℕ) (to : ℕ) (u : List ℕ) (r : Result Read Refusal) (e : Refusal) → IsErrAnd r (λ y. y ≡ e) → Refused (vectored s at) e → Vectors s at t to u r
vectors_on s at t to u r e h g = let p = err_from_is_err_and r h in rw (p.1, p.2) g

module _ (s : List ℕ) (at : ℕ) {x a : ℕ} (o : mark s "(" at ≡ ok (x, a)) where
  pub bounds-off : {i j : ℕ} → bounds s a ≡ refuse i j → vectored s at ≡ refuse i j
  unfolding vectored
  bounds-off d = on _ _ _ o ∙ stop _ _ _ d

  module _ {t : List ℕ} {to : ℕ} {u : List ℕ} {n m c : ℕ} (d : Got none bounds_w (bounds s a) t to u n m c) where
    pub close-off : {i j : ℕ} → mark s ")" n ≡ refuse i j → vectored s at ≡ refuse i j
    unfolding vectored
    close-off e = on _ _ _ o ∙ on _ _ _ d.reads ∙ stop _ _ _ e

    module _ {y b : ℕ} (e : mark s ")" n ≡ ok (y, b)) where
      pub of-off : {i j : ℕ} → mark s "OF" b ≡ refuse i j → vectored s at ≡ refuse i j
      unfolding vectored
      of-off f = on _ _ _ o ∙ on _ _ _ d.reads ∙ on _ _ _ e ∙ stop _ _ _ f

      module _ {z g : ℕ} (f : mark s "OF" b ≡ ok (z, g)) where
        pub kind-off : {i j : ℕ} → mark s "WIRE" g ≡ refuse i j → vectored s at ≡ refuse i j
        unfolding vectored
        kind-off h = on _ _ _ o ∙ on _ _ _ d.reads ∙ on _ _ _ e ∙ on _ _ _ f ∙ stop _ _ _ h

        pub vectored-got : {i j : ℕ} → mark s "WIRE" g ≡ ok (i, j) → Vectored s at t to u j m c
        unfolding vectored bounds_w give
        vectored-got h = record {
          low = d.value.0;
          high = d.value.1;
          reads = on _ _ _ o ∙ on _ _ _ d.reads ∙ on _ _ _ e ∙ on _ _ _ f ∙ on _ _ _ h;
          wrote = d.wrote;
          size = d.counts;
        }

-- ---- ports and declarations

-- the place of the mark before it does not matter
pub port-any : (s : List ℕ) (k p q at : ℕ) → port s k p at ≡ port s k q at
unfolding port
port-any s k p q at = refl

pub local-any : (s : List ℕ) (k p q at : ℕ) → local s k p at ≡ local s k q at
unfolding local
local-any s k p q at = refl

module _ (s : List ℕ) (k i at p q : ℕ) (n : declared s i at ≡ ok (spelling s p q, q)) (l : q ≤ length s) {x a : ℕ} (c : mark s ":" q ≡ ok (x, a)) where
  pub port-off : {j y : ℕ} → a_type s a ≡ refuse j y → port s i 0 at ≡ refuse j y
  unfolding port
  port-off e = on _ _ _ n ∙ on _ _ _ c ∙ stop _ _ _ e

  pub port-gives : (t : List ℕ) (to : ℕ) (u : List ℕ) (r : Result Read Refusal) → Gives none (sort_w name_w k (spelt p q)) (a_type s a) t to u r → Gives none (decl_w name_w k) (port s i 0 at) t to u r
  unfolding port decl_w give
  port-gives t to u (Ok r) e = record {
    value = record { name = spelling s p q; sort = e.value };
    reads = on _ _ _ n ∙ on _ _ _ c ∙ on _ _ _ e.reads;
    wrote = as-words (rw (spelt_is s p q l)) e.wrote;
    counts = e.counts;
  }
  port-gives t to u (Err r) e = port-off e

  pub sort-off : {j y : ℕ} → if_next s "NUM" (give num) (a_type s) a ≡ refuse j y → local s i 0 at ≡ refuse j y
  unfolding local
  sort-off e = on _ _ _ n ∙ on _ _ _ c ∙ stop _ _ _ e

  module _ {t u : List ℕ} {to m z d : ℕ} (e : Got none (sort_w name_w k (spelt p q)) (if_next s "NUM" (give num) (a_type s) a) t to u m z d) where
    pub local-off : {j y : ℕ} → mark s ";" m ≡ refuse j y → local s i 0 at ≡ refuse j y
    unfolding local
    local-off f = on _ _ _ n ∙ on _ _ _ c ∙ on _ _ _ e.reads ∙ stop _ _ _ f

    pub local-got : {j y : ℕ} → mark s ";" m ≡ ok (j, y) → Got none (decl_w name_w k) (local s i 0 at) t to u y z d
    unfolding local decl_w give
    local-got f = record {
      value = record { name = spelling s p q; sort = e.value };
      reads = on _ _ _ n ∙ on _ _ _ c ∙ on _ _ _ e.reads ∙ on _ _ _ f;
      wrote = as-words (rw (spelt_is s p q l)) e.wrote;
      counts = e.counts;
    }
