-- Things of one sort, one after another on the tape: their first words have a kind from lo to hi. Assumes nothing.
use Rattle.std.proofs.Math.Path.{◌≡◌, refl, sym, subst}
use Rattle.std.proofs.Common.{◌∙◌}
use Rattle.std.specs.Prelude.{ℕ, ◌+◌, ◌≤◌, ◌<◌, Bool, ◌&&◌, get_or, leb, ltb}
use native.Mathlib.Omega.{arith}
use Rattle.std.proofs.Math.Bool.{true, false}
use mathlib.Core.List.{List, [], ◌∷◌, ◌++◌}
use Rattle.std.proofs.Math.ListN.{length, length-append}
use borrow.Author.Tests.{lt-ltb, le-leb}
use Rattle.rules.proofs.Laws.Spelt.{All}
use Rattle.tape.specs.Layout.{kind_of}
use Rattle.tape.specs.Encoding.{list_w}
use Rattle.tape.specs.Lies.{Lies, lies-left, lies-right}
use Rattle.values.specs.Here.{goes_on}

-- whether the word at i, before `end`, has such a kind
unfoldable pub among_of : List ℕ → ℕ → ℕ → ℕ → ℕ → Bool
among_of t i end lo hi = ltb i end && leb lo (kind_of (get_or t i 0)) && leb (kind_of (get_or t i 0)) hi

-- a thing's first word: of such a kind, and none that goes on with an expression before it
pub record Starting (t : List ℕ) (i end lo hi : ℕ) : Type 0 where
  pub low : lo ≤ kind_of (get_or t i 0)
  pub high : kind_of (get_or t i 0) ≤ hi
  pub stops : goes_on t i end ≡ false

-- the words of one thing at i, and where they end nothing goes on
pub record Alone (t : List ℕ) (i end : ℕ) (ws : List ℕ) : Type 0 where
  pub lies : Lies t i ws
  pub within : i + length ws ≤ end
  pub limit : end ≤ length t
  pub short : end < 33554432
  pub stops : goes_on t (i + length ws) end ≡ false

module _ {A : Type 0} where
  pub record Listed (t : List ℕ) (i end lo hi : ℕ) (w : A → List ℕ) (xs : List A) : Type 0 where
    pub lies : Lies t i (list_w w xs)
    pub within : i + length (list_w w xs) ≤ end
    pub limit : end ≤ length t
    pub short : end < 33554432
    pub stops : goes_on t (i + length (list_w w xs)) end ≡ false
    pub over : among_of t (i + length (list_w w xs)) end lo hi ≡ false

  pub record Cons (xs : List A) : Type 0 where
    pub head : A
    pub tail : List A
    pub is : xs ≡ head ∷ tail

  -- every thing has words, the first of such a kind
  abbrev pub Starts : List ℕ → ℕ → ℕ → ℕ → (A → List ℕ) → (A → Type 0) → Type 0
  Starts t end lo hi w Item = (x : A) (i : ℕ) → Item x → Lies t i (w x) → i + length (w x) < 33554432 → Starting t i end lo hi × (0 < length (w x))

  module _ {t : List ℕ} {end lo hi : ℕ} {w : A → List ℕ} {Item : A → Type 0} (starts : Starts t end lo hi w Item) where
    pub starting : {i : ℕ} {x : A} {xs : List A} → Listed t i end lo hi w (x ∷ xs) → Item x → Starting t i end lo hi × (0 < length (w x))
    unfolding list_w
    starting {i} {x} {xs} l p = starts x i p (lies-left (w x) (list_w w xs) l.lies) (omega (arith, l.within, l.short, length-append (w x) (list_w w xs)))

    some : {i : ℕ} {x : A} {xs : List A} → Listed t i end lo hi w (x ∷ xs) → Item x → among_of t i end lo hi ≡ true
    unfolding list_w among_of
    some {i} {x} {xs} l p =
        let (s, n) = starting l p in
        let h : i < end = omega (arith, l.within, length-append (w x) (list_w w xs)) in
        rw (lt-ltb i end h, le-leb lo (kind_of (get_or t i 0)) s.low, le-leb (kind_of (get_or t i 0)) hi s.high)

    none : {i : ℕ} → Listed t i end lo hi w [] → among_of t i end lo hi ≡ false
    unfolding list_w
    none {i} l = let e : i + 0 ≡ i = omega arith in subst (λ k. among_of t k end lo hi ≡ false) e l.over

    ends : {i : ℕ} → Listed t i end lo hi w [] → goes_on t i end ≡ false
    unfolding list_w
    ends {i} l = let e : i + 0 ≡ i = omega arith in subst (λ k. goes_on t k end ≡ false) e l.stops

    pub rest : {i : ℕ} {x : A} {xs : List A} → Listed t i end lo hi w (x ∷ xs) → Listed t (i + length (w x)) end lo hi w xs
    unfolding list_w
    rest {i} {x} {xs} l =
        let n = length-append (w x) (list_w w xs) in
        let e : i + length (w x ++ list_w w xs) ≡ i + length (w x) + length (list_w w xs) = omega (arith, n) in
        record {
          lies = lies-right (w x) (list_w w xs) l.lies;
          within = omega (arith, l.within, n);
          limit = l.limit;
          short = l.short;
          stops = subst (λ k. goes_on t k end ≡ false) e l.stops;
          over = subst (λ k. among_of t k end lo hi ≡ false) e l.over;
        }

    after : {i : ℕ} (xs : List A) → Listed t i end lo hi w xs → All Item xs → goes_on t i end ≡ false
    unfolding All
    after [] l p = ends l
    after (x ∷ xs) l p = (starting l p.0).0.stops

    pub alone : {i : ℕ} {x : A} {xs : List A} → Listed t i end lo hi w (x ∷ xs) → All Item xs → Alone t i end (w x)
    unfolding list_w
    alone {i} {x} {xs} l p = record {
      lies = lies-left (w x) (list_w w xs) l.lies;
      within = omega (arith, l.within, length-append (w x) (list_w w xs));
      limit = l.limit;
      short = l.short;
      stops = after xs (rest l) p;
    }

    -- what the test says of the list
    pub more : {i : ℕ} (xs : List A) → Listed t i end lo hi w xs → among_of t i end lo hi ≡ true → Cons xs
    more [] l e = let z : true ≡ false = sym e ∙ none l in absurd (let y : ◌≡◌ {A = ℕ} 0 1 = cc in omega arith)
    more (x ∷ xs) l e = record { head = x; tail = xs; is = refl }

    pub no_more : {i : ℕ} (xs : List A) → Listed t i end lo hi w xs → All Item xs → among_of t i end lo hi ≡ false → xs ≡ []
    unfolding All
    no_more [] l p e = refl
    no_more (x ∷ xs) l p e = let z : true ≡ false = sym (some l p.0) ∙ e in absurd (let y : ◌≡◌ {A = ℕ} 0 1 = cc in omega arith)
