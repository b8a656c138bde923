-- Laws of gathering the headings, and of finding main. Assumes nothing.
use Rattle.std.specs.Prelude.{◌≡◌, refl, Bool, true, false, cond, List, [], ◌∷◌, map, ℕ, ◌+◌, ◌<◌, ◌≤◌, eqb, length, get_or, set, drop, filter, Some, None}
use Rattle.std.proofs.Common.{sym, ap, arith, drop_of_length-le}
use borrow.Author.Tests.{lt-ltb, le-ltb}
use Rattle.rules.specs.Text.{bytes, pick}
use Rattle.rules.specs.Outcome.{ok, refuse, ◌>>=◌, at, need}
use Rattle.tape.specs.Layout.{kind_of, BLOCK, GENERIC}
use Rattle.tape.specs.Written.{put}
use Rattle.sweep.specs.Spelling.{place_of, letters_of}
use Rattle.sweep.specs.Sweep.{heading, headings, titles, firsts, main_in, Finds}
use Rattle.sweep.proofs.Laws.Counts.{first-of}

-- ---- gathering the words t, one after another: a row a is filled up to n, and the words from i on are to come

module _ (t : List ℕ) (i : ℕ) (h : i < length t) where
  module _ (p : ℕ → Bool) where
    pub wanted-no : p (get_or t i 0) ≡ false → filter p (drop i t) ≡ filter p (drop (i + 1) t)
    wanted-no f = rw (first-of t i h) (rw f)

    pub wanted-yes : p (get_or t i 0) ≡ true → filter p (drop i t) ≡ get_or t i 0 ∷ filter p (drop (i + 1) t)
    wanted-yes f = rw (first-of t i h) (rw f)

    pub wanted-kept : p (get_or t i 0) ≡ true → (a : List ℕ) (n : ℕ) → put (set a n (get_or t i 0)) (n + 1) (filter p (drop (i + 1) t)) ≡ put a n (filter p (drop i t))
    unfolding put
    wanted-kept f a n = sym (rw (wanted-yes f))

    pub wanted-more : p (get_or t i 0) ≡ true → (n : ℕ) → n + 1 + length (filter p (drop (i + 1) t)) ≡ n + length (filter p (drop i t))
    wanted-more f n = let z = ap length (wanted-yes f) in omega arith

  module _ (b : Bool) (e : b ≡ heading (get_or t i 0)) where
    pub firsts-skip : b ≡ false → (a : List ℕ) (m n : ℕ) → put a m (firsts n (drop (i + 1) t)) ≡ put a m (firsts n (drop i t))
    unfolding firsts pick
    firsts-skip f a m n = sym (rw (first-of t i h, ← e, f))

    module _ (f : b ≡ true) (c : Bool) (g : c ≡ eqb (kind_of (get_or t i 0)) BLOCK) where
      pub firsts-pass : c ≡ false → (a : List ℕ) (m n : ℕ) → put a m (firsts (n + 1) (drop (i + 1) t)) ≡ put a m (firsts n (drop i t))
      unfolding firsts pick
      firsts-pass o a m n = sym (rw (first-of t i h, ← e, f, ← g, o))

      pub firsts-keep : c ≡ true → (a : List ℕ) (m n : ℕ) → put (set a m n) (m + 1) (firsts (n + 1) (drop (i + 1) t)) ≡ put a m (firsts n (drop i t))
      unfolding firsts pick put
      firsts-keep o a m n = sym (rw (first-of t i h, ← e, f, ← g, o))

module _ (t : List ℕ) (i : ℕ) (h : length t ≤ i) where
  pub wanted-end : (p : ℕ → Bool) (a : List ℕ) (n : ℕ) → put a n (filter p (drop i t)) ≡ a
  unfolding put
  wanted-end p a n = rw (drop_of_length-le t h)

  pub wanted-none : (p : ℕ → Bool) (n : ℕ) → n + length (filter p (drop i t)) ≡ n
  wanted-none p n = rw (drop_of_length-le t h) (omega arith)

  pub firsts-end : (a : List ℕ) (m n : ℕ) → put a m (firsts n (drop i t)) ≡ a
  unfolding firsts put
  firsts-end a m n = rw (drop_of_length-le t h)

-- what is gathered
pub headings-are : (ws : List ℕ) → filter heading ws ≡ headings ws
unfolding headings pick
headings-are [] = refl
headings-are (w ∷ ws) = go (heading w) (headings-are ws)
  where
    go : (b : Bool) → filter heading ws ≡ headings ws → cond b (w ∷ filter heading ws) (filter heading ws) ≡ pick b (w ∷ headings ws) (headings ws)
    go true e = ap (λ xs. w ∷ xs) e
    go false e = e

pub titles-are : (ws : List ℕ) → filter (λ w. eqb (kind_of w) BLOCK) ws ≡ titles ws
unfolding titles pick
titles-are [] = refl
titles-are (w ∷ ws) = go (eqb (kind_of w) BLOCK) (titles-are ws)
  where
    go : (b : Bool) → filter (λ w. eqb (kind_of w) BLOCK) ws ≡ titles ws → cond b (w ∷ filter (λ w. eqb (kind_of w) BLOCK) ws) (filter (λ w. eqb (kind_of w) BLOCK) ws) ≡ pick b (w ∷ titles ws) (titles ws)
    go true e = ap (λ xs. w ∷ xs) e
    go false e = e

-- ---- main

module _ (s H F N : List ℕ) where
  pub main-missing : Finds (bytes "main") (map (letters_of s) N) None → main_in s H F N ≡ refuse 9 (length s)
  unfolding main_in ◌>>=◌ at need
  main-missing h = rw (le-ltb _ _ h)

  module _ {m : ℕ} (h : Finds (bytes "main") (map (letters_of s) N) (Some m)) (b : Bool) (g : b ≡ eqb (kind_of (get_or H (get_or F m 0 + 1) 0)) GENERIC) where
    pub main-generic : b ≡ true → main_in s H F N ≡ refuse 9 (place_of (get_or N m 0))
    unfolding main_in ◌>>=◌ at need
    main-generic t = rw (← h.0, lt-ltb _ _ h.1, ← g, t)

    pub main-plain : b ≡ false → main_in s H F N ≡ ok m
    unfolding main_in ◌>>=◌ at need
    main-plain t = rw (← h.0, lt-ltb _ _ h.1, ← g, t)
