-- What begins at a place, by the tests that lead to it. Assumes nothing.
use Rattle.std.specs.Prelude.{◌≡◌, refl, ℕ, ◌+◌, ◌-◌, ◌<◌, ◌≤◌, suc, Bool, true, false, ◌&&◌, List, [], ◌∷◌, length, min, get_or, take, drop, eqb}
use Rattle.std.proofs.Common.{sym, ◌∙◌, arith, length-drop, drop-cons, add-one, add-zero, drop_of_length-le}
use Rattle.std.proofs.Math.Decide.{dec_lt}
use Rattle.std.proofs.lemmas.List.{take_all, get_or-drop}
use Rattle.std.proofs.lemmas.Bool.{eq-eqb, eqb-true, eqb-false}
use borrow.Author.Tests.{ne_eqb, lt-ltb, le-ltb}
use Rattle.std.proofs.lemmas.Bool.Decides.{nat_tests}
use Rattle.std.specs.Cmp.Lexicographic.{pointwise}
use Rattle.std.proofs.lemmas.List.Sums.{prefix_len-le-length}
use Rattle.std.specs.List.{prefix_len, starts_with}
use Rattle.rules.specs.Text.{pick}
use Rattle.rules.specs.Words.{in_word, is_mark, is_separator, spelled, begun, word_at, run}
use Rattle.rules.specs.declared.Word.TheVariants.{Bad, Mark}
use Rattle.words.proofs.Library.{run_is}

-- the rest of a text is what is dropped from its front
pub rest_is : (s : List ℕ) (i : ℕ) → take (length s - i) (drop i s) ≡ drop i s
rest_is s i = take_all (length s - i) (drop i s) (omega (arith, length-drop i s))

-- a run from within the text ends within it
pub within : (p : ℕ → Bool) (s : List ℕ) (i : ℕ) → i ≤ length s → i + prefix_len p (take (length s - i) (drop i s)) ≤ length s
within p s i h = rw (rest_is s i) (omega (arith, prefix_len-le-length p (drop i s), length-drop i s))

pub a_word : (s : List ℕ) (p n : ℕ) → true ≡ in_word (get_or s p 0) → n ≡ prefix_len in_word (take (length s - p) (drop p s)) → spelled p (p + n) (take (p + n - p) (drop p s)) ≡ begun s p
unfolding begun pick
a_word s p n e f =
    let m : p + n - p ≡ n = omega arith in
    let g : run in_word (drop p s) ≡ n = run_is in_word (drop p s) ∙ sym (f ∙ rw (rest_is s p)) in
    rw (m, ← e, g)

-- no mark is in a word
outside : (b : ℕ) → true ≡ is_mark b → in_word b ≡ false
outside b e = grind (arith, nat_tests)

pub a_mark : (s : List ℕ) (p k : ℕ) → true ≡ is_mark (get_or s p 0) → k ≡ get_or s p 0 → Mark k p (p + 1) ≡ begun s p
unfolding begun pick
a_mark s p k f g = rw (outside (get_or s p 0) f, ← f, g)

-- ---- two dots

turned : (n k : ℕ) → eqb k n ≡ eqb n k
turned n k = go (eqb n k) refl
  where
    go : (b : Bool) → eqb n k ≡ b → eqb k n ≡ b
    go true e = eq-eqb k n (sym (eqb-true n k e))
    go false e = ne_eqb k n (λ f. eqb-false n k e (sym f))

and_yes : (a b : Bool) → (a && (b && true)) ≡ (a && b)
and_yes true true = refl
and_yes true false = refl
and_yes false b = refl

by_two : (b : ℕ) (r : List ℕ) → pointwise eqb (46 ∷ 46 ∷ []) (take 2 (b ∷ r)) ≡ (eqb b 46 && eqb (get_or r 0 0) 46)
by_two b [] = rw (turned b 46)
by_two b (c ∷ r) = rw (turned b 46, turned c 46) (and_yes (eqb b 46) (eqb c 46))

next_is : (s : List ℕ) (p : ℕ) → get_or (drop p s) 0 0 ≡ get_or s p 0
next_is s p = get_or-drop p s 0 0 ∙ rw add-zero

dots_are : (s : List ℕ) (p : ℕ) → p < length s → starts_with eqb (take (length s - p) (drop p s)) (46 ∷ 46 ∷ []) ≡ (eqb (get_or s p 0) 46 && eqb (get_or s (p + 1) 0) 46)
dots_are s p h = rw (rest_is s p, drop-cons s p 0 h) (by_two (get_or s p 0) (drop (suc p) s) ∙ rw (next_is s (suc p), add-one))

module _ (s : List ℕ) (p : ℕ) (h : p < length s) (e : false ≡ in_word (get_or s p 0)) (f : false ≡ is_mark (get_or s p 0)) where
  pub two_dots : (k : ℕ) → true ≡ starts_with eqb (take (length s - p) (drop p s)) (46 ∷ 46 ∷ []) → k ≡ get_or s p 0 → Mark k p (p + 2) ≡ begun s p
  unfolding begun pick
  two_dots k d g = rw (← e, ← f, ← (dots_are s p h), ← d, g)

  pub a_bad : false ≡ starts_with eqb (take (length s - p) (drop p s)) (46 ∷ 46 ∷ []) → Bad p ≡ begun s p
  unfolding begun pick
  a_bad d = rw (← e, ← f, ← (dots_are s p h), ← d)

-- ---- the word at a place

module _ (s : List ℕ) (at p : ℕ) (e : p ≡ min at (length s) + prefix_len is_separator (take (length s - min at (length s)) (drop (min at (length s)) s))) where
  same_place : at ≤ length s → at + run is_separator (drop at s) ≡ p
  same_place h =
      let m : min at (length s) ≡ at = omega arith in
      rw (run_is is_separator (drop at s)) (sym (e ∙ rw (m, rest_is s at)))

  past : length s < at → p ≡ length s
  past h =
      let m : min at (length s) ≡ length s = omega arith in
      let z : length s ≤ length s = omega arith in
      e ∙ rw (m, rest_is s (length s), drop_of_length-le s z) (omega arith)

  pub begins : p < length s → begun s p ≡ word_at s at
  unfolding word_at pick
  begins h = go (dec_lt (length s) at)
    where
      go : Dec (length s < at) → begun s p ≡ word_at s at
      go (yes l) = absurd (omega (arith, past l))
      go (no l) = rw (same_place (omega arith), lt-ltb p (length s) h)

  pub ends : length s ≤ p → Mark 0 (length s) (length s) ≡ word_at s at
  unfolding word_at pick
  ends h = go (dec_lt (length s) at)
    where
      go : Dec (length s < at) → Mark 0 (length s) (length s) ≡ word_at s at
      go (yes l) = rw (le-ltb (at + run is_separator (drop at s)) (length s) (omega arith))
      go (no l) = rw (same_place (omega arith), le-ltb p (length s) h)

pub ruleset beginnings = (within, a_word, a_mark, two_dots, a_bad)

pub ruleset places = (within, begins, ends)
