-- Things stored one after another; what lies past the end of the list is lost. Assumes nothing.
use Rattle.std.specs.Prelude.{◌≡◌, get_or, set, replicate, map}
use Rattle.std.proofs.Math.Path.{refl, ap}
use Rattle.std.proofs.Common.{sym, ◌∙◌, subst, append_assoc, add-one, take-append-drop, take-suc-set, drop-set-lt}
use Prim.Native.Nat.{ℕ, zero, suc, ◌+◌, ◌≤◌, ◌<◌}
use Rattle.std.proofs.Math.Nat.{add-zero}
use native.Mathlib.Omega.{arith}
use mathlib.Core.List.{List, [], ◌∷◌, ◌++◌}
use Rattle.std.proofs.Math.ListN.{length, length-set, take, drop}
use Rattle.std.proofs.lemmas.List.{length-replicate, get_or-replicate, set-set, set_comm}
use Rattle.std.proofs.Math.Seq.{get_or-set_same, get_or-set_other, map-set}

module _ {A : Type 0} where
  unfoldable pub laid : List A → ℕ → List A → List A
  laid t to [] = t
  laid t to (x ∷ xs) = laid (set t to x) (to + 1) xs

  pub laid-snoc : (xs t : List A) (to : ℕ) (x : A) → laid t to (xs ++ (x ∷ [])) ≡ set (laid t to xs) (to + length xs) x
  unfolding laid
  laid-snoc [] t to x = rw add-zero
  laid-snoc (y ∷ xs) t to x = let e : to + suc (length xs) ≡ to + 1 + length xs = omega arith in rw e (laid-snoc xs (set t to y) (to + 1) x)

  pub laid-append : (xs ys t : List A) (to : ℕ) → laid (laid t to xs) (to + length xs) ys ≡ laid t to (xs ++ ys)
  unfolding laid
  laid-append [] ys t to = rw add-zero
  laid-append (x ∷ xs) ys t to = let e : to + suc (length xs) ≡ to + 1 + length xs = omega arith in rw e (laid-append xs ys (set t to x) (to + 1))

  pub laid-length : (xs t : List A) (to : ℕ) → length (laid t to xs) ≡ length t
  unfolding laid
  laid-length [] t to = refl
  laid-length (x ∷ xs) t to = laid-length xs (set t to x) (to + 1) ∙ length-set t to x

  laid-before : (xs t : List A) (to k : ℕ) (d : A) → k < to → get_or (laid t to xs) k d ≡ get_or t k d
  unfolding laid
  laid-before [] t to k d h = refl
  laid-before (x ∷ xs) t to k d h = laid-before xs (set t to x) (to + 1) k d (omega arith) ∙ get_or-set_other t to k x d (λ e. omega (arith, e))

  laid-after : (xs t : List A) (to k : ℕ) (d : A) → to + length xs ≤ k → get_or (laid t to xs) k d ≡ get_or t k d
  unfolding laid
  laid-after [] t to k d h = refl
  laid-after (x ∷ xs) t to k d h = laid-after xs (set t to x) (to + 1) k d (omega arith) ∙ get_or-set_other t to k x d (λ e. omega (arith, e))

  pub laid-at : (xs t : List A) (to j : ℕ) (d : A) → to + j < length t → j < length xs → get_or (laid t to xs) (to + j) d ≡ get_or xs j d
  unfolding laid
  laid-at [] t to j d r h = absurd (omega arith)
  laid-at (x ∷ xs) t to zero d r h = let e : to + 0 ≡ to = omega arith in rw e (laid-before xs (set t to x) (to + 1) to d (omega arith) ∙ get_or-set_same t to x d (omega arith))
  laid-at (x ∷ xs) t to (suc j) d r h =
      let e : to + suc j ≡ to + 1 + j = omega arith in rw e (laid-at xs (set t to x) (to + 1) j d (omega (arith, length-set t to x)) (omega arith))

  past : (xs : List A) (k : ℕ) (d : A) → length xs ≤ k → get_or xs k d ≡ d
  past [] k d h = refl
  past (x ∷ xs) zero d h = absurd (omega arith)
  past (x ∷ xs) (suc k) d h = past xs k d (omega arith)

  -- a column of n, filled up with z
  abbrev pub column : ℕ → A → List A → List A
  column n z xs = laid (replicate n z) 0 xs

  pub column-at : (n : ℕ) (z : A) (xs : List A) (k : ℕ) → k < n → get_or (column n z xs) k z ≡ get_or xs k z
  column-at n z xs k h = go (native.Mathlib.Decide.dec_lt k (length xs))
    where
      go : Dec (k < length xs) → get_or (column n z xs) k z ≡ get_or xs k z
      go (yes l) = let e : 0 + k ≡ k = omega arith in subst (λ i. get_or (column n z xs) i z ≡ get_or xs k z) e (laid-at xs (replicate n z) 0 k z (omega (arith, length-replicate n z)) l)
      go (no l) = laid-after xs (replicate n z) 0 k z (omega arith) ∙ get_or-replicate n k z z h ∙ sym (past xs k z (omega arith))

  pub column-length : (n : ℕ) (z : A) (xs : List A) → length (column n z xs) ≡ n
  column-length n z xs = laid-length xs (replicate n z) 0 ∙ length-replicate n z

  set-zero : (n : ℕ) (z : A) (i : ℕ) → set (replicate n z) i z ≡ replicate n z
  set-zero zero z i = refl
  set-zero (suc n) z zero = refl
  set-zero (suc n) z (suc i) = ap (λ l. z ∷ l) (set-zero n z i)

  pub laid-zeros : (m n to : ℕ) (z : A) → laid (replicate n z) to (replicate m z) ≡ replicate n z
  unfolding laid
  laid-zeros zero n to z = refl
  laid-zeros (suc m) n to z = ap (λ l. laid l (to + 1) (replicate m z)) (set-zero n z to) ∙ laid-zeros m n (to + 1) z

  -- the first m of a column may be left at z
  pub column-after : (m n : ℕ) (z : A) (xs : List A) → laid (replicate n z) m xs ≡ column n z (replicate m z ++ xs)
  column-after m n z xs =
      let e : 0 + length (replicate m z) ≡ m = omega (arith, length-replicate m z) in
      sym (sym (laid-append (replicate m z) xs (replicate n z) 0) ∙ rw (laid-zeros m n 0 z, e))

  -- what stands where, if there is room
  pub laid-is : (xs t : List A) (to : ℕ) → to + length xs ≤ length t → laid t to xs ≡ take to t ++ (xs ++ drop (to + length xs) t)
  unfolding laid
  laid-is [] t to h = rw add-zero (sym (take-append-drop to t))
  laid-is (x ∷ xs) t to h =
      let e : to + 1 + length xs ≡ to + suc (length xs) = omega arith in
      let l : to + 1 + length xs ≤ length (set t to x) = simp length-set (omega arith) in
      let i : to < length t = omega arith in
      let j : to < to + suc (length xs) = omega arith in
      laid-is xs (set t to x) (to + 1) l ∙ rw (e, add-one, take-suc-set t to x i, drop-set-lt (to + suc (length xs)) t to x j, append_assoc)

  -- things stored in place of as many others
  pub laid-over : (xs ys t : List A) (to : ℕ) → length xs ≡ length ys → laid (laid t to xs) to ys ≡ laid t to ys
  unfolding laid
  laid-over [] [] t to e = refl
  laid-over [] (y ∷ ys) t to e = absurd (omega arith)
  laid-over (x ∷ xs) [] t to e = absurd (omega arith)
  laid-over (x ∷ xs) (y ∷ ys) t to e =
      ap (λ l. laid l (to + 1) ys) (sym (first xs (set t to x) (to + 1) to y (omega arith)) ∙ ap (λ l. laid l (to + 1) xs) (set-set t to x y)) ∙ laid-over xs ys (set t to y) (to + 1) (omega arith)
    where
      first : (xs t : List A) (to i : ℕ) (y : A) → i < to → laid (set t i y) to xs ≡ set (laid t to xs) i y
      first [] t to i y h = refl
      first (x ∷ xs) t to i y h = ap (λ l. laid l (to + 1) xs) (set_comm t i to y x (λ q. omega (arith, q))) ∙ first xs (set t to x) (to + 1) i y (omega arith)

-- one column of what is laid
pub map-laid : {A B : Type 0} (g : A → B) (xs t : List A) (to : ℕ) → map g (laid t to xs) ≡ laid (map g t) to (map g xs)
unfolding laid
map-laid g [] t to = refl
map-laid g (x ∷ xs) t to = map-laid g xs (set t to x) (to + 1) ∙ ap (λ l. laid l (to + 1) (map g xs)) (map-set g t to x)
