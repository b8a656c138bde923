-- The words of a statement's own parts: none of them begins a statement or a body. Assumes nothing.
use Rattle.std.specs.Prelude.{◌≡◌, refl, ℕ, suc, ◌+◌, ◌≤◌, ◌<◌, List, [], ◌∷◌, ◌++◌, ◌⊎◌, length, get_or, Bool, true, false, ◌||◌, eqb}
use Rattle.std.proofs.Common.{sym, ap, ◌∙◌, subst, arith, inl, inr, length-append, eqb-true}
use Rattle.std.proofs.lemmas.Bool.Decides.{nat_tests}
use Rattle.rules.specs.Syntax.{Exp, number, name, neg, group, both, Arg, whole, part}
use Rattle.rules.proofs.Laws.Spelt.{All, AllExp, AllArg}
use Rattle.tape.specs.Layout.{pack, kind_of, kind-of, flip, head_of}
use Rattle.tape.specs.Encoding.{exp_w, arg_w, list_w}
use Rattle.tape.specs.Resolved.{slot_w}
use Rattle.tape.specs.Lies.{Lies, lies-first, lies-rest}
use Rattle.values.specs.Factors.{Grouped}
use Rattle.values.specs.Here.{flip-below, head-below}
use Rattle.frames.specs.Args.{GroupedArg}
use Rattle.frames.specs.Lists.{value_w}
use Rattle.unfold.specs.Statements.{Stop}

-- a word that begins a statement or a body
abbrev pub Loud : ℕ → Type 0
Loud k = (k ≡ 3) ⊎ ((k ≡ 6) ⊎ (k ≡ 8))

abbrev pub is_loud : ℕ → Bool
is_loud k = eqb k 3 || (eqb k 6 || eqb k 8)

pub loud-is : (k : ℕ) → is_loud k ≡ true → Loud k
loud-is k e = go (eqb k 3) (eqb k 6) refl refl e
  where
    go : (a b : Bool) → eqb k 3 ≡ a → eqb k 6 ≡ b → (a || (b || eqb k 8)) ≡ true → Loud k
    go true b p q e = inl (eqb-true k 3 p)
    go false true p q e = inr (inl (eqb-true k 6 q))
    go false false p q e = inr (inr (eqb-true k 8 e))

abbrev pub Soft : ℕ → Type 0
Soft w = (kind_of w ≡ 3 → ⊥) × (kind_of w ≡ 6 → ⊥) × (kind_of w ≡ 8 → ⊥)

pub soft-is : (w : ℕ) → is_loud (kind_of w) ≡ false → Soft w
soft-is w e = ((λ q. loud-not (kind_of w) (inl q) e), (λ q. loud-not (kind_of w) (inr (inl q)) e), (λ q. loud-not (kind_of w) (inr (inr q)) e))
  where
    loud-not : (k : ℕ) → Loud k → is_loud k ≡ false → ⊥
    loud-not k l e = grind (arith, nat_tests)

abbrev pub Quiet : List ℕ → Type 0
Quiet ws = All Soft ws

-- a word of another kind
pub soft : (k h v : ℕ) → h < 8 → v < 33554432 → (k ≡ 3 → ⊥) → (k ≡ 6 → ⊥) → (k ≡ 8 → ⊥) → Soft (pack k h v)
soft k h v a b x y z = let e = sym (kind-of k h v a b) in ((λ q. x (e ∙ q)), (λ q. y (e ∙ q)), (λ q. z (e ∙ q)))

pub quiet-append : (a b : List ℕ) → Quiet a → Quiet b → Quiet (a ++ b)
unfolding All
quiet-append [] b p q = q
quiet-append (x ∷ a) b p q = (p.0, quiet-append a b p.1 q)

pub quiet-exp : (h l : ℕ) (e : Exp ℕ) → h < 8 → Grouped l e → length (exp_w slot_w h e) < 33554432 → Quiet (exp_w slot_w h e)
unfolding exp_w All AllExp
quiet-exp h l (number v) a g s = (soft 0 h v a (omega arith) (λ e. omega arith) (λ e. omega arith) (λ e. omega arith), tt)
quiet-exp h l (name n) a g s = (soft 1 h n a (omega arith) (λ e. omega arith) (λ e. omega arith) (λ e. omega arith), tt)
quiet-exp h l (neg e) a g s = quiet-exp (flip h) 0 e (flip-below h a) g s
quiet-exp h l (group e) a g s = (soft 2 h (length (exp_w slot_w 0 e)) a (omega arith) (λ e. omega arith) (λ e. omega arith) (λ e. omega arith), quiet-exp 0 2 e (omega arith) g (omega arith))
quiet-exp h l (both o d e) a g s =
    let n = length-append (exp_w slot_w h d) (exp_w slot_w (head_of o) e) in
    quiet-append (exp_w slot_w h d) (exp_w slot_w (head_of o) e) (quiet-exp h _ d a g.1 (omega (arith, n))) (quiet-exp (head_of o) _ e (head-below o) g.2 (omega (arith, n)))

-- an argument's kind
other : {k m : ℕ} → (4 ≡ m → ⊥) → (5 ≡ m → ⊥) → (k ≡ 4) ⊎ (k ≡ 5) → k ≡ m → ⊥
other x y (inl c) e = x (sym c ∙ e)
other x y (inr c) e = y (sym c ∙ e)

quiet-arg : (k : ℕ) (a : Arg ℕ) → (k ≡ 4) ⊎ (k ≡ 5) → GroupedArg a → length (arg_w slot_w k a) < 33554432 → Quiet (arg_w slot_w k a)
unfolding arg_w All AllArg
quiet-arg k (whole x) c g s = (soft k 0 x (omega arith) (omega arith) (other (λ e. omega arith) (λ e. omega arith) c) (other (λ e. omega arith) (λ e. omega arith) c) (other (λ e. omega arith) (λ e. omega arith) c), tt)
quiet-arg k (part x e) c g s = (soft k 1 x (omega arith) (omega (arith, g.0)) (other (λ e. omega arith) (λ e. omega arith) c) (other (λ e. omega arith) (λ e. omega arith) c) (other (λ e. omega arith) (λ e. omega arith) c), quiet-exp 0 2 e (omega arith) g.1 (omega arith))

pub quiet-args : (k : ℕ) (xs : List (Arg ℕ)) → (k ≡ 4) ⊎ (k ≡ 5) → All GroupedArg xs → length (list_w (arg_w slot_w k) xs) < 33554432 → Quiet (list_w (arg_w slot_w k) xs)
unfolding list_w All
quiet-args k [] c g s = tt
quiet-args k (x ∷ xs) c g s =
    let n = length-append (arg_w slot_w k x) (list_w (arg_w slot_w k) xs) in
    quiet-append (arg_w slot_w k x) (list_w (arg_w slot_w k) xs) (quiet-arg k x c g.0 (omega (arith, n))) (quiet-args k xs c g.1 (omega (arith, n)))

pub quiet-values : (es : List (Exp ℕ)) → All (Grouped 2) es → length (list_w value_w es) < 33554432 → Quiet (list_w value_w es)
unfolding list_w All
quiet-values [] g s = tt
quiet-values (e ∷ es) g s =
    let n = length-append (value_w e) (list_w value_w es) in
    quiet-append (value_w e) (list_w value_w es) (quiet-exp 0 2 e (omega arith) g.0 (omega (arith, n))) (quiet-values es g.1 (omega (arith, n)))

-- ---- quiet words from i on, and then the end or a loud one

pub record Calm (t : List ℕ) (i last : ℕ) (ws : List ℕ) : Type 0 where
  pub lies : Lies t i ws
  pub quiet : Quiet ws
  pub within : i + length ws ≤ last
  pub limit : last ≤ length t
  pub stop : Stop t last Loud (i + length ws)

pub record WrittenCalm (t : List ℕ) (i last : ℕ) : Type 0 where
  pub words : List ℕ
  pub calm : Calm t i last words

-- at i, with such words left
pub record Ahead (t : List ℕ) (at last : ℕ) (ws : List ℕ) (i : ℕ) : Type 0 where
  pub left : List ℕ
  pub calm : Calm t i last left
  pub ends : i + length left ≡ at + length ws

pub ahead-begin : {t : List ℕ} {at last : ℕ} {ws : List ℕ} → Calm t at last ws → Ahead t at last ws at
ahead-begin {ws = ws} c = record { left = ws; calm = c; ends = refl }

-- the end was reached, or a loud word
pub ahead-end : {t : List ℕ} {at last : ℕ} {ws : List ℕ} {i : ℕ} → Ahead t at last ws i → (last ≤ i) ⊎ Loud (kind_of (get_or t i 0)) → i ≡ at + length ws
unfolding All
ahead-end {t} {at} {last} {ws} {i} a s = go a.left a.calm a.ends s
  where
    go : (l : List ℕ) → Calm t i last l → i + length l ≡ at + length ws → (last ≤ i) ⊎ Loud (kind_of (get_or t i 0)) → i ≡ at + length ws
    go [] c e s = omega (arith, e)
    go (w ∷ l) c e (inl h) = absurd (omega (arith, c.within))
    go (w ∷ l) c e (inr (inl h)) = absurd (c.quiet.0.0 (sym (ap kind_of (lies-first c.lies)) ∙ h))
    go (w ∷ l) c e (inr (inr (inl h))) = absurd (c.quiet.0.1 (sym (ap kind_of (lies-first c.lies)) ∙ h))
    go (w ∷ l) c e (inr (inr (inr h))) = absurd (c.quiet.0.2 (sym (ap kind_of (lies-first c.lies)) ∙ h))

-- another word: it is one of those left
pub ahead-on : {t : List ℕ} {at last : ℕ} {ws : List ℕ} {i : ℕ} → Ahead t at last ws i → i < last → (kind_of (get_or t i 0) ≡ 3 → ⊥) → (kind_of (get_or t i 0) ≡ 6 → ⊥) → (kind_of (get_or t i 0) ≡ 8 → ⊥) → Ahead t at last ws (i + 1)
unfolding All Stop
ahead-on {t} {at} {last} {ws} {i} a h x y z = go a.left a.calm a.ends
  where
    go : (l : List ℕ) → Calm t i last l → i + length l ≡ at + length ws → Ahead t at last ws (i + 1)
    go [] c e =
        let q : i + 0 ≡ i = omega arith in
        absurd (stuck (subst (λ j. (last ≤ j) ⊎ Loud (kind_of (get_or t j 0))) q c.stop))
      where
        stuck : (last ≤ i) ⊎ Loud (kind_of (get_or t i 0)) → ⊥
        stuck (inl k) = omega arith
        stuck (inr (inl k)) = x k
        stuck (inr (inr (inl k))) = y k
        stuck (inr (inr (inr k))) = z k
    go (w ∷ l) c e =
        let q : i + suc (length l) ≡ i + 1 + length l = omega arith in
        record {
          left = l;
          calm = record { lies = lies-rest c.lies; quiet = c.quiet.1; within = omega (arith, c.within); limit = c.limit; stop = subst (λ j. (last ≤ j) ⊎ Loud (kind_of (get_or t j 0))) q c.stop };
          ends = omega (arith, e);
        }
