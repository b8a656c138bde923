-- The bounds on lists and chains are enough: with the text's length for a bound, each satisfies the equation that has no bound
-- (`enough`). Assumes nothing.
use Rattle.std.specs.Prelude.{◌≡◌, ℕ, zero, suc, ◌+◌, ◌≤◌, ◌<◌, Bool, true, false, List, [], ◌∷◌, length, T, eqb}
use Rattle.std.proofs.Math.Path.{refl, ap}
use Rattle.std.proofs.Common.{sym, ◌∙◌, arith, eqb→eq}
use Prim.Native.String.{String}
use Rattle.rules.specs.declared.Word.{Word}
use Rattle.rules.specs.Text.{pick}
use Rattle.rules.specs.Outcome.{Out, ◌>>=◌ as ◌and-then◌}
use Rattle.rules.specs.Words.{word_at, key}
use Rattle.rules.specs.Syntax.{both, end, before}
use Rattle.rules.specs.Readers.{Reader, ◌>>=◌, give, refused, marked, rest_up_to, rest}
use Rattle.rules.specs.Grammar.{Expr, joined, is_sum, is_product, op_of, chain_up_to, chain, factor, expression, declared, port, local, argument, statement, a_block}
use Rattle.rules.proofs.Laws.Placed.{Placed, bad, named, number, mark, the_end, word-placed}
use Rattle.rules.proofs.Laws.Fair.{Fair, on, off, FairReader, fair-factor, fair-term, fair-expression, fair-declared, fair-port, fair-local, fair-argument, fair-statement, fair-a_block}

-- two ways to go on after a fair part that agree from where it ends
same_then : {A B : Type 0} {len at : ℕ} {o : Out (A × ℕ)} (f g : A → Reader B) → Fair len at o → ((a : A) (n : ℕ) → at ≤ n → n ≤ len → f a n ≡ g a n)
    → ◌and-then◌ o (λ r. f r.0 r.1) ≡ ◌and-then◌ o (λ r. g r.0 r.1)
unfolding ◌and-then◌
same_then f g (on {a} {n} h k) e = e a n h k
same_then f g (off a b c) e = refl

same-pick : {A : Type 0} (c : Bool) (x x' y : Reader A) (n : ℕ) → (T c → x n ≡ x' n) → pick c x y n ≡ pick c x' y n
unfolding pick
same-pick true x x' y n e = e tt
same-pick false x x' y n e = refl

-- two ways to go on after a mark that agree from where it ends: past the place, but for the end of the text
same-marked : {A : Type 0} {len at : ℕ} {w : Word} (f g : ℕ → ℕ → Reader A) → Placed len at w
    → ((b p q : ℕ) → ((b ≡ 0 → ⊥) → at < q) → p ≤ len → q ≤ len → f b p q ≡ g b p q) → marked w f ≡ marked w g
unfolding marked
same-marked f g (bad h) e = refl
same-marked f g (named a b c) e = refl
same-marked f g (number a b c) e = refl
same-marked f g (mark {b} {p} {q} h k l) e = e b p q (λ n. omega arith) (omega arith) l
same-marked {len = len} f g (the_end h) e = e 0 len len (λ n. absurd (n refl)) (omega arith) (omega arith)

same-joined : {len at : ℕ} {w : Word} (joins : ℕ → Bool) (f g : ℕ → Reader Expr) (y : Reader Expr) → Placed len at w → (T (joins 0) → ⊥)
    → ((b q : ℕ) → at < q → q ≤ len → f b q ≡ g b q) → joined joins w f y at ≡ joined joins w g y at
unfolding joined
same-joined joins f g y (bad h) z e = refl
same-joined joins f g y (named a b c) z e = refl
same-joined joins f g y (number a b c) z e = refl
same-joined {at = at} joins f g y (mark {b} {p} {q} h k l) z e = same-pick (joins b) (λ _. f b q) (λ _. g b q) y at (λ t. e b q (omega arith) l)
same-joined {len} {at} joins f g y (the_end h) z e = same-pick (joins 0) (λ _. f 0 len) (λ _. g 0 len) y at (λ t. absurd (z t))

module _ (s : List ℕ) where
  -- ---- lists

  -- what a list does at a place, if `next` reads the rest
  unfoldable pub turn : {A B : Type 0} → B → (A → B → B) → (ℕ → ℕ → Reader A) → String → String → (ℕ → Reader B) → ℕ → Reader B
  turn none more item sep close next k = λ at. marked (word_at s at) λ b p.
      pick (eqb b (key sep))
      (do
        a ← item k p
        r ← next (suc k)
        give (more a r))
      (pick (eqb b (key close)) (give none) (refused 4 p))

  module _ {A B : Type 0} (none : B) (more : A → B → B) (item : ℕ → ℕ → Reader A) (sep close : String) (fair : (k p : ℕ) → p ≤ length s → FairReader s (item k p)) (real : key sep ≡ 0 → ⊥) where
    same_turn : (f g : ℕ → Reader B) (k at : ℕ) → at ≤ length s → ((n : ℕ) → at < n → n ≤ length s → f (suc k) n ≡ g (suc k) n) → turn none more item sep close f k at ≡ turn none more item sep close g k at
    unfolding turn ◌>>=◌
    same_turn f g k at h e = same-marked _ _ (word-placed s at h) λ b p q l i m.
        same-pick (eqb b (key sep)) _ _ _ q λ t.
        let past : at < q = l (λ z. real (sym (eqb→eq b (key sep) t) ∙ z)) in
        same_then _ _ (fair k p i q m) λ a n x y. ap (λ o. ◌and-then◌ o (λ r. give (more a r.0) r.1)) (e n (omega arith) y)

    up_to-is : (bound k at : ℕ) → rest_up_to s none more item sep close (suc bound) k at ≡ turn none more item sep close (rest_up_to s none more item sep close bound) k at
    unfolding rest_up_to turn
    up_to-is bound k at = refl

    any-bound : (f g k at : ℕ) → at ≤ length s → length s < f + at → length s < g + at → rest_up_to s none more item sep close f k at ≡ rest_up_to s none more item sep close g k at
    any-bound zero g k at h a b = absurd (omega arith)
    any-bound (suc f) zero k at h a b = absurd (omega arith)
    any-bound (suc f) (suc g) k at h a b =
        up_to-is f k at ∙ same_turn _ _ k at h (λ n l m. any-bound f g (suc k) n m (omega arith) (omega arith)) ∙ sym (up_to-is g k at)

    -- a list satisfies the equation without a bound
    pub rest-again : (k at : ℕ) → at ≤ length s → rest s none more item sep close k at ≡ turn none more item sep close (rest s none more item sep close) k at
    rest-again k at h = up_to-is (length s) k at ∙ same_turn _ _ k at h (λ n l m. any-bound (length s) (suc (length s)) (suc k) n m (omega arith) (omega arith))

  -- ---- chains

  -- what a chain does after e, if `next` reads on
  unfoldable pub link : (ℕ → Bool) → Reader Expr → (Expr → Reader Expr) → Expr → Reader Expr
  link joins item next e = λ at. joined joins (word_at s at) (λ b. do
    f ← item
    next (both (op_of b) e f)) (give e) at

  module _ (joins : ℕ → Bool) (item : Reader Expr) (fair : FairReader s item) (real : T (joins 0) → ⊥) where
    same-link : (f g : Expr → Reader Expr) (e : Expr) (at : ℕ) → at ≤ length s → ((x : Expr) (n : ℕ) → at < n → n ≤ length s → f x n ≡ g x n) → link joins item f e at ≡ link joins item g e at
    unfolding link ◌>>=◌
    same-link f g e at h q = same-joined joins _ _ _ (word-placed s at h) real λ b n l m. same_then _ _ (fair n m) λ x k y z. q (both (op_of b) e x) k (omega arith) z

    chain-is : (bound : ℕ) (e : Expr) (at : ℕ) → chain_up_to s joins item (suc bound) e at ≡ link joins item (chain_up_to s joins item bound) e at
    unfolding chain_up_to link
    chain-is bound e at = refl

    any-chain : (f g : ℕ) (e : Expr) (at : ℕ) → at ≤ length s → length s < f + at → length s < g + at → chain_up_to s joins item f e at ≡ chain_up_to s joins item g e at
    any-chain zero g e at h a b = absurd (omega arith)
    any-chain (suc f) zero e at h a b = absurd (omega arith)
    any-chain (suc f) (suc g) e at h a b =
        chain-is f e at ∙ same-link _ _ e at h (λ x n l m. any-chain f g x n m (omega arith) (omega arith)) ∙ sym (chain-is g e at)

    -- a chain satisfies the equation without a bound
    pub chain-again : (e : Expr) (at : ℕ) → at ≤ length s → chain_up_to s joins item (suc (length s)) e at ≡ link joins item (chain_up_to s joins item (suc (length s))) e at
    chain-again e at h = chain-is (length s) e at ∙ same-link _ _ e at h (λ x n l m. any-chain (length s) (suc (length s)) x n m (omega arith) (omega arith))

-- ---- every list and every chain of the grammar

module _ (s : List ℕ) where
  abbrev Again : {A B : Type 0} → B → (A → B → B) → (ℕ → ℕ → Reader A) → String → String → Type 0
  Again none more item sep close = (k at : ℕ) → at ≤ length s → rest s none more item sep close k at ≡ turn s none more item sep close (rest s none more item sep close) k at

  abbrev AgainChain : (ℕ → Bool) → Reader Expr → Type 0
  AgainChain joins item = (e : Expr) (at : ℕ) → at ≤ length s → chain_up_to s joins item (suc (length s)) e at ≡ link s joins item (chain_up_to s joins item (suc (length s))) e at

  pub record Enough : Type 0 where
    pub products : (left : ℕ) → AgainChain is_product (factor s left)
    pub sums : (left : ℕ) → AgainChain is_sum (chain s is_product (factor s left))
    pub generic-names : Again [] ◌∷◌ (λ k _. declared s k) "," ")"
    pub generic-values : Again [] ◌∷◌ (λ _ _. expression s) "," ")"
    pub port-lists : Again [] ◌∷◌ (port s) "," "]"
    pub argument-lists : Again [] ◌∷◌ (λ _ _. argument s) "," "]"
    pub variables : Again [] ◌∷◌ (local s) "VAR" "BEGIN"
    pub bodies : (left : ℕ) → Again end before (λ _ _. statement s left) ";" "END"
    pub texts : Again [] ◌∷◌ (a_block s) "BLOCK" ""

  pub enough : Enough
  enough = record {
    products = λ left. chain-again s is_product (factor s left) (fair-factor s left) (λ t. t);
    sums = λ left. chain-again s is_sum _ (fair-term s left) (λ t. t);
    generic-names = rest-again s [] ◌∷◌ _ "," ")" (λ k p l. fair-declared s k) (λ e. absurd (omega (arith, e)));
    generic-values = rest-again s [] ◌∷◌ _ "," ")" (λ k p l. fair-expression s) (λ e. absurd (omega (arith, e)));
    port-lists = rest-again s [] ◌∷◌ _ "," "]" (λ k p l. fair-port s k p) (λ e. absurd (omega (arith, e)));
    argument-lists = rest-again s [] ◌∷◌ _ "," "]" (λ k p l. fair-argument s) (λ e. absurd (omega (arith, e)));
    variables = rest-again s [] ◌∷◌ _ "VAR" "BEGIN" (λ k p l. fair-local s k p) (λ e. absurd (omega (arith, e)));
    bodies = λ left. rest-again s end before _ ";" "END" (λ k p l. fair-statement s left) (λ e. absurd (omega (arith, e)));
    texts = rest-again s [] ◌∷◌ _ "BLOCK" "" (fair-a_block s) (λ e. absurd (omega (arith, e)));
  }
