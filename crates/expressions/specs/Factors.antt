-- Laws of factors, by the word that each begins with. Assumes nothing.
use Rattle.std.specs.Prelude.{◌≡◌, ℕ, zero, suc, ◌+◌, ◌-◌, ◌*◌, ◌≤◌, ◌<◌, Result, Ok, Err, List, length, set}
use Rattle.std.proofs.Math.Path.{refl}
use Rattle.std.proofs.Common.{◌∙◌, sub-one, arith}
use borrow.Author.Tests.{eq-eqb, ne_eqb}
use Rattle.rules.specs.declared.Word.TheVariants.{Bad, Name as Named, Number, Mark}
use Rattle.rules.specs.Text.{pick}
use Rattle.rules.specs.Outcome.{ok, refuse, ◌>>=◌ as ◌and-then◌}
use Rattle.rules.specs.Words.{word_at}
use Rattle.rules.specs.Syntax.{number, name, neg, group}
use Rattle.rules.specs.Readers.{Reader, ◌>>=◌, give, refused, spelling, mark}
use Rattle.rules.specs.Grammar.{Expr, factored, factor, expression_of}
use Rattle.tape.specs.Layout.{pack, BRACKET, spelt, name_w, flip}
use Rattle.tape.specs.Encoding.{exp_w}
use Rattle.tape.specs.Written.{Got, Gives, none, stored, patch}
use Rattle.tape.specs.declared.Read.{Read}
use Rattle.rules.specs.declared.Refusal.{Refusal}
use Rattle.marks.specs.Room.{Spends}
use Rattle.marks.specs.Laws.One.{passed, spelt_is}
use Rattle.expressions.specs.Words.{Closes}

-- after a minus and after a bracket at p, where so many levels are left
unfoldable after_minus : List ℕ → ℕ → ℕ → Reader Expr
after_minus s zero p = refused 5 p
after_minus s (suc left) p = factor s left >>= λ e. give (neg e)

unfoldable after_open : List ℕ → ℕ → ℕ → Reader Expr
after_open s zero p = refused 5 p
after_open s (suc left) p = expression_of s (factor s left) >>= λ e. mark s ")" >>= λ _. give (group e)

factor-is : (s : List ℕ) (left at : ℕ) → factor s left at ≡ factored s (word_at s at) (after_minus s left) (after_open s left)
unfolding factor after_minus after_open
factor-is s zero at = refl
factor-is s (suc left) at = refl

module _ (s : List ℕ) (left at : ℕ) where
  pub at-bad : {p : ℕ} → word_at s at ≡ Bad p → factor s left at ≡ refuse 3 p
  unfolding factored
  at-bad e = factor-is s left at ∙ rw e

  at_name : {p q : ℕ} → word_at s at ≡ Named p q → factor s left at ≡ ok (name (spelling s p q), q)
  unfolding factored
  at_name e = factor-is s left at ∙ rw e

  at-number : {p q v : ℕ} → word_at s at ≡ Number p q v → factor s left at ≡ ok (number v, q)
  unfolding factored
  at-number e = factor-is s left at ∙ rw e

  module _ {b p q : ℕ} (e : word_at s at ≡ Mark b p q) where
    pub at_other : (b ≡ 45 → ⊥) → (b ≡ 40 → ⊥) → factor s left at ≡ refuse 4 p
    unfolding factored pick
    at_other f g = factor-is s left at ∙ rw (e, ne_eqb _ _ f, ne_eqb _ _ g)

    at-minus : b ≡ 45 → factor s left at ≡ after_minus s left p q
    unfolding factored pick
    at-minus f = factor-is s left at ∙ rw (e, eq-eqb _ _ f)

    at_open : (b ≡ 45 → ⊥) → b ≡ 40 → factor s left at ≡ after_open s left p q
    unfolding factored pick
    at_open f g = factor-is s left at ∙ rw (e, ne_eqb _ _ f, eq-eqb _ _ g)

no_minus : (s : List ℕ) (left p q : ℕ) → left ≡ 0 → after_minus s left p q ≡ refuse 5 p
unfolding after_minus
no_minus s left p q e = rw e

no-open : (s : List ℕ) (left p q : ℕ) → left ≡ 0 → after_open s left p q ≡ refuse 5 p
unfolding after_open
no-open s left p q e = rw e

minus-more : (s : List ℕ) (left p q : ℕ) → (left ≡ 0 → ⊥) → after_minus s left p q ≡ (factor s (left - 1) >>= λ e. give (neg e)) q
unfolding after_minus
minus-more s zero p q h = absurd (h refl)
minus-more s (suc left) p q h = rw sub-one

open_more : (s : List ℕ) (left p q : ℕ) → (left ≡ 0 → ⊥) → after_open s left p q ≡ (expression_of s (factor s (left - 1)) >>= λ e. mark s ")" >>= λ _. give (group e)) q
unfolding after_open
open_more s zero p q h = absurd (h refl)
open_more s (suc left) p q h = rw sub-one

module _ (s : List ℕ) (left at : ℕ) {b p q : ℕ} (e : word_at s at ≡ Mark b p q) where
  -- "17th expression level": at the minus or bracket that opens it
  pub minus-over : b ≡ 45 → left ≡ 0 → factor s left at ≡ refuse 5 p
  minus-over f z = at-minus s left at e f ∙ no_minus s left p q z

  pub open-over : (b ≡ 45 → ⊥) → b ≡ 40 → left ≡ 0 → factor s left at ≡ refuse 5 p
  open-over f g z = at_open s left at e f g ∙ no-open s left p q z

  -- a minus before a factor turns that factor's head
  pub negated : (h : ℕ) (t : List ℕ) (to : ℕ) (u : List ℕ) (r : Result Read Refusal) → b ≡ 45 → (left ≡ 0 → ⊥) → Gives none (exp_w name_w (flip h)) (factor s (left - 1) q) t to u r
      → Gives none (exp_w name_w h) (factor s left at) t to u r
  unfolding exp_w ◌>>=◌ ◌and-then◌ give
  negated h t to u (Ok r) f z g = record {
    value = neg g.value;
    reads = at-minus s left at e f ∙ minus-more s left p q z ∙ rw g.reads;
    wrote = g.wrote;
    counts = g.counts;
  }
  negated h t to u (Err r) f z g = at-minus s left at e f ∙ minus-more s left p q z ∙ rw g

  module _ (f : b ≡ 45 → ⊥) (g : b ≡ 40) (z : left ≡ 0 → ⊥) where
    -- what is in a bracket is refused
    pub inside-off : {k x : ℕ} → expression_of s (factor s (left - 1)) q ≡ refuse k x → factor s left at ≡ refuse k x
    unfolding ◌>>=◌ ◌and-then◌
    inside-off i = at_open s left at e f g ∙ open_more s left p q z ∙ rw i

    -- a bracket's word stands before the words of what is in it
    pub grouped : (h : ℕ) (t : List ℕ) (to : ℕ) (u v : List ℕ) (n m : ℕ) {c : ℕ} (r : Result Read Refusal) → Got none (exp_w name_w 0) (expression_of s (factor s (left - 1)) q) t (to + 1) u n m c → Closes s n u to m h v r
        → Gives none (exp_w name_w h) (factor s left at) t to v r
    unfolding exp_w ◌>>=◌ ◌and-then◌ give
    grouped h t to u v n m (Ok r) i j = record {
      value = group i.value;
      reads = at_open s left at e f g ∙ open_more s left p q z ∙ rw (i.reads, passed ")" s n j.reads);
      wrote = rw j.ended (patch (λ l. pack BRACKET h l) i.wrote j.tape);
      counts = j.size;
    }
    grouped h t to u v n m (Err r) i j = at_open s left at e f g ∙ open_more s left p q z ∙ rw (i.reads, passed ")" s n j)

module _ (s : List ℕ) (left at h : ℕ) (t : List ℕ) (to : ℕ) (u : List ℕ) where
  pub named : {p q : ℕ} → word_at s at ≡ Named p q → q ≤ length s → u ≡ set t to (pack 1 h (spelt p q)) → Got none (exp_w name_w h) (factor s left at) t to u q (to + 1) 0
  unfolding exp_w
  named {p} {q} e l x = record {
    value = name (spelling s p q);
    reads = at_name s left at e;
    wrote = rw (← (spelt_is s p q l)) (stored x);
    counts = refl;
  }

  pub numbered : {p q v : ℕ} → word_at s at ≡ Number p q v → u ≡ set t to (pack 0 h v) → Got none (exp_w name_w h) (factor s left at) t to u q (to + 1) 0
  unfolding exp_w
  numbered {v = v} e x = record { value = number v; reads = at-number s left at e; wrote = stored x; counts = refl }

-- what is spent from a later place is spent from an earlier one
pub sooner : (len a b to : ℕ) (r : Result Read Refusal) → a ≤ b → Spends 1 0 len b to r → Spends 1 0 len a to r
sooner len a b to (Ok r) h f = omega arith
sooner len a b to (Err r) h f = tt

-- a bracket's two bytes pay for its word
pub paired : (s : List ℕ) (a b at to end head : ℕ) (t u : List ℕ) (r : Result Read Refusal) → a < b → to ≤ end → 2 * end + b ≤ 2 * (to + 1) + at + 1 → b ≤ at → Closes s at t to end head u r → Spends 1 0 (length s) a to r
paired s a b at to end head t u (Ok r) h l f i e = omega (arith, e.ended, e.past)
paired s a b at to end head t u (Err r) h l f i e = tt
