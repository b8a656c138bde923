-- Laws of chains: terms and expressions, read by a loop. Assumes nothing.
use Rattle.std.specs.Prelude.{◌≡◌, ℕ, suc, ◌≤◌, Bool, List, length}
use Rattle.std.proofs.Math.Path.{refl}
use Rattle.std.proofs.Common.{◌∙◌}
use Rattle.rules.specs.declared.Word.{Word}
use Rattle.rules.specs.declared.Word.TheVariants.{Bad, Name as Named, Number, Mark}
use Rattle.rules.specs.Text.{pick}
use Rattle.rules.specs.Outcome.{Out, refuse, ◌>>=◌ as ◌and-then◌}
use Rattle.rules.specs.Words.{word_at}
use Rattle.rules.specs.Syntax.{both}
use Rattle.rules.specs.Readers.{Reader, ◌>>=◌, give}
use Rattle.rules.specs.Grammar.{Expr, joined, op_of, chain_up_to, chain}
use Rattle.rules.proofs.Laws.Enough.{link}
use Rattle.tape.specs.Layout.{name_w}
use Rattle.tape.specs.Encoding.{exp_w}
use Rattle.tape.specs.Written.{Wrote, Got, none, later}
use Rattle.marks.specs.Marks.{Joint, Ends}

at-end : (joins : ℕ → Bool) (w : Word) (f : ℕ → Reader Expr) (d : Reader Expr) (at : ℕ) → Ends joins w → joined joins w f d at ≡ d at
unfolding Ends joined pick
at-end joins (Bad p) f d at h = refl
at-end joins (Named p q) f d at h = refl
at-end joins (Number p q v) f d at h = refl
at-end joins (Mark b p q) f d at h = rw h

at_mark : (joins : ℕ → Bool) (w : Word) (f : ℕ → Reader Expr) (d : Reader Expr) (at : ℕ) {n h : ℕ} (J : Joint joins w n h) → joined joins w f d at ≡ f J.by n
unfolding joined pick
at_mark joins w f d at J = rw (J.is, J.joining)

-- the chain as a loop reads it: `before` is read and its words are written, and it goes on from there
pub record Going (joins : ℕ → Bool) (item : Reader Expr) (s : List ℕ) (target : Out (Expr × ℕ)) (h : ℕ) (t : List ℕ) (to : ℕ) (tape : List ℕ) (next end : ℕ) : Type 0 where
  pub before : Expr
  pub wrote : Wrote t to (exp_w name_w h before) tape end
  pub goes : target ≡ chain_up_to s joins item (suc (length s)) before next

pub start : {joins : ℕ → Bool} {item : Reader Expr} {s : List ℕ} {h : ℕ} {t : List ℕ} {to : ℕ} {u : List ℕ} {n m c : ℕ} (at : ℕ) → Got none (exp_w name_w h) (item at) t to u n m c
    → Going joins item s (chain s joins item at) h t to u n m
unfolding chain ◌>>=◌ ◌and-then◌
start at g = record { before = g.value; wrote = g.wrote; goes = rw g.reads }

module _ {joins : ℕ → Bool} {item : Reader Expr} {s : List ℕ} {target : Out (Expr × ℕ)} {h : ℕ} {t : List ℕ} {to : ℕ} {tape : List ℕ} {next end : ℕ}
    (again : (e : Expr) (at : ℕ) → at ≤ length s → chain_up_to s joins item (suc (length s)) e at ≡ link s joins item (chain_up_to s joins item (suc (length s))) e at)
    (G : Going joins item s target h t to tape next end) (inside : next ≤ length s) where
  goes_on : target ≡ joined joins (word_at s next) (λ b. item >>= λ f. chain_up_to s joins item (suc (length s)) (both (op_of b) G.before f)) (give G.before) next
  unfolding link
  goes_on = G.goes ∙ again G.before next inside

  -- no mark that joins: the chain ends
  pub ends : Ends joins (word_at s next) → Got none (exp_w name_w h) target t to tape next end 0
  unfolding give
  ends d = record { value = G.before; reads = goes_on ∙ at-end joins (word_at s next) _ _ next d; wrote = G.wrote; counts = refl }

  module _ {n x : ℕ} (J : Joint joins (word_at s next) n x) where
    more : target ≡ ◌and-then◌ (item n) (λ r. chain_up_to s joins item (suc (length s)) (both (op_of J.by) G.before r.0) r.1)
    unfolding ◌>>=◌
    more = goes_on ∙ at_mark joins (word_at s next) _ _ next J

    pub off : {k p : ℕ} → item n ≡ refuse k p → target ≡ refuse k p
    unfolding ◌and-then◌
    off e = more ∙ rw e

    pub go_on : {u : List ℕ} {m z c : ℕ} → Got none (exp_w name_w x) (item n) tape end u m z c → Going joins item s target h t to u m z
    unfolding ◌and-then◌ exp_w
    go_on {u} {m} {z} g = record {
      before = both (op_of J.by) G.before g.value;
      wrote = later G.wrote (rw J.head at g.wrote);
      goes = more ∙ rw g.reads;
    }
