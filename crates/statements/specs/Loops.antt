-- Laws of statements, by the word that each begins with. Assumes nothing.
use Rattle.std.specs.Prelude.{◌≡◌, refl, ℕ, zero, suc, ◌+◌, ◌-◌, ◌≤◌, List, [], ◌∷◌, true, false, length, set}
use Rattle.std.proofs.Common.{sym, ◌∙◌, sub-one, append-nil, append_assoc}
use borrow.Author.Tests.{eq-eqb, ne_eqb}
use Rattle.rules.specs.declared.Word.TheVariants.{Bad, Name as Named, Number, Mark}
use Rattle.rules.specs.Text.{pick}
use Rattle.rules.specs.Outcome.{ok, refuse}
use Rattle.rules.specs.Words.{word_at}
use Rattle.rules.specs.Syntax.{whole, part, end, call, loop}
use Rattle.rules.specs.Readers.{Reader, give, refused, spelling, after, mark, a_name, if_next, some}
use Rattle.rules.specs.Grammar.{Body, expression, argument, arguments, calling, looping, stated, statement, statements_of}
use Rattle.tape.specs.Layout.{pack, CALL, INPUT, OUTPUT, BODY, spelt, name_w}
use Rattle.tape.specs.Encoding.{exp_w, arg_w, list_w, stmts_w, callee_w}
use Rattle.tape.specs.Written.{Got, none, stored, later, patch, as-words}
use Rattle.marks.specs.Marks.{is_code}
use Rattle.marks.specs.Laws.One.{on, stop, there, absent, spelt_is}
use Rattle.statements.specs.Heads.{Headed}

-- after GENERATE at p, where so many loops are left
unfoldable after_generate : List ℕ → ℕ → ℕ → Reader Body
after_generate s zero p = refused 5 p
after_generate s (suc left) p = looping s (statements_of s (statement s left)) p

statement-is : (s : List ℕ) (left at : ℕ) → statement s left at ≡ stated s (word_at s at) (after_generate s left)
unfolding statement after_generate
statement-is s zero at = refl
statement-is s (suc left) at = refl

no_loop : (s : List ℕ) (left p q : ℕ) → left ≡ 0 → after_generate s left p q ≡ refuse 5 p
unfolding after_generate
no_loop s left p q e = rw e

loop-more : (s : List ℕ) (left p q : ℕ) → (left ≡ 0 → ⊥) → after_generate s left p q ≡ looping s (statements_of s (statement s (left - 1))) p q
unfolding after_generate
loop-more s zero p q h = absurd (h refl)
loop-more s (suc left) p q h = rw sub-one

module _ (s : List ℕ) (left at : ℕ) where
  pub at-bad : {p : ℕ} → word_at s at ≡ Bad p → statement s left at ≡ refuse 3 p
  unfolding stated
  at-bad e = statement-is s left at ∙ rw e

  pub at-number : {p q v : ℕ} → word_at s at ≡ Number p q v → statement s left at ≡ refuse 4 p
  unfolding stated
  at-number e = statement-is s left at ∙ rw e

  pub at_name : {p q : ℕ} → word_at s at ≡ Named p q → statement s left at ≡ calling s (spelling s p q) q
  unfolding stated
  at_name e = statement-is s left at ∙ rw e

  module _ {b p q : ℕ} (e : word_at s at ≡ Mark b p q) where
    pub at_other : (b ≡ 5 → ⊥) → statement s left at ≡ refuse 4 p
    unfolding stated pick
    at_other f = statement-is s left at ∙ rw (e, ne_eqb _ _ f)

    at-loop : b ≡ 5 → statement s left at ≡ after_generate s left p q
    unfolding stated pick
    at-loop f = statement-is s left at ∙ rw (e, eq-eqb _ _ f)

    -- "a 9th loop": at its GENERATE
    pub loop-over : b ≡ 5 → left ≡ 0 → statement s left at ≡ refuse 5 p
    loop-over f z = at-loop f ∙ no_loop s left p q z

    module _ (f : b ≡ 5) (z : left ≡ 0 → ⊥) where
      pub head-off : {k x : ℕ} → ((inside : Reader Body) → looping s inside p q ≡ refuse k x) → statement s left at ≡ refuse k x
      head-off h = at-loop f ∙ loop-more s left p q z ∙ h _

      module _ {t : List ℕ} {to : ℕ} {u : List ℕ} {n m : ℕ} (h : Headed s p q t to u n m) where
        pub body-off : {k x : ℕ} → statements_of s (statement s (left - 1)) n ≡ refuse k x → statement s left at ≡ refuse k x
        body-off i = at-loop f ∙ loop-more s left p q z ∙ h.goes _ ∙ stop _ _ _ i

        -- the body's word holds the number of words inside
        pub looped : {v w : List ℕ} {x y c : ℕ} → Got none (stmts_w name_w callee_w) (statements_of s (statement s (left - 1)) n) u (m + 1) v x y c → w ≡ set v m (pack BODY 0 (y - m - 1))
            → Got none (stmts_w name_w callee_w) (statement s left at) t to w x y 0
        unfolding stmts_w give
        looped i e = record {
          value = loop p h.index h.low h.high i.value end;
          reads = at-loop f ∙ loop-more s left p q z ∙ h.goes _ ∙ on _ _ _ i.reads;
          wrote = as-words (simp (append-nil, append_assoc)) (later h.wrote (patch (λ l. pack BODY 0 l) i.wrote e));
          counts = refl;
        }

-- a call and its lists
pub called : (s : List ℕ) (p q : ℕ) → q ≤ length s → {t u : List ℕ} {to : ℕ} → u ≡ set t to (pack CALL 0 (spelt p q)) → {a b c x y d v w e : ℕ} {g h k : List ℕ}
    → Got none (list_w (exp_w name_w 0)) (if_next s "(" (some s [] ◌∷◌ (λ _ _. expression s) "," ")" 0) (give []) q) u (to + 1) g a b c
    → Got none (list_w (arg_w name_w INPUT)) (arguments s a) g b h x y d
    → Got none (list_w (arg_w name_w OUTPUT)) (arguments s x) h y k v w e
    → Got none (stmts_w name_w callee_w) (calling s (spelling s p q) q) t to k v w 0
unfolding calling stmts_w give
called s p q l e g i o = record {
  value = call p (spelling s p q) g.value i.value o.value end;
  reads = on _ _ _ g.reads ∙ on _ _ _ i.reads ∙ on _ _ _ o.reads;
  wrote = as-words (rw (spelt_is s p q l) (simp append-nil)) (later (stored e) (later g.wrote (later i.wrote o.wrote)));
  counts = refl;
}

-- ---- arguments

module _ (s : List ℕ) (k at p q : ℕ) (n : a_name s at ≡ ok (spelling s p q, q)) (l : q ≤ length s) where
  pub whole-got : {t u : List ℕ} {to : ℕ} → is_code 40 (word_at s q) ≡ false → u ≡ set t to (pack k 0 (spelt p q)) → Got none (arg_w name_w k) (argument s at) t to u q (to + 1) 0
  unfolding argument arg_w give
  whole-got o e = record {
    value = whole (spelling s p q);
    reads = on _ _ _ n ∙ absent "(" s q _ _ o;
    wrote = as-words (rw (spelt_is s p q l)) (stored e);
    counts = refl;
  }

  module _ {a : ℕ} (o : (is_code 40 (word_at s q) ≡ true) × (after (word_at s q) ≡ a)) where
    pub part_off : {j i : ℕ} → expression s a ≡ refuse j i → argument s at ≡ refuse j i
    unfolding argument
    part_off e = on _ _ _ n ∙ there "(" s q _ _ o ∙ stop _ _ _ e

    pub close-off : {u : List ℕ} {from : ℕ} {w : List ℕ} {x y c : ℕ} → Got none (exp_w name_w 0) (expression s a) u from w x y c → {j i : ℕ} → mark s ")" x ≡ refuse j i → argument s at ≡ refuse j i
    unfolding argument
    close-off e z = on _ _ _ n ∙ there "(" s q _ _ o ∙ on _ _ _ e.reads ∙ stop _ _ _ z

    pub part-got : {t u : List ℕ} {to : ℕ} {w : List ℕ} {x y c : ℕ} → u ≡ set t to (pack k 1 (spelt p q)) → Got none (exp_w name_w 0) (expression s a) u (to + 1) w x y c → {j i : ℕ} → mark s ")" x ≡ ok (j, i)
        → Got none (arg_w name_w k) (argument s at) t to w i y 0
    unfolding argument arg_w give
    part-got f e z = record {
      value = part (spelling s p q) e.value;
      reads = on _ _ _ n ∙ there "(" s q _ _ o ∙ on _ _ _ e.reads ∙ on _ _ _ z;
      wrote = as-words (rw (spelt_is s p q l)) (later (stored f) e.wrote);
      counts = refl;
    }

-- a word that begins no statement, as the check finds it
pub not_begun : (s : List ℕ) (left at : ℕ) {b p q : ℕ} → Mark b p q ≡ word_at s at → (b ≡ 5 → ⊥) → statement s left at ≡ refuse 4 p
not_begun s left at e f = at_other s left at (sym e) f
