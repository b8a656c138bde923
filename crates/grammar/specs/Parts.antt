-- Laws of blocks. Assumes nothing.
use Rattle.std.specs.Prelude.{◌≡◌, ℕ, ◌+◌, ◌-◌, ◌≤◌, ◌<◌, Result, Ok, Err, length, set}
use Rattle.std.proofs.Common.{ap, ◌∙◌, arith, lt-ltb, le-ltb}
use mathlib.Core.List.{List, [], ◌∷◌, append_assoc}
use Rattle.rules.specs.Text.{pick}
use Rattle.rules.specs.Outcome.{ok, refuse}
use Rattle.rules.specs.Readers.{◌>>=◌, give, spelling, mark, a_name, rest}
use Rattle.rules.specs.Grammar.{local, generics, ports, statement, statements_of, body, a_block, blocks}
use Rattle.tape.specs.Layout.{pack, BLOCK, IN, OUT, VAR, BODY, spelt, name_w}
use Rattle.tape.specs.Encoding.{list_w, decl_w, generic_w, stmts_w, block_w, callee_w}
use Rattle.tape.specs.Written.{Got, Gives, none, stored, later, patch, as-words}
use Rattle.tape.specs.declared.Read.{Read}
use Rattle.rules.specs.declared.Refusal.{Refusal}
use Rattle.marks.specs.Laws.One.{on, stop, spelt_is}
use Rattle.marks.specs.Laws.Lists.{and-rest, via}
use Rattle.lists.specs.Items.{from}
use Rattle.grammar.specs.Titles.{Titled, Titles}
use Rattle.grammar.specs.Rows.{blocks-row}

-- ---- a block up to its BEGIN

module _ (s : List ℕ) (at p q : ℕ) (n : a_name s at ≡ ok (spelling s p q, q)) where
  pub generics-off : {j x : ℕ} → generics s q ≡ refuse j x → a_block s 0 0 at ≡ refuse j x
  unfolding a_block pick
  generics-off g = on _ _ _ n ∙ stop _ _ _ g

  module _ {v w : List ℕ} {start a b c : ℕ} (g : Got (from 0) (list_w generic_w) (generics s q) v start w a b c) where
    count₁ : length g.value ≡ c
    count₁ = omega (arith, g.counts)

    pub inputs-off : {j x : ℕ} → ports s c a ≡ refuse j x → a_block s 0 0 at ≡ refuse j x
    unfolding a_block pick
    inputs-off i = on _ _ _ n ∙ on _ _ _ g.reads ∙ stop _ _ _ (ap (λ k. ports s k a) count₁ ∙ i)

    module _ {x : List ℕ} {d e f : ℕ} (i : Got (from c) (list_w (decl_w name_w IN)) (ports s c a) w b x d e f) where
      count₂ : length g.value + length i.value ≡ f
      count₂ = omega (arith, g.counts, i.counts)

      pub outputs-off : {j y : ℕ} → ports s f d ≡ refuse j y → a_block s 0 0 at ≡ refuse j y
      unfolding a_block pick
      outputs-off o = on _ _ _ n ∙ on _ _ _ g.reads ∙ on _ _ _ (ap (λ k. ports s k a) count₁ ∙ i.reads) ∙ stop _ _ _ (ap (λ k. ports s k d) count₂ ∙ o)

      module _ {y : List ℕ} {h j k : ℕ} (o : Got (from f) (list_w (decl_w name_w OUT)) (ports s f d) x e y h j k) where
        count₃ : length g.value + length i.value + length o.value ≡ k
        count₃ = omega (arith, g.counts, i.counts, o.counts)

        pub locals-off : {z r : ℕ} → rest s [] ◌∷◌ (local s) "VAR" "BEGIN" k h ≡ refuse z r → a_block s 0 0 at ≡ refuse z r
        unfolding a_block pick
        locals-off l =
            on _ _ _ n ∙ on _ _ _ g.reads ∙ on _ _ _ (ap (λ k. ports s k a) count₁ ∙ i.reads) ∙ on _ _ _ (ap (λ k. ports s k d) count₂ ∙ o.reads)
            ∙ stop _ _ _ (ap (λ k. rest s [] ◌∷◌ (local s) "VAR" "BEGIN" k h) count₃ ∙ l)

        pub titled : q ≤ length s → (t : List ℕ) (to : ℕ) → v ≡ set t to (pack BLOCK 0 (spelt p q)) → start ≡ to + 1 → (z : List ℕ) (r : Result Read Refusal)
            → Gives (from k) (list_w (decl_w name_w VAR)) (rest s [] ◌∷◌ (local s) "VAR" "BEGIN" k h) y j z r → Titles s at t to z r
        unfolding a_block pick
        titled b t to e f z (Ok r) l = record {
          called = spelling s p q;
          generics = g.value;
          inputs = i.value;
          outputs = o.value;
          locals = l.value;
          goes =
              on _ _ _ n ∙ on _ _ _ g.reads ∙ on _ _ _ (ap (λ k. ports s k a) count₁ ∙ i.reads) ∙ on _ _ _ (ap (λ k. ports s k d) count₂ ∙ o.reads)
              ∙ on _ _ _ (ap (λ k. rest s [] ◌∷◌ (local s) "VAR" "BEGIN" k h) count₃ ∙ l.reads);
          wrote = as-words (rw (spelt_is s p q b)) (later (stored e) (later (rw f at g.wrote) (later i.wrote (later o.wrote l.wrote))));
        }
        titled b t to e f z (Err r) l = locals-off l

-- ---- a block

-- "a 65th block": at its BLOCK
pub block-over : (s : List ℕ) (k p at : ℕ) → 64 ≤ k → a_block s k p at ≡ refuse 5 p
unfolding a_block pick
block-over s k p at h = rw (le-ltb _ _ h)

module _ (s : List ℕ) (k p at : ℕ) (h : k < 64) where
  pub block-any : a_block s k p at ≡ a_block s 0 0 at
  unfolding a_block pick
  block-any = rw (lt-ltb _ _ h)

  module _ {t : List ℕ} {to : ℕ} {u : List ℕ} {a c : ℕ} (T : Titled s at t to u a c) where
    pub body-off : {j x : ℕ} → statements_of s (statement s 8) a ≡ refuse j x → a_block s k p at ≡ refuse j x
    unfolding body
    body-off d = block-any ∙ T.goes ∙ stop _ _ _ d

    pub block-off : {v : List ℕ} {from' x y z : ℕ} → Got none (stmts_w name_w callee_w) (statements_of s (statement s 8) a) u from' v x y z → {i j : ℕ} → mark s ";" x ≡ refuse i j → a_block s k p at ≡ refuse i j
    unfolding body
    block-off d e = block-any ∙ T.goes ∙ on _ _ _ d.reads ∙ stop _ _ _ e

    pub block-got : {v w : List ℕ} {x y z : ℕ} → Got none (stmts_w name_w callee_w) (statements_of s (statement s 8) a) u (c + 1) v x y z → {i j : ℕ} → mark s ";" x ≡ ok (i, j) → w ≡ set v c (pack BODY 0 (y - c - 1))
        → Got none (block_w name_w callee_w) (a_block s k p at) t to w j y z
    unfolding body block_w give
    block-got d e f = record {
      value = record { name = T.called; generics = T.generics; inputs = T.inputs; outputs = T.outputs; locals = T.locals; body = d.value };
      reads = block-any ∙ T.goes ∙ on _ _ _ d.reads ∙ on _ _ _ e;
      wrote = as-words (simp append_assoc) (later T.wrote (patch (λ l. pack BODY 0 l) d.wrote f));
      counts = d.counts;
    }

-- ---- a text

pub text-off : (s : List ℕ) {p a j x : ℕ} → mark s "BLOCK" 0 ≡ ok (p, a) → a_block s 0 p a ≡ refuse j x → blocks s 0 ≡ refuse j x
unfolding blocks
text-off s o b = on _ _ _ o ∙ stop _ _ _ b

text-is : (s : List ℕ) {p a : ℕ} → mark s "BLOCK" 0 ≡ ok (p, a) → blocks s 0 ≡ (a_block s 0 p >>= λ b. rest s [] ◌∷◌ (a_block s) "BLOCK" "" 1 >>= λ r. give (b ∷ r)) a
unfolding blocks
text-is s o = on _ _ _ o

pub text-gives : (s : List ℕ) {p a : ℕ} → mark s "BLOCK" 0 ≡ ok (p, a) → {t : List ℕ} {to : ℕ} {u : List ℕ} {n m c : ℕ} → Got none (block_w name_w callee_w) (a_block s 0 p a) t to u n m c
    → (v : List ℕ) (r : Result Read Refusal) → Gives (from 1) (list_w (block_w name_w callee_w)) (rest s [] ◌∷◌ (a_block s) "BLOCK" "" 1 n) u m v r → Gives (from 0) (list_w (block_w name_w callee_w)) (blocks s 0) t to v r
unfolding ◌>>=◌
text-gives s {p} {a} o {t} {to} g v r h = via _ _ t to v r (text-is s o) (and-rest (blocks-row s) (a_block s 0 p a) 0 v r g h)
