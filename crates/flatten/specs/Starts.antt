-- How flattening starts, over the definition: 1, 2, and then the text alone; and what its netlist ends with. Assumes nothing.
use Rattle.std.specs.Prelude.{◌≡◌, refl, ◌⊎◌, ◌↔◌, ℕ, ◌+◌, ◌*◌, ◌-◌, ◌≤◌, ◌<◌, Bool, true, false, ◌&&◌, List, ◌∷◌, ◌++◌, leb}
use Rattle.std.proofs.Common.{sym, ap, ◌∙◌, inl, inr, arith, take_at, le-leb}
use Rattle.std.proofs.Math.Path.{subst}
use Rattle.std.proofs.Math.Decide.{dec_lt}
use Rattle.std.proofs.Math.ListN.{length}
use Rattle.std.proofs.lemmas.Bool.{lt-leb}
use Rattle.rules.specs.declared.Gate.{Gate}
use Rattle.rules.specs.Outcome.{Out, ok, refuse, ◌>>=◌, need}
use Rattle.rules.specs.Syntax.{Program}
use Rattle.rules.specs.Netlist.{gate_words, net_words, records}
use Rattle.rules.specs.Unfold.{Unfolded, unfold_main}
use Rattle.rules.specs.Flatten.{program, flattened, answer, flatten}
use Rattle.rules.proofs.Laws.Outcomes.{inv, ok-inj, bind_ok}
use Rattle.rules.proofs.Laws.Nets.{words-length}
use Rattle.rules.proofs.Laws.Within.{Within, no as refused, wider, within-next}
use Rattle.rules.proofs.Laws.Late.{program-within, text-within}
use Rattle.rules.proofs.Laws.Ways.{way}

-- what a text gives, apart from all lengths
unfoldable pub given : List ℕ → Out Unfolded
given text = program text >>= unfold_main

-- a lent buffer is shorter than its least size
abbrev pub Short : ℕ → ℕ → Type 0
Short work net = (work < 16384) ⊎ (net < 5124)

and-false : (c : Bool) → (c && false) ≡ false
and-false true = refl
and-false false = refl

room : (work net : ℕ) → Short work net → (leb 16384 work && leb 5124 net) ≡ false
room work net (inl h) = rw (lt-leb 16384 work h) refl
room work net (inr h) = rw (lt-leb 5124 net h) (and-false (leb 16384 work))

-- 1 first
pub starts-short : (text : List ℕ) (work net : ℕ) → Short work net → flattened text work net ≡ refuse 1 0
unfolding flattened ◌>>=◌ need
starts-short text work net h = rw (room work net h) refl

-- then 2
pub starts-long : (text : List ℕ) (work net : ℕ) → 16384 ≤ work → 5124 ≤ net → 16384 < length text → flattened text work net ≡ refuse 2 0
unfolding flattened ◌>>=◌ need
starts-long text work net a b h = rw (le-leb 16384 work a, le-leb 5124 net b, lt-leb (length text) 16384 h) refl

-- and then the text alone
pub starts : (text : List ℕ) (work net : ℕ) → 16384 ≤ work → 5124 ≤ net → length text ≤ 16384 → flattened text work net ≡ given text
unfolding flattened ◌>>=◌ need given
starts text work net a b h = rw (le-leb 16384 work a, le-leb 5124 net b, le-leb (length text) 16384 h) refl

-- which is not refused by 1 or 2
pub given-within : (text : List ℕ) → Within 3 18 (given text)
unfolding given
given-within text = within-next (wider (omega arith) (omega arith) (program-within text)) λ P e. wider (omega arith) (omega arith) (text-within text P e)

not-1-2 : (net : ℕ) (o : Out Unfolded) → Within 3 18 o → (((answer net o).number ≡ 1) → ⊥) × (((answer net o).number ≡ 2) → ⊥)
unfolding answer
not-1-2 net (ok u) w = ((λ e. omega arith), (λ e. omega arith))
not-1-2 net (refuse n p) (refused a b) = ((λ e. omega arith), (λ e. omega arith))

no_place : (net : ℕ) (o : Out Unfolded) → Within 3 18 o → (answer net o).number ≤ 2 → (answer net o).place ≡ 0
unfolding answer
no_place net (ok u) w h = refl
no_place net (refuse n p) (refused a b) h = absurd (omega arith)

-- ---- the number of an answer

refused-is : (net : ℕ) {o : Out Unfolded} {n p : ℕ} → o ≡ refuse n p → (answer net o).number ≡ n
unfolding answer
refused-is net e = rw e refl

nowhere : (net : ℕ) {o : Out Unfolded} {n : ℕ} → o ≡ refuse n 0 → (answer net o).place ≡ 0
unfolding answer
nowhere net e = rw e refl

-- what a text and lent buffers of these lengths must be, to be flattened
pub record Accepted (text : List ℕ) (work net : ℕ) : Type 0 where
  pub work-room : 16384 ≤ work
  pub net-room : 5124 ≤ net
  pub short : length text ≤ 16384
  pub P : Program
  pub reads : program text ≡ ok P
  pub u : Unfolded
  pub unfolds : unfold_main P ≡ ok u

answer-0 : (net : ℕ) {o : Out Unfolded} {u : Unfolded} → o ≡ ok u → (answer net o).number ≡ 0
unfolding answer
answer-0 net e = rw e refl

accepted-0 : (text : List ℕ) (work net : ℕ) → Accepted text work net → (flatten text work net).number ≡ 0
unfolding flatten given
accepted-0 text work net a = answer-0 net (starts text work net a.work-room a.net-room a.short ∙ bind_ok unfold_main a.reads a.unfolds)

module _ (text : List ℕ) (work net : ℕ) where
  short-1 : Short work net → (flatten text work net).number ≡ 1
  unfolding flatten
  short-1 h = refused-is net (starts-short text work net h)

  long-2 : 16384 ≤ work → 5124 ≤ net → 16384 < length text → (flatten text work net).number ≡ 2
  unfolding flatten
  long-2 a b h = refused-is net (starts-long text work net a b h)

  other : 16384 ≤ work → 5124 ≤ net → length text ≤ 16384 → (((flatten text work net).number ≡ 1) → ⊥) × (((flatten text work net).number ≡ 2) → ⊥)
  unfolding flatten
  other a b h = rw (starts text work net a b h) (not-1-2 net (given text) (given-within text))

  -- 1 exactly where a lent buffer is too short
  pub number-1 : ((flatten text work net).number ≡ 1) ↔ Short work net
  number-1 = ((λ e. go e (dec_lt work 16384) (dec_lt net 5124) (dec_lt 16384 (length text))), short-1)
    where
      go : (flatten text work net).number ≡ 1 → Dec (work < 16384) → Dec (net < 5124) → Dec (16384 < length text) → Short work net
      go e (yes a) b c = inl a
      go e (no a) (yes b) c = inr b
      go e (no a) (no b) (yes c) = absurd (omega (arith, long-2 (omega arith) (omega arith) c))
      go e (no a) (no b) (no c) = absurd ((other (omega arith) (omega arith) (omega arith)).0 e)

  -- 2 exactly where none is, and the text is too long
  pub number-2 : ((flatten text work net).number ≡ 2) ↔ ((16384 ≤ work) × (5124 ≤ net) × (16384 < length text))
  number-2 = ((λ e. go e (dec_lt work 16384) (dec_lt net 5124) (dec_lt 16384 (length text))), (λ h. long-2 h.0 h.1 h.2))
    where
      go : (flatten text work net).number ≡ 2 → Dec (work < 16384) → Dec (net < 5124) → Dec (16384 < length text) → (16384 ≤ work) × (5124 ≤ net) × (16384 < length text)
      go e (yes a) b c = absurd (omega (arith, short-1 (inl a)))
      go e (no a) (yes b) c = absurd (omega (arith, short-1 (inr b)))
      go e (no a) (no b) (yes c) = (omega arith, omega arith, c)
      go e (no a) (no b) (no c) = absurd ((other (omega arith) (omega arith) (omega arith)).1 e)

  -- 0 exactly where neither is, the text is a program and its unfolding is done
  pub number-0 : ((flatten text work net).number ≡ 0) ↔ Accepted text work net
  number-0 = ((λ e. go e (dec_lt work 16384) (dec_lt net 5124) (dec_lt 16384 (length text))), back)
    where
      go : (flatten text work net).number ≡ 0 → Dec (work < 16384) → Dec (net < 5124) → Dec (16384 < length text) → Accepted text work net
      go e (yes a) b c = absurd (omega (arith, short-1 (inl a)))
      go e (no a) (yes b) c = absurd (omega (arith, short-1 (inr b)))
      go e (no a) (no b) (yes c) = absurd (omega (arith, long-2 (omega arith) (omega arith) c))
      go e (no a) (no b) (no c) =
          let w = way text work net e in
          record { work-room = omega arith; net-room = omega arith; short = omega arith; P = w.P; reads = w.reads; u = w.u; unfolds = w.unfolds }

      back : Accepted text work net → (flatten text work net).number ≡ 0
      back a = accepted-0 text work net a

  -- 0, 1 and 2 have no place
  pub placeless : (flatten text work net).number ≤ 2 → (flatten text work net).place ≡ 0
  unfolding flatten
  placeless h = go h (dec_lt work 16384) (dec_lt net 5124) (dec_lt 16384 (length text))
    where
      go : (answer net (flattened text work net)).number ≤ 2 → Dec (work < 16384) → Dec (net < 5124) → Dec (16384 < length text) → (answer net (flattened text work net)).place ≡ 0
      go h (yes a) b c = nowhere net (starts-short text work net (inl a))
      go h (no a) (yes b) c = nowhere net (starts-short text work net (inr b))
      go h (no a) (no b) (yes c) = nowhere net (starts-long text work net (omega arith) (omega arith) c)
      go h (no a) (no b) (no c) =
          let e : flattened text work net ≡ given text = starts text work net (omega arith) (omega arith) (omega arith) in
          subst (λ o. (answer net o).number ≤ 2 → (answer net o).place ≡ 0) (sym e) (no_place net (given text) (given-within text)) h

-- ---- the words of a netlist

-- unfolding gives contents and the records of its gates
shape : (P : Program) (u : Unfolded) → unfold_main P ≡ ok u → (i o w : ℕ) × (gs : List Gate) × (u.words ≡ net_words i o w gs)
unfolding unfold_main
shape P u e =
    inv _ _ e λ M e_m e₁.
    inv _ _ e₁ λ i ei e₂.
    inv _ _ e₂ λ o eo e₃.
    inv _ _ e₃ λ l el e₄.
    inv _ _ e₄ λ t es e₅.
    (i.1.next, o.1.next - i.1.next, t.next, t.gates, sym (ap (λ u. u.words) (ok-inj e₅)))

cut : (i o w : ℕ) (gs : List Gate) (z : List ℕ) → records (net_words i o w gs ++ z) ≡ net_words i o w gs
unfolding records net_words
cut i o w gs z = take_at (i ∷ o ∷ w ∷ length gs ∷ gate_words gs) z (4 + 5 * length gs) (omega (arith, words-length gs))

-- so the words that count are all that it gives, whatever words z stand after them
pub whole : (P : Program) (u : Unfolded) → unfold_main P ≡ ok u → (z : List ℕ) → records (u.words ++ z) ≡ u.words
whole P u e z = let (i, o, w, gs, q) = shape P u e in subst (λ l. records (l ++ z) ≡ l) (sym q) (cut i o w gs z)
