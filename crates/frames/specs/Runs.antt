-- One thing after another, each with its outcome: the loop over them on the tape. Assumes nothing.
use Rattle.std.specs.Prelude.{◌≡◌, refl, ℕ, ◌+◌, ◌≤◌, ◌<◌, true, false, List, [], ◌∷◌, ◌++◌}
use Rattle.std.proofs.Common.{sym, ◌∙◌, arith, append_assoc, append-nil}
use Rattle.std.proofs.Math.Path.{ap, subst}
use Rattle.std.proofs.Math.ListN.{length, length-append}
use Rattle.rules.specs.Outcome.{Out, ok, refuse, ◌>>=◌}
use Rattle.rules.proofs.Laws.Spelt.{All}
use Rattle.tape.specs.Encoding.{list_w}
use Rattle.frames.specs.Rows.{among_of, Alone, Listed, Starts, starting, rest, alone, more, no_more}

unfoldable pub runs : {A B : Type 0} → (A → Out B) → List A → Out (List B)
runs f [] = ok []
runs f (x ∷ xs) = do
  b ← f x
  bs ← runs f xs
  ok (b ∷ bs)

-- what runs gives, with `found` before it
abbrev pub after : {B : Type 0} → List B → Out (List B) → Out (List B)
after found o = o >>= λ bs. ok (found ++ bs)

pub after_none : {B : Type 0} (o : Out (List B)) → after [] o ≡ o
unfolding ◌>>=◌
after_none (ok bs) = refl
after_none (refuse n p) = refl

pub after_one : {B : Type 0} (found : List B) (b : B) (o : Out (List B)) → after found (o >>= λ bs. ok (b ∷ bs)) ≡ after (found ++ (b ∷ [])) o
unfolding ◌>>=◌
after_one found b (ok bs) = ap ok (sym (append_assoc found (b ∷ []) bs))
after_one found b (refuse n p) = refl

-- the things xs from `at` on: at i, those found so far, k of them, and the rest
pub record Going {A B : Type 0} (f : A → Out B) (w : A → List ℕ) (Item : A → Type 0) (t : List ℕ) (at end lo hi : ℕ) (xs : List A) (i k : ℕ) (found : List B) : Type 0 where
  pub left : List A
  pub same : runs f xs ≡ (runs f left >>= λ bs. ok (found ++ bs))
  pub sound : All Item left
  pub listed : Listed t i end lo hi w left
  pub ends : i + length (list_w w left) ≡ at + length (list_w w xs)
  pub count : k ≡ length found
  pub total : length found + length left ≡ length xs
  pub from : at + k ≤ i

-- the thing at i
pub record Next {A : Type 0} (w : A → List ℕ) (Item : A → Type 0) (t : List ℕ) (i end : ℕ) (left : List A) : Type 0 where
  pub item : A
  pub tail : List A
  pub is : left ≡ item ∷ tail
  pub sound : Item item
  pub sounds : All Item tail
  pub some : 0 < length (w item)
  pub alone : Alone t i end (w item)

unfoldable pub begin : {A B : Type 0} {f : A → Out B} {w : A → List ℕ} {Item : A → Type 0} {t : List ℕ} {at end lo hi : ℕ} {xs : List A} → Listed t at end lo hi w xs → All Item xs
    → Going f w Item t at end lo hi xs at 0 []
begin {f = f} {xs = xs} l p = record { left = xs; same = sym (after_none (runs f xs)); sound = p; listed = l; ends = refl; count = refl; total = omega arith; from = omega arith }

module _ {A B : Type 0} {f : A → Out B} {w : A → List ℕ} {Item : A → Type 0} {t : List ℕ} {end lo hi : ℕ} (starts : Starts t end lo hi w Item) {at : ℕ} {xs : List A} {i k : ℕ} {found : List B}
    (g : Going f w Item t at end lo hi xs i k found) where
  pub next : among_of t i end lo hi ≡ true → Next w Item t i end g.left
  unfolding All
  next e =
      let c = more starts g.left g.listed e in
      let p = subst (All Item) c.is g.sound in
      record {
        item = c.head;
        tail = c.tail;
        is = c.is;
        sound = p.0;
        sounds = p.1;
        some = (starting starts (subst (Listed t i end lo hi w) c.is g.listed) p.0).1;
        alone = alone starts (subst (Listed t i end lo hi w) c.is g.listed) p.1;
      }

  pub one : (n : Next w Item t i end g.left) → runs f xs ≡ after found (f n.item >>= λ b. runs f n.tail >>= λ bs. ok (b ∷ bs))
  unfolding runs
  one n = g.same ∙ ap (λ l. after found (runs f l)) n.is

  pub stop : (n : Next w Item t i end g.left) {m p : ℕ} → f n.item ≡ refuse m p → runs f xs ≡ refuse m p
  unfolding ◌>>=◌
  stop n e = one n ∙ rw e

  unfoldable pub onward : (n : Next w Item t i end g.left) → {b : B} → f n.item ≡ ok b → Going f w Item t at end lo hi xs (i + length (w n.item)) (k + 1) (found ++ (b ∷ []))
  unfolding ◌>>=◌ list_w
  onward n {b} e =
      let l = subst (Listed t i end lo hi w) n.is g.listed in
      record {
        left = n.tail;
        same = one n ∙ rw e (after_one found b (runs f n.tail));
        sound = n.sounds;
        listed = rest starts l;
        ends = omega (arith, subst (λ l. i + length (list_w w l) ≡ at + length (list_w w xs)) n.is g.ends, length-append (w n.item) (list_w w n.tail));
        count = omega (arith, g.count, length-append found (b ∷ []));
        total = omega (arith, g.total, ap length n.is, length-append found (b ∷ []));
        from = omega (arith, g.from, n.some);
      }

  pub finish : among_of t i end lo hi ≡ false → (runs f xs ≡ ok found) × (i ≡ at + length (list_w w xs))
  unfolding runs ◌>>=◌ list_w
  finish e =
      let z = no_more starts g.left g.listed g.sound e in
      (g.same ∙ rw z (ap ok (append-nil found)), omega (arith, subst (λ l. i + length (list_w w l) ≡ at + length (list_w w xs)) z g.ends))

  pub room : (i ≤ end) × (k ≤ i)
  room = (omega (arith, g.listed.within), omega (arith, g.from))
