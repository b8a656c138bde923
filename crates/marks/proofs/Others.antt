-- A word that is not the one wanted: the `else` of a pattern knows only that the variant is not that one. Assumes nothing.
use Rattle.std.specs.Prelude.{◌≡◌, refl, ℕ, Bool, true, false, Err, List, eqb}
use borrow.Author.Tests.{ne_eqb}
use Rattle.rules.specs.Text.{pick}
use Rattle.rules.specs.Outcome.{refuse}
use Rattle.rules.specs.Words.{word_at}
use Rattle.std.proofs.lemmas.Bool.{eqb-true}
use Rattle.rules.specs.Readers.{Reader, marked, named, a_name, after}
use Rattle.rules.specs.Reasons.{number}
use Rattle.rules.specs.declared.Word.{Word}
use Rattle.rules.specs.declared.Word.TheVariants.{Bad, Name, Number, Mark}
use Rattle.rules.specs.declared.Refusal.{Refusal}
use Rattle.marks.specs.Marks.{unwanted, mark_at, is_code, dividing, Ends}

abbrev NoMark : Word → Type 0
NoMark w = (b p n : ℕ) → w ≡ Mark b p n → ⊥

pub no-mark : (joins : ℕ → Bool) (w : Word) → NoMark w → Ends joins w
unfolding Ends
no-mark joins (Bad p) h = tt
no-mark joins (Name p q) h = tt
no-mark joins (Number p q v) h = tt
no-mark joins (Mark b p q) h = absurd (h b p q refl)

pub no_code : (code : ℕ) (w : Word) → NoMark w → is_code code w ≡ false
unfolding is_code
no_code code (Bad p) h = refl
no_code code (Name p q) h = refl
no_code code (Number p q v) h = refl
no_code code (Mark b p q) h = absurd (h b p q refl)

unmarked : {A : Type 0} (w : Word) (f : ℕ → ℕ → Reader A) → NoMark w → marked w f ≡ refuse (number (unwanted w).reason) (unwanted w).place
unfolding marked
unmarked (Bad p) f h = refl
unmarked (Name p q) f h = refl
unmarked (Number p q v) f h = refl
unmarked (Mark b p q) f h = absurd (h b p q refl)

unnamed : (s : List ℕ) (w : Word) → ((p n : ℕ) → w ≡ Name p n → ⊥) → named s w ≡ refuse (number (unwanted w).reason) (unwanted w).place
unfolding named
unnamed s (Bad p) h = refl
unnamed s (Name p q) h = absurd (h p q refl)
unnamed s (Number p q v) h = refl
unnamed s (Mark b p q) h = refl

-- no mark where one is wanted
pub not_a_mark : (s : List ℕ) (code at : ℕ) {w : Word} {e : Refusal} → w ≡ word_at s at → e ≡ unwanted w → NoMark w → mark_at s code at ≡ refuse (number e.reason) e.place
unfolding mark_at
not_a_mark s code at {w} f g h = rw (← f, g) (unmarked w _ h)

-- another mark
pub another_mark : (s : List ℕ) (code at : ℕ) {b p n : ℕ} {e : Refusal} → Mark b p n ≡ word_at s at → e ≡ unwanted (Mark b p n) → (b ≡ code → ⊥) → mark_at s code at ≡ refuse (number e.reason) e.place
unfolding mark_at marked pick
another_mark s code at f g h = rw (← f, g, ne_eqb _ _ h)

pub not_a_name : (s : List ℕ) (at : ℕ) {w : Word} {e : Refusal} → w ≡ word_at s at → e ≡ unwanted w → ((p n : ℕ) → w ≡ Name p n → ⊥) → a_name s at ≡ refuse (number e.reason) e.place
unfolding a_name
not_a_name s at {w} f g h = rw (← f, g) (unnamed s w h)

-- neither the mark that divides nor the one that closes
pub undivided : (sep close : ℕ) (w : Word) {v : Word} {e : Refusal} → w ≡ v → e ≡ unwanted w → NoMark w → Err e ≡ dividing sep close v
unfolding dividing
undivided sep close (Bad p) f g h = rw (← f, g)
undivided sep close (Name p q) f g h = rw (← f, g)
undivided sep close (Number p q v) f g h = rw (← f, g)
undivided sep close (Mark b p q) f g h = absurd (h b p q refl)

-- ---- one mark

pub coded : (code : ℕ) (w : Word) → is_code code w ≡ true → (p : ℕ) × (w ≡ Mark code p (after w))
unfolding is_code after
coded code (Bad p) e = absurd (cc)
coded code (Name p q) e = absurd (cc)
coded code (Number p q v) e = absurd (cc)
coded code (Mark b p q) e = (p, rw (eqb-true b code e))

pub uncoded : (joins : ℕ → Bool) (code : ℕ) (w : Word) → ((b : ℕ) → eqb b code ≡ false → joins b ≡ false) → is_code code w ≡ false → Ends joins w
unfolding is_code Ends
uncoded joins code (Bad p) f e = tt
uncoded joins code (Name p q) f e = tt
uncoded joins code (Number p q v) f e = tt
uncoded joins code (Mark b p q) f e = f b e
