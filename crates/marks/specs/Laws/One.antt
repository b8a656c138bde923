-- Laws of single words. Assumes nothing.
use Rattle.std.specs.Prelude.{◌≡◌, refl, ℕ, ◌+◌, ◌≤◌, true, false, List, length}
use Rattle.std.proofs.Common.{arith, length-take, length-drop}
use Prim.Native.String.{String}
use Rattle.rules.specs.declared.Word.{Word}
use Rattle.rules.specs.declared.Word.TheVariants.{Bad, Name as Named, Number, Mark}
use Rattle.rules.specs.Text.{pick}
use Rattle.rules.specs.Outcome.{Out, ok, refuse, ◌>>=◌ as ◌and-then◌}
use Rattle.rules.specs.Words.{word_at, key}
use Rattle.rules.specs.Readers.{Reader, ◌>>=◌, spelling, is_next, after, mark, if_next}
use Rattle.tape.specs.Layout.{spelt, name_w}
use Rattle.words.specs.Onward.{Onward, wide as bytes_of}
use Rattle.marks.specs.Marks.{mark_at, is_code}
use Rattle.marks.specs.Room.{wide}

-- readers one after another
module _ {A B : Type 0} (m : Reader A) (f : A → Reader B) (at : ℕ) where
  pub on : {a : A} {n : ℕ} → m at ≡ ok (a, n) → (m >>= f) at ≡ f a n
  unfolding ◌>>=◌ ◌and-then◌
  on e = rw e

  pub stop : {k p : ℕ} → m at ≡ refuse k p → (m >>= f) at ≡ refuse k p
  unfolding ◌>>=◌ ◌and-then◌
  stop e = rw e

-- a mark by its name
pub passed : (k : String) (s : List ℕ) (at : ℕ) {o : Out (ℕ × ℕ)} → mark_at s (key k) at ≡ o → mark s k at ≡ o
unfolding mark mark_at
passed k s at e = e

next-code : (k : String) (w : Word) → is_next k w ≡ is_code (key k) w
unfolding is_next is_code
next-code k (Bad p) = refl
next-code k (Named p q) = refl
next-code k (Number p q v) = refl
next-code k (Mark b p q) = refl

-- a mark that may be there
module _ {A : Type 0} (k : String) (s : List ℕ) (at : ℕ) (x y : Reader A) where
  pub there : {n : ℕ} → (is_code (key k) (word_at s at) ≡ true) × (after (word_at s at) ≡ n) → if_next s k x y at ≡ x n
  unfolding if_next pick
  there (e, f) = rw (next-code k (word_at s at), e, f)

  pub absent : is_code (key k) (word_at s at) ≡ false → if_next s k x y at ≡ y at
  unfolding if_next pick
  absent e = rw (next-code k (word_at s at), e)

-- a name's word: its place and length
pub spelt_is : (s : List ℕ) (p q : ℕ) → q ≤ length s → spelt p q ≡ name_w (spelling s p q)
unfolding name_w
spelt_is s p q h = rw (length-take, length-drop) (omega arith)

-- a mark that was passed has its bytes
pub past : (code b p q len at : ℕ) → b ≡ code → at ≤ len → Onward len at (Mark b p q) → (at ≤ p) × (p + wide code ≤ q) × (q ≤ len)
past code b p q len at e h o = omega (arith, bytes_of code e)
