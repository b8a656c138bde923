-- Readers: what reads a part of a text. A reader takes a place to what it reads there and the place after it, or refuses. Assumes nothing.
use Rattle.std.specs.Prelude.{ℕ, zero, suc, ◌-◌, Bool, false, List, length, take, drop, eqb}
use Prim.Native.String.{String}
use Rattle.rules.specs.declared.Word.{Word}
use Rattle.rules.specs.declared.Word.TheVariants.{Bad, Name as Named, Number, Mark}
use Rattle.rules.specs.Text.{pick}
use Rattle.rules.specs.Outcome.{Out, ok, refuse, ◌>>=◌ as ◌and-then◌}
use Rattle.rules.specs.Words.{word_at, key}
use Rattle.rules.specs.Syntax.{Name}

abbrev pub Reader : Type 0 → Type 0
Reader A = ℕ → Out (A × ℕ)

-- one after the other
infixl 20 ◌>>=◌
unfoldable pub ◌>>=◌ : {A B : Type 0} → Reader A → (A → Reader B) → Reader B
(m >>= f) at = ◌and-then◌ (m at) (λ r. f r.0 r.1)

unfoldable pub give : {A : Type 0} → A → Reader A
give a at = ok (a, at)

abbrev pub refused : {A : Type 0} → ℕ → ℕ → Reader A
refused n p at = refuse n p

-- ---- one word: 3 if it is of no kind, 4 if it is not one that is wanted here

-- a mark or a reserved word, and its place
unfoldable pub marked : {A : Type 0} → Word → (ℕ → ℕ → Reader A) → Out (A × ℕ)
marked (Bad p) f = refuse 3 p
marked (Named p q) f = refuse 4 p
marked (Number p q v) f = refuse 4 p
marked (Mark b p q) f = f b p q

abbrev pub spelling : List ℕ → ℕ → ℕ → Name
spelling s p q = record { place = p; letters = take (q - p) (drop p s) }

unfoldable pub named : List ℕ → Word → Out (Name × ℕ)
named s (Bad p) = refuse 3 p
named s (Named p q) = ok (spelling s p q, q)
named s (Number p q v) = refuse 4 p
named s (Mark b p q) = refuse 4 p

-- is it this mark or reserved word? where does it end?
unfoldable pub is_next : String → Word → Bool
is_next k (Bad p) = false
is_next k (Named p q) = false
is_next k (Number p q v) = false
is_next k (Mark b p q) = eqb b (key k)

unfoldable pub after : Word → ℕ
after (Bad p) = p
after (Named p q) = q
after (Number p q v) = q
after (Mark b p q) = q

module _ (s : List ℕ) where
  -- this mark or reserved word: its place
  unfoldable pub mark : String → Reader ℕ
  mark k at = marked (word_at s at) (λ b p. pick (eqb b (key k)) (give p) (refused 4 p))

  unfoldable pub a_name : Reader Name
  a_name at = named s (word_at s at)

  -- after this mark or reserved word the first; without it the second, which has passed no word
  unfoldable pub if_next : {A : Type 0} → String → Reader A → Reader A → Reader A
  if_next k then else at = pick (is_next k (word_at s at)) (λ _. then (after (word_at s at))) else at

  -- ---- lists. An item is told how many stand before it, and the place of the mark before it (0 for the first of `some`)

  -- after k items: `sep` and another item, again and again, then `close`; `none` and `more` build the list. VARs have the mark VAR
  -- before each, and the end of the text closes the blocks. The first number bounds how often: the text's length is enough
  -- (Laws.Enough), and 4 at 0 is never given
  unfoldable pub rest_up_to : {A B : Type 0} → B → (A → B → B) → (ℕ → ℕ → Reader A) → String → String → ℕ → ℕ → Reader B
  rest_up_to none more item sep close zero k = refused 4 0
  rest_up_to none more item sep close (suc bound) k = λ at. marked (word_at s at) λ b p.
      pick (eqb b (key sep))
      (do
        a ← item k p
        r ← rest_up_to none more item sep close bound (suc k)
        give (more a r))
      (pick (eqb b (key close)) (give none) (refused 4 p))

  abbrev pub rest : {A B : Type 0} → B → (A → B → B) → (ℕ → ℕ → Reader A) → String → String → ℕ → Reader B
  rest none more item sep close k = rest_up_to none more item sep close (suc (length s)) k

  -- one item or more
  unfoldable pub some : {A B : Type 0} → B → (A → B → B) → (ℕ → ℕ → Reader A) → String → String → ℕ → Reader B
  some none more item sep close k = do
    a ← item k 0
    r ← rest none more item sep close (suc k)
    give (more a r)

  -- none or more
  unfoldable pub any : {A B : Type 0} → B → (A → B → B) → (ℕ → ℕ → Reader A) → String → String → ℕ → Reader B
  any none more item sep close k = if_next close (give none) (some none more item sep close k)
