-- The promise of the program: what it prints for a text. Assumes nothing.
use Rattle.std.specs.Prelude.{◌≡◌, refl, List, [], ◌∷◌, ℕ, length, take, eqb}
use Rattle.std.proofs.Common.{sym, ap, subst, ◌∙◌, eq-eqb, ne_eqb}
use Rattle.io.specs.Counts.{IsPrefixLen}
use Rattle.rules.specs.Text.{bytes, joined, pick}
use Rattle.rules.specs.Netlist.{WellFormed}
use Rattle.rules.specs.Flat.{flat_text}
use Rattle.rules.specs.Flatten.{Answer, flatten}
use Rattle.rules.proofs.Demands.{well-formed}
use Rattle.pebble.specs.Decimal.{decimal}

-- "one line `refused N P` (number, place)"
unfoldable pub refused_text : ℕ → ℕ → List ℕ
refused_text number place = joined (bytes "refused " ∷ decimal number ∷ bytes " " ∷ decimal place ∷ bytes "\n" ∷ [])

-- "prints the flat text, or one line"
unfoldable pub shown : Answer → List ℕ
shown a = pick (eqb a.number 0) (flat_text a.words) (refused_text a.number a.place)

-- the bytes that the program prints for a text: flattening's answer, where buffers of the least sizes are lent
unfoldable pub printed : List ℕ → List ℕ
printed text = shown (flatten text 16384 5124)

-- ---- what the code prints for an answer: any number, place and words

pub data Shows (number place : ℕ) (words : List ℕ) : List ℕ → Type 0 where
  refused : (number ≡ 0 → ⊥) → Shows number place words (refused_text number place)
  flat : number ≡ 0 → WellFormed words → Shows number place words (flat_text words)
  -- no flattening ends so
  spoiled : number ≡ 0 → (WellFormed words → ⊥) → Shows number place words (refused_text 19 0)

-- that stands at the front of a buffer u, r bytes long
pub record Says (number place : ℕ) (words : List ℕ) (r : ℕ) (u : List ℕ) : Type 0 where
  pub counts : IsPrefixLen r u
  pub shows : Shows number place words (take r u)

-- two outcomes that are permitted for one input are equal
pub shows-one : {number place : ℕ} {words u v : List ℕ} → Shows number place words u → Shows number place words v → u ≡ v
shows-one (refused h) (refused g) = refl
shows-one (refused h) (flat g x) = absurd (h g)
shows-one (refused h) (spoiled g x) = absurd (h g)
shows-one (flat h x) (refused g) = absurd (g h)
shows-one (flat h x) (flat g y) = refl
shows-one (flat h x) (spoiled g y) = absurd (y x)
shows-one (spoiled h x) (refused g) = absurd (g h)
shows-one (spoiled h x) (flat g y) = absurd (x y)
shows-one (spoiled h x) (spoiled g y) = refl

-- ---- what the code prints for a text

-- r bytes at the front of a buffer u, and they are what the program prints
pub record Prints (text : List ℕ) (r : ℕ) (u : List ℕ) : Type 0 where
  pub counts : IsPrefixLen r u
  pub is : take r u ≡ printed text

-- two outcomes that are permitted for one text are equal
pub prints-one : {text u v : List ℕ} {r s : ℕ} → Prints text r u → Prints text s v → (r ≡ s) × (take r u ≡ take s v)
prints-one a b =
    let e = a.is ∙ sym b.is in
    (a.counts.1 ∙ ap length e ∙ sym b.counts.1, e)

shown-answer : (text : List ℕ) {u : List ℕ}
    → Shows (flatten text 16384 5124).number (flatten text 16384 5124).place (flatten text 16384 5124).words u → u ≡ printed text
unfolding printed shown pick
shown-answer text (refused h) = rw (ne_eqb _ _ h)
shown-answer text (flat h x) = rw (eq-eqb _ _ h)
shown-answer text (spoiled h x) = absurd (x (well-formed text 16384 5124 h))

-- what is shown of the answer of flattening is what the program promises
pub as-promised : (text : List ℕ) {work net number place r : ℕ} {words u : List ℕ}
    → number ≡ (flatten text work net).number → place ≡ (flatten text work net).place → words ≡ (flatten text work net).words
    → work ≡ 16384 → net ≡ 5124 → Says number place words r u → Prints text r u
as-promised text {work} {net} {number} {place} {r} {words} {u} e f g w n s =
    let t : flatten text work net ≡ flatten text 16384 5124 = rw (w, n) in
    let h : Shows (flatten text 16384 5124).number (flatten text 16384 5124).place (flatten text 16384 5124).words (take r u) =
    subst (λ (a : Answer). Shows a.number a.place a.words (take r u)) t
    (subst (λ (l : List ℕ). Shows (flatten text work net).number (flatten text work net).place l (take r u)) g
    (subst (λ (p : ℕ). Shows (flatten text work net).number p words (take r u)) f
    (subst (λ (n : ℕ). Shows n place words (take r u)) e s.shows))) in
    record { counts = s.counts; is = shown-answer text h }
