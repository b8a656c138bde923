-- Lists whose items are read one after another, whatever the item is. Assumes nothing.
use Rattle.std.specs.Prelude.{◌≡◌, refl, ℕ, suc, ◌+◌, ◌<◌, ◌≤◌, Result, Ok, Err, List, [], ◌∷◌, length}
use Rattle.std.proofs.Common.{arith}
use Prim.Native.String.{String}
use Rattle.rules.specs.Outcome.{Out}
use Rattle.rules.specs.Words.{word_at, key}
use Rattle.rules.specs.Readers.{Reader, rest}
use Rattle.rules.specs.declared.Refusal.{Refusal}
use Rattle.tape.specs.Encoding.{list_w}
use Rattle.tape.specs.Written.{Got, Gives, none}
use Rattle.tape.specs.declared.Read.{Read}
use Rattle.marks.specs.declared.Spot.{Spot}
use Rattle.marks.specs.declared.Divided.TheVariants.{Another, Last}
use Rattle.marks.specs.Keys.{code}
use Rattle.marks.specs.declared.Key.TheVariants.{Comma, Var, Block}
use Rattle.marks.specs.Room.{wide}
use Rattle.marks.specs.Marks.{dividing}
use Rattle.marks.specs.Laws.Lists.{Row, begun, wrong, last, item-off, on, onto}

-- how many there are after k and these
abbrev pub from : {A : Type 0} → ℕ → List A → ℕ
from k l = k + length l

-- how many there are after k and this one
abbrev pub and-one : {A : Type 0} → ℕ → A → ℕ
and-one k a = k + 1

-- what a reader of one item leaves, and a reader of the rest of a list: of the text, the tape, what stands before it and the place of the
-- mark before an item
abbrev pub Reading : Type 1
Reading = List ℕ → List ℕ → Read → ℕ → List ℕ → Result Read Refusal → Type 0

abbrev pub Listed : Type 1
Listed = List ℕ → List ℕ → Read → List ℕ → Result Read Refusal → Type 0

-- how a list goes on, by what stands next: the marks by their numbers
pub record ListLaws (sep close : ℕ) (reads : Reading) (lists : Listed) : Type 0 where
  pub refused : (s t : List ℕ) (b : Read) (e : Refusal) → b.next ≤ length s → Err e ≡ dividing sep close (word_at s b.next) → lists s t b t (Err e)
  pub closed : (s t : List ℕ) (b : Read) (n : ℕ) → b.next ≤ length s → Ok (Last n) ≡ dividing sep close (word_at s b.next) → lists s t b t (Ok (record { next = n; end = b.end; names = b.names }))
  pub off : (s t : List ℕ) (b : Read) (m : Spot) (u : List ℕ) (e : Refusal) → b.next ≤ length s → Ok (Another m) ≡ dividing sep close (word_at s b.next)
      → reads s t (record { next = m.next; end = b.end; names = b.names }) m.place u (Err e) → lists s t b u (Err e)
  pub onward : (s t : List ℕ) (b : Read) (m : Spot) (u : List ℕ) (r : Read) → b.next ≤ length s → Ok (Another m) ≡ dividing sep close (word_at s b.next)
      → reads s t (record { next = m.next; end = b.end; names = b.names }) m.place u (Ok r) → (v : List ℕ) (a : Result Read Refusal) → lists s u r v a → lists s t b v a

-- an item and a list of the grammar, where the items are counted
abbrev pub Reads : {A : Type 0} → (A → List ℕ) → (List ℕ → ℕ → ℕ → Reader A) → Reading
Reads words item s t b p u r = Gives (and-one b.names) words (item s b.names p b.next) t b.end u r

abbrev pub Lists : {A : Type 0} → (A → List ℕ) → (List ℕ → ℕ → ℕ → Reader A) → String → String → Listed
Lists words item sep close s t b u r = Gives (from b.names) (list_w words) (rest s [] ◌∷◌ (item s) sep close b.names b.next) t b.end u r

-- an item that was read, and counted
module _ {A : Type 0} {words : A → List ℕ} {o : Out (A × ℕ)} {t : List ℕ} {to : ℕ} {u : List ℕ} {n m c : ℕ} (k : ℕ) where
  pub counted : {d : ℕ} → Got none words o t to u n m c → d ≡ k + 1 → Got (and-one k) words o t to u n m d
  counted g e = record { value = g.value; reads = g.reads; wrote = g.wrote; counts = e }

  pub uncounted : Got (and-one k) words o t to u n m c → Got none words o t to u n m 0
  uncounted g = record { value = g.value; reads = g.reads; wrote = g.wrote; counts = refl }

pub laws_of : {A : Type 0} (words : A → List ℕ) (item : List ℕ → ℕ → ℕ → Reader A) (sep close : String) → ((s : List ℕ) → Row s none words from (list_w words) [] ◌∷◌ (item s) sep close)
    → ListLaws (key sep) (key close) (Reads words item) (Lists words item sep close)
laws_of words item sep close R = record {
  refused = λ s t b e i h. wrong (R s) (begun (R s) t b.names b.next b.end) i e h;
  closed = λ s t b n i h. last (R s) (begun (R s) t b.names b.next b.end) i n b.names h (omega arith);
  off = λ s t b m u e i h g. item-off (R s) (begun (R s) t b.names b.next b.end) i h g;
  onward = λ s t b m u r i h g v a l. (onto (R s) (begun (R s) t b.names b.next b.end) i h (uncounted b.names g) r.names (omega (arith, g.counts))).goes a v l;
}

-- where they are not counted, whatever number k stands for the count in the rules
abbrev pub ReadsPlain : {A : Type 0} → (A → List ℕ) → (List ℕ → Reader A) → Reading
ReadsPlain words item s t b p u r = Gives none words (item s b.next) t b.end u r

abbrev pub ListsPlain : {A : Type 0} → (A → List ℕ) → (List ℕ → Reader A) → String → String → Listed
ListsPlain words item sep close s t b u r = (k : ℕ) → b.names ≡ 0 → Gives none (list_w words) (rest s [] ◌∷◌ (λ _ _. item s) sep close k b.next) t b.end u r

pub plain_laws_of : {A : Type 0} (words : A → List ℕ) (item : List ℕ → Reader A) (sep close : String) → ((s : List ℕ) → Row s none words (λ _. none) (list_w words) [] ◌∷◌ (λ _ _. item s) sep close)
    → ListLaws (key sep) (key close) (ReadsPlain words item) (ListsPlain words item sep close)
plain_laws_of words item sep close R = record {
  refused = λ s t b e i h k z. wrong (R s) (begun (R s) t k b.next b.end) i e h;
  closed = λ s t b n i h k z. last (R s) (begun (R s) t k b.next b.end) i n b.names h z;
  off = λ s t b m u e i h g k z. item-off (R s) (begun (R s) t k b.next b.end) i h g;
  onward = λ s t b m u r i h g v a l k z. (on (R s) (begun (R s) t k b.next b.end) i h g).goes a v (l (suc k) g.counts);
}

-- a mark that divides is wider than the end of the text
pub comma-seen : 0 < wide (code Comma)
comma-seen = let e : wide (code Comma) ≡ 1 = refl in omega (arith, e)

pub var-seen : 0 < wide (code Var)
var-seen = let e : wide (code Var) ≡ 3 = refl in omega (arith, e)

pub block-seen : 0 < wide (code Block)
block-seen = let e : wide (code Block) ≡ 5 = refl in omega (arith, e)
