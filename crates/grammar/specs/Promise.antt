-- What reading a text onto the work table promises: the answer, and every word of the table. Assumes nothing.
use Rattle.std.specs.Prelude.{◌≡◌, ℕ, ◌+◌, ◌*◌, ◌≤◌, ◌<◌, Result, Ok, Err, List, ◌++◌, replicate, leb}
use Rattle.std.proofs.Common.{sym, ◌∙◌}
use Rattle.std.proofs.Math.Path.{ap}
use native.Mathlib.Omega.{arith}
use Rattle.std.proofs.Math.ListN.{length, drop}
use borrow.Author.Tests.{le-leb, lt-leb}
use Rattle.rules.specs.Outcome.{Out, ok, refuse, ◌>>=◌, need}
use Rattle.rules.specs.Syntax.{Spelled}
use Rattle.rules.specs.Grammar.{blocks, grammar}
use Rattle.tape.specs.Layout.{name_w}
use Rattle.tape.specs.Encoding.{tape_of, list_w, block_w, callee_w}
use Rattle.tape.specs.Written.{Got, put_is}
use Rattle.tape.specs.declared.Read.{Read}
use Rattle.rules.specs.Reasons.{number}
use Rattle.rules.specs.Numbers.{same-refusal}
use Rattle.rules.specs.declared.Refusal.{Refusal}
use Rattle.marks.specs.Room.{Room}
use Rattle.lists.specs.Items.{from}

-- "Order: 1, 2. Then words from the front", where a work table of this length is lent
unfoldable pub read_text : List ℕ → ℕ → Out Spelled
read_text text table = do
  _ ← need (leb 16384 table) 1
  _ ← need (leb (length text) 16384) 2
  grammar text

-- the program was read to the text's end; its words stand at the front of the table, and what stood after them stays.
-- They are one for two bytes at most
pub record Stands (text before : List ℕ) (n m c : ℕ) (after : List ℕ) : Type 0 where
  pub program : Spelled
  pub reads : read_text text (length before) ≡ ok program
  pub to_the_end : n ≡ length text
  pub words : m ≡ length (tape_of program)
  pub blocks : c ≡ length program
  pub table : after ≡ tape_of program ++ drop m before
  pub half : 2 * m + 15 ≤ length text

-- the answer r and the table after it, for a text and the table before: the program, or the refusal with the table all zeros
abbrev pub Reads : List ℕ → List ℕ → Result Read Refusal → List ℕ → Type 0
Reads text before (Ok r) after = Stands text before r.next r.end r.names after
Reads text before (Err e) after = (read_text text (length before) ≡ refuse (number e.reason) e.place) × (after ≡ replicate (length before) 0)

-- the same, but that a refusal says nothing of the table
abbrev pub Tries : List ℕ → List ℕ → Result Read Refusal → List ℕ → Type 0
Tries text before (Ok r) after = Stands text before r.next r.end r.names after
Tries text before (Err e) after = read_text text (length before) ≡ refuse (number e.reason) e.place

-- ---- one input, one outcome

same-done : (text before : List ℕ) (r s : Read) (u v : List ℕ) → Stands text before r.next r.end r.names u → Stands text before s.next s.end s.names v → (r ≡ s) × (u ≡ v)
same-done text before r s u v a b =
    let p : a.program ≡ b.program = cc (a.reads, b.reads) in
    let i : r.next ≡ s.next = a.to_the_end ∙ sym b.to_the_end in
    let j : r.end ≡ s.end = a.words ∙ ap (λ P. length (tape_of P)) p ∙ sym b.words in
    let k : r.names ≡ s.names = a.blocks ∙ ap length p ∙ sym b.blocks in
    (rw (i, j, k), a.table ∙ ap (λ P. tape_of P ++ drop r.end before) p ∙ ap (λ l. tape_of b.program ++ drop l before) j ∙ sym b.table)

pub one-outcome : (text before : List ℕ) (r s : Result Read Refusal) (u v : List ℕ) → Reads text before r u → Reads text before s v → (r ≡ s) × (u ≡ v)
one-outcome text before (Ok r) (Ok s) u v a b = let p = same-done text before r s u v a b in (ap Ok p.0, p.1)
one-outcome text before (Ok r) (Err e) u v a b = let z : ◌≡◌ {A = ℕ} 0 1 = cc (a.reads, b.0) in absurd (omega arith)
one-outcome text before (Err e) (Ok s) u v a b = let z : ◌≡◌ {A = ℕ} 0 1 = cc (a.0, b.reads) in absurd (omega arith)
one-outcome text before (Err e) (Err f) u v a b = (ap Err (same-refusal e f (cc (a.0, b.0)) (cc (a.0, b.0))), a.1 ∙ sym b.1)

-- ---- a second text of the same size fits beside the first: after its words there is room to read one more

pub beside : (text more before after : List ℕ) (n m c : ℕ) → Stands text before n m c after → length text ≤ 16384 → length more ≤ 16384 → (table : List ℕ) → 16384 ≤ length table → Room 4 more table 0 m
beside text more before after n m c S a b table d = (b, omega arith, omega (arith, S.half))

-- ---- how the code meets it

module _ (text before : List ℕ) where
  pub table-short : length before < 16384 → read_text text (length before) ≡ refuse 1 0
  unfolding read_text ◌>>=◌ need
  table-short h = rw (lt-leb _ _ h)

  module _ (h : 16384 ≤ length before) where
    pub text-long : 16384 < length text → read_text text (length before) ≡ refuse 2 0
    unfolding read_text ◌>>=◌ need
    text-long l = rw (le-leb _ _ h, lt-leb _ _ l)

    module _ (l : length text ≤ 16384) where
      pub text-refused : {k p : ℕ} → blocks text 0 ≡ refuse k p → read_text text (length before) ≡ refuse k p
      unfolding read_text ◌>>=◌ need grammar
      text-refused e = rw (le-leb _ _ h, le-leb _ _ l, e)

      pub text-stands : {after : List ℕ} {n m c : ℕ} → Got (from 0) (list_w (block_w name_w callee_w)) (blocks text 0) before 0 after n m c → 2 * m + 15 ≤ length text → (x : ℕ) → x ≡ length text → Stands text before x m c after
      unfolding read_text ◌>>=◌ need grammar
      text-stands {after} {n} {m} {c} g half x e =
          let size : m ≡ length (tape_of g.value) = omega (arith, g.wrote.end) in
          let room : 0 + length (tape_of g.value) ≤ length before = omega arith in
          let at : 0 + length (tape_of g.value) ≡ m = omega arith in
          record {
            program = g.value;
            reads = rw (le-leb _ _ h, le-leb _ _ l, g.reads);
            to_the_end = e;
            words = size;
            blocks = omega (arith, g.counts);
            table = g.wrote.tape ∙ put_is (tape_of g.value) before 0 room ∙ ap (λ k. tape_of g.value ++ drop k before) at;
            half = half;
          }
