-- Where the blocks of a resolved program begin, and the table that says it. Assumes nothing.
use Rattle.std.specs.Prelude.{◌≡◌, refl, get_or, set, drop}
use Rattle.std.proofs.Common.{sym, ◌∙◌, arith}
use Rattle.std.proofs.Math.Path.{ap, subst}
use Prim.Native.Nat.{ℕ, zero, suc, ◌+◌, ◌≤◌, ◌<◌}
use mathlib.Core.List.{List, [], ◌∷◌}
use Rattle.std.proofs.Math.ListN.{length, length-append, get_or-append}
use Rattle.rules.specs.Outcome.{ok, nth}
use Rattle.rules.specs.Syntax.{Block, Callee, Program}
use Rattle.rules.proofs.Laws.Outcomes.{no_ok, ok-inj}
use Rattle.rules.proofs.Laws.Spelt.{All}
use Rattle.rules.proofs.Laws.Numbered.{NumberedBlock}
use Rattle.rules.proofs.Laws.Scoped.{nth-below}
use Rattle.tape.specs.Encoding.{list_w, block_w}
use Rattle.tape.specs.Resolved.{slot_w, meant_w}
use Rattle.tape.specs.Lies.{Lies, lies-left, lies-right}
use Rattle.tape.specs.Written.{put, put_is}
use Rattle.unfold.specs.Header.{HereBlock}
use Rattle.unfold.specs.Shelf.{Shelf}
use Rattle.places.specs.Held.{Held}
use Rattle.places.specs.Numbered.{here-block, here-body}

abbrev words_of : Block ℕ Callee → List ℕ
words_of B = block_w slot_w meant_w B

-- where each block begins, the first at n
unfoldable pub starts : ℕ → List (Block ℕ Callee) → List ℕ
starts n [] = []
starts n (B ∷ Bs) = n ∷ starts (n + length (words_of B)) Bs

starts-many : (n : ℕ) (Bs : List (Block ℕ Callee)) → length (starts n Bs) ≡ length Bs
unfolding starts
starts-many n [] = refl
starts-many n (B ∷ Bs) = ap suc (starts-many (n + length (words_of B)) Bs)

-- blocks Bs of the text s lie from i to the end
pub record Rest (s t : List ℕ) (i end : ℕ) (Bs : List (Block ℕ Callee)) : Type 0 where
  pub lies : Lies t i (list_w (block_w slot_w meant_w) Bs)
  pub ends : i + length (list_w (block_w slot_w meant_w) Bs) ≡ end
  pub short : end ≤ 16384
  pub numbered : All (NumberedBlock s) Bs
  pub few : length s ≤ 16384

pub rest-whole : {s t : List ℕ} {end : ℕ} {P : Program} → Held s t end P → Rest s t 0 end P.blocks
rest-whole h = record { lies = h.lies; ends = omega (arith, h.size); short = h.short; numbered = h.numbered; few = h.few }

pub rest-first : {s t : List ℕ} {i end : ℕ} {B : Block ℕ Callee} {Bs : List (Block ℕ Callee)} → Rest s t i end (B ∷ Bs) → HereBlock t i end B
unfolding list_w All
rest-first {s} {B = B} {Bs = Bs} r =
    let n = length-append (words_of B) (list_w words_of Bs) in
    here-block s r.few r.numbered.0 (lies-left (words_of B) (list_w words_of Bs) r.lies) (omega (arith, r.ends, n)) (omega (arith, r.lies.fits, r.ends)) r.short

pub rest-later : {s t : List ℕ} {i end : ℕ} {B : Block ℕ Callee} {Bs : List (Block ℕ Callee)} → Rest s t i end (B ∷ Bs) → Rest s t (i + length (block_w slot_w meant_w B)) end Bs
unfolding list_w All
rest-later {B = B} {Bs = Bs} r = record {
  lies = lies-right (words_of B) (list_w words_of Bs) r.lies;
  ends = omega (arith, r.ends, length-append (words_of B) (list_w words_of Bs));
  short = r.short;
  numbered = r.numbered.1;
  few = r.few;
}

block-some : (B : Block ℕ Callee) → 0 < length (words_of B)
unfolding block_w
block-some B = omega arith

-- ---- every block lies where it begins

nth-starts : {s t : List ℕ} {end : ℕ} (i : ℕ) (Bs : List (Block ℕ Callee)) (b : ℕ) {B : Block ℕ Callee} → Rest s t i end Bs → nth 7 Bs b ≡ ok B
    → NumberedBlock s B × HereBlock t (get_or (starts i Bs) b 0) end B
unfolding nth starts All
nth-starts i [] b r e = absurd (no_ok e)
nth-starts {s} {t} {end} i (C ∷ Bs) zero r e = subst (λ B. NumberedBlock s B × HereBlock t i end B) (ok-inj e) (r.numbered.0, rest-first r)
nth-starts i (C ∷ Bs) (suc b) r e = nth-starts (i + length (words_of C)) Bs b (rest-later r) e

put_front : (l ws : List ℕ) (b : ℕ) → length ws ≤ length l → b < length ws → get_or (put l 0 ws) b 0 ≡ get_or ws b 0
put_front l ws b h k = ap (λ l. get_or l b 0) (put_is ws l 0 (omega arith)) ∙ get_or-append ws (drop (0 + length ws) l) 0 b k

-- a table that holds them
module _ {s t : List ℕ} (l u : List ℕ) {end : ℕ} (P : Program) (full : length l ≡ 64) (table : u ≡ put l 0 (starts 0 P.blocks)) (h : Held s t end P) where
  found : (b : ℕ) (B : Block ℕ Callee) → nth 7 P.blocks b ≡ ok B → NumberedBlock s B × HereBlock t (get_or u b 0) end B
  found b B e =
      let n = starts-many 0 P.blocks in
      let i = put_front l (starts 0 P.blocks) b (omega (arith, n, h.many, full)) (omega (arith, n, nth-below 7 P.blocks b e)) in
      subst (λ i. NumberedBlock s B × HereBlock t i end B) (sym (ap (λ l. get_or l b 0) table ∙ i)) (nth-starts 0 P.blocks b (rest-whole h) e)

  pub shelf : Shelf (length s) P t u end
  shelf = record {
    block = λ b B e. (found b B e).1;
    body = λ b B e. here-body s h.few (found b B e).0 (found b B e).1;
    scoped = h.scoped;
    many = h.many;
  }

-- ---- the loop over blocks: at i, with k of them found

pub record Finding (s t : List ℕ) (end : ℕ) (P : Program) (l₀ l : List ℕ) (i k : ℕ) : Type 0 where
  pub left : List (Block ℕ Callee)
  pub rest : Rest s t i end left
  pub count : k + length left ≡ length P.blocks
  pub same : put l k (starts i left) ≡ put l₀ 0 (starts 0 P.blocks)

pub finding-begin : {s t : List ℕ} {end : ℕ} {P : Program} (l : List ℕ) → Held s t end P → Finding s t end P l l 0 0
finding-begin {P = P} l h = record { left = P.blocks; rest = rest-whole h; count = omega arith; same = refl }

-- another block
pub record Another (s t : List ℕ) (i end : ℕ) (left : List (Block ℕ Callee)) : Type 0 where
  pub block : Block ℕ Callee
  pub others : List (Block ℕ Callee)
  pub is : left ≡ block ∷ others
  pub here : HereBlock t i end block
  pub some : 0 < length (block_w slot_w meant_w block)

module _ {s t : List ℕ} {end : ℕ} {P : Program} {l₀ l : List ℕ} {i k : ℕ} (f : Finding s t end P l₀ l i k) where
  pub finding-next : i < end → Another s t i end f.left
  unfolding list_w
  finding-next h = go f.left f.rest
    where
      go : (Bs : List (Block ℕ Callee)) → Rest s t i end Bs → Another s t i end Bs
      go [] r = absurd (omega (arith, r.ends))
      go (B ∷ Bs) r = record { block = B; others = Bs; is = refl; here = rest-first r; some = block-some B }

  module _ (a : Another s t i end f.left) where
    pub finding-place : k < length P.blocks
    finding-place = omega (arith, f.count, ap length a.is)

    pub finding-on : {j : ℕ} {u : List ℕ} → j ≡ i + length (block_w slot_w meant_w a.block) → u ≡ set l k i → Finding s t end P l₀ u j (k + 1)
    unfolding starts put
    finding-on e q = rw (e, q) (record {
      left = a.others;
      rest = rest-later (subst (Rest s t i end) a.is f.rest);
      count = omega (arith, f.count, ap length a.is);
      same = subst (λ Bs. put l k (starts i Bs) ≡ put l₀ 0 (starts 0 P.blocks)) a.is f.same;
    })

  pub finding-end : end ≤ i → l ≡ put l₀ 0 (starts 0 P.blocks)
  unfolding list_w starts put
  finding-end h = go f.left f.rest f.same
    where
      go : (Bs : List (Block ℕ Callee)) → Rest s t i end Bs → put l k (starts i Bs) ≡ put l₀ 0 (starts 0 P.blocks) → l ≡ put l₀ 0 (starts 0 P.blocks)
      go [] r e = e
      go (B ∷ Bs) r e = absurd (omega (arith, r.ends, length-append (words_of B) (list_w words_of Bs), block-some B))

  -- the table is full
  pub finding-full : length P.blocks ≤ k → end ≤ i
  unfolding list_w
  finding-full h = go f.left f.rest f.count
    where
      go : (Bs : List (Block ℕ Callee)) → Rest s t i end Bs → k + length Bs ≡ length P.blocks → end ≤ i
      go [] r e = omega (arith, r.ends)
      go (B ∷ Bs) r e = absurd (omega (arith, e))
