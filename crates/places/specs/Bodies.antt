-- Where a block's body begins: at the first word of its kind after the block's own. Assumes nothing.
use Rattle.std.specs.Prelude.{◌≡◌, ℕ, ◌+◌, ◌≤◌, ◌<◌, List, [], ◌∷◌, ◌++◌, length, get_or}
use Rattle.std.proofs.Common.{sym, ap, ◌∙◌, subst}
use native.Mathlib.Omega.{arith}
use Rattle.std.proofs.Math.Decide.{dec_lt}
use Rattle.std.proofs.Math.ListN.{length-append}
use Rattle.rules.specs.Syntax.{Name, Sort, wire, vector, num, Decl, Block, Callee}
use Rattle.rules.proofs.Laws.Spelt.{All, AllSort}
use Rattle.tape.specs.Layout.{pack, kind_of, value_of, kind-of, name_w}
use Rattle.tape.specs.Encoding.{exp_w, list_w, sort_w, decl_w, generic_w, block_w}
use Rattle.tape.specs.Resolved.{slot_w, meant_w}
use Rattle.tape.specs.Lies.{Lies, lies-first, lies-rest, lies-left, lies-right}
use Rattle.values.specs.Sizes.{GroupedSort}
use Rattle.frames.specs.Ports.{Declared}
use Rattle.frames.specs.Fresh.{name_words}
use Rattle.unfold.specs.Header.{HereBlock, body_w, in_w, out_w, after_generics, after_inputs, after_ports, after_locals, body-many, body-room}
use Rattle.unfold.specs.Quiet.{Soft, Quiet, quiet-append, quiet-exp}

-- of the words from i on, `body` is the first of a body
pub record FirstBody (t : List ℕ) (i body : ℕ) : Type 0 where
  pub from : i ≤ body
  pub room : body < length t
  pub before : (j : ℕ) → i ≤ j → j < body → kind_of (get_or t j 0) ≡ 8 → ⊥
  pub is : kind_of (get_or t body 0) ≡ 8

pub record WrittenBody (t : List ℕ) (i : ℕ) : Type 0 where
  pub body : ℕ
  pub first : FirstBody t i body

-- ---- one word after the other

module _ {t : List ℕ} {at body i : ℕ} (b : FirstBody t at body) (low : at ≤ i) (high : i ≤ body) where
  pub here : kind_of (get_or t i 0) ≡ 8 → i ≡ body
  here e = go (dec_lt i body)
    where
      go : Dec (i < body) → i ≡ body
      go (yes h) = absurd (b.before i low h e)
      go (no h) = omega arith

  pub further : (kind_of (get_or t i 0) ≡ 8 → ⊥) → i < body
  further e = go (dec_lt i body)
    where
      go : Dec (i < body) → i < body
      go (yes h) = h
      go (no h) = let q : body ≡ i = omega arith in absurd (e (subst (λ j. kind_of (get_or t j 0) ≡ 8) q b.is))

-- ---- the words of a header begin no body

soft : (k h v : ℕ) → 8 < k → h < 8 → v < 33554432 → Soft (pack k h v)
soft k h v c a b = ((λ e. omega (arith, kind-of k h v a b, e)), (λ e. omega (arith, kind-of k h v a b, e)), (λ e. omega (arith, kind-of k h v a b, e)))

quiet-sort : (k v : ℕ) (s : Sort ℕ) → 8 < k → v < 33554432 → GroupedSort s → length (sort_w slot_w k v s) < 33554432 → Quiet (sort_w slot_w k v s)
unfolding sort_w All AllSort
quiet-sort k v wire c b g l = (soft k 0 v c (omega arith) b, tt)
quiet-sort k v (vector x y) c b g l =
    let n = length-append (exp_w slot_w 0 x) (exp_w slot_w 0 y) in
    (soft k 1 v c (omega arith) b, quiet-append (exp_w slot_w 0 x) (exp_w slot_w 0 y) (quiet-exp 0 2 x (omega arith) g.0 (omega (arith, n))) (quiet-exp 0 2 y (omega arith) g.1 (omega (arith, n))))
quiet-sort k v num c b g l = (soft k 2 v c (omega arith) b, tt)

quiet-decls : (k : ℕ) (ds : List (Decl ℕ)) → All (Declared k) ds → length (list_w (name_words k) ds) < 33554432 → Quiet (list_w (name_words k) ds)
unfolding list_w decl_w All
quiet-decls k [] g l = tt
quiet-decls k (d ∷ ds) g l =
    let n = length-append (sort_w slot_w k (name_w d.name) d.sort) (list_w (name_words k) ds) in
    quiet-append (sort_w slot_w k (name_w d.name) d.sort) (list_w (name_words k) ds)
    (quiet-sort k (name_w d.name) d.sort (omega (arith, g.0.low)) g.0.name g.0.sort (omega (arith, n)))
    (quiet-decls k ds g.1 (omega (arith, n)))

quiet-generics : (ns : List Name) → All (λ n. name_w n < 33554432) ns → Quiet (list_w generic_w ns)
unfolding list_w generic_w All
quiet-generics [] g = tt
quiet-generics (n ∷ ns) g = (soft 10 0 (name_w n) (omega arith) (omega arith) g.0, quiet-generics ns g.1)

-- from i to j no word begins a body
abbrev Still : List ℕ → ℕ → ℕ → Type 0
Still t i j = (m : ℕ) → i ≤ m → m < j → kind_of (get_or t m 0) ≡ 8 → ⊥

still-words : (t : List ℕ) (i : ℕ) (ws : List ℕ) → Lies t i ws → Quiet ws → Still t i (i + length ws)
unfolding All
still-words t i [] l q m a b e = omega arith
still-words t i (w ∷ ws) l q m a b e = go (λ h. still-words t (i + 1) ws (lies-rest l) q.1 m (omega (arith, h)) (omega arith) e) (dec_lt i m)
  where
    go : (i < m → ⊥) → Dec (i < m) → ⊥
    go later (yes h) = later h
    go later (no h) = let x : m ≡ i = omega arith in q.0.2 (sym (ap kind_of (lies-first l)) ∙ subst (λ j. kind_of (get_or t j 0) ≡ 8) x e)

still-on : (t : List ℕ) (i j k : ℕ) → Still t i j → Still t j k → Still t i k
still-on t i j k p q m a b e = go (dec_lt m j)
  where
    go : Dec (m < j) → ⊥
    go (yes h) = p m a h e
    go (no h) = q m (omega arith) b e

module _ {t : List ℕ} {at end : ℕ} {B : Block ℕ Callee} (h : HereBlock t at end B) where
  abbrev rest : List ℕ
  rest = pack 8 0 (length (body_w B.body)) ∷ body_w B.body

  from-generics : Lies t (at + 1) (list_w generic_w B.generics ++ (list_w in_w B.inputs ++ (list_w out_w B.outputs ++ (list_w (name_words 13) B.locals ++ rest))))
  unfolding block_w
  from-generics = lies-rest h.lies

  from-inputs : Lies t (after_generics at B) (list_w in_w B.inputs ++ (list_w out_w B.outputs ++ (list_w (name_words 13) B.locals ++ rest)))
  from-inputs = lies-right (list_w generic_w B.generics) _ from-generics

  from-outputs : Lies t (after_inputs at B) (list_w out_w B.outputs ++ (list_w (name_words 13) B.locals ++ rest))
  from-outputs = lies-right (list_w in_w B.inputs) _ from-inputs

  from-locals : Lies t (after_ports at B) (list_w (name_words 13) B.locals ++ rest)
  from-locals = lies-right (list_w out_w B.outputs) _ from-outputs

  from-body : Lies t (after_locals at B) rest
  from-body = lies-right (list_w (name_words 13) B.locals) _ from-locals

  still : Still t (at + 1) (after_locals at B)
  still =
      let r = body-room h in
      still-on t (at + 1) (after_generics at B) (after_locals at B)
      (still-words t (at + 1) (list_w generic_w B.generics) (lies-left (list_w generic_w B.generics) _ from-generics) (quiet-generics B.generics h.generics))
      (still-on t (after_generics at B) (after_inputs at B) (after_locals at B)
      (still-words t (after_generics at B) (list_w in_w B.inputs) (lies-left (list_w in_w B.inputs) _ from-inputs) (quiet-decls 11 B.inputs h.inputs (omega (arith, r, h.short))))
      (still-on t (after_inputs at B) (after_ports at B) (after_locals at B)
      (still-words t (after_inputs at B) (list_w out_w B.outputs) (lies-left (list_w out_w B.outputs) _ from-outputs) (quiet-decls 12 B.outputs h.outputs (omega (arith, r, h.short))))
      (still-words t (after_ports at B) (list_w (name_words 13) B.locals) (lies-left (list_w (name_words 13) B.locals) _ from-locals) (quiet-decls 13 B.locals h.locals (omega (arith, r, h.short))))))

  pub body-first : FirstBody t (at + 1) (after_locals at B)
  body-first = record {
    from = omega arith;
    room = omega (arith, body-room h, h.limit);
    before = still;
    is = rw (lies-first from-body) (kind-of 8 0 (length (body_w B.body)) (omega arith) (omega (arith, body-room h, h.short)));
  }

  pub block-ends : after_locals at B + 1 + length (body_w B.body) ≡ at + length (block_w slot_w meant_w B)
  unfolding block_w
  block-ends = omega (
    arith,
    length-append (list_w generic_w B.generics) (list_w in_w B.inputs ++ (list_w out_w B.outputs ++ (list_w (name_words 13) B.locals ++ rest))),
    length-append (list_w in_w B.inputs) (list_w out_w B.outputs ++ (list_w (name_words 13) B.locals ++ rest)),
    length-append (list_w out_w B.outputs) (list_w (name_words 13) B.locals ++ rest),
    length-append (list_w (name_words 13) B.locals) rest,
  )

  -- the place after a block, by its body's word
  pub block-next : {body : ℕ} → body ≡ after_locals at B → body + 1 + value_of (get_or t body 0) ≡ at + length (block_w slot_w meant_w B)
  block-next e = rw (e, body-many h) block-ends
