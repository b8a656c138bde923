-- The sweep over the words of a tape, from the first to the last: what becomes of each word, or the refusal that it gives. Assumes nothing.
use Rattle.std.specs.Prelude.{ℕ, suc, ◌+◌, ◌*◌, ◌-◌, ◌<◌, ◌≤◌, min, max, ◌≡◌, Bool, true, false, not, ◌&&◌, ◌||◌, List, [], ◌∷◌, ◌++◌, map, length, get_or, set, take, drop, eqb, ltb, Option, Some, None, Result, Ok, Err}
use Rattle.rules.specs.Reasons.{number}
use Rattle.rules.specs.declared.Refusal.{Refusal}
use Rattle.rules.specs.Text.{bytes, pick, index_of, is_in}
use Rattle.rules.specs.Outcome.{Out, ok, refuse, ◌>>=◌, need_at}
use Rattle.rules.specs.Primitives.{inputs_of, primitive_names}
use Rattle.rules.specs.Names.{Role, a-generic, a-wire, a-vector, an-index, is_wire, is_vector, is_index, find, role_at, once}
use Rattle.tape.specs.Layout.{kind_of, head_in, value_of, NAME, BRACKET, CALL, INPUT, OUTPUT, INDEX, BODY, BLOCK, GENERIC, IN, OUT}
use Rattle.sweep.specs.declared.Spot.{Spot}
use Rattle.sweep.specs.declared.Heading.{Heading}
use Rattle.sweep.specs.declared.Step.{Step}
use Rattle.sweep.specs.Spelling.{place_of, letters_of, name_of, valued, scope_in}

-- ---- headings: the words of the tape that name blocks, generics, inputs and outputs, from place 4 on; before them four words of head 0,
-- for what a primitive wants

abbrev pub heading : ℕ → Bool
heading w = ltb 8 (kind_of w) && ltb (kind_of w) 13

unfoldable pub headings : List ℕ → List ℕ
headings [] = []
headings (w ∷ ws) = pick (heading w) (w ∷ headings ws) (headings ws)

-- where each block's heading begins, n being the place of the next one
unfoldable pub firsts : ℕ → List ℕ → List ℕ
firsts n [] = []
firsts n (w ∷ ws) = pick (heading w) (pick (eqb (kind_of w) BLOCK) (n ∷ firsts (n + 1) ws) (firsts (n + 1) ws)) (firsts n ws)

-- the words that name blocks
unfoldable pub titles : List ℕ → List ℕ
titles [] = []
titles (w ∷ ws) = pick (eqb (kind_of w) BLOCK) (w ∷ titles ws) (titles ws)

-- every place where a heading begins is there
pub record Rows (H F : List ℕ) : Type 0 where
  pub few : length H ≤ 3140
  pub there : (b : ℕ) → get_or F b 0 ≤ 3140

-- how many words of a kind stand first
unfoldable pub leading : ℕ → List ℕ → ℕ
leading k [] = 0
leading k (w ∷ ws) = pick (eqb (kind_of w) k) (suc (leading k ws)) 0

unfoldable pub heading_at : List ℕ → ℕ → Heading
heading_at H p =
    let g = leading GENERIC (drop (p + 1) H) in
    let i = leading IN (drop (p + 1 + g) H) in
    let o = leading OUT (drop (p + 1 + g + i) H) in
    record { generics = g; inputs = i; outputs = o; want = p + 1 + g }

abbrev pub gate_heading : ℕ → Heading
gate_heading k = record { generics = 0; inputs = inputs_of k; outputs = 1; want = 0 }

-- what a call wants: a primitive by its kind, a block by its number and 10
unfoldable pub heading_of : List ℕ → List ℕ → ℕ → Heading
heading_of H F c = pick (ltb c 10) (gate_heading c) (heading_at H (get_or F (c - 10) 0))

-- ---- what a call gives: the words after it up to the next statement

-- its generics: the first words of expressions that stand in no bracket; `inside` is how many words of a bracket are left
unfoldable pub generics_given : ℕ → List ℕ → ℕ
generics_given inside [] = 0
generics_given inside (w ∷ ws) =
    pick (ltb (kind_of w) 3) (pick (ltb 0 inside) (generics_given (inside - 1) ws)
    (pick (ltb (head_in w) 2) 1 0 + generics_given (pick (eqb (kind_of w) BRACKET) (value_of w) 0) ws)) 0

-- may a word of this kind stand in a call, after its name?
unfoldable pub in_call : ℕ → Bool
in_call k = pick (eqb k CALL) false (ltb k 6)

-- its arguments of a kind
unfoldable pub given : ℕ → List ℕ → ℕ
given k [] = 0
given k (w ∷ ws) = pick (in_call (kind_of w)) (pick (eqb (kind_of w) k) 1 0 + given k ws) 0

-- ---- one word

-- may a name of this role stand in an expression at place p of the tape, where the loops over it end at e?
unfoldable pub standing : ℕ → ℕ → Role → Bool
standing p e a-generic = true
standing p e a-wire = false
standing p e a-vector = false
standing p e an-index = ltb p e

-- a whole name is a wire or a vector, and one with a subscript is a vector; a wire is wanted, or a vector
unfoldable pub sort_fits : ℕ → Role → Bool
sort_fits h r = pick (eqb h 0) (is_wire r || is_vector r) (is_vector r)

unfoldable pub shape_fits : ℕ → Role → Bool → Bool
shape_fits h r wire = pick (eqb h 0) (pick wire (is_wire r) (is_vector r)) wire

-- s: the text, ws: the words of the names that are declared
module _ (s : List ℕ) where
  -- u: where the loops over each declared index end
  unfoldable pub name_step : ℕ → List ℕ → List ℕ → ℕ → Out ℕ
  name_step p ws u w = do
    k ← find (scope_in s ws) (name_of s w)
    _ ← need_at (place_of w) (standing p (get_or u k 0) (role_at (scope_in s ws) k)) 7
    ok k

  unfoldable pub index_step : List ℕ → ℕ → Out ℕ
  index_step ws w = do
    k ← find (scope_in s ws) (name_of s w)
    _ ← need_at (place_of w) (is_index (role_at (scope_in s ws) k)) 7
    ok k

  -- v: the word of the port that the argument is for
  unfoldable pub argument_step : List ℕ → ℕ → ℕ → Out ℕ
  argument_step ws v w = do
    k ← find (scope_in s ws) (name_of s w)
    _ ← need_at (place_of w) (sort_fits (head_in w) (role_at (scope_in s ws) k)) 7
    _ ← need_at (place_of w) (shape_fits (head_in w) (role_at (scope_in s ws) k) (eqb (head_in v) 0)) 8
    ok k

  unfoldable pub declare_step : List ℕ → ℕ → Out (Unit {0})
  declare_step ws w = once (scope_in s ws) (name_of s w)

  -- N: the words that name blocks. A primitive by its kind, or else a block by its number and 10
  unfoldable pub callee_in : List ℕ → ℕ → Out ℕ
  callee_in N w =
      pick (ltb (index_of (letters_of s w) primitive_names) 10) (ok (index_of (letters_of s w) primitive_names)) do
        _ ← need_at (place_of w) (is_in (letters_of s w) (map (letters_of s) N)) 7
        ok (10 + index_of (letters_of s w) (map (letters_of s) N))

  -- "a block name twice, or a block named as a primitive"
  unfoldable pub block_step : List ℕ → ℕ → Out (Unit {0})
  block_step N w = need_at (place_of w) (not (is_in (letters_of s w) (primitive_names ++ map (letters_of s) N))) 6

abbrev pub counts_fit : Heading → List ℕ → Bool
counts_fit h ws = eqb (generics_given 0 ws) h.generics && eqb (given INPUT ws) h.inputs && eqb (given OUTPUT ws) h.outputs

-- F: where each block's heading begins
module _ (s H F N : List ℕ) where
  unfoldable pub call_step : ℕ → List ℕ → Out ℕ
  call_step w ws = do
    c ← callee_in s N w
    _ ← need_at (place_of w) (counts_fit (heading_of H F c) ws) 8
    ok c

  -- "no main (place: text length) or main with generics (its name)"
  unfoldable pub main_in : Out ℕ
  main_in =
      let m = index_of (bytes "main") (map (letters_of s) N) in do
        _ ← need_at (length s) (is_in (bytes "main") (map (letters_of s) N)) 9
        _ ← need_at (place_of (get_or N m 0)) (not (eqb (kind_of (get_or H (get_or F m 0 + 1) 0)) GENERIC)) 9
        ok m

-- what is made of an outcome's value
unfoldable pub after : {A B : Type 0} → Out A → (A → B) → Out B
after (ok a) f = ok (f a)
after (refuse n p) f = refuse n p

-- words before those of an outcome
abbrev pub onto : List ℕ → Out (List ℕ) → Out (List ℕ)
onto ws o = after o (λ us. ws ++ us)

-- ---- a word and the state after it

-- what is known where a word stands
pub record State : Type 0 where
  -- the words of the names that its block declared so far are the first `count` of `scope`
  pub scope : List ℕ
  pub count : ℕ
  -- for each declared index, where on the tape the loops over it end
  pub until : List ℕ
  -- the index of the loop whose body is next; 48 for a block's body
  pub index : ℕ
  -- where among the headings the port stands that the next argument is for
  pub want : ℕ
  -- how many blocks have begun
  pub blocks : ℕ

abbrev pub declared_at : State → List ℕ
declared_at S = take S.count S.scope

abbrev pub called : Heading → State → ℕ → ℕ → ℕ × State
called h S w c = (valued w (place_of w * 128 + c), record { scope = S.scope; count = S.count; until = S.until; index = S.index; want = h.want; blocks = S.blocks })

abbrev pub argued : State → ℕ → ℕ → ℕ × State
argued S w k = (valued w k, record { scope = S.scope; count = S.count; until = S.until; index = S.index; want = min S.want 3140 + 1; blocks = S.blocks })

abbrev pub indexed : State → ℕ → ℕ → ℕ × State
indexed S w k = (valued w k, record { scope = S.scope; count = S.count; until = S.until; index = k; want = S.want; blocks = S.blocks })

abbrev pub entered : State → ℕ → ℕ → ℕ × State
entered S w e = (w, record { scope = S.scope; count = S.count; until = set S.until S.index (max (get_or S.until S.index 0) e); index = S.index; want = S.want; blocks = S.blocks })

abbrev pub begun : State → ℕ → ℕ × State
begun S w = (w, record { scope = S.scope; count = 0; until = S.until; index = 48; want = S.want; blocks = min S.blocks 64 + 1 })

abbrev pub declares : State → ℕ → ℕ × State
declares S w = (w, record { scope = set S.scope S.count w; count = min S.count 48 + 1; until = S.until; index = S.index; want = S.want; blocks = S.blocks })

module _ (s H F N : List ℕ) where
  -- a word at a place, the words after it being ws: what it becomes, and the state after it
  unfoldable pub turn : ℕ → State → ℕ → List ℕ → Out (ℕ × State)
  turn p S w ws =
      pick (eqb (kind_of w) NAME) (after (name_step s p (declared_at S) S.until w) (λ k. (valued w k, S)))
      (pick (eqb (kind_of w) CALL) (after (call_step s H F N w ws) (λ c. called (heading_of H F c) S w c))
      (pick (eqb (kind_of w) INPUT || eqb (kind_of w) OUTPUT) (after (argument_step s (declared_at S) (get_or H S.want 0) w) (λ k. argued S w k))
      (pick (eqb (kind_of w) INDEX) (after (index_step s (declared_at S) w) (λ k. indexed S w k))
      (pick (eqb (kind_of w) BODY) (ok (entered S w (p + 1 + value_of w)))
      (pick (eqb (kind_of w) BLOCK) (after (block_step s (take S.blocks N) w) (λ _. begun S w))
      (pick (ltb BLOCK (kind_of w)) (after (declare_step s (declared_at S) w) (λ _. declares S w))
      (ok (w, S))))))))

  -- the words from a place on: what they become
  unfoldable pub sweep : ℕ → State → List ℕ → Out (List ℕ)
  sweep p S [] = ok []
  sweep p S (w ∷ ws) = do
    r ← turn p S w ws
    us ← sweep (p + 1) r.1 ws
    ok (r.0 ∷ us)

-- ---- what the functions of the sweep answer

-- the number that an outcome gives, below 128, or its refusal
abbrev pub Tells : Out ℕ → Result ℕ Refusal → Type 0
Tells o (Ok k) = (o ≡ ok k) × (k < 128)
Tells o (Err e) = o ≡ refuse (number e.reason) e.place

abbrev pub Answers : Out ℕ → Result ℕ Refusal → Type 0
Answers o (Ok k) = o ≡ ok k
Answers o (Err e) = o ≡ refuse (number e.reason) e.place

-- the first of the spellings that is the same, or none is
abbrev pub Finds : List ℕ → List (List ℕ) → Option ℕ → Type 0
Finds l vs (Some k) = (k ≡ index_of l vs) × (k < length vs)
Finds l vs None = length vs ≤ index_of l vs

-- 48, which no declared name has, stands for no index
abbrev pub index_or_none : Option ℕ → ℕ
index_or_none (Some k) = k
index_or_none None = 48

abbrev pub state_of : List ℕ → List ℕ → Spot → State
state_of scope until p = record { scope = scope; count = p.count; until = until; index = index_or_none p.index; want = p.want; blocks = p.blocks }

-- the word and the state that an outcome gives, or its refusal
abbrev pub Says : Out (ℕ × State) → List ℕ → List ℕ → Result Step Refusal → Type 0
Says o scope until (Ok r) = o ≡ ok (r.word, state_of scope until r.spot)
Says o scope until (Err e) = o ≡ refuse (number e.reason) e.place

-- before the first word
abbrev pub start : List ℕ → List ℕ → State
start scope until = record { scope = scope; count = 0; until = until; index = 48; want = 0; blocks = 0 }

-- what a sweep over all words of a tape leaves, u
abbrev pub Swept : Out (List ℕ) → List ℕ → Result (Unit {0}) Refusal → Type 0
Swept o u (Ok _) = o ≡ ok u
Swept o u (Err e) = o ≡ refuse (number e.reason) e.place
