-- 01, refusals 6 to 9: every name of a text is checked, block by block and by byte, and becomes the number of its declaration.
-- Assumes nothing.
use Rattle.std.specs.Prelude.{ℕ, not, ◌&&◌, List, [], ◌∷◌, ◌++◌, map, length, replicate, eqb}
use Rattle.rules.specs.Text.{bytes, pick, index_of, is_in}
use Rattle.rules.specs.Outcome.{Out, ok, ◌>>=◌, at, need_at, nth}
use Rattle.rules.specs.Primitives.{inputs_of, primitive_names}
use Rattle.rules.specs.Syntax.{Name, Sort, wire, vector, num, Stmts, end, call, loop, Decl, Block, Spelled, Callee, gate, block, Program}
use Rattle.rules.specs.Names.{Role, a-wire, is_index, role_of, Scope, generic, declared, scope_of, find, role_at, once, expression, expressions, arguments}

-- ---- calls

-- what a call names, and what it wants
pub record Wants : Type 0 where
  pub callee : Callee
  pub generics : ℕ
  pub inputs : List Role
  pub outputs : List Role

abbrev roles : {N : Type 0} → List (Decl N) → List Role
roles ds = map (λ d. role_of d.sort) ds

abbrev pub wanted_by : Block Name Name → ℕ → Wants
wanted_by B b = record { callee = block b; generics = length B.generics; inputs = roles B.inputs; outputs = roles B.outputs }

abbrev pub wanted_by_gate : ℕ → Wants
wanted_by_gate k = record { callee = gate k; generics = 0; inputs = replicate (inputs_of k) a-wire; outputs = a-wire ∷ [] }

abbrev block_names : Spelled → List (List ℕ)
block_names Bs = map (λ B. B.name.letters) Bs

-- a primitive, or else the first block of that name, or 7
unfoldable pub called : Spelled → Name → Out Wants
called Bs n =
    let k = index_of n.letters primitive_names in
    let b = index_of n.letters (block_names Bs) in
    pick (is_in n.letters primitive_names) (ok (wanted_by_gate k)) (at n.place do
      B ← nth 7 Bs b
      ok (wanted_by B b))

-- "at a call's name 7, then its counts (8)"
unfoldable pub statements : Spelled → Scope → List ℕ → Stmts Name Name → Out (Stmts ℕ Callee)
statements Bs E L end = ok end
statements Bs E L (call p n gs ins outs rest) = do
  w ← called Bs n
  _ ← need_at n.place (eqb (length gs) w.generics && eqb (length ins) (length w.inputs) && eqb (length outs) (length w.outputs)) 8
  gs ← expressions E L gs
  ins ← arguments E L w.inputs ins
  outs ← arguments E L w.outputs outs
  rest ← statements Bs E L rest
  ok (call p w.callee gs ins outs rest)
statements Bs E L (loop p i a b body rest) = do
  k ← find E i
  _ ← need_at i.place (is_index (role_at E k)) 7
  a ← expression E L a
  b ← expression E L b
  body ← statements Bs E (k ∷ L) body
  rest ← statements Bs E L rest
  ok (loop p k a b body rest)

-- ---- blocks

-- 6 among the generics, E before them
unfoldable pub generics : Scope → List Name → Out (Unit {0})
generics E [] = ok tt
generics E (n ∷ ns) = do
  _ ← once E n
  generics (E ++ (generic n ∷ [])) ns

-- "in types, for a generic only": no loop is around a type
unfoldable pub sort : Scope → Sort Name → Out (Sort ℕ)
sort E wire = ok wire
sort E (vector a b) = do
  a ← expression E [] a
  b ← expression E [] b
  ok (vector a b)
sort E num = ok num

-- 6 at each declared name, E before it, then 7 in its type
unfoldable pub declarations : Scope → List (Decl Name) → Out (List (Decl ℕ))
declarations E [] = ok []
declarations E (d ∷ ds) = do
  _ ← once E d.name
  t ← sort E d.sort
  ds ← declarations (E ++ (declared d ∷ [])) ds
  ok (record { name = d.name; sort = t } ∷ ds)

-- "a block name twice, or a block named as a primitive"; `earlier` are the spellings of the blocks before
unfoldable pub resolve_block : Spelled → List (List ℕ) → Block Name Name → Out (Block ℕ Callee)
resolve_block Bs earlier B = do
  _ ← need_at B.name.place (not (is_in B.name.letters (primitive_names ++ earlier))) 6
  _ ← generics [] B.generics
  ins ← declarations (scope_of B.generics []) B.inputs
  outs ← declarations (scope_of B.generics B.inputs) B.outputs
  vs ← declarations (scope_of B.generics (B.inputs ++ B.outputs)) B.locals
  b ← statements Bs (scope_of B.generics (B.inputs ++ B.outputs ++ B.locals)) [] B.body
  ok (record { name = B.name; generics = B.generics; inputs = ins; outputs = outs; locals = vs; body = b })

unfoldable pub resolve_blocks : Spelled → List (List ℕ) → Spelled → Out (List (Block ℕ Callee))
resolve_blocks Bs earlier [] = ok []
resolve_blocks Bs earlier (B ∷ rest) = do
  b ← resolve_block Bs earlier B
  r ← resolve_blocks Bs (earlier ++ (B.name.letters ∷ [])) rest
  ok (b ∷ r)

-- "no main (place: text length) or main with generics (its name)"
unfoldable pub main_of : ℕ → Spelled → Out ℕ
main_of len Bs =
    let m = index_of (bytes "main") (block_names Bs) in do
      M ← at len (nth 9 Bs m)
      _ ← need_at M.name.place (eqb (length M.generics) 0) 9
      ok m

-- a text of this length, resolved
unfoldable pub names : ℕ → Spelled → Out Program
names len Bs = do
  blocks ← resolve_blocks Bs [] Bs
  m ← main_of len Bs
  ok (record { blocks = blocks; main = m })
