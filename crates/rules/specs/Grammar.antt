-- 01, "Words and order of words": from the words of a text to its program, or 3, 4, 5 at the first word that is wrong.
-- Assumes nothing.
use Rattle.std.specs.Prelude.{ℕ, zero, suc, ◌+◌, Bool, ◌||◌, List, [], ◌∷◌, length, ltb, eqb}
use Rattle.rules.specs.declared.Word.{Word}
use Rattle.rules.specs.declared.Word.TheVariants.{Bad, Name as Named, Number, Mark}
use Rattle.rules.specs.Text.{pick}
use Rattle.rules.specs.Outcome.{Out, ok, refuse, ◌>>=◌ as ◌and-then◌}
use Rattle.rules.specs.Words.{word_at, key}
use Rattle.rules.specs.Syntax.{Name, Op, plus, minus, times, Exp, number, name, neg, group, both, Sort, wire, vector, num, Arg, whole, part, Stmts, end, call, loop, before, Decl, Block, Spelled}
use Rattle.rules.specs.Readers.{Reader, ◌>>=◌, give, refused, spelling, mark, a_name, if_next, rest, some, any}

abbrev pub Expr : Type 0
Expr = Exp Name

abbrev pub Body : Type 0
Body = Stmts Name Name

-- ---- expressions

-- what begins a factor: a number, a name, or one of the two marks that open a level, given by its place
unfoldable pub factored : List ℕ → Word → (ℕ → Reader Expr) → (ℕ → Reader Expr) → Out (Expr × ℕ)
factored s (Bad p) negative bracket = refuse 3 p
factored s (Named p q) negative bracket = ok (name (spelling s p q), q)
factored s (Number p q v) negative bracket = ok (number v, q)
factored s (Mark b p q) negative bracket = pick (eqb b (key "-")) (negative p) (pick (eqb b (key "(")) (bracket p) (refused 4 p)) q

-- at a mark that joins, the first; any other word is left to the second
unfoldable pub joined : (ℕ → Bool) → Word → (ℕ → Reader Expr) → Reader Expr → Reader Expr
joined joins (Bad p) more done at = done at
joined joins (Named p q) more done at = done at
joined joins (Number p q v) more done at = done at
joined joins (Mark b p q) more done at = pick (joins b) (λ _. more b q) done at

abbrev pub is_sum : ℕ → Bool
is_sum b = eqb b (key "+") || eqb b (key "-")

abbrev pub is_product : ℕ → Bool
is_product b = eqb b (key "*")

abbrev pub op_of : ℕ → Op
op_of b = pick (eqb b (key "+")) plus (pick (eqb b (key "-")) minus times)

module _ (s : List ℕ) where
  -- after e: a mark that joins and another item, again and again, grouped from the left; bounded as lists are
  unfoldable pub chain_up_to : (ℕ → Bool) → Reader Expr → ℕ → Expr → Reader Expr
  chain_up_to joins item zero e = refused 4 0
  chain_up_to joins item (suc bound) e = λ at.
      joined joins (word_at s at) (λ b. do
        f ← item
        chain_up_to joins item bound (both (op_of b) e f)) (give e) at

  unfoldable pub chain : (ℕ → Bool) → Reader Expr → Reader Expr
  chain joins item = do
    e ← item
    chain_up_to joins item (suc (length s)) e

  -- "An expression is terms joined by + or -; a term is factors joined by *"
  abbrev pub expression_of : Reader Expr → Reader Expr
  expression_of factor = chain is_sum (chain is_product factor)

  -- a factor, where so many more levels may be opened: "only a bracket or minus that begins a factor opens another"
  unfoldable pub factor : ℕ → Reader Expr
  factor zero at = factored s (word_at s at) (λ p. refused 5 p) (λ p. refused 5 p)
  factor (suc left) at =
      factored s (word_at s at)
      (λ p. do
        e ← factor left
        give (neg e))
      (λ p. do
        e ← expression_of (factor left)
        _ ← mark s ")"
        give (group e))

  -- "An expression starts at level 1", and a 17th is refused
  abbrev pub expression : Reader Expr
  expression = expression_of (factor 15)

  -- "a..b"
  unfoldable pub bounds : Reader (Expr × Expr)
  bounds = do
    a ← expression
    _ ← mark s ".."
    b ← expression
    give (a, b)

  -- ---- blocks, up to BEGIN

  -- a declared name, where k stand before it in its block: "49th name declared in a block"
  unfoldable pub declared : ℕ → Reader Name
  declared k = do
    n ← a_name s
    pick (ltb k 48) (give n) (refused 5 n.place)

  -- "A type is WIRE or VECTOR (a..b) OF WIRE"
  unfoldable pub vectored : Reader (Sort Name)
  vectored = do
    _ ← mark s "("
    r ← bounds
    _ ← mark s ")"
    _ ← mark s "OF"
    _ ← mark s "WIRE"
    give (vector r.0 r.1)

  unfoldable pub a_type : Reader (Sort Name)
  a_type = if_next s "VECTOR" vectored do
    _ ← mark s "WIRE"
    give wire

  -- "Each port is a name, a colon and a type"
  unfoldable pub port : ℕ → ℕ → Reader (Decl Name)
  port k _ = do
    n ← declared k
    _ ← mark s ":"
    t ← a_type
    give (record { name = n; sort = t })

  -- "A declaration is VAR, a name, a colon, a type or NUM (a loop index), and ;", after VAR
  unfoldable pub local : ℕ → ℕ → Reader (Decl Name)
  local k _ = do
    n ← declared k
    _ ← mark s ":"
    t ← if_next s "NUM" (give num) a_type
    _ ← mark s ";"
    give (record { name = n; sort = t })

  -- "optionally one or more generic names in round brackets"
  unfoldable pub generics : Reader (List Name)
  generics = if_next s "(" (some s [] ◌∷◌ (λ k _. declared k) "," ")" 0) (give [])

  -- "the inputs in square brackets, the outputs likewise"; "port lists may be empty"
  unfoldable pub ports : ℕ → Reader (List (Decl Name))
  ports k = do
    _ ← mark s "["
    any s [] ◌∷◌ port "," "]" k

  -- ---- statements

  -- "names or names with one subscript in round brackets"
  unfoldable pub argument : Reader (Arg Name)
  argument = do
    n ← a_name s
    if_next s "("
        (do
          e ← expression
          _ ← mark s ")"
          give (part n e))
        (give (whole n))

  unfoldable pub arguments : Reader (List (Arg Name))
  arguments = do
    _ ← mark s "["
    any s [] ◌∷◌ (λ _ _. argument) "," "]" 0

  -- "A call is a name, optionally one or more expressions in round brackets, then inputs and outputs in square brackets"
  unfoldable pub calling : Name → Reader Body
  calling n = do
    gs ← if_next s "(" (some s [] ◌∷◌ (λ _ _. expression) "," ")" 0) (give [])
    ins ← arguments
    outs ← arguments
    give (call n.place n gs ins outs end)

  -- "A loop is GENERATE FOR i = a..b BEGIN statements END", after GENERATE at p; `inside` reads the statements and END
  unfoldable pub looping : Reader Body → ℕ → Reader Body
  looping inside p = do
    _ ← mark s "FOR"
    i ← a_name s
    _ ← mark s "="
    r ← bounds
    _ ← mark s "BEGIN"
    b ← inside
    give (loop p i r.0 r.1 b end)

  -- "Statements are divided by ; with none before END; there may be none." With END
  abbrev pub statements_of : Reader Body → Reader Body
  statements_of stmt = any s end before (λ _ _. stmt) ";" "END" 0

  -- what begins a statement: a name, or GENERATE, given by its place
  unfoldable pub stated : Word → (ℕ → Reader Body) → Out (Body × ℕ)
  stated (Bad p) loops = refuse 3 p
  stated (Named p q) loops = calling (spelling s p q) q
  stated (Number p q v) loops = refuse 4 p
  stated (Mark b p q) loops = pick (eqb b (key "GENERATE")) (loops p) (refused 4 p) q

  -- a statement, where so many more loops may stand inside one another: a 9th is refused
  unfoldable pub statement : ℕ → Reader Body
  statement zero at = stated (word_at s at) (λ p. refused 5 p)
  statement (suc left) at = stated (word_at s at) (looping (statements_of (statement left)))

  unfoldable pub body : Reader Body
  body = statements_of (statement 8)

  -- "A block: BLOCK, its name, generics, inputs, outputs, then declarations, BEGIN, statements, END and ;", after BLOCK at p, where k
  -- blocks stand before it: a 65th is refused
  unfoldable pub a_block : ℕ → ℕ → Reader (Block Name Name)
  a_block k p = pick (ltb k 64)
      (do
        n ← a_name s
        gs ← generics
        ins ← ports (length gs)
        outs ← ports (length gs + length ins)
        vs ← rest s [] ◌∷◌ local "VAR" "BEGIN" (length gs + length ins + length outs)
        b ← body
        _ ← mark s ";"
        give (record { name = n; generics = gs; inputs = ins; outputs = outs; locals = vs; body = b }))
      (refused 5 p)

  -- "A text is one or more blocks."
  unfoldable pub blocks : Reader Spelled
  blocks = do
    p ← mark s "BLOCK"
    b ← a_block 0 p
    r ← rest s [] ◌∷◌ a_block "BLOCK" "" 1
    give (b ∷ r)

  -- the whole text, from its front
  unfoldable pub grammar : Out Spelled
  grammar = ◌and-then◌ (blocks 0) (λ r. ok r.0)
