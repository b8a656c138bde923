-- The words of a program, whatever stands for a name (N, written by `nm`) and for what a call means (C, written by `cl` with its place).
-- Assumes nothing.
use Rattle.std.specs.Prelude.{ℕ, List, [], ◌∷◌, ◌++◌, length}
use Rattle.rules.specs.Syntax.{Name, Exp, number, name, neg, group, both, Sort, wire, vector, num, Arg, whole, part, Stmts, end, call, loop, Decl, Block, Spelled}
use Rattle.tape.specs.Layout.{pack, NUMBER, NAME, BRACKET, CALL, INPUT, OUTPUT, LOOP, INDEX, BODY, BLOCK, GENERIC, IN, OUT, VAR, head_of, flip, name_w}

-- the words of each thing of a list
unfoldable pub list_w : {A : Type 0} → (A → List ℕ) → List A → List ℕ
list_w f [] = []
list_w f (a ∷ r) = f a ++ list_w f r

-- one word for each factor; a minus before a factor leaves no word of its own
unfoldable pub exp_w : {N : Type 0} → (N → ℕ) → ℕ → Exp N → List ℕ
exp_w nm h (number v) = pack NUMBER h v ∷ []
exp_w nm h (name n) = pack NAME h (nm n) ∷ []
exp_w nm h (neg e) = exp_w nm (flip h) e
exp_w nm h (group e) = pack BRACKET h (length (exp_w nm 0 e)) ∷ exp_w nm 0 e
exp_w nm h (both o e f) = exp_w nm h e ++ exp_w nm (head_of o) f

-- an argument of a kind
unfoldable pub arg_w : {N : Type 0} → (N → ℕ) → ℕ → Arg N → List ℕ
arg_w nm k (whole n) = pack k 0 (nm n) ∷ []
arg_w nm k (part n e) = pack k 1 (nm n) ∷ exp_w nm 0 e

unfoldable pub stmts_w : {N C : Type 0} → (N → ℕ) → (ℕ → C → ℕ) → Stmts N C → List ℕ
stmts_w nm cl end = []
stmts_w nm cl (call p c gs ins outs r) =
    pack CALL 0 (cl p c) ∷ (list_w (exp_w nm 0) gs ++ (list_w (arg_w nm INPUT) ins ++ (list_w (arg_w nm OUTPUT) outs ++ stmts_w nm cl r)))
stmts_w nm cl (loop p i a b body r) =
    pack LOOP 0 p ∷ pack INDEX 0 (nm i) ∷ (exp_w nm 0 a ++ (exp_w nm 0 b ++ ((pack BODY 0 (length (stmts_w nm cl body)) ∷ stmts_w nm cl body) ++ stmts_w nm cl r)))

-- a declared name, written as v, of a kind
unfoldable pub sort_w : {N : Type 0} → (N → ℕ) → ℕ → ℕ → Sort N → List ℕ
sort_w nm k v wire = pack k 0 v ∷ []
sort_w nm k v (vector a b) = pack k 1 v ∷ (exp_w nm 0 a ++ exp_w nm 0 b)
sort_w nm k v num = pack k 2 v ∷ []

unfoldable pub decl_w : {N : Type 0} → (N → ℕ) → ℕ → Decl N → List ℕ
decl_w nm k d = sort_w nm k (name_w d.name) d.sort

unfoldable pub generic_w : Name → List ℕ
generic_w n = pack GENERIC 0 (name_w n) ∷ []

unfoldable pub block_w : {N C : Type 0} → (N → ℕ) → (ℕ → C → ℕ) → Block N C → List ℕ
block_w nm cl B =
    pack BLOCK 0 (name_w B.name)
    ∷ (list_w generic_w B.generics
    ++ (list_w (decl_w nm IN) B.inputs
    ++ (list_w (decl_w nm OUT) B.outputs ++ (list_w (decl_w nm VAR) B.locals ++ (pack BODY 0 (length (stmts_w nm cl B.body)) ∷ stmts_w nm cl B.body)))))

abbrev pub blocks_w : {N C : Type 0} → (N → ℕ) → (ℕ → C → ℕ) → List (Block N C) → List ℕ
blocks_w nm cl Bs = list_w (block_w nm cl) Bs

-- ---- a text as it is read: every name by its spelling

abbrev pub callee_w : ℕ → Name → ℕ
callee_w p n = name_w n

-- the tape of a text
abbrev pub tape_of : Spelled → List ℕ
tape_of Bs = blocks_w name_w callee_w Bs
