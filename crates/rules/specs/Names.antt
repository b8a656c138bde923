-- 01, refusals 6 to 8: what a name means inside its block, in expressions and as an argument. Assumes nothing.
use Rattle.std.specs.Prelude.{ℕ, Bool, true, false, not, ◌||◌, List, [], ◌∷◌, ◌++◌, map, get_or, eqb}
use Rattle.rules.specs.Text.{pick, index_of, is_in}
use Rattle.rules.specs.Outcome.{Out, ok, refuse, ◌>>=◌, need_at}
use Rattle.rules.specs.Syntax.{Name, Exp, number, name, neg, group, both, Sort, wire, vector, num, Arg, whole, part, Decl}

-- what a declared name is: a generic, a WIRE, a VECTOR or a NUM
pub data Role : Type 0 where
  a-generic : Role
  a-wire : Role
  a-vector : Role
  an-index : Role

unfoldable pub is_wire : Role → Bool
is_wire a-generic = false
is_wire a-wire = true
is_wire a-vector = false
is_wire an-index = false

unfoldable pub is_vector : Role → Bool
is_vector a-generic = false
is_vector a-wire = false
is_vector a-vector = true
is_vector an-index = false

unfoldable pub is_index : Role → Bool
is_index a-generic = false
is_index a-wire = false
is_index a-vector = false
is_index an-index = true

unfoldable pub role_of : {N : Type 0} → Sort N → Role
role_of wire = a-wire
role_of (vector a b) = a-vector
role_of num = an-index

-- a block's declared names, in text order: generics, then ports and VARs; how each is spelled, and its role
pub record Entry : Type 0 where
  pub letters : List ℕ
  pub role : Role

abbrev pub Scope : Type 0
Scope = List Entry

abbrev pub spellings : Scope → List (List ℕ)
spellings E = map (λ e. e.letters) E

abbrev pub generic : Name → Entry
generic n = record { letters = n.letters; role = a-generic }

abbrev pub declared : Decl Name → Entry
declared d = record { letters = d.name.letters; role = role_of d.sort }

abbrev pub scope_of : List Name → List (Decl Name) → Scope
scope_of ns ds = map generic ns ++ map declared ds

-- "of two like names the first counts": the number of the declaration that a name means, or 7
unfoldable pub find : Scope → Name → Out ℕ
find E n = do
  _ ← need_at n.place (is_in n.letters (spellings E)) 7
  ok (index_of n.letters (spellings E))

abbrev pub role_at : Scope → ℕ → Role
role_at E k = (get_or E k (record { letters = []; role = a-generic })).role

-- 6, "a name declared twice in one block"
unfoldable pub once : Scope → Name → Out (Unit {0})
once E n = need_at n.place (not (is_in n.letters (spellings E))) 6

-- ---- expressions: "A name stands for a generic or for the index of a loop around it"

unfoldable pub among : ℕ → List ℕ → Bool
among k [] = false
among k (i ∷ is) = eqb k i || among k is

-- may the name with this role and number stand in an expression, inside loops with these indices?
unfoldable pub stands : List ℕ → ℕ → Role → Bool
stands L k a-generic = true
stands L k a-wire = false
stands L k a-vector = false
stands L k an-index = among k L

unfoldable pub expression : Scope → List ℕ → Exp Name → Out (Exp ℕ)
expression E L (number v) = ok (number v)
expression E L (name n) = do
  k ← find E n
  _ ← need_at n.place (stands L k (role_at E k)) 7
  ok (name k)
expression E L (neg e) = do
  e ← expression E L e
  ok (neg e)
expression E L (group e) = do
  e ← expression E L e
  ok (group e)
expression E L (both op d e) = do
  d ← expression E L d
  e ← expression E L e
  ok (both op d e)

unfoldable pub expressions : Scope → List ℕ → List (Exp Name) → Out (List (Exp ℕ))
expressions E L [] = ok []
expressions E L (e ∷ es) = do
  e ← expression E L e
  es ← expressions E L es
  ok (e ∷ es)

-- ---- arguments: the name (7, a subscript on a WIRE included), the shape (8), then the subscript

unfoldable pub argument : Scope → List ℕ → Role → Arg Name → Out (Arg ℕ)
argument E L wanted (whole n) = do
  k ← find E n
  _ ← need_at n.place (is_wire (role_at E k) || is_vector (role_at E k)) 7
  _ ← need_at n.place (pick (is_wire wanted) (is_wire (role_at E k)) (is_vector (role_at E k))) 8
  ok (whole k)
argument E L wanted (part n e) = do
  k ← find E n
  _ ← need_at n.place (is_vector (role_at E k)) 7
  _ ← need_at n.place (is_wire wanted) 8
  e ← expression E L e
  ok (part k e)

-- one argument for each role wanted; their counts have been compared
unfoldable pub arguments : Scope → List ℕ → List Role → List (Arg Name) → Out (List (Arg ℕ))
arguments E L [] [] = ok []
arguments E L [] (a ∷ rest) = refuse 8 0
arguments E L (w ∷ ws) [] = refuse 8 0
arguments E L (w ∷ ws) (a ∷ rest) = do
  a ← argument E L w a
  rest ← arguments E L ws rest
  ok (a ∷ rest)
