-- The names that a program holds: a predicate of all of them, and names as a text spells them. Assumes nothing.
use Rattle.std.specs.Prelude.{◌≡◌, ℕ, ◌+◌, ◌-◌, ◌≤◌, ◌<◌, List, [], ◌∷◌, length, take, drop}
use Rattle.std.proofs.Common.{arith}
use Rattle.rules.specs.Syntax.{Name, Op, plus, minus, times, Exp, number, name, neg, group, both, Sort, wire, vector, num, Arg, whole, part, Stmts, end, call, loop, before, Decl, Block}

-- a name that stands in the text s, of 1 to 16 letters
pub record SpeltName (s : List ℕ) (n : Name) : Type 0 where
  pub within : n.place + length n.letters ≤ length s
  pub some : 0 < length n.letters
  pub few : length n.letters ≤ 16
  pub letters : n.letters ≡ take (length n.letters) (drop n.place s)

unfoldable pub All : {A : Type 0} → (A → Type 0) → List A → Type 0
All P [] = Unit {0}
All P (x ∷ xs) = P x × All P xs

-- "terms joined by + or -", "factors joined by *": how strongly a mark joins
unfoldable pub strength : Op → ℕ
strength plus = 2
strength minus = 2
strength times = 1

-- ---- every name that is used satisfies P, every number is one of 6 digits, every place of a statement lies below len, and expressions are
-- grouped as they are read: level 0 is a factor, 1 a term, 2 an expression

module _ {N C : Type 0} (P : N → Type 0) (Q : ℕ → C → Type 0) (len : ℕ) where
  unfoldable pub AllExp : ℕ → Exp N → Type 0
  AllExp l (number v) = v < 1000000
  AllExp l (name n) = P n
  AllExp l (neg e) = AllExp 0 e
  AllExp l (group e) = AllExp 2 e
  AllExp l (both op d e) = (strength op ≤ l) × AllExp (strength op) d × AllExp (strength op - 1) e

  pub all_above : (l m : ℕ) (e : Exp N) → l ≤ m → AllExp l e → AllExp m e
  unfolding AllExp
  all_above l m (number v) h p = p
  all_above l m (name n) h p = p
  all_above l m (neg e) h p = p
  all_above l m (group e) h p = p
  all_above l m (both op d e) h p = (omega (arith, p.0), p.1, p.2)

  unfoldable pub AllSort : Sort N → Type 0
  AllSort wire = Unit {0}
  AllSort (vector a b) = AllExp 2 a × AllExp 2 b
  AllSort num = Unit {0}

  unfoldable pub AllArg : Arg N → Type 0
  AllArg (whole n) = P n
  AllArg (part n e) = P n × AllExp 2 e

  unfoldable pub AllStmts : Stmts N C → Type 0
  AllStmts end = Unit {0}
  AllStmts (call p c gs ins outs rest) = Q p c × All (AllExp 2) gs × All AllArg ins × All AllArg outs × AllStmts rest
  AllStmts (loop p i a b body rest) = (p < len) × P i × AllExp 2 a × AllExp 2 b × AllStmts body × AllStmts rest

  pub before-all : (s r : Stmts N C) → AllStmts s → AllStmts r → AllStmts (before s r)
  unfolding AllStmts before
  before-all end r p q = q
  before-all (call p c gs ins outs s) r (h) q = (h.0, h.1, h.2, h.3, before-all s r h.4 q)
  before-all (loop p i a b body s) r (h) q = (h.0, h.1, h.2, h.3, h.4, before-all s r h.5 q)

-- a declaration keeps its name as it is spelled
module _ {N C : Type 0} (D : Name → Type 0) (P : N → Type 0) (Q : ℕ → C → Type 0) (len : ℕ) where
  pub record AllDecl (d : Decl N) : Type 0 where
    pub name : D d.name
    pub sort : AllSort {C = C} P Q len d.sort

  pub record AllBlock (B : Block N C) : Type 0 where
    pub name : D B.name
    pub generics : All D B.generics
    pub inputs : All AllDecl B.inputs
    pub outputs : All AllDecl B.outputs
    pub locals : All AllDecl B.locals
    pub body : AllStmts P Q len B.body

-- a call's name stands at the call's place
abbrev pub SpeltCall : List ℕ → ℕ → Name → Type 0
SpeltCall s p n = (p ≡ n.place) × SpeltName s n

-- a block as the text s spells it, with at most 48 names declared
pub record SpeltBlock (s : List ℕ) (B : Block Name Name) : Type 0 where
  pub names : AllBlock (SpeltName s) (SpeltName s) (SpeltCall s) (length s) B
  pub few : length B.generics + length B.inputs + length B.outputs + length B.locals ≤ 48
