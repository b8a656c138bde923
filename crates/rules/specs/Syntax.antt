-- The program that a text stands for, with its places. Where it uses a name it holds an N: as it is read, the name as it is spelled;
-- once names are resolved, the number of the declaration that is meant. C is what a call names. Assumes nothing.
use Rattle.std.specs.Prelude.{ℕ, List}

-- a name as it is spelled, and the place of its first byte
pub record Name : Type 0 where
  pub place : ℕ
  pub letters : List ℕ

pub data Op : Type 0 where
  plus : Op
  minus : Op
  times : Op

-- "a factor is a number, a name, a minus before a factor, or an expression in brackets"; terms and expressions join two.
-- A bracket has no value of its own; it is kept as it was written
pub data Exp (N : Type 0) : Type 0 where
  number : ℕ → Exp N
  name : N → Exp N
  neg : Exp N → Exp N
  group : Exp N → Exp N
  both : Op → Exp N → Exp N → Exp N

-- "A type is WIRE or VECTOR (a..b) OF WIRE"; a declaration may have NUM, "a loop index"
pub data Sort (N : Type 0) : Type 0 where
  wire : Sort N
  vector : Exp N → Exp N → Sort N
  num : Sort N

-- "names or names with one subscript"
pub data Arg (N : Type 0) : Type 0 where
  whole : N → Arg N
  part : N → Exp N → Arg N

-- Statements in text order. A call: its place, what is called, generics, inputs, outputs. A loop: its place, index, bounds, body.
-- Each is followed by the statements after it.
pub data Stmts (N C : Type 0) : Type 0 where
  end : Stmts N C
  call : ℕ → C → List (Exp N) → List (Arg N) → List (Arg N) → Stmts N C → Stmts N C
  loop : ℕ → N → Exp N → Exp N → Stmts N C → Stmts N C → Stmts N C

-- one list of statements and then another
unfoldable pub before : {N C : Type 0} → Stmts N C → Stmts N C → Stmts N C
before end r = r
before (call p c gs ins outs s) r = call p c gs ins outs (before s r)
before (loop p i a b body s) r = loop p i a b body (before s r)

-- a port, or what VAR declares
pub record Decl (N : Type 0) : Type 0 where
  pub name : Name
  pub sort : Sort N

pub record Block (N C : Type 0) : Type 0 where
  pub name : Name
  pub generics : List Name
  pub inputs : List (Decl N)
  pub outputs : List (Decl N)
  pub locals : List (Decl N)
  pub body : Stmts N C

-- a text as it is read
abbrev pub Spelled : Type 0
Spelled = List (Block Name Name)

-- what a call means: a primitive by its kind, or a block by its number
pub data Callee : Type 0 where
  gate : ℕ → Callee
  block : ℕ → Callee

-- a resolved program: its blocks and main's number; a name is the number of its declaration among its block's generics, inputs,
-- outputs and VARs, in text order
pub record Program : Type 0 where
  pub blocks : List (Block ℕ Callee)
  pub main : ℕ
