-- 01, "Meaning": which bits a program allows on main's ports, and which a netlist allows. A program's meaning speaks of names and uses:
-- no wire has a number in it. Assumes nothing.
use Rattle.std.specs.Prelude.{◌≡◌, ℕ, zero, suc, ◌+◌, ◌<◌, Bool, false, List, [], ◌∷◌, ◌++◌, map, length, get_or, take, ℤ, ◌-ℤ◌}
use Rattle.std.proofs.Math.IntN.{suc_ℤ}
use Rattle.rules.specs.declared.Gate.{Gate}
use Rattle.rules.specs.Text.{joined}
use Rattle.rules.specs.Outcome.{When, nth}
use Rattle.rules.specs.Primitives.{primitive, inputs_of}
use Rattle.rules.specs.Syntax.{Stmts, end, call, loop, Decl, Block, Callee, gate, block, Program}
use Rattle.rules.specs.Values.{Env, generics, bound, eval, evals, rounds, shape}
use Rattle.rules.specs.Frames.{Cells, Frame, blanks, resolves, tie, ends}
use Rattle.rules.specs.Netlist.{inputs, outputs, gates, gate_at, inputs_at}

-- ---- what a wire carries. Nothing below but these three knows that it is a bit

unfoldable pub Signal : Type 0
Signal = Bool

-- where there is no wire to ask
unfoldable pub dark : Signal
unfolding Signal
dark = false

-- the output that a primitive makes of its inputs
unfoldable pub makes : ℕ → List Signal → Signal
unfolding Signal
makes k is = (primitive k).output (get_or is 0 dark) (get_or is 1 dark) (get_or is 2 dark)

-- ---- a program

-- lists of bits, the lowest index first
abbrev pub Bits : Cells (List Signal)
Bits = record { size = length; one = λ bs k. get_or bs k dark ∷ []; none = [] }

abbrev pub bit : List Signal → Signal
bit bs = get_or bs 0 dark

-- which bits a call allows, with these generics, on the wires given
abbrev pub Allowed : Type 1
Allowed = List ℤ → List (List Signal) → Type 0

-- "a primitive by the table"
unfoldable pub GateAllows : ℕ → Allowed
GateAllows k vs bs = When (ends Bits k bs) λ _. makes k (take (inputs_of k) (map bit bs)) ≡ bit (get_or bs (inputs_of k) [])

-- "a call if the called block allows the bits of the wires given"
unfoldable pub CalleeAllows : (ℕ → Allowed) → Callee → Allowed
CalleeAllows blocks (gate k) = GateAllows k
CalleeAllows blocks (block b) = blocks b

-- for so many indices from v on
unfoldable pub Each : (ℤ → Type 0) → ℤ → ℕ → Type 0
Each M v zero = Unit {0}
Each M v (suc n) = M v × Each M (suc_ℤ v) n

-- every statement is satisfied, where names stand for the bits β; "a loop if its body holds for each index"
unfoldable pub Holds : (ℕ → Allowed) → Stmts ℕ Callee → Env → Frame (List Signal) → Type 0
Holds blocks end ρ β = Unit {0}
Holds blocks (call p c gs ins outs rest) ρ β =
    When (evals ρ gs) (λ vs. When (resolves Bits ρ β (ins ++ outs)) (λ bs. CalleeAllows blocks c vs bs))
    × Holds blocks rest ρ β
Holds blocks (loop p i a b body rest) ρ β =
    When (eval ρ a) (λ x. When (eval ρ b) (λ y. Each (λ v. Holds blocks body (bound ρ i v) β) x (rounds (y -ℤ x))))
    × Holds blocks rest ρ β

-- some bits for each declared name satisfy K, with the names β before them
unfoldable pub Some : Env → List (Decl ℕ) → Frame (List Signal) → (Frame (List Signal) → Type 0) → Type 0
Some ρ [] β K = K β
Some ρ (d ∷ ds) β K =
    When (shape ρ d.sort) (λ h. (bs : List Signal) × (length bs ≡ h.size) × Some ρ ds (β ++ (record { low = h.low; cells = bs } ∷ [])) K)

-- "A block, with its generics and a bit for every port wire, allows those bits if some bits for its locals satisfy every statement"
unfoldable pub BlockAllows : (ℕ → Allowed) → Block ℕ Callee → Allowed
BlockAllows blocks B vs ports =
    When (tie Bits (generics vs) (B.inputs ++ B.outputs) ports) λ τ.
    Some (generics vs) B.locals (blanks Bits B.generics ++ τ) (λ β. Holds blocks B.body (generics vs) β)

-- the same for a block by its number, by calls at most d deep; what calls itself for ever allows nothing
unfoldable pub AllowsAt : Program → ℕ → ℕ → Allowed
AllowsAt P zero b vs ports = ⊥
AllowsAt P (suc d) b vs ports = When (nth 7 P.blocks b) λ B. BlockAllows (AllowsAt P d) B vs ports

-- main allows these bits: they are those of its ports, inputs and then outputs, and calls of some depth allow them
pub record Allows (P : Program) (bits : List Signal) : Type 0 where
  pub ports : List (List Signal)
  pub together : joined ports ≡ bits
  pub depth : ℕ
  pub allowed : AllowsAt P depth P.main [] ports

-- ---- a netlist

-- the gate's output is what its kind makes of its inputs, where wire i carries w i
abbrev pub GateHolds : (ℕ → Signal) → Gate → Type 0
GateHolds w g = makes g.kind (map w (inputs_at g)) ≡ w g.out

-- what so many wires carry, from wire b on
unfoldable pub carried : (ℕ → Signal) → ℕ → ℕ → List Signal
carried w b zero = []
carried w b (suc n) = w b ∷ carried w (suc b) n

-- "A netlist allows bits on its ports if some bits on the rest satisfy every gate."
pub record NetAllows (net : List ℕ) (bits : List Signal) : Type 0 where
  pub wires : ℕ → Signal
  pub given : carried wires 0 (inputs net + outputs net) ≡ bits
  pub hold : (i : ℕ) → i < gates net → GateHolds wires (gate_at net i)
