-- 01, "One design from text to gates": the flat text of a netlist. Assumes nothing.
use Rattle.std.specs.Prelude.{ℕ, zero, suc, ◌+◌, ◌-◌, ◌/◌, ◌%◌, cond, List, [], ◌∷◌, length, ltb}
use Rattle.rules.specs.declared.Gate.{Gate}
use Rattle.rules.specs.Text.{bytes, joined}
use Rattle.rules.specs.Primitives.{primitive}
use Rattle.rules.specs.Netlist.{inputs, outputs, wires, gates, gate_at, inputs_at}

-- a number below 10,000 in decimal, with no zero before it
unfoldable pub decimal : ℕ → List ℕ
decimal n =
    cond (ltb n 10) ((48 + n) ∷ [])
    (cond (ltb n 100) ((48 + n / 10) ∷ (48 + n % 10) ∷ [])
    (cond (ltb n 1000) ((48 + n / 100) ∷ (48 + n / 10 % 10) ∷ (48 + n % 10) ∷ [])
    ((48 + n / 1000) ∷ (48 + n / 100 % 10) ∷ (48 + n / 10 % 10) ∷ (48 + n % 10) ∷ [])))

-- a mark, where so many more follow: none after the last
unfoldable pub between : List ℕ → ℕ → List ℕ
between m zero = []
between m (suc n) = m

-- w5
unfoldable pub wire_text : ℕ → List ℕ
wire_text n = joined (bytes "w" ∷ decimal n ∷ [])

-- w5:WIRE
unfoldable pub entry_text : ℕ → List ℕ
entry_text n = joined (wire_text n ∷ bytes ":WIRE" ∷ [])

-- so many ports from wire s on, and the end of their line
unfoldable pub ports_text : ℕ → ℕ → List ℕ
ports_text s zero = bytes "]\n"
ports_text s (suc n) = joined (entry_text s ∷ between (bytes ",") n ∷ ports_text (suc s) n ∷ [])

-- "VAR lines: other wires"
unfoldable pub vars_text : ℕ → ℕ → List ℕ
vars_text s zero = []
vars_text s (suc n) = joined (bytes "VAR " ∷ entry_text s ∷ bytes ";\n" ∷ vars_text (suc s) n ∷ [])

unfoldable pub wires_text : List ℕ → List ℕ
wires_text [] = []
wires_text (x ∷ xs) = joined (wire_text x ∷ between (bytes ",") (length xs) ∷ wires_text xs ∷ [])

-- xor [w5,w1] [w6]
unfoldable pub gate_text : Gate → List ℕ
gate_text g = joined ((primitive g.kind).name ∷ bytes " [" ∷ wires_text (inputs_at g) ∷ bytes "] [" ∷ wire_text g.out ∷ bytes "]" ∷ [])

-- so many gates from gate i on: "one gate a line, each but the last with ;"
unfoldable pub gates_text : List ℕ → ℕ → ℕ → List ℕ
gates_text net i zero = []
gates_text net i (suc n) = joined (gate_text (gate_at net i) ∷ between (bytes ";") n ∷ bytes "\n" ∷ gates_text net (suc i) n ∷ [])

-- "Second line: inputs; third: outputs; VAR lines: other wires; then one gate a line"
unfoldable pub flat_text : List ℕ → List ℕ
flat_text net =
    joined
    (bytes "BLOCK main\n["
    ∷ ports_text 0 (inputs net)
    ∷ bytes "["
    ∷ ports_text (inputs net) (outputs net)
    ∷ vars_text (inputs net + outputs net) (wires net - (inputs net + outputs net))
    ∷ bytes "BEGIN\n"
    ∷ gates_text net 0 (gates net)
    ∷ bytes "END;\n"
    ∷ [])
