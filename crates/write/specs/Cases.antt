-- Flat texts of 01 and of its edges, by the definition. Assumes nothing.
use Rattle.std.specs.Prelude.{◌≡◌, refl, List, [], ◌∷◌, ℕ}
use Rattle.rules.specs.Text.{bytes, joined}
use Rattle.rules.specs.Primitives.{primitive}
use Rattle.rules.specs.Flat.{decimal, between, wire_text, entry_text, ports_text, vars_text, wires_text, gate_text, gates_text, flat_text}

-- 01, "One design from text to gates"
abbrev pub odd : List ℕ
odd =
    3 ∷ 1 ∷ 8 ∷ 5
    ∷ 8 ∷ 65535 ∷ 65535 ∷ 65535 ∷ 4
    ∷ 4 ∷ 4 ∷ 0 ∷ 65535 ∷ 5
    ∷ 4 ∷ 5 ∷ 1 ∷ 65535 ∷ 6
    ∷ 4 ∷ 6 ∷ 2 ∷ 65535 ∷ 7
    ∷ 0 ∷ 7 ∷ 65535 ∷ 65535 ∷ 3
    ∷ []

pub odd-text : flat_text odd ≡ bytes "BLOCK main\n[w0:WIRE,w1:WIRE,w2:WIRE]\n[w3:WIRE]\nVAR w4:WIRE;\nVAR w5:WIRE;\nVAR w6:WIRE;\nVAR w7:WIRE;\nBEGIN\nzero [] [w4];\nxor [w4,w0] [w5];\nxor [w5,w1] [w6];\nxor [w6,w2] [w7];\nconnect [w7] [w3]\nEND;\n"
unfolding joined decimal between wire_text entry_text ports_text vars_text wires_text gate_text gates_text flat_text primitive
odd-text = refl

-- no wires and no gates: `[]` stands for no wires, and `END;` follows `BEGIN`
pub empty-text : flat_text (0 ∷ 0 ∷ 0 ∷ 0 ∷ []) ≡ bytes "BLOCK main\n[]\n[]\nBEGIN\nEND;\n"
unfolding joined decimal between wire_text entry_text ports_text vars_text wires_text gate_text gates_text flat_text primitive
empty-text = refl

-- a mux on wires of four digits
pub wide-text : flat_text (0 ∷ 0 ∷ 0 ∷ 1 ∷ 7 ∷ 9 ∷ 1024 ∷ 100 ∷ 1535 ∷ []) ≡ bytes "BLOCK main\n[]\n[]\nBEGIN\nmux [w9,w1024,w100] [w1535]\nEND;\n"
unfolding joined decimal between wire_text entry_text ports_text vars_text wires_text gate_text gates_text flat_text primitive
wide-text = refl
