-- A netlist as it is made: the gates that its words hold, and the wires of a gate. Assumes nothing.
use Rattle.std.specs.Prelude.{◌≡◌, refl, ℕ, zero, suc, ◌+◌, ◌*◌, ◌≤◌, ◌<◌, List, [], ◌∷◌, ◌++◌, length, get_or, take}
use Rattle.std.proofs.Common.{ap, ◌∙◌, arith}
use Rattle.rules.specs.declared.Gate.{Gate}
use Rattle.rules.specs.Primitives.{primitive, inputs_of}
use Rattle.rules.specs.Netlist.{gate_at, inputs_at, gate_words, net_words}
use Rattle.rules.specs.Unfold.{gate_on}

-- no primitive has more than three inputs
pub three : (k : ℕ) → inputs_of k ≤ 3
unfolding primitive
three zero = omega arith
three (suc zero) = omega arith
three (suc (suc zero)) = omega arith
three (suc (suc (suc zero))) = omega arith
three (suc (suc (suc (suc zero)))) = omega arith
three (suc (suc (suc (suc (suc zero))))) = omega arith
three (suc (suc (suc (suc (suc (suc zero)))))) = omega arith
three (suc (suc (suc (suc (suc (suc (suc zero))))))) = omega arith
three (suc (suc (suc (suc (suc (suc (suc (suc zero)))))))) = omega arith
three (suc (suc (suc (suc (suc (suc (suc (suc (suc zero))))))))) = omega arith
three (suc (suc (suc (suc (suc (suc (suc (suc (suc (suc k)))))))))) = omega arith

-- ---- the wires of a gate

taken : (u n : ℕ) (ws : List ℕ) → n ≤ 3 → n ≤ length ws
    → take n (get_or (take n ws) 0 u ∷ get_or (take n ws) 1 u ∷ get_or (take n ws) 2 u ∷ []) ≡ take n ws
taken u zero ws h l = refl
taken u (suc zero) [] h l = absurd (omega arith)
taken u (suc zero) (x ∷ ws) h l = refl
taken u (suc (suc zero)) [] h l = absurd (omega arith)
taken u (suc (suc zero)) (x ∷ []) h l = absurd (omega arith)
taken u (suc (suc zero)) (x ∷ y ∷ ws) h l = refl
taken u (suc (suc (suc zero))) [] h l = absurd (omega arith)
taken u (suc (suc (suc zero))) (x ∷ []) h l = absurd (omega arith)
taken u (suc (suc (suc zero))) (x ∷ y ∷ []) h l = absurd (omega arith)
taken u (suc (suc (suc zero))) (x ∷ y ∷ z ∷ ws) h l = refl
taken u (suc (suc (suc (suc n)))) ws h l = absurd (omega arith)

-- the inputs of a gate made on wires are the first of them
pub inputs_on : (k : ℕ) (ws : List ℕ) → inputs_of k ≤ length ws → inputs_at (gate_on k ws) ≡ take (inputs_of k) ws
unfolding gate_on
inputs_on k ws h = taken 65535 (inputs_of k) ws (three k) h

-- ---- the gates that the words hold

-- the gate in the place n of words
abbrev record-at : List ℕ → ℕ → Gate
record-at w n = record { kind = get_or w n 0; a = get_or w (n + 1) 0; b = get_or w (n + 2) 0; c = get_or w (n + 3) 0; out = get_or w (n + 4) 0 }

past : (a b c d e : ℕ) (w : List ℕ) (n : ℕ) → record-at (a ∷ b ∷ c ∷ d ∷ e ∷ w) (5 + n) ≡ record-at w n
past a b c d e w n =
    let f : (k : ℕ) → get_or (a ∷ b ∷ c ∷ d ∷ e ∷ w) (5 + n + k) 0 ≡ get_or w (n + k) 0 = λ k.
    let q : 5 + n + k ≡ suc (suc (suc (suc (suc (n + k))))) = omega arith in ap (λ i. get_or (a ∷ b ∷ c ∷ d ∷ e ∷ w) i 0) q in
    let g : get_or (a ∷ b ∷ c ∷ d ∷ e ∷ w) (5 + n) 0 ≡ get_or w n 0 =
    let q : 5 + n ≡ suc (suc (suc (suc (suc n)))) = omega arith in ap (λ i. get_or (a ∷ b ∷ c ∷ d ∷ e ∷ w) i 0) q in
    rw (g, f 1, f 2, f 3, f 4)

record_of : (gs : List Gate) (z : List ℕ) (i : ℕ) (d : Gate) → i < length gs → record-at (gate_words gs ++ z) (5 * i) ≡ get_or gs i d
unfolding gate_words
record_of [] z i d h = absurd (omega arith)
record_of (g ∷ gs) z zero d h = refl
record_of (g ∷ gs) z (suc i) d h =
    let q : 5 * suc i ≡ 5 + 5 * i = omega arith in
    ap (record-at (gate_words (g ∷ gs) ++ z)) q ∙ past g.kind g.a g.b g.c g.out (gate_words gs ++ z) (5 * i) ∙ record_of gs z i d (omega arith)

-- whatever words z stand after the records
pub gate-of : (i o w : ℕ) (gs : List Gate) (z : List ℕ) (j : ℕ) (d : Gate) → j < length gs → gate_at (net_words i o w gs ++ z) j ≡ get_or gs j d
unfolding net_words
gate-of i o w gs z j d h =
    let f : (k : ℕ) → get_or (i ∷ o ∷ w ∷ length gs ∷ (gate_words gs ++ z)) (4 + 5 * j + k) 0 ≡ get_or (gate_words gs ++ z) (5 * j + k) 0 = λ k.
    let q : 4 + 5 * j + k ≡ suc (suc (suc (suc (5 * j + k)))) = omega arith in ap (λ n. get_or (i ∷ o ∷ w ∷ length gs ∷ (gate_words gs ++ z)) n 0) q in
    let g : get_or (i ∷ o ∷ w ∷ length gs ∷ (gate_words gs ++ z)) (4 + 5 * j) 0 ≡ get_or (gate_words gs ++ z) (5 * j) 0 =
    let q : 4 + 5 * j ≡ suc (suc (suc (suc (5 * j)))) = omega arith in ap (λ n. get_or (i ∷ o ∷ w ∷ length gs ∷ (gate_words gs ++ z)) n 0) q in
    rw (g, f 1, f 2, f 3, f 4) (record_of gs z j d h)

pub words-length : (gs : List Gate) → length (gate_words gs) ≡ 5 * length gs
unfolding gate_words
words-length [] = refl
words-length (g ∷ gs) = omega (arith, words-length gs)
