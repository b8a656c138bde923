-- Every well-formed netlist's text fits 65,536 bytes. Assumes nothing.
use Rattle.std.specs.Prelude.{◌≡◌, refl, List, [], ◌∷◌, ℕ, zero, suc, ◌+◌, ◌-◌, ◌*◌, ◌≤◌, ◌<◌, length, take}
use Rattle.std.proofs.Common.{ap, ◌∙◌, arith, length-append}
use Rattle.std.proofs.Math.Decide.{dec_lt}
use Rattle.std.proofs.Math.Seq.{take-nil}
use Rattle.rules.specs.declared.Gate.{Gate}
use Rattle.rules.specs.Text.{bytes, joined}
use Rattle.rules.specs.Primitives.{primitive, inputs_of}
use Rattle.rules.specs.Netlist.{inputs, outputs, wires, gates, gate_at, inputs_at, WellFormed}
use Rattle.rules.specs.Flat.{decimal, between, wire_text, entry_text, ports_text, vars_text, wires_text, gate_text, gates_text, flat_text}
use Rattle.rules.proofs.Laws.FlatOne.{decimal-1, decimal-2, decimal-3, decimal-4}

-- the lengths of pieces, added up
sizes : List (List ℕ) → ℕ
sizes [] = 0
sizes (p ∷ ps) = length p + sizes ps

joined-size : (ps : List (List ℕ)) → length (joined ps) ≡ sizes ps
unfolding joined sizes
joined-size [] = refl
joined-size (p ∷ ps) = length-append p (joined ps) ∙ ap (λ (n : ℕ). length p + n) (joined-size ps)

pub decimal-most : (n : ℕ) → length (decimal n) ≤ 4
decimal-most n = go (dec_lt n 10) (dec_lt n 100) (dec_lt n 1000)
  where
    go : Dec (n < 10) → Dec (n < 100) → Dec (n < 1000) → length (decimal n) ≤ 4
    go (yes a) b c = omega (arith, ap length (decimal-1 n a))
    go (no a) (yes b) c = let h : 10 ≤ n = omega arith in omega (arith, ap length (decimal-2 n h b))
    go (no a) (no b) (yes c) = let h : 100 ≤ n = omega arith in omega (arith, ap length (decimal-3 n h c))
    go (no a) (no b) (no c) = let h : 1000 ≤ n = omega arith in omega (arith, ap length (decimal-4 n h))

wire-most : (n : ℕ) → length (wire_text n) ≤ 5
unfolding wire_text sizes
wire-most n = omega (arith, decimal-most n, joined-size (bytes "w" ∷ decimal n ∷ []))

entry-most : (n : ℕ) → length (entry_text n) ≤ 10
unfolding entry_text sizes
entry-most n = omega (arith, wire-most n, joined-size (wire_text n ∷ bytes ":WIRE" ∷ []))

between-most : (m : List ℕ) (n : ℕ) → length (between m n) ≤ length m
unfolding between
between-most m zero = omega arith
between-most m (suc n) = omega arith

ports-most : (n s : ℕ) → length (ports_text s n) ≤ 11 * n + 2
unfolding ports_text sizes
ports-most zero s = omega arith
ports-most (suc n) s = omega (arith, ports-most n (suc s), entry-most s, between-most (bytes ",") n, joined-size (entry_text s ∷ between (bytes ",") n ∷ ports_text (suc s) n ∷ []))

vars-most : (n s : ℕ) → length (vars_text s n) ≤ 16 * n
unfolding vars_text sizes
vars-most zero s = omega arith
vars-most (suc n) s = omega (arith, vars-most n (suc s), entry-most s, joined-size (bytes "VAR " ∷ entry_text s ∷ bytes ";\n" ∷ vars_text (suc s) n ∷ []))

wires-most : (xs : List ℕ) → length (wires_text xs) ≤ 6 * length xs
unfolding wires_text sizes
wires-most [] = omega arith
wires-most (x ∷ xs) = omega (arith, wires-most xs, wire-most x, between-most (bytes ",") (length xs), joined-size (wire_text x ∷ between (bytes ",") (length xs) ∷ wires_text xs ∷ []))

take-most : (n a b c : ℕ) → length (take n (a ∷ b ∷ c ∷ [])) ≤ 3
take-most zero a b c = omega arith
take-most (suc zero) a b c = omega arith
take-most (suc (suc zero)) a b c = omega arith
take-most (suc (suc (suc n))) a b c = let e : length (take {A = ℕ} n []) ≡ 0 = ap length (take-nil {A = ℕ} n) in omega arith

pub name-most : (k : ℕ) → length (primitive k).name ≤ 7
unfolding primitive
name-most zero = omega arith
name-most (suc zero) = omega arith
name-most (suc (suc zero)) = omega arith
name-most (suc (suc (suc zero))) = omega arith
name-most (suc (suc (suc (suc zero)))) = omega arith
name-most (suc (suc (suc (suc (suc zero))))) = omega arith
name-most (suc (suc (suc (suc (suc (suc zero)))))) = omega arith
name-most (suc (suc (suc (suc (suc (suc (suc zero))))))) = omega arith
name-most (suc (suc (suc (suc (suc (suc (suc (suc zero)))))))) = omega arith
name-most (suc (suc (suc (suc (suc (suc (suc (suc (suc zero))))))))) = omega arith
name-most (suc (suc (suc (suc (suc (suc (suc (suc (suc (suc k)))))))))) = omega arith

gate-most : (g : Gate) → length (gate_text g) ≤ 36
unfolding gate_text sizes
gate-most g =
    omega (
      arith,
      name-most g.kind,
      wires-most (inputs_at g),
      take-most (inputs_of g.kind) g.a g.b g.c,
      wire-most g.out,
      joined-size ((primitive g.kind).name ∷ bytes " [" ∷ wires_text (inputs_at g) ∷ bytes "] [" ∷ wire_text g.out ∷ bytes "]" ∷ []),
    )

gates-most : (n i : ℕ) (w : List ℕ) → length (gates_text w i n) ≤ 38 * n
unfolding gates_text sizes
gates-most zero i w = omega arith
gates-most (suc n) i w =
    omega (
      arith,
      gates-most n (suc i) w,
      gate-most (gate_at w i),
      between-most (bytes ";") n,
      joined-size (gate_text (gate_at w i) ∷ between (bytes ";") n ∷ bytes "\n" ∷ gates_text w (suc i) n ∷ []),
    )

pub flat-fits : (w : List ℕ) → WellFormed w → length (flat_text w) ≤ 65536
unfolding flat_text sizes
flat-fits w wf =
    omega (
      arith,
      wf.ports,
      wf.few-wires,
      wf.few-gates,
      ports-most (inputs w) 0,
      ports-most (outputs w) (inputs w),
      vars-most (wires w - (inputs w + outputs w)) (inputs w + outputs w),
      gates-most (gates w) 0 w,
      joined-size
          (bytes "BLOCK main\n["
          ∷ ports_text 0 (inputs w)
          ∷ bytes "["
          ∷ ports_text (inputs w) (outputs w)
          ∷ vars_text (inputs w + outputs w) (wires w - (inputs w + outputs w))
          ∷ bytes "BEGIN\n"
          ∷ gates_text w 0 (gates w)
          ∷ bytes "END;\n"
          ∷ []),
    )
