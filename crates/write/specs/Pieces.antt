-- The pieces of a flat text as code meets them: slot by slot, and a list's first entry apart from the rest. Assumes nothing.
use Rattle.std.specs.Prelude.{◌≡◌, refl, cond, List, [], ◌∷◌, ℕ, zero, suc, ◌+◌, ◌-◌, ◌≤◌, ◌<◌, take, ltb}
use Rattle.std.proofs.Common.{sym, ap, subst, ◌∙◌, append_assoc, append-nil, arith, lt-ltb, le-ltb}
use Rattle.rules.specs.declared.Gate.{Gate}
use Rattle.rules.specs.Text.{bytes, joined}
use Rattle.rules.proofs.Laws.Nets.{three}
use Rattle.rules.specs.Primitives.{primitive, inputs_of}
use Rattle.rules.specs.Netlist.{inputs, outputs, wires, gates, gate_at, inputs_at, Fine, WellFormed}
use Rattle.rules.specs.Flat.{between, wire_text, entry_text, ports_text, vars_text, wires_text, gate_text, gates_text, flat_text}

-- ---- between

pub between_none : (m : List ℕ) (n : ℕ) → n ≡ 0 → between m n ≡ []
unfolding between
between_none m n e = rw e

pub between-some : (m : List ℕ) (n : ℕ) → (n ≡ 0 → ⊥) → between m n ≡ m
unfolding between
between-some m zero h = absurd (h refl)
between-some m (suc n) h = refl

-- ---- slots

-- slot k, which holds x, of a gate with n inputs
unfoldable pub slot_text : ℕ → ℕ → ℕ → List ℕ
slot_text n k x = cond (ltb k n) (joined (wire_text x ∷ between (bytes ",") (n - (k + 1)) ∷ [])) []

pub slot-used : (n k x : ℕ) → k < n → slot_text n k x ≡ joined (wire_text x ∷ between (bytes ",") (n - (k + 1)) ∷ [])
unfolding slot_text
slot-used n k x h = rw (lt-ltb _ _ h)

pub slot-free : (n k x : ℕ) → n ≤ k → slot_text n k x ≡ []
unfolding slot_text
slot-free n k x h = rw (le-ltb _ _ h)

abbrev pub slots_of : ℕ → Gate → List (List ℕ)
slots_of n g = slot_text n 0 g.a ∷ slot_text n 1 g.b ∷ slot_text n 2 g.c ∷ []

three-slots : (n a b c : ℕ) → n ≤ 3 → joined (slot_text n 0 a ∷ slot_text n 1 b ∷ slot_text n 2 c ∷ []) ≡ wires_text (take n (a ∷ b ∷ c ∷ []))
unfolding slot_text joined wires_text between
three-slots zero a b c h = refl
three-slots (suc zero) a b c h = simp append-nil
three-slots (suc (suc zero)) a b c h = simp (append-nil, append_assoc)
three-slots (suc (suc (suc zero))) a b c h = simp (append-nil, append_assoc)
three-slots (suc (suc (suc (suc n)))) a b c h = absurd (omega arith)

pub slots-of : {n : ℕ} (g : Gate) → n ≡ inputs_of g.kind → joined (slots_of n g) ≡ wires_text (inputs_at g)
slots-of {n} g e = ap (λ (n : ℕ). joined (slots_of n g)) e ∙ three-slots (inputs_of g.kind) g.a g.b g.c (three g.kind)

-- ---- gates

abbrev pub gate_of : Gate → List (List ℕ)
gate_of g = (primitive g.kind).name ∷ bytes " [" ∷ wires_text (inputs_at g) ∷ bytes "] [" ∷ wire_text g.out ∷ bytes "]" ∷ []

pub gate-of : (g : Gate) → gate_text g ≡ joined (gate_of g)
unfolding gate_text
gate-of g = refl

-- the name of a kind, a blank and a bracket
abbrev pub call_of : ℕ → List (List ℕ)
call_of kind = (primitive kind).name ∷ bytes " [" ∷ []

abbrev pub gate_parts : Gate → List (List ℕ)
gate_parts g = joined (call_of g.kind) ∷ wires_text (inputs_at g) ∷ bytes "] [" ∷ wire_text g.out ∷ bytes "]" ∷ []

pub gate-parts : (g : Gate) → gate_text g ≡ joined (gate_parts g)
unfolding gate_text joined
gate-parts g = sym (append_assoc (primitive g.kind).name (bytes " [") _)

-- ---- lists: the first entry apart from the rest, and none. Code counts up to n, the definitions count down

pub ports-open : (s n i : ℕ) → i < n
    → ports_text (s + i) (n - i) ≡ joined (entry_text (s + i) ∷ between (bytes ",") (n - (i + 1)) ∷ ports_text (s + (i + 1)) (n - (i + 1)) ∷ [])
unfolding ports_text
ports-open s n i h =
    let e : n - i ≡ suc (n - (i + 1)) = omega arith in
    let f : suc (s + i) ≡ s + (i + 1) = omega arith in
    ap (λ (k : ℕ). ports_text (s + i) k) e ∙ ap (λ (k : ℕ). joined (entry_text (s + i) ∷ between (bytes ",") (n - (i + 1)) ∷ ports_text k (n - (i + 1)) ∷ [])) f

pub ports-close : (s n i : ℕ) → n ≤ i → ports_text (s + i) (n - i) ≡ bytes "]\n"
unfolding ports_text
ports-close s n i h = let e : n - i ≡ 0 = omega arith in ap (λ (k : ℕ). ports_text (s + i) k) e

pub ports-begin : (s n : ℕ) → ports_text s n ≡ ports_text (s + 0) (n - 0)
ports-begin s n = let e : s ≡ s + 0 = omega arith in let f : n ≡ n - 0 = omega arith in ap (λ (k : ℕ). ports_text k n) e ∙ ap (λ (k : ℕ). ports_text (s + 0) k) f

pub vars-open : (s n i : ℕ) → i < n
    → vars_text (s + i) (n - i) ≡ joined (bytes "VAR " ∷ entry_text (s + i) ∷ bytes ";\n" ∷ vars_text (s + (i + 1)) (n - (i + 1)) ∷ [])
unfolding vars_text
vars-open s n i h =
    let e : n - i ≡ suc (n - (i + 1)) = omega arith in
    let f : suc (s + i) ≡ s + (i + 1) = omega arith in
    ap (λ (k : ℕ). vars_text (s + i) k) e ∙ ap (λ (k : ℕ). joined (bytes "VAR " ∷ entry_text (s + i) ∷ bytes ";\n" ∷ vars_text k (n - (i + 1)) ∷ [])) f

pub vars-close : (s n i : ℕ) → n ≤ i → vars_text (s + i) (n - i) ≡ joined []
unfolding vars_text joined
vars-close s n i h = let e : n - i ≡ 0 = omega arith in ap (λ (k : ℕ). vars_text (s + i) k) e

pub vars-begin : (s n : ℕ) → vars_text s n ≡ vars_text (s + 0) (n - 0)
vars-begin s n = let e : s ≡ s + 0 = omega arith in let f : n ≡ n - 0 = omega arith in ap (λ (k : ℕ). vars_text k n) e ∙ ap (λ (k : ℕ). vars_text (s + 0) k) f

pub gates-open : (w : List ℕ) (n i : ℕ) → i < n
    → gates_text w i (n - i) ≡ joined (gate_text (gate_at w i) ∷ between (bytes ";") (n - (i + 1)) ∷ bytes "\n" ∷ gates_text w (i + 1) (n - (i + 1)) ∷ [])
unfolding gates_text
gates-open w n i h =
    let e : n - i ≡ suc (n - (i + 1)) = omega arith in
    let f : suc i ≡ i + 1 = omega arith in
    ap (λ (k : ℕ). gates_text w i k) e
    ∙ ap (λ (k : ℕ). joined (gate_text (gate_at w i) ∷ between (bytes ";") (n - (i + 1)) ∷ bytes "\n" ∷ gates_text w k (n - (i + 1)) ∷ [])) f

pub gates-close : (w : List ℕ) (n i : ℕ) → n ≤ i → gates_text w i (n - i) ≡ joined []
unfolding gates_text joined
gates-close w n i h = let e : n - i ≡ 0 = omega arith in ap (λ (k : ℕ). gates_text w i k) e

pub gates-begin : (w : List ℕ) (n : ℕ) → gates_text w 0 n ≡ gates_text w 0 (n - 0)
gates-begin w n = let f : n ≡ n - 0 = omega arith in ap (λ (k : ℕ). gates_text w 0 k) f

-- ---- the whole, by its four counts

abbrev pub parts : List ℕ → ℕ → ℕ → ℕ → ℕ → List (List ℕ)
parts w i o n g =
    bytes "BLOCK main\n["
    ∷ ports_text 0 i
    ∷ bytes "["
    ∷ ports_text i o
    ∷ vars_text (i + o) (n - (i + o))
    ∷ bytes "BEGIN\n"
    ∷ gates_text w 0 g
    ∷ bytes "END;\n"
    ∷ []

pub parts-of : (w : List ℕ) {i o n g : ℕ} → i ≡ inputs w → o ≡ outputs w → n ≡ wires w → g ≡ gates w → joined (parts w i o n g) ≡ flat_text w
unfolding flat_text
parts-of w e f h k = rw (e, f, h, k)

-- ---- gates of a well-formed netlist

pub fine-as : {w : List ℕ} {j : ℕ} {g : Gate} → WellFormed w → j < gates w → g ≡ gate_at w j → Fine 1536 0 g
fine-as {w} {j} wf h e =
    let f = wf.fine j h in
    let l = wf.few-wires in
    subst (λ (g : Gate). Fine 1536 0 g) (sym e)
    (record {
      kind = f.kind;
      a = (λ k. omega (arith, f.a.0 k), f.a.1);
      b = (λ k. omega (arith, f.b.0 k), f.b.1);
      c = (λ k. omega (arith, f.c.0 k), f.c.1);
      out = omega (arith, f.out);
      free = omega arith;
    })
