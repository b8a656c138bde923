-- Laws of judging a netlist. Assumes nothing.
use mathlib.Core.Path.{◌≡◌, refl, sym, subst, ◌∙◌}
use mathlib.Core.Bool.{Bool, true, false}
use mathlib.Core.List.{List}
use Prim.Native.Nat.{ℕ, ◌+◌, ◌*◌, ◌≤◌, ◌<◌}
use native.Mathlib.Omega.{arith}
use native.Mathlib.Decide.{dec_lt}
use lib.ListN.{get_or, set, length, replicate, length-set, length-replicate, get_or-replicate, get_or-eq_default}
use lib.Seq.{get_or-set_same, get_or-set_other}
use lib.Dec.{eqb}
use borrow.Author.Tests.{eqb-true, eqb-false}
use borrow.Author.Count.{below_more}
use Rattle.rules.specs.declared.Gate.{Gate}
use Rattle.rules.specs.Netlist.{inputs, wires, gates, gate_at, Fine}
use Rattle.rules.proofs.Laws.FlatOne.{decimal-1, decimal-2, decimal-3, decimal-4}
use Rattle.netlist.specs.Decides.{Decides, so, not_so, holds, fails}
use Rattle.netlist.specs.Parts.{Body}

pub past_end : (w : List ℕ) (i : ℕ) → length w ≤ i → 0 ≡ get_or w i 0
past_end w i h = sym (get_or-eq_default w 0 h)

-- a record by its words
pub record-at : (w : List ℕ) {i p k a b c o : ℕ} → p ≡ i → k ≡ get_or w (4 + 5 * p) 0 → a ≡ get_or w (4 + 5 * p + 1) 0 → b ≡ get_or w (4 + 5 * p + 2) 0
    → c ≡ get_or w (4 + 5 * p + 3) 0 → o ≡ get_or w (4 + 5 * p + 4) 0 → ◌≡◌ {A = Gate} (record { kind = k; a = a; b = b; c = c; out = o }) (gate_at w i)
record-at w e f g h j k = rw (← e, f, g, h, j, k)

pub fine-is : {ws vs ins jns : ℕ} {g h : Gate} → ws ≡ vs → ins ≡ jns → g ≡ h → Fine ws ins g → Fine vs jns h
fine-is {ws} {vs} {ins} {jns} {g} {h} e f i d = subst (λ (g : Gate). Fine vs jns g) i (subst (λ (n : ℕ). Fine vs n g) f (subst (λ (n : ℕ). Fine n ins g) e d))

-- wire x is the output of one of the first n gates
pub record Driven (w : List ℕ) (n x : ℕ) : Type 0 where
  pub by : ℕ
  pub before : by < n
  pub drives : (gate_at w by).out ≡ x

-- the first i records are good, and the marks say which wires they drive
pub record Marked (w : List ℕ) (i : ℕ) (marks : List Bool) : Type 0 where
  pub size : length marks ≡ 1536
  pub fine : (j : ℕ) → j < i → Fine (wires w) (inputs w) (gate_at w j)
  pub once : (j : ℕ) → j < i → (k : ℕ) → k < j → (gate_at w k).out ≡ (gate_at w j).out → ⊥
  pub mark : (x : ℕ) → x < 1536 → Decides (Driven w i x) (get_or marks x false)

pub marked-none : (w : List ℕ) → Marked w 0 (replicate 1536 false)
marked-none w =
    record {
      size = length-replicate 1536 false;
      fine = λ j h. absurd (omega arith);
      once = λ j h. absurd (omega arith);
      mark = λ x h. rw (get_or-replicate 1536 x false false h) (not_so (λ d. absurd (omega (arith, d.before))));
    }

more-driven : (w : List ℕ) (i x : ℕ) (b : Bool) → ((gate_at w i).out ≡ x → ⊥) → Decides (Driven w i x) b → Decides (Driven w (i + 1) x) b
more-driven w i x true n (so d) = so (record { by = d.by; before = omega (arith, d.before); drives = d.drives })
more-driven w i x false n (not_so f) = not_so λ d. go d (dec_lt d.by i)
  where
    go : (d : Driven w (i + 1) x) → Dec (d.by < i) → ⊥
    go d (yes h) = f (record { by = d.by; before = h; drives = d.drives })
    go d (no h) = let e : d.by ≡ i = omega (arith, d.before) in n (subst (λ (k : ℕ). (gate_at w k).out ≡ x) e d.drives)

pub marked_more : (w : List ℕ) (i : ℕ) (marks : List Bool) (o : ℕ) → Marked w i marks → Fine (wires w) (inputs w) (gate_at w i)
    → o ≡ (gate_at w i).out → o < 1536 → get_or marks o false ≡ false → Marked w (i + 1) (set marks o true)
marked_more w i marks o m f e l u =
    record {
      size = simp length-set m.size;
      fine = below_more _ _ m.fine f;
      once = below_more _ _ m.once (λ k h d. fails (m.mark o l) u (record { by = k; before = h; drives = d ∙ sym e }));
      mark = λ x h. at x h (eqb x o) refl;
    }
  where
    at : (x : ℕ) → x < 1536 → (b : Bool) → eqb x o ≡ b → Decides (Driven w (i + 1) x) (get_or (set marks o true) x false)
    at x h true q =
        let p : o ≡ x = sym (eqb-true x o q) in
        let z : o < length marks = omega (arith, m.size) in
        subst (λ (y : ℕ). Decides (Driven w (i + 1) y) (get_or (set marks o true) y false)) p
        (rw (get_or-set_same marks o true false z) (so (record { by = i; before = omega arith; drives = sym e })))
    at x h false q =
        rw (get_or-set_other marks o x true false (eqb-false x o q))
        (more-driven w i x _ (λ g. eqb-false x o q (sym g ∙ sym e)) (m.mark x h))

pub twice : (w : List ℕ) (i : ℕ) (marks : List Bool) (o : ℕ) → Marked w i marks → i < gates w → o ≡ (gate_at w i).out → o < 1536
    → get_or marks o false ≡ true → Body w → ⊥
twice w i marks o m h e l u b = let d = holds (m.mark o l) u in b.once d.by i d.before h (d.drives ∙ e)

pub all-marked : (w : List ℕ) (i : ℕ) (marks : List Bool) → Marked w i marks → gates w ≤ i → Body w
all-marked w i marks m h = record { fine = λ j k. m.fine j (omega arith); once = λ i j l k. m.once j (omega arith) i l }

-- the digits of a number
pub ruleset digits = (decimal-1, decimal-2, decimal-3, decimal-4)
