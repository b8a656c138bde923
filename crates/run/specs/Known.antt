-- A wire has one value, and so a run one outcome. Assumes nothing.
use Rattle.std.specs.Prelude.{◌≡◌, refl, List, map, ℕ, ◌≤◌, ◌<◌, get_or, length}
use Rattle.std.proofs.Common.{sym, ap, ◌∙◌, arith, ext_get_or}
use Rattle.std.proofs.Math.Decide.{dec_lt}
use Rattle.rules.specs.Netlist.{wires, WellFormed}
use Rattle.rules.specs.Run.{to_byte, from_byte, Shown, settled, unsettled, Shows}
use Rattle.rules.proofs.Laws.Runs.{functional}
use Rattle.netlist.specs.Answers.{Told}
use Rattle.run.specs.Ran.{Ran, short-values, bad-netlist, wrong-inputs, ran}

module _ (w : List ℕ) (wf : WellFormed w) (ins : List ℕ) where
  pub shown-one : {i a b : ℕ} → Shown w ins i a → Shown w ins i b → a ≡ b
  shown-one (settled k) (settled l) = ap to_byte (functional w wf (map from_byte ins) k l)
  shown-one (settled k) (unsettled n) = absurd (n _ k)
  shown-one (unsettled n) (settled k) = absurd (n _ k)
  shown-one (unsettled n) (unsettled m) = refl

  pub shows-one : (u v : List ℕ) → length u ≡ length v → Shows w ins u → Shows w ins v → u ≡ v
  shows-one u v e s t = ext_get_or 0 u v e λ i h. at i (dec_lt i (wires w))
    where
      at : (i : ℕ) → Dec (i < wires w) → get_or u i 0 ≡ get_or v i 0
      at i (yes h) = shown-one (s.each i h) (t.each i h)
      at i (no h) = let g : wires w ≤ i = omega arith in s.rest i g ∙ sym (t.rest i g)

-- two outcomes that are permitted for one input are equal
pub ran-one : {w ins : List ℕ} {len : ℕ} {t t' : Told} {u v : List ℕ} → Ran w ins len t u → Ran w ins len t' v → (t ≡ t') × (u ≡ v)
ran-one (short-values h) (short-values k) = (refl, refl)
ran-one (short-values h) (bad-netlist k x) = absurd (omega arith)
ran-one (short-values h) (wrong-inputs k x y) = absurd (omega arith)
ran-one (short-values h) (ran k x y e s) = absurd (omega arith)
ran-one (bad-netlist h x) (short-values k) = absurd (omega arith)
ran-one (bad-netlist h x) (bad-netlist k y) = (refl, refl)
ran-one (bad-netlist h x) (wrong-inputs k y z) = absurd (x y)
ran-one (bad-netlist h x) (ran k y z e s) = absurd (x y)
ran-one (wrong-inputs h x y) (short-values k) = absurd (omega arith)
ran-one (wrong-inputs h x y) (bad-netlist k z) = absurd (z x)
ran-one (wrong-inputs h x y) (wrong-inputs k z a) = (refl, refl)
ran-one (wrong-inputs h x y) (ran k z a e s) = absurd (y a)
ran-one (ran h x y e s) (short-values k) = absurd (omega arith)
ran-one (ran h x y e s) (bad-netlist k z) = absurd (z x)
ran-one (ran h x y e s) (wrong-inputs k z a) = absurd (a y)
ran-one {w} {ins} (ran h x y e s) (ran k z a f t) = (refl, shows-one w x ins _ _ (e ∙ sym f) s t)
