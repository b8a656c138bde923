-- The gates of a text, and the whole of it: what the readers make of a text that a well-formed netlist is written as. Assumes nothing.
use Rattle.std.specs.Prelude.{◌≡◌, refl, get_or, set, length, take, drop}
use Rattle.std.proofs.Common.{sym, ap, ◌∙◌, length-append, take-suc, length-take-le, drop_at}
use Rattle.std.proofs.Math.Path.{subst}
use mathlib.Core.List.{List, [], ◌∷◌, ◌++◌, append_assoc, append-nil}
use Prim.Native.Nat.{ℕ, zero, suc, ◌+◌, ◌-◌, ◌*◌, ◌≤◌, ◌<◌}
use native.Mathlib.Omega.{arith}
use Rattle.std.proofs.Math.Decide.{dec_lt}
use Rattle.std.proofs.lemmas.List.Edits.{sets, sets-eq}
use Rattle.std.proofs.Math.Seq.{length-sets}
use Rattle.rules.specs.declared.Gate.{Gate}
use Rattle.rules.specs.Text.{bytes, joined}
use Rattle.rules.specs.Netlist.{inputs, outputs, wires, gates, gate_at, Fine, WellFormed, records}
use Rattle.rules.specs.Flat.{ports_text, vars_text, gate_text, gates_text, flat_text}
use Rattle.rules.proofs.Laws.FlatOne.{gate-first}
use Rattle.write.specs.Put.{Put, put-none, put_then, put_is}
use Rattle.write.specs.Pieces.{gates-open, gates-close, fine-as, parts, parts-of}
use Rattle.read.specs.Ahead.{Ahead, pass, look, apart}
use Rattle.read.specs.Loops.{Passes, mark-pass}

abbrev pub record_of : Gate → List ℕ
record_of g = g.kind ∷ g.a ∷ g.b ∷ g.c ∷ g.out ∷ []

-- the first n records
unfoldable pub body : List ℕ → ℕ → List ℕ
body w zero = []
body w (suc n) = body w n ++ record_of (gate_at w n)

-- five words stored one after the other
pub stored : (t : List ℕ) (i a b c d e : ℕ) → Put t (4 + 5 * i) (a ∷ b ∷ c ∷ d ∷ e ∷ []) (4 + 5 * (i + 1)) (set (set (set (set (set t (4 + 5 * i) a) (4 + 5 * i + 1) b) (4 + 5 * i + 2) c) (4 + 5 * i + 3) d) (4 + 5 * i + 4) e)
stored t i a b c d e =
    let p = 4 + 5 * i in
    let e1 : p + 1 ≡ suc p = omega arith in
    let e2 : p + 2 ≡ suc (suc p) = omega arith in
    let e3 : p + 3 ≡ suc (suc (suc p)) = omega arith in
    let e4 : p + 4 ≡ suc (suc (suc (suc p))) = omega arith in
    record { next = omega arith; text = rw (e1, e2, e3, e4) }

-- ---- the loop over the gates

-- the first i gates are read
pub record Got (t w v₀ : List ℕ) (i : ℕ) (v : List ℕ) : Type 0 where
  pub most : i ≤ gates w
  pub left : Ahead t (gates_text w i (gates w - i) ∷ bytes "END;\n" ∷ [])
  pub put : Put v₀ 4 (body w i) (4 + 5 * i) v

pub got-none : {t w v : List ℕ} → Ahead t (gates_text w 0 (gates w) ∷ bytes "END;\n" ∷ []) → Got t w v 0 v
unfolding body
got-none {w} a = let e : gates w - 0 ≡ gates w = omega arith in record { most = omega arith; left = rw e a; put = put-none }

first_byte : (t q : List ℕ) (b : ℕ) → get_or t 0 0 ≡ b → (b ≡ 0 → ⊥) → (r : List ℕ) → t ≡ q ++ r → (s : List ℕ) × (b ∷ s ≡ q ++ r)
first_byte [] q b e n r f = absurd (n (sym e))
first_byte (x ∷ t) q b e n r f = (t, ap (λ (y : ℕ). y ∷ t) (sym e) ∙ f)

-- a gate's text does not begin with E
no-gate : {t : List ℕ} {ps : List (List ℕ)} {ws ins : ℕ} (g : Gate) → Fine ws ins g → Ahead t (gate_text g ∷ ps) → get_or t 0 0 ≡ 69 → ⊥
unfolding joined
no-gate {ps} g f a e =
    let (s, d) = first_byte (gate_text g ++ joined ps) (gate_text g) 69 (sym (look 0 a) ∙ e) (omega arith) (joined ps) refl in
    gate-first g s (joined ps) f d

end-first : {t : List ℕ} → Ahead t (bytes "END;\n" ∷ []) → get_or t 0 0 ≡ 69
unfolding joined
end-first a = look 0 a

line_first : (ps : List (List ℕ)) → get_or (joined (bytes "\n" ∷ ps)) 0 0 ≡ 59 → ⊥
unfolding joined
line_first ps e = omega arith

-- what a gate's reader promises
abbrev pub GateReads : List ℕ → Gate → List ℕ → Type 0
GateReads t g m = (h : Gate) (ps : List (List ℕ)) → Fine 1536 0 h → Ahead t (gate_text h ∷ ps) → (g ≡ h) × Ahead m ps

module _ {t w v₀ v : List ℕ} {i : ℕ} (wf : WellFormed w) (got : Got t w v₀ i v) where
  pub got-end : get_or t 0 0 ≡ 69 → (i ≡ gates w) × Put v₀ 4 (body w i) (4 + 5 * i) v
  got-end e = (go (dec_lt i (gates w)), got.put)
    where
      go : Dec (i < gates w) → i ≡ gates w
      go (no h) = omega (arith, got.most)
      go (yes h) = absurd (no-gate (gate_at w i) (wf.fine i h) (apart _ (gates-open w (gates w) i h) got.left) e)

  pub got-full : i ≡ 1024 → (1024 ≡ gates w) × Put v₀ 4 (body w 1024) (4 + 5 * 1024) v
  got-full h = (omega (arith, got.most, wf.few-gates), subst (λ (n : ℕ). Put v₀ 4 (body w n) (4 + 5 * n) v) h got.put)

  pub got-more : {u m q r : List ℕ} {g : Gate} → (get_or t 0 0 ≡ 69 → ⊥) → GateReads t g m
      → Put v (4 + 5 * i) (record_of g) (4 + 5 * (i + 1)) u → Passes m 59 q → r ≡ drop 1 q → Got r w v₀ (i + 1) u
  unfolding body
  got-more {u} {m} {q} {r} {g} z fg fu fq fr = go (dec_lt i (gates w))
    where
      go : Dec (i < gates w) → Got r w v₀ (i + 1) u
      go (no h) = let n : gates w ≤ i = omega arith in absurd (z (end-first (apart [] (gates-close w (gates w) i n) got.left)))
      go (yes h) =
          let a = apart _ (gates-open w (gates w) i h) got.left in
          let (e, b) = fg (gate_at w i) _ (fine-as wf h refl) a in
          let d = mark-pass 59 (gates w - (i + 1)) (line_first _) b fq in
          let f : suc i ≡ i + 1 = omega arith in
          record {
            most = omega arith;
            left = pass d fr;
            put = subst (λ (k : ℕ). Put v₀ 4 (body w k) (4 + 5 * (i + 1)) u) f (put_then got.put (put_is (ap record_of e) fu));
          }

-- ---- the whole

body-length : (w : List ℕ) (n : ℕ) → length (body w n) ≡ 5 * n
unfolding body
body-length w zero = omega arith
body-length w (suc n) = omega (arith, length-append (body w n) (record_of (gate_at w n)), body-length w n)

five-more : (w : List ℕ) (p : ℕ) → p + 5 ≤ length w → take (p + 5) w ≡ take p w ++ (get_or w p 0 ∷ get_or w (p + 1) 0 ∷ get_or w (p + 2) 0 ∷ get_or w (p + 3) 0 ∷ get_or w (p + 4) 0 ∷ [])
five-more w p h =
    let e0 : p + 5 ≡ suc (p + 4) = omega arith in
    let e1 : p + 4 ≡ suc (p + 3) = omega arith in
    let e2 : p + 3 ≡ suc (p + 2) = omega arith in
    let e3 : p + 2 ≡ suc (p + 1) = omega arith in
    let e4 : p + 1 ≡ suc p = omega arith in
    let t1 : take (p + 1) w ≡ take p w ++ (get_or w p 0 ∷ []) = ap (λ (k : ℕ). take k w) e4 ∙ take-suc w p 0 (omega arith) in
    let t2 : take (p + 2) w ≡ take (p + 1) w ++ (get_or w (p + 1) 0 ∷ []) = ap (λ (k : ℕ). take k w) e3 ∙ take-suc w (p + 1) 0 (omega arith) in
    let t3 : take (p + 3) w ≡ take (p + 2) w ++ (get_or w (p + 2) 0 ∷ []) = ap (λ (k : ℕ). take k w) e2 ∙ take-suc w (p + 2) 0 (omega arith) in
    let t4 : take (p + 4) w ≡ take (p + 3) w ++ (get_or w (p + 3) 0 ∷ []) = ap (λ (k : ℕ). take k w) e1 ∙ take-suc w (p + 3) 0 (omega arith) in
    let t5 : take (p + 5) w ≡ take (p + 4) w ++ (get_or w (p + 4) 0 ∷ []) = ap (λ (k : ℕ). take k w) e0 ∙ take-suc w (p + 4) 0 (omega arith) in
    t5 ∙ rw (t4, t3, t2, t1) (simp append_assoc)

records_is : (w : List ℕ) (n : ℕ) → 4 + 5 * n ≤ length w → take (4 + 5 * n) w ≡ take 4 w ++ body w n
unfolding body
records_is w zero h = sym (append-nil (take 4 w))
records_is w (suc n) h =
    let e : 4 + 5 * suc n ≡ (4 + 5 * n) + 5 = omega arith in
    ap (λ (k : ℕ). take k w) e ∙ five-more w (4 + 5 * n) (omega arith) ∙ ap (λ (l : List ℕ). l ++ record_of (gate_at w n)) (records_is w n (omega arith)) ∙ append_assoc (take 4 w) (body w n) (record_of (gate_at w n))

four : (w : List ℕ) → 4 ≤ length w → take 4 w ≡ inputs w ∷ outputs w ∷ wires w ∷ gates w ∷ []
four [] h = absurd (omega arith)
four (a ∷ []) h = absurd (omega arith)
four (a ∷ b ∷ []) h = absurd (omega arith)
four (a ∷ b ∷ c ∷ []) h = absurd (omega arith)
four (a ∷ b ∷ c ∷ d ∷ w) h = refl

over : (v h b : List ℕ) → length h ≡ 4 → 4 + length b ≤ length v → sets (sets v 4 b) 0 h ≡ sets v 0 (h ++ b)
over v h b e l =
    let f : 4 + length b ≤ length v = l in
    let g : 0 + length h ≤ length (sets v 4 b) = omega (arith, length-sets v 4 b) in
    let k : 0 + length (h ++ b) ≤ length v = omega (arith, length-append h b) in
    let m : 0 + length h ≡ 4 = omega arith in
    let n : 0 + length (h ++ b) ≡ 4 + length b = omega (arith, length-append h b) in
    let t4 : length (take 4 v) ≡ 4 = length-take-le 4 v (omega arith) in
    sets-eq h (sets v 4 b) 0 g
    ∙ ap (λ (j : ℕ). h ++ drop j (sets v 4 b)) m
    ∙ ap (λ (x : List ℕ). h ++ drop 4 x) (sets-eq b v 4 f)
    ∙ ap (λ (x : List ℕ). h ++ drop 4 x) (append_assoc (take 4 v) b (drop (4 + length b) v))
    ∙ ap (λ (x : List ℕ). h ++ x) (drop_at (take 4 v) (b ++ drop (4 + length b) v) 4 t4)
    ∙ sym (append_assoc h b (drop (4 + length b) v))
    ∙ ap (λ (j : ℕ). (h ++ b) ++ drop j v) (sym n)
    ∙ sym (sets-eq (h ++ b) v 0 k)

heads : {a b c d x y z u : ℕ} → a ≡ x → b ≡ y → c ≡ z → d ≡ u → a ∷ b ∷ c ∷ d ∷ [] ≡ x ∷ y ∷ z ∷ u ∷ []
heads e f g h = cc

-- what the readers of lists promise
abbrev pub PortsReads : List ℕ → ℕ → ℕ → List ℕ → Type 0
PortsReads t s k r = (n : ℕ) (ps : List (List ℕ)) → n ≤ 1536 → Ahead t (ports_text s n ∷ ps) → (k ≡ n) × Ahead r ps

abbrev pub VarsReads : List ℕ → ℕ → ℕ → List ℕ → Type 0
VarsReads t s k r = (n : ℕ) (ps : List (List ℕ)) → n ≤ 1536 → Ahead t (vars_text s n ∷ bytes "BEGIN\n" ∷ ps) → (k ≡ n) × Ahead r (bytes "BEGIN\n" ∷ ps)

abbrev pub GatesRead : List ℕ → List ℕ → ℕ → List ℕ → Type 0
GatesRead t v₀ n v = (w : List ℕ) → WellFormed w → Ahead t (gates_text w 0 (gates w) ∷ bytes "END;\n" ∷ []) → (n ≡ gates w) × Put v₀ 4 (body w n) (4 + 5 * n) v

ports-to : {t : List ℕ} {s s' : ℕ} {ps : List (List ℕ)} (n : ℕ) → s ≡ s' → Ahead t (ports_text s n ∷ ps) → Ahead t (ports_text s' n ∷ ps)
ports-to {t} {ps} n e a = subst (λ (s : ℕ). Ahead t (ports_text s n ∷ ps)) e a

vars-to : {t : List ℕ} {s s' : ℕ} {ps : List (List ℕ)} (n : ℕ) → s ≡ s' → Ahead t (vars_text s n ∷ ps) → Ahead t (vars_text s' n ∷ ps)
vars-to {t} {ps} n e a = subst (λ (s : ℕ). Ahead t (vars_text s n ∷ ps)) e a

pub guessed : {t v₀ v₁ v₂ a ir b or vr c : List ℕ} {ic oc vc n : ℕ} (w : List ℕ) → WellFormed w → t ≡ flat_text w → 5124 ≤ length v₀
    → a ≡ drop 12 t → PortsReads a 0 ic ir → b ≡ drop 1 ir → PortsReads b ic oc or → VarsReads or (ic + oc) vc vr → c ≡ drop 6 vr
    → GatesRead c v₀ n v₁
    → v₂ ≡ sets v₁ 0 (ic ∷ oc ∷ ((ic + oc) + vc) ∷ n ∷ []) → v₂ ≡ sets v₀ 0 (records w)
unfolding records
guessed {t} {v₀} {v₁} {v₂} {ic = ic} {oc = oc} {vc = vc} {n = n} w wf e len fa fi fb fo fv fc fl fh =
    let a0 : Ahead t (parts w (inputs w) (outputs w) (wires w) (gates w)) = record { rest = e ∙ sym (parts-of w refl refl refl refl) } in
    let a1 = pass a0 fa in
    let (ei, a2) = fi (inputs w) _ (omega (arith, wf.ports, wf.few-wires)) a1 in
    let a3 = pass a2 fb in
    let (eo, a4) = fo (outputs w) _ (omega (arith, wf.ports, wf.few-wires)) (ports-to _ (sym ei) a3) in
    let es : inputs w + outputs w ≡ ic + oc = omega arith in
    let (ev, a5) = fv (wires w - (inputs w + outputs w)) _ (omega (arith, wf.few-wires)) (vars-to _ es a4) in
    let a6 = pass a5 fc in
    let (en, p) = fl w wf a6 in
    let ew : (ic + oc) + vc ≡ wires w = omega (arith, wf.ports) in
    let eh = heads ei eo ew en ∙ sym (four w wf.contents) in
    let eb : body w n ≡ body w (gates w) = ap (body w) en in
    let l4 : length (take 4 w) ≡ 4 = length-take-le 4 w wf.contents in
    let lb : 4 + length (body w (gates w)) ≤ length v₀ = omega (arith, body-length w (gates w), wf.few-gates) in
    fh ∙ ap (λ (h : List ℕ). sets v₁ 0 h) eh ∙ ap (λ (v : List ℕ). sets v 0 (take 4 w)) (p.text ∙ ap (λ (x : List ℕ). sets v₀ 4 x) eb)
    ∙ over v₀ (take 4 w) (body w (gates w)) l4 lb ∙ ap (λ (x : List ℕ). sets v₀ 0 x) (sym (records_is w (gates w) wf.records))
