-- Laws of a run as it is found. Assumes nothing.
use Rattle.std.specs.Prelude.{◌≡◌, refl, Bool, true, false, ◌||◌, ◌⊎◌, List, [], ◌∷◌, map, ℕ, zero, suc, ◌+◌, ◌≤◌, ◌<◌, get_or, set, length, take, eqb}
use Rattle.std.proofs.Common.{sym, ap, inl, inr, subst, ◌∙◌, arith, get_or-set_same, get_or-set_other, eq-eqb, ne_eqb, eqb-true, below_more}
use Rattle.std.proofs.lemmas.Bool.{eqb-false, or_right, cases_lt}
use Rattle.rules.specs.declared.Gate.{Gate}
use Rattle.rules.specs.Primitives.{inputs_of}
use Rattle.rules.specs.Netlist.{inputs, wires, gates, gate_at, inputs_at, Slot, Fine, WellFormed}
use Rattle.rules.specs.Meaning.{Signal, dark, makes}
use Rattle.rules.specs.Run.{Known, given, made, AllKnown, to_byte, from_byte, Inputs, Shown, settled, unsettled, Shows}
use Rattle.clear.specs.Zeros.{zeros}
use Rattle.netlist.specs.Answers.{refused}
use Rattle.run.specs.Ran.{Ran, short-values, bad-netlist, wrong-inputs}
use Rattle.rules.proofs.Laws.Bytes.{byte-below, from-to, to-from, input-bit}
use Rattle.rules.proofs.Laws.Runs.{functional}
use Rattle.run.specs.Going.{Pin, Ready, none, more, Wants, here, later, bits_at, Still, has, wants, Visit, settles, stays, twos, Sweep, same, fewer, Going, First, input, other}

-- ---- the wires of a gate

data Below (n : ℕ) : List ℕ → Type 0 where
  low-none : Below n []
  low-more : {i : ℕ} {is : List ℕ} → i < n → Below n is → Below n (i ∷ is)

below-nil : (ws n : ℕ) → Below ws (take n [])
below-nil ws zero = low-none
below-nil ws (suc n) = low-none

below-slots : (n ws a b c : ℕ) → Slot n ws 0 a → Slot n ws 1 b → Slot n ws 2 c → Below ws (take n (a ∷ b ∷ c ∷ []))
below-slots zero ws a b c f g h = low-none
below-slots (suc zero) ws a b c f g h = low-more (f.0 (omega arith)) low-none
below-slots (suc (suc zero)) ws a b c f g h = low-more (f.0 (omega arith)) (low-more (g.0 (omega arith)) low-none)
below-slots (suc (suc (suc n))) ws a b c f g h = low-more (f.0 (omega arith)) (low-more (g.0 (omega arith)) (low-more (h.0 (omega arith)) (below-nil ws n)))

fine-below : {ws ins : ℕ} (g : Gate) → Fine ws ins g → Below ws (inputs_at g)
fine-below {ws} g f = below-slots (inputs_of g.kind) ws g.a g.b g.c f.a f.b f.c

-- ---- three slots and the list of inputs

module _ (v : List ℕ) (n a b c x y z : ℕ) (p : Pin v n 0 a x) (q : Pin v n 1 b y) (r : Pin v n 2 c z) where
  record Slots : Type 0 where
    ready : (x ≡ 2 → ⊥) → (y ≡ 2 → ⊥) → (z ≡ 2 → ⊥) → Ready v (take n (a ∷ b ∷ c ∷ []))
    first : get_or (bits_at v (take n (a ∷ b ∷ c ∷ []))) 0 dark ≡ from_byte x
    second : get_or (bits_at v (take n (a ∷ b ∷ c ∷ []))) 1 dark ≡ from_byte y
    third : get_or (bits_at v (take n (a ∷ b ∷ c ∷ []))) 2 dark ≡ from_byte z

held : (v : List ℕ) (i : ℕ) {x : ℕ} → x ≡ get_or v i 0 → (x ≡ 2 → ⊥) → get_or v i 0 ≡ 2 → ⊥
held v i e n f = n (e ∙ f)

no_pin : {x : ℕ} → x ≡ 0 → dark ≡ from_byte x
unfolding Signal dark from_byte
no_pin e = rw e

ready-nil : (v : List ℕ) (n : ℕ) → Ready v (take n [])
ready-nil v zero = none
ready-nil v (suc n) = none

slots-of : (v : List ℕ) (n a b c x y z : ℕ) (p : Pin v n 0 a x) (q : Pin v n 1 b y) (r : Pin v n 2 c z) → Slots v n a b c x y z p q r
unfolding bits_at
slots-of v zero a b c x y z p q r =
    record { ready = λ f g h. none; first = no_pin (p.1 (omega arith)); second = no_pin (q.1 (omega arith)); third = no_pin (r.1 (omega arith)) }
slots-of v (suc zero) a b c x y z p q r =
    let d = p.0 (omega arith) in
    record { ready = λ f g h. more (held v a d f) none; first = ap from_byte (sym d); second = no_pin (q.1 (omega arith)); third = no_pin (r.1 (omega arith)) }
slots-of v (suc (suc zero)) a b c x y z p q r =
    let d = p.0 (omega arith) in
    let e = q.0 (omega arith) in
    record { ready = λ f g h. more (held v a d f) (more (held v b e g) none); first = ap from_byte (sym d); second = ap from_byte (sym e); third = no_pin (r.1 (omega arith)) }
slots-of v (suc (suc (suc n))) a b c x y z p q r =
    let d = p.0 (omega arith) in
    let e = q.0 (omega arith) in
    let i = r.0 (omega arith) in
    record {
      ready = λ f g h. more (held v a d f) (more (held v b e g) (more (held v c i h) (ready-nil v n)));
      first = ap from_byte (sym d);
      second = ap from_byte (sym e);
      third = ap from_byte (sym i);
    }

wants-a : (v : List ℕ) (n a b c : ℕ) {x : ℕ} → Pin v n 0 a x → x ≡ 2 → Wants v (take n (a ∷ b ∷ c ∷ []))
wants-a v zero a b c p e = absurd (omega (arith, p.1 (omega arith)))
wants-a v (suc n) a b c p e = here (sym (p.0 (omega arith)) ∙ e)

wants-b : (v : List ℕ) (n a b c : ℕ) {x : ℕ} → Pin v n 1 b x → x ≡ 2 → Wants v (take n (a ∷ b ∷ c ∷ []))
wants-b v zero a b c p e = absurd (omega (arith, p.1 (omega arith)))
wants-b v (suc zero) a b c p e = absurd (omega (arith, p.1 (omega arith)))
wants-b v (suc (suc n)) a b c p e = later (here (sym (p.0 (omega arith)) ∙ e))

wants-c : (v : List ℕ) (n a b c : ℕ) {x : ℕ} → Pin v n 2 c x → x ≡ 2 → Wants v (take n (a ∷ b ∷ c ∷ []))
wants-c v zero a b c p e = absurd (omega (arith, p.1 (omega arith)))
wants-c v (suc zero) a b c p e = absurd (omega (arith, p.1 (omega arith)))
wants-c v (suc (suc zero)) a b c p e = absurd (omega (arith, p.1 (omega arith)))
wants-c v (suc (suc (suc n))) a b c p e = later (later (here (sym (p.0 (omega arith)) ∙ e)))

-- what a kind makes depends on the first three bits only
makes-by : (k : ℕ) (is : List Signal) (x y z : ℕ) → get_or is 0 dark ≡ from_byte x → get_or is 1 dark ≡ from_byte y → get_or is 2 dark ≡ from_byte z
    → makes k (from_byte x ∷ from_byte y ∷ from_byte z ∷ []) ≡ makes k is
unfolding makes
makes-by k is x y z e f g = rw (← e, ← f, ← g)

-- ---- a visit, as the code does it

pub gate-fine : {w : List ℕ} {j : ℕ} {g : Gate} → WellFormed w → j < gates w → g ≡ gate_at w j → Fine 1536 (inputs w) g
gate-fine {w} {j} wf h e =
    let f = wf.fine j h in
    let l = wf.few-wires in
    subst (λ (g : Gate). Fine 1536 (inputs w) g) (sym e)
    (record {
      kind = f.kind;
      a = (λ k. omega (arith, f.a.0 k), f.a.1);
      b = (λ k. omega (arith, f.b.0 k), f.b.1);
      c = (λ k. omega (arith, f.c.0 k), f.c.1);
      out = omega (arith, f.out);
      free = f.free;
    })

-- a slot that the kind uses holds a wire of the values
pub inside : {n m x l : ℕ} (k : ℕ) → n ≡ m → 1536 ≤ l → Slot m 1536 k x → k < n → x < l
inside k e l s h = omega (arith, s.0 (subst (λ (m : ℕ). k < m) e h))

module _ (w v : List ℕ) (j : ℕ) (g : Gate) (ge : g ≡ gate_at w j) where
  pub still-has : {o : ℕ} → o ≡ g.out → (get_or v o 0 ≡ 2 → ⊥) → Visit w v j false v
  still-has e h = stays (has (subst (λ (k : ℕ). get_or v k 0 ≡ 2 → ⊥) (e ∙ ap (λ (g : Gate). g.out) ge) h))

  still : Wants v (inputs_at g) → Visit w v j false v
  still u = stays (wants (subst (λ (g : Gate). Wants v (inputs_at g)) ge u))

  pin_of : {n : ℕ} (k x r : ℕ) → n ≡ inputs_of g.kind → Pin v n k x r → Pin v (inputs_of g.kind) k x r
  pin_of k x r e p = subst (λ (n : ℕ). Pin v n k x r) e p

  pub still-a : {n x : ℕ} → n ≡ inputs_of g.kind → Pin v n 0 g.a x → x ≡ 2 → Visit w v j false v
  still-a {n} {x} ne p e = still (wants-a v _ g.a g.b g.c (pin_of 0 g.a x ne p) e)

  pub still-b : {n x : ℕ} → n ≡ inputs_of g.kind → Pin v n 1 g.b x → x ≡ 2 → Visit w v j false v
  still-b {n} {x} ne p e = still (wants-b v _ g.a g.b g.c (pin_of 1 g.b x ne p) e)

  pub still-c : {n x : ℕ} → n ≡ inputs_of g.kind → Pin v n 2 g.c x → x ≡ 2 → Visit w v j false v
  still-c {n} {x} ne p e = still (wants-c v _ g.a g.b g.c (pin_of 2 g.c x ne p) e)

  pub settling : {n o x y z b : ℕ} → n ≡ inputs_of g.kind → o ≡ g.out → get_or v o 0 ≡ 2 → Pin v n 0 g.a x → (x ≡ 2 → ⊥) → Pin v n 1 g.b y → (y ≡ 2 → ⊥)
      → Pin v n 2 g.c z → (z ≡ 2 → ⊥) → b ≡ to_byte (makes g.kind (from_byte x ∷ from_byte y ∷ from_byte z ∷ [])) → Visit w v j true (set v o b)
  settling {n} {o} {x} {y} {z} {b} ne oe t p p' q q' r r' be =
      let s = slots-of v (inputs_of g.kind) g.a g.b g.c x y z (pin_of 0 g.a x ne p) (pin_of 1 g.b y ne q) (pin_of 2 g.c z ne r) in
      let m = be ∙ ap to_byte (makes-by g.kind (bits_at v (inputs_at g)) x y z s.first s.second s.third) in
      rw (oe, m)
      (subst (λ (h : Gate). Visit w v j true (set v h.out (to_byte (makes h.kind (bits_at v (inputs_at h)))))) (sym ge)
      (settles (subst (λ (h : Gate). get_or v h.out 0 ≡ 2) ge (subst (λ (k : ℕ). get_or v k 0 ≡ 2) oe t)) (subst (λ (h : Gate). Ready v (inputs_at h)) ge (s.ready p' q' r'))))

-- ---- all along

less-twos : (w v₀ v : List ℕ) (n k : ℕ) (c : Bool) → Sweep w v₀ n c v → k < twos v → k < twos v₀
less-twos w v₀ v n k false (same f) e = e
less-twos w v₀ v n k true (fewer f) e = omega arith

set-twos : (v : List ℕ) (o b : ℕ) → o < length v → get_or v o 0 ≡ 2 → b < 2 → twos (set v o b) < twos v
unfolding twos
set-twos (x ∷ v) zero b l e h = let n : b ≡ 2 → ⊥ = omega arith in rw (ne_eqb b 2 n, eq-eqb x 2 e) (omega arith)
set-twos (x ∷ v) (suc o) b l e h = let i = set-twos v o b (omega arith) e h in omega arith
set-twos [] o b l e h = absurd (omega arith)

set_at : (v : List ℕ) (o b x : ℕ) (P : ℕ → Type 0) → o < length v → (x ≡ o → P b) → ((x ≡ o → ⊥) → P (get_or v x 0)) → P (get_or (set v o b) x 0)
set_at v o b x P l f g = at (eqb x o) refl
  where
    at : (c : Bool) → eqb x o ≡ c → P (get_or (set v o b) x 0)
    at true e = let t = eqb-true x o e in subst P (sym (ap (λ (y : ℕ). get_or (set v o b) y 0) t ∙ get_or-set_same v o b 0 l)) (f t)
    at false e = subst P (sym (get_or-set_other v o x b 0 (eqb-false x o e))) (g (eqb-false x o e))

module _ (w : List ℕ) (wf : WellFormed w) (ins : List ℕ) (ok : Inputs w ins) where
  all_known : {v is : List ℕ} → Going w ins v → Below (wires w) is → Ready v is → AllKnown w (map from_byte ins) is (bits_at v is)
  unfolding bits_at
  all_known g low-none none = Rattle.rules.specs.Run.none
  all_known g (low-more {i} l ls) (more r rs) = Rattle.rules.specs.Run.more (g.sound i l r) (all_known g ls rs)

  pub visited : {v u : List ℕ} {j : ℕ} {r : Bool} → 1536 ≤ length v → j < gates w → Going w ins v → Visit w v j r u → Going w ins u
  visited {v} {u} {j} {r} l h g s = go s
    where
      go : {u : List ℕ} {r : Bool} → Visit w v j r u → Going w ins u
      go (stays s) = g
      go (settles t r) =
          let f = wf.fine j h in
          let o = (gate_at w j).out in
          let m = makes (gate_at w j).kind (bits_at v (inputs_at (gate_at w j))) in
          let k : Known w (map from_byte ins) o m = made j h refl (all_known g (fine-below (gate_at w j) f) r) refl in
          let lo : o < length v = omega (arith, f.out, wf.few-wires) in
          record {
            input = λ i a. set_at v o _ i (λ (b : ℕ). b ≡ get_or ins i 0) lo (λ e. absurd (omega (arith, f.free))) (λ n. g.input i a);
            bit = λ i a. set_at v o _ i (λ (b : ℕ). (b ≡ 2 → ⊥) → b < 2) lo (λ e n. byte-below m) (λ n. g.bit i a);
            sound = λ i a. set_at v o _ i (λ (b : ℕ). (b ≡ 2 → ⊥) → Known w (map from_byte ins) i (from_byte b)) lo (λ e n. rw (e, from-to m) k) (λ n. g.sound i a);
            rest = λ i a. set_at v o _ i (λ (b : ℕ). b ≡ 0) lo (λ e. absurd (omega (arith, f.out))) (λ n. g.rest i a);
          }

  pub sweep-more : {v₀ v u : List ℕ} {n : ℕ} {c r : Bool} → 1536 ≤ length v → n < gates w → Sweep w v₀ n c v → Visit w v n r u → Sweep w v₀ (n + 1) (c || r) u
  sweep-more {v₀} {v} {u} {n} {c} {r} l h d s = go l d s
    where
      go : {v u : List ℕ} {c r : Bool} → 1536 ≤ length v → Sweep w v₀ n c v → Visit w v n r u → Sweep w v₀ (n + 1) (c || r) u
      go l (same f) (stays s) = same (below_more _ _ f s)
      go l (fewer f) (stays s) = fewer f
      go {v} {u} {c} l d (settles t r) =
          let lo : (gate_at w n).out < length v = omega (arith, (wf.fine n h).out, wf.few-wires) in
          rw (or_right c true refl) (fewer (less-twos w v₀ v n _ c d (set-twos v (gate_at w n).out _ lo t (byte-below _))))

  -- ---- at the end

  module _ (v : List ℕ) (go : Going w ins v) (closed : (j : ℕ) → j < gates w → Still w v j) where
    wants-not : {is : List ℕ} → Ready v is → Wants v is → ⊥
    wants-not none u = elim u [ ]
    wants-not (more n r) (here e) = n e
    wants-not (more n r) (later u) = wants-not r u

    at-gate : {b : Signal} (j : ℕ) → j < gates w → Known w (map from_byte ins) (gate_at w j).out b → Ready v (inputs_at (gate_at w j)) → Still w v j → get_or v (gate_at w j).out 0 ≡ to_byte b
    at-gate j h k r (has n) =
        let o = (wf.fine j h).out in
        sym (to-from _ (go.bit _ o n)) ∙ ap to_byte (functional w wf (map from_byte ins) (go.sound _ o n) k)
    at-gate j h k r (wants u) = absurd (wants-not r u)

    no-two : (i : ℕ) (b : Signal) → get_or v i 0 ≡ to_byte b → get_or v i 0 ≡ 2 → ⊥
    no-two i b e f = omega (arith, byte-below b)

    mutual
      all_shown : {i : ℕ} {b : Signal} → Known w (map from_byte ins) i b → get_or v i 0 ≡ to_byte b
      all_shown {i} {b} (given h e) =
          go.input i h ∙ sym (to-from (get_or ins i 0) (ok.bits i (omega (arith, ok.count)))) ∙ ap to_byte (sym (input-bit ins i) ∙ e)
      all_shown {i} {b} (made j h o ks e) =
          subst (λ (i : ℕ). get_or v i 0 ≡ to_byte b) o (at-gate j h (made j h refl ks e) (all-ready ks) (closed j h))

      all-ready : {is : List ℕ} {bs : List Signal} → AllKnown w (map from_byte ins) is bs → Ready v is
      all-ready Rattle.rules.specs.Run.none = none
      all-ready (Rattle.rules.specs.Run.more {i} {b} k ks) = more (no-two i b (all_shown k)) (all-ready ks)

    end-shown : (i : ℕ) → i < wires w → (b : Bool) → eqb (get_or v i 0) 2 ≡ b → Shown w ins i (get_or v i 0)
    end-shown i h false e =
        let n = eqb-false (get_or v i 0) 2 e in
        subst (λ (x : ℕ). Shown w ins i x) (to-from _ (go.bit i h n)) (settled (go.sound i h n))
    end-shown i h true e =
        let t = eqb-true (get_or v i 0) 2 e in
        subst (λ (x : ℕ). Shown w ins i x) (sym t) (unsettled (λ b k. no-two i b (all_shown k) t))

    pub shows : Shows w ins v
    shows = record { each = λ i h. end-shown i h (eqb (get_or v i 0) 2) refl; rest = go.rest }

-- ---- the start

pub first_of : {ins : List ℕ} {i b : ℕ} → (i < length ins → b ≡ get_or ins i 0) → (length ins ≤ i → b ≡ 2) → First ins i b
first_of {ins} {i} {b} f g = go (cases_lt i (length ins))
  where
    go : (i < length ins) ⊎ (length ins ≤ i) → First ins i b
    go (inl h) = rw (f h) (input h)
    go (inr h) = rw (g h) (other h)

pub going-from : (w ins v : List ℕ) → WellFormed w → Inputs w ins → ((i : ℕ) → i < wires w → First ins i (get_or v i 0)) → ((i : ℕ) → wires w ≤ i → get_or v i 0 ≡ 0) → Going w ins v
going-from w ins v wf ok f z =
    record {
      input = λ i h. as-input i _ h (f i (omega (arith, wf.ports)));
      bit = λ i h. as-bit i _ (f i h);
      sound = λ i h. as-known i _ (f i h);
      rest = z;
    }
  where
    as-input : (i b : ℕ) → i < inputs w → First ins i b → b ≡ get_or ins i 0
    as-input i b h (input k) = refl
    as-input i b h (other k) = absurd (omega (arith, ok.count))

    as-bit : (i b : ℕ) → First ins i b → (b ≡ 2 → ⊥) → b < 2
    as-bit i b (input k) n = ok.bits i k
    as-bit i b (other k) n = absurd (n refl)

    as-known : (i b : ℕ) → First ins i b → (b ≡ 2 → ⊥) → Known w (map from_byte ins) i (from_byte b)
    as-known i b (input k) n = given {i = i} (omega (arith, ok.count)) (input-bit ins i)
    as-known i b (other k) n = absurd (n refl)

-- ---- for the code

pub sweep-is : {w v₀ v : List ℕ} {n m : ℕ} {b c : Bool} → n ≡ m → b ≡ c → Sweep w v₀ n c v → Sweep w v₀ m b v
sweep-is {w} {v₀} {v} {n} {m} {b} d e s = subst (λ (n : ℕ). Sweep w v₀ n b v) d (subst (λ (b : Bool). Sweep w v₀ n b v) (sym e) s)

pub sweep-fewer : {w v₀ v : List ℕ} {n : ℕ} {c : Bool} → Sweep w v₀ n c v → c ≡ true → twos v < twos v₀
sweep-fewer (fewer h) e = h
sweep-fewer (same f) e = let z : ◌≡◌ {A = ℕ} 0 1 = cc in absurd (omega arith)

pub sweep-still : {w v₀ v : List ℕ} {n : ℕ} {c : Bool} → Sweep w v₀ n c v → c ≡ false → (j : ℕ) → j < n → Still w v j
sweep-still (fewer h) e = let z : ◌≡◌ {A = ℕ} 0 1 = cc in absurd (omega arith)
sweep-still (same f) e = f

module _ {w ins v : List ℕ} {len : ℕ} (e : v ≡ zeros len) where
  pub ran-short : len < 1536 → Ran w ins len (refused 1) v
  ran-short h = subst (λ (v : List ℕ). Ran w ins len (refused 1) v) (sym e) (short-values h)

  pub ran-bad : 1536 ≤ len → (WellFormed w → ⊥) → Ran w ins len (refused 19) v
  ran-bad h n = subst (λ (v : List ℕ). Ran w ins len (refused 19) v) (sym e) (bad-netlist h n)

  pub ran-wrong : 1536 ≤ len → WellFormed w → (Inputs w ins → ⊥) → Ran w ins len (refused 20) v
  ran-wrong h wf n = subst (λ (v : List ℕ). Ran w ins len (refused 20) v) (sym e) (wrong-inputs h wf n)
