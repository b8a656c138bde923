-- What stands ahead in a text, and what the readers make of it. Assumes nothing.
use Rattle.std.specs.Prelude.{◌≡◌, refl, List, [], ◌∷◌, ◌++◌, ℕ, zero, suc, ◌+◌, ◌-◌, ◌*◌, ◌/◌, ◌%◌, ◌≤◌, ◌<◌, get_or, length, drop, Option, None, Some, MatchOption, unwrap_or}
use Rattle.std.proofs.Common.{sym, ap, subst, ◌∙◌, append_assoc, arith, drop-drop}
use Rattle.std.proofs.Math.Decide.{dec_lt}
use Rattle.std.proofs.Math.Seq.{drop-append_seam}
use Rattle.rules.specs.declared.Gate.{Gate}
use Rattle.rules.specs.Text.{bytes, joined}
use Rattle.rules.specs.Primitives.{primitive, inputs_of}
use Rattle.rules.specs.Netlist.{Slot, Fine}
use Rattle.rules.specs.Flat.{decimal, between, wire_text, gate_text}
use Rattle.rules.proofs.Laws.FlatOne.{tens-4, decimal-1, decimal-2, decimal-3, decimal-4, name-one}
use Rattle.write.specs.Put.{joined-append}
use Rattle.write.specs.Pieces.{between_none, between-some, slot_text, slot-used, slot-free, slots_of, slots-of, gate_of, gate-of, call_of}
use Rattle.compare.specs.Match.{Starts, starts-from}

-- t is the pieces ps, one after another
pub record Ahead (t : List ℕ) (ps : List (List ℕ)) : Type 0 where
  pub rest : t ≡ joined ps

pub pass : {t p r : List ℕ} {ps : List (List ℕ)} → Ahead t (p ∷ ps) → r ≡ drop (length p) t → Ahead r ps
unfolding joined
pass {t} {p} {r} {ps} a e = record { rest = e ∙ ap (λ (l : List ℕ). drop (length p) l) a.rest ∙ drop-append_seam p (joined ps) }

-- the byte k places ahead
pub look : {t : List ℕ} {ps : List (List ℕ)} (k : ℕ) → Ahead t ps → get_or t k 0 ≡ get_or (joined ps) k 0
look k a = ap (λ (l : List ℕ). get_or l k 0) a.rest

pub apart : {t p : List ℕ} {qs : List (List ℕ)} (ps : List (List ℕ)) → p ≡ joined ps → Ahead t (p ∷ qs) → Ahead t (ps ++ qs)
unfolding joined
apart {p} {qs} ps e a = record { rest = a.rest ∙ sym (joined-append ps qs ∙ ap (λ (l : List ℕ). l ++ joined qs) (sym e)) }

-- ---- numbers

abbrev pub Digit : ℕ → Type 0
Digit b = (48 ≤ b) × (b ≤ 57)

-- the value of up to four digits
pub data Value (a b c d : ℕ) : ℕ → Type 0 where
  one : (Digit b → ⊥) → Value a b c d (a - 48)
  two : Digit b → (Digit c → ⊥) → Value a b c d (10 * (a - 48) + (b - 48))
  three : Digit b → Digit c → (Digit d → ⊥) → Value a b c d (100 * (a - 48) + 10 * (b - 48) + (c - 48))
  four : Digit b → Digit c → Digit d → Value a b c d (1000 * (a - 48) + 100 * (b - 48) + 10 * (c - 48) + (d - 48))

value-1 : (n a b c d r : ℕ) → n < 10 → a ≡ 48 + n → (Digit b → ⊥) → Value a b c d r → r ≡ n
value-1 n a b c d r h e z (one x) = omega arith
value-1 n a b c d r h e z (two x y) = absurd (z x)
value-1 n a b c d r h e z (three x y u) = absurd (z x)
value-1 n a b c d r h e z (four x y u) = absurd (z x)

value-2 : (n a b c d r : ℕ) → n < 100 → a ≡ 48 + n / 10 → b ≡ 48 + n % 10 → (Digit c → ⊥) → Value a b c d r → r ≡ n
value-2 n a b c d r h e f z (one x) = absurd (x (omega arith, omega arith))
value-2 n a b c d r h e f z (two x y) = omega arith
value-2 n a b c d r h e f z (three x y u) = absurd (z y)
value-2 n a b c d r h e f z (four x y u) = absurd (z y)

value-3 : (n a b c d r : ℕ) → n < 1000 → a ≡ 48 + n / 100 → b ≡ 48 + n / 10 % 10 → c ≡ 48 + n % 10 → (Digit d → ⊥) → Value a b c d r → r ≡ n
value-3 n a b c d r h e f g z (one x) = absurd (x (omega arith, omega arith))
value-3 n a b c d r h e f g z (two x y) = absurd (y (omega arith, omega arith))
value-3 n a b c d r h e f g z (three x y u) = omega arith
value-3 n a b c d r h e f g z (four x y u) = absurd (z u)

value-4 : (n a b c d r : ℕ) → n < 10000 → a ≡ 48 + n / 1000 → b ≡ 48 + n / 100 % 10 → c ≡ 48 + n / 10 % 10 → d ≡ 48 + n % 10 → Value a b c d r → r ≡ n
value-4 n a b c d r h e f g i (one x) = absurd (x (omega arith, omega arith))
value-4 n a b c d r h e f g i (two x y) = absurd (y (omega arith, omega arith))
value-4 n a b c d r h e f g i (three x y u) = absurd (u (omega arith, omega arith))
value-4 n a b c d r h e f g i (four x y u) = let k = tens-4 n in omega arith

-- what stands ahead of ps is no digit
abbrev pub Stops : List (List ℕ) → Type 0
Stops ps = Digit (get_or (joined ps) 0 0) → ⊥

first-1 : (n k : ℕ) (ps : List (List ℕ)) (l : List ℕ) → decimal n ≡ l → get_or (joined (decimal n ∷ ps)) k 0 ≡ get_or (l ++ joined ps) k 0
unfolding joined
first-1 n k ps l e = ap (λ (m : List ℕ). get_or (m ++ joined ps) k 0) e

pub number_read : {t : List ℕ} {ps : List (List ℕ)} (n r : ℕ) → n < 10000 → Ahead t (decimal n ∷ ps) → Stops ps
    → Value (get_or t 0 0) (get_or t 1 0) (get_or t 2 0) (get_or t 3 0) r → r ≡ n
number_read {t} {ps} n r h a z v = go (dec_lt n 10) (dec_lt n 100) (dec_lt n 1000)
  where
    go : Dec (n < 10) → Dec (n < 100) → Dec (n < 1000) → r ≡ n
    go (yes x) y u =
        let e = decimal-1 n x in
        value-1 n _ _ _ _ r x (look 0 a ∙ first-1 n 0 ps _ e) (subst (λ (b : ℕ). Digit b → ⊥) (sym (look 1 a ∙ first-1 n 1 ps _ e)) z) v
    go (no x) (yes y) u =
        let f : 10 ≤ n = omega arith in
        let e = decimal-2 n f y in
        value-2 n _ _ _ _ r y (look 0 a ∙ first-1 n 0 ps _ e) (look 1 a ∙ first-1 n 1 ps _ e) (subst (λ (b : ℕ). Digit b → ⊥) (sym (look 2 a ∙ first-1 n 2 ps _ e)) z) v
    go (no x) (no y) (yes u) =
        let f : 100 ≤ n = omega arith in
        let e = decimal-3 n f u in
        value-3 n _ _ _ _ r u (look 0 a ∙ first-1 n 0 ps _ e) (look 1 a ∙ first-1 n 1 ps _ e) (look 2 a ∙ first-1 n 2 ps _ e) (subst (λ (b : ℕ). Digit b → ⊥) (sym (look 3 a ∙ first-1 n 3 ps _ e)) z) v
    go (no x) (no y) (no u) =
        let f : 1000 ≤ n = omega arith in
        let e = decimal-4 n f in
        value-4 n _ _ _ _ r h (look 0 a ∙ first-1 n 0 ps _ e) (look 1 a ∙ first-1 n 1 ps _ e) (look 2 a ∙ first-1 n 2 ps _ e) (look 3 a ∙ first-1 n 3 ps _ e) v

-- ---- wires and slots

pub wire-read : {t q r : List ℕ} {v e : ℕ} {ps : List (List ℕ)} (n : ℕ) → n < 10000 → Ahead t (wire_text n ∷ ps) → Stops ps → q ≡ drop 1 t
    → ((m : ℕ) (qs : List (List ℕ)) → m < 10000 → Ahead q (decimal m ∷ qs) → Stops qs → v ≡ m)
    → e ≡ length (decimal v) → r ≡ drop e q → (v ≡ n) × Ahead r ps
unfolding wire_text
wire-read {t} {q} {r} {v} {e} {ps} n h a z fq fv fe fr =
    let d = pass (apart (bytes "w" ∷ decimal n ∷ []) refl a) fq in
    let i = fv n ps h d z in
    let j : e ≡ length (decimal n) = fe ∙ ap (λ (k : ℕ). length (decimal k)) i in
    (i, pass d (fr ∙ ap (λ (k : ℕ). drop k q) j))

between-stops : (n : ℕ) (ps : List (List ℕ)) → Stops ps → Stops (between (bytes ",") n ∷ ps)
unfolding joined between
between-stops zero ps z = z
between-stops (suc n) ps z = λ (d : Digit 44). omega (arith, d.0)

slot-stops : (n k x : ℕ) (ps : List (List ℕ)) → Stops ps → Stops (slot_text n k x ∷ ps)
unfolding joined wire_text
slot-stops n k x ps z = go (dec_lt k n)
  where
    go : Dec (k < n) → Stops (slot_text n k x ∷ ps)
    go (no h) = let g : n ≤ k = omega arith in rw (slot-free n k x g) z
    go (yes h) = rw (slot-used n k x h) (λ (d : Digit 119). absurd (omega (arith, d.1)))

-- what a wire's reader promises
abbrev pub WireReads : List ℕ → ℕ → List ℕ → Type 0
WireReads t v r = (x : ℕ) (ps : List (List ℕ)) → x < 10000 → Ahead t (wire_text x ∷ ps) → Stops ps → (v ≡ x) × Ahead r ps

-- what a slot's reader promises
abbrev pub SlotReads : List ℕ → ℕ → ℕ → ℕ → List ℕ → Type 0
SlotReads t n k v r = (x : ℕ) (ps : List (List ℕ)) → Slot n 1536 k x → Ahead t (slot_text n k x ∷ ps) → Stops ps → (v ≡ x) × Ahead r ps

pub slot-more : {t q r : List ℕ} {v : ℕ} (n k : ℕ) → k + 1 < n → WireReads t v q → r ≡ drop 1 q → SlotReads t n k v r
slot-more {t} {q} {r} n k h f fr x ps s a z =
    let g : k < n = omega arith in
    let m : n - (k + 1) ≡ 0 → ⊥ = omega arith in
    let b = apart (wire_text x ∷ between (bytes ",") (n - (k + 1)) ∷ []) (slot-used n k x g) a in
    let (e, d) = f x _ (omega (arith, s.0 g)) b (between-stops (n - (k + 1)) ps z) in
    let i = ap length (between-some (bytes ",") (n - (k + 1)) m) in
    (e, pass d (fr ∙ ap (λ (j : ℕ). drop j q) (sym i)))

pub slot-last : {t q : List ℕ} {v : ℕ} (n k : ℕ) → k < n → n ≤ k + 1 → WireReads t v q → SlotReads t n k v q
unfolding joined
slot-last {t} {q} n k g h f x ps s a z =
    let m : n - (k + 1) ≡ 0 = omega arith in
    let b = apart (wire_text x ∷ between (bytes ",") (n - (k + 1)) ∷ []) (slot-used n k x g) a in
    let (e, d) = f x _ (omega (arith, s.0 g)) b (between-stops (n - (k + 1)) ps z) in
    (e, apart [] (between_none (bytes ",") (n - (k + 1)) m) d)

pub slot-none : {t : List ℕ} (n k : ℕ) → n ≤ k → SlotReads t n k 65535 t
unfolding joined
slot-none n k h x ps s a z = (sym (s.1 h), apart [] (slot-free n k x h) a)

-- ---- kinds

pub call-starts : {t : List ℕ} {ps : List (List ℕ)} (k : ℕ) → Ahead t ((primitive k).name ∷ bytes " [" ∷ ps) → Starts t 0 (joined (call_of k))
unfolding joined
call-starts {t} {ps} k a = starts-from t 0 _ (joined ps) (omega arith) (a.rest ∙ sym (append_assoc (primitive k).name (bytes " [") (joined ps)))

pub call-one : {t : List ℕ} {ps : List (List ℕ)} (j k : ℕ) → j ≤ 9 → k ≤ 9 → Starts t 0 (joined (call_of j)) → Ahead t ((primitive k).name ∷ bytes " [" ∷ ps) → j ≡ k
unfolding joined
call-one j k f g s a = (name-one j k _ _ f g (sym (append_assoc (primitive j).name (bytes " [") _) ∙ sym s.is ∙ a.rest)).0

-- ---- gates

gate-eq : (g : Gate) {k a b c o : ℕ} → k ≡ g.kind → a ≡ g.a → b ≡ g.b → c ≡ g.c → o ≡ g.out → ◌≡◌ {A = Gate} (record { kind = k; a = a; b = b; c = c; out = o }) g
gate-eq g e f h i j = rw (e, f, h, i, j)

stops-93 : (q : List ℕ) (ps : List (List ℕ)) → Stops ((93 ∷ q) ∷ ps)
unfolding joined
stops-93 q ps d = omega (arith, d.1)

-- what the reader of a kind promises
abbrev pub KindReads : List ℕ → ℕ → Type 0
KindReads t r = (k : ℕ) (ps : List (List ℕ)) → k ≤ 9 → Ahead t ((primitive k).name ∷ bytes " [" ∷ ps) → r ≡ k

pub gate-read : {t : List ℕ} {ps : List (List ℕ)} (g : Gate) → Fine 1536 0 g → Ahead t (gate_text g ∷ ps)
    → (k n w av bv cv ov : ℕ) (p an bn cn q on next : List ℕ)
    → KindReads t k → n ≡ inputs_of k → w ≡ length (primitive k).name → p ≡ drop (w + 2) t
    → SlotReads p n 0 av an → SlotReads an n 1 bv bn → SlotReads bn n 2 cv cn
    → q ≡ drop 3 cn → WireReads q ov on → next ≡ drop 1 on
    → (◌≡◌ {A = Gate} (record { kind = k; a = av; b = bv; c = cv; out = ov }) g) × Ahead next ps
gate-read {t} {ps} g f a k n w av bv cv ov p an bn cn q on next fk fn fw fp fa fb fc fq fo fnext =
    let b0 = apart (gate_of g) (gate-of g) a in
    let ek = fk g.kind _ f.kind b0 in
    let en : n ≡ inputs_of g.kind = fn ∙ ap inputs_of ek in
    let ew : w ≡ length (primitive g.kind).name = fw ∙ ap (λ (k : ℕ). length (primitive k).name) ek in
    let b1 = pass b0 refl in
    let ep : p ≡ drop 2 (drop (length (primitive g.kind).name) t) = fp ∙ ap (λ (j : ℕ). drop (j + 2) t) ew ∙ sym (drop-drop 2 (length (primitive g.kind).name) t) in
    let b2 = pass b1 ep in
    let b3 = apart (slots_of n g) (sym (slots-of g en)) b2 in
    let s0 = stops-93 (32 ∷ 91 ∷ []) (wire_text g.out ∷ (93 ∷ []) ∷ ps) in
    let s1 = slot-stops n 2 g.c _ s0 in
    let s2 = slot-stops n 1 g.b _ s1 in
    let (ea, b4) = fa g.a _ (subst (λ (m : ℕ). Slot m 1536 0 g.a) (sym en) f.a) b3 s2 in
    let (eb, b5) = fb g.b _ (subst (λ (m : ℕ). Slot m 1536 1 g.b) (sym en) f.b) b4 s1 in
    let (ec, b6) = fc g.c _ (subst (λ (m : ℕ). Slot m 1536 2 g.c) (sym en) f.c) b5 s0 in
    let b7 = pass b6 fq in
    let (eo, b8) = fo g.out _ (omega (arith, f.out)) b7 (stops-93 [] ps) in
    (gate-eq g ek ea eb ec eo, pass b8 fnext)

-- ---- for the code

-- the first i of the four were read, and all after the first are digits
pub data Sofar (a b c d : ℕ) : ℕ → ℕ → Type 0 where
  so-1 : {v : ℕ} → v ≡ a - 48 → Sofar a b c d 1 v
  so-2 : {v : ℕ} → Digit b → v ≡ 10 * (a - 48) + (b - 48) → Sofar a b c d 2 v
  so-3 : {v : ℕ} → Digit b → Digit c → v ≡ 100 * (a - 48) + 10 * (b - 48) + (c - 48) → Sofar a b c d 3 v
  so-4 : {v : ℕ} → Digit b → Digit c → Digit d → v ≡ 1000 * (a - 48) + 100 * (b - 48) + 10 * (c - 48) + (d - 48) → Sofar a b c d 4 v

pub sofar-most : {a b c d i v : ℕ} → Sofar a b c d i v → a - 48 < 256 → v < 300000
sofar-most (so-1 e) h = omega arith
sofar-most (so-2 x e) h = omega arith
sofar-most (so-3 x y e) h = omega arith
sofar-most (so-4 x y u e) h = omega arith

module _ (t : List ℕ) where
  abbrev pub SofarAt : ℕ → ℕ → Type 0
  SofarAt i v = Sofar (get_or t 0 0) (get_or t 1 0) (get_or t 2 0) (get_or t 3 0) i v

  abbrev pub ValueAt : ℕ → Type 0
  ValueAt v = Value (get_or t 0 0) (get_or t 1 0) (get_or t 2 0) (get_or t 3 0) v

  -- one digit more
  pub sofar_more : {i v r : ℕ} → SofarAt i v → i < 4 → Digit (get_or t i 0) → r ≡ 10 * v + (get_or t i 0 - 48) → SofarAt (i + 1) r
  sofar_more (so-1 e) h z f = so-2 z (omega arith)
  sofar_more (so-2 x e) h z f = so-3 x z (omega arith)
  sofar_more (so-3 x y e) h z f = so-4 x y z (omega arith)
  sofar_more (so-4 x y u e) h z f = absurd (omega arith)

  -- no digit stands next
  pub value_stop : {i v : ℕ} → SofarAt i v → i < 4 → (Digit (get_or t i 0) → ⊥) → ValueAt v
  value_stop (so-1 e) h z = rw e (one z)
  value_stop (so-2 x e) h z = rw e (two x z)
  value_stop (so-3 x y e) h z = rw e (three x y z)
  value_stop (so-4 x y u e) h z = absurd (omega arith)

  pub value_full : {i v : ℕ} → SofarAt i v → 4 ≤ i → ValueAt v
  value_full (so-1 e) h = absurd (omega arith)
  value_full (so-2 x e) h = absurd (omega arith)
  value_full (so-3 x y e) h = absurd (omega arith)
  value_full (so-4 x y u e) h = rw e (four x y u)

-- the first of the nine kinds whose call stands there, or none of them: then it is the last
pub kind-found : {t : List ℕ} {r : ℕ} (found : Option ℕ)
    → MatchOption found ((j : ℕ) → 0 ≤ j → j < 9 → Starts t 0 (joined (call_of j)) → ⊥)
    (λ i. (0 ≤ i) × (i < 9) × Starts t 0 (joined (call_of i)) × ((j : ℕ) → 0 ≤ j → j < i → Starts t 0 (joined (call_of j)) → ⊥))
    → r ≡ unwrap_or found 9 → KindReads t r
kind-found {t} {r} None f e k ps l a = go (dec_lt k 9)
  where
    go : Dec (k < 9) → r ≡ k
    go (yes i) = absurd (f k (omega arith) i (call-starts k a))
    go (no i) = omega arith
kind-found (Some i) f e k ps l a = e ∙ call-one i k (omega (arith, f.1)) l f.2 a
