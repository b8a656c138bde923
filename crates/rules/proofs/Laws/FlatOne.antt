-- No two well-formed netlists have one flat text: each piece of a text can be told from what follows it. Assumes nothing.
use Rattle.std.specs.Prelude.{◌≡◌, refl, Bool, true, false, cond, List, [], ◌∷◌, ◌++◌, get_or, leb}
use Rattle.std.proofs.Math.Path.{sym, ap, subst}
use Rattle.std.proofs.Common.{◌∙◌, append_assoc, lt-ltb, le-ltb, leb-true}
use Prim.Native.Nat.{ℕ, zero, suc, ◌+◌, ◌-◌, ◌*◌, ◌/◌, ◌%◌, ◌≤◌, ◌<◌}
use native.Mathlib.Omega.{arith}
use Rattle.std.proofs.Math.Decide.{dec_lt}
use Rattle.std.proofs.Math.ListN.{length, take}
use Rattle.std.proofs.Math.Seq.{length-take-le, get_or-take, ext_get_or}
use Rattle.rules.specs.declared.Gate.{Gate}
use Rattle.rules.specs.Text.{bytes, same, index_of, joined, pick}
use Rattle.rules.specs.Primitives.{primitive, primitive_names, inputs_of}
use Rattle.rules.specs.Netlist.{inputs, outputs, wires, gates, gate_at, inputs_at, Slot, Fine, WellFormed, records}
use Rattle.rules.specs.Flat.{decimal, between, wire_text, entry_text, ports_text, vars_text, wires_text, gate_text, gates_text, flat_text}

-- ---- lists

cons-one : {a b : ℕ} {l m : List ℕ} → a ∷ l ≡ b ∷ m → (a ≡ b) × (l ≡ m)
cons-one e = (cc, cc)

tails : {a b : ℕ} {l m : List ℕ} → a ∷ l ≡ b ∷ m → l ≡ m
tails e = (cons-one e).1

-- what stands after the same piece
after : (p : List ℕ) {q r : List ℕ} → p ++ q ≡ p ++ r → q ≡ r
after [] e = e
after (a ∷ p) e = after p (tails e)

data All (P : ℕ → Type 0) : List ℕ → Type 0 where
  none : All P []
  more : {b : ℕ} {l : List ℕ} → P b → All P l → All P (b ∷ l)

-- the list does not go on with such a byte
data Stop (P : ℕ → Type 0) : List ℕ → Type 0 where
  stop : {b : ℕ} {l : List ℕ} → (P b → ⊥) → Stop P (b ∷ l)

at-stop : {P : ℕ → Type 0} {b : ℕ} {l r : List ℕ} → P b → Stop P r → r ≡ b ∷ l → ⊥
at-stop {P} p (stop n) e = n (subst P (sym (cons-one e).0) p)

-- a run of such bytes ends where they stop
run-one : {P : ℕ → Type 0} {p q r s : List ℕ} → All P p → All P q → Stop P r → Stop P s → p ++ r ≡ q ++ s → (p ≡ q) × (r ≡ s)
run-one none none f g e = (refl, e)
run-one none (more x l) f g e = absurd (at-stop x f e)
run-one (more x l) none f g e = absurd (at-stop x g (sym e))
run-one (more x l) (more y m) f g e =
    let (h, t) = cons-one e in
    let (i, j) = run-one l m f g t in
    (rw (h, i), j)

-- pieces, and what stands after them
abbrev lay : List (List ℕ) → List ℕ → List ℕ
lay [] r = r
lay (p ∷ ps) r = p ++ lay ps r

laid : (ps : List (List ℕ)) (r : List ℕ) → joined ps ++ r ≡ lay ps r
unfolding joined
laid [] r = refl
laid (p ∷ ps) r = append_assoc p (joined ps) r ∙ ap (λ (l : List ℕ). p ++ l) (laid ps r)

-- ---- numbers

abbrev Digit : ℕ → Type 0
Digit b = (48 ≤ b) × (b < 58)

value : ℕ → List ℕ → ℕ
value v [] = v
value v (b ∷ l) = value (10 * v + (b - 48)) l

tens-3 : (m : ℕ) → 100 * (m / 100) + 10 * (m / 10 % 10) + m % 10 ≡ m
tens-3 m = omega arith

pub tens-4 : (n : ℕ) → 1000 * (n / 1000) + 100 * (n / 100 % 10) + 10 * (n / 10 % 10) + n % 10 ≡ n
tens-4 n =
    let e : n / 10 / 100 ≡ n / 1000 = omega arith in
    let f : n / 10 / 10 ≡ n / 100 = omega arith in
    let g : 100 * (n / 1000) + 10 * (n / 100 % 10) + n / 10 % 10 ≡ n / 10 = rw (← e, ← f) (tens-3 (n / 10)) in
    let h : 10 * (n / 10) + n % 10 ≡ n = omega arith in
    omega arith

pub decimal-1 : (n : ℕ) → n < 10 → decimal n ≡ (48 + n) ∷ []
unfolding decimal
decimal-1 n h = rw (lt-ltb _ _ h)

pub decimal-2 : (n : ℕ) → 10 ≤ n → n < 100 → decimal n ≡ (48 + n / 10) ∷ (48 + n % 10) ∷ []
unfolding decimal
decimal-2 n g h = rw (le-ltb _ _ g, lt-ltb _ _ h)

pub decimal-3 : (n : ℕ) → 100 ≤ n → n < 1000 → decimal n ≡ (48 + n / 100) ∷ (48 + n / 10 % 10) ∷ (48 + n % 10) ∷ []
unfolding decimal
decimal-3 n g h = let f : 10 ≤ n = omega arith in rw (le-ltb n 10 f, le-ltb n 100 g, lt-ltb n 1000 h)

pub decimal-4 : (n : ℕ) → 1000 ≤ n → decimal n ≡ (48 + n / 1000) ∷ (48 + n / 100 % 10) ∷ (48 + n / 10 % 10) ∷ (48 + n % 10) ∷ []
unfolding decimal
decimal-4 n g = let f : 10 ≤ n = omega arith in let h : 100 ≤ n = omega arith in rw (le-ltb n 10 f, le-ltb n 100 h, le-ltb n 1000 g)

-- the digits of a number, and its value
record Digits (n : ℕ) : Type 0 where
  digits : All Digit (decimal n)
  back : value 0 (decimal n) ≡ n

digit : (d : ℕ) → d < 10 → Digit (48 + d)
digit d h = (omega arith, omega arith)

digits_of : (n : ℕ) → n < 10000 → Digits n
unfolding value
digits_of n h = go (dec_lt n 10) (dec_lt n 100) (dec_lt n 1000)
  where
    go : Dec (n < 10) → Dec (n < 100) → Dec (n < 1000) → Digits n
    go (yes a) b c =
        let e = decimal-1 n a in
        record { digits = rw e (more (digit n a) none); back = rw e (omega arith) }
    go (no a) (yes b) c =
        let e = decimal-2 n (omega arith) b in
        record { digits = rw e (more (digit (n / 10) (omega arith)) (more (digit (n % 10) (omega arith)) none)); back = rw e (omega arith) }
    go (no a) (no b) (yes c) =
        let e = decimal-3 n (omega arith) c in
        record {
          digits = rw e (more (digit (n / 100) (omega arith)) (more (digit (n / 10 % 10) (omega arith)) (more (digit (n % 10) (omega arith)) none)));
          back = rw e (omega (arith, tens-3 n));
        }
    go (no a) (no b) (no c) =
        let e = decimal-4 n (omega arith) in
        record {
          digits = rw e (more (digit (n / 1000) (omega arith)) (more (digit (n / 100 % 10) (omega arith)) (more (digit (n / 10 % 10) (omega arith)) (more (digit (n % 10) (omega arith)) none))));
          back = rw e (omega (arith, tens-4 n));
        }

decimal-one : (x y : ℕ) {r s : List ℕ} → x < 10000 → y < 10000 → Stop Digit r → Stop Digit s → decimal x ++ r ≡ decimal y ++ s → (x ≡ y) × (r ≡ s)
decimal-one x y h g f k e =
    let a = digits_of x h in
    let b = digits_of y g in
    let (i, j) = run-one a.digits b.digits f k e in
    (sym a.back ∙ ap (value 0) i ∙ b.back, j)

wire-laid : (n : ℕ) (r : List ℕ) → wire_text n ++ r ≡ 119 ∷ (decimal n ++ r)
unfolding wire_text
wire-laid n r = laid (bytes "w" ∷ decimal n ∷ []) r

wire-one : (x y : ℕ) {r s : List ℕ} → x < 10000 → y < 10000 → Stop Digit r → Stop Digit s → wire_text x ++ r ≡ wire_text y ++ s → (x ≡ y) × (r ≡ s)
wire-one x y {r} {s} h g f k e = decimal-one x y h g f k (tails (sym (wire-laid x r) ∙ e ∙ wire-laid y s))

-- ---- ports and other wires

entry-laid : (n : ℕ) (r : List ℕ) → entry_text n ++ r ≡ 119 ∷ (decimal n ++ (bytes ":WIRE" ++ r))
unfolding entry_text
entry-laid n r = laid (wire_text n ∷ bytes ":WIRE" ∷ []) r ∙ wire-laid n (bytes ":WIRE" ++ r)

ports-laid : (s n : ℕ) (r : List ℕ) → ports_text s (suc n) ++ r ≡ entry_text s ++ (between (bytes ",") n ++ (ports_text (suc s) n ++ r))
unfolding ports_text
ports-laid s n r = laid (entry_text s ∷ between (bytes ",") n ∷ ports_text (suc s) n ∷ []) r

differ : {a b : ℕ} {l m : List ℕ} {X : Type 0} → (a ≡ b → ⊥) → a ∷ l ≡ b ∷ m → X
differ n e = absurd (n (cons-one e).0)

-- a comma stands exactly where a port follows
ports-next : (s n m : ℕ) (q r : List ℕ) → between (bytes ",") n ++ (ports_text s n ++ q) ≡ between (bytes ",") m ++ (ports_text s m ++ r) → ports_text s n ++ q ≡ ports_text s m ++ r
unfolding ports_text between
ports-next s zero zero q r e = e
ports-next s zero (suc m) q r e = differ {a = 93} {b = 44} (omega arith) e
ports-next s (suc n) zero q r e = differ {a = 44} {b = 93} (omega arith) e
ports-next s (suc n) (suc m) q r e = tails e

ports-one : (s n m : ℕ) (q r : List ℕ) → ports_text s n ++ q ≡ ports_text s m ++ r → (n ≡ m) × (q ≡ r)
unfolding ports_text between
ports-one s zero zero q r e = (refl, after (bytes "]\n") e)
ports-one s zero (suc m) q r e = differ {a = 93} {b = 119} (omega arith) (e ∙ ports-laid s m r ∙ entry-laid s _)
ports-one s (suc n) zero q r e = differ {a = 93} {b = 119} (omega arith) (sym e ∙ ports-laid s n q ∙ entry-laid s _)
ports-one s (suc n) (suc m) q r e =
    let d = after (entry_text s) (sym (ports-laid s n q) ∙ e ∙ ports-laid s m r) in
    let (i, j) = ports-one (suc s) n m q r (ports-next (suc s) n m q r d) in
    (ap suc i, j)

vars-laid : (s n : ℕ) (r : List ℕ) → vars_text s (suc n) ++ r ≡ bytes "VAR " ++ (entry_text s ++ (bytes ";\n" ++ (vars_text (suc s) n ++ r)))
unfolding vars_text
vars-laid s n r = laid (bytes "VAR " ∷ entry_text s ∷ bytes ";\n" ∷ vars_text (suc s) n ∷ []) r

vars-one : (s n m : ℕ) (q r : List ℕ) → vars_text s n ++ (bytes "BEGIN\n" ++ q) ≡ vars_text s m ++ (bytes "BEGIN\n" ++ r) → (n ≡ m) × (q ≡ r)
unfolding vars_text
vars-one s zero zero q r e = (refl, after (bytes "BEGIN\n") e)
vars-one s zero (suc m) q r e = differ {a = 66} {b = 86} (omega arith) (e ∙ vars-laid s m _)
vars-one s (suc n) zero q r e = differ {a = 66} {b = 86} (omega arith) (sym e ∙ vars-laid s n _)
vars-one s (suc n) (suc m) q r e =
    let d = after (entry_text s) (after (bytes "VAR ") (sym (vars-laid s n _) ∙ e ∙ vars-laid s m _)) in
    let (i, j) = vars-one (suc s) n m q r (after (bytes ";\n") d) in
    (ap suc i, j)

-- ---- gates

wires-laid : (x : ℕ) (xs r : List ℕ) → wires_text (x ∷ xs) ++ r ≡ wire_text x ++ (between (bytes ",") (length xs) ++ (wires_text xs ++ r))
unfolding wires_text
wires-laid x xs r = laid (wire_text x ∷ between (bytes ",") (length xs) ∷ wires_text xs ∷ []) r

Small : ℕ → Type 0
Small x = x < 10000

stop-93 : {l : List ℕ} → Stop Digit (93 ∷ l)
stop-93 = stop (λ (d : Digit 93). omega (arith, d.1))

wires-stop : (xs r : List ℕ) → Stop Digit (between (bytes ",") (length xs) ++ (wires_text xs ++ 93 ∷ r))
unfolding between wires_text
wires-stop [] r = stop-93
wires-stop (x ∷ xs) r = stop (λ (d : Digit 44). omega (arith, d.0))

wires-next : (xs ys q r : List ℕ) → between (bytes ",") (length xs) ++ (wires_text xs ++ 93 ∷ q) ≡ between (bytes ",") (length ys) ++ (wires_text ys ++ 93 ∷ r)
    → wires_text xs ++ 93 ∷ q ≡ wires_text ys ++ 93 ∷ r
unfolding between wires_text
wires-next [] [] q r e = e
wires-next [] (y ∷ ys) q r e = differ {a = 93} {b = 44} (omega arith) e
wires-next (x ∷ xs) [] q r e = differ {a = 44} {b = 93} (omega arith) e
wires-next (x ∷ xs) (y ∷ ys) q r e = tails e

wires-one : (xs ys q r : List ℕ) → All Small xs → All Small ys → wires_text xs ++ 93 ∷ q ≡ wires_text ys ++ 93 ∷ r → (xs ≡ ys) × (q ≡ r)
unfolding between wires_text Small
wires-one [] [] q r f g e = (refl, tails e)
wires-one [] (y ∷ ys) q r f g e = differ {a = 93} {b = 119} (omega arith) (e ∙ wires-laid y ys _ ∙ wire-laid y _)
wires-one (x ∷ xs) [] q r f g e = differ {a = 93} {b = 119} (omega arith) (sym e ∙ wires-laid x xs _ ∙ wire-laid x _)
wires-one (x ∷ xs) (y ∷ ys) q r (more h f) (more k g) e =
    let (i, j) = wire-one x y h k (wires-stop xs q) (wires-stop ys r) (sym (wires-laid x xs _) ∙ e ∙ wires-laid y ys _) in
    let (l, m) = wires-one xs ys q r f g (wires-next xs ys q r j) in
    (rw (i, l), m)

-- the letters of names
Letter : ℕ → Type 0
Letter b = 97 ≤ b

lettered : List ℕ → Bool
lettered [] = true
lettered (b ∷ l) = cond (leb 97 b) (lettered l) false

both : (a b : Bool) → cond a b false ≡ true → (a ≡ true) × (b ≡ true)
both true b e = (refl, e)
both false b e = let z : ◌≡◌ {A = ℕ} 0 1 = cc in absurd (omega arith)

letters-of : (l : List ℕ) → lettered l ≡ true → All Letter l
unfolding lettered Letter
letters-of [] e = none
letters-of (b ∷ l) e = let (h, g) = both (leb 97 b) (lettered l) e in more (leb-true 97 b h) (letters-of l g)

record Named (k : ℕ) : Type 0 where
  letters : All Letter (primitive k).name
  row : index_of (primitive k).name primitive_names ≡ k
  first : get_or (primitive k).name 0 0 ≡ 69 → ⊥
  some : 0 < length (primitive k).name

named : (k : ℕ) → k ≤ 9 → Named k
unfolding primitive pick index_of same lettered
named zero h = record { letters = letters-of _ refl; row = refl; first = λ e. omega arith; some = omega arith }
named (suc (zero)) h = record { letters = letters-of _ refl; row = refl; first = λ e. omega arith; some = omega arith }
named (suc (suc (zero))) h = record { letters = letters-of _ refl; row = refl; first = λ e. omega arith; some = omega arith }
named (suc (suc (suc (zero)))) h = record { letters = letters-of _ refl; row = refl; first = λ e. omega arith; some = omega arith }
named (suc (suc (suc (suc (zero))))) h = record { letters = letters-of _ refl; row = refl; first = λ e. omega arith; some = omega arith }
named (suc (suc (suc (suc (suc (zero)))))) h = record { letters = letters-of _ refl; row = refl; first = λ e. omega arith; some = omega arith }
named (suc (suc (suc (suc (suc (suc (zero))))))) h = record { letters = letters-of _ refl; row = refl; first = λ e. omega arith; some = omega arith }
named (suc (suc (suc (suc (suc (suc (suc (zero)))))))) h = record { letters = letters-of _ refl; row = refl; first = λ e. omega arith; some = omega arith }
named (suc (suc (suc (suc (suc (suc (suc (suc (zero))))))))) h = record { letters = letters-of _ refl; row = refl; first = λ e. omega arith; some = omega arith }
named (suc (suc (suc (suc (suc (suc (suc (suc (suc (zero)))))))))) h = record { letters = letters-of _ refl; row = refl; first = λ e. omega arith; some = omega arith }
named (suc (suc (suc (suc (suc (suc (suc (suc (suc (suc k)))))))))) h = absurd (omega arith)

stop-32 : {l : List ℕ} → Stop Letter (32 ∷ l)
unfolding Letter
stop-32 = stop (λ (d : Letter 32). omega (arith, d))

-- a gate and what stands after it
gate-laid : (g : Gate) (r : List ℕ) → gate_text g ++ r ≡ (primitive g.kind).name ++ (bytes " [" ++ (wires_text (inputs_at g) ++ (bytes "] [" ++ (wire_text g.out ++ (bytes "]" ++ r)))))
unfolding gate_text
gate-laid g r = laid ((primitive g.kind).name ∷ bytes " [" ∷ wires_text (inputs_at g) ∷ bytes "] [" ∷ wire_text g.out ∷ bytes "]" ∷ []) r

small-take : (n a b c : ℕ) → (0 < n → a < 10000) → (1 < n → b < 10000) → (2 < n → c < 10000) → All Small (take n (a ∷ b ∷ c ∷ []))
unfolding Small
small-take zero a b c f g h = none
small-take (suc zero) a b c f g h = more (f (omega arith)) none
small-take (suc (suc zero)) a b c f g h = more (f (omega arith)) (more (g (omega arith)) none)
small-take (suc (suc (suc n))) a b c f g h = more (f (omega arith)) (more (g (omega arith)) (more (h (omega arith)) (small-nil n)))
  where
    small-nil : (n : ℕ) → All Small (take n [])
    small-nil zero = none
    small-nil (suc n) = none

same-take : (n a b c x y z ws vs : ℕ) → Slot n ws 0 a → Slot n ws 1 b → Slot n ws 2 c → Slot n vs 0 x → Slot n vs 1 y → Slot n vs 2 z
    → take n (a ∷ b ∷ c ∷ []) ≡ take n (x ∷ y ∷ z ∷ []) → (a ≡ x) × (b ≡ y) × (c ≡ z)
same-take zero a b c x y z ws vs f g h i j k e = (f.1 (omega arith) ∙ sym (i.1 (omega arith)), g.1 (omega arith) ∙ sym (j.1 (omega arith)), h.1 (omega arith) ∙ sym (k.1 (omega arith)))
same-take (suc zero) a b c x y z ws vs f g h i j k e = (cc, g.1 (omega arith) ∙ sym (j.1 (omega arith)), h.1 (omega arith) ∙ sym (k.1 (omega arith)))
same-take (suc (suc zero)) a b c x y z ws vs f g h i j k e = (cc, cc, h.1 (omega arith) ∙ sym (k.1 (omega arith)))
same-take (suc (suc (suc n))) a b c x y z ws vs f g h i j k e = (cc, cc, cc)

gate-is : (g h : Gate) → g.kind ≡ h.kind → g.a ≡ h.a → g.b ≡ h.b → g.c ≡ h.c → g.out ≡ h.out → g ≡ h
gate-is g h e f i j k = rw (e, f, i, j, k)

fine-small : {ws ins : ℕ} (g : Gate) → ws ≤ 1536 → Fine ws ins g → All Small (inputs_at g)
fine-small g l f = small-take (inputs_of g.kind) g.a g.b g.c (λ h. omega (arith, f.a.0 h)) (λ h. omega (arith, f.b.0 h)) (λ h. omega (arith, f.c.0 h))

-- a name ends at its blank, and no two kinds have one name
pub name-one : (j k : ℕ) (q r : List ℕ) → j ≤ 9 → k ≤ 9 → (primitive j).name ++ 32 ∷ q ≡ (primitive k).name ++ 32 ∷ r → (j ≡ k) × (32 ∷ q ≡ 32 ∷ r)
name-one j k q r f g e =
    let a = named j f in
    let b = named k g in
    let (en, t) = run-one a.letters b.letters stop-32 stop-32 e in
    (sym a.row ∙ ap (λ (w : List ℕ). index_of w primitive_names) en ∙ b.row, t)

gate-one : {ws vs ins jns : ℕ} (g h : Gate) (q r : List ℕ) → ws ≤ 1536 → vs ≤ 1536 → Fine ws ins g → Fine vs jns h → gate_text g ++ q ≡ gate_text h ++ r → (g ≡ h) × (q ≡ r)
gate-one {ws} {vs} {ins} {jns} g h q r l m f i e =
    let (ek, t) = name-one g.kind h.kind _ _ f.kind i.kind (sym (gate-laid g q) ∙ e ∙ gate-laid h r) in
    let (ei, u) = wires-one (inputs_at g) (inputs_at h) _ _ (fine-small g l f) (fine-small h m i) (after (bytes " [") t) in
    let (eo, v) = wire-one g.out h.out (omega (arith, f.out)) (omega (arith, i.out)) stop-93 stop-93 (after (bytes " [") u) in
    let n = inputs_of h.kind in
    let es = same-take n g.a g.b g.c h.a h.b h.c ws vs (rw ek at f.a) (rw ek at f.b) (rw ek at f.c) i.a i.b i.c (rw ek at ei) in
    (gate-is g h ek es.0 es.1 es.2 eo, tails v)

gates-laid : (w : List ℕ) (i n : ℕ) (r : List ℕ) → gates_text w i (suc n) ++ r ≡ gate_text (gate_at w i) ++ (between (bytes ";") n ++ (bytes "\n" ++ (gates_text w (suc i) n ++ r)))
unfolding gates_text
gates-laid w i n r = laid (gate_text (gate_at w i) ∷ between (bytes ";") n ∷ bytes "\n" ∷ gates_text w (suc i) n ∷ []) r

-- no name begins with the E of END
name-first : (l q r : List ℕ) → 0 < length l → (get_or l 0 0 ≡ 69 → ⊥) → 69 ∷ q ≡ l ++ r → ⊥
name-first [] q r h n e = omega arith
name-first (b ∷ l) q r h n e = n (sym (cons-one e).0)

pub gate-first : {ws ins : ℕ} (g : Gate) (q r : List ℕ) → Fine ws ins g → 69 ∷ q ≡ gate_text g ++ r → ⊥
gate-first g q r f e = let a = named g.kind f.kind in name-first (primitive g.kind).name _ _ a.some a.first (e ∙ gate-laid g r)

lines_next : (n m : ℕ) {q r : List ℕ} → between (bytes ";") n ++ (bytes "\n" ++ q) ≡ between (bytes ";") m ++ (bytes "\n" ++ r) → q ≡ r
unfolding between
lines_next zero zero e = tails e
lines_next zero (suc m) e = differ {a = 10} {b = 59} (omega arith) e
lines_next (suc n) zero e = differ {a = 59} {b = 10} (omega arith) e
lines_next (suc n) (suc m) e = tails (tails e)

module _ (u v : List ℕ) (wu : WellFormed u) (wv : WellFormed v) where
  gates-one : (n m i : ℕ) → i + n ≡ gates u → i + m ≡ gates v → gates_text u i n ++ bytes "END;\n" ≡ gates_text v i m ++ bytes "END;\n"
      → (n ≡ m) × ((j : ℕ) → i ≤ j → j < i + n → gate_at u j ≡ gate_at v j)
  unfolding gates_text
  gates-one zero zero i f g e = (refl, λ j h k. absurd (omega arith))
  gates-one zero (suc m) i f g e = absurd (gate-first (gate_at v i) _ _ (wv.fine i (omega arith)) (e ∙ gates-laid v i m _))
  gates-one (suc n) zero i f g e = absurd (gate-first (gate_at u i) _ _ (wu.fine i (omega arith)) (sym e ∙ gates-laid u i n _))
  gates-one (suc n) (suc m) i f g e =
      let (h, t) = gate-one (gate_at u i) (gate_at v i) _ _ wu.few-wires wv.few-wires (wu.fine i (omega arith)) (wv.fine i (omega arith)) (sym (gates-laid u i n _) ∙ e ∙ gates-laid v i m _) in
      let (k, l) = gates-one n m (suc i) (omega arith) (omega arith) (lines_next n m t) in
      (ap suc k, λ j a b. at-or j (dec_lt i j) h l a b)
    where
      at-or : (j : ℕ) → Dec (i < j) → gate_at u i ≡ gate_at v i → ((j : ℕ) → suc i ≤ j → j < suc i + n → gate_at u j ≡ gate_at v j) → i ≤ j → j < i + suc n → gate_at u j ≡ gate_at v j
      at-or j (yes d) h l a b = l j (omega arith) (omega arith)
      at-or j (no d) h l a b = let e : i ≡ j = omega arith in subst (λ (k : ℕ). gate_at u k ≡ gate_at v k) e h

  record Alike : Type 0 where
    ins : inputs u ≡ inputs v
    outs : outputs u ≡ outputs v
    wirs : wires u ≡ wires v
    gats : gates u ≡ gates v
    each : (j : ℕ) → j < gates u → gate_at u j ≡ gate_at v j

  alike : flat_text u ≡ flat_text v → Alike
  unfolding flat_text joined
  alike e =
      let (ei, a) = ports-one 0 (inputs u) (inputs v) _ _ (after (bytes "BLOCK main\n[") e) in
      let (eo, b) = ports-one (inputs v) (outputs u) (outputs v) _ _ (rw ei at (after (bytes "[") a)) in
      let (ew, c) = vars-one (inputs v + outputs v) (wires u - (inputs v + outputs v)) (wires v - (inputs v + outputs v)) _ _ (rw eo at b) in
      let (eg, d) = gates-one (gates u) (gates v) 0 (omega arith) (omega arith) c in
      record { ins = ei; outs = eo; wirs = omega (arith, wu.ports, wv.ports); gats = eg; each = λ j h. d j (omega arith) (omega arith) }

  -- a word of a record
  word-one : (j k : ℕ) → gate_at u j ≡ gate_at v j → k < 5 → get_or u (4 + 5 * j + k) 0 ≡ get_or v (4 + 5 * j + k) 0
  word-one j zero e h = let f : 4 + 5 * j + 0 ≡ 4 + 5 * j = omega arith in rw f (ap (λ (g : Gate). g.kind) e)
  word-one j (suc zero) e h = ap (λ (g : Gate). g.a) e
  word-one j (suc (suc zero)) e h = ap (λ (g : Gate). g.b) e
  word-one j (suc (suc (suc zero))) e h = ap (λ (g : Gate). g.c) e
  word-one j (suc (suc (suc (suc zero)))) e h = ap (λ (g : Gate). g.out) e
  word-one j (suc (suc (suc (suc (suc k))))) e h = absurd (omega arith)

  words-one : Alike → (i : ℕ) → i < 4 + 5 * gates u → get_or u i 0 ≡ get_or v i 0
  words-one a zero h = a.ins
  words-one a (suc zero) h = a.outs
  words-one a (suc (suc zero)) h = a.wirs
  words-one a (suc (suc (suc zero))) h = a.gats
  words-one a (suc (suc (suc (suc i)))) h =
      let e : suc (suc (suc (suc i))) ≡ 4 + 5 * (i / 5) + i % 5 = omega arith in
      rw e (word-one (i / 5) (i % 5) (a.each (i / 5) (omega arith)) (omega arith))

  records-one : Alike → records u ≡ records v
  unfolding records
  records-one a =
      let n = 4 + 5 * gates u in
      let l : length (take n u) ≡ n = length-take-le n u wu.records in
      let m : length (take n v) ≡ n = length-take-le n v (omega (arith, a.gats, wv.records)) in
      ext_get_or 0 (take n u) (take n v) (l ∙ sym m) (λ i h. let k : i < n = omega arith in get_or-take n u i 0 k ∙ words-one a i k ∙ sym (get_or-take n v i 0 k))
      ∙ ap (λ (g : ℕ). take (4 + 5 * g) v) a.gats

-- no two well-formed netlists have one text
pub flat-one : (u v : List ℕ) → WellFormed u → WellFormed v → flat_text u ≡ flat_text v → records u ≡ records v
flat-one u v wu wv e = records-one u v wu wv (alike u v wu wv e)
