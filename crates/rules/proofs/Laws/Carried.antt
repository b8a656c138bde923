-- What wires carry: assignments that agree below a wire, and assignments with chosen values on fresh wires. Assumes nothing.
use Rattle.std.specs.Prelude.{◌≡◌, refl, ℕ, zero, suc, ◌+◌, ◌≤◌, ◌<◌, Bool, true, false, cond, List, [], ◌∷◌, ◌++◌, map, length, get_or, T, eqb}
use Rattle.std.proofs.Common.{sym, ap, ap₂, ◌∙◌, arith, eqb→eq}
use Rattle.std.proofs.Math.Dec.{eqb_refl}
use Rattle.rules.specs.Meaning.{Signal, dark, carried}

-- what each wire carries
abbrev pub Load : Type 0
Load = ℕ → Signal

abbrev pub Agree : ℕ → Load → Load → Type 0
Agree n w v = (i : ℕ) → i < n → w i ≡ v i

pub agree-below : {n m : ℕ} {w v : Load} → n ≤ m → Agree m w v → Agree n w v
agree-below h a i k = a i (omega arith)

pub carried-agree : {w v : Load} (b n m : ℕ) → b + n ≤ m → Agree m w v → carried w b n ≡ carried v b n
unfolding carried
carried-agree b zero m h a = refl
carried-agree b (suc n) m h a = ap₂ ◌∷◌ (a b (omega arith)) (carried-agree (suc b) n m (omega arith) a)

pub carried-one : (w : Load) (b : ℕ) → w b ∷ [] ≡ carried w b 1
unfolding carried
carried-one w b = refl

pub carried-length : (w : Load) (b n : ℕ) → length (carried w b n) ≡ n
unfolding carried
carried-length w b zero = refl
carried-length w b (suc n) = ap suc (carried-length w (suc b) n)

pub carried-at : (w : Load) (b n k : ℕ) → k < n → get_or (carried w b n) k dark ≡ w (b + k)
unfolding carried
carried-at w b zero k h = absurd (omega arith)
carried-at w b (suc n) zero h = ap w (omega arith)
carried-at w b (suc n) (suc k) h = carried-at w (suc b) n k (omega arith) ∙ ap w (omega arith)

pub carried-append : (w : Load) (b n m : ℕ) → carried w b (n + m) ≡ carried w b n ++ carried w (b + n) m
unfolding carried
carried-append w b zero m = let l : 0 + m ≡ m = omega arith in let r : b ≡ b + 0 = omega arith in ap (carried w b) l ∙ ap (λ c. carried w c m) r
carried-append w b (suc n) m =
    ap (carried w b) eq ∙ ap (λ l. w b ∷ l) (carried-append w (suc b) n m ∙ ap (λ c. carried w (suc b) n ++ carried w c m) (omega arith))
  where
    eq : suc n + m ≡ suc (n + m)
    eq = omega arith

pub carried-split : (w : Load) (b : ℕ) (p q : List Signal) → carried w b (length (p ++ q)) ≡ p ++ q → (carried w b (length p) ≡ p) × (carried w (b + length p) (length q) ≡ q)
unfolding carried
carried-split w b [] q e = (refl, ap (λ n. carried w n (length q)) (omega arith) ∙ e)
carried-split w b (x ∷ p) q e =
    let h : w b ≡ x = cc in
    let t : carried w (suc b) (length (p ++ q)) ≡ p ++ q = cc in
    let (l, r) = carried-split w (suc b) p q t in
    (ap₂ ◌∷◌ h l, ap (λ n. carried w n (length q)) (omega arith) ∙ r)

pub append_inj : {A : Type 0} (a b c d : List A) → length a ≡ length b → a ++ c ≡ b ++ d → (a ≡ b) × (c ≡ d)
append_inj [] [] c d l e = (refl, e)
append_inj [] (y ∷ b) c d l e = absurd (omega arith)
append_inj (x ∷ a) [] c d l e = absurd (omega arith)
append_inj (x ∷ a) (y ∷ b) c d l e =
    let h : x ≡ y = cc in
    let t : a ++ c ≡ b ++ d = cc in
    let (p, q) = append_inj a b c d (omega arith) t in
    (ap₂ ◌∷◌ h p, q)

-- ---- chosen values on fresh wires

pick_yes : {A : Type 0} (c : Bool) (x y : A) → T c → cond c x y ≡ x
pick_yes true x y t = refl
pick_yes false x y t = absurd t

pick_no : {A : Type 0} (c : Bool) (x y : A) → (T c → ⊥) → cond c x y ≡ y
pick_no true x y f = absurd (f tt)
pick_no false x y f = refl

-- w, with xs from wire b on
pub over : Load → ℕ → List Signal → Load
over w b [] = w
over w b (x ∷ xs) = λ i. cond (eqb i b) x (over w (suc b) xs i)

pub over_agree : (w : Load) (b : ℕ) (xs : List Signal) → Agree b w (over w b xs)
unfolding over
over_agree w b [] i h = refl
over_agree w b (x ∷ xs) i h = over_agree w (suc b) xs i (omega arith) ∙ sym (pick_no (eqb i b) x _ (λ t. omega (arith, eqb→eq i b t)))

past : (v : Load) (b : ℕ) (x : Signal) (c n : ℕ) → b < c → carried (λ i. cond (eqb i b) x (v i)) c n ≡ carried v c n
unfolding carried
past v b x c zero h = refl
past v b x c (suc n) h = ap₂ ◌∷◌ (pick_no (eqb c b) x _ (λ t. omega (arith, eqb→eq c b t))) (past v b x (suc c) n (omega arith))

pub over-read : (w : Load) (b : ℕ) (xs : List Signal) → carried (over w b xs) b (length xs) ≡ xs
unfolding over carried
over-read w b [] = refl
over-read w b (x ∷ xs) = ap₂ ◌∷◌ (pick_yes (eqb b b) x _ (eqb_refl b)) (past (over w (suc b) xs) b x (suc b) (length xs) (omega arith) ∙ over-read w (suc b) xs)

pub map-append : {A B : Type 0} (f : A → B) (xs ys : List A) → map f (xs ++ ys) ≡ map f xs ++ map f ys
map-append f [] ys = refl
map-append f (x ∷ xs) ys = ap (λ l. f x ∷ l) (map-append f xs ys)
