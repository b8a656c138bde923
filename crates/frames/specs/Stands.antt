-- What the code's frame stands for: an environment, and the wires of each name. Assumes nothing.
use Rattle.std.specs.Prelude.{◌≡◌, refl, ℕ, zero, suc, ◌+◌, ◌≤◌, ◌<◌, cond, List, [], ◌∷◌, map, length, get_or, set, ℤ, pos, eqb}
use Rattle.std.proofs.Common.{sym, ap, ◌∙◌, arith, get_or-set_same, get_or-set_other, eq-eqb, ne_eqb}
use Rattle.std.proofs.Math.Decide.{ℕ_discrete}
use Rattle.rules.specs.Outcome.{ok, nth}
use Rattle.rules.specs.Syntax.{Exp, number, name, neg, group, both, Sort, wire, vector, num}
use Rattle.rules.specs.Values.{Env, generics, bound, ranged, eval, shape}
use Rattle.rules.specs.Frames.{Sig, Frame as Names}
use Rattle.rules.specs.Unfold.{Range}
use Rattle.rules.proofs.Laws.Spelt.{AllExp, AllSort}
use Rattle.values.specs.Factors.{Grouped}
use Rattle.values.specs.Sizes.{GroupedSort}
use Rattle.frames.specs.declared.Vector.{Vector}
use Rattle.frames.specs.declared.Frame.{Frame}
use Rattle.frames.specs.Laid.{column, column-at}

-- ---- values: below 48 they are those of the environment, and no expression looks further

pub record Knows (vs : List ℤ) (ρ : Env) : Type 0 where
  pub is : (k : ℕ) → k < 48 → get_or vs k (pos 0) ≡ ρ k

pub eval-knows : {vs : List ℤ} {ρ : Env} (l : ℕ) (e : Exp ℕ) → Knows vs ρ → Grouped l e → eval (generics vs) e ≡ eval ρ e
unfolding eval AllExp
eval-knows l (number n) h p = refl
eval-knows l (name i) h p = ap ranged (h.is i p)
eval-knows l (neg e) h p = rw (eval-knows 0 e h p)
eval-knows l (group e) h p = eval-knows 2 e h p
eval-knows l (both op d e) h p = rw (eval-knows _ d h p.1, eval-knows _ e h p.2)

pub shape-knows : {vs : List ℤ} {ρ : Env} (s : Sort ℕ) → Knows vs ρ → GroupedSort s → shape (generics vs) s ≡ shape ρ s
unfolding shape AllSort
shape-knows wire h p = refl
shape-knows (vector a b) h p = rw (eval-knows 2 a h p.0, eval-knows 2 b h p.1)
shape-knows num h p = refl

-- the generics given
pub knows-generics : (vs : List ℤ) → Knows (column 48 (pos 0) vs) (generics vs)
knows-generics vs = record { is = λ k h. column-at 48 (pos 0) vs k h }

pub knows-bound : {vs : List ℤ} {ρ : Env} (i : ℕ) (v : ℤ) → length vs ≡ 48 → i < 48 → Knows vs ρ → Knows (set vs i v) (bound ρ i v)
knows-bound {vs} {ρ} i v l b h = record { is = λ k q. go k q (ℕ_discrete i k) }
  where
    go : (k : ℕ) → k < 48 → Dec (i ≡ k) → get_or (set vs i v) k (pos 0) ≡ cond (eqb i k) v (ρ k)
    go k q (yes e) = rw (eq-eqb i k e, ← e) (get_or-set_same vs i v (pos 0) (omega arith))
    go k q (no e) = rw (ne_eqb i k e) (get_or-set_other vs i k v (pos 0) (λ f. e (sym f)) ∙ h.is k q)

-- ---- names

abbrev pub base_of : Sig Range → ℕ
base_of x = x.cells.base

abbrev pub len_of : Sig Range → ℕ
len_of x = x.cells.len

abbrev pub low_of : Sig Range → ℤ
low_of x = x.low

-- a name's wires, as the code holds them
abbrev pub vector_of : Sig Range → Vector
vector_of x = record { base = x.cells.base; len = x.cells.len; low = x.low }

-- what a place holds that is not filled
abbrev pub no_vector : Vector
no_vector = record { base = 0; len = 0; low = pos 0 }

-- the columns of what the code holds
abbrev pub bases : List Vector → List ℕ
bases vs = map (λ (v : Vector). v.base) vs

abbrev pub lens : List Vector → List ℕ
lens vs = map (λ (v : Vector). v.len) vs

abbrev pub lows : List Vector → List ℤ
lows vs = map (λ (v : Vector). v.low) vs

same : (v w : Vector) → v.base ≡ w.base → v.len ≡ w.len → v.low ≡ w.low → v ≡ w
same v w x y z = ap (λ n. record { base = n; len = v.len; low = v.low }) x ∙ (ap (λ n. record { base = w.base; len = n; low = v.low }) y ∙ ap (λ n. record { base = w.base; len = w.len; low = n }) z)

-- rows are the same where their columns are
pub rows-same : (vs ws : List Vector) → bases vs ≡ bases ws → lens vs ≡ lens ws → lows vs ≡ lows ws → vs ≡ ws
rows-same [] [] e f g = refl
rows-same [] (w ∷ ws) e f g = cc
rows-same (v ∷ vs) [] e f g = cc
rows-same (v ∷ vs) (w ∷ ws) e f g =
    let x : v.base ≡ w.base = cc in
    let y : v.len ≡ w.len = cc in
    let z : v.low ≡ w.low = cc in
    let b : bases vs ≡ bases ws = cc in
    let l : lens vs ≡ lens ws = cc in
    let o : lows vs ≡ lows ws = cc in
    let h : v ≡ w = same v w x y z in
    rw (h, rows-same vs ws b l o) refl

abbrev pub sig_of : Vector → Sig Range
sig_of v = record { low = v.low; cells = record { base = v.base; len = v.len } }

-- every wire of a name is one of the 1,536
unfoldable pub Inside : Names Range → Type 0
Inside [] = Unit {0}
Inside (x ∷ σ) = (base_of x + len_of x ≤ 1536) × Inside σ

pub record Stands (f : Frame) (ρ : Env) (σ : Names Range) : Type 0 where
  pub value : Knows f.values ρ
  pub full : length f.values ≡ 48
  pub names : f.names ≡ column 48 no_vector (map vector_of σ)
  pub few : length σ ≤ 48
  pub inside : Inside σ

-- the k-th name
abbrev pub vector_at : Frame → ℕ → Vector
vector_at f k = get_or f.names k no_vector

nth-is : (σ : Names Range) (k : ℕ) → k < length σ → nth 7 σ k ≡ ok (sig_of (get_or (map vector_of σ) k no_vector))
unfolding nth
nth-is [] k h = absurd (omega arith)
nth-is (x ∷ σ) zero h = refl
nth-is (x ∷ σ) (suc k) h = nth-is σ k (omega arith)

inside-at : (σ : Names Range) (k : ℕ) → k < length σ → Inside σ → (get_or (map vector_of σ) k no_vector).base + (get_or (map vector_of σ) k no_vector).len ≤ 1536
unfolding Inside
inside-at [] k h i = absurd (omega arith)
inside-at (x ∷ σ) zero h i = i.0
inside-at (x ∷ σ) (suc k) h i = inside-at σ k (omega arith) i.1

module _ {f : Frame} {ρ : Env} {σ : Names Range} (s : Stands f ρ σ) (k : ℕ) (h : k < length σ) where
  pub name-is : nth 7 σ k ≡ ok (sig_of (vector_at f k))
  name-is = let l : k < 48 = omega (arith, s.few) in rw (s.names, column-at 48 no_vector (map vector_of σ) k l) (nth-is σ k h)

  pub name-inside : (vector_at f k).base + (vector_at f k).len ≤ 1536
  name-inside = let l : k < 48 = omega (arith, s.few) in rw (s.names, column-at 48 no_vector (map vector_of σ) k l) (inside-at σ k h s.inside)
