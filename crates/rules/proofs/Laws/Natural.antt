-- Names stand for bits as they stand for wires: the bits of a name are those on its wires, at every step of Frames. Assumes nothing.
use Rattle.std.specs.Prelude.{◌≡◌, ℕ, zero, suc, ◌+◌, ◌≤◌, ◌<◌, ◌&&◌, length, get_or, T, ltb, eqb}
use Rattle.std.proofs.Math.Path.{refl, ap}
use Rattle.std.proofs.Common.{sym, ap₂, ◌∙◌, arith, ltb→lt, eqb→eq}
use mathlib.Core.List.{List, [], ◌∷◌, map}
use Rattle.std.proofs.lemmas.List.{length-map}
use lib.IntN.{◌-ℤ◌}
use Rattle.rules.specs.Outcome.{ok, need, nth}
use Rattle.rules.specs.Primitives.{inputs_of, table}
use Rattle.rules.specs.Syntax.{Name, Arg, whole, part, Decl}
use Rattle.rules.specs.Values.{Env, eval, shape}
use Rattle.rules.specs.Frames.{Sig, Frame, offset, blanks, resolve, resolves, tie, singles, ends}
use Rattle.rules.specs.Unfold.{Range, Wires}
use Rattle.rules.specs.Meaning.{Signal, Bits, bit, carried}
use Rattle.rules.proofs.Laws.Outcomes.{ok-inj, map_out, map-ok, nat-bind, nat-same, nat-need, nat-nth, both_yes}
use Rattle.rules.proofs.Laws.Carried.{Load, Agree, agree-below, carried-length, carried-at, carried-one}

-- the bits on a range of wires
abbrev pub read : Load → Range → List Signal
read w r = carried w r.base r.len

abbrev pub view : Load → Sig Range → Sig (List Signal)
view w x = record { low = x.low; cells = read w x.cells }

pub nat-blanks : (w : Load) (ns : List Name) → map (view w) (blanks Wires ns) ≡ blanks Bits ns
unfolding blanks carried
nat-blanks w [] = refl
nat-blanks w (n ∷ ns) = ap (λ l. record { low = lib.IntN.pos 0; cells = [] } ∷ l) (nat-blanks w ns)

module _ (w : Load) (ρ : Env) where
  nat-resolve : (σ : Frame Range) (a : Arg ℕ) → resolve Bits ρ (map (view w) σ) a ≡ map_out (read w) (resolve Wires ρ σ a)
  unfolding resolve map_out
  nat-resolve σ (whole n) = rw nat-nth (nat-bind (view w) (read w) (nth 7 σ n) _ _ (λ x. refl))
  nat-resolve σ (part n e) =
      rw nat-nth
      (nat-bind (view w) (read w) (nth 7 σ n) _ _ λ x.
      nat-same (read w) (eval ρ e) _ _ λ v.
      nat-same (read w) (offset (v -ℤ x.low)) _ _ λ k.
      nat-need (read w) _ _ 12 _ _ (ap (ltb k) (carried-length w x.cells.base x.cells.len))
      λ h. ap (λ b. ok (b ∷ [])) (carried-at w x.cells.base x.cells.len k (ltb→lt _ _ h)) ∙ ap ok (carried-one w (x.cells.base + k)))

  pub nat-resolves : (σ : Frame Range) (args : List (Arg ℕ)) → resolves Bits ρ (map (view w) σ) args ≡ map_out (map (read w)) (resolves Wires ρ σ args)
  unfolding resolves map_out
  nat-resolves σ [] = refl
  nat-resolves σ (a ∷ args) =
      rw nat-resolve
      (nat-bind (read w) (map (read w)) (resolve Wires ρ σ a) _ _ λ c.
      rw (nat-resolves σ args)
      (nat-bind (map (read w)) (map (read w)) (resolves Wires ρ σ args) _ _ (λ cs. refl)))

  pub nat-tie : (ds : List (Decl ℕ)) (rs : List Range) → tie Bits ρ ds (map (read w) rs) ≡ map_out (map (view w)) (tie Wires ρ ds rs)
  unfolding tie map_out
  nat-tie [] [] = refl
  nat-tie [] (r ∷ rs) = refl
  nat-tie (d ∷ ds) [] = refl
  nat-tie (d ∷ ds) (r ∷ rs) =
      nat-same (map (view w)) (shape ρ d.sort) _ _ λ h.
      nat-need (map (view w)) _ _ 13 _ _ (ap (eqb h.size) (carried-length w r.base r.len)) λ p.
      rw (nat-tie ds rs)
      (nat-bind (map (view w)) (map (view w)) (tie Wires ρ ds rs) _ _ (λ σ. refl))

-- ---- what depends on the wires below n alone

abbrev pub Fixed : ℕ → Frame Range → Type 0
Fixed n σ = (w v : Load) → Agree n w v → map (view w) σ ≡ map (view v) σ

abbrev pub FixedR : ℕ → List Range → Type 0
FixedR n rs = (w v : Load) → Agree n w v → map (read w) rs ≡ map (read v) rs

pub fixed-above : {n m : ℕ} (σ : Frame Range) → n ≤ m → Fixed n σ → Fixed m σ
fixed-above σ h fx w v a = fx w v (agree-below h a)

pub fixed-resolves : (ρ : Env) {n : ℕ} (σ : Frame Range) → Fixed n σ → (args : List (Arg ℕ)) {rs : List Range} → resolves Wires ρ σ args ≡ ok rs → FixedR n rs
fixed-resolves ρ σ fx args e w v a =
    ok-inj (sym (map-ok (map (read w)) (nat-resolves w ρ σ args) e) ∙ ap (λ β. resolves Bits ρ β args) (fx w v a) ∙ map-ok (map (read v)) (nat-resolves v ρ σ args) e)

pub fixed-tie : (ρ : Env) {n : ℕ} (ds : List (Decl ℕ)) (rs : List Range) {σ : Frame Range} → FixedR n rs → tie Wires ρ ds rs ≡ ok σ → Fixed n σ
fixed-tie ρ ds rs fx e w v a =
    ok-inj (sym (map-ok (map (view w)) (nat-tie w ρ ds rs) e) ∙ ap (tie Bits ρ ds) (fx w v a) ∙ map-ok (map (view v)) (nat-tie v ρ ds rs) e)

-- ---- the ends of a primitive

nat-singles : (w : Load) (rs : List Range) → singles Bits (map (read w) rs) ≡ singles Wires rs
unfolding singles
nat-singles w [] = refl
nat-singles w (r ∷ rs) = ap₂ ◌&&◌ (ap (λ n. eqb n 1) (carried-length w r.base r.len)) (nat-singles w rs)

pub nat-ends : (w : Load) (k : ℕ) (rs : List Range) → ends Bits k (map (read w) rs) ≡ ends Wires k rs
unfolding ends
nat-ends w k rs = ap₂ (λ l c. need (ltb k (length table) && eqb l (suc (inputs_of k)) && c) 8) (length-map rs (read w)) (nat-singles w rs)

single-bit : (w : Load) (r : Range) → T (eqb r.len 1) → bit (read w r) ≡ w r.base
single-bit w r t = carried-at w r.base r.len 0 (omega (arith, eqb→eq r.len 1 t)) ∙ ap w (omega arith)

pub single-bits : (w : Load) (rs : List Range) → T (singles Wires rs) → map bit (map (read w) rs) ≡ map w (map (λ r. r.base) rs)
unfolding singles
single-bits w [] t = refl
single-bits w (r ∷ rs) t = let (a, b) = both_yes (eqb r.len 1) (singles Wires rs) t in ap₂ ◌∷◌ (single-bit w r a) (single-bits w rs b)

pub single-at : (w : Load) (rs : List Range) (n : ℕ) → n < length rs → T (singles Wires rs) → bit (get_or (map (read w) rs) n []) ≡ w (get_or (map (λ r. r.base) rs) n 0)
unfolding singles
single-at w [] n h t = absurd (omega arith)
single-at w (r ∷ rs) zero h t = single-bit w r (both_yes (eqb r.len 1) (singles Wires rs) t).0
single-at w (r ∷ rs) (suc n) h t = single-at w rs n (omega arith) (both_yes (eqb r.len 1) (singles Wires rs) t).1
