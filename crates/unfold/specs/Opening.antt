-- A call of a block: the frame of its body. Assumes nothing.
use Rattle.std.specs.Prelude.{◌≡◌, refl, ℕ, suc, ◌+◌, ◌≤◌, List, [], ◌∷◌, ◌++◌, map, length, replicate, ℤ, pos, Result, Ok, Err}
use Rattle.std.proofs.Common.{sym, ap, ◌∙◌, arith, length-append}
use Rattle.rules.specs.Outcome.{Out, ok, refuse, ◌>>=◌}
use Rattle.rules.specs.Syntax.{Exp, Arg, Decl, Block, Callee}
use Rattle.rules.specs.Values.{Env, generics, evals}
use Rattle.rules.specs.Frames.{Sig, Frame as Names, blanks, resolves}
use Rattle.rules.specs.Unfold.{Range, Wires, State, declare}
use Rattle.rules.proofs.Laws.Outcomes.{no_ok, ok-inj, inv, inv_at, refused, went}
use Rattle.frames.specs.declared.Frame.{Frame}
use Rattle.frames.specs.Laid.{laid, column, column-length}
use Rattle.frames.specs.Stands.{Stands, Knows, knows-generics}
use Rattle.frames.specs.Fresh.{Filled, up_to}
use Rattle.unfold.specs.declared.Opened.{Opened}
use Rattle.rules.specs.declared.Reason.{Reason}
use Rattle.rules.specs.Reasons.{number as number_of}
use Rattle.unfold.specs.Header.{HereBlock, after_locals, body_w}
use Rattle.unfold.specs.Entering.{WrittenCall, gathered, entered, Offers, Collected, blank, tied-many, blank-many, names-given}

-- ---- how many there are

pub resolves-many : (ρ : Env) (σ : Names Range) (args : List (Arg ℕ)) {rs : List Range} → resolves Wires ρ σ args ≡ ok rs → length rs ≡ length args
unfolding resolves
resolves-many ρ σ [] e = ap length (sym (ok-inj e))
resolves-many ρ σ (a ∷ args) e = inv _ _ e λ r _ e₁. inv _ _ e₁ λ rs er e₂. ap length (sym (ok-inj e₂)) ∙ ap suc (resolves-many ρ σ args er)

pub declare-many : (ρ : Env) (ds : List (Decl ℕ)) (σ : Names Range) (s : State) {r : Names Range × State} → declare ρ ds σ s ≡ ok r → length r.0 ≡ length σ + length ds
unfolding declare
declare-many ρ [] σ s e = rw (← (ok-inj e)) (omega arith)
declare-many ρ (d ∷ ds) σ s e =
    inv_at _ _ _ e λ h _ e₁.
    inv_at _ _ _ e₁ λ _ _ e₂.
    let x : Sig Range = record { low = h.low; cells = record { base = s.next; len = h.size } } in
    omega (arith, declare-many ρ ds _ _ e₂, length-append σ (x ∷ []))

entered-many : (ρ : Env) (B : Block ℕ Callee) (rs : List Range) (s : State) {r : Names Range × State} → entered ρ B rs s ≡ ok r → length r.0 ≡ length B.generics + length rs + length B.locals
entered-many ρ B rs s e =
    inv _ _ e λ τ eτ e₁.
    omega (arith, declare-many ρ B.locals (blanks Wires B.generics ++ τ) s e₁, length-append (blanks Wires B.generics) τ, blank-many B.generics, tied-many ρ (B.inputs ++ B.outputs) rs eτ)

-- ---- the frame

same : {A : Type 0} (xs : List A) → map (λ x. x) xs ≡ xs
same [] = refl
same (x ∷ xs) = ap (λ l. x ∷ l) (same xs)

pub frame-stands : {t : List ℕ} {place end : ℕ} {B : Block ℕ Callee} → HereBlock t place end B → (vs : List ℤ) (rs : List Range) (s : State) {σ : Names Range} {w k : ℕ} {f : Frame}
    → length B.inputs + length B.outputs ≡ length rs → entered (generics vs) B rs s ≡ ok (σ, up_to s w) → f.values ≡ laid (replicate 48 (pos 0)) 0 (map (λ v. v) vs) → Filled σ k f.names
    → Stands f (generics vs) σ
frame-stands {B = B} h vs rs s {f = f} n e u g =
    let c : f.values ≡ column 48 (pos 0) vs = u ∙ ap (column 48 (pos 0)) (same vs) in
    record {
      value = rw c (knows-generics vs);
      full = ap length c ∙ column-length 48 (pos 0) vs;
      names = g.names;
      few = omega (arith, entered-many (generics vs) B rs s e, n, h.few);
      inside = g.inside;
    }

-- ---- the whole call, up to the body

abbrev pub opened : Env → Names Range → List (Exp ℕ) → List (Arg ℕ) → Block ℕ Callee → State → Out (List ℤ × (Names Range × State))
opened ρ σ gs args B s = do
  vs ← evals ρ gs
  rs ← resolves Wires ρ σ args
  r ← entered (generics vs) B rs s
  ok (vs, r)

pub record Open (ρ : Env) (σ : Names Range) (gs : List (Exp ℕ)) (args : List (Arg ℕ)) (B : Block ℕ Callee) (s : State) (place b e w : ℕ) (f : Frame) : Type 0 where
  pub values : List ℤ
  pub names : Names Range
  pub is : opened ρ σ gs args B s ≡ ok (values, (names, up_to s w))
  pub stands : Stands f (generics values) names
  pub wires : w ≤ 1536
  pub first : b ≡ after_locals place B + 1
  pub last : e ≡ b + length (body_w B.body)

unfoldable pub Opens : Env → Names Range → List (Exp ℕ) → List (Arg ℕ) → Block ℕ Callee → State → ℕ → Result Opened Reason → Type 0
Opens ρ σ gs args B s place (Ok r) = Open ρ σ gs args B s place r.body.at r.body.end r.wires r.frame
Opens ρ σ gs args B s place (Err e) = (p : ℕ) × (opened ρ σ gs args B s ≡ refuse (number_of e) p)

again : {A B : Type 0} {n p k : ℕ} → ◌≡◌ {A = Out A} (refuse n p) (refuse k 0) → ◌≡◌ {A = Out B} (refuse n p) (refuse k 0)
again {A} {B} {n} {p} {k} e = let q : n ≡ k = cc in let r : p ≡ 0 = cc in rw (q, r)

abbrev pair : {A B : Type 0} → Out A → Out B → Out (A × B)
pair o q = do
  a ← o
  b ← q
  ok (a, b)

split : {A B X : Type 0} (o : Out A) (q : Out B) (K : A → B → Out X) {k : ℕ} → pair o q ≡ refuse k 0 → (o >>= λ a. q >>= λ b. K a b) ≡ refuse k 0
unfolding ◌>>=◌
split (ok a) (ok b) K e = absurd (no_ok (sym e))
split (ok a) (refuse n p) K e = again e
split (refuse n p) q K e = again e

module _ (ρ : Env) (σ : Names Range) (gs : List (Exp ℕ)) (args : List (Arg ℕ)) (B : Block ℕ Callee) (s : State) where
  pub opened-first : {k : ℕ} → gathered ρ σ gs args ≡ refuse k 0 → opened ρ σ gs args B s ≡ refuse k 0
  opened-first e = split (evals ρ gs) (resolves Wires ρ σ args) (λ vs rs. entered (generics vs) B rs s >>= λ r. ok (vs, r)) e

  pub opened-then : {vs : List ℤ} {rs : List Range} {k p : ℕ} → evals ρ gs ≡ ok vs → resolves Wires ρ σ args ≡ ok rs → entered (generics vs) B rs s ≡ refuse k p → opened ρ σ gs args B s ≡ refuse k p
  unfolding ◌>>=◌
  opened-then e f g = rw (e, f) (refused _ g)

  pub opened-ok : {vs : List ℤ} {rs : List Range} {r : Names Range × State} → evals ρ gs ≡ ok vs → resolves Wires ρ σ args ≡ ok rs → entered (generics vs) B rs s ≡ ok r → opened ρ σ gs args B s ≡ ok (vs, r)
  unfolding ◌>>=◌
  opened-ok e f g = rw (e, f) (went _ g)

-- a call with as many arguments as the block has ports
pub record WrittenOpen (t : List ℕ) (at end place last : ℕ) (f : Frame) : Type 0 where
  pub call : WrittenCall t at end f
  pub block : Block ℕ Callee
  pub here : HereBlock t place last block
  pub many : length block.inputs + length block.outputs ≡ length (call.inputs ++ call.outputs)

-- the wires that were found are offered to the ports
pub offers-of : {ρ : Env} {σ : Names Range} {gs : List (Exp ℕ)} {args : List (Arg ℕ)} {to k m : ℕ} {f : Frame} (B : Block ℕ Callee)
    (c : Collected ρ σ gs args to k m blank f) → to ≡ length B.generics → length B.inputs + length B.outputs ≡ length args → Offers B c.wires f.names
offers-of {ρ} {σ} {args = args} B c p n = record {
  many = n ∙ sym (resolves-many ρ σ args c.resolves);
  drawn = c.draws.drawn;
  names = names-given c ∙ rw p;
}

-- the values that were stored are the generics
pub known_of : (vs : List ℤ) {v : List ℤ} → v ≡ laid (replicate 48 (pos 0)) 0 (map (λ v. v) vs) → Knows v (generics vs)
known_of vs u = rw (u, same vs) (knows-generics vs)
