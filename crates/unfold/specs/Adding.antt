-- A call of a primitive: one gate more. Assumes nothing.
use Rattle.std.specs.Prelude.{◌≡◌, refl, ℕ, zero, suc, ◌<◌, List, [], ◌∷◌, ◌++◌, map, length, get_or, T, eqb}
use Rattle.std.proofs.Common.{sym, ap, ◌∙◌, arith, eqb→eq}
use Rattle.std.proofs.lemmas.List.{length-map}
use Rattle.rules.specs.Outcome.{Out, ok, refuse, ◌>>=◌}
use Rattle.rules.specs.Primitives.{inputs_of}
use Rattle.rules.specs.Syntax.{Exp, Arg}
use Rattle.rules.specs.Values.{Env, evals}
use Rattle.rules.specs.Frames.{Frame as Names, resolves, singles, ends}
use Rattle.rules.specs.Unfold.{Range, Wires, State, emit, gate_on}
use Rattle.rules.proofs.Laws.Outcomes.{both_yes, no_ok}
use Rattle.rules.proofs.Laws.Same.{Ends as Fitting, ends-yes}
use Rattle.frames.specs.declared.Frame.{Frame}
use Rattle.frames.specs.Laid.{column-at}
use Rattle.frames.specs.declared.Vector.{Vector}
use Rattle.frames.specs.Stands.{no_vector}
use Rattle.frames.specs.Lists.{Drawn}
use Rattle.gates.specs.Shows.{Ends}
use Rattle.unfold.specs.Entering.{WrittenCall, Collected, blank, gathered, given_of, names-given}

-- generics, every subscript, then the gate: 17, 18
abbrev pub added : ℕ → ℕ → Env → Names Range → List (Exp ℕ) → List (Arg ℕ) → State → Out State
added nin k ρ σ gs args v = do
  vs ← evals ρ gs
  rs ← resolves Wires ρ σ args
  _ ← ends Wires k rs
  emit nin (gate_on k (map (λ r. r.base) rs)) v

-- the wires found are the ends of a primitive of kind k
pub record Fits (k : ℕ) (ρ : Env) (σ : Names Range) (args : List (Arg ℕ)) : Type 0 where
  pub fits : (rs : List Range) → resolves Wires ρ σ args ≡ ok rs → ends Wires k rs ≡ ok tt

pub record WrittenGate (t : List ℕ) (at end : ℕ) (f : Frame) (k : ℕ) : Type 0 where
  pub call : WrittenCall t at end f
  pub fits : Fits k call.env call.names (call.inputs ++ call.outputs)

-- the lowest wires of what is given
abbrev pub base_r : Range → ℕ
base_r r = r.base

bases : (rs : List Range) (j : ℕ) → (get_or (map given_of rs) j no_vector).base ≡ get_or (map base_r rs) j 0
bases [] j = refl
bases (r ∷ rs) zero = refl
bases (r ∷ rs) (suc j) = bases rs j

out_below : (rs : List Range) (j : ℕ) → j < length rs → Drawn rs → T (singles Wires rs) → get_or (map base_r rs) j 0 < 1536
unfolding Drawn singles
out_below [] j h d t = absurd (omega arith)
out_below (r ∷ rs) zero h d t = omega (arith, d.0, eqb→eq r.len 1 (both_yes (eqb r.len 1) (singles Wires rs) t).0)
out_below (r ∷ rs) (suc j) h d t = out_below rs j (omega arith) d.1 (both_yes (eqb r.len 1) (singles Wires rs) t).1

module _ {k : ℕ} {ρ : Env} {σ : Names Range} {gs : List (Exp ℕ)} {args : List (Arg ℕ)} {n m : ℕ} {g : Frame} (c : Collected ρ σ gs args 0 n m blank g) (f : Fits k ρ σ args) where
  fitting : Fitting k c.wires
  fitting = ends-yes k c.wires (f.fits c.wires c.resolves)

  pub gate-ends : Ends g.names (map base_r c.wires)
  gate-ends = record { is = λ j h. ap (λ (t : List Vector). (get_or t j no_vector).base) (names-given c) ∙ ap (λ (v : Vector). v.base) (column-at 48 no_vector (map given_of c.wires) j h) ∙ bases c.wires j }

  pub gate-many : inputs_of k < length (map base_r c.wires)
  gate-many = omega (arith, fitting.count, length-map c.wires base_r)

  pub gate-out : (gate_on k (map base_r c.wires)).out < 1536
  unfolding gate_on
  gate-out = out_below c.wires (inputs_of k) (omega (arith, fitting.count)) c.draws.drawn fitting.single

  pub added_is : (nin : ℕ) (s : State) → added nin k ρ σ gs args s ≡ emit nin (gate_on k (map base_r c.wires)) s
  unfolding ◌>>=◌
  added_is nin s = rw (c.evals, c.resolves, f.fits c.wires c.resolves)

split : {A B X : Type 0} (o : Out A) (q : Out B) (K : A → B → Out X) {k : ℕ} → ◌≡◌ {A = Out (A × B)} (o >>= λ a. q >>= λ b. ok (a, b)) (refuse k 0) → (o >>= λ a. q >>= λ b. K a b) ≡ refuse k 0
unfolding ◌>>=◌
split (ok a) (ok b) K e = absurd (no_ok (sym e))
split (ok a) (refuse n p) K {k} e = let x : n ≡ k = cc in let y : p ≡ 0 = cc in rw (x, y)
split (refuse n p) q K {k} e = let x : n ≡ k = cc in let y : p ≡ 0 = cc in rw (x, y)

pub added-first : (nin k : ℕ) (ρ : Env) (σ : Names Range) (gs : List (Exp ℕ)) (args : List (Arg ℕ)) (s : State) {n : ℕ} → gathered ρ σ gs args ≡ refuse n 0 → added nin k ρ σ gs args s ≡ refuse n 0
added-first nin k ρ σ gs args s e = split (evals ρ gs) (resolves Wires ρ σ args) (λ vs rs. ends Wires k rs >>= λ _. emit nin (gate_on k (map (λ r. r.base) rs)) s) e
