-- The names of a use suit the roles of their block: what is a wire has one wire. Assumes nothing.
use Rattle.std.specs.Prelude.{◌≡◌, refl, ℕ, zero, suc, ◌<◌, Bool, true, false, ◌&&◌, length, get_or, replicate, T, ltb, eqb}
use Rattle.std.proofs.Common.{sym, ◌∙◌, subst, arith, lt→ltb, eqb→eq}
use Rattle.std.proofs.Math.Path.{ap}
use mathlib.Core.List.{List, [], ◌∷◌, ◌++◌, map, append-nil, append_assoc}
use Rattle.std.proofs.Math.Dec.{eqb_refl}
use Rattle.rules.specs.Outcome.{ok, nth}
use Rattle.rules.specs.Primitives.{table, inputs_of}
use Rattle.rules.specs.Syntax.{Name, Sort, wire, vector, num, Arg, whole, part, Decl, Block, Callee}
use Rattle.rules.specs.Names.{Role, a-generic, a-wire, is_wire, role_of}
use Rattle.rules.specs.Values.{Env, Shape, shape}
use Rattle.rules.specs.Frames.{Sig, Frame, blanks, resolve, resolves, tie, singles, ends}
use Rattle.rules.specs.Unfold.{Range, Wires, State, declare}
use Rattle.rules.proofs.Laws.Carried.{map-append}
use Rattle.rules.proofs.Laws.Outcomes.{no_ok, ok-inj, inv, inv_at, need-yes, yes-need}
use Rattle.rules.proofs.Laws.Scoped.{roles, ports_of, names_of, ArgOk, ArgsOk}

-- a WIRE has one wire
shape_one : (ρ : Env) (t : Sort ℕ) {h : Shape} → shape ρ t ≡ ok h → T (is_wire (role_of t)) → h.size ≡ 1
unfolding shape role_of is_wire
shape_one ρ wire e t = ap (λ h. h.size) (sym (ok-inj e))
shape_one ρ (vector a b) e t = absurd t
shape_one ρ num e t = absurd t

-- ---- names that suit their roles: what is a wire has one

unfoldable pub Suits : Frame Range → List Role → Type 0
Suits [] [] = Unit {0}
Suits [] (r ∷ E) = ⊥
Suits (x ∷ σ) [] = ⊥
Suits (x ∷ σ) (r ∷ E) = (T (is_wire r) → x.cells.len ≡ 1) × Suits σ E

suits-append : (σ τ : Frame Range) (E F : List Role) → Suits σ E → Suits τ F → Suits (σ ++ τ) (E ++ F)
unfolding Suits
suits-append [] τ [] F p q = q
suits-append [] τ (r ∷ E) F p q = absurd p
suits-append (x ∷ σ) τ [] F p q = absurd p
suits-append (x ∷ σ) τ (r ∷ E) F p q = (p.0, suits-append σ τ E F p.1 q)

suits-blanks : (ns : List Name) → Suits (blanks Wires ns) (map (λ n. a-generic) ns)
unfolding Suits blanks is_wire
suits-blanks [] = tt
suits-blanks (n ∷ ns) = ((λ t. absurd t), suits-blanks ns)

pub suits-nth : (σ : Frame Range) (E : List Role) (k : ℕ) → Suits σ E → k < length E → (x : Sig Range) × (nth 7 σ k ≡ ok x) × (T (is_wire (get_or E k a-generic)) → x.cells.len ≡ 1)
unfolding Suits nth
suits-nth [] [] k p h = absurd (omega arith)
suits-nth [] (r ∷ E) k p h = absurd p
suits-nth (x ∷ σ) [] k p h = absurd p
suits-nth (x ∷ σ) (r ∷ E) zero p h = (x, refl, p.0)
suits-nth (x ∷ σ) (r ∷ E) (suc k) p h = suits-nth σ E k p.1 (omega arith)

-- wires that suit the roles wanted
unfoldable pub Sized : List Role → List Range → Type 0
Sized [] [] = Unit {0}
Sized [] (r ∷ rs) = ⊥
Sized (w ∷ ws) [] = ⊥
Sized (w ∷ ws) (r ∷ rs) = (T (is_wire w) → r.len ≡ 1) × Sized ws rs

module _ (ρ : Env) (σ : Frame Range) (E : List Role) (suits : Suits σ E) where
  resolve-sized : (w : Role) (a : Arg ℕ) {r : Range} → ArgOk E w a → resolve Wires ρ σ a ≡ ok r → T (is_wire w) → r.len ≡ 1
  unfolding resolve ArgOk
  resolve-sized w (whole k) h e t =
      inv _ _ e λ x ex e₁.
      let (y, ey, one) = suits-nth σ E k suits h.0 in
      ap (λ r. r.len) (sym (ok-inj e₁)) ∙ ap (λ x. x.cells.len) (ok-inj (sym ex ∙ ey)) ∙ one (h.1 t)
  resolve-sized w (part k x) h e t =
      inv _ _ e λ _ _ e₁.
      inv _ _ e₁ λ _ _ e₂.
      inv _ _ e₂ λ _ _ e₃.
      inv _ _ e₃ λ _ _ e₄.
      ap (λ r. r.len) (sym (ok-inj e₄))

  pub resolves-sized : (ws : List Role) (args : List (Arg ℕ)) {rs : List Range} → ArgsOk E ws args → resolves Wires ρ σ args ≡ ok rs → Sized ws rs
  unfolding resolves ArgsOk Sized
  resolves-sized [] [] h e = rw (← (ok-inj e)) tt
  resolves-sized [] (a ∷ args) h e = absurd h
  resolves-sized (w ∷ ws) [] h e = absurd h
  resolves-sized (w ∷ ws) (a ∷ args) h e =
      inv _ _ e λ c ec e₁.
      inv _ _ e₁ λ cs es e₂.
      rw (← (ok-inj e₂)) (resolve-sized w a h.0 ec, resolves-sized ws args h.1 es)

-- ---- a primitive's ends

yes_and : (a b : Bool) → T a → T b → T (a && b)
yes_and true b x y = y
yes_and false b x y = x

wires-single : (n : ℕ) (rs : List Range) → Sized (replicate n a-wire) rs → (length rs ≡ n) × T (singles Wires rs)
unfolding Sized singles is_wire
wires-single zero [] z = (refl, tt)
wires-single zero (r ∷ rs) z = absurd z
wires-single (suc n) [] z = absurd z
wires-single (suc n) (r ∷ rs) z =
    let (l, t) = wires-single n rs z.1 in
    (ap suc l, yes_and (eqb r.len 1) (singles Wires rs) (subst (λ k. T (eqb k 1)) (sym (z.0 tt)) tt) t)

pub ends-fit : (k : ℕ) (rs : List Range) → k < 10 → Sized (replicate (suc (inputs_of k)) a-wire) rs → ends Wires k rs ≡ ok tt
unfolding ends
ends-fit k rs h z =
    let (l, t) = wires-single (suc (inputs_of k)) rs z in
    yes-need _ 8 (yes_and (ltb k (length table) && eqb (length rs) (suc (inputs_of k))) (singles Wires rs) (yes_and (ltb k (length table)) (eqb (length rs) (suc (inputs_of k))) (lt→ltb k 10 h) (subst (λ n. T (eqb n (suc (inputs_of k)))) (sym l) (eqb_refl (suc (inputs_of k))))) t)

-- ---- ports and locals

suits-one : (r : Role) (x : Sig Range) → (T (is_wire r) → x.cells.len ≡ 1) → Suits (x ∷ []) (r ∷ [])
unfolding Suits
suits-one r x h = (h, tt)

-- a block's names are its generics, its ports and its locals
named-all : (B : Block ℕ Callee) → (map (λ n. a-generic) B.generics ++ ports_of B) ++ roles B.locals ≡ names_of B
named-all B =
    append_assoc (map (λ n. a-generic) B.generics) (ports_of B) (roles B.locals)
    ∙ ap (λ l. map (λ n. a-generic) B.generics ++ l) (sym (map-append (λ d. role_of d.sort) (B.inputs ++ B.outputs) B.locals))

named-main : (B : Block ℕ Callee) → ((map (λ n. a-generic) B.generics ++ roles B.inputs) ++ roles B.outputs) ++ roles B.locals ≡ names_of B
named-main B =
    ap (λ l. l ++ roles B.locals) (append_assoc (map (λ n. a-generic) B.generics) (roles B.inputs) (roles B.outputs) ∙ ap (λ l. map (λ n. a-generic) B.generics ++ l) (sym (map-append (λ d. role_of d.sort) B.inputs B.outputs)))
    ∙ named-all B

tie-suits : (ρ : Env) (ds : List (Decl ℕ)) (rs : List Range) {τ : Frame Range} → tie Wires ρ ds rs ≡ ok τ → Suits τ (roles ds)
unfolding tie Suits
tie-suits ρ [] [] e = rw (← (ok-inj e)) tt
tie-suits ρ [] (r ∷ rs) e = absurd (no_ok e)
tie-suits ρ (d ∷ ds) [] e = absurd (no_ok e)
tie-suits ρ (d ∷ ds) (r ∷ rs) e =
    inv _ _ e λ h eh e₁.
    inv _ _ e₁ λ _ t e₂.
    inv _ _ e₂ λ τ et e₃.
    rw (← (ok-inj e₃)) ((λ w. sym (eqb→eq h.size r.len (need-yes _ _ t)) ∙ shape_one ρ d.sort eh w), tie-suits ρ ds rs et)

declare-suits : (ρ : Env) (ds : List (Decl ℕ)) (σ : Frame Range) (s : State) (E : List Role) {r : Frame Range × State} → Suits σ E → declare ρ ds σ s ≡ ok r → Suits r.0 (E ++ roles ds)
unfolding declare
declare-suits ρ [] σ s E u e = rw (← (ok-inj e)) (subst (Suits σ) (sym (append-nil E)) u)
declare-suits ρ (d ∷ ds) σ s E {r} u e =
    inv_at _ _ _ e λ h eh e₁.
    inv_at _ _ _ e₁ λ _ _ e₂.
    subst (Suits r.0) (append_assoc E (role_of d.sort ∷ []) (roles ds))
    (declare-suits ρ ds _ _ (E ++ (role_of d.sort ∷ [])) (suits-append σ _ E _ u (suits-one (role_of d.sort) _ (shape_one ρ d.sort eh))) e₂)

-- the names of a block that is entered, and those of main
pub entered-suits : (ρ : Env) (B : Block ℕ Callee) (rs : List Range) (s : State) {τ : Frame Range} {r : Frame Range × State} → tie Wires ρ (B.inputs ++ B.outputs) rs ≡ ok τ
    → declare ρ B.locals (blanks Wires B.generics ++ τ) s ≡ ok r → Suits r.0 (names_of B)
entered-suits ρ B rs s {τ} {r} et er =
    subst (Suits r.0) (named-all B) (declare-suits ρ B.locals _ _ (map (λ n. a-generic) B.generics ++ ports_of B) (suits-append _ τ _ (ports_of B) (suits-blanks B.generics) (tie-suits ρ (B.inputs ++ B.outputs) rs et)) er)

pub main-suits : (ρ : Env) (M : Block ℕ Callee) (s : State) {i o l : Frame Range × State} → declare ρ M.inputs (blanks Wires M.generics) s ≡ ok i → declare ρ M.outputs i.0 i.1 ≡ ok o
    → declare ρ M.locals o.0 o.1 ≡ ok l → Suits l.0 (names_of M)
main-suits ρ M s {i} {o} {l} ei eo el =
    subst (Suits l.0) (named-main M)
    (declare-suits ρ M.locals _ _ _ (declare-suits ρ M.outputs _ _ _ (declare-suits ρ M.inputs _ _ (map (λ n. a-generic) M.generics) (suits-blanks M.generics) ei) eo) el)
