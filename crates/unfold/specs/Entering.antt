-- A call of a block, up to its body: generics, arguments, ports, locals. Assumes nothing.
use Rattle.std.specs.Prelude.{◌≡◌, refl, ℕ, suc, ◌+◌, ◌≤◌, List, [], ◌∷◌, ◌++◌, map, length, get_or, replicate, ℤ, pos, Result, Ok, Err}
use Rattle.std.proofs.Common.{sym, ap, ◌∙◌, subst, arith, length-append}
use Rattle.std.proofs.lemmas.List.{map-append, length-map, length-replicate}
use Rattle.rules.specs.Outcome.{Out, ok, refuse, ◌>>=◌}
use Rattle.rules.specs.Syntax.{Name, Exp, Arg, Decl, Block, Callee}
use Rattle.rules.specs.Values.{Env, evals}
use Rattle.rules.specs.Frames.{Sig, Frame as Names, blanks, resolves, tie}
use Rattle.rules.specs.Unfold.{Range, Wires, State, declare}
use Rattle.rules.proofs.Laws.Outcomes.{no_ok, ok-inj, inv}
use Rattle.tape.specs.Encoding.{list_w}
use Rattle.frames.specs.declared.Frame.{Frame}
use Rattle.frames.specs.declared.Many.{Many}
use Rattle.frames.specs.declared.Vector.{Vector}
use Rattle.rules.specs.declared.Reason.{Reason}
use Rattle.rules.specs.declared.Refusal.{Refusal}
use Rattle.rules.specs.Reasons.{number as number_of}
use Rattle.frames.specs.Laid.{laid, column, column-after, laid-at, laid-length, laid-zeros, map-laid}
use Rattle.frames.specs.Stands.{Stands, Inside, vector_of, no_vector, low_of, bases, lens, lows, rows-same}
use Rattle.frames.specs.Lists.{value_w, HereValues, HereArgs, Draws, Drawn, Resolves, Gathers, base_r, len_r}
use Rattle.frames.specs.Ports.{port_w, Offered, tie_all}
use Rattle.frames.specs.declared.Fresh.{Fresh}
use Rattle.frames.specs.Fresh.{Filled, up_to, Declares}
use Rattle.unfold.specs.Header.{ports, HereBlock, is-ported, ports-end, after_ports, after_generics}

-- ---- generics, then arguments

pub record HereCall (t : List ℕ) (at end n : ℕ) (gs : List (Exp ℕ)) (ins outs : List (Arg ℕ)) : Type 0 where
  pub values : HereValues t at end gs
  pub args : HereArgs t (at + length (list_w value_w gs)) end n ins outs

pub record WrittenCall (t : List ℕ) (at end : ℕ) (f : Frame) : Type 0 where
  pub env : Env
  pub names : Names Range
  pub generics : List (Exp ℕ)
  pub inputs : List (Arg ℕ)
  pub outputs : List (Arg ℕ)
  pub stands : Stands f env names
  pub here : HereCall t at end (length names) generics inputs outputs

abbrev pub gathered : Env → Names Range → List (Exp ℕ) → List (Arg ℕ) → Out (List ℤ × List Range)
gathered ρ σ gs args = do
  vs ← evals ρ gs
  rs ← resolves Wires ρ σ args
  ok (vs, rs)

-- a frame where nothing is filled
abbrev pub blank : Frame
blank = record { names = replicate 48 no_vector; values = replicate 48 (pos 0) }

-- all was found and stored, wires from `to` on
pub record Collected (ρ : Env) (σ : Names Range) (gs : List (Exp ℕ)) (args : List (Arg ℕ)) (to k m : ℕ) (f₀ f : Frame) : Type 0 where
  pub values : List ℤ
  pub wires : List Range
  pub evals : evals ρ gs ≡ ok values
  pub resolves : resolves Wires ρ σ args ≡ ok wires
  pub stored : f.values ≡ laid f₀.values 0 (map (λ v. v) values)
  pub draws : Draws wires m to k m (bases f₀.names) (lens f₀.names) (bases f.names) (lens f.names)
  pub lows : lows f.names ≡ lows f₀.names

unfoldable pub Collects : Env → Names Range → List (Exp ℕ) → List (Arg ℕ) → ℕ → Frame → Result Many Reason → Frame → Type 0
Collects ρ σ gs args to f₀ (Ok r) f = Collected ρ σ gs args to r.filled r.next f₀ f
Collects ρ σ gs args to f₀ (Err e) f = gathered ρ σ gs args ≡ refuse (number_of e) 0

pub gathered-first : (ρ : Env) (σ : Names Range) (gs : List (Exp ℕ)) (args : List (Arg ℕ)) {k : ℕ} → evals ρ gs ≡ refuse k 0 → gathered ρ σ gs args ≡ refuse k 0
unfolding ◌>>=◌
gathered-first ρ σ gs args e = rw e

pub gathered-then : (ρ : Env) (σ : Names Range) (gs : List (Exp ℕ)) (args : List (Arg ℕ)) {vs : List ℤ} {k : ℕ} → evals ρ gs ≡ ok vs → resolves Wires ρ σ args ≡ refuse k 0 → gathered ρ σ gs args ≡ refuse k 0
unfolding ◌>>=◌
gathered-then ρ σ gs args e f = rw (e, f)

-- wires that are given, as the code holds them
abbrev pub given_of : Range → Vector
given_of r = record { base = r.base; len = r.len; low = pos 0 }

bases-given : (rs : List Range) → bases (map given_of rs) ≡ map base_r rs
bases-given [] = refl
bases-given (r ∷ rs) = ap (λ l. r.base ∷ l) (bases-given rs)

lens-given : (rs : List Range) → lens (map given_of rs) ≡ map len_r rs
lens-given [] = refl
lens-given (r ∷ rs) = ap (λ l. r.len ∷ l) (lens-given rs)

lows-given : (rs : List Range) → lows (map given_of rs) ≡ replicate (length rs) (pos 0)
lows-given [] = refl
lows-given (r ∷ rs) = ap (λ l. pos 0 ∷ l) (lows-given rs)

-- the wires found, in a frame where nothing else is filled
pub names-given : {ρ : Env} {σ : Names Range} {gs : List (Exp ℕ)} {args : List (Arg ℕ)} {to k m : ℕ} {f : Frame} (c : Collected ρ σ gs args to k m blank f)
    → f.names ≡ laid (replicate 48 no_vector) to (map given_of c.wires)
names-given {to = to} {f = f} c =
    let ws = map given_of c.wires in
    let z = replicate 48 no_vector in
    let b : bases (laid z to ws) ≡ laid (replicate 48 0) to (map base_r c.wires) = map-laid (λ (v : Vector). v.base) ws z to ∙ ap (laid (replicate 48 0) to) (bases-given c.wires) in
    let l : lens (laid z to ws) ≡ laid (replicate 48 0) to (map len_r c.wires) = map-laid (λ (v : Vector). v.len) ws z to ∙ ap (laid (replicate 48 0) to) (lens-given c.wires) in
    let o : lows (laid z to ws) ≡ replicate 48 (pos 0) =
    map-laid (λ (v : Vector). v.low) ws z to ∙ (ap (laid (replicate 48 (pos 0)) to) (lows-given c.wires) ∙ laid-zeros (length c.wires) 48 to (pos 0)) in
    rows-same f.names (laid z to ws) (c.draws.base ∙ sym b) (c.draws.len ∙ sym l) (c.lows ∙ sym o)

-- ---- ports, then locals

-- ports are tied to the wires given
tie-cells : (ρ : Env) (ds : List (Decl ℕ)) (rs : List Range) {τ : Names Range} → tie Wires ρ ds rs ≡ ok τ → map (λ x. x.cells) τ ≡ rs
unfolding tie
tie-cells ρ [] [] e = rw (← (ok-inj e)) refl
tie-cells ρ [] (r ∷ rs) e = absurd (no_ok e)
tie-cells ρ (d ∷ ds) [] e = absurd (no_ok e)
tie-cells ρ (d ∷ ds) (r ∷ rs) e =
    inv _ _ e λ h _ e₁.
    inv _ _ e₁ λ _ _ e₂.
    inv _ _ e₂ λ τ eτ e₃.
    rw (← (ok-inj e₃)) (ap (λ l. r ∷ l) (tie-cells ρ ds rs eτ))

-- places that are not filled yet
blank-vectors : (ns : List Name) → map vector_of (blanks Wires ns) ≡ replicate (length ns) no_vector
unfolding blanks
blank-vectors [] = refl
blank-vectors (n ∷ ns) = ap (λ l. no_vector ∷ l) (blank-vectors ns)

pub blank-many : (ns : List Name) → length (blanks Wires ns) ≡ length ns
unfolding blanks
blank-many [] = refl
blank-many (n ∷ ns) = ap suc (blank-many ns)

inside-blanks : (ns : List Name) (τ : Names Range) → Inside τ → Inside (blanks Wires ns ++ τ)
unfolding blanks Inside
inside-blanks [] τ i = i
inside-blanks (n ∷ ns) τ i = (omega arith, inside-blanks ns τ i)

inside-drawn : (τ : Names Range) (rs : List Range) → map (λ x. x.cells) τ ≡ rs → Drawn rs → Inside τ
unfolding Inside Drawn
inside-drawn [] rs e d = tt
inside-drawn (x ∷ τ) rs e d = let p = subst Drawn (sym e) d in (p.0, inside-drawn τ (map (λ x. x.cells) τ) refl p.1)

-- a column whose first places are those of the generics
tied-column : {A : Type 0} (z : A) (g : Sig Range → A) (ns : List Name) (τ : Names Range) (xs t : List A) → map g (blanks Wires ns) ≡ replicate (length ns) z → map g τ ≡ xs
    → t ≡ laid (replicate 48 z) (length ns) xs → t ≡ column 48 z (map g (blanks Wires ns ++ τ))
tied-column z g ns τ xs t p q r =
    r ∙ column-after (length ns) 48 z xs ∙ ap (column 48 z) (sym (map-append g (blanks Wires ns) τ ∙ rw (p, q)))

-- as many names as wires given
pub tied-many : (ρ : Env) (ds : List (Decl ℕ)) (rs : List Range) {τ : Names Range} → tie Wires ρ ds rs ≡ ok τ → length τ ≡ length rs
tied-many ρ ds rs {τ} e = sym (length-map τ (λ x. x.cells)) ∙ ap length (tie-cells ρ ds rs e)

bases-tied : (τ : Names Range) → bases (map vector_of τ) ≡ map base_r (map (λ x. x.cells) τ)
bases-tied [] = refl
bases-tied (x ∷ τ) = ap (λ l. x.cells.base ∷ l) (bases-tied τ)

lens-tied : (τ : Names Range) → lens (map vector_of τ) ≡ map len_r (map (λ x. x.cells) τ)
lens-tied [] = refl
lens-tied (x ∷ τ) = ap (λ l. x.cells.len ∷ l) (lens-tied τ)

lows-tied : (τ : Names Range) → lows (map vector_of τ) ≡ map low_of τ
lows-tied [] = refl
lows-tied (x ∷ τ) = ap (λ l. x.low ∷ l) (lows-tied τ)

-- the lows of the ports, where the wires given stood
names-tied : (ρ : Env) (ds : List (Decl ℕ)) (rs : List Range) {τ : Names Range} (n : ℕ) {vs₀ vs : List Vector} → tie Wires ρ ds rs ≡ ok τ → vs₀ ≡ laid (replicate 48 no_vector) n (map given_of rs)
    → bases vs ≡ bases vs₀ → lens vs ≡ lens vs₀ → lows vs ≡ laid (lows vs₀) n (map low_of τ) → vs ≡ laid (replicate 48 no_vector) n (map vector_of τ)
names-tied ρ ds rs {τ} n {vs₀} {vs} e p x y q =
    let z = replicate 48 no_vector in
    let cells = tie-cells ρ ds rs e in
    let b : bases vs ≡ bases (laid z n (map vector_of τ)) =
    x ∙ (ap bases p ∙ (map-laid (λ (v : Vector). v.base) (map given_of rs) z n ∙ (ap (laid (bases z) n) (bases-given rs ∙ sym (bases-tied τ ∙ ap (map base_r) cells)) ∙ sym (map-laid (λ (v : Vector). v.base) (map vector_of τ) z n)))) in
    let l : lens vs ≡ lens (laid z n (map vector_of τ)) =
    y ∙ (ap lens p ∙ (map-laid (λ (v : Vector). v.len) (map given_of rs) z n ∙ (ap (laid (lens z) n) (lens-given rs ∙ sym (lens-tied τ ∙ ap (map len_r) cells)) ∙ sym (map-laid (λ (v : Vector). v.len) (map vector_of τ) z n)))) in
    let o : lows vs₀ ≡ replicate 48 (pos 0) =
    ap lows p ∙ (map-laid (λ (v : Vector). v.low) (map given_of rs) z n ∙ (ap (laid (lows z) n) (lows-given rs) ∙ laid-zeros (length rs) 48 n (pos 0))) in
    let w : lows vs ≡ lows (laid z n (map vector_of τ)) =
    q ∙ (ap (λ t. laid t n (map low_of τ)) o ∙ (ap (laid (lows z) n) (sym (lows-tied τ)) ∙ sym (map-laid (λ (v : Vector). v.low) (map vector_of τ) z n))) in
    rows-same vs (laid z n (map vector_of τ)) b l w

-- the frame of a call, once its ports are tied
pub tied-filled : (ρ : Env) (ns : List Name) (ds : List (Decl ℕ)) (rs : List Range) {τ : Names Range} {k : ℕ} {vs : List Vector}
    → tie Wires ρ ds rs ≡ ok τ → Drawn rs → k ≡ length ns + length τ → vs ≡ laid (replicate 48 no_vector) (length ns) (map vector_of τ) → Filled (blanks Wires ns ++ τ) k vs
tied-filled ρ ns ds rs {τ} {k} {vs} e d c q =
    record {
      count = omega (arith, c, length-append (blanks Wires ns) τ, blank-many ns);
      names = tied-column no_vector vector_of ns τ (map vector_of τ) vs (blank-vectors ns) refl q;
      inside = inside-blanks ns τ (inside-drawn τ rs (tie-cells ρ ds rs e) d);
    }

-- how many wires are given for the ports
pub given-offered : {t : List ℕ} {at end : ℕ} {B : Block ℕ Callee} (h : HereBlock t at end B) (rs : List Range) (n : length B.inputs + length B.outputs ≡ length rs) {vs : List Vector}
    → vs ≡ laid (replicate 48 no_vector) (length B.generics) (map given_of rs) → Offered (length B.generics) (lens vs) (ports B.inputs B.outputs rs)
given-offered {B = B} h rs n {vs} e =
    let p = is-ported h rs n in
    let q : lens vs ≡ laid (replicate 48 0) (length B.generics) (map len_r rs) =
    ap lens e ∙ (map-laid (λ (v : Vector). v.len) (map given_of rs) (replicate 48 no_vector) (length B.generics) ∙ ap (laid (replicate 48 0) (length B.generics)) (lens-given rs)) in
    let f : length B.generics + length (map len_r rs) ≤ 48 = omega (arith, h.few, n, length-map rs len_r) in
    let z = length-replicate {A = ℕ} 48 0 in
    record {
      full = ap length q ∙ laid-length (map len_r rs) (replicate 48 0) (length B.generics) ∙ z;
      few = omega (arith, p.many, n, h.few);
      is = λ j b.
          ap (λ t. get_or t (length B.generics + j) 0) q
          ∙ laid-at (map len_r rs) (replicate 48 0) (length B.generics) j 0 (omega (arith, z, p.many, n, h.few)) (omega (arith, p.many, length-map rs len_r))
          ∙ ap (λ rs. get_or (map len_r rs) j 0) (sym p.given);
    }

abbrev pub entered : Env → Block ℕ Callee → List Range → State → Out (Names Range × State)
entered ρ B rs s = do
  τ ← tie Wires ρ (B.inputs ++ B.outputs) rs
  declare ρ B.locals (blanks Wires B.generics ++ τ) s

-- the wires rs are given for the ports of B
pub record Offers (B : Block ℕ Callee) (rs : List Range) (vs : List Vector) : Type 0 where
  pub many : length B.inputs + length B.outputs ≡ length rs
  pub drawn : Drawn rs
  pub names : vs ≡ laid (replicate 48 no_vector) (length B.generics) (map given_of rs)

pub record WrittenHeader (t : List ℕ) (at end : ℕ) (vs : List Vector) : Type 0 where
  pub block : Block ℕ Callee
  pub wires : List Range
  pub here : HereBlock t at end block
  pub offers : Offers block wires vs

-- the ports are tied and the locals declared
unfoldable pub Enters : Out (Names Range × State) → State → ℕ → Result Fresh Reason → List Vector → Type 0
Enters o s n (Ok r) vs = (σ : Names Range) × (o ≡ ok (σ, up_to s r.wires)) × (r.next ≡ n) × (r.wires ≤ 1536) × Filled σ r.filled vs
Enters o s n (Err e) vs = (p : ℕ) × (o ≡ refuse (number_of e) p)

module _ (ρ : Env) (B : Block ℕ Callee) (rs : List Range) (s : State) where
  pub enter-first : {k : ℕ} → tie Wires ρ (B.inputs ++ B.outputs) rs ≡ refuse k 0 → entered ρ B rs s ≡ refuse k 0
  unfolding ◌>>=◌
  enter-first e = rw e

  pub enter-then : {τ : Names Range} {o : Out (Names Range × State)} → tie Wires ρ (B.inputs ++ B.outputs) rs ≡ ok τ → declare ρ B.locals (blanks Wires B.generics ++ τ) s ≡ o → entered ρ B rs s ≡ o
  unfolding ◌>>=◌
  enter-then e f = rw e f

-- the ports' tie, as the code's loop states it
pub tie-all : (ρ : Env) {t : List ℕ} {at end : ℕ} {B : Block ℕ Callee} (h : HereBlock t at end B) (rs : List Range) (n : length B.inputs + length B.outputs ≡ length rs)
    → tie_all ρ (ports B.inputs B.outputs rs) ≡ tie Wires ρ (B.inputs ++ B.outputs) rs
tie-all ρ h rs n = let p = is-ported h rs n in rw (p.decls, p.given)

pub collect : (ρ : Env) (σ : Names Range) (gs : List (Exp ℕ)) (args : List (Arg ℕ)) (n to : ℕ) (f₀ f : Frame) (r : Result Many Reason) (vs : List ℤ)
    → evals ρ gs ≡ ok vs → f.values ≡ laid f₀.values 0 (map (λ v. v) vs) → Resolves (resolves Wires ρ σ args) n to (bases f₀.names) (lens f₀.names) r (bases f.names) (lens f.names)
    → lows f.names ≡ lows f₀.names → Collects ρ σ gs args to f₀ r f
unfolding Resolves Collects
collect ρ σ gs args n to f₀ f (Ok r) vs e s (rs, g, d) o = record {
  values = vs;
  wires = rs;
  evals = e;
  resolves = g;
  stored = s;
  draws = record { place = refl; count = d.count; base = d.base; len = d.len; drawn = d.drawn };
  lows = o;
}
collect ρ σ gs args n to f₀ f (Err k) vs e s g o = gathered-then ρ σ gs args e g

-- an answer of which the place is left out
abbrev pub reason_of : Result Fresh Refusal → Result Fresh Reason
reason_of (Ok r) = Ok r
reason_of (Err e) = Err e.reason

pub enters : (ρ : Env) (B : Block ℕ Callee) (rs : List Range) (s : State) (n n' : ℕ) (r : Result Fresh Refusal) (vs : List Vector) {τ : Names Range} → tie Wires ρ (B.inputs ++ B.outputs) rs ≡ ok τ
    → n ≡ n' → Declares (declare ρ B.locals (blanks Wires B.generics ++ τ) s) s n r vs → Enters (entered ρ B rs s) s n' (reason_of r) vs
unfolding Declares Enters
enters ρ B rs s n n' (Ok r) vs e p (σ, f, q, u, g) = (σ, enter-then ρ B rs s e f, q ∙ p, u, g)
enters ρ B rs s n n' (Err r) vs e _ f = (r.place, enter-then ρ B rs s e f)

-- what the code has in hand once the ports are tied
pub record Locals (ρ : Env) (t : List ℕ) (at end : ℕ) (B : Block ℕ Callee) (rs : List Range) (k m : ℕ) (vs : List Vector) : Type 0 where
  pub names : Names Range
  pub tied : tie Wires ρ (B.inputs ++ B.outputs) rs ≡ ok names
  pub place : m ≡ after_ports at B
  pub few : k ≤ 48
  pub filled : Filled (blanks Wires B.generics ++ names) k vs

pub locals_of : (ρ : Env) {t : List ℕ} {at end : ℕ} {B : Block ℕ Callee} {rs : List Range} {vs₀ vs : List Vector} {to i : ℕ} {r : Many} (h : HereBlock t at end B) (f : Offers B rs vs₀)
    → to ≡ length B.generics → i ≡ after_generics at B
    → Gathers low_of (tie_all ρ (ports B.inputs B.outputs rs)) (i + length (list_w port_w (ports B.inputs B.outputs rs))) to (lows vs₀) (Ok r) (lows vs)
    → (bases vs ≡ bases vs₀) × (lens vs ≡ lens vs₀) → Locals ρ t at end B rs r.filled r.next vs
unfolding Gathers
locals_of ρ {B = B} {rs = rs} {vs = vs} {to = to} h f p q (τ, e, n, c, u) k =
    let d = sym (tie-all ρ h rs f.many) ∙ e in
    let y = tied-many ρ (B.inputs ++ B.outputs) rs d in
    record {
      names = τ;
      tied = d;
      place = n ∙ ap (λ i. i + length (list_w port_w (ports B.inputs B.outputs rs))) q ∙ ports-end h rs f.many;
      few = omega (arith, c, p, y, f.many, h.few);
      filled = tied-filled ρ B.generics (B.inputs ++ B.outputs) rs d f.drawn (omega (arith, c, p)) (names-tied ρ (B.inputs ++ B.outputs) rs (length B.generics) d f.names k.0 k.1 (u ∙ rw p));
    }
