-- An argument on the tape, and the wires it stands for. Assumes nothing.
use Rattle.std.specs.Prelude.{◌≡◌, refl, ℕ, suc, ◌+◌, ◌≤◌, ◌<◌, false, List, length, get_or, ℤ, pos, negsuc, ◌-ℤ◌, ltb, Some, None, Result, Ok, Err}
use Rattle.std.proofs.Common.{sym, ap, ◌∙◌, subst, arith, lt-ltb, le-ltb}
use Rattle.rules.specs.Outcome.{Out, ok, refuse, ◌>>=◌, need}
use Rattle.rules.specs.Syntax.{Exp, Arg, whole, part, Callee}
use Rattle.rules.specs.Values.{Env, generics, eval}
use Rattle.rules.specs.Frames.{Frame as Names, offset, resolve}
use Rattle.rules.specs.Unfold.{Range, Wires}
use Rattle.rules.proofs.Laws.Spelt.{AllArg}
use Rattle.tape.specs.Layout.{head_in, value_of, head-of, value-of}
use Rattle.tape.specs.Encoding.{exp_w, arg_w}
use Rattle.tape.specs.Resolved.{slot_w}
use Rattle.tape.specs.Lies.{lies-first, lies-rest}
use Rattle.values.specs.Factors.{Grouped}
use Rattle.values.specs.Here.{goes_on, Here}
use Rattle.values.specs.Sizes.{apart_of}
use Rattle.rules.specs.declared.Reason.{Reason}
use Rattle.rules.specs.Reasons.{number as number_of}
use Rattle.frames.specs.declared.Frame.{Frame}
use Rattle.frames.specs.declared.Found.{Found}
use Rattle.frames.specs.Rows.{Alone}
use Rattle.frames.specs.Stands.{Stands, vector_at, name-is, eval-knows}

-- the name that an argument names
unfoldable pub arg_name : Arg ℕ → ℕ
arg_name (whole k) = k
arg_name (part k e) = k

abbrev pub GroupedArg : Arg ℕ → Type 0
GroupedArg a = AllArg {C = Callee} (λ k. k < 48) (λ p c. Unit {0}) 0 a

-- an argument of a kind that names one of n names
pub record HereArg (t : List ℕ) (at end kind n : ℕ) (a : Arg ℕ) : Type 0 where
  pub slot : arg_name a < n
  pub grouped : GroupedArg a
  pub alone : Alone t at end (arg_w slot_w kind a)

pub record WrittenArg (t : List ℕ) (at end : ℕ) (f : Frame) : Type 0 where
  pub kind : ℕ
  pub arg : Arg ℕ
  pub env : Env
  pub names : Names Range
  pub stands : Stands f env names
  pub here : HereArg t at end kind (length names) arg

-- the rules' outcome, and the place after the words
unfoldable pub Finds : Out Range → ℕ → Result Found Reason → Type 0
Finds o n (Ok r) = (o ≡ ok (record { base = r.base; len = r.len })) × (r.next ≡ n)
Finds o n (Err e) = o ≡ refuse (number_of e) 0

-- every wire found is one of the 1,536
unfoldable pub Fits : Result Found Reason → Type 0
Fits (Ok r) = r.base + r.len ≤ 1536
Fits (Err e) = Unit {0}

-- ---- what the code meets

pub arg-some : (k : ℕ) (a : Arg ℕ) → 0 < length (arg_w slot_w k a)
unfolding arg_w
arg-some k (whole n) = omega arith
arg-some k (part n e) = omega arith

pub arg-room : {t : List ℕ} {at end kind n : ℕ} {a : Arg ℕ} → HereArg t at end kind n a → (at < length t) × (at < 33554432)
arg-room {kind = k} {a = a} h = (omega (arith, h.alone.within, h.alone.limit, arg-some k a), omega (arith, h.alone.within, h.alone.short, arg-some k a))

pub arg-name : {t : List ℕ} {at end kind n : ℕ} (a : Arg ℕ) → n ≤ 48 → HereArg t at end kind n a → value_of (get_or t at 0) ≡ arg_name a
unfolding arg_w arg_name
arg-name {kind = k} (whole x) l h = rw (lies-first h.alone.lies) (value-of k 0 x (omega arith) (omega (arith, h.slot)))
arg-name {kind = k} (part x e) l h = rw (lies-first h.alone.lies) (value-of k 1 x (omega arith) (omega (arith, h.slot)))

head-whole : {t : List ℕ} {at end kind n x : ℕ} → n ≤ 48 → HereArg t at end kind n (whole x) → head_in (get_or t at 0) ≡ 0
unfolding arg_w arg_name
head-whole {kind = k} {x = x} l h = rw (lies-first h.alone.lies) (head-of k 0 x (omega arith) (omega (arith, h.slot)))

head-part : {t : List ℕ} {at end kind n x : ℕ} {e : Exp ℕ} → n ≤ 48 → HereArg t at end kind n (part x e) → head_in (get_or t at 0) ≡ 1
unfolding arg_w arg_name
head-part {kind = k} {x = x} l h = rw (lies-first h.alone.lies) (head-of k 1 x (omega arith) (omega (arith, h.slot)))

-- a name with a subscript
pub record Part (t : List ℕ) (at end kind : ℕ) (a : Arg ℕ) : Type 0 where
  pub exp : Exp ℕ
  pub is : a ≡ part (arg_name a) exp
  pub grouped : Grouped 2 exp
  pub here : Here t (at + 1) end exp
  pub after : at + 1 + length (exp_w slot_w 0 exp) ≡ at + length (arg_w slot_w kind a)

part-is : {t : List ℕ} {at end kind n x : ℕ} {e : Exp ℕ} → HereArg t at end kind n (part x e) → Part t at end kind (part x e)
unfolding arg_w arg_name AllArg
part-is {t} {at} {end} {kind} {n} {x} {e} h =
    let q : at + 1 + length (exp_w slot_w 0 e) ≡ at + suc (length (exp_w slot_w 0 e)) = omega arith in
    record {
      exp = e;
      is = refl;
      grouped = h.grouped.1;
      here = record {
        grouped = h.grouped.1;
        lies = lies-rest h.alone.lies;
        within = omega (arith, h.alone.within);
        limit = h.alone.limit;
        short = h.alone.short;
        stops = subst (λ i. goes_on t i end ≡ false) (sym q) h.alone.stops;
      };
      after = q;
    }

pub a-part : {t : List ℕ} {at end kind n : ℕ} (a : Arg ℕ) → n ≤ 48 → HereArg t at end kind n a → (head_in (get_or t at 0) ≡ 0 → ⊥) → Part t at end kind a
a-part (whole x) l h e = absurd (e (head-whole l h))
a-part (part x e) l h _ = part-is h

module _ {f : Frame} {ρ : Env} {σ : Names Range} (s : Stands f ρ σ) {t : List ℕ} {at end kind : ℕ} where
  pub finds-whole : (a : Arg ℕ) → HereArg t at end kind (length σ) a → head_in (get_or t at 0) ≡ 0
      → Finds (resolve Wires ρ σ a) (at + length (arg_w slot_w kind a)) (Ok (record { base = (vector_at f (arg_name a)).base; len = (vector_at f (arg_name a)).len; next = at + 1 }))
  unfolding arg_w arg_name Finds resolve ◌>>=◌
  finds-whole (whole x) h e = (rw (name-is s x h.slot), refl)
  finds-whole (part x d) h e = absurd (omega (arith, head-part s.few h))

  module _ (a : Arg ℕ) (h : HereArg t at end kind (length σ) a) (p : Part t at end kind a) where
    pub finds-beyond : eval (generics f.values) p.exp ≡ refuse 10 0 → resolve Wires ρ σ a ≡ refuse 10 0
    unfolding resolve ◌>>=◌
    finds-beyond e = rw (p.is, name-is s (arg_name a) h.slot, ← (eval-knows 2 p.exp s.value p.grouped), e)

    steps : (v : ℤ) → eval (generics f.values) p.exp ≡ ok v
        → resolve Wires ρ σ a ≡ (offset (v -ℤ (vector_at f (arg_name a)).low) >>= λ i. need (ltb i ((vector_at f (arg_name a)).len)) 12 >>= λ _. ok (record { base = (vector_at f (arg_name a)).base + i; len = 1 }))
    unfolding resolve ◌>>=◌ arg_name
    steps v e = rw (p.is, name-is s (arg_name a) h.slot, ← (eval-knows 2 p.exp s.value p.grouped), e)

below : {A : Type 0} (d : ℤ) (K : ℕ → Out A) → None ≡ apart_of d → (offset d >>= K) ≡ refuse 12 0
unfolding apart_of offset ◌>>=◌
below (pos k) K e = let z : ◌≡◌ {A = ℕ} 0 1 = cc in absurd (omega arith)
below (negsuc k) K e = refl

reached : {A : Type 0} (d : ℤ) (K : ℕ → Out A) {i : ℕ} → Some i ≡ apart_of d → (offset d >>= K) ≡ K i
unfolding apart_of offset ◌>>=◌
reached (pos k) K {i} e = let q : k ≡ i = cc in ap K q
reached (negsuc k) K e = let z : ◌≡◌ {A = ℕ} 0 1 = cc in absurd (omega arith)

module _ {f : Frame} {ρ : Env} {σ : Names Range} (s : Stands f ρ σ) {t : List ℕ} {at end kind : ℕ} (a : Arg ℕ) (h : HereArg t at end kind (length σ) a) (p : Part t at end kind a) (v : ℤ)
    (e : eval (generics f.values) p.exp ≡ ok v) where
  pub finds-below : None ≡ apart_of (v -ℤ (vector_at f (arg_name a)).low) → resolve Wires ρ σ a ≡ refuse 12 0
  finds-below n = steps s a h p v e ∙ below _ _ n

  pub finds-above : {i : ℕ} → Some i ≡ apart_of (v -ℤ (vector_at f (arg_name a)).low) → (vector_at f (arg_name a)).len ≤ i → resolve Wires ρ σ a ≡ refuse 12 0
  unfolding need ◌>>=◌
  finds-above {i} n l = steps s a h p v e ∙ reached _ _ n ∙ rw (le-ltb i ((vector_at f (arg_name a)).len) l)

  pub finds-one : {i : ℕ} → Some i ≡ apart_of (v -ℤ (vector_at f (arg_name a)).low) → i < (vector_at f (arg_name a)).len
      → resolve Wires ρ σ a ≡ ok (record { base = (vector_at f (arg_name a)).base + i; len = 1 })
  unfolding need ◌>>=◌
  finds-one {i} n l = steps s a h p v e ∙ reached _ _ n ∙ rw (lt-ltb i ((vector_at f (arg_name a)).len) l)
