-- The lists of a call on the tape: generics, and arguments. Assumes nothing.
use Rattle.std.specs.Prelude.{◌≡◌, refl, ℕ, ◌+◌, ◌≤◌, ◌<◌, true, false, List, [], ◌∷◌, ◌++◌, map, length, get_or, set, ℤ, Result, Ok, Err}
use Rattle.std.proofs.Math.Path.{sym}
use Rattle.std.proofs.Common.{ap, ◌∙◌, arith}
use Rattle.std.proofs.lemmas.List.{map-append, length-map}
use Rattle.rules.specs.Outcome.{Out, ok, refuse}
use Rattle.rules.specs.Syntax.{Exp, Arg, whole, part}
use Rattle.rules.specs.Values.{Env, generics, eval, evals}
use Rattle.rules.specs.Frames.{Frame as Names, resolve, resolves}
use Rattle.rules.specs.Unfold.{Range, Wires}
use Rattle.rules.proofs.Laws.Spelt.{All, AllArg}
use Rattle.tape.specs.Layout.{kind_of, kind-of}
use Rattle.tape.specs.Encoding.{exp_w, list_w, arg_w}
use Rattle.tape.specs.Resolved.{slot_w}
use Rattle.tape.specs.Lies.{Lies, lies-first}
use Rattle.values.specs.Factors.{Grouped}
use Rattle.values.specs.Here.{Here}
use Rattle.values.specs.Sizes.{opens, stops_first, stops-kind}
use Rattle.frames.specs.declared.Many.{Many}
use Rattle.rules.specs.declared.Reason.{Reason}
use Rattle.rules.specs.Reasons.{number as number_of}
use Rattle.frames.specs.Laid.{laid, laid-snoc}
use Rattle.frames.specs.Rows.{among_of, Alone, Listed, Starts}
use Rattle.frames.specs.Runs.{runs, Going, Next, begin, next, stop, onward, finish}
use Rattle.frames.specs.declared.Frame.{Frame}
use Rattle.frames.specs.Stands.{Stands, Knows}
use Rattle.frames.specs.Args.{arg_name, GroupedArg, HereArg, arg-some}

-- ---- generics

abbrev pub value_w : Exp ℕ → List ℕ
value_w e = exp_w slot_w 0 e

pub starts-values : {t : List ℕ} {end : ℕ} → Starts t end 0 2 value_w (Grouped 2)
starts-values {t} {end} e i g l s =
    let o = opens e g l (omega arith) in
    (record { low = omega arith; high = o.kind; stops = stops_first t i end e g l (omega arith) }, o.some)

pub here_of : {t : List ℕ} {i end : ℕ} {e : Exp ℕ} → Grouped 2 e → Alone t i end (value_w e) → Here t i end e
here_of g a = record { grouped = g; lies = a.lies; within = a.within; limit = a.limit; short = a.short; stops = a.stops }

pub runs-evals : (ρ : Env) (es : List (Exp ℕ)) → runs (eval ρ) es ≡ evals ρ es
unfolding runs evals
runs-evals ρ [] = refl
runs-evals ρ (e ∷ es) = rw (runs-evals ρ es)

-- the generics es lie at `at`
pub record HereValues (t : List ℕ) (at end : ℕ) (es : List (Exp ℕ)) : Type 0 where
  pub grouped : All (Grouped 2) es
  pub listed : Listed t at end 0 2 value_w es

pub record WrittenValues (t : List ℕ) (at end : ℕ) : Type 0 where
  pub exps : List (Exp ℕ)
  pub here : HereValues t at end exps

-- all values were found and stored from `to` on, and the place after the words; or the refusal
unfoldable pub Gathers : {B C : Type 0} → (B → C) → Out (List B) → ℕ → ℕ → List C → Result Many Reason → List C → Type 0
Gathers {B} g o n to u (Ok r) v = (bs : List B) × (o ≡ ok bs) × (r.next ≡ n) × (r.filled ≡ to + length bs) × (v ≡ laid u to (map g bs))
Gathers g o n to u (Err e) v = o ≡ refuse (number_of e) 0

pub knows-itself : (vs : List ℤ) → Knows vs (generics vs)
knows-itself vs = record { is = λ k h. refl }

-- one more is stored
pub stored : {B C : Type 0} (g : B → C) (t : List C) {u v : List C} (to : ℕ) (found : List B) (b : B) {j : ℕ} → u ≡ laid t to (map g found) → j ≡ to + length found → v ≡ set u j (g b)
    → v ≡ laid t to (map g (found ++ (b ∷ [])))
stored g t to found b p q r =
    let m : map g (found ++ (b ∷ [])) ≡ map g found ++ (g b ∷ []) = map-append g found (b ∷ []) in
    let l : length (map g found) ≡ length found = length-map found g in
    r ∙ rw (p, q, m, laid-snoc (map g found) t to (g b), l)

-- ---- arguments: inputs, then outputs

pub record Tagged : Type 0 where
  pub kind : ℕ
  pub arg : Arg ℕ

abbrev pub tagged_w : Tagged → List ℕ
tagged_w x = arg_w slot_w x.kind x.arg

abbrev pub tag : ℕ → Arg ℕ → Tagged
tag k a = record { kind = k; arg = a }

unfoldable pub tagged : List (Arg ℕ) → List (Arg ℕ) → List Tagged
tagged ins outs = map (tag 4) ins ++ map (tag 5) outs

abbrev arg_of : Tagged → Arg ℕ
arg_of x = x.arg

-- an input or an output that names one of n names
pub record Given (n : ℕ) (x : Tagged) : Type 0 where
  pub low : 4 ≤ x.kind
  pub high : x.kind ≤ 5
  pub slot : arg_name x.arg < n
  pub grouped : GroupedArg x.arg

arg-kind : {t : List ℕ} {i k : ℕ} (a : Arg ℕ) → GroupedArg a → Lies t i (arg_w slot_w k a) → kind_of (get_or t i 0) ≡ k
unfolding arg_w AllArg
arg-kind {k = k} (whole x) g l = rw (lies-first l) (kind-of k 0 x (omega arith) (omega arith))
arg-kind {k = k} (part x e) g l = rw (lies-first l) (kind-of k 1 x (omega arith) (omega (arith, g.0)))

pub starts-args : {t : List ℕ} {end n : ℕ} → Starts t end 4 5 tagged_w (Given n)
starts-args {t} {end} x i g l s =
    let k = arg-kind x.arg g.grouped l in
    (record { low = omega (arith, k, g.low); high = omega (arith, k, g.high); stops = stops-kind t i end (omega (arith, k, g.low)) }, arg-some x.kind x.arg)

-- the inputs and the outputs lie at `at`
pub record HereArgs (t : List ℕ) (at end n : ℕ) (ins outs : List (Arg ℕ)) : Type 0 where
  pub given : All (Given n) (tagged ins outs)
  pub listed : Listed t at end 4 5 tagged_w (tagged ins outs)

pub record WrittenArgs (t : List ℕ) (at end : ℕ) (f : Frame) : Type 0 where
  pub env : Env
  pub names : Names Range
  pub inputs : List (Arg ℕ)
  pub outputs : List (Arg ℕ)
  pub stands : Stands f env names
  pub here : HereArgs t at end (length names) inputs outputs

pub here-arg : {t : List ℕ} {i end n : ℕ} {x : Tagged} → Given n x → Alone t i end (tagged_w x) → HereArg t i end x.kind n x.arg
here-arg g a = record { slot = g.slot; grouped = g.grouped; alone = a }

abbrev pub resolved : Env → Names Range → Tagged → Out Range
resolved ρ σ x = resolve Wires ρ σ x.arg

runs-tagged : (ρ : Env) (σ : Names Range) (xs : List Tagged) → runs (resolved ρ σ) xs ≡ resolves Wires ρ σ (map arg_of xs)
unfolding runs resolves
runs-tagged ρ σ [] = refl
runs-tagged ρ σ (x ∷ xs) = rw (runs-tagged ρ σ xs)

same_args : (k : ℕ) (xs : List (Arg ℕ)) → map arg_of (map (tag k) xs) ≡ xs
same_args k [] = refl
same_args k (a ∷ xs) = ap (λ l. a ∷ l) (same_args k xs)

pub runs-args : (ρ : Env) (σ : Names Range) (ins outs : List (Arg ℕ)) → runs (resolved ρ σ) (tagged ins outs) ≡ resolves Wires ρ σ (ins ++ outs)
unfolding tagged
runs-args ρ σ ins outs =
    runs-tagged ρ σ (map (tag 4) ins ++ map (tag 5) outs)
    ∙ ap (resolves Wires ρ σ) (map-append arg_of (map (tag 4) ins) (map (tag 5) outs) ∙ ap (λ l. l ++ map arg_of (map (tag 5) outs)) (same_args 4 ins) ∙ ap (λ l. ins ++ l) (same_args 5 outs))

-- wires of the 1,536
unfoldable pub Drawn : List Range → Type 0
Drawn [] = Unit {0}
Drawn (r ∷ rs) = (r.base + r.len ≤ 1536) × Drawn rs

pub drawn-more : (rs : List Range) (r : Range) → Drawn rs → r.base + r.len ≤ 1536 → Drawn (rs ++ (r ∷ []))
unfolding Drawn
drawn-more [] r d h = (h, tt)
drawn-more (x ∷ rs) r d h = (d.0, drawn-more rs r d.1 h)

-- all wires were found, and stored from `to` on
pub record Draws (rs : List Range) (n to k m : ℕ) (b₀ l₀ b l : List ℕ) : Type 0 where
  pub place : m ≡ n
  pub count : k ≡ to + length rs
  pub base : b ≡ laid b₀ to (map (λ r. r.base) rs)
  pub len : l ≡ laid l₀ to (map (λ r. r.len) rs)
  pub drawn : Drawn rs

unfoldable pub Resolves : Out (List Range) → ℕ → ℕ → List ℕ → List ℕ → Result Many Reason → List ℕ → List ℕ → Type 0
Resolves o n to b₀ l₀ (Ok r) b l = (rs : List Range) × (o ≡ ok rs) × Draws rs n to r.filled r.next b₀ l₀ b l
Resolves o n to b₀ l₀ (Err e) b l = o ≡ refuse (number_of e) 0

abbrev pub base_r : Range → ℕ
base_r r = r.base

abbrev pub len_r : Range → ℕ
len_r r = r.len

-- the loop over arguments: k is the next place to fill
pub record Drawing (ρ : Env) (σ : Names Range) (t : List ℕ) (at end to : ℕ) (ins outs : List (Arg ℕ)) (b₀ l₀ : List ℕ) (i k : ℕ) (b l : List ℕ) : Type 0 where
  pub found : List Range
  pub many : ℕ
  pub going : Going (resolved ρ σ) tagged_w (Given (length σ)) t at end 4 5 (tagged ins outs) i many found
  pub count : k ≡ to + many
  pub base : b ≡ laid b₀ to (map base_r found)
  pub len : l ≡ laid l₀ to (map len_r found)
  pub drawn : Drawn found

module _ {ρ : Env} {σ : Names Range} {t : List ℕ} {at end to : ℕ} {ins outs : List (Arg ℕ)} {b₀ l₀ : List ℕ} where
  pub drawing-begin : HereArgs t at end (length σ) ins outs → Drawing ρ σ t at end to ins outs b₀ l₀ at to b₀ l₀
  unfolding laid Drawn
  drawing-begin h = record { found = []; many = 0; going = begin h.listed h.given; count = omega arith; base = refl; len = refl; drawn = tt }

  module _ {i k : ℕ} {b l : List ℕ} (d : Drawing ρ σ t at end to ins outs b₀ l₀ i k b l) where
    pub drawing-next : among_of t i end 4 5 ≡ true → Next tagged_w (Given (length σ)) t i end d.going.left
    drawing-next e = next starts-args d.going e

    pub drawing-stop : {m p : ℕ} (n : Next tagged_w (Given (length σ)) t i end d.going.left) → resolved ρ σ n.item ≡ refuse m p
        → resolves Wires ρ σ (ins ++ outs) ≡ refuse m p
    drawing-stop n e = sym (runs-args ρ σ ins outs) ∙ stop starts-args d.going n e

    pub drawing-on : (n : Next tagged_w (Given (length σ)) t i end d.going.left) {x y z j : ℕ} {b' l' : List ℕ} → resolved ρ σ n.item ≡ ok (record { base = x; len = y }) → x + y ≤ 1536
        → z ≡ i + length (tagged_w n.item) → b' ≡ set b k x → l' ≡ set l k y → j ≡ k + 1 → Drawing ρ σ t at end to ins outs b₀ l₀ z j b' l'
    drawing-on n {x} {y} {z} {j} e f q p r c =
        let s : Range = record { base = x; len = y } in
        record {
          found = d.found ++ (s ∷ []);
          many = d.many + 1;
          going = rw q (onward starts-args d.going n e);
          count = omega (arith, c, d.count);
          base = stored base_r b₀ to d.found s d.base (omega (arith, d.count, d.going.count)) p;
          len = stored len_r l₀ to d.found s d.len (omega (arith, d.count, d.going.count)) r;
          drawn = drawn-more d.found s d.drawn f;
        }

    pub drawing-end : among_of t i end 4 5 ≡ false → Resolves (resolves Wires ρ σ (ins ++ outs)) (at + length (list_w tagged_w (tagged ins outs))) to b₀ l₀ (Ok (record { filled = k; next = i })) b l
    unfolding Resolves
    drawing-end e =
        let f = finish starts-args d.going e in
        (d.found, sym (runs-args ρ σ ins outs) ∙ f.0, record { place = f.1; count = omega (arith, d.count, d.going.count); base = d.base; len = d.len; drawn = d.drawn })

    pub drawing-room : (i < 33554432) × (k ≤ to + i)
    drawing-room = (omega (arith, d.going.listed.within, d.going.listed.short), omega (arith, d.count, d.going.from))
