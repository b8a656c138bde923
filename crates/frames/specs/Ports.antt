-- Declarations on the tape: ports tied to the wires given, and names with fresh wires. Assumes nothing.
use Rattle.std.specs.Prelude.{◌≡◌, refl, ℕ, suc, ◌+◌, ◌≤◌, ◌<◌, Bool, true, false, List, [], ◌∷◌, ◌++◌, map, length, get_or, set, ℤ, eqb, Ok}
use Rattle.std.proofs.Math.Path.{sym}
use Rattle.std.proofs.Common.{ap, ◌∙◌, subst, arith, eq-eqb, ne_eqb}
use Rattle.rules.specs.Outcome.{Out, ok, refuse, ◌>>=◌, need}
use Rattle.rules.specs.Syntax.{Sort, wire, vector, num, Decl}
use Rattle.rules.specs.Values.{Env, Shape, shape}
use Rattle.rules.specs.Frames.{Sig, Frame as Names, tie}
use Rattle.rules.specs.Unfold.{Range, Wires}
use Rattle.rules.proofs.Laws.Spelt.{All}
use Rattle.tape.specs.Layout.{kind_of, kind-of, name_w}
use Rattle.tape.specs.Encoding.{list_w, sort_w, decl_w}
use Rattle.tape.specs.Resolved.{slot_w}
use Rattle.tape.specs.Lies.{Lies, lies-first}
use Rattle.values.specs.Sizes.{GroupedSort, HereSort, stops-kind}
use Rattle.frames.specs.Laid.{laid}
use Rattle.frames.specs.Rows.{among_of, Alone, Listed, Starts, Starting}
use Rattle.frames.specs.Runs.{runs, Going, Next, begin, next, stop, onward, finish}
use Rattle.frames.specs.Stands.{low_of}
use Rattle.frames.specs.Lists.{stored, Gathers, len_r}

-- a declaration of a kind
pub record Declared (kind : ℕ) (d : Decl ℕ) : Type 0 where
  pub low : 11 ≤ kind
  pub high : kind ≤ 13
  pub name : name_w d.name < 33554432
  pub letters : length d.name.letters < 32
  pub sort : GroupedSort d.sort

sort-kind : {t : List ℕ} {i k v : ℕ} (s : Sort ℕ) → v < 33554432 → Lies t i (sort_w slot_w k v s) → kind_of (get_or t i 0) ≡ k
unfolding sort_w
sort-kind {k = k} {v = v} wire h l = rw (lies-first l) (kind-of k 0 v (omega arith) h)
sort-kind {k = k} {v = v} (vector a b) h l = rw (lies-first l) (kind-of k 1 v (omega arith) h)
sort-kind {k = k} {v = v} num h l = rw (lies-first l) (kind-of k 2 v (omega arith) h)

sort-some : (k v : ℕ) (s : Sort ℕ) → 0 < length (sort_w slot_w k v s)
unfolding sort_w
sort-some k v wire = omega arith
sort-some k v (vector a b) = omega arith
sort-some k v num = omega arith

pub decl-starts : {t : List ℕ} (end lo hi : ℕ) {k i : ℕ} {d : Decl ℕ} → Declared k d → lo ≤ k → k ≤ hi → Lies t i (decl_w slot_w k d) → Starting t i end lo hi × (0 < length (decl_w slot_w k d))
unfolding decl_w
decl-starts {t} end lo hi {k} {i} {d} g p q l =
    let e = sort-kind d.sort g.name l in
    (record { low = omega (arith, e); high = omega (arith, e); stops = stops-kind t i end (omega (arith, e, g.low)) }, sort-some k (name_w d.name) d.sort)

pub here-sort : {t : List ℕ} {i end k : ℕ} {d : Decl ℕ} → Declared k d → Alone t i end (decl_w slot_w k d) → HereSort t i end k (name_w d.name) d.sort
unfolding decl_w
here-sort g a = record { grouped = g.sort; value = g.name; lies = a.lies; within = a.within; limit = a.limit; short = a.short; stops = a.stops }

-- ---- ports

-- a port, and the wires given for it
pub record Port : Type 0 where
  pub kind : ℕ
  pub decl : Decl ℕ
  pub given : Range

abbrev pub port_w : Port → List ℕ
port_w x = decl_w slot_w x.kind x.decl

pub record Tied (x : Port) : Type 0 where
  pub kind : x.kind ≤ 12
  pub decl : Declared x.kind x.decl

pub starts-ports : {t : List ℕ} {end : ℕ} → Starts t end 11 12 port_w Tied
starts-ports {t} {end} x i g l s = decl-starts end 11 12 g.decl g.decl.low g.kind l

unfoldable pub tie_one : Env → Port → Out (Sig Range)
tie_one ρ x = do
  h ← shape ρ x.decl.sort
  _ ← need (eqb h.size x.given.len) 13
  ok (record { low = h.low; cells = x.given })

abbrev pub decls_in : List Port → List (Decl ℕ)
decls_in xs = map (λ (x : Port). x.decl) xs

abbrev pub given_in : List Port → List Range
given_in xs = map (λ (x : Port). x.given) xs

again : (c : Bool) (x : Port) (l : ℤ) (o : Out (Names Range))
    → ((need c 13 >>= λ _. ok (record { low = l; cells = x.given })) >>= λ b. o >>= λ bs. ok (b ∷ bs)) ≡ (need c 13 >>= λ _. o >>= λ r. ok (record { low = l; cells = x.given } ∷ r))
unfolding need ◌>>=◌
again true x l o = refl
again false x l o = refl

tied-same : (h : Out Shape) (x : Port) (o : Out (Names Range))
    → ((h >>= λ h. need (eqb h.size x.given.len) 13 >>= λ _. ok (record { low = h.low; cells = x.given })) >>= λ b. o >>= λ bs. ok (b ∷ bs))
    ≡ (h >>= λ h. need (eqb h.size x.given.len) 13 >>= λ _. o >>= λ r. ok (record { low = h.low; cells = x.given } ∷ r))
unfolding ◌>>=◌
tied-same (ok h) x o = again (eqb h.size x.given.len) x h.low o
tied-same (refuse n p) x o = refl

pub runs-tie : (ρ : Env) (xs : List Port) → runs (tie_one ρ) xs ≡ tie Wires ρ (decls_in xs) (given_in xs)
unfolding runs tie tie_one
runs-tie ρ [] = refl
runs-tie ρ (x ∷ xs) = rw (runs-tie ρ xs) (tied-same (shape ρ x.decl.sort) x (tie Wires ρ (decls_in xs) (given_in xs)))

-- the ports lie at `at`, each with wires given
pub record HerePorts (t : List ℕ) (at end : ℕ) (xs : List Port) : Type 0 where
  pub tied : All Tied xs
  pub listed : Listed t at end 11 12 port_w xs

-- how many wires are given for each, from place `to` on
pub record Offered (to : ℕ) (l : List ℕ) (xs : List Port) : Type 0 where
  pub full : length l ≡ 48
  pub few : to + length xs ≤ 48
  pub is : (j : ℕ) → j < length xs → get_or l (to + j) 0 ≡ get_or (map len_r (given_in xs)) j 0

pub record WrittenPorts (t : List ℕ) (at end to : ℕ) (l : List ℕ) : Type 0 where
  pub ports : List Port
  pub here : HerePorts t at end ports
  pub offered : Offered to l ports

-- ---- the loop over ports: k is the next place to fill

pub record Tying (ρ : Env) (t : List ℕ) (at end to : ℕ) (xs : List Port) (l : List ℕ) (o₀ : List ℤ) (i k : ℕ) (o : List ℤ) : Type 0 where
  pub found : Names Range
  pub many : ℕ
  pub going : Going (tie_one ρ) port_w Tied t at end 11 12 xs i many found
  pub count : k ≡ to + many
  pub low : o ≡ laid o₀ to (map low_of found)
  pub offered : Offered k l going.left

offered-rest : {k : ℕ} {l : List ℕ} {x : Port} {xs : List Port} → Offered k l (x ∷ xs) → Offered (k + 1) l xs
offered-rest {k} {l} o = record {
  full = o.full;
  few = omega (arith, o.few);
  is = λ j h. let e : k + 1 + j ≡ k + suc j = omega arith in ap (λ n. get_or l n 0) e ∙ o.is (suc j) (omega arith);
}

tie-refused : (ρ : Env) (x : Port) {m : ℕ} → shape ρ x.decl.sort ≡ refuse m 0 → tie_one ρ x ≡ refuse m 0
unfolding tie_one ◌>>=◌
tie-refused ρ x e = rw e

tie-apart : (ρ : Env) (x : Port) {l : ℤ} {n : ℕ} → shape ρ x.decl.sort ≡ ok (record { low = l; size = n }) → (n ≡ x.given.len → ⊥) → tie_one ρ x ≡ refuse 13 0
unfolding tie_one ◌>>=◌ need
tie-apart ρ x {l} {n} e h = rw (e, ne_eqb n x.given.len h)

tie-ok : (ρ : Env) (x : Port) {l : ℤ} {n : ℕ} → shape ρ x.decl.sort ≡ ok (record { low = l; size = n }) → n ≡ x.given.len → tie_one ρ x ≡ ok (record { low = l; cells = x.given })
unfolding tie_one ◌>>=◌ need
tie-ok ρ x {l} {n} e h = rw (e, eq-eqb n x.given.len h)

abbrev pub tie_all : Env → List Port → Out (Names Range)
tie_all ρ xs = tie Wires ρ (decls_in xs) (given_in xs)

module _ {ρ : Env} {t : List ℕ} {at end to : ℕ} {xs : List Port} {l : List ℕ} {o₀ : List ℤ} where
  pub tying-begin : HerePorts t at end xs → Offered to l xs → Tying ρ t at end to xs l o₀ at to o₀
  unfolding laid begin
  tying-begin h o = record { found = []; many = 0; going = begin h.listed h.tied; count = omega arith; low = refl; offered = o }

  module _ {i k : ℕ} {o : List ℤ} (d : Tying ρ t at end to xs l o₀ i k o) where
    pub tying-next : among_of t i end 11 12 ≡ true → Next port_w Tied t i end d.going.left
    tying-next e = next starts-ports d.going e

    module _ (n : Next port_w Tied t i end d.going.left) where
      here : Offered k l (n.item ∷ n.tail)
      here = subst (Offered k l) n.is d.offered

      pub tying-given : get_or l k 0 ≡ n.item.given.len
      tying-given = let e : k + 0 ≡ k = omega arith in subst (λ j. get_or l j 0 ≡ n.item.given.len) e (here.is 0 (omega arith))

      pub tying-place : k < 48
      tying-place = omega (arith, here.few)

      pub tying-refused : {m : ℕ} → shape ρ n.item.decl.sort ≡ refuse m 0 → tie_all ρ xs ≡ refuse m 0
      tying-refused e = sym (runs-tie ρ xs) ∙ stop starts-ports d.going n (tie-refused ρ n.item e)

      pub tying-apart : {x : ℤ} {m : ℕ} → shape ρ n.item.decl.sort ≡ ok (record { low = x; size = m }) → (m ≡ get_or l k 0 → ⊥) → tie_all ρ xs ≡ refuse 13 0
      tying-apart e f = sym (runs-tie ρ xs) ∙ stop starts-ports d.going n (tie-apart ρ n.item e (λ q. f (q ∙ sym tying-given)))

      pub tying-on : {x : ℤ} {m z j : ℕ} {o' : List ℤ} → shape ρ n.item.decl.sort ≡ ok (record { low = x; size = m }) → m ≡ get_or l k 0
          → z ≡ i + length (port_w n.item) → o' ≡ set o k x → j ≡ k + 1 → Tying ρ t at end to xs l o₀ z j o'
      unfolding onward
      tying-on {x} {m} {z} {j} e f q p c =
          let s : Sig Range = record { low = x; cells = n.item.given } in
          rw (q, c) (record {
            found = d.found ++ (s ∷ []);
            many = d.many + 1;
            going = onward starts-ports d.going n (tie-ok ρ n.item e (f ∙ tying-given));
            count = omega (arith, d.count);
            low = stored low_of o₀ to d.found s d.low (omega (arith, d.count, d.going.count)) p;
            offered = offered-rest here;
          })

    pub tying-end : among_of t i end 11 12 ≡ false → Gathers low_of (tie_all ρ xs) (at + length (list_w port_w xs)) to o₀ (Ok (record { filled = k; next = i })) o
    unfolding Gathers
    tying-end e =
        let f = finish starts-ports d.going e in
        (d.found, sym (runs-tie ρ xs) ∙ f.0, f.1, omega (arith, d.count, d.going.count), d.low)

    pub tying-room : (i < 33554432) × (k ≤ to + i)
    tying-room = (omega (arith, d.going.listed.within, d.going.listed.short), omega (arith, d.count, d.going.from))
