-- Names with fresh wires: the loop over declarations. Assumes nothing.
use Rattle.std.specs.Prelude.{◌≡◌, refl, ℕ, ◌+◌, ◌/◌, ◌≤◌, ◌<◌, true, false, List, [], ◌∷◌, ◌++◌, map, get_or, set, ℤ, Result, Ok, Err}
use Rattle.std.proofs.Common.{ap, ◌∙◌, arith}
use Rattle.std.proofs.Math.Path.{subst}
use Rattle.std.proofs.Math.ListN.{length, length-append}
use borrow.Author.Tests.{le-leb, lt-leb}
use Rattle.rules.specs.Outcome.{Out, ok, refuse, ◌>>=◌, at, need}
use Rattle.rules.specs.Syntax.{Sort, wire, vector, num, Decl}
use Rattle.rules.specs.Values.{Env, shape}
use Rattle.rules.specs.Frames.{Sig, Frame as Names}
use Rattle.rules.specs.Unfold.{Range, State, declare}
use Rattle.rules.proofs.Laws.Spelt.{All}
use Rattle.tape.specs.Layout.{value_of, value-of, name_w}
use Rattle.tape.specs.Encoding.{list_w, sort_w, decl_w}
use Rattle.tape.specs.Resolved.{slot_w}
use Rattle.tape.specs.Lies.{Lies, lies-first}
use Rattle.frames.specs.declared.Fresh.{Fresh}
use Rattle.frames.specs.declared.Vector.{Vector}
use Rattle.rules.specs.declared.Refusal.{Refusal}
use Rattle.rules.specs.Reasons.{number as number_of}
use Rattle.frames.specs.Laid.{column}
use Rattle.frames.specs.Rows.{among_of, Alone, Listed, Starts, starting, rest, alone, more, no_more}
use Rattle.frames.specs.Stands.{base_of, len_of, vector_of, no_vector, Inside}
use Rattle.frames.specs.Lists.{stored}
use Rattle.frames.specs.Ports.{Declared, decl-starts}

-- the same state, with w for its next wire
abbrev pub up_to : State → ℕ → State
up_to s w = record { next = w; steps = s.steps; gates = s.gates }

-- k places are filled with the names σ
pub record Filled (σ : Names Range) (k : ℕ) (vs : List Vector) : Type 0 where
  pub count : k ≡ length σ
  pub names : vs ≡ column 48 no_vector (map vector_of σ)
  pub inside : Inside σ

-- the rules' outcome from the state s, and the place after the words
unfoldable pub Declares : Out (Names Range × State) → State → ℕ → Result Fresh Refusal → List Vector → Type 0
Declares o s n (Ok r) vs = (σ : Names Range) × (o ≡ ok (σ, up_to s r.wires)) × (r.next ≡ n) × (r.wires ≤ 1536) × Filled σ r.filled vs
Declares o s n (Err e) vs = o ≡ refuse (number_of e.reason) e.place

abbrev pub name_words : ℕ → Decl ℕ → List ℕ
name_words kind d = decl_w slot_w kind d

pub record HereDecls (t : List ℕ) (at end kind : ℕ) (ds : List (Decl ℕ)) : Type 0 where
  pub declared : All (Declared kind) ds
  pub listed : Listed t at end kind kind (name_words kind) ds

pub record WrittenDecls (t : List ℕ) (at end kind to : ℕ) (vs : List Vector) : Type 0 where
  pub decls : List (Decl ℕ)
  pub names : Names Range
  pub here : HereDecls t at end kind decls
  pub filled : Filled names to vs

-- a state with a next wire
abbrev pub some-state : ℕ → State
some-state w = record { next = w; steps = 0; gates = [] }

starts-decls : {t : List ℕ} {end kind : ℕ} → Starts t end kind kind (name_words kind) (Declared kind)
starts-decls {t} {end} {kind} d i g l s = decl-starts end kind kind g (omega arith) (omega arith) l

-- ---- the loop

pub record Declaring (ρ : Env) (t : List ℕ) (at end kind to : ℕ) (ds : List (Decl ℕ)) (σ : Names Range) (s : State) (i k w : ℕ) (vs : List Vector) : Type 0 where
  pub left : List (Decl ℕ)
  pub names : Names Range
  pub same : declare ρ ds σ s ≡ declare ρ left names (up_to s w)
  pub sound : All (Declared kind) left
  pub listed : Listed t i end kind kind (name_words kind) left
  pub ends : i + length (list_w (name_words kind) left) ≡ at + length (list_w (name_words kind) ds)
  pub filled : Filled names k vs
  pub room : k ≤ to + i
  pub wires : w ≤ 1536

-- the declaration at i
pub record Name (t : List ℕ) (i end kind : ℕ) (left : List (Decl ℕ)) : Type 0 where
  pub decl : Decl ℕ
  pub tail : List (Decl ℕ)
  pub is : left ≡ decl ∷ tail
  pub sound : Declared kind decl
  pub sounds : All (Declared kind) tail
  pub some : 0 < length (name_words kind decl)
  pub alone : Alone t i end (name_words kind decl)

sort-value : {t : List ℕ} {i : ℕ} (k : ℕ) {v : ℕ} (s : Sort ℕ) → v < 33554432 → Lies t i (sort_w slot_w k v s) → value_of (get_or t i 0) ≡ v
unfolding sort_w
sort-value k {v} wire h l = rw (lies-first l) (value-of k 0 v (omega arith) h)
sort-value k {v} (vector a b) h l = rw (lies-first l) (value-of k 1 v (omega arith) h)
sort-value k {v} num h l = rw (lies-first l) (value-of k 2 v (omega arith) h)

-- the place of its name
pub name-place : {t : List ℕ} {i end kind : ℕ} {left : List (Decl ℕ)} (n : Name t i end kind left) → value_of (get_or t i 0) / 32 ≡ n.decl.name.place
unfolding decl_w name_w
name-place {kind = kind} n = let e = sort-value kind n.decl.sort n.sound.name n.alone.lies in omega (arith, e, n.sound.letters)

inside-more : (σ : Names Range) (x : Sig Range) → Inside σ → base_of x + len_of x ≤ 1536 → Inside (σ ++ (x ∷ []))
unfolding Inside
inside-more [] x i h = (h, tt)
inside-more (y ∷ σ) x i h = (i.0, inside-more σ x i.1 h)

module _ (ρ : Env) (d : Decl ℕ) (ds : List (Decl ℕ)) (σ : Names Range) (s : State) where
  one-refused : {m : ℕ} → shape ρ d.sort ≡ refuse m 0 → declare ρ (d ∷ ds) σ s ≡ refuse m d.name.place
  unfolding declare at ◌>>=◌
  one-refused e = rw e

  one-full : {x : ℤ} {n : ℕ} → shape ρ d.sort ≡ ok (record { low = x; size = n }) → 1536 < s.next + n → declare ρ (d ∷ ds) σ s ≡ refuse 16 d.name.place
  unfolding declare at ◌>>=◌ need
  one-full {x} {n} e h = rw (e, lt-leb (s.next + n) 1536 h)

  one_on : {x : ℤ} {n : ℕ} → shape ρ d.sort ≡ ok (record { low = x; size = n }) → s.next + n ≤ 1536
      → declare ρ (d ∷ ds) σ s ≡ declare ρ ds (σ ++ (record { low = x; cells = record { base = s.next; len = n } } ∷ [])) (up_to s (s.next + n))
  unfolding declare at ◌>>=◌ need
  one_on {x} {n} e h = rw (e, le-leb (s.next + n) 1536 h)

module _ {ρ : Env} {t : List ℕ} {at end kind to : ℕ} {ds : List (Decl ℕ)} {σ : Names Range} {s : State} where
  pub declaring-begin : {w : ℕ} {vs : List Vector} → HereDecls t at end kind ds → s.next ≡ w → w ≤ 1536 → Filled σ to vs → Declaring ρ t at end kind to ds σ s at to w vs
  declaring-begin h e q f =
      record { left = ds; names = σ; same = rw (← e) refl; sound = h.declared; listed = h.listed; ends = refl; filled = f; room = omega arith; wires = q }

  module _ {i k w : ℕ} {vs : List Vector} (d : Declaring ρ t at end kind to ds σ s i k w vs) where
    pub declaring-next : among_of t i end kind kind ≡ true → Name t i end kind d.left
    unfolding All
    declaring-next e =
        let c = more starts-decls d.left d.listed e in
        let p = subst (All (Declared kind)) c.is d.sound in
        let m = subst (Listed t i end kind kind (name_words kind)) c.is d.listed in
        record { decl = c.head; tail = c.tail; is = c.is; sound = p.0; sounds = p.1; some = (starting starts-decls m p.0).1; alone = alone starts-decls m p.1 }

    module _ (n : Name t i end kind d.left) where
      now : declare ρ ds σ s ≡ declare ρ (n.decl ∷ n.tail) d.names (up_to s w)
      now = d.same ∙ ap (λ ds. declare ρ ds d.names (up_to s w)) n.is

      pub declaring-refused : {m p : ℕ} → shape ρ n.decl.sort ≡ refuse m 0 → p ≡ n.decl.name.place → declare ρ ds σ s ≡ refuse m p
      declaring-refused e q = now ∙ one-refused ρ n.decl n.tail d.names (up_to s w) e ∙ rw q

      pub declaring-full : {x : ℤ} {c p : ℕ} → shape ρ n.decl.sort ≡ ok (record { low = x; size = c }) → p ≡ n.decl.name.place → 1536 < w + c → declare ρ ds σ s ≡ refuse 16 p
      declaring-full e q h = now ∙ one-full ρ n.decl n.tail d.names (up_to s w) e h ∙ rw q

      pub declaring-on : {x : ℤ} {c z j v : ℕ} {vs' : List Vector} → shape ρ n.decl.sort ≡ ok (record { low = x; size = c }) → w + c ≤ 1536 → z ≡ i + length (name_words kind n.decl)
          → vs' ≡ set vs k (record { base = w; len = c; low = x }) → j ≡ k + 1 → v ≡ w + c → Declaring ρ t at end kind to ds σ s z j v vs'
      unfolding list_w
      declaring-on {x} {c} {z} {j} {v} e h q p y g =
          let f = d.filled in
          let a : Sig Range = record { low = x; cells = record { base = w; len = c } } in
          let m = subst (Listed t i end kind kind (name_words kind)) n.is d.listed in
          rw (q, y, g) (record {
            left = n.tail;
            names = d.names ++ (a ∷ []);
            same = now ∙ one_on ρ n.decl n.tail d.names (up_to s w) e h;
            sound = n.sounds;
            listed = rest starts-decls m;
            ends = omega (arith, subst (λ l. i + length (list_w (name_words kind) l) ≡ at + length (list_w (name_words kind) ds)) n.is d.ends, length-append (name_words kind n.decl) (list_w (name_words kind) n.tail));
            filled = record {
              count = omega (arith, f.count, length-append d.names (a ∷ []));
              names = stored vector_of _ 0 d.names a f.names (omega (arith, f.count)) p;
              inside = inside-more d.names a f.inside h;
            };
            room = omega (arith, d.room, n.some);
            wires = h;
          })

    pub declaring-end : among_of t i end kind kind ≡ false → Declares (declare ρ ds σ s) s (at + length (list_w (name_words kind) ds)) (Ok (record { filled = k; wires = w; next = i })) vs
    unfolding Declares declare list_w
    declaring-end e =
        let z = no_more starts-decls d.left d.listed d.sound e in
        (d.names, d.same ∙ rw z, omega (arith, subst (λ l. i + length (list_w (name_words kind) l) ≡ at + length (list_w (name_words kind) ds)) z d.ends), d.wires, d.filled)
