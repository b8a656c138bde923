-- A block on the tape: its generics, its ports, its locals and its body, one after the other. Assumes nothing.
use Rattle.std.specs.Prelude.{◌≡◌, refl, ℕ, suc, ◌+◌, ◌≤◌, ◌<◌, Bool, true, false, ◌&&◌, length, get_or, leb, ltb, ◌⊎◌}
use Rattle.std.proofs.Common.{sym, ap, ◌∙◌, inl, inr, ⊎_elim}
use Rattle.std.proofs.Math.Path.{subst}
use native.Mathlib.Omega.{arith}
use mathlib.Core.List.{List, [], ◌∷◌, ◌++◌, append_assoc}
use Rattle.std.proofs.Math.ListN.{length-append}
use Rattle.std.proofs.lemmas.Bool.{lt-leb}
use Rattle.std.proofs.Common.{lt-ltb, le-ltb, le-leb}
use Rattle.rules.specs.Syntax.{Name, Decl, Block, Stmts, Callee}
use Rattle.rules.specs.Unfold.{Range}
use Rattle.rules.proofs.Laws.Spelt.{All}
use Rattle.tape.specs.Layout.{pack, kind_of, value_of, kind-of, value-of, name_w}
use Rattle.tape.specs.Encoding.{list_w, decl_w, generic_w, stmts_w, block_w}
use Rattle.tape.specs.Resolved.{slot_w, meant_w}
use Rattle.tape.specs.Lies.{Lies, lies-first, lies-rest, lies-left, lies-right}
use Rattle.values.specs.Here.{goes_on}
use Rattle.values.specs.Sizes.{stops-kind}
use Rattle.frames.specs.Rows.{among_of, Listed, Starts}
use Rattle.frames.specs.Ports.{Declared, decl-starts, Port, port_w, Tied, HerePorts, decls_in, given_in}
use Rattle.frames.specs.Fresh.{name_words}

-- ---- where a list of things ends, by the kind of the next word

third : (a b c : Bool) → c ≡ false → a && b && c ≡ false
third true true c e = e
third true false c e = refl
third false b c e = refl

second : (a b c : Bool) → b ≡ false → a && b && c ≡ false
second true b c e = rw e
second false b c e = refl

pub over_below : (t : List ℕ) (i end lo hi : ℕ) → kind_of (get_or t i 0) < lo → among_of t i end lo hi ≡ false
unfolding among_of
over_below t i end lo hi h = second (ltb i end) (leb lo (kind_of (get_or t i 0))) _ (lt-leb lo (kind_of (get_or t i 0)) h)

pub over-above : (t : List ℕ) (i end lo hi : ℕ) → hi < kind_of (get_or t i 0) → among_of t i end lo hi ≡ false
unfolding among_of
over-above t i end lo hi h = third (ltb i end) (leb lo (kind_of (get_or t i 0))) _ (lt-leb (kind_of (get_or t i 0)) hi h)

pub over-other : (t : List ℕ) (i end k : ℕ) → (kind_of (get_or t i 0) ≡ k → ⊥) → among_of t i end k k ≡ false
over-other t i end k h = go (native.Mathlib.Decide.dec_lt (kind_of (get_or t i 0)) k)
  where
    go : Dec (kind_of (get_or t i 0) < k) → among_of t i end k k ≡ false
    go (yes l) = over_below t i end k k l
    go (no l) = over-above t i end k k (omega (arith, l, h))

pub over-end : (t : List ℕ) (end lo hi : ℕ) → among_of t end end lo hi ≡ false
unfolding among_of
over-end t end lo hi = rw (le-ltb end end (omega arith))

pub is_among : (t : List ℕ) (i last k : ℕ) → i < last → kind_of (get_or t i 0) ≡ k → among_of t i last k k ≡ true
unfolding among_of
is_among t i last k h e = rw (lt-ltb i last h, e, le-leb k k (omega arith))

module _ {A : Type 0} (t : List ℕ) (w : A → List ℕ) (Item : A → Type 0) (k : ℕ) (kinds : (x : A) (i : ℕ) → Item x → Lies t i (w x) → kind_of (get_or t i 0) ≡ k) where
  -- the next word is one of the list, or the first after it
  pub first_of : (P : ℕ → Type 0) (xs : List A) (rest : List ℕ) (i : ℕ) → All Item xs → P k → Lies t i (list_w w xs ++ rest)
      → P (kind_of (get_or t (i + length (list_w w xs)) 0)) → P (kind_of (get_or t i 0))
  unfolding All list_w
  first_of P [] rest i p q l r = let e : i + 0 ≡ i = omega arith in subst (λ j. P (kind_of (get_or t j 0))) e r
  first_of P (x ∷ xs) rest i p q l r = subst P (sym (kinds x i p.0 (lies-left (w x) (list_w w xs) (lies-left (w x ++ list_w w xs) rest l)))) q

-- ---- ports with the wires given: inputs, then outputs

unfoldable pub out_ports : List (Decl ℕ) → List Range → List Port
out_ports [] rs = []
out_ports (d ∷ outs) [] = []
out_ports (d ∷ outs) (r ∷ rs) = record { kind = 12; decl = d; given = r } ∷ out_ports outs rs

unfoldable pub ports : List (Decl ℕ) → List (Decl ℕ) → List Range → List Port
ports [] outs rs = out_ports outs rs
ports (d ∷ ins) outs [] = []
ports (d ∷ ins) outs (r ∷ rs) = record { kind = 11; decl = d; given = r } ∷ ports ins outs rs

-- what these ports are, where there are as many as wires given
pub record Ported (ins outs : List (Decl ℕ)) (rs : List Range) (xs : List Port) : Type 0 where
  pub decls : decls_in xs ≡ ins ++ outs
  pub given : given_in xs ≡ rs
  pub words : list_w port_w xs ≡ list_w (λ d. decl_w slot_w 11 d) ins ++ list_w (λ d. decl_w slot_w 12 d) outs
  pub tied : All Tied xs
  pub many : length xs ≡ length rs

out-ported : (outs : List (Decl ℕ)) (rs : List Range) → All (Declared 12) outs → length outs ≡ length rs → Ported [] outs rs (out_ports outs rs)
unfolding out_ports All list_w
out-ported [] [] p e = record { decls = refl; given = refl; words = refl; tied = tt; many = refl }
out-ported [] (r ∷ rs) p e = absurd (omega arith)
out-ported (d ∷ outs) [] p e = absurd (omega arith)
out-ported (d ∷ outs) (r ∷ rs) p e =
    let q = out-ported outs rs p.1 (omega arith) in
    record {
      decls = ap (λ l. d ∷ l) q.decls;
      given = ap (λ l. r ∷ l) q.given;
      words = ap (λ l. decl_w slot_w 12 d ++ l) q.words;
      tied = (record { kind = omega arith; decl = p.0 }, q.tied);
      many = ap suc q.many;
    }

pub ported : (ins outs : List (Decl ℕ)) (rs : List Range) → All (Declared 11) ins → All (Declared 12) outs → length ins + length outs ≡ length rs → Ported ins outs rs (ports ins outs rs)
unfolding ports All list_w
ported [] outs rs p q e = out-ported outs rs q (omega arith)
ported (d ∷ ins) outs [] p q e = absurd (omega arith)
ported (d ∷ ins) outs (r ∷ rs) p q e =
    let o = ported ins outs rs p.1 q (omega arith) in
    record {
      decls = ap (λ l. d ∷ l) o.decls;
      given = ap (λ l. r ∷ l) o.given;
      words = ap (λ l. decl_w slot_w 11 d ++ l) o.words ∙ sym (append_assoc (decl_w slot_w 11 d) (list_w (λ d. decl_w slot_w 11 d) ins) (list_w (λ d. decl_w slot_w 12 d) outs));
      tied = (record { kind = omega arith; decl = p.0 }, o.tied);
      many = ap suc o.many;
    }

-- ---- a block's words

abbrev pub body_w : Stmts ℕ Callee → List ℕ
body_w c = stmts_w slot_w meant_w c

abbrev pub in_w : Decl ℕ → List ℕ
in_w d = decl_w slot_w 11 d

abbrev pub out_w : Decl ℕ → List ℕ
out_w d = decl_w slot_w 12 d

pub record HereBlock (t : List ℕ) (at end : ℕ) (B : Block ℕ Callee) : Type 0 where
  pub lies : Lies t at (block_w slot_w meant_w B)
  pub within : at + length (block_w slot_w meant_w B) ≤ end
  pub limit : end ≤ length t
  pub short : end < 33554432
  pub generics : All (λ n. name_w n < 33554432) B.generics
  pub inputs : All (Declared 11) B.inputs
  pub outputs : All (Declared 12) B.outputs
  pub locals : All (Declared 13) B.locals
  pub few : length B.generics + length B.inputs + length B.outputs + length B.locals ≤ 48

-- where each part begins
abbrev pub after_generics : ℕ → Block ℕ Callee → ℕ
after_generics at B = at + 1 + length (list_w generic_w B.generics)

abbrev pub after_inputs : ℕ → Block ℕ Callee → ℕ
after_inputs at B = after_generics at B + length (list_w in_w B.inputs)

abbrev pub after_ports : ℕ → Block ℕ Callee → ℕ
after_ports at B = after_inputs at B + length (list_w out_w B.outputs)

abbrev pub after_locals : ℕ → Block ℕ Callee → ℕ
after_locals at B = after_ports at B + length (list_w (name_words 13) B.locals)

decl-kind : {t : List ℕ} (k : ℕ) (d : Decl ℕ) (i : ℕ) → Declared k d → Lies t i (decl_w slot_w k d) → kind_of (get_or t i 0) ≡ k
decl-kind {t} k d i g l = let s = (decl-starts {t = t} 0 k k g (omega arith) (omega arith) l).0 in omega (arith, s.low, s.high)

module _ {t : List ℕ} {at end : ℕ} {B : Block ℕ Callee} (h : HereBlock t at end B) where
  from-generics : Lies t (at + 1) (list_w generic_w B.generics ++ (list_w in_w B.inputs ++ (list_w out_w B.outputs ++ (list_w (name_words 13) B.locals ++ (pack 8 0 (length (body_w B.body)) ∷ body_w B.body)))))
  unfolding block_w
  from-generics = lies-rest h.lies

  from-inputs : Lies t (after_generics at B) (list_w in_w B.inputs ++ (list_w out_w B.outputs ++ (list_w (name_words 13) B.locals ++ (pack 8 0 (length (body_w B.body)) ∷ body_w B.body))))
  from-inputs = lies-right (list_w generic_w B.generics) _ from-generics

  from-outputs : Lies t (after_inputs at B) (list_w out_w B.outputs ++ (list_w (name_words 13) B.locals ++ (pack 8 0 (length (body_w B.body)) ∷ body_w B.body)))
  from-outputs = lies-right (list_w in_w B.inputs) _ from-inputs

  from-locals : Lies t (after_ports at B) (list_w (name_words 13) B.locals ++ (pack 8 0 (length (body_w B.body)) ∷ body_w B.body))
  from-locals = lies-right (list_w out_w B.outputs) _ from-outputs

  from-body : Lies t (after_locals at B) (pack 8 0 (length (body_w B.body)) ∷ body_w B.body)
  from-body = lies-right (list_w (name_words 13) B.locals) _ from-locals

  room : after_locals at B + 1 + length (body_w B.body) ≤ end
  unfolding block_w
  room = omega (
    arith,
    h.within,
    length-append (list_w generic_w B.generics) (list_w in_w B.inputs ++ (list_w out_w B.outputs ++ (list_w (name_words 13) B.locals ++ (pack 8 0 (length (body_w B.body)) ∷ body_w B.body)))),
    length-append (list_w in_w B.inputs) (list_w out_w B.outputs ++ (list_w (name_words 13) B.locals ++ (pack 8 0 (length (body_w B.body)) ∷ body_w B.body))),
    length-append (list_w out_w B.outputs) (list_w (name_words 13) B.locals ++ (pack 8 0 (length (body_w B.body)) ∷ body_w B.body)),
    length-append (list_w (name_words 13) B.locals) (pack 8 0 (length (body_w B.body)) ∷ body_w B.body),
  )

  -- ---- the kinds of the words where the parts begin

  kind-body : kind_of (get_or t (after_locals at B) 0) ≡ 8
  kind-body = rw (lies-first from-body) (kind-of 8 0 (length (body_w B.body)) (omega arith) (omega (arith, room, h.short)))

  pub body-many : value_of (get_or t (after_locals at B) 0) ≡ length (body_w B.body)
  body-many = rw (lies-first from-body) (value-of 8 0 (length (body_w B.body)) (omega arith) (omega (arith, room, h.short)))

  kind-locals : (P : ℕ → Type 0) → P 13 → P 8 → P (kind_of (get_or t (after_ports at B) 0))
  kind-locals P a b = first_of t (name_words 13) (Declared 13) 13 (λ d i g l. decl-kind 13 d i g l) P B.locals _ _ h.locals a from-locals (subst P (sym kind-body) b)

  kind-outputs : (P : ℕ → Type 0) → P 12 → P 13 → P 8 → P (kind_of (get_or t (after_inputs at B) 0))
  kind-outputs P a b c = first_of t out_w (Declared 12) 12 (λ d i g l. decl-kind 12 d i g l) P B.outputs _ _ h.outputs a from-outputs (kind-locals P b c)

  kind-inputs : (P : ℕ → Type 0) → P 11 → P 12 → P 13 → P 8 → P (kind_of (get_or t (after_generics at B) 0))
  kind-inputs P a b c d = first_of t in_w (Declared 11) 11 (λ d i g l. decl-kind 11 d i g l) P B.inputs _ _ h.inputs a from-inputs (kind-outputs P b c d)

  -- ---- the parts, as the code goes through them

  pub here-generics : Listed t (at + 1) end 10 10 generic_w B.generics
  here-generics = record {
    lies = lies-left (list_w generic_w B.generics) _ from-generics;
    within = omega (arith, room);
    limit = h.limit;
    short = h.short;
    stops = stops-kind t _ end (kind-inputs (λ k. 2 < k) (omega arith) (omega arith) (omega arith) (omega arith));
    over = ⊎_elim (λ p. over_below t _ end 10 10 p) (λ p. over-above t _ end 10 10 p) (kind-inputs (λ k. (k < 10) ⊎ (10 < k)) (inr (omega arith)) (inr (omega arith)) (inr (omega arith)) (inl (omega arith)));
  }

  pub here-inputs : Listed t (after_generics at B) end 11 11 (name_words 11) B.inputs
  here-inputs = record {
    lies = lies-left (list_w in_w B.inputs) _ from-inputs;
    within = omega (arith, room);
    limit = h.limit;
    short = h.short;
    stops = stops-kind t _ end (kind-outputs (λ k. 2 < k) (omega arith) (omega arith) (omega arith));
    over = ⊎_elim (λ p. over_below t _ end 11 11 p) (λ p. over-above t _ end 11 11 p) (kind-outputs (λ k. (k < 11) ⊎ (11 < k)) (inr (omega arith)) (inr (omega arith)) (inl (omega arith)));
  }

  pub here-outputs : Listed t (after_inputs at B) end 12 12 (name_words 12) B.outputs
  here-outputs = record {
    lies = lies-left (list_w out_w B.outputs) _ from-outputs;
    within = omega (arith, room);
    limit = h.limit;
    short = h.short;
    stops = stops-kind t _ end (kind-locals (λ k. 2 < k) (omega arith) (omega arith));
    over = ⊎_elim (λ p. over_below t _ end 12 12 p) (λ p. over-above t _ end 12 12 p) (kind-locals (λ k. (k < 12) ⊎ (12 < k)) (inr (omega arith)) (inl (omega arith)));
  }

  pub here-locals : Listed t (after_ports at B) end 13 13 (name_words 13) B.locals
  here-locals = record {
    lies = lies-left (list_w (name_words 13) B.locals) _ from-locals;
    within = omega (arith, room);
    limit = h.limit;
    short = h.short;
    stops = stops-kind t _ end (omega (arith, kind-body));
    over = over_below t _ end 13 13 (omega (arith, kind-body));
  }

  pub body-lies : Lies t (after_locals at B + 1) (body_w B.body)
  body-lies = lies-rest from-body

  pub body-room : after_locals at B + 1 + length (body_w B.body) ≤ end
  body-room = room

  module _ (rs : List Range) (n : length B.inputs + length B.outputs ≡ length rs) where
    abbrev pub these : List Port
    these = ports B.inputs B.outputs rs

    pub is-ported : Ported B.inputs B.outputs rs these
    is-ported = ported B.inputs B.outputs rs h.inputs h.outputs n

    pub ports-end : after_generics at B + length (list_w port_w these) ≡ after_ports at B
    ports-end = let e = length-append (list_w in_w B.inputs) (list_w out_w B.outputs) in omega (arith, ap length is-ported.words, e)

    pub here-ports : HerePorts t (after_generics at B) end these
    here-ports = record {
      tied = is-ported.tied;
      listed = record {
        lies = subst (Lies t (after_generics at B)) (sym is-ported.words)
            (lies-left (list_w in_w B.inputs ++ list_w out_w B.outputs) _ (subst (Lies t (after_generics at B)) (sym (append_assoc (list_w in_w B.inputs) (list_w out_w B.outputs) _)) from-inputs));
        within = omega (arith, room, ports-end);
        limit = h.limit;
        short = h.short;
        stops = subst (λ i. goes_on t i end ≡ false) (sym ports-end) (stops-kind t _ end (kind-locals (λ k. 2 < k) (omega arith) (omega arith)));
        over = subst (λ i. among_of t i end 11 12 ≡ false) (sym ports-end)
            (⊎_elim (λ p. over_below t _ end 11 12 p) (λ p. over-above t _ end 11 12 p) (kind-locals (λ k. (k < 11) ⊎ (12 < k)) (inr (omega arith)) (inl (omega arith))));
      };
    }

pub record WrittenBlock (t : List ℕ) (at end : ℕ) : Type 0 where
  pub block : Block ℕ Callee
  pub here : HereBlock t at end block

-- ---- a block's generics, one word each

pub starts-generics : {t : List ℕ} {end : ℕ} → Starts t end 10 10 generic_w (λ n. name_w n < 33554432)
unfolding generic_w
starts-generics {t} {end} n i g l s =
    let e : kind_of (get_or t i 0) ≡ 10 = rw (lies-first l) (kind-of 10 0 (name_w n) (omega arith) g) in
    (record { low = omega (arith, e); high = omega (arith, e); stops = stops-kind t i end (omega (arith, e)) }, omega arith)

pub generics-many : (ns : List Name) → length (list_w generic_w ns) ≡ length ns
unfolding list_w generic_w
generics-many [] = refl
generics-many (n ∷ ns) = ap suc (generics-many ns)
