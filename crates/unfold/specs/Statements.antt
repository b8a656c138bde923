-- Statements on the tape: where the parts of a call and of a loop lie. Assumes nothing.
use Rattle.std.specs.Prelude.{◌≡◌, refl, ℕ, ◌+◌, ◌≤◌, ◌<◌, false, List, [], ◌∷◌, ◌++◌, map, ◌⊎◌, get_or}
use Rattle.std.proofs.Common.{sym, ◌∙◌, append_assoc, le-ltb}
use Rattle.std.proofs.Math.Path.{ap, subst}
use native.Mathlib.Omega.{arith}
use Rattle.std.proofs.Math.Logic.{inl, inr}
use Rattle.std.proofs.Math.ListN.{length, length-append}
use Rattle.rules.specs.Syntax.{Exp, Arg, whole, part, Stmts, end, call, loop, Callee, gate, block}
use Rattle.rules.proofs.Laws.Spelt.{All, AllExp, AllArg, AllStmts}
use Rattle.rules.proofs.Laws.Numbered.{CalleeOf}
use Rattle.tape.specs.Layout.{kind_of, kind-of}
use Rattle.tape.specs.Encoding.{arg_w, list_w, stmts_w}
use Rattle.tape.specs.Resolved.{slot_w, meant_w, callee_number}
use Rattle.tape.specs.Lies.{Lies, lies-first, lies-rest, lies-left, lies-right}
use Rattle.values.specs.Factors.{Grouped, grouped}
use Rattle.values.specs.Here.{goes_on}
use Rattle.values.specs.Sizes.{stops_end, stops-kind}
use Rattle.frames.specs.Rows.{among_of}
use Rattle.frames.specs.Args.{arg_name, GroupedArg}
use Rattle.frames.specs.Lists.{value_w, tagged_w, tagged, tag, Given}
use Rattle.unfold.specs.Header.{body_w, over_below, over-above}
use Rattle.unfold.specs.Entering.{HereCall}

-- ---- what comes next: the end, or a word whose kind satisfies P

unfoldable pub Stop : List ℕ → ℕ → (ℕ → Type 0) → ℕ → Type 0
Stop t last P i = (last ≤ i) ⊎ P (kind_of (get_or t i 0))

over-end : (t : List ℕ) (i last lo hi : ℕ) → last ≤ i → among_of t i last lo hi ≡ false
unfolding among_of
over-end t i last lo hi h = rw (le-ltb i last h)

stop_goes : (t : List ℕ) (i last : ℕ) → Stop t last (λ k. 2 < k) i → goes_on t i last ≡ false
unfolding Stop
stop_goes t i last (inl h) = stops_end t i last h
stop_goes t i last (inr h) = stops-kind t i last h

pub stop-over : (t : List ℕ) (i last lo hi : ℕ) → Stop t last (λ k. (k < lo) ⊎ (hi < k)) i → among_of t i last lo hi ≡ false
unfolding Stop
stop-over t i last lo hi (inl h) = over-end t i last lo hi h
stop-over t i last lo hi (inr (inl h)) = over_below t i last lo hi h
stop-over t i last lo hi (inr (inr h)) = over-above t i last lo hi h

first-arg : (t : List ℕ) (last k : ℕ) (P : ℕ → Type 0) (xs : List (Arg ℕ)) (rest : List ℕ) (i : ℕ) → All GroupedArg xs → P k → Lies t i (list_w (arg_w slot_w k) xs ++ rest)
    → Stop t last P (i + length (list_w (arg_w slot_w k) xs)) → Stop t last P i
unfolding All list_w Stop arg_w AllArg
first-arg t last k P [] rest i g p l s = let e : i + 0 ≡ i = omega arith in subst (λ j. (last ≤ j) ⊎ P (kind_of (get_or t j 0))) e s
first-arg t last k P (whole x ∷ xs) rest i g p l s = inr (subst P (sym (ap kind_of (lies-first l) ∙ kind-of k 0 x (omega arith) (omega (arith, g.0)))) p)
first-arg t last k P (part x e ∷ xs) rest i g p l s = inr (subst P (sym (ap kind_of (lies-first l) ∙ kind-of k 1 x (omega arith) (omega (arith, g.0.0)))) p)

-- ---- statements

module _ (len : ℕ) where
  -- the statements c lie from `at` to `last`, of a text of len bytes
  pub record HereStmts (t : List ℕ) (at last : ℕ) (c : Stmts ℕ Callee) : Type 0 where
    pub lies : Lies t at (body_w c)
    pub ends : last ≡ at + length (body_w c)
    pub limit : last ≤ length t
    pub short : last < 33554432
    pub sound : AllStmts (λ k. k < 48) (CalleeOf len) len c
    pub text : len ≤ 16384

  pub meant-below : (p : ℕ) (c : Callee) → CalleeOf len p c → len ≤ 16384 → meant_w p c < 33554432
  unfolding CalleeOf callee_number
  meant-below p (gate k) q s = omega (arith, q.0, q.1)
  meant-below p (block b) q s = omega (arith, q.0, q.1)

  -- the first word of statements
  first_kind : {t : List ℕ} {at last : ℕ} (P : ℕ → Type 0) (c : Stmts ℕ Callee) → P 3 → P 6 → HereStmts t at last c → Stop t last P at
  unfolding Stop stmts_w AllStmts
  first_kind P end a b h = inl (omega (arith, h.ends))
  first_kind P (call p c gs ins outs rest) a b h = inr (subst P (sym (ap kind_of (lies-first h.lies) ∙ kind-of 3 0 (meant_w p c) (omega arith) (meant-below p c h.sound.0 h.text))) a)
  first_kind P (loop p i x y body rest) a b h = inr (subst P (sym (ap kind_of (lies-first h.lies) ∙ kind-of 6 0 p (omega arith) (omega (arith, h.sound.0, h.text)))) b)

grouped-arg : (Q : ℕ → Callee → Type 0) (len : ℕ) (a : Arg ℕ) → AllArg {C = Callee} (λ k. k < 48) Q len a → GroupedArg a
unfolding AllArg
grouped-arg Q len (whole k) p = p
grouped-arg Q len (part k e) p = (p.0, grouped Q len 2 e p.1)

grouped-args : (Q : ℕ → Callee → Type 0) (len : ℕ) (xs : List (Arg ℕ)) → All (AllArg {C = Callee} (λ k. k < 48) Q len) xs → All GroupedArg xs
unfolding All
grouped-args Q len [] p = tt
grouped-args Q len (x ∷ xs) p = (grouped-arg Q len x p.0, grouped-args Q len xs p.1)

grouped-all : (Q : ℕ → Callee → Type 0) (len : ℕ) (es : List (Exp ℕ)) → All (AllExp {C = Callee} (λ k. k < 48) Q len 2) es → All (Grouped 2) es
unfolding All
grouped-all Q len [] p = tt
grouped-all Q len (e ∷ es) p = (grouped Q len 2 e p.0, grouped-all Q len es p.1)

tag-words : (k : ℕ) (xs : List (Arg ℕ)) → list_w tagged_w (map (tag k) xs) ≡ list_w (arg_w slot_w k) xs
unfolding list_w
tag-words k [] = refl
tag-words k (x ∷ xs) = ap (λ l. arg_w slot_w k x ++ l) (tag-words k xs)

words_append : {A : Type 0} (w : A → List ℕ) (a b : List A) → list_w w (a ++ b) ≡ list_w w a ++ list_w w b
unfolding list_w
words_append w [] b = refl
words_append w (x ∷ a) b = rw (words_append w a b) (sym (append_assoc (w x) (list_w w a) (list_w w b)))

tagged-words : (ins outs : List (Arg ℕ)) → list_w tagged_w (tagged ins outs) ≡ list_w (arg_w slot_w 4) ins ++ list_w (arg_w slot_w 5) outs
unfolding tagged
tagged-words ins outs = words_append tagged_w (map (tag 4) ins) (map (tag 5) outs) ∙ rw (tag-words 4 ins, tag-words 5 outs)

-- every argument names one of n names
unfoldable pub Named : ℕ → List (Arg ℕ) → Type 0
Named n [] = Unit {0}
Named n (a ∷ xs) = (arg_name a < n) × Named n xs

given-of : (n k : ℕ) (xs : List (Arg ℕ)) → 4 ≤ k → k ≤ 5 → All GroupedArg xs → Named n xs → All (Given n) (map (tag k) xs)
unfolding All Named
given-of n k [] a b g s = tt
given-of n k (x ∷ xs) a b g s = (record { low = a; high = b; slot = s.0; grouped = g.0 }, given-of n k xs a b g.1 s.1)

all_append : {A : Type 0} (P : A → Type 0) (a b : List A) → All P a → All P b → All P (a ++ b)
unfolding All
all_append P [] b p q = q
all_append P (x ∷ a) b p q = (p.0, all_append P a b p.1 q)

-- a call's generics and arguments, where its words begin, and the statements after it
module _ (len : ℕ) {t : List ℕ} {at last : ℕ} {p : ℕ} {c : Callee} {gs : List (Exp ℕ)} {ins outs : List (Arg ℕ)} {rest : Stmts ℕ Callee}
    (h : HereStmts len t at last (call p c gs ins outs rest)) where
  pub from-values : Lies t (at + 1) (list_w value_w gs ++ (list_w (arg_w slot_w 4) ins ++ (list_w (arg_w slot_w 5) outs ++ body_w rest)))
  unfolding stmts_w
  from-values = lies-rest h.lies

  abbrev pub after_values : ℕ
  after_values = at + 1 + length (list_w value_w gs)

  from-ins : Lies t after_values (list_w (arg_w slot_w 4) ins ++ (list_w (arg_w slot_w 5) outs ++ body_w rest))
  from-ins = lies-right (list_w value_w gs) _ from-values

  from-outs : Lies t (after_values + length (list_w (arg_w slot_w 4) ins)) (list_w (arg_w slot_w 5) outs ++ body_w rest)
  from-outs = lies-right (list_w (arg_w slot_w 4) ins) _ from-ins

  abbrev pub after_call : ℕ
  after_call = after_values + length (list_w (arg_w slot_w 4) ins) + length (list_w (arg_w slot_w 5) outs)

  call_ends : last ≡ after_call + length (body_w rest)
  unfolding stmts_w
  call_ends = omega (
    arith,
    h.ends,
    length-append (list_w value_w gs) (list_w (arg_w slot_w 4) ins ++ (list_w (arg_w slot_w 5) outs ++ body_w rest)),
    length-append (list_w (arg_w slot_w 4) ins) (list_w (arg_w slot_w 5) outs ++ body_w rest),
    length-append (list_w (arg_w slot_w 5) outs) (body_w rest),
  )

  pub call-rest : HereStmts len t after_call last rest
  unfolding AllStmts
  call-rest = record { lies = lies-right (list_w (arg_w slot_w 5) outs) _ from-outs; ends = call_ends; limit = h.limit; short = h.short; sound = h.sound.4; text = h.text }

  pub call-sound : All (Grouped 2) gs × All GroupedArg ins × All GroupedArg outs
  unfolding AllStmts
  call-sound = (grouped-all (CalleeOf len) len gs h.sound.1, grouped-args (CalleeOf len) len ins h.sound.2, grouped-args (CalleeOf len) len outs h.sound.3)

  pub after-args : (P : ℕ → Type 0) → P 3 → P 6 → Stop t last P after_call
  after-args P a b = first_kind len P rest a b call-rest

  after-values : (P : ℕ → Type 0) → P 4 → P 5 → P 3 → P 6 → Stop t last P after_values
  after-values P a b c d =
      first-arg t last 4 P ins _ after_values call-sound.1 a from-ins (first-arg t last 5 P outs _ _ call-sound.2 b from-outs (after-args P c d))

  pub call-here : (n : ℕ) → Named n ins → Named n outs → HereCall t (at + 1) last n gs ins outs
  unfolding tagged
  call-here n a b =
      let w = tagged-words ins outs in
      let l = length-append (list_w (arg_w slot_w 4) ins) (list_w (arg_w slot_w 5) outs) in
      let e : after_call ≡ after_values + length (list_w tagged_w (tagged ins outs)) = omega (arith, ap length w, l) in
      record {
        values = record {
          grouped = call-sound.0;
          listed = record {
            lies = lies-left (list_w value_w gs) _ from-values;
            within = omega (arith, call_ends);
            limit = h.limit;
            short = h.short;
            stops = stop_goes t _ last (after-values (λ k. 2 < k) (omega arith) (omega arith) (omega arith) (omega arith));
            over = stop-over t _ last 0 2 (after-values (λ k. (k < 0) ⊎ (2 < k)) (inr (omega arith)) (inr (omega arith)) (inr (omega arith)) (inr (omega arith)));
          };
        };
        args = record {
          given = all_append (Given n) (map (tag 4) ins) (map (tag 5) outs) (given-of n 4 ins (omega arith) (omega arith) call-sound.1 a) (given-of n 5 outs (omega arith) (omega arith) call-sound.2 b);
          listed = record {
            lies = subst (Lies t after_values) (sym w) (lies-left (list_w (arg_w slot_w 4) ins ++ list_w (arg_w slot_w 5) outs) (body_w rest) (subst (Lies t after_values) (sym (append_assoc (list_w (arg_w slot_w 4) ins) (list_w (arg_w slot_w 5) outs) (body_w rest))) from-ins));
            within = omega (arith, call_ends, e);
            limit = h.limit;
            short = h.short;
            stops = subst (λ i. goes_on t i last ≡ false) e (stop_goes t _ last (after-args (λ k. 2 < k) (omega arith) (omega arith)));
            over = subst (λ i. among_of t i last 4 5 ≡ false) e (stop-over t _ last 4 5 (after-args (λ k. (k < 4) ⊎ (5 < k)) (inl (omega arith)) (inr (omega arith))));
          };
        };
      }
