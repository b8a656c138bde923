-- A loop on the tape, and where each statement ends. Assumes nothing.
use Rattle.std.specs.Prelude.{◌≡◌, refl, ℕ, ◌+◌, ◌<◌, List, ◌∷◌, ◌++◌, get_or}
use Rattle.std.proofs.Common.{sym, ◌∙◌, subst, append_assoc, inl}
use Rattle.std.proofs.Math.Path.{ap}
use native.Mathlib.Omega.{arith}
use Rattle.std.proofs.Math.Logic.{inr}
use Rattle.std.proofs.Math.ListN.{length, length-append}
use Rattle.rules.specs.Syntax.{Exp, Arg, Stmts, call, loop, Callee}
use Rattle.rules.proofs.Laws.Spelt.{All, AllStmts}
use Rattle.rules.proofs.Laws.Numbered.{CalleeOf}
use Rattle.tape.specs.Layout.{pack, kind_of, value_of, kind-of, value-of}
use Rattle.tape.specs.Encoding.{exp_w, arg_w, list_w, stmts_w}
use Rattle.tape.specs.Resolved.{slot_w, meant_w}
use Rattle.tape.specs.Lies.{Lies, lies-first, lies-rest, lies-left, lies-right}
use Rattle.values.specs.Factors.{grouped}
use Rattle.values.specs.Sizes.{stops_first, stops-kind}
use Rattle.values.specs.Pairs.{HereTwo}
use Rattle.unfold.specs.Header.{body_w}
use Rattle.unfold.specs.Statements.{HereStmts, Stop, after_call, call-rest, call-sound, from-values, after-args, meant-below}
use Rattle.unfold.specs.Quiet.{Calm, Loud, soft, quiet-append, quiet-exp, quiet-values, quiet-args}

module _ (len : ℕ) {t : List ℕ} {at last : ℕ} {p i : ℕ} {a b : Exp ℕ} {body rest : Stmts ℕ Callee} (h : HereStmts len t at last (loop p i a b body rest)) where
  pub from-bounds : Lies t (at + 1 + 1) (exp_w slot_w 0 a ++ (exp_w slot_w 0 b ++ ((pack 8 0 (length (body_w body)) ∷ body_w body) ++ body_w rest)))
  unfolding stmts_w
  from-bounds = lies-rest (lies-rest h.lies)

  from_second : Lies t (at + 1 + 1 + length (exp_w slot_w 0 a)) (exp_w slot_w 0 b ++ ((pack 8 0 (length (body_w body)) ∷ body_w body) ++ body_w rest))
  from_second = lies-right (exp_w slot_w 0 a) _ from-bounds

  -- the place of the body's word
  abbrev pub body_at : ℕ
  body_at = at + 1 + 1 + length (exp_w slot_w 0 a) + length (exp_w slot_w 0 b)

  from-loop-body : Lies t body_at ((pack 8 0 (length (body_w body)) ∷ body_w body) ++ body_w rest)
  from-loop-body = lies-right (exp_w slot_w 0 b) _ from_second

  pub loop-ends : last ≡ body_at + 1 + length (body_w body) + length (body_w rest)
  unfolding stmts_w
  loop-ends = omega (
    arith,
    h.ends,
    length-append (exp_w slot_w 0 a) (exp_w slot_w 0 b ++ ((pack 8 0 (length (body_w body)) ∷ body_w body) ++ body_w rest)),
    length-append (exp_w slot_w 0 b) ((pack 8 0 (length (body_w body)) ∷ body_w body) ++ body_w rest),
    length-append (body_w body) (body_w rest),
  )

  pub body-kind : kind_of (get_or t body_at 0) ≡ 8
  body-kind = ap kind_of (lies-first from-loop-body) ∙ kind-of 8 0 (length (body_w body)) (omega arith) (omega (arith, loop-ends, h.short))

  -- how many words the body has
  pub loop-many : value_of (get_or t body_at 0) ≡ length (body_w body)
  loop-many = ap value_of (lies-first from-loop-body) ∙ value-of 8 0 (length (body_w body)) (omega arith) (omega (arith, loop-ends, h.short))

  -- the loop's place and its index
  pub loop-place : value_of (get_or t at 0) ≡ p
  unfolding stmts_w AllStmts
  loop-place = ap value_of (lies-first h.lies) ∙ value-of 6 0 p (omega arith) (omega (arith, h.sound.0, h.text))

  pub loop-index : (value_of (get_or t (at + 1) 0) ≡ i) × (i < 48)
  unfolding stmts_w AllStmts
  loop-index = (ap value_of (lies-first (lies-rest h.lies)) ∙ value-of 7 0 i (omega arith) (omega (arith, h.sound.1)), h.sound.1)

  pub loop-bounds : HereTwo t (at + 1 + 1) last a b
  unfolding AllStmts
  loop-bounds =
      let ga = grouped (CalleeOf len) len 2 a h.sound.2 in
      let gb = grouped (CalleeOf len) len 2 b h.sound.3 in
      let lb = lies-left (exp_w slot_w 0 b) _ from_second in
      record {
        first = record {
          grouped = ga;
          lies = lies-left (exp_w slot_w 0 a) _ from-bounds;
          within = omega (arith, loop-ends);
          limit = h.limit;
          short = h.short;
          stops = stops_first t _ last b gb lb (omega (arith, loop-ends, h.short));
        };
        second = record { grouped = gb; lies = lb; within = omega (arith, loop-ends); limit = h.limit; short = h.short; stops = stops-kind t _ last (omega (arith, body-kind)) };
      }

  pub loop-body : HereStmts len t (body_at + 1) (body_at + 1 + length (body_w body)) body
  unfolding AllStmts
  loop-body = record {
    lies = lies-left (body_w body) (body_w rest) (lies-rest from-loop-body);
    ends = refl;
    limit = omega (arith, loop-ends, h.limit);
    short = omega (arith, loop-ends, h.short);
    sound = h.sound.4;
    text = h.text;
  }

  pub loop-rest : HereStmts len t (body_at + 1 + length (body_w body)) last rest
  unfolding AllStmts
  loop-rest = record { lies = lies-right (body_w body) (body_w rest) (lies-rest from-loop-body); ends = loop-ends; limit = h.limit; short = h.short; sound = h.sound.5; text = h.text }

  -- the index and the bounds
  pub loop-calm : Calm t (at + 1) last (pack 7 0 i ∷ (exp_w slot_w 0 a ++ exp_w slot_w 0 b))
  unfolding stmts_w AllStmts All Stop
  loop-calm =
      let n = length-append (exp_w slot_w 0 a) (exp_w slot_w 0 b) in
      let e : at + 1 + length (pack 7 0 i ∷ (exp_w slot_w 0 a ++ exp_w slot_w 0 b)) ≡ body_at = omega (arith, n) in
      let w : pack 7 0 i ∷ (exp_w slot_w 0 a ++ (exp_w slot_w 0 b ++ ((pack 8 0 (length (body_w body)) ∷ body_w body) ++ body_w rest)))
      ≡ (pack 7 0 i ∷ (exp_w slot_w 0 a ++ exp_w slot_w 0 b)) ++ ((pack 8 0 (length (body_w body)) ∷ body_w body) ++ body_w rest) =
      ap (λ l. pack 7 0 i ∷ l) (sym (append_assoc (exp_w slot_w 0 a) (exp_w slot_w 0 b) _)) in
      record {
        lies = lies-left (pack 7 0 i ∷ (exp_w slot_w 0 a ++ exp_w slot_w 0 b)) _ (subst (Lies t (at + 1)) w (lies-rest h.lies));
        quiet = (
          soft 7 0 i (omega arith) (omega (arith, h.sound.1)) (λ e. omega arith) (λ e. omega arith) (λ e. omega arith),
          quiet-append (exp_w slot_w 0 a) (exp_w slot_w 0 b) (quiet-exp 0 2 a (omega arith) (grouped (CalleeOf len) len 2 a h.sound.2) (omega (arith, loop-ends, h.short)))
              (quiet-exp 0 2 b (omega arith) (grouped (CalleeOf len) len 2 b h.sound.3) (omega (arith, loop-ends, h.short))),
        );
        within = omega (arith, n, loop-ends);
        limit = h.limit;
        stop = inr (inr (inr (subst (λ j. kind_of (get_or t j 0) ≡ 8) (sym e) body-kind)));
      }

-- ---- a call's word, and the words of its parts

module _ (len : ℕ) {t : List ℕ} {at last : ℕ} {p : ℕ} {c : Callee} {gs : List (Exp ℕ)} {ins outs : List (Arg ℕ)} {rest : Stmts ℕ Callee}
    (h : HereStmts len t at last (call p c gs ins outs rest)) where
  pub call-word : value_of (get_or t at 0) ≡ meant_w p c
  unfolding stmts_w AllStmts
  call-word = ap value_of (lies-first h.lies) ∙ value-of 3 0 (meant_w p c) (omega arith) (meant-below len p c h.sound.0 h.text)

  abbrev pub parts_w : List ℕ
  parts_w = list_w (λ e. exp_w slot_w 0 e) gs ++ (list_w (arg_w slot_w 4) ins ++ list_w (arg_w slot_w 5) outs)

  parts-many : after_call len h ≡ at + 1 + length parts_w
  parts-many = omega (arith, length-append (list_w (λ e. exp_w slot_w 0 e) gs) (list_w (arg_w slot_w 4) ins ++ list_w (arg_w slot_w 5) outs), length-append (list_w (arg_w slot_w 4) ins) (list_w (arg_w slot_w 5) outs))

  pub call-calm : Calm t (at + 1) last parts_w
  call-calm =
      let s = call-sound len h in
      let e = parts-many in
      let r = call-rest len h in
      let n = length-append (list_w (λ e. exp_w slot_w 0 e) gs) (list_w (arg_w slot_w 4) ins ++ list_w (arg_w slot_w 5) outs) in
      let m = length-append (list_w (arg_w slot_w 4) ins) (list_w (arg_w slot_w 5) outs) in
      let w : list_w (λ e. exp_w slot_w 0 e) gs ++ (list_w (arg_w slot_w 4) ins ++ (list_w (arg_w slot_w 5) outs ++ body_w rest)) ≡ parts_w ++ body_w rest =
      ap (λ l. list_w (λ e. exp_w slot_w 0 e) gs ++ l) (sym (append_assoc (list_w (arg_w slot_w 4) ins) (list_w (arg_w slot_w 5) outs) (body_w rest))) ∙ sym (append_assoc (list_w (λ e. exp_w slot_w 0 e) gs) (list_w (arg_w slot_w 4) ins ++ list_w (arg_w slot_w 5) outs) (body_w rest)) in
      record {
        lies = lies-left parts_w (body_w rest) (subst (Lies t (at + 1)) w (from-values len h));
        quiet = quiet-append _ _ (quiet-values gs s.0 (omega (arith, e, n, m, r.ends, h.short)))
            (quiet-append _ _ (quiet-args 4 ins (inl refl) s.1 (omega (arith, e, n, m, r.ends, h.short))) (quiet-args 5 outs (inr refl) s.2 (omega (arith, e, n, m, r.ends, h.short))));
        within = omega (arith, e, r.ends);
        limit = h.limit;
        stop = subst (Stop t last Loud) e (after-args len h Loud (inl refl) (inr (inl refl)));
      }

  pub call-after : at + 1 + length parts_w ≡ after_call len h
  call-after = sym parts-many
