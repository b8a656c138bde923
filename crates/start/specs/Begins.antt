-- What the code has in hand once main's ports have wires, and once its locals have. Assumes nothing.
use Rattle.std.specs.Prelude.{◌≡◌, refl, ℕ, ◌+◌, ◌-◌, ◌≤◌, ◌<◌, List, [], length, get_or, replicate, pos, Result, Ok, Err}
use Rattle.std.proofs.Common.{ap, ◌∙◌, subst, arith, append-nil}
use Rattle.std.proofs.lemmas.List.{length-replicate}
use Rattle.rules.specs.Outcome.{ok, refuse}
use Rattle.rules.specs.Syntax.{Name, Block, Callee}
use Rattle.rules.specs.Values.{generics}
use Rattle.rules.specs.Frames.{Frame as Names, blanks, tie}
use Rattle.rules.specs.Unfold.{Range, Wires, declare}
use Rattle.tape.specs.Layout.{value_of}
use Rattle.tape.specs.Encoding.{list_w}
use Rattle.frames.specs.declared.Frame.{Frame}
use Rattle.frames.specs.declared.Vector.{Vector}
use Rattle.frames.specs.declared.Fresh.{Fresh}
use Rattle.rules.specs.declared.Refusal.{Refusal}
use Rattle.rules.specs.Reasons.{number as number_of}
use Rattle.unfold.specs.declared.Span.{Span}
use Rattle.frames.specs.Laid.{laid}
use Rattle.frames.specs.Lists.{Drawn}
use Rattle.frames.specs.Stands.{Stands, Knows, no_vector}
use Rattle.frames.specs.Fresh.{Filled, Declares, name_words, HereDecls, some-state}
use Rattle.unfold.specs.Header.{HereBlock, here-inputs, here-outputs, here-locals, after_generics, after_inputs, after_ports, after_locals, body_w, body-many, body-room}
use Rattle.unfold.specs.Entering.{tied-filled, blank-many}
use Rattle.unfold.specs.Opening.{declare-many, known_of}
use Rattle.start.specs.declared.Begun.{Begun}
use Rattle.start.specs.First.{ported, begun, declare-grows, ported-grows, ported-many, outputs-done, locals-done}

-- ---- the inputs, the outputs, the locals, where the code comes to them

module _ {t : List ℕ} {place end : ℕ} {M : Block ℕ Callee} (h : HereBlock t place end M) where
  pub decls-in : {i : ℕ} → i ≡ after_generics place M → HereDecls t i end 11 M.inputs
  decls-in e = rw e (record { declared = h.inputs; listed = here-inputs h })

  pub decls-out : {i : ℕ} → i ≡ after_inputs place M → HereDecls t i end 12 M.outputs
  decls-out e = rw e (record { declared = h.outputs; listed = here-outputs h })

  pub decls-var : {i : ℕ} → i ≡ after_ports place M → HereDecls t i end 13 M.locals
  decls-var e = rw e (record { declared = h.locals; listed = here-locals h })

-- no generic has a value
pub knows-none : Knows (replicate 48 (pos 0)) (generics [])
unfolding laid
knows-none = known_of [] refl

-- no name has wires yet
pub blank-filled : (ns : List Name) {k : ℕ} {vs : List Vector} → k ≡ length ns → vs ≡ replicate 48 no_vector → Filled (blanks Wires ns) k vs
unfolding tie laid Drawn
blank-filled ns {k} {vs} e p =
    subst (λ σ. Filled σ k vs) (append-nil (blanks Wires ns)) (tied-filled (generics []) ns [] [] refl tt (omega arith) p)

-- ---- once the inputs have wires

pub record Inputs (M : Block ℕ Callee) (place k nin m : ℕ) (vs : List Vector) : Type 0 where
  pub names : Names Range
  pub is : declare (generics []) M.inputs (blanks Wires M.generics) (some-state 0) ≡ ok (names, some-state nin)
  pub next : m ≡ after_inputs place M
  pub few : k ≤ 48
  pub wires : nin ≤ 1536
  pub filled : Filled names k vs

pub inputs-of : {t : List ℕ} {place end : ℕ} {M : Block ℕ Callee} → HereBlock t place end M → {i : ℕ} {r : Fresh} {vs : List Vector} → i ≡ after_generics place M
    → Declares (declare (generics []) M.inputs (blanks Wires M.generics) (some-state 0)) (some-state 0) (i + length (list_w (name_words 11) M.inputs)) (Ok r) vs → Inputs M place r.filled r.wires r.next vs
unfolding Declares
inputs-of {M = M} h e (σ, f, n, u, g) = record {
  names = σ;
  is = f;
  next = omega (arith, n, e);
  few = omega (arith, g.count, declare-many (generics []) M.inputs (blanks Wires M.generics) (some-state 0) f, blank-many M.generics, h.few);
  wires = u;
  filled = g;
}

-- ---- once the ports have

pub record Numbered (M : Block ℕ Callee) (n k nin w m : ℕ) (vs : List Vector) : Type 0 where
  pub names : Names Range
  pub is : ported M ≡ ok (nin, (names, some-state w))
  pub next : m ≡ n
  pub few : k ≤ 48
  pub wires : w ≤ 1536
  pub grows : nin ≤ w
  pub filled : Filled names k vs

pub numbered_of : {t : List ℕ} {place end : ℕ} {M : Block ℕ Callee} → HereBlock t place end M → {k nin m : ℕ} {r : Fresh} {vs₀ vs : List Vector} (x : Inputs M place k nin m vs₀)
    → Declares (declare (generics []) M.outputs x.names (some-state nin)) (some-state nin) (m + length (list_w (name_words 12) M.outputs)) (Ok r) vs → Numbered M (after_ports place M) r.filled nin r.wires r.next vs
unfolding Declares
numbered_of {M = M} h x (σ, f, n, u, g) =
    let e = outputs-done M x.is f in
    record {
      names = σ;
      is = e;
      next = omega (arith, n, x.next);
      few = omega (arith, g.count, ported-many M e, h.few);
      wires = u;
      grows = ported-grows M e;
      filled = g;
    }

-- ---- once the locals have

pub record Wired (M : Block ℕ Callee) (place k nin nout w m : ℕ) (vs : List Vector) : Type 0 where
  pub names : Names Range
  pub is : begun M ≡ ok (nin, (nout, (names, some-state w)))
  pub next : m ≡ after_locals place M
  pub few : length names ≤ 48
  pub wires : w ≤ 1536
  pub grows : nin + nout ≤ w
  pub filled : Filled names k vs

pub wired-of : {t : List ℕ} {place end : ℕ} {M : Block ℕ Callee} → HereBlock t place end M → {k nin v m : ℕ} {r : Fresh} {vs₀ vs : List Vector} (x : Numbered M (after_ports place M) k nin v m vs₀)
    → Declares (declare (generics []) M.locals x.names (some-state v)) (some-state v) (m + length (list_w (name_words 13) M.locals)) (Ok r) vs → Wired M place r.filled nin (v - nin) r.wires r.next vs
unfolding Declares
wired-of {M = M} h {v = v} x (σ, f, n, u, g) = record {
  names = σ;
  is = locals-done M x.is f;
  next = omega (arith, n, x.next);
  few = omega (arith, ported-many M x.is, declare-many (generics []) M.locals x.names (some-state v) f, h.few);
  wires = u;
  grows = omega (arith, x.grows, declare-grows (generics []) M.locals x.names (some-state v) f);
  filled = g;
}

-- ---- the whole

pub record Began (M : Block ℕ Callee) (place b e nin nout w : ℕ) (f : Frame) : Type 0 where
  pub names : Names Range
  pub is : begun M ≡ ok (nin, (nout, (names, some-state w)))
  pub stands : Stands f (generics []) names
  pub inputs : nin ≤ w
  pub ports : nin + nout ≤ w
  pub wires : w ≤ 1536
  pub first : b ≡ after_locals place M + 1
  pub last : e ≡ b + length (body_w M.body)

unfoldable pub Begins : Block ℕ Callee → ℕ → Result Begun Refusal → Type 0
Begins M place (Ok r) = Began M place r.body.at r.body.end r.inputs r.outputs r.wires r.frame
Begins M place (Err e) = begun M ≡ refuse (number_of e.reason) e.place

module _ {t : List ℕ} {place end : ℕ} {M : Block ℕ Callee} (h : HereBlock t place end M) {k nin nout w m : ℕ} {vs : List Vector} (x : Wired M place k nin nout w m vs) where
  pub body-inside : m < end
  body-inside = omega (arith, x.next, body-room h)

  pub began_of : {s : Span} → s ≡ record { at = m + 1; end = m + 1 + value_of (get_or t m 0) } → Began M place s.at s.end nin nout w (record { names = vs; values = replicate 48 (pos 0) })
  began_of {s} q =
      let at : s.at ≡ m + 1 = ap (λ (s : Span). s.at) q in
      let end : s.end ≡ m + 1 + value_of (get_or t m 0) = ap (λ (s : Span). s.end) q in
      record {
        names = x.names;
        is = x.is;
        stands = record {
          value = knows-none;
          full = length-replicate 48 (pos 0);
          names = x.filled.names;
          few = x.few;
          inside = x.filled.inside;
        };
        inputs = omega (arith, x.grows);
        ports = x.grows;
        wires = x.wires;
        first = at ∙ ap (λ n. n + 1) x.next;
        last = omega (arith, at, end, ap (λ i. value_of (get_or t i 0)) x.next ∙ body-many h);
      }
