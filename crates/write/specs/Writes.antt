-- Laws that the writer's proofs cite. Assumes nothing.
use Rattle.std.specs.Prelude.{◌≡◌, List, ◌++◌, ℕ, ◌+◌, ◌-◌, ◌≤◌, ◌<◌, length, drop, take, Option, None, Some, MatchOption, Result}
use Rattle.std.specs.Option.{ok_or}
use Rattle.std.proofs.Common.{sym, ap, subst, ◌∙◌, arith, length-append, take_at}
use Rattle.std.proofs.lemmas.List.Edits.{sets, sets-eq}
use Rattle.rules.specs.Netlist.{WellFormed}
use Rattle.rules.specs.Flat.{flat_text}
use Rattle.clear.specs.Zeros.{zeros, zeros-long, drop-zeros}
use Rattle.rules.specs.declared.Reason.{Reason}
use Rattle.netlist.specs.Answers.{done, refused, told, its_length}
use Rattle.write.specs.Wrote.{Wrote, short-text, bad-netlist, wrote}
use Rattle.write.specs.Put.{Put}
use Rattle.write.specs.Fits.{flat-fits}

-- a word that is held with zeros after it is what its first letters are
pub first-ones : (w : List ℕ) (m : ℕ) {l : List ℕ} {n : ℕ} → n ≡ length w → l ≡ w ++ zeros (m - length w) → take n l ≡ w
first-ones w m {l} {n} e f = ap (λ (l : List ℕ). take n l) f ∙ take_at w (zeros (m - length w)) n (sym e)

pub first-fit : (w : List ℕ) (m : ℕ) {l : List ℕ} {n : ℕ} → n ≡ length w → l ≡ w ++ zeros (m - length w) → n ≤ length l
first-fit w m e f = omega (arith, e, ap length f, length-append w (zeros (m - length w)))

module _ {w t : List ℕ} {len : ℕ} (e : t ≡ zeros len) where
  pub wrote-short : len < 65536 → Wrote w len (refused 1) t
  wrote-short h = subst (λ (t : List ℕ). Wrote w len (refused 1) t) (sym e) (short-text h)

  pub wrote-bad : 65536 ≤ len → (WellFormed w → ⊥) → Wrote w len (refused 19) t
  wrote-bad h n = subst (λ (t : List ℕ). Wrote w len (refused 19) t) (sym e) (bad-netlist h n)

  pub wrote-done : {u : List ℕ} {n : ℕ} → 65536 ≤ len → WellFormed w → Put t 0 (flat_text w) n u → Wrote w len (done n) u
  wrote-done {u} {n} h wf p =
      let f : 0 + length (flat_text w) ≤ length (zeros len) = omega (arith, zeros-long len, flat-fits w wf) in
      let i : n ≡ length (flat_text w) = omega (arith, p.next) in
      let k : 0 + length (flat_text w) ≡ length (flat_text w) = omega arith in
      let j : u ≡ flat_text w ++ zeros (len - length (flat_text w)) =
      p.text ∙ ap (λ (l : List ℕ). sets l 0 (flat_text w)) e ∙ sets-eq (flat_text w) (zeros len) 0 f ∙ ap (λ (m : ℕ). flat_text w ++ drop m (zeros len)) k
      ∙ ap (λ (l : List ℕ). flat_text w ++ l) (drop-zeros len (length (flat_text w))) in
      subst (λ (m : ℕ). Wrote w len (done m) u) (sym i) (subst (λ (l : List ℕ). Wrote w len (done (length (flat_text w))) l) (sym j) (wrote h wf))

  -- the text was put if there was room, and there is
  pub wrote-if : {u : List ℕ} {o : Result ℕ Reason} (r : Option ℕ) (reason : Reason) → 65536 ≤ len → WellFormed w → o ≡ ok_or r reason
      → MatchOption r (length t < length (flat_text w)) (λ n. Put t 0 (flat_text w) n u) → Wrote w len (told its_length o) u
  unfolding told
  wrote-if None reason h wf f p = absurd (omega (arith, p, ap length e, zeros-long len, flat-fits w wf))
  wrote-if (Some n) reason h wf f p = rw f (wrote-done h wf p)
