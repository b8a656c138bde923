-- From the netlist that was found to the answer. Assumes nothing.
use Rattle.std.specs.Prelude.{◌≡◌, List, ◌++◌, ℕ, ◌+◌, ◌-◌, ◌≤◌, ◌<◌, length, drop}
use Rattle.std.proofs.Common.{sym, ap, subst, ◌∙◌, arith}
use Rattle.std.proofs.lemmas.List.Edits.{sets, sets-eq}
use Rattle.rules.specs.Netlist.{WellFormed, records}
use Rattle.rules.specs.Flat.{flat_text}
use Rattle.clear.specs.Zeros.{zeros, zeros-long, drop-zeros}
use Rattle.netlist.specs.Answers.{done, refused}
use Rattle.read.specs.WasRead.{WasRead, short-netlist, no-netlist, was_read}
use Rattle.read.specs.Again.{records-fit, well-again, text-again}

-- a text that some netlist is written as leaves that netlist in the words
abbrev pub Guess : List ℕ → List ℕ → List ℕ → Type 0
Guess t v₀ v = (w : List ℕ) → WellFormed w → t ≡ flat_text w → v ≡ sets v₀ 0 (records w)

guess-is : {t v₀ v : List ℕ} {len : ℕ} → 5124 ≤ len → v₀ ≡ zeros len → Guess t v₀ v → (w : List ℕ) → WellFormed w → t ≡ flat_text w → v ≡ records w ++ zeros (len - length (records w))
guess-is {t} {v₀} {v} {len} h e g w wf f =
    let k : 0 + length (records w) ≤ length (zeros len) = omega (arith, zeros-long len, records-fit w wf) in
    let m : 0 + length (records w) ≡ length (records w) = omega arith in
    g w wf f
    ∙ ap (λ (l : List ℕ). sets l 0 (records w)) e
    ∙ sets-eq (records w) (zeros len) 0 k
    ∙ ap (λ (j : ℕ). records w ++ drop j (zeros len)) m
    ∙ ap (λ (l : List ℕ). records w ++ l) (drop-zeros len (length (records w)))

module _ {t v₀ v : List ℕ} {len : ℕ} (h : 5124 ≤ len) (z : v₀ ≡ zeros len) (g : Guess t v₀ v) where
  pub read_done : WellFormed v × (t ≡ flat_text v) → WasRead t len (done 0) v
  read_done (wf, e) = subst (λ (l : List ℕ). WasRead t len (done 0) l) (sym (guess-is h z g v wf e)) (was_read v h wf e)

  no_other : (WellFormed v × (t ≡ flat_text v) → ⊥) → (w : List ℕ) → WellFormed w → t ≡ flat_text w → ⊥
  no_other n w wf e =
      let i = guess-is h z g w wf e in
      n (well-again w _ v wf i, e ∙ sym (text-again w _ v wf i))

  pub read_none : {u : List ℕ} → u ≡ zeros len → (WellFormed v × (t ≡ flat_text v) → ⊥) → WasRead t len (refused 19) u
  read_none i n = subst (λ (u : List ℕ). WasRead t len (refused 19) u) (sym i) (no-netlist h (no_other n))

pub read_short : {t v : List ℕ} {len : ℕ} → v ≡ zeros len → len < 5124 → WasRead t len (refused 1) v
read_short {t} {len} e h = subst (λ (v : List ℕ). WasRead t len (refused 1) v) (sym e) (short-netlist h)
