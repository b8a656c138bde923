-- Reading undoes writing, and writing undoes reading: theorems over the promises of `write` and `read`. Assumes nothing.
use Rattle.std.specs.Prelude.{◌≡◌, refl, List, ◌++◌, ℕ, ◌-◌, ◌≤◌, length, take}
use Rattle.std.proofs.Common.{sym, ap, ◌∙◌, arith, take_at}
use Rattle.rules.specs.Netlist.{WellFormed, records}
use Rattle.rules.specs.Flat.{flat_text}
use Rattle.clear.specs.Zeros.{zeros}
use Rattle.netlist.specs.Answers.{Told, done}
use Rattle.write.specs.Wrote.{Wrote, wrote, wrote_one}
use Rattle.read.specs.WasRead.{WasRead, short-netlist, no-netlist, was_read, read_one}
use Rattle.read.specs.Again.{well-again, text-again, records-again}

-- what was written of a well-formed netlist
pub written : {net : List ℕ} {len : ℕ} {t : Told} {text : List ℕ} → WellFormed net → 65536 ≤ len → Wrote net len t text
    → (t ≡ done (length (flat_text net))) × (take t.length text ≡ flat_text net)
written {net} {len} wf h w =
    let (e, f) = wrote_one w (wrote h wf) in
    (e, rw (e, f) (take_at (flat_text net) (zeros (len - length (flat_text net))) (length (flat_text net)) refl))

-- read (write n) = n: the text that was written of a well-formed netlist is read, and gives its records back
pub read_back : {net : List ℕ} {len len' : ℕ} {t t' : Told} {text words : List ℕ} → WellFormed net → 65536 ≤ len → 5124 ≤ len'
    → Wrote net len t text → WasRead (take t.length text) len' t' words → (t' ≡ done 0) × (words ≡ records net ++ zeros (len' - length (records net))) × (records words ≡ records net)
read_back {net} {len} {len'} {t} {t'} {text} {words} wf h h' w r =
    let (e, f) = read_one r (was_read net h' wf (written wf h w).1) in
    (e, f, records-again net _ words wf f)

-- write (read t) = t: a text that is read is written again, byte for byte
pub write-back : {text words text' : List ℕ} {len len' : ℕ} {t t' : Told} → WasRead text len t words → t.number ≡ 0 → 65536 ≤ len'
    → Wrote words len' t' text' → (t' ≡ done (length text)) × (text' ≡ text ++ zeros (len' - length text))
write-back {text} {words} {text'} {len} {len'} {t} {t'} r n h' w = go r n w
  where
    go : {len : ℕ} {words : List ℕ} {t : Told} → WasRead text len t words → t.number ≡ 0 → Wrote words len' t' text'
        → (t' ≡ done (length text)) × (text' ≡ text ++ zeros (len' - length text))
    go (short-netlist h) n w = absurd (omega (arith, n))
    go (no-netlist h x) n w = absurd (omega (arith, n))
    go {len} (was_read net h wf e) n w =
        let v = records net ++ zeros (len - length (records net)) in
        let (f, g) = wrote_one w (wrote h' (well-again net _ v wf refl)) in
        let i : flat_text v ≡ text = text-again net _ v wf refl ∙ sym e in
        (f ∙ ap (λ (l : List ℕ). done (length l)) i, g ∙ ap (λ (l : List ℕ). l ++ zeros (len' - length l)) i)

-- exactly what write gives is accepted
pub accepts : {text words : List ℕ} {len : ℕ} {t : Told} → 5124 ≤ len → WasRead text len t words → (net : List ℕ) → WellFormed net → text ≡ flat_text net → t ≡ done 0
accepts h r net wf e = (read_one r (was_read net h wf e)).0
