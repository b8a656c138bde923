-- A netlist is its records: words after them do not matter, neither for its text nor for its being well formed. Assumes nothing.
use Rattle.std.specs.Prelude.{◌≡◌, List, [], ◌∷◌, length, get_or}
use Rattle.std.proofs.Math.Path.{refl, ap}
use Rattle.std.proofs.Common.{sym, ◌∙◌, arith}
use Prim.Native.Nat.{ℕ, zero, suc, ◌+◌, ◌*◌, ◌≤◌, ◌<◌}
use Rattle.std.proofs.Math.Seq.{get_or-take}
use Rattle.rules.specs.Text.{bytes, joined}
use Rattle.rules.specs.Netlist.{gates, gate_at, WellFormed, records}
use Rattle.rules.specs.Flat.{between, gate_text, gates_text, flat_text}

module _ (u v : List ℕ) (e : records u ≡ records v) where
  word_of : (w : List ℕ) (i : ℕ) → i < 4 + 5 * gates w → get_or (records w) i 0 ≡ get_or w i 0
  unfolding records
  word_of w i h = get_or-take (4 + 5 * gates w) w i 0 h

  word_at : (i : ℕ) → i < 4 + 5 * gates u → i < 4 + 5 * gates v → get_or u i 0 ≡ get_or v i 0
  word_at i h k = sym (word_of u i h) ∙ ap (λ w. get_or w i 0) e ∙ word_of v i k

  same-gates : gates u ≡ gates v
  same-gates = word_at 3 (omega arith) (omega arith)

  word : (i : ℕ) → i < 4 + 5 * gates u → get_or u i 0 ≡ get_or v i 0
  word i h = word_at i h (omega (arith, same-gates))

  pub same-gate : (i : ℕ) → i < gates u → gate_at u i ≡ gate_at v i
  same-gate i h =
      let k = word (4 + 5 * i) (omega arith) in
      let a = word (4 + 5 * i + 1) (omega arith) in
      let b = word (4 + 5 * i + 2) (omega arith) in
      let c = word (4 + 5 * i + 3) (omega arith) in
      let o = word (4 + 5 * i + 4) (omega arith) in
      rw (k, a, b, c, o)

  -- where the words reach as far as the records
  pub well-same : WellFormed u → 4 + 5 * gates v ≤ length v → WellFormed v
  well-same wf l =
      let ins = word 0 (omega arith) in
      let outs = word 1 (omega arith) in
      let ws = word 2 (omega arith) in
      let below : (i : ℕ) → i < gates v → i < gates u = λ i h. omega (arith, same-gates) in
      let out : (i : ℕ) → i < gates v → (gate_at v i).out ≡ (gate_at u i).out = λ i h. ap (λ g. g.out) (sym (same-gate i (below i h))) in
      record {
        contents = omega arith;
        ports = omega (arith, ins, outs, ws, wf.ports);
        few-wires = omega (arith, ws, wf.few-wires);
        few-gates = omega (arith, same-gates, wf.few-gates);
        records = l;
        fine = λ i h. rw (← ws, ← ins, ← (same-gate i (below i h))) (wf.fine i (below i h));
        once = λ i j h k e. wf.once i j h (below j k) (sym (out i (omega arith)) ∙ e ∙ out j k);
      }

  same_lines : (n i : ℕ) → i + n ≤ gates u → gates_text u i n ≡ gates_text v i n
  unfolding gates_text
  same_lines zero i h = refl
  same_lines (suc n) i h =
      ap (λ g. joined (gate_text g ∷ between (bytes ";") n ∷ bytes "\n" ∷ gates_text u (suc i) n ∷ [])) (same-gate i (omega arith))
      ∙ ap (λ l. joined (gate_text (gate_at v i) ∷ between (bytes ";") n ∷ bytes "\n" ∷ l ∷ [])) (same_lines n (suc i) (omega arith))

  pub flat-same : flat_text u ≡ flat_text v
  unfolding flat_text
  flat-same = rw (word 0 (omega arith), word 1 (omega arith), word 2 (omega arith), same_lines (gates u) 0 (omega arith), same-gates)
