-- A lent netlist is longer than its records: what stands after them changes nothing of what it shows and allows. Assumes nothing.
use Rattle.std.specs.Prelude.{◌≡◌, ℕ, ◌+◌, ◌*◌, ◌<◌, List, map, get_or}
use Rattle.std.proofs.Common.{sym, ap, ◌∙◌, subst, arith, get_or-take}
use Rattle.rules.specs.declared.Gate.{Gate}
use Rattle.rules.specs.Netlist.{inputs, outputs, gates, gate_at, inputs_at, records}
use Rattle.rules.specs.Meaning.{Signal, makes, carried, GateHolds, NetAllows}
use Rattle.rules.specs.Run.{Known, given, made, AllKnown, none, more, from_byte, Shown, settled, unsettled}
use Rattle.rules.proofs.Laws.Records.{same-gate}

contents : (w : List ℕ) (i : ℕ) → i < 4 → get_or (records w) i 0 ≡ get_or w i 0
unfolding records
contents w i h = get_or-take (4 + 5 * gates w) w i 0 (omega arith)

-- two netlists with the same records
module _ (u v : List ℕ) (e : records u ≡ records v) where
  word : (i : ℕ) → i < 4 → get_or u i 0 ≡ get_or v i 0
  word i h = sym (contents u i h) ∙ ap (λ w. get_or w i 0) e ∙ contents v i h

  same_inputs : inputs u ≡ inputs v
  same_inputs = word 0 (omega arith)

  same-outputs : outputs u ≡ outputs v
  same-outputs = word 1 (omega arith)

  same-gates : gates u ≡ gates v
  same-gates = word 3 (omega arith)

  mutual
    -- know the same
    known-too : (ins : List Signal) {i : ℕ} {b : Signal} → Known u ins i b → Known v ins i b
    known-too ins {i} (given h q) = let l : i < inputs v = omega (arith, same_inputs) in given l q
    known-too ins {i} {b} (made {bs = bs} j h o k q) =
        let l : j < gates v = omega (arith, same-gates) in
        let g : gate_at u j ≡ gate_at v j = same-gate u v e j h in
        made j l (ap (λ (g : Gate). g.out) (sym g) ∙ o) (subst (λ g. AllKnown v ins (inputs_at g) bs) g (all-known-too ins k)) (subst (λ g. makes g.kind bs ≡ b) g q)

    all-known-too : (ins : List Signal) {is : List ℕ} {bs : List Signal} → AllKnown u ins is bs → AllKnown v ins is bs
    all-known-too ins none = none
    all-known-too ins (more k ks) = more (known-too ins k) (all-known-too ins ks)

  -- allow the same
  pub allowed-too : (bits : List Signal) → NetAllows u bits → NetAllows v bits
  allowed-too bits n =
      let h : (i : ℕ) → i < gates v → i < gates u = λ i l. omega (arith, same-gates) in
      let q : inputs u + outputs u ≡ inputs v + outputs v = omega (arith, same_inputs, same-outputs) in
      record {
        wires = n.wires;
        given = subst (λ k. carried n.wires 0 k ≡ bits) q n.given;
        hold = λ i l. subst (GateHolds n.wires) (same-gate u v e i (h i l)) (n.hold i (h i l));
      }

-- and show the same
pub shown-too : (u v : List ℕ) → records u ≡ records v → {ins : List ℕ} {i x : ℕ} → Shown u ins i x → Shown v ins i x
shown-too u v e {ins} (settled k) = settled (known-too u v e (map from_byte ins) k)
shown-too u v e {ins} (unsettled n) = unsettled (λ b k. n b (known-too v u (sym e) (map from_byte ins) k))
