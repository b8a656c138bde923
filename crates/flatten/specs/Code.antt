-- What holds of the code: theorems over the promise of `flatten`, and over those of `flatten` and `run` together. There a call of `flatten`
-- on `text`, lent `work` and `net`, came back with r, and they then held `table` and `words`. Assumes nothing.
use Rattle.std.specs.Prelude.{◌≡◌, refl, ◌↔◌, ◌⊎◌, ℕ, ◌+◌, ◌-◌, ◌*◌, ◌≤◌, ◌<◌, List, ◌++◌, map, length, get_or, drop}
use Rattle.std.proofs.Common.{sym, ap, ◌∙◌, arith, drop_at, length-take-le}
use Rattle.std.proofs.Math.Path.{subst}
use Rattle.rules.specs.Text.{zeros}
use Rattle.rules.specs.Outcome.{Out, ok, refuse}
use Rattle.rules.specs.Syntax.{Program}
use Rattle.rules.specs.Netlist.{inputs, outputs, wires, gates, WellFormed, records}
use Rattle.rules.specs.Meaning.{Signal, dark, Allows, NetAllows}
use Rattle.rules.specs.Run.{to_byte, from_byte, Inputs}
use Rattle.rules.specs.Unfold.{Unfolded}
use Rattle.rules.specs.Flatten.{program, flattened, answer, flatten}
use Rattle.rules.proofs.Demands
use Rattle.rules.proofs.Laws.Within.{Within, no}
use Rattle.rules.proofs.Laws.Late.{flattened-within}
use Rattle.rules.proofs.Laws.Ways.{way}
use Rattle.netlist.specs.Answers.{Told}
use Rattle.run.specs.Ran.{Ran}
use Rattle.run.specs.Follows.{Had, run-had, run-shows, shown-holds, the-outputs, one, no_other}
use Rattle.flatten.specs.Promise.{Flattened, Flattens}
use Rattle.flatten.specs.Starts.{Accepted, number-0, number-1, number-2, placeless as nowhere, whole}

-- ---- over the definition

top : (n : ℕ) (o : Out Unfolded) → Within 1 18 o → (answer n o).number ≤ 18
unfolding answer
top n (ok u) w = omega arith
top n (refuse k p) (no a b) = b

-- a refusal gives nothing else than its number and place
nothing : (n : ℕ) (o : Out Unfolded) → ((answer n o).number ≡ 0 → ⊥) → ((answer n o).steps ≡ 0) × ((answer n o).words ≡ zeros n)
unfolding answer
nothing n (ok u) h = absurd (h refl)
nothing n (refuse k p) h = (refl, refl)

module _ (text : List ℕ) (work net : ℕ) where
  top_of : (flatten text work net).number ≤ 18
  unfolding flatten
  top_of = top net (flattened text work net) (flattened-within text work net)

  nothing-of : ((flatten text work net).number ≡ 0 → ⊥) → ((flatten text work net).steps ≡ 0) × ((flatten text work net).words ≡ zeros net)
  unfolding flatten
  nothing-of h = nothing net (flattened text work net) h

  counted : (e : (flatten text work net).number ≡ 0) → (flatten text work net).words ≡ records (flatten text work net).words ++ zeros (net - length (records (flatten text work net).words))
  counted e =
      let w = way text work net e in
      let q : records (flatten text work net).words ≡ w.u.words = ap records w.lent ∙ whole w.P w.u w.unfolds (zeros (net - length w.u.words)) in
      w.lent ∙ ap (λ l. l ++ zeros (net - length l)) (sym q)

after : (w z : List ℕ) → WellFormed w → w ≡ records w ++ z → drop (4 + 5 * gates w) w ≡ z
unfolding records
after w z wf e = ap (drop (4 + 5 * gates w)) e ∙ drop_at (records w) z (4 + 5 * gates w) (length-take-le (4 + 5 * gates w) w wf.records)

as_many : (w : List ℕ) → WellFormed w → length (records w) ≡ 4 + 5 * gates w
unfolding records
as_many w wf = length-take-le (4 + 5 * gates w) w wf.records

-- ---- of the code

module _ {text work net : List ℕ} {r : Flattened} {table words : List ℕ} (f : Flattens text work net r table words) where
  -- every number is 0 or one of 1 to 18 of the table of answers
  pub numbers : r.number ≤ 18
  numbers = subst (λ a. a.number ≤ 18) (sym f.answer) (top_of text (length work) (length net))

  -- 0 exactly where the lent buffers are long enough, the text is not too long, it is a program, and its unfolding is done
  pub done-exactly : (r.number ≡ 0) ↔ Accepted text (length work) (length net)
  done-exactly = subst (λ a. (a.number ≡ 0) ↔ Accepted text (length work) (length net)) (sym f.answer) (number-0 text (length work) (length net))

  -- 1 exactly where a lent buffer is shorter than its least size
  pub short-buffer : (r.number ≡ 1) ↔ ((length work < 16384) ⊎ (length net < 5124))
  short-buffer = subst (λ a. (a.number ≡ 1) ↔ ((length work < 16384) ⊎ (length net < 5124))) (sym f.answer) (number-1 text (length work) (length net))

  -- 2 exactly where none is, and the text is longer than 16,384 bytes
  pub long-text : (r.number ≡ 2) ↔ ((16384 ≤ length work) × (5124 ≤ length net) × (16384 < length text))
  long-text = subst (λ a. (a.number ≡ 2) ↔ ((16384 ≤ length work) × (5124 ≤ length net) × (16384 < length text))) (sym f.answer) (number-2 text (length work) (length net))

  -- 0, 1 and 2 tell the place 0
  pub placeless : r.number ≤ 2 → r.place ≡ 0
  placeless = subst (λ a. a.number ≤ 2 → a.place ≡ 0) (sym f.answer) (nowhere text (length work) (length net))

  -- a refusal returns no steps and leaves the netlist zero
  pub refusal : (r.number ≡ 0 → ⊥) → (r.steps ≡ 0) × (words ≡ zeros (length net))
  refusal h =
      subst (λ a. (a.number ≡ 0 → ⊥) → (a.steps ≡ 0) × (a.words ≡ zeros (length net))) (sym f.answer) (nothing-of text (length work) (length net)) h

  -- whatever is answered, the work table is zero
  pub no-trace : table ≡ zeros (length work)
  no-trace = f.clean

  -- ---- it answered 0

  module _ (done : r.number ≡ 0) where
    success : (flatten text (length work) (length net)).number ≡ 0
    success = sym (ap (λ a. a.number) f.answer) ∙ done

    lent : (flatten text (length work) (length net)).words ≡ words
    lent = sym (ap (λ a. a.words) f.answer)

    -- then the text is a program
    pub the-program : (P : Program) × (program text ≡ ok P)
    the-program = Demands.the-program text (length work) (length net) success

    -- the netlist is well formed
    pub well-formed : WellFormed words
    well-formed = subst WellFormed lent (Demands.well-formed text (length work) (length net) success)

    -- it came about in at most 20,000 steps
    pub few-steps : r.steps ≤ 20000
    few-steps = subst (λ a. a.steps ≤ 20000) (sym f.answer) (Demands.few-steps text (length work) (length net) success)

    -- the lent netlist holds its records, then zeros
    pub held : words ≡ records words ++ zeros (length net - length (records words))
    held = subst (λ w. w ≡ records w ++ zeros (length net - length (records w))) lent (counted text (length work) (length net) success)

    -- so four words of contents and five for each gate, and every word after them is zero
    pub zero-after : drop (4 + 5 * gates words) words ≡ zeros (length net - (4 + 5 * gates words))
    zero-after = after words _ well-formed held ∙ ap (λ n. zeros (length net - n)) (as_many words well-formed)

    module _ (P : Program) (reads : program text ≡ ok P) where
      -- program and netlist allow exactly the same bits on main's ports
      pub same_bits : (bits : List Signal) → Allows P bits ↔ NetAllows words bits
      same_bits bits = subst (λ w. Allows P bits ↔ NetAllows w bits) lent (Demands.same_bits text (length work) (length net) success P reads bits)

      -- ---- and `run` on this netlist and these input bytes, lent values of this length, told t and left `values`

      module _ {ins values : List ℕ} {len : ℕ} {t : Told} (g : Ran words ins len t values) (well : t.number ≡ 0) where
        had : Had words ins values
        had = run-had well g

        -- what it shows on a port as 0 or 1 holds in every combination that the program allows with these inputs
        pub shown-right : (i : ℕ) (b : Signal) → i < inputs words + outputs words → get_or values i 0 ≡ to_byte b
            → (out : List Signal) → Allows P (map from_byte ins ++ out) → get_or (map from_byte ins ++ out) i dark ≡ b
        shown-right i b h e out a = shown-holds words ins values had i b h e out ((same_bits (map from_byte ins ++ out)).0 a)

        -- if it shows 0 or 1 on all wires, the program allows exactly one combination with these inputs
        pub exactly-one : ((i : ℕ) → i < wires words → get_or values i 0 < 2)
            → (out : List Signal) × Allows P (map from_byte ins ++ out) × ((other : List Signal) → Allows P (map from_byte ins ++ other) → other ≡ out)
        exactly-one all = (
          the-outputs words ins values had all,
          (same_bits (map from_byte ins ++ the-outputs words ins values had all)).1 (one words ins values had all),
          λ other a. no_other words ins values had all other ((same_bits (map from_byte ins ++ other)).0 a),
        )

    -- one byte, 0 or 1, for each input, and values long enough: then `run` does run it
    pub runs : {ins values : List ℕ} {len : ℕ} {t : Told} → 1536 ≤ len → Inputs words ins → Ran words ins len t values → t.number ≡ 0
    runs h i g = ap (λ t. t.number) (run-shows h well-formed i g).0
