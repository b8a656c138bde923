-- What a run says of a netlist: theorems over the promise of `run`, the second half of demand 3 of the code. Assumes nothing.
use Rattle.std.specs.Prelude.{◌≡◌, refl, List, ◌++◌, map, ℕ, ◌+◌, ◌≤◌, ◌<◌, get_or, length}
use Rattle.std.proofs.Common.{◌∙◌, arith}
use Rattle.std.proofs.lemmas.List.{length-map}
use Rattle.rules.specs.Netlist.{inputs, outputs, wires, WellFormed}
use Rattle.rules.specs.Meaning.{Signal, dark, NetAllows}
use Rattle.rules.specs.Run.{Known, to_byte, from_byte, Inputs, Shows}
use Rattle.rules.proofs.Laws.Runs.{outs, allowed, only}
use Rattle.rules.proofs.Laws.Shows.{shown-bit, shown-settled, port-right}
use Rattle.netlist.specs.Answers.{Told, done}
use Rattle.run.specs.Ran.{Ran, short-values, bad-netlist, wrong-inputs, ran}

-- a well-formed netlist with fitting inputs is run, and exactly what follows gate by gate is shown
pub run-shows : {net ins values : List ℕ} {len : ℕ} {t : Told} → 1536 ≤ len → WellFormed net → Inputs net ins → Ran net ins len t values → (t ≡ done 0) × Shows net ins values
run-shows h wf ok (short-values l) = absurd (omega arith)
run-shows h wf ok (bad-netlist l n) = absurd (n wf)
run-shows h wf ok (wrong-inputs l w n) = absurd (n ok)
run-shows h wf ok (ran l w i e s) = (refl, s)

-- what a run that was done had
pub record Had (net ins values : List ℕ) : Type 0 where
  pub well : WellFormed net
  pub given : Inputs net ins
  pub shows : Shows net ins values

pub run-had : {net ins values : List ℕ} {len : ℕ} {t : Told} → t.number ≡ 0 → Ran net ins len t values → Had net ins values
run-had n (short-values l) = absurd (omega arith)
run-had n (bad-netlist l f) = absurd (omega arith)
run-had n (wrong-inputs l x f) = absurd (omega arith)
run-had n (ran l w i e s) = record { well = w; given = i; shows = s }

module _ (net ins values : List ℕ) (had : Had net ins values) where
  count : length (map from_byte ins) ≡ inputs net
  count = length-map ins from_byte ∙ had.given.count

  -- what is shown on a port as 0 or 1 holds in everything that the netlist allows with these inputs
  pub shown-holds : (i : ℕ) (b : Signal) → i < inputs net + outputs net → get_or values i 0 ≡ to_byte b
      → (out : List Signal) → NetAllows net (map from_byte ins ++ out) → get_or (map from_byte ins ++ out) i dark ≡ b
  shown-holds i b h e out a = port-right net (map from_byte ins) out count a i b h (shown-bit b (had.shows.each i (omega (arith, had.well.ports))) e)

  -- if 0 or 1 is shown on all wires, the netlist allows exactly one combination with these inputs
  module _ (all : (i : ℕ) → i < wires net → get_or values i 0 < 2) where
    known : (i : ℕ) → i < wires net → (b : Signal) × Known net (map from_byte ins) i b
    known i h = shown-settled (had.shows.each i h) (all i h)

    pub the-outputs : List Signal
    the-outputs = outs net had.well (map from_byte ins) count known

    pub one : NetAllows net (map from_byte ins ++ the-outputs)
    unfolding the-outputs
    one = allowed net had.well (map from_byte ins) count known

    pub no_other : (out : List Signal) → NetAllows net (map from_byte ins ++ out) → out ≡ the-outputs
    unfolding the-outputs
    no_other out a = only net had.well (map from_byte ins) count known out a
