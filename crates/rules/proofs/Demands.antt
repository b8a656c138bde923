-- What is promised over the definitions alone. Of a successful flattening, from the text on: demand 3 whole, and well-formedness.
-- There `flatten` answered 0 for a text and lent buffers of these lengths, and `words` is what the lent netlist then holds.
-- Assumes nothing.
use Rattle.std.specs.Prelude.{◌≡◌, ◌↔◌, ℕ, ◌+◌, ◌≤◌, ◌<◌, List, [], ◌++◌, map, length, get_or}
use Rattle.std.proofs.Common.{sym, ◌∙◌, subst, arith}
use Rattle.std.proofs.lemmas.List.{length-map}
use Rattle.rules.specs.Outcome.{ok}
use Rattle.rules.specs.Syntax.{Program}
use Rattle.rules.specs.Netlist.{inputs, outputs, wires, WellFormed, records}
use Rattle.rules.specs.Meaning.{Signal, dark, Allows, NetAllows}
use Rattle.rules.specs.Run.{Known, to_byte, from_byte, Inputs, Shows}
use Rattle.rules.specs.Flat.{flat_text}
use Rattle.rules.specs.Flatten.{program, flatten}
use Rattle.rules.proofs.Laws.Outcomes.{ok-inj}
-- 01's order of refusals in the unfolding
pub use Rattle.rules.proofs.Laws.Order
use Rattle.rules.proofs.Laws.Ways.{Way, way}
use Rattle.rules.proofs.Laws.Cut.{alike}
use Rattle.rules.proofs.Laws.Keep.{unfolded-well}
use Rattle.rules.proofs.Laws.Runs.{outs, allowed, only}
use Rattle.rules.proofs.Laws.Shows.{shown-bit, shown-settled, port-right}
use Rattle.rules.proofs.Laws.FlatOne.{flat-one}
use Rattle.rules.proofs.Laws.Records.{flat-same}

-- flat text and netlist determine each other: no two well-formed netlists have one text, and one netlist has one
pub one-text : (u v : List ℕ) → WellFormed u → WellFormed v → (flat_text u ≡ flat_text v) ↔ (records u ≡ records v)
one-text u v wu wv = (flat-one u v wu wv, flat-same u v)

module _ (text : List ℕ) (work net : ℕ) (success : (flatten text work net).number ≡ 0) where
  -- what the lent netlist holds, whole
  abbrev pub words : List ℕ
  words = (flatten text work net).words

  the-way : Way text work net
  the-way = way text work net success

  -- the text is a program
  pub the-program : (P : Program) × (program text ≡ ok P)
  the-program = (the-way.P, the-way.reads)

  -- the netlist is well formed, and came about in at most 20,000 steps
  pub well-formed : WellFormed words
  well-formed = subst WellFormed (sym the-way.lent) (unfolded-well the-way.P the-way.u the-way.unfolds _).0

  pub few-steps : (flatten text work net).steps ≤ 20000
  few-steps = subst (λ n. n ≤ 20000) (sym the-way.counted) (unfolded-well the-way.P the-way.u the-way.unfolds []).1

  module _ (P : Program) (reads : program text ≡ ok P) where
    -- block program and netlist allow exactly the same bits on main's ports
    pub same_bits : (bits : List Signal) → Allows P bits ↔ NetAllows words bits
    same_bits bits =
        subst (λ P. Allows P bits ↔ NetAllows words bits) (ok-inj (sym the-way.reads ∙ reads))
        (subst (λ w. Allows the-way.P bits ↔ NetAllows w bits) (sym the-way.lent) (alike the-way.P the-way.u the-way.unfolds _ bits))

    -- a run on these input bytes shows these values
    module _ (ins values : List ℕ) (given : Inputs words ins) (shows : Shows words ins values) where
      -- the input bits
      abbrev pub bits_in : List Signal
      bits_in = map from_byte ins

      in-length : length bits_in ≡ inputs words
      in-length = length-map ins from_byte ∙ given.count

      -- what it shows on a port as 0 or 1 holds in every combination that the program allows with these inputs
      pub shown-right : (i : ℕ) (b : Signal) → i < inputs words + outputs words → get_or values i 0 ≡ to_byte b
          → (out : List Signal) → Allows P (bits_in ++ out) → get_or (bits_in ++ out) i dark ≡ b
      shown-right i b h e out a =
          port-right words bits_in out in-length ((same_bits (bits_in ++ out)).0 a) i b h (shown-bit b (shows.each i (omega (arith, well-formed.ports))) e)

      -- if it shows 0 or 1 on all wires, the program allows exactly one combination with these inputs
      module _ (all : (i : ℕ) → i < wires words → get_or values i 0 < 2) where
        known : (i : ℕ) → i < wires words → (b : Signal) × Known words bits_in i b
        known i h = shown-settled (shows.each i h) (all i h)

        pub the-outputs : List Signal
        the-outputs = outs words well-formed bits_in in-length known

        pub one : Allows P (bits_in ++ the-outputs)
        unfolding the-outputs
        one = (same_bits _).1 (allowed words well-formed bits_in in-length known)

        pub no_other : (out : List Signal) → Allows P (bits_in ++ out) → out ≡ the-outputs
        unfolding the-outputs
        no_other out a = only words well-formed bits_in in-length known out ((same_bits _).0 a)
