use Rattle.std.proofs.Common.{◌≡◌, ◌+◌, ◌≤◌, drop}
use Rattle.sweep.specs.Sweep.{generics_given}
use Rattle.headings.proofs.generics_given.Given as goal

abbrev pub invariant-loop-word : goal.invariant-loop-word
invariant-loop-word l = record {
  few : l.given ≤ l.word-index;
  ahead : l.given + generics_given l.inside (drop l.word-index l.words) ≡ generics_given 0 l.words;
}
