use Rattle.std.proofs.Common.{◌≡◌, ◌+◌, ◌≤◌, drop}
use Rattle.tape.specs.Written.{put}
use Rattle.sweep.specs.Sweep.{firsts}
use Rattle.headings.proofs.gather_firsts.Given as goal

abbrev pub invariant-loop-word : goal.invariant-loop-word
invariant-loop-word l = record {
  few : l.next ≤ 4 + l.word-index;
  fewer : l.blocks ≤ l.word-index;
  ahead : put l.places l.blocks (firsts l.next (drop l.word-index l.tape)) ≡ put l.initial.places 0 (firsts 4 l.tape);
}
