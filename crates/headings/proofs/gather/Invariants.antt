use Rattle.std.proofs.Common.{◌≡◌, ◌+◌, ◌≤◌, ℕ, Bool, length, drop, filter}
use Rattle.tape.specs.Written.{put}
use Rattle.headings.proofs.gather.Given as goal

abbrev pub invariant-loop-word : goal.invariant-loop-word
invariant-loop-word g l = record {
  few : l.next ≤ l.from + l.word-index;
  ahead : (p : ℕ → Bool) → ((w : ℕ) (b : Bool) → goal.F-post g l.wanted w b → b ≡ p w) → (put l.rows l.next (filter p (drop l.word-index l.tape)) ≡ put l.initial.rows l.from (filter p l.tape)) × (l.next + length (filter p (drop l.word-index l.tape)) ≡ l.from + length (filter p l.tape));
}
