use Rattle.std.specs.Prelude.{◌≡◌, take, drop}
use Rattle.sweep.specs.Sweep.{state_of, start, sweep, onto}
use Rattle.names.proofs.sweep_words.Given as goal

abbrev pub invariant-loop-at : goal.invariant-loop-at
invariant-loop-at l = record {
  same : drop l.at l.tape ≡ drop l.at l.initial.tape;
  going : sweep l.blocks.text.now l.blocks.headings.words.now l.blocks.headings.firsts.now l.blocks.titles.now 0 (start l.initial.scope l.initial.until) l.initial.tape ≡ onto (take l.at l.tape) (sweep l.blocks.text.now l.blocks.headings.words.now l.blocks.headings.firsts.now l.blocks.titles.now l.at (state_of l.scope l.until l.spot) (drop l.at l.initial.tape));
}
