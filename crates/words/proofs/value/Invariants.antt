use Rattle.std.proofs.Common.{◌≡◌, ◌^◌, ◌<◌, true, drop}
use Rattle.rules.specs.Words.{is_digit, all, value_of}
use Rattle.words.proofs.value.Given as goal

abbrev pub invariant-loop-b : goal.invariant-loop-b
invariant-loop-b l = record {
  small : l.v < 10 ^ l.b-index;
  digits : all is_digit (drop l.b-index l.digits) ≡ true;
  says : value_of 0 l.digits ≡ value_of l.v (drop l.b-index l.digits);
}
