use Rattle.std.proofs.Common.{◌≡◌, ◌<◌, ◌^◌, drop}
use Rattle.qz_words.specs.Numbers.{decimal}
use Rattle.qz_words.proofs.numbers.number_of.Given as goal

abbrev pub invariant-loop-b : goal.invariant-loop-b
invariant-loop-b l = record {
  value : decimal l.number (drop l.b-index l.digits) ≡ decimal 0 l.digits;
  small : l.number < 10 ^ l.b-index;
}
