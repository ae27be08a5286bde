use Rattle.std.proofs.Common.{◌≡◌, ◌≤◌}
use Rattle.arrayvec.specs.ArrayVec.{array_vec_len}
use Rattle.qz_json_rows.specs.Numbers.{numbers_in}
use Rattle.qz_json_rows.proofs.numbers.numbers_in.Given as goal

abbrev pub invariant-loop-index : goal.invariant-loop-index
invariant-loop-index l = record {
  numbers : l.numbers.items ≡ numbers_in l.set l.index;
  few : array_vec_len l.numbers ≤ l.index;
}
