use Rattle.std.proofs.Common.{negsuc, ◌-ℤ◌, ◌≤ℤ◌, unsigned_abs}
use Rattle.qz_civil.specs.declared.limits.TheConstants.{LAST}
use Rattle.qz_plan.proofs.FireLaws.{IsQuiet}
use Rattle.qz_plan.proofs.fire_times.after.Given as goal

abbrev pub invariant-loop-time : goal.invariant-loop-time
invariant-loop-time l = record {
  low : negsuc 0 ≤ℤ l.last;
  high : l.last ≤ℤ LAST;
  later : l.t ≤ℤ l.last;
  quiet : IsQuiet l.timing l.zone l.chain l.t l.last;
}

abbrev pub decreases-loop-time : goal.decreases-loop-time
decreases-loop-time l = unsigned_abs (LAST -ℤ l.last)
