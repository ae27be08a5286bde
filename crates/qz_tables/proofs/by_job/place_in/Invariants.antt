use Rattle.std.proofs.Common.{◌≢◌, ◌-◌, ◌<◌, ◌≤◌, ℕ, get_or, length}
use Rattle.qz_tables.proofs.by_job.place_in.Given as goal

abbrev pub invariant-loop-place : goal.invariant-loop-place
invariant-loop-place g l = record {
  within : l.high ≤ length l.order;
  from : l.low ≤ l.place;
  none : (i : ℕ) → l.low ≤ i → i < l.place → get_or l.order i 0 ≢ l.slot;
}

abbrev pub decreases-loop-place : goal.decreases-loop-place
decreases-loop-place g l = l.high - l.place
