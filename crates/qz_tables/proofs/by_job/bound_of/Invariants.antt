use Rattle.std.proofs.Common.{◌-◌, ◌≤◌, length}
use Rattle.qz_tables.specs.Slots.{rows_at}
use Rattle.qz_tables.proofs.ByJobLemmas.{IsSearched}
use Rattle.qz_tables.proofs.by_job.bound_of.Given as goal

abbrev pub invariant-loop-low : goal.invariant-loop-low
invariant-loop-low g l = record {
  within : l.high ≤ length l.order;
  searched : IsSearched g.R.OfAJob.job l.bound l.job (rows_at l.rows.slots l.order) l.low l.high;
}

abbrev pub decreases-loop-low : goal.decreases-loop-low
decreases-loop-low g l = l.high - l.low
