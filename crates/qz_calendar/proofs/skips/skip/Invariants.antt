use Rattle.std.proofs.Common.{◌-◌, ◌≤◌}
use Rattle.qz_civil.specs.Least.{NoneIn}
use Rattle.qz_calendar.specs.Search.{are_free_at}
use Rattle.qz_calendar.proofs.skips.skip.Given as goal

abbrev pub invariant-loop-moment : goal.invariant-loop-moment
invariant-loop-moment l = record {
  none : NoneIn (are_free_at l.calendars) l.from l.moment;
  later : l.from ≤ l.moment;
  within : l.moment ≤ 7258118400000;
}

abbrev pub decreases-loop-moment : goal.decreases-loop-moment
decreases-loop-moment l = 7258118400000 - l.moment
