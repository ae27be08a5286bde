use Rattle.std.proofs.Common.{◌-◌, ◌<◌, ◌≤◌}
use Rattle.qz_civil.specs.Least.{NoneIn}
use Rattle.qz_calendar.specs.Search.{are_free_at}
use Rattle.qz_calendar.proofs.moments.next_of_all.Given as goal

abbrev pub invariant-loop-next : goal.invariant-loop-next
invariant-loop-next l = record {
  none : NoneIn (are_free_at l.calendars) l.from l.moment;
  later : l.from ≤ l.moment;
  within : l.moment < 7258118400000;
}

abbrev pub decreases-loop-next : goal.decreases-loop-next
decreases-loop-next l = 7258118400000 - l.moment
