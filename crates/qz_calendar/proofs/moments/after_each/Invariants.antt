use Rattle.std.proofs.Common.{◌≡◌, ◌<◌, ◌≤◌, true, take}
use Rattle.qz_civil.specs.Least.{NoneIn}
use Rattle.qz_calendar.specs.Search.{are_free_at}
use Rattle.qz_calendar.proofs.moments.after_each.Given as goal

abbrev pub invariant-loop-calendar : goal.invariant-loop-calendar
invariant-loop-calendar l = record {
  none : NoneIn (are_free_at l.calendars) l.from l.moment;
  later : l.from ≤ l.moment;
  within : l.moment < 7258118400000;
  same : l.moment ≡ l.from → are_free_at (take l.calendar-index l.calendars) l.from ≡ true;
}
