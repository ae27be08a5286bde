use Rattle.std.proofs.Common.{◌≡◌, drop, None}
use Rattle.qz_civil.specs.Calendars.{are_above, is_holiday}
use Rattle.qz_calendar.proofs.listed.are_holidays.Given as goal

abbrev pub invariant-loop-date : goal.invariant-loop-date
invariant-loop-date l = are_above is_holiday None l.dates ≡ are_above is_holiday l.before (drop l.date-index l.dates)
