use Rattle.std.proofs.Common.{◌≡◌, drop, None}
use Rattle.qz_civil.specs.Calendars.{are_above, is_annual_day}
use Rattle.qz_calendar.proofs.listed.are_annual_days.Given as goal

abbrev pub invariant-loop-day : goal.invariant-loop-day
invariant-loop-day l = are_above is_annual_day None l.days ≡ are_above is_annual_day l.before (drop l.day-index l.days)
