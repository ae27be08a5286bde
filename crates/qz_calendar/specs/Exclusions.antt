-- Which local times each kind of calendar excludes, as Quartz's AnnualCalendar, HolidayCalendar, WeeklyCalendar,
-- MonthlyCalendar, DailyCalendar and CronCalendar do.
use Rattle.std.specs.Prelude.{ℕ, ◌+◌, ◌-◌, ◌*◌, Bool, not, ◌==◌, if◌then◌else◌, List, unsigned_abs}
use Rattle.std.specs.List.{list_any}
use Rattle.qz_civil.specs.declared.calendars.CalendarKind.{CalendarKind}
use Rattle.qz_civil.specs.declared.calendars.CalendarKind.TheVariants.{Annual, Holiday, Weekly, Monthly, Daily, Cron}
use Rattle.qz_civil.specs.declared.dates.Civil.{Civil}
use Rattle.qz_civil.specs.Calendars.{is_from_to}
use Rattle.qz_civil.specs.Fields.{has_bit, meets}

-- the number is in the list
abbrev pub lists : List ℕ → ℕ → Bool
lists ns n = list_any (λ m. m == n) ns

-- the millisecond of the day
abbrev pub milli_of_day : Civil → ℕ
milli_of_day c = c.second * 1000 + c.milli

-- The local time is on a listed day of the year, on a listed date, on a weekday of the set, on a day of the month of the set, in
-- the part of the day (or where it is inverted, outside it), or in a second that meets the cron text.
unfoldable pub excludes : CalendarKind → Civil → Bool
excludes (Annual days) c = lists days (c.month * 100 + c.day)
excludes (Holiday dates) c = lists dates (unsigned_abs c.year * 10000 + c.month * 100 + c.day)
excludes (Weekly days) c = has_bit days (c.weekday - 1)
excludes (Monthly days) c = has_bit days (c.day - 1)
excludes (Daily from to inverted) c = if inverted then not (is_from_to from to (milli_of_day c)) else is_from_to from to (milli_of_day c)
excludes (Cron fields) c = meets fields c
