-- Which calendars are valid. Lists are ascending, so that none has an item twice. The kinds are those of Quartz's AnnualCalendar,
-- HolidayCalendar, WeeklyCalendar, MonthlyCalendar, DailyCalendar and CronCalendar.
use Rattle.std.specs.Prelude.{ℕ, ◌/◌, ◌%◌, ◌^◌, Bool, true, ◌&&◌, nat_lt, nat_le, List, [], ◌∷◌, length, Option, Some, None}
use Rattle.qz_civil.specs.declared.calendars.CalendarKind.{CalendarKind}
use Rattle.qz_civil.specs.declared.calendars.CalendarKind.TheVariants.{Annual, Holiday, Weekly, Monthly, Daily, Cron}
use Rattle.qz_civil.specs.declared.limits.TheConstants.{ANNUAL_LIMIT, DAY_MS, HOLIDAY_LIMIT, LAST_YEAR}
use Rattle.qz_civil.specs.Dates.{days_in_month}
use Rattle.qz_civil.specs.Fields.{is_cron_fields}

-- from low to high, both included
abbrev pub is_from_to : ℕ → ℕ → ℕ → Bool
is_from_to low high n = nat_le low n && nat_le n high

-- month * 100 + day; the 31st of any month is one
abbrev pub is_annual_day : ℕ → Bool
is_annual_day n = is_from_to 1 12 (n / 100) && is_from_to 1 31 (n % 100)

-- the calendar has this date
abbrev pub is_date : ℕ → ℕ → ℕ → Bool
is_date year month day = is_from_to 1970 LAST_YEAR year && (is_from_to 1 12 month && is_from_to 1 (days_in_month year month) day)

-- year * 10000 + month * 100 + day
abbrev pub is_holiday : ℕ → Bool
is_holiday n = is_date (n / 10000) (n / 100 % 100) (n % 100)

-- it is above the one before
abbrev pub is_above : Option ℕ → ℕ → Bool
is_above None n = true
is_above (Some before) n = nat_lt before n

-- each passes the test and is above the one before; `before` is the one before the first
abbrev pub are_above : (ℕ → Bool) → Option ℕ → List ℕ → Bool
are_above passes before [] = true
are_above passes before (n ∷ ns) = passes n && is_above before n && are_above passes (Some n) ns

-- at most so many, each of which passes the test, in ascending order
abbrev pub is_list_of : (ℕ → Bool) → ℕ → List ℕ → Bool
is_list_of passes limit ns = nat_le (length ns) limit && are_above passes None ns

-- a millisecond of the day from one to another
abbrev pub is_day_part : ℕ → ℕ → Bool
is_day_part from to = nat_le from to && nat_lt to DAY_MS

-- what the kind has is within its limits
abbrev pub is_calendar_kind : CalendarKind → Bool
is_calendar_kind (Annual days) = is_list_of is_annual_day ANNUAL_LIMIT days
is_calendar_kind (Holiday dates) = is_list_of is_holiday HOLIDAY_LIMIT dates
is_calendar_kind (Weekly days) = nat_lt days (2 ^ 7)
is_calendar_kind (Monthly days) = nat_lt days (2 ^ 31)
is_calendar_kind (Daily from to inverted) = is_day_part from to
is_calendar_kind (Cron fields) = is_cron_fields fields
