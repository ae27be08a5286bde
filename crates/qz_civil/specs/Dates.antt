-- The calendar by counting days: day 0 is 1969-12-31, and each date is the next of the one before. Years are those of
-- the Gregorian calendar.
use Rattle.std.specs.Prelude.{ℕ, zero, suc, ◌+◌, ◌/◌, ◌%◌, Bool, not, ◌&&◌, ◌||◌, ◌==◌, nat_lt, ◌<◌, if◌then◌else◌, pos, ◌≤ℤ◌, unsigned_abs}
use Rattle.std.specs.Int.{IsInRange}
use Rattle.qz_civil.specs.declared.dates.Civil.{Civil}
use Rattle.qz_civil.specs.declared.dates.Date.{Date}
use Rattle.qz_civil.specs.declared.limits.TheConstants.{DAY_MS, DAY_SECONDS}

-- every fourth year has a leap day, but of the centuries only every fourth
abbrev pub is_leap_year : ℕ → Bool
is_leap_year y = (y % 4 == 0) && (not (y % 100 == 0) || (y % 400 == 0))

-- thirty days have September, April, June and November
unfoldable pub days_in_month : ℕ → ℕ → ℕ
days_in_month y m =
    if m == 2 then (if is_leap_year y then 29 else 28)
    else (if (m == 4) || (m == 6) || (m == 9) || (m == 11) then 30 else 31)

-- the length of the date's month
abbrev pub month_length : Date → ℕ
month_length d = days_in_month d.year d.month

-- the next month's first day
unfoldable pub next_month : Date → Date
next_month d =
    if nat_lt d.month 12 then record { year = d.year; month = d.month + 1; day = 1 }
    else record { year = d.year + 1; month = 1; day = 1 }

-- the next day
unfoldable pub next_date : Date → Date
next_date d = if nat_lt d.day (month_length d) then record d { day = d.day + 1 } else next_month d

-- the date of day n
unfoldable pub date_of : ℕ → Date
date_of zero = record { year = 1969; month = 12; day = 31 }
date_of (suc n) = next_date (date_of n)

-- the weekday of day n, from 1 for Sunday: 1969-12-31 was a Wednesday
abbrev pub weekday_of : ℕ → ℕ
weekday_of n = (n + 3) % 7 + 1

-- the calendar has this date
abbrev pub IsDate : Date → Type 0
IsDate d = IsInRange 1 12 d.month × IsInRange 1 (month_length d) d.day

-- a civil time's date, where its year isn't negative
abbrev pub date_part : Civil → Date
date_part c = record { year = unsigned_abs c.year; month = c.month; day = c.day }

-- The calendar has this date (of a negative year, the one without the sign), the weekday is 1 to 7, and the second is one of a
-- day. The millisecond may be any.
abbrev pub IsCivil : Civil → Type 0
IsCivil c = IsDate (date_part c) × IsInRange 1 7 c.weekday × (c.second < DAY_SECONDS)

-- its year isn't negative, and its second and millisecond are within their ranges
pub record IsInRanges (c : Civil) : Type 0 where
  pub year : pos 0 ≤ℤ c.year
  pub second : c.second < DAY_SECONDS
  pub milli : c.milli < 1000

-- the civil time that is n ms after 1969-12-31T00:00:00
abbrev pub civil_of : ℕ → Civil
civil_of n = record {
  year = pos (date_of (n / DAY_MS)).year;
  month = (date_of (n / DAY_MS)).month;
  day = (date_of (n / DAY_MS)).day;
  weekday = weekday_of (n / DAY_MS);
  second = n % DAY_MS / 1000;
  milli = n % 1000;
}
