-- What each level of the search looks for. Days, seconds and months of the local clock are counted: days and seconds
-- from 1969-12-31T00:00:00 on, months from January of the year 0 on.
use Rattle.std.specs.Prelude.{◌≡◌, ℕ, ◌+◌, ◌-◌, ◌*◌, ◌/◌, ◌%◌, ◌<◌, ◌≤◌, Bool, false, ◌&&◌, pos, List}
use Rattle.std.specs.Int.{IsInRange}
use Rattle.qz_civil.specs.declared.dates.Date.{Date}
use Rattle.qz_civil.specs.declared.fields.CronFields.{CronFields}
use Rattle.qz_civil.specs.declared.limits.TheConstants.{DAY_SECONDS, GREATEST_SHIFT_SECONDS, LEAST_SHIFT_SECONDS}
use Rattle.qz_civil.specs.declared.stretches.Stretch.{Stretch}
use Rattle.qz_civil.specs.Dates.{date_of, days_in_month, weekday_of}
use Rattle.qz_civil.specs.Fields.{has_bit, in_days, in_week, in_years, meets, meets_date, meets_time}
use Rattle.qz_civil.specs.Zones.{civil}

-- a number passes where its quotient by n passes the one test and its remainder the other
abbrev pub both_parts : ℕ → (ℕ → Bool) → (ℕ → Bool) → ℕ → Bool
both_parts n high low x = high (x / n) && low (x % n)

-- the second of the hour
abbrev pub meets_in_hour : CronFields → ℕ → Bool
meets_in_hour f = both_parts 60 (has_bit f.minutes) (has_bit f.seconds)

-- the month, whatever its days
abbrev pub meets_month : CronFields → ℕ → Bool
meets_month f = both_parts 12 (in_years f) (has_bit f.months)

-- the day meets the four fields on it
abbrev pub meets_day : CronFields → ℕ → Bool
meets_day f k = meets_date f (date_of k) (weekday_of k)

-- the second of the local clock meets the seven fields
abbrev pub meets_second : CronFields → ℕ → Bool
meets_second f = both_parts DAY_SECONDS (meets_day f) (meets_time f)

-- the zone's local time at second s from 1970-01-01T00:00:00Z on meets the seven fields
abbrev pub meets_at : CronFields → List Stretch → ℕ → Bool
meets_at f zone s = meets f (civil zone (pos (s * 1000)))

-- the first day of that month
abbrev pub first_of : ℕ → Date
first_of number = record { year = number / 12; month = number % 12 + 1; day = 1 }

-- how many days that month has
abbrev pub month_days : ℕ → ℕ
month_days number = days_in_month (number / 12) (number % 12 + 1)

-- no day of the month meets the day of the month, or the month isn't met
abbrev pub IsBare : CronFields → ℕ → Type 0
IsBare f number = (d w : ℕ) → IsInRange 1 (month_days number) d → (meets_month f number && in_days f.day (month_days number) d w) ≡ false

-- the weekday of day d of the month that begins with day `start`
abbrev pub weekday_in : ℕ → ℕ → ℕ
weekday_in start d = weekday_of (start + d - 1)

-- day d of a month of that length that begins with day `start`: the two fields on days
abbrev pub meets_in_month : CronFields → ℕ → ℕ → ℕ → Bool
meets_in_month f length start d = in_days f.day length d (weekday_in start d) && in_week f.week length d (weekday_in start d)

-- q at each second is p at the local second, which is 6 to 42 hours further
abbrev pub IsShiftOf : (ℕ → Bool) → (ℕ → Bool) → Type 0
IsShiftOf p q = (s : ℕ) → (shift : ℕ) × (LEAST_SHIFT_SECONDS ≤ shift) × (shift ≤ GREATEST_SHIFT_SECONDS) × (q s ≡ p (s + shift))
