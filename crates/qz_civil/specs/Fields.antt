-- The seven fields of a cron text, and when a civil time meets them, by the rules of Quartz's CronExpression.
use Rattle.std.specs.Prelude.{ℕ, ◌+◌, ◌-◌, ◌/◌, ◌%◌, ◌^◌, min, pos, Bool, true, false, not, nat_lt, nat_le, int_le, ◌&&◌, ◌||◌, ◌==◌, if◌then◌else◌, slice_index, List, [], ◌∷◌}
use Rattle.std.specs.Int.{bit_at}
use Rattle.qz_civil.specs.declared.dates.Civil.{Civil}
use Rattle.qz_civil.specs.declared.dates.Date.{Date}
use Rattle.qz_civil.specs.declared.fields.CronFields.{CronFields}
use Rattle.qz_civil.specs.declared.fields.DayField.{DayField}
use Rattle.qz_civil.specs.declared.fields.DayField.TheVariants as days
use Rattle.qz_civil.specs.declared.fields.Field.{Field}
use Rattle.qz_civil.specs.declared.fields.Field.TheVariants.{Seconds, Minutes, Hours, DayOfMonth, Month, DayOfWeek, Year}
use Rattle.qz_civil.specs.declared.fields.WeekField.{WeekField}
use Rattle.qz_civil.specs.declared.fields.WeekField.TheVariants as weeks
use Rattle.qz_civil.specs.declared.limits.TheConstants.{LAST_YEAR}
use Rattle.qz_civil.specs.Dates.{month_length, date_part}

-- the field's place in the text
unfoldable pub number : Field → ℕ
number Seconds = 1
number Minutes = 2
number Hours = 3
number DayOfMonth = 4
number Month = 5
number DayOfWeek = 6
number Year = 7

-- the least value of the field
unfoldable pub least : Field → ℕ
least Seconds = 0
least Minutes = 0
least Hours = 0
least DayOfMonth = 1
least Month = 1
least DayOfWeek = 1
least Year = 1970

-- how many values the field has
unfoldable pub size : Field → ℕ
size Seconds = 60
size Minutes = 60
size Hours = 24
size DayOfMonth = 31
size Month = 12
size DayOfWeek = 7
size Year = LAST_YEAR - 1969

-- the greatest value of the field
unfoldable pub greatest : Field → ℕ
greatest f = least f + size f - 1

-- the number is one of the field's values
unfoldable pub is_value : Field → ℕ → Bool
is_value f v = nat_le (least f) v && nat_le v (greatest f)

-- the set has the i-th value of its field, from 0
unfoldable pub has_bit : ℕ → ℕ → Bool
has_bit set i = bit_at set i == 1

-- the same of a set in words of 64 values
unfoldable pub has_word : List ℕ → ℕ → Bool
has_word words i = has_bit (slice_index words (i / 64)) (i % 64)

-- the weekday of day `other` of the month in which day d has weekday w
abbrev pub weekday_at : ℕ → ℕ → ℕ → ℕ
weekday_at d w other = (w + 34 + other - d) % 7 + 1

-- the day from Monday to Friday that is nearest to day a, whose weekday is w, within a month of that length: of a Saturday the
-- Friday before, but on the 1st the Monday after; of a Sunday the Monday after, but on the last day the Friday before
abbrev pub nearest : ℕ → ℕ → ℕ → ℕ
nearest length a w =
    if w == 7 then (if a == 1 then 3 else a - 1)
    else (if w == 1 then (if a == length then a - 2 else a + 1) else a)

-- Day d, whose weekday is w, of a month of that length meets the field. `L-n` is n days before the last one, `LW` the last
-- from Monday to Friday, and `aW` the one from Monday to Friday that is nearest to day a: a month without that day has none.
unfoldable pub in_days : DayField → ℕ → ℕ → ℕ → Bool
in_days days.Any length d w = true
in_days (days.Set set) length d w = has_bit set (d - 1)
in_days (days.Last back) length d w = d + back == length
in_days days.LastWeekday length d w = d == nearest length length (weekday_at d w length)
in_days (days.Nearest a) length d w = (nat_le 1 a && nat_le a length) && (d == nearest length a (weekday_at d w a))

-- the same of the week's field: `aL` is weekday a in the month's last seven days, and `a#k` the k-th weekday a of the month
unfoldable pub in_week : WeekField → ℕ → ℕ → ℕ → Bool
in_week weeks.Any length d w = true
in_week (weeks.Set set) length d w = has_bit set (w - 1)
in_week (weeks.Last day) length d w = (w == day) && nat_lt length (d + 7)
in_week (weeks.Nth day nth) length d w = (w == day) && ((d + 6) / 7 == nth)

-- the months have this one, from 1 for January
unfoldable pub in_months : CronFields → ℕ → Bool
in_months f m = has_bit f.months (m - 1)

-- a local year outside 1970 to LAST_YEAR meets no field, `*` neither
unfoldable pub in_years : CronFields → ℕ → Bool
in_years f y = is_value Year y && has_word f.years (y - 1970)

-- the date, whose weekday is w, meets the four fields on it
unfoldable pub meets_date : CronFields → Date → ℕ → Bool
meets_date f d w =
    (in_years f d.year && in_months f d.month)
    && (in_days f.day (month_length d) d.day w && in_week f.week (month_length d) d.day w)

-- the second of the day meets the three fields on it
unfoldable pub meets_time : CronFields → ℕ → Bool
meets_time f s = has_bit f.hours (s / 3600) && (has_bit f.minutes (s % 3600 / 60) && has_bit f.seconds (s % 3600 % 60))

-- the civil time meets the fields; no field has a negative year
abbrev pub meets : CronFields → Civil → Bool
meets f c = int_le (pos 0) c.year && (meets_date f (date_part c) c.weekday && meets_time f c.second)

-- Which fields a cron text may give.

-- a set of at least one value, with no bit beyond the greatest
unfoldable pub is_set : Field → ℕ → Bool
is_set f set = nat_lt 0 set && nat_lt set (2 ^ size f)

-- words of 64 values each, with no bit beyond the first n
abbrev pub is_within_words : ℕ → List ℕ → Bool
is_within_words n [] = true
is_within_words n (w ∷ ws) = nat_lt w (2 ^ min n 64) && is_within_words (n - 64) ws

-- some word has a bit
abbrev pub has_some : List ℕ → Bool
has_some [] = false
has_some (w ∷ ws) = nat_lt 0 w || has_some ws

-- words of at least one year, with no bit beyond the last year
unfoldable pub is_year_set : List ℕ → Bool
is_year_set words = has_some words && is_within_words (size Year) words

-- a right field of the days of the month: `L-n` has n up to 30
unfoldable pub is_day_field : DayField → Bool
is_day_field days.Any = true
is_day_field (days.Set set) = is_set DayOfMonth set
is_day_field (days.Last back) = nat_le back 30
is_day_field days.LastWeekday = true
is_day_field (days.Nearest a) = is_value DayOfMonth a

-- a right field of the days of the week: `a#k` has k from 1 to 5
unfoldable pub is_week_field : WeekField → Bool
is_week_field weeks.Any = true
is_week_field (weeks.Set set) = is_set DayOfWeek set
is_week_field (weeks.Last day) = is_value DayOfWeek day
is_week_field (weeks.Nth day nth) = is_value DayOfWeek day && (nat_le 1 nth && nat_le nth 5)

-- the field is `?`
abbrev pub is_any_day : DayField → Bool
is_any_day days.Any = true
is_any_day (days.Set set) = false
is_any_day (days.Last back) = false
is_any_day days.LastWeekday = false
is_any_day (days.Nearest a) = false

-- the same of the week's field
abbrev pub is_any_week : WeekField → Bool
is_any_week weeks.Any = true
is_any_week (weeks.Set set) = false
is_any_week (weeks.Last day) = false
is_any_week (weeks.Nth day nth) = false

-- the fields on the time of day are sets
unfoldable pub is_time_fields : CronFields → Bool
is_time_fields f = is_set Seconds f.seconds && is_set Minutes f.minutes && is_set Hours f.hours

-- the fields on the date are right, and of the month's days and the week's just one is named
unfoldable pub is_date_fields : CronFields → Bool
is_date_fields f =
    (is_day_field f.day && is_set Month f.months && is_week_field f.week && is_year_set f.years)
    && (if is_any_day f.day then not (is_any_week f.week) else is_any_week f.week)

-- all seven fields are right
abbrev pub is_cron_fields : CronFields → Bool
is_cron_fields f = is_time_fields f && is_date_fields f
