-- The fire times of a trigger as a test, and the least of them that is later. Times are in ms.
use Rattle.std.specs.Prelude.{ℕ, zero, suc, ◌+◌, ◌-◌, ◌*◌, ◌/◌, ◌%◌, ◌==◌, ℤ, pos, negsuc, ◌+ℤ◌, ◌-ℤ◌, Bool, true, false, not, ◌&&◌, ◌||◌, nat_lt, int_le, int_lt, unsigned_abs, List, Option, Some, None, if◌then◌else◌}
use Rattle.std.specs.List.{list_all}
use Rattle.std.specs.Ordering.{int_eq}
use Rattle.qz_civil.specs.declared.dates.Date.{Date}
use Rattle.qz_civil.specs.declared.limits.TheConstants.{DAY_MS, LAST}
use Rattle.qz_civil.specs.declared.stretches.Stretch.{Stretch}
use Rattle.qz_civil.specs.declared.timings.Kind.{Kind}
use Rattle.qz_civil.specs.declared.timings.Kind.TheVariants.{Simple, Cron, Interval, Daily}
use Rattle.qz_civil.specs.declared.timings.Timing.{Timing}
use Rattle.qz_civil.specs.declared.timings.Unit.{Unit}
use Rattle.qz_civil.specs.declared.timings.Unit.TheVariants as units
use Rattle.qz_civil.specs.Dates.{date_of}
use Rattle.qz_civil.specs.Fields.{meets}
use Rattle.qz_civil.specs.Months.{day_in_month, month_number}
use Rattle.qz_civil.specs.Zones.{civil, fixed_offset, local, offset_at}
use Rattle.qz_calendar.specs.Chains.{ZonedCalendar, excludes_at}
use Rattle.qz_daily.specs.declared.patterns.Pattern.{Pattern}
use Rattle.qz_daily.specs.Timestamps.{pattern, is_weekday, is_time}
use Rattle.qz_plan.specs.Schedule.{start_second}

-- t is before the end, where there is one
abbrev pub is_before : Option ℤ → ℤ → Bool
is_before None t = true
is_before (Some end) t = int_lt t end

-- t is not after the end, where there is one
abbrev pub is_up_to : Option ℤ → ℤ → Bool
is_up_to None t = true
is_up_to (Some end) t = int_le t end

-- a second begins at t
abbrev pub is_whole_second : ℤ → Bool
is_whole_second t = unsigned_abs t % 1000 == 0

-- n is a whole number of steps, and no more than the count, where it isn't -1
abbrev pub is_counted : ℕ → ℤ → ℕ → Bool
is_counted step count n = if step == 0 then n == 0 else (n % step == 0) && (int_eq count (negsuc 0) || int_le (pos (n / step)) count)

-- t comes a number of intervals after the start
abbrev pub is_simple_time : ℤ → ℤ → ℤ → ℤ → Bool
is_simple_time start interval count t = int_le start t && is_counted (unsigned_abs interval) count (unsigned_abs (t -ℤ start))

-- some of so many ms from 0 on shows this on the local clock
abbrev pub is_shown_before : List Stretch → ℕ → ℕ → Bool
is_shown_before zone clock zero = false
is_shown_before zone clock (suc n) = (local zone (pos n) == clock) || is_shown_before zone clock n

-- the day comes one or more steps of days after the first
abbrev pub is_day_later : ℕ → ℕ → ℕ → Bool
is_day_later step first day = nat_lt first day && ((day - first) % step == 0)

abbrev pub same_date : Date → Date → Bool
same_date a b = (a.year == b.year) && (a.month == b.month) && (a.day == b.day)

-- the day comes one or more steps of months after the first: on its day of the month, or on the last where there are fewer
abbrev pub is_month_later : ℕ → ℕ → ℕ → Bool
is_month_later step first day =
    is_day_later step (month_number (date_of first)) (month_number (date_of day))
    && same_date (date_of day) (day_in_month (month_number (date_of day)) (date_of first).day)

-- the clock shows m on a later day of that stepping, at the time of day of l
abbrev pub is_turn : (ℕ → ℕ → Bool) → ℕ → ℕ → Bool
is_turn is_later l m = (m % DAY_MS == l % DAY_MS) && is_later (l / DAY_MS) (m / DAY_MS)

-- t is the earliest timestamp at which the clock shows a turn
abbrev pub is_shown_first : List Stretch → (ℕ → Bool) → ℤ → Bool
is_shown_first zone is_turn t = is_turn (local zone t) && not (is_shown_before zone (local zone t) (unsigned_abs t))

-- some number between the two passes
abbrev pub is_between : (ℕ → Bool) → ℕ → ℕ → Bool
is_between passes low zero = false
is_between passes low (suc n) = (nat_lt low n && passes n) || is_between passes low n

-- t is the moment of a turn by the flags, as `IsMoment` says it
abbrev pub is_moment : Bool → Bool → List Stretch → (ℕ → Bool) → ℤ → ℤ → Bool
is_moment true true zone is_turn start t = is_shown_first zone is_turn t
is_moment true false zone is_turn start t = is_shown_first zone is_turn t || is_between is_turn (local zone (t -ℤ pos 1)) (local zone t)
is_moment false skip zone is_turn start t = is_turn (local (fixed_offset (offset_at zone start)) t)

-- t is the start, or the moment of the start's time of day on a later day of that stepping
abbrev pub is_dated_time : Bool → Bool → List Stretch → (ℕ → ℕ → Bool) → ℤ → ℤ → Bool
is_dated_time preserve skip zone is_later start t =
    int_eq t start || (int_lt start t && is_moment preserve skip zone (is_turn is_later (local zone start)) start t)

-- by unit
abbrev pub is_interval_time : ℤ → Unit → ℕ → Bool → Bool → List Stretch → ℤ → Bool
is_interval_time start units.Second every preserve skip zone t = is_simple_time start (pos (every * 1000)) (negsuc 0) t
is_interval_time start units.Minute every preserve skip zone t = is_simple_time start (pos (every * 60000)) (negsuc 0) t
is_interval_time start units.Hour every preserve skip zone t = is_simple_time start (pos (every * 3600000)) (negsuc 0) t
is_interval_time start units.Day every preserve skip zone t = is_dated_time preserve skip zone (is_day_later every) start t
is_interval_time start units.Week every preserve skip zone t = is_dated_time preserve skip zone (is_day_later (every * 7)) start t
is_interval_time start units.Month every preserve skip zone t = is_dated_time preserve skip zone (is_month_later every) start t
is_interval_time start units.Year every preserve skip zone t = is_dated_time preserve skip zone (is_month_later (every * 12)) start t

abbrev pub is_daily_time : ℤ → Pattern → List Stretch → ℤ → Bool
is_daily_time start p zone t =
    is_whole_second t && is_weekday p (civil zone t).weekday && is_time p (civil zone t).second && int_le start t

-- t is in the schedule, as `IsScheduled` says it
abbrev pub is_scheduled : Kind → List Stretch → ℤ → Option ℤ → ℤ → Bool
is_scheduled (Simple interval count) zone start end t = is_simple_time start interval count t && is_before end t
is_scheduled (Cron fields name) zone start end t =
    is_whole_second t && meets fields (civil zone t) && int_le (start_second start) t && is_up_to end t
is_scheduled (Interval unit every name preserve skip) zone start end t = is_interval_time start unit every preserve skip zone t && is_before end t
is_scheduled (Daily unit every from to days name) zone start end t = is_daily_time start (pattern unit every from to days) zone t && is_before end t

-- t is a fire time, as `IsFireTime` says it
abbrev pub is_fire_time : Timing → List Stretch → List ZonedCalendar → ℤ → Bool
is_fire_time timing zone chain t =
    is_scheduled timing.kind zone timing.start timing.end t && list_all (λ calendar. not (excludes_at calendar t)) chain

-- the first of so many timestamps from t on that passes
abbrev pub first_from : (ℤ → Bool) → ℕ → ℤ → Option ℤ
first_from passes zero t = None
first_from passes (suc n) t = if passes t then Some t else first_from passes n (t +ℤ pos 1)

-- the least fire time after t, which is -1 or later, up to LAST
unfoldable pub fire_time_after : Timing → List Stretch → List ZonedCalendar → ℤ → Option ℤ
fire_time_after timing zone chain t = first_from (is_fire_time timing zone chain) (unsigned_abs LAST + 1 - unsigned_abs (t +ℤ pos 1)) (t +ℤ pos 1)
