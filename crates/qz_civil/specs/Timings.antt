-- Which kinds and timings are valid. Times are in ms.
use Rattle.std.specs.Prelude.{ℕ, ◌*◌, ◌^◌, ℤ, pos, negsuc, Bool, true, false, ◌&&◌, ◌||◌, nat_lt, nat_le, int_le, List, length, Option, Some, None}
use Rattle.std.specs.Ordering.{int_eq}
use Rattle.qz_civil.specs.declared.limits.TheConstants.{COUNT_LIMIT, DAY_SECONDS, EVERY_LIMIT, LAST, LONGEST, NAME_LIMIT}
use Rattle.qz_civil.specs.declared.timings.Kind.{Kind}
use Rattle.qz_civil.specs.declared.timings.Kind.TheVariants.{Simple, Cron, Interval, Daily}
use Rattle.qz_civil.specs.declared.timings.Timing.{Timing}
use Rattle.qz_civil.specs.declared.timings.Unit.{Unit}
use Rattle.qz_civil.specs.declared.timings.Unit.TheVariants.{Second, Minute, Hour, Day, Week, Month, Year}
use Rattle.qz_civil.specs.Fields.{is_cron_fields}

-- from low to high, both included
abbrev pub is_within : ℤ → ℤ → ℤ → Bool
is_within low high n = int_le low n && int_le n high

-- a timestamp that the scheduler knows
abbrev pub is_timestamp : ℤ → Bool
is_timestamp t = is_within (pos 0) LAST t

-- a start, an end or a span
abbrev pub is_span : ℤ → Bool
is_span t = is_within (pos 0) LONGEST t

-- a group, name, class, calendar or zone name
abbrev pub is_name : List ℕ → Bool
is_name s = nat_lt 0 (length s) && nat_le (length s) NAME_LIMIT

-- how many seconds the unit has, where it always has as many
unfoldable pub seconds : Unit → Option ℕ
seconds Second = Some 1
seconds Minute = Some 60
seconds Hour = Some 3600
seconds Day = None
seconds Week = None
seconds Month = None
seconds Year = None

-- once, or with an interval of at least 1 ms and a count from -1 (without end) to COUNT_LIMIT
abbrev pub is_simple : ℤ → ℤ → Bool
is_simple interval count =
    (int_eq interval (pos 0) && int_eq count (pos 0))
    || (is_within (pos 1) LONGEST interval && is_within (negsuc 0) COUNT_LIMIT count)

-- at least one unit, and no more than EVERY_LIMIT
abbrev pub is_every : ℕ → Bool
is_every every = nat_le 1 every && nat_le every EVERY_LIMIT

-- so many units of that many seconds are a second to a day; units that vary in length aren't
abbrev pub is_day_step : Option ℕ → ℕ → Bool
is_day_step None every = false
is_day_step (Some length) every = nat_le 1 (every * length) && nat_le (every * length) DAY_SECONDS

-- the step of a daily trigger
unfoldable pub is_step : Unit → ℕ → Bool
is_step unit every = is_day_step (seconds unit) every

-- a step of a second to a day, from one second of the day to a later one or the same
abbrev pub is_daily_time : Unit → ℕ → ℕ → ℕ → Bool
is_daily_time unit every from to = is_step unit every && (nat_le from to && nat_lt to DAY_SECONDS)

-- some of the seven days
abbrev pub is_day_set : ℕ → Bool
is_day_set days = nat_lt 0 days && nat_lt days (2 ^ 7)

-- what the kind has is within its limits
abbrev pub is_kind : Kind → Bool
is_kind (Simple interval count) = is_simple interval count
is_kind (Cron fields zone) = is_cron_fields fields && is_name zone
is_kind (Interval unit every zone preserve skip) = is_every every && is_name zone
is_kind (Daily unit every from to days zone) = is_daily_time unit every from to && (is_day_set days && is_name zone)

-- the misfire instructions of a kind, numbered as in Quartz: -1 ignores misfires, 0 leaves it to the kind
abbrev pub is_misfire : Kind → ℤ → Bool
is_misfire (Simple interval count) code = is_within (negsuc 0) (pos 5) code
is_misfire (Cron fields zone) code = is_within (negsuc 0) (pos 2) code
is_misfire (Interval unit every zone preserve skip) code = is_within (negsuc 0) (pos 2) code
is_misfire (Daily unit every from to days zone) code = is_within (negsuc 0) (pos 2) code

-- none, or a time
abbrev pub is_end : Option ℤ → Bool
is_end None = true
is_end (Some t) = is_span t

-- the kind is valid, and the misfire instruction, the start and the end are
abbrev pub is_timing : Timing → Bool
is_timing t = is_kind t.kind && is_misfire t.kind t.misfire && is_span t.start && is_end t.end
