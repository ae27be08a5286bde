-- What each level of the search looks for. Days and ms of a local clock are counted from 1969-12-31T00:00:00 on, and timestamps
-- are whole numbers.
use Rattle.std.specs.Prelude.{ℕ, ◌+◌, ◌*◌, ◌/◌, ◌%◌, Bool, not, ◌&&◌, pos, List}
use Rattle.std.specs.List.{list_all, list_any}
use Rattle.qz_civil.specs.declared.calendars.CalendarKind.{CalendarKind}
use Rattle.qz_civil.specs.declared.fields.CronFields.{CronFields}
use Rattle.qz_civil.specs.declared.stretches.Stretch.{Stretch}
use Rattle.qz_civil.specs.Dates.{civil_of}
use Rattle.qz_civil.specs.Fields.{has_bit}
use Rattle.qz_civil.specs.Zones.{local}
use Rattle.qz_calendar.specs.declared.clocks.ClockFields.{ClockFields}
use Rattle.qz_calendar.specs.Chains.{ZonedCalendar, excludes_at}
use Rattle.qz_calendar.specs.Exclusions.{excludes}

-- the set doesn't have the value
abbrev pub lacks : ℕ → ℕ → Bool
lacks set i = not (has_bit set i)

-- the second of the hour meets minutes and seconds
abbrev pub meets_in_hour : CronFields → ℕ → Bool
meets_in_hour f s = has_bit f.minutes (s / 60) && has_bit f.seconds (s % 60)

-- the second of a minute meets the three fields on the time of day
abbrev pub meets_at : ClockFields → ℕ → ℕ → ℕ → Bool
meets_at f hour minute second = has_bit f.hours hour && (has_bit f.minutes minute && has_bit f.seconds second)

-- it meets those of one of the cron texts
abbrev pub any_meets_at : List ClockFields → ℕ → ℕ → ℕ → Bool
any_meets_at fs hour minute second = list_any (λ f. meets_at f hour minute second) fs

-- the same of a second of the day
abbrev pub any_meets : List ClockFields → ℕ → Bool
any_meets fs s = any_meets_at fs (s / 3600) (s % 3600 / 60) (s % 3600 % 60)

-- the calendar doesn't exclude that ms of a local clock
abbrev pub is_free : CalendarKind → ℕ → Bool
is_free kind n = not (excludes kind (civil_of n))

-- the same of a ms of the day
abbrev pub is_free_on : CalendarKind → ℕ → ℕ → Bool
is_free_on kind day milli = is_free kind (day * 86400000 + milli)

-- the same of the local clock that the zone has at a timestamp
abbrev pub is_free_in : CalendarKind → List Stretch → ℕ → Bool
is_free_in kind zone t = is_free kind (local zone (pos t))

-- the calendar doesn't exclude the timestamp
abbrev pub is_free_at : ZonedCalendar → ℕ → Bool
is_free_at calendar t = not (excludes_at calendar (pos t))

-- none of the calendars does
abbrev pub are_free_at : List ZonedCalendar → ℕ → Bool
are_free_at calendars t = list_all (λ calendar. is_free_at calendar t) calendars
