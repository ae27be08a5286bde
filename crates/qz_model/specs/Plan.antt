-- The fire times of a stored trigger, in its zone and with its calendars.
use Rattle.std.specs.Prelude.{ℕ, ℤ, pos, negsuc, int_le, List, Bool, true, ◌||◌, map, codes, Option, Some, None, is_some, if◌then◌else◌}
use Rattle.qz_civil.specs.declared.stretches.Stretch.{Stretch}
use Rattle.qz_civil.specs.declared.timings.Kind.{Kind}
use Rattle.qz_civil.specs.declared.timings.Kind.TheVariants.{Simple, Cron, Interval, Daily}
use Rattle.qz_civil.specs.Zones.{fixed_offset}
use Rattle.qz_calendar.specs.Chains.{ZonedCalendar}
use Rattle.qz_plan.specs.Plan.{fire_time_after}
use Rattle.qz_types.specs.Rows.{CalendarData, ZoneData}
use Rattle.qz_types.specs.declared.limits.TheConstants.{CHAIN_LIMIT}
use Rattle.qz_types.specs.declared.triggers.TriggerSpec.{TriggerSpec}
use Rattle.qz_types.specs.Tables.{SchedulerTables}
use Rattle.qz_types.specs.Words.{same_text, calendar_of, zone_of}
use Rattle.qz_types.specs.Chains.{calendar_named, chain_of}

-- the zone whose local time the kind reads, if it reads one
abbrev pub zone_named_by : Kind → Option (List ℕ)
zone_named_by (Simple interval count) = None
zone_named_by (Cron fields zone) = Some zone
zone_named_by (Interval unit every zone preserve skip) = Some zone
zone_named_by (Daily unit every from to days zone) = Some zone

-- `UTC` is known without a row
unfoldable pub is_utc : List ℕ → Bool
is_utc name = same_text name (codes "UTC")

-- a zone can be used where it is stored; `UTC` always can
unfoldable pub is_known_zone : List ZoneData → List ℕ → Bool
is_known_zone zones name = is_utc name || is_some (zone_of name zones)

-- the same of what a trigger names, if it names one
abbrev pub is_known_zone_name : List ZoneData → Option (List ℕ) → Bool
is_known_zone_name zones None = true
is_known_zone_name zones (Some name) = is_known_zone zones name

abbrev pub is_known_calendar : List CalendarData → Option (List ℕ) → Bool
is_known_calendar calendars None = true
is_known_calendar calendars (Some name) = is_some (calendar_of name calendars)

-- the stretches of a stored zone; valid tables have each zone that is named, but `UTC`
abbrev pub stretches_of_row : Option ZoneData → List Stretch
stretches_of_row None = fixed_offset (pos 0)
stretches_of_row (Some z) = z.stretches

-- the stretches of the zone of this name
unfoldable pub stretches_named : List ZoneData → List ℕ → List Stretch
stretches_named zones name = if is_utc name then fixed_offset (pos 0) else stretches_of_row (zone_of name zones)

-- those of the zone that a kind names, and of `UTC` where it names none
abbrev pub stretches_for : List ZoneData → Option (List ℕ) → List Stretch
stretches_for zones None = fixed_offset (pos 0)
stretches_for zones (Some name) = stretches_named zones name

-- a calendar with the stretches of its zone
abbrev pub zoned : List ZoneData → CalendarData → ZonedCalendar
zoned zones c = record { kind = c.kind; zone = stretches_named zones c.zone }

-- the calendars of a trigger that names this one: it, the calendar below it, and so on
unfoldable pub zoned_chain : SchedulerTables → Option (List ℕ) → List ZonedCalendar
zoned_chain T calendar = map (zoned T.zones) (chain_of T.calendars CHAIN_LIMIT (calendar_named T.calendars calendar))

-- the time, unless it comes after the horizon
abbrev pub within : ℤ → Option ℤ → Option ℤ
within horizon None = None
within horizon (Some time) = if int_le time horizon then Some time else None

-- the trigger's least fire time after t up to the horizon of the tables, if there is one
unfoldable pub next_after : SchedulerTables → TriggerSpec → ℤ → Option ℤ
next_after T s t =
    within T.horizon (fire_time_after s.timing (stretches_for T.zones (zone_named_by s.timing.kind)) (zoned_chain T s.calendar) t)

-- its first fire time, if there is one
abbrev pub first_time : SchedulerTables → TriggerSpec → Option ℤ
first_time T s = next_after T s (negsuc 0)
