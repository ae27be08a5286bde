-- The transactions of clients on calendars and zones.
use Rattle.std.specs.Prelude.{ℕ, suc, ◌+◌, ℤ, List, [], ◌∷◌, Bool, false, not, ◌&&◌, ◌||◌, length, nat_le, nat_lt, count_by, if◌then◌else◌, Option, Some, None, is_some, is_none, option_map}
use Rattle.std.specs.List.{list_any}
use Rattle.qz_types.specs.Rows.{CalendarData, ZoneData}
use Rattle.qz_types.specs.declared.limits.TheConstants.{CALENDAR_LIMIT, CHAIN_LIMIT, ZONE_LIMIT}
use Rattle.qz_types.specs.declared.replies.Reply.TheVariants.{Done}
use Rattle.qz_types.specs.declared.replies.Refusal.{Refusal}
use Rattle.qz_types.specs.declared.replies.Refusal.TheVariants.{UnknownCalendar, UnknownZone, CalendarExists, ZoneExists, InUse, Circle, TooMany}
use Rattle.qz_types.specs.Tables.{SchedulerTables}
use Rattle.qz_types.specs.Outcomes.{Outcome, accepted, unless}
use Rattle.qz_types.specs.Words.{same_text, calendar_of, put_calendar, without_calendar, zone_of, put_zone, without_zone}
use Rattle.qz_types.specs.Chains.{calendar_named, chain_of, ends_within}
use Rattle.qz_model.specs.Plan.{zone_named_by, is_known_zone, is_known_calendar}
use Rattle.qz_model.specs.Tests.{refuse_if, or_refusal}

-- AddCalendar.

-- the place, from 0, of the calendar of this name
abbrev pub place_in : List ℕ → List CalendarData → Option ℕ
place_in name [] = None
place_in name (c ∷ below) = if same_text name c.name then Some 0 else option_map suc (place_in name below)

-- the calendar would be below itself
abbrev pub circle_refusal : Option ℕ → Option Refusal
circle_refusal None = None
circle_refusal (Some place) = Some (Circle place)

-- the calendar is stored, in place of one of its name
unfoldable pub with_new_calendar : CalendarData → List CalendarData → List CalendarData
with_new_calendar c calendars = put_calendar c (without_calendar c.name calendars)

-- where that is done, the chain that begins with this calendar is too long
abbrev pub is_too_long : List CalendarData → CalendarData → Bool
is_too_long calendars d = not (ends_within calendars CHAIN_LIMIT (Some d))

-- Some chain would be too long: its own, or where it takes the place of a stored calendar that of any other.
unfoldable pub makes_too_long : List CalendarData → CalendarData → Bool
makes_too_long calendars c =
    is_too_long (with_new_calendar c calendars) c
    || (is_some (calendar_of c.name calendars) && list_any (is_too_long (with_new_calendar c calendars)) (without_calendar c.name calendars))

unfoldable pub add_calendar_refusal : SchedulerTables → CalendarData → Bool → Option Refusal
add_calendar_refusal T c replace =
    refuse_if (not (is_known_calendar T.calendars c.base)) UnknownCalendar
    (refuse_if (not (is_known_zone T.zones c.zone)) UnknownZone
    (refuse_if (is_some (calendar_of c.name T.calendars) && not replace) CalendarExists
    (or_refusal (circle_refusal (place_in c.name (chain_of T.calendars CHAIN_LIMIT (calendar_named T.calendars c.base))))
    (refuse_if (makes_too_long T.calendars c) (TooMany CHAIN_LIMIT)
    (refuse_if (is_none (calendar_of c.name T.calendars) && nat_le CALENDAR_LIMIT (length T.calendars)) (TooMany CALENDAR_LIMIT) None)))))

-- the calendar is stored, and triggers keep the next times that they have
abbrev pub add_calendar : SchedulerTables → ℤ → CalendarData → Bool → Outcome
add_calendar T m c replace = unless (add_calendar_refusal T c replace)
    (accepted (record T { calendars = with_new_calendar c T.calendars; last_moment = m }) Done)

-- DeleteCalendar.

-- it is the one that is named, if one is
abbrev pub is_named : List ℕ → Option (List ℕ) → Bool
is_named name None = false
is_named name (Some other) = same_text name other

-- how many triggers and calendars name the calendar
unfoldable pub calendar_uses : SchedulerTables → List ℕ → ℕ
calendar_uses T name = count_by (λ t. is_named name t.spec.calendar) T.triggers + count_by (λ c. is_named name c.base) T.calendars

-- what so many others name can't go
abbrev pub use_refusal : ℕ → Option Refusal
use_refusal uses = refuse_if (nat_lt 0 uses) (InUse uses) None

unfoldable pub delete_calendar_refusal : SchedulerTables → List ℕ → Option Refusal
delete_calendar_refusal T name =
    refuse_if (is_none (calendar_of name T.calendars)) UnknownCalendar (use_refusal (calendar_uses T name))

abbrev pub delete_calendar : SchedulerTables → ℤ → List ℕ → Outcome
delete_calendar T m name = unless (delete_calendar_refusal T name)
    (accepted (record T { calendars = without_calendar name T.calendars; last_moment = m }) Done)

-- AddZone. `UTC` counts as stored.

unfoldable pub add_zone_refusal : SchedulerTables → ZoneData → Option Refusal
add_zone_refusal T z =
    refuse_if (is_known_zone T.zones z.name) ZoneExists
    (refuse_if (nat_le ZONE_LIMIT (length T.zones)) (TooMany ZONE_LIMIT) None)

abbrev pub add_zone : SchedulerTables → ℤ → ZoneData → Outcome
add_zone T m z = unless (add_zone_refusal T z) (accepted (record T { zones = put_zone z T.zones; last_moment = m }) Done)

-- DeleteZone.

-- how many triggers and calendars name the zone
unfoldable pub zone_uses : SchedulerTables → List ℕ → ℕ
zone_uses T name = count_by (λ t. is_named name (zone_named_by t.spec.timing.kind)) T.triggers + count_by (λ c. same_text name c.zone) T.calendars

unfoldable pub delete_zone_refusal : SchedulerTables → List ℕ → Option Refusal
delete_zone_refusal T name = refuse_if (is_none (zone_of name T.zones)) UnknownZone (use_refusal (zone_uses T name))

abbrev pub delete_zone : SchedulerTables → ℤ → List ℕ → Outcome
delete_zone T m name = unless (delete_zone_refusal T name) (accepted (record T { zones = without_zone name T.zones; last_moment = m }) Done)
