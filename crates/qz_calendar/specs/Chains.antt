-- Which timestamps a chain of calendars includes.
use Rattle.std.specs.Prelude.{◌≡◌, Bool, false, ℤ, List, [], All, Option, None, Some}
use Rattle.arrayvec.specs.ArrayVec.{ArrayVec}
use Rattle.qz_civil.specs.declared.calendars.CalendarKind.{CalendarKind}
use Rattle.qz_civil.specs.declared.stretches.Stretch.{Stretch}
use Rattle.qz_civil.specs.Zones.{civil}
use Rattle.qz_calendar.specs.Exclusions.{excludes}

-- a calendar, and the stretches of the zone whose local time it reads
pub record ZonedCalendar : Type 0 where
  pub kind : CalendarKind
  pub zone : List Stretch

-- the calendar excludes the local time that its zone has at t
abbrev pub excludes_at : ZonedCalendar → ℤ → Bool
excludes_at calendar t = excludes calendar.kind (civil calendar.zone t)

-- none of the calendars excludes t
abbrev pub Included : List ZonedCalendar → ℤ → Type 0
Included chain t = All (λ calendar. excludes_at calendar t ≡ false) chain

-- those of a vector, and none where there is no vector
abbrev pub calendars_of : Option (ArrayVec ZonedCalendar) → List ZonedCalendar
calendars_of None = []
calendars_of (Some calendars) = calendars.items
