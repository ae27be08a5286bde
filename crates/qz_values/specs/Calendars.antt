-- The bytes of a calendar's kind, both ways.
use Rattle.std.specs.Prelude.{◌≡◌, ℕ, ◌/◌, List, [], ◌∷◌, ◌++◌, length, Bool, true, ◌&&◌, ◌==◌, Option, Ok, Err, if◌then◌else◌}
use Rattle.std.specs.Int.{w16, w32}
use Rattle.qz_civil.specs.Calendars.{is_annual_day, is_holiday, is_above, is_list_of, is_day_part, is_calendar_kind}
use Rattle.qz_civil.specs.Fields.{is_cron_fields}
use Rattle.qz_civil.specs.declared.calendars.CalendarKind.{CalendarKind}
use Rattle.qz_civil.specs.declared.calendars.CalendarKind.TheVariants.{Annual, Holiday, Weekly, Monthly, Daily, Cron}
use Rattle.qz_civil.specs.declared.limits.TheConstants.{ANNUAL_LIMIT, HOLIDAY_LIMIT}
use Rattle.qz_values.specs.declared.versions.Version.{Version}
use Rattle.qz_values.specs.Fields.{number, flag, ◌>>=◌, Read, checked, as_variant, byte_at, number_at, flag_at}
use Rattle.qz_values.specs.CronFields.{cron_fields, cron_fields_at}
use Rattle.qz_values.specs.Lists.{list, list_at}
use Rattle.qz_values.specs.Versions.{has_year, has_years}

-- the kind's place, and its fields
unfoldable pub calendar_kind : CalendarKind → List ℕ
calendar_kind (Annual days) = 0 ∷ list (number w16) days
calendar_kind (Holiday dates) = 1 ∷ list (number w32) dates
calendar_kind (Weekly days) = 2 ∷ days ∷ []
calendar_kind (Monthly days) = 3 ∷ number w32 days
calendar_kind (Daily from to inverted) = 4 ∷ (number w32 from ++ (number w32 to ++ flag inverted))
calendar_kind (Cron fields) = 5 ∷ cron_fields fields

-- a cron text's years are four words
abbrev pub HasWords : CalendarKind → Type 0
HasWords (Annual days) = Unit {0}
HasWords (Holiday dates) = Unit {0}
HasWords (Weekly days) = Unit {0}
HasWords (Monthly days) = Unit {0}
HasWords (Daily from to inverted) = Unit {0}
HasWords (Cron fields) = length fields.years ≡ 4

-- a date, year * 10000 + month * 100 + day, that a record of this version may name
abbrev pub is_holiday_of : Version → ℕ → Bool
is_holiday_of version n = has_year version (n / 10000) && is_holiday n

-- what the kind has is within its limits, and within those of the version
abbrev pub is_kind_of : Version → CalendarKind → Bool
is_kind_of version (Annual days) = is_calendar_kind (Annual days)
is_kind_of version (Holiday dates) = is_list_of (is_holiday_of version) HOLIDAY_LIMIT dates
is_kind_of version (Weekly days) = is_calendar_kind (Weekly days)
is_kind_of version (Monthly days) = is_calendar_kind (Monthly days)
is_kind_of version (Daily from to inverted) = is_calendar_kind (Daily from to inverted)
is_kind_of version (Cron fields) = has_years version fields.years && is_cron_fields fields

pub record IsCalendarKind (version : Version) (k : CalendarKind) : Type 0 where
  pub valid : is_kind_of version k ≡ true
  pub words : HasWords k

-- passes, and is above the one before
abbrev pub is_next : (ℕ → Bool) → Option ℕ → ℕ → Bool
is_next passes before n = passes n && is_above before n

abbrev pub next_day_at : Option ℕ → List ℕ → Read ℕ
next_day_at before bytes = checked (is_next is_annual_day before) (number_at w16) bytes

abbrev pub next_date_at : Version → Option ℕ → List ℕ → Read ℕ
next_date_at version before bytes = checked (is_next (is_holiday_of version) before) (number_at w32) bytes

unfoldable pub day_part_at : List ℕ → Read CalendarKind
day_part_at bytes = do
  from ← checked (is_day_part 0) (number_at w32) bytes
  to ← checked (is_day_part from.0) (number_at w32) from.1
  inverted ← flag_at to.1
  Ok (Daily from.0 to.0 inverted.0, inverted.1)

unfoldable pub calendar_kind_at : Version → List ℕ → Read CalendarKind
calendar_kind_at version bytes = do
  place ← byte_at bytes
  if place.0 == 0 then as_variant Annual (list_at 0 ANNUAL_LIMIT next_day_at place.1)
      else if place.0 == 1 then as_variant Holiday (list_at 0 HOLIDAY_LIMIT (next_date_at version) place.1)
      else if place.0 == 2 then as_variant Weekly (checked (λ n. is_calendar_kind (Weekly n)) byte_at place.1)
      else if place.0 == 3 then as_variant Monthly (checked (λ n. is_calendar_kind (Monthly n)) (number_at w32) place.1)
      else if place.0 == 4 then day_part_at place.1
      else if place.0 == 5 then as_variant Cron (cron_fields_at version place.1)
      else Err (length bytes)
