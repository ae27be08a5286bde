-- The bytes of a cron text's fields, both ways.
use Rattle.std.specs.Prelude.{ℕ, List, [], ◌∷◌, ◌++◌, length, nat_le, ◌==◌, ◌&&◌, Ok, Err, if◌then◌else◌}
use Rattle.std.specs.Int.{Width, w16, w32, w64}
use Rattle.qz_civil.specs.declared.fields.CronFields.{CronFields}
use Rattle.qz_civil.specs.declared.fields.DayField.{DayField}
use Rattle.qz_civil.specs.declared.fields.DayField.TheVariants as month_days
use Rattle.qz_civil.specs.declared.fields.Field.{Field}
use Rattle.qz_civil.specs.declared.fields.Field.TheVariants.{Seconds, Minutes, Hours, DayOfMonth, Month, DayOfWeek}
use Rattle.qz_civil.specs.declared.fields.WeekField.{WeekField}
use Rattle.qz_civil.specs.declared.fields.WeekField.TheVariants as week_days
use Rattle.qz_civil.specs.Fields.{is_set, is_value, is_any_day, is_year_set}
use Rattle.qz_values.specs.declared.versions.Version.{Version}
use Rattle.qz_values.specs.Fields.{◌>>=◌, Read, number, checked, as_variant, byte_at, number_at}
use Rattle.qz_values.specs.Versions.{has_years, has_third_word}

-- the variant's place, and its fields
unfoldable pub day_field : DayField → List ℕ
day_field month_days.Any = 0 ∷ []
day_field (month_days.Set set) = 1 ∷ number w32 set
day_field (month_days.Last back) = 2 ∷ back ∷ []
day_field month_days.LastWeekday = 3 ∷ []
day_field (month_days.Nearest day) = 4 ∷ day ∷ []

unfoldable pub week_field : WeekField → List ℕ
week_field week_days.Any = 0 ∷ []
week_field (week_days.Set set) = 1 ∷ set ∷ []
week_field (week_days.Last day) = 2 ∷ day ∷ []
week_field (week_days.Nth day nth) = 3 ∷ day ∷ nth ∷ []

-- words of 64 years each
unfoldable pub words : List ℕ → List ℕ
words [] = []
words (w ∷ ws) = number w64 w ++ words ws

unfoldable pub cron_fields : CronFields → List ℕ
cron_fields f = number w64 f.seconds ++ (number w64 f.minutes ++ (number w32 f.hours ++ (day_field f.day ++ (number w16 f.months ++ (week_field f.week ++ words f.years)))))

-- a set of a field's values
abbrev pub set_at : Field → Width → List ℕ → Read ℕ
set_at f w bytes = checked (is_set f) (number_at w) bytes

unfoldable pub day_at : List ℕ → Read DayField
day_at bytes = do
  place ← byte_at bytes
  if place.0 == 0 then Ok (month_days.Any, place.1)
      else if place.0 == 1 then as_variant month_days.Set (set_at DayOfMonth w32 place.1)
      else if place.0 == 2 then as_variant month_days.Last (checked (λ n. nat_le n 30) byte_at place.1)
      else if place.0 == 3 then Ok (month_days.LastWeekday, place.1)
      else if place.0 == 4 then as_variant month_days.Nearest (checked (is_value DayOfMonth) byte_at place.1)
      else Err (length bytes)

unfoldable pub nth_at : List ℕ → Read WeekField
nth_at bytes = do
  day ← checked (is_value DayOfWeek) byte_at bytes
  nth ← checked (λ n. nat_le 1 n && nat_le n 5) byte_at day.1
  Ok (week_days.Nth day.0 nth.0, nth.1)

-- Of the month's days and the week's just one says nothing: where the month's do, the week's don't.
unfoldable pub named_week_at : List ℕ → Read WeekField
named_week_at bytes = do
  place ← byte_at bytes
  if place.0 == 1 then as_variant week_days.Set (checked (is_set DayOfWeek) byte_at place.1)
      else if place.0 == 2 then as_variant week_days.Last (checked (is_value DayOfWeek) byte_at place.1)
      else if place.0 == 3 then nth_at place.1
      else Err (length bytes)

unfoldable pub any_week_at : List ℕ → Read WeekField
any_week_at bytes = do
  place ← byte_at bytes
  if place.0 == 0 then Ok (week_days.Any, place.1) else Err (length bytes)

abbrev pub week_at : DayField → List ℕ → Read WeekField
week_at day bytes = if is_any_day day then named_week_at bytes else any_week_at bytes

-- A word is wrong where it has a bit beyond the version's last year, and the fourth also where no word has a year.
unfoldable pub years_at : Version → List ℕ → Read (List ℕ)
years_at version bytes = do
  first ← number_at w64 bytes
  second ← number_at w64 first.1
  third ← checked (has_third_word version) (number_at w64) second.1
  fourth ← checked (λ w. has_years version (first.0 ∷ second.0 ∷ third.0 ∷ w ∷ []) && is_year_set (first.0 ∷ second.0 ∷ third.0 ∷ w ∷ [])) (number_at w64) third.1
  Ok (first.0 ∷ second.0 ∷ third.0 ∷ fourth.0 ∷ [], fourth.1)

unfoldable pub cron_fields_at : Version → List ℕ → Read CronFields
cron_fields_at version bytes = do
  seconds ← set_at Seconds w64 bytes
  minutes ← set_at Minutes w64 seconds.1
  hours ← set_at Hours w32 minutes.1
  day ← day_at hours.1
  months ← set_at Month w16 day.1
  week ← week_at day.0 months.1
  years ← years_at version week.1
  Ok (
    record {
      seconds = seconds.0;
      minutes = minutes.0;
      hours = hours.0;
      day = day.0;
      months = months.0;
      week = week.0;
      years = years.0;
    },
    years.1,
  )
