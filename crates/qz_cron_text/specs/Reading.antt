-- What a cron text means, or what is first wrong with it.
use Rattle.std.specs.Prelude.{ℕ, List, [], ◌∷◌, Option, Some, None, Result, Ok, Err, if◌then◌else◌, ◌&&◌, not}
use Rattle.qz_civil.specs.declared.fields.Field.{Field}
use Rattle.qz_civil.specs.declared.fields.Field.TheVariants.{Seconds, Minutes, Hours, DayOfMonth, Month, DayOfWeek, Year}
use Rattle.qz_civil.specs.declared.fields.DayField.{DayField}
use Rattle.qz_civil.specs.declared.fields.DayField.TheVariants as day
use Rattle.qz_civil.specs.declared.fields.WeekField.{WeekField}
use Rattle.qz_civil.specs.declared.fields.WeekField.TheVariants as week
use Rattle.qz_civil.specs.declared.fields.CronFields.{CronFields}
use Rattle.qz_civil.specs.Fields.{is_any_day, is_any_week}
use Rattle.qz_cron_text.specs.declared.errors.CronError.{CronError}
use Rattle.qz_cron_text.specs.declared.errors.CronError.TheVariants.{BothDays, NoDays}
use Rattle.qz_cron_text.specs.declared.forms.DayForm.{DayForm}
use Rattle.qz_cron_text.specs.declared.forms.DayForm.TheVariants as days
use Rattle.qz_cron_text.specs.declared.forms.WeekForm.{WeekForm}
use Rattle.qz_cron_text.specs.declared.forms.WeekForm.TheVariants as weeks
use Rattle.qz_cron_text.specs.declared.elements.Elements.{Elements}
use Rattle.qz_cron_text.specs.Elements.{◌>>=◌, field_of}
use Rattle.qz_cron_text.specs.Texts.{Placed, Whole, whole_of}

abbrev pub field_at : Field → ℕ → Placed → Result Elements CronError
field_at field from p = field_of field from p.at p.text

abbrev pub word_at : Field → ℕ → Placed → Result ℕ CronError
word_at field from p = field_at field from p >>= λ found. Ok found.word

abbrev pub special_day : DayForm → DayField
special_day days.Unnamed = day.Any
special_day (days.Last back) = day.Last back
special_day days.LastWeekday = day.LastWeekday
special_day (days.Nearest d) = day.Nearest d

abbrev pub day_by : ℕ → Option DayForm → DayField
day_by word None = day.Set word
day_by word (Some form) = special_day form

-- `L` alone is Saturday, the value 7
abbrev pub special_week : WeekForm → WeekField
special_week weeks.Unnamed = week.Any
special_week weeks.Saturday = week.Set 64
special_week (weeks.LastOf d) = week.Last d
special_week (weeks.Nth d n) = week.Nth d n

abbrev pub week_by : ℕ → Option WeekForm → WeekField
week_by word None = week.Set word
week_by word (Some form) = special_week form

unfoldable pub day_of : Placed → Result DayField CronError
day_of p = field_at DayOfMonth 0 p >>= λ found. Ok (day_by found.word found.day)

unfoldable pub week_of : Placed → Result WeekField CronError
week_of p = field_at DayOfWeek 0 p >>= λ found. Ok (week_by found.word found.week)

-- the years from 1970 on, 64 a word
abbrev pub years_at : Placed → Result (List ℕ) CronError
years_at p =
    word_at Year 0 p >>= λ a. word_at Year 64 p >>= λ b. word_at Year 128 p >>= λ c. word_at Year 192 p >>= λ d. Ok (a ∷ b ∷ c ∷ d ∷ [])

-- `*`, which an absent field means
abbrev pub all_years : Placed
all_years = record { at = 0; text = 42 ∷ [] }

unfoldable pub years_of : Option Placed → Result (List ℕ) CronError
years_of None = years_at all_years
years_of (Some p) = years_at p

-- exactly one of the two day fields names no value
unfoldable pub days_checked : CronFields → Result CronFields CronError
days_checked f =
    if not (is_any_day f.day) && not (is_any_week f.week) then Err BothDays
    else if is_any_day f.day && is_any_week f.week then Err NoDays
    else Ok f

-- the fields from the left
unfoldable pub fields_of : Whole → Result CronFields CronError
fields_of w =
    word_at Seconds 0 w.seconds >>= λ seconds.
    word_at Minutes 0 w.minutes >>= λ minutes.
    word_at Hours 0 w.hours >>= λ hours.
    day_of w.day >>= λ d.
    word_at Month 0 w.months >>= λ months.
    week_of w.week >>= λ wk.
    years_of w.years >>= λ years.
    days_checked (record { seconds = seconds; minutes = minutes; hours = hours; day = d; months = months; week = wk; years = years })

unfoldable pub reading : List ℕ → Result CronFields CronError
reading text = whole_of text >>= fields_of
