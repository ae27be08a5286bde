-- The canonical text of fields. A set is four words of 64 values each, from the field's least on.
use Rattle.std.specs.Prelude.{ℕ, ◌+◌, List, [], ◌∷◌, ◌++◌, map, if◌then◌else◌, Bool, true, ◌&&◌, ◌==◌, zero, suc, codes}
use Rattle.std.specs.List.{join_with_byte}
use Rattle.std.specs.Fmt.{decimal}
use Rattle.qz_civil.specs.declared.fields.Field.{Field}
use Rattle.qz_civil.specs.declared.fields.Field.TheVariants.{Seconds, Minutes, Hours, DayOfMonth, Month, DayOfWeek, Year}
use Rattle.qz_civil.specs.declared.fields.DayField.{DayField}
use Rattle.qz_civil.specs.declared.fields.DayField.TheVariants as day
use Rattle.qz_civil.specs.declared.fields.WeekField.{WeekField}
use Rattle.qz_civil.specs.declared.fields.WeekField.TheVariants as week
use Rattle.qz_civil.specs.declared.fields.CronFields.{CronFields}
use Rattle.qz_civil.specs.Fields.{least, size, has_word}

-- a set of up to 64 values
abbrev pub one_word : ℕ → List ℕ
one_word set = set ∷ 0 ∷ 0 ∷ 0 ∷ []

-- the numbers below n that the set has, ascending
unfoldable pub members : List ℕ → ℕ → List ℕ
members set zero = []
members set (suc n) = if has_word set n then members set n ++ n ∷ [] else members set n

-- the set has each number below n
unfoldable pub has_all : List ℕ → ℕ → Bool
has_all set zero = true
has_all set (suc n) = has_all set n && has_word set n

-- the values of the numbers below n that the set has, ascending and with commas
unfoldable pub values_text : Field → List ℕ → ℕ → List ℕ
values_text field set n = join_with_byte 44 (map (λ i. decimal (least field + i)) (members set n))

-- `*` where the set has each value of the field, else its values
unfoldable pub set_text : Field → List ℕ → List ℕ
set_text field set = if has_all set (size field) then codes "*" else values_text field set (size field)

-- what a value adds after others, if it is there
unfoldable pub member_text : Bool → Bool → ℕ → List ℕ
member_text there first value = if there then (if first then decimal value else 44 ∷ decimal value) else []

-- the days of the month
unfoldable pub day_text : DayField → List ℕ
day_text day.Any = codes "?"
day_text (day.Set days) = set_text DayOfMonth (one_word days)
day_text (day.Last back) = if back == 0 then codes "L" else codes "L-" ++ decimal back
day_text day.LastWeekday = codes "LW"
day_text (day.Nearest d) = decimal d ++ codes "W"

-- the days of the week
unfoldable pub week_text : WeekField → List ℕ
week_text week.Any = codes "?"
week_text (week.Set days) = set_text DayOfWeek (one_word days)
week_text (week.Last d) = decimal d ++ codes "L"
week_text (week.Nth d n) = decimal d ++ codes "#" ++ decimal n

-- the years, with a space before them, where they aren't all
unfoldable pub years_text : List ℕ → List ℕ
years_text years = if has_all years (size Year) then [] else codes " " ++ values_text Year years (size Year)

-- the seconds, minutes and hours
unfoldable pub times_text : CronFields → List ℕ
times_text f =
    set_text Seconds (one_word f.seconds) ++ codes " " ++ set_text Minutes (one_word f.minutes) ++ codes " "
    ++ set_text Hours (one_word f.hours)

-- the days, months and weekdays
unfoldable pub dates_text : CronFields → List ℕ
dates_text f = day_text f.day ++ codes " " ++ set_text Month (one_word f.months) ++ codes " " ++ week_text f.week

-- the fields with one space between any two
unfoldable pub canonical_text : CronFields → List ℕ
canonical_text f = times_text f ++ codes " " ++ dates_text f ++ years_text f.years
