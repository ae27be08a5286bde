-- Calendars as JSON.
use Rattle.std.specs.Prelude.{ℕ, ◌/◌, ◌%◌, List, [], ◌∷◌, ◌++◌, Bool, Option, codes}
use Rattle.std.specs.Fmt.{decimal}
use Rattle.qz_civil.specs.declared.calendars.CalendarKind.{CalendarKind}
use Rattle.qz_civil.specs.declared.calendars.CalendarKind.TheVariants.{Annual, Holiday, Weekly, Monthly, Daily, Cron}
use Rattle.qz_cron_text.specs.Printing.{canonical_text}
use Rattle.qz_types.specs.Rows.{CalendarData}
use Rattle.qz_json_rows.specs.Json.{label, listed, more, more_named, more_set, more_text, plain, quoted}
use Rattle.qz_json_rows.specs.Numbers.{two, set_text, more_days}

-- a day of each year, which is kept as month * 100 + day, as [MONTH,DAY]
abbrev pub annual_day_text : ℕ → List ℕ
annual_day_text n = 91 ∷ decimal (n / 100) ++ 44 ∷ decimal (n % 100) ++ 93 ∷ []

-- a date, which is kept as year * 10000 + month * 100 + day, as "YYYY-MM-DD"
abbrev pub date_text : ℕ → List ℕ
date_text n = 34 ∷ two (n / 1000000) ++ two (n / 10000) ++ 45 ∷ two (n / 100) ++ 45 ∷ two n ++ 34 ∷ []

abbrev pub kind_word : CalendarKind → List ℕ
kind_word (Annual days) = codes "annual"
kind_word (Holiday dates) = codes "holiday"
kind_word (Weekly days) = codes "weekly"
kind_word (Monthly days) = codes "monthly"
kind_word (Daily from to inverted) = codes "daily"
kind_word (Cron fields) = codes "cron"

-- a part of each day, in ms of the day
unfoldable pub part_members : ℕ → ℕ → Bool → List ℕ
part_members from to inverted =
    more (codes "from") (decimal from) ++ more (codes "to") (decimal to) ++ more_set (codes "inverted") inverted

-- what the kind excludes; usually Sunday and Saturday of each week
abbrev pub kind_members : CalendarKind → List ℕ
kind_members (Annual days) = more (codes "days") (listed annual_day_text days)
kind_members (Holiday dates) = more (codes "dates") (listed date_text dates)
kind_members (Weekly days) = more_days 7 65 (codes "days") days
kind_members (Monthly days) = more (codes "days") (set_text 31 days)
kind_members (Daily from to inverted) = part_members from to inverted
kind_members (Cron fields) = more (codes "cron") (quoted (canonical_text fields))

-- the calendar's name, the calendar below it, and its zone
unfoldable pub name_members : List ℕ → Option (List ℕ) → List ℕ → List ℕ
name_members name base zone =
    label (codes "name") ++ quoted name ++ more_named (codes "base") base ++ more_text (codes "zone") (codes "UTC") zone

unfoldable pub calendar_text : CalendarData → List ℕ
calendar_text c =
    123 ∷ name_members c.name c.base c.zone ++ more (codes "kind") (plain (kind_word c.kind)) ++ kind_members c.kind ++ 125 ∷ []
