-- The calendars in lines. The members are read in this order up to the first fault, and the cron text last.
use Rattle.std.specs.Prelude.{ℕ, ◌+◌, ◌*◌, List, [], ◌∷◌, length, slice_index, Bool, ◌&&◌, ◌==◌, nat_lt, if◌then◌else◌, is_none, Option, Some, None, Result, Ok, Err, option_map, option_and_then, codes}
use Rattle.serde_json.specs.Data.{Data, Items}
use Rattle.serde_json.specs.Find.{get, at, as_array, as_str}
use Rattle.qz_civil.specs.declared.calendars.CalendarKind.{CalendarKind}
use Rattle.qz_civil.specs.declared.calendars.CalendarKind.TheVariants as kind
use Rattle.qz_civil.specs.declared.limits.TheConstants.{ANNUAL_LIMIT, DAY_MS, HOLIDAY_LIMIT}
use Rattle.qz_civil.specs.Calendars.{is_annual_day, is_holiday, is_list_of, is_day_part}
use Rattle.qz_types.specs.Rows.{CalendarData}
use Rattle.qz_cron_text.specs.Reading.{reading}
use Rattle.qz_job_json.specs.declared.calendars.Dated.{Dated}
use Rattle.qz_job_json.specs.declared.calendars.Dated.TheVariants as dated
use Rattle.qz_job_json.specs.declared.forms.CalendarWord.{CalendarWord}
use Rattle.qz_job_json.specs.declared.forms.CalendarWord.TheVariants.{Annual, Holiday, Weekly, Monthly, Daily, Cron}
use Rattle.qz_job_json.specs.declared.forms.Form.TheVariants.{CalendarOf}
use Rattle.qz_job_json.specs.declared.faults.LineFault.{LineFault}
use Rattle.qz_job_json.specs.declared.faults.LineFault.TheVariants.{Shape}
use Rattle.qz_job_json.specs.Clocks.{two_digits, number_to, listed, set_to}
use Rattle.qz_job_json.specs.Faults.{◌>>=◌, or_shape}
use Rattle.qz_job_json.specs.Forms.{members_of, calendar_word_of}
use Rattle.qz_job_json.specs.Members.{has_only, kept, both, said_or, text_at, number_at, name_at, optional_name_at, flag_at}
use Rattle.qz_job_json.specs.Schedules.{or_cron, zone_at}

-- The days of a list.

-- a list of just the two numbers, as month * 100 + day
unfoldable pub annual_day_of : Data → Option ℕ
annual_day_of d =
    if is_none (at 2 d)
    then both (λ month day. month * 100 + day) (option_and_then (number_to 12) (at 0 d)) (option_and_then (number_to 31) (at 1 d))
    else None

-- YYYY-MM-DD
abbrev pub is_date_form : List ℕ → Bool
is_date_form text = (length text == 10) && (slice_index text 4 == 45) && (slice_index text 7 == 45)

abbrev pub year_of : List ℕ → Option ℕ
year_of text = both (λ century year. century * 100 + year) (two_digits 100 0 text) (two_digits 100 2 text)

abbrev pub month_and_day : List ℕ → Option ℕ
month_and_day text = both (λ month day. month * 100 + day) (two_digits 100 5 text) (two_digits 100 8 text)

-- the date that the text names, as year * 10000 + month * 100 + day
unfoldable pub date_of : List ℕ → Option ℕ
date_of text =
    if is_date_form text
    then kept is_holiday (both (λ year rest. year * 10000 + rest) (year_of text) (month_and_day text))
    else None

abbrev pub number_of : Dated → Data → Option ℕ
number_of dated.DayOfYear d = annual_day_of d
number_of dated.Date d = option_and_then date_of (as_str d)

abbrev pub is_valid : Dated → ℕ → Bool
is_valid dated.DayOfYear n = is_annual_day n
is_valid dated.Date n = is_holiday n

-- the number at its place in an ascending list, unless the list has it
abbrev pub put : ℕ → List ℕ → List ℕ
put n [] = n ∷ []
put n (m ∷ ms) = if nat_lt m n then m ∷ put n ms else (if m == n then m ∷ ms else n ∷ m ∷ ms)

-- an ascending list, with these numbers too
abbrev pub with_all : List ℕ → List ℕ → List ℕ
with_all ms [] = ms
with_all ms (n ∷ ns) = with_all (put n ms) ns

-- the days of a list, ascending and each once, where at most so many are left
abbrev pub days_of : Dated → ℕ → Items → Option (List ℕ)
days_of form limit items = kept (is_list_of (is_valid form) limit) (option_map (with_all []) (listed (number_of form) items))

-- The kinds, each by its members. None is a kind of another shape.

abbrev pub list_at : List ℕ → Data → Option Items
list_at name d = option_and_then as_array (get name d)

unfoldable pub annual_of : Data → Option CalendarKind
annual_of d = option_map kind.Annual (option_and_then (days_of dated.DayOfYear ANNUAL_LIMIT) (list_at (codes "days") d))

unfoldable pub holiday_of : Data → Option CalendarKind
holiday_of d = option_map kind.Holiday (option_and_then (days_of dated.Date HOLIDAY_LIMIT) (list_at (codes "dates") d))

-- 1 is Sunday, and a calendar without the member has Sunday and Saturday
abbrev pub weekdays_at : Data → Option ℕ
weekdays_at d = said_or 65 (λ e. option_and_then (set_to 7) (as_array e)) (get (codes "days") d)

abbrev pub weekly_of : Data → Option CalendarKind
weekly_of d = option_map kind.Weekly (weekdays_at d)

abbrev pub monthly_of : Data → Option CalendarKind
monthly_of d = option_map kind.Monthly (option_and_then (set_to 31) (list_at (codes "days") d))

-- a millisecond of the day
abbrev pub is_milli : ℕ → Bool
is_milli n = nat_lt n DAY_MS

abbrev pub milli_at : List ℕ → Data → Option ℕ
milli_at name d = kept is_milli (number_at name d)

-- from one ms of the day to a later one or the same
abbrev pub part : ℕ → ℕ → Bool → Option CalendarKind
part from to inverted = if is_day_part from to then Some (kind.Daily from to inverted) else None

unfoldable pub daily_of : Data → Option CalendarKind
daily_of d =
    option_and_then (λ from.
    option_and_then (λ to.
    option_and_then (λ inverted. part from to inverted)
    (flag_at (codes "inverted") d))
    (milli_at (codes "to") d))
    (milli_at (codes "from") d)

unfoldable pub cron_of : Data → Result CalendarKind LineFault
cron_of d =
    or_shape (text_at (codes "cron") d) >>= λ text.
    or_cron (reading text) >>= λ fields.
    Ok (kind.Cron fields)

-- the kind that the word names
abbrev pub kind_of : CalendarWord → Data → Result CalendarKind LineFault
kind_of Annual d = or_shape (annual_of d)
kind_of Holiday d = or_shape (holiday_of d)
kind_of Weekly d = or_shape (weekly_of d)
kind_of Monthly d = or_shape (monthly_of d)
kind_of Daily d = or_shape (daily_of d)
kind_of Cron d = cron_of d

-- a calendar of that kind
unfoldable pub calendar_of : CalendarWord → Data → Result CalendarData LineFault
calendar_of word d =
    or_shape (name_at (codes "name") d) >>= λ name.
    or_shape (optional_name_at (codes "base") d) >>= λ base.
    or_shape (zone_at d) >>= λ zone.
    kind_of word d >>= λ k.
    Ok (record { name = name; base = base; zone = zone; kind = k })

-- the word under `kind`
abbrev pub calendar_word_at : Data → Option CalendarWord
calendar_word_at d = option_and_then calendar_word_of (text_at (codes "kind") d)

-- a calendar of its kind, which has only members of that kind
abbrev pub only_calendar_of : CalendarWord → Data → Result CalendarData LineFault
only_calendar_of word d =
    if has_only (members_of (CalendarOf word)) d then calendar_of word d else Err Shape

-- a calendar of the kind that it says
abbrev pub calendar_by_kind : Data → Result CalendarData LineFault
calendar_by_kind d = or_shape (calendar_word_at d) >>= λ word. only_calendar_of word d
