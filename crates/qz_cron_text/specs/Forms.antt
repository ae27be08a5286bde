-- What one element of a field can be.
use Rattle.std.specs.Prelude.{ℕ, ◌-◌, List, [], ◌∷◌, Option, Some, None, Result, Ok, Err, if◌then◌else◌, Bool, ◌&&◌, not, nat_lt, nat_eq, length, true, false, ◌==◌, take, slice_index}
use Rattle.std.specs.Option.{option_map, option_and_then}
use Rattle.std.specs.Char.{to_ascii_uppercase}
use Rattle.qz_civil.specs.declared.fields.Field.{Field}
use Rattle.qz_civil.specs.declared.fields.Field.TheVariants.{Seconds, Minutes, Hours, DayOfMonth, Month, DayOfWeek, Year}
use Rattle.qz_civil.specs.Fields.{number, is_value}
use Rattle.qz_cron_text.specs.declared.forms.Form.{Form}
use Rattle.qz_cron_text.specs.declared.forms.Form.TheVariants.{Values, Day, Week}
use Rattle.qz_cron_text.specs.declared.forms.DayForm.{DayForm}
use Rattle.qz_cron_text.specs.declared.forms.DayForm.TheVariants as days
use Rattle.qz_cron_text.specs.declared.forms.WeekForm.{WeekForm}
use Rattle.qz_cron_text.specs.declared.forms.WeekForm.TheVariants as weeks
use Rattle.qz_cron_text.specs.declared.errors.CronError.{CronError}
use Rattle.qz_cron_text.specs.declared.errors.CronError.TheVariants.{OutOfRange, BadToken}
use Rattle.qz_cron_text.specs.Cuts.{Parts, cut_at}
use Rattle.qz_cron_text.specs.Errors.{u32_of}
use Rattle.qz_cron_text.specs.Values.{number_of, value_of}
use Rattle.qz_cron_text.specs.Runs.{run_of, run_fault}

-- the text is this letter, in either case
abbrev pub is_letter : ℕ → List ℕ → Bool
is_letter letter (b ∷ []) = to_ascii_uppercase b == letter
is_letter letter _ = false

-- the text is `?`
abbrev pub is_question : List ℕ → Bool
is_question (b ∷ []) = b == 63
is_question _ = false

-- the text is `LW`
abbrev pub is_last_weekday : List ℕ → Bool
is_last_weekday (a ∷ b ∷ []) = (to_ascii_uppercase a == 76) && (to_ascii_uppercase b == 87)
is_last_weekday _ = false

-- what is before the letter at the end
unfoldable pub before_letter : ℕ → List ℕ → Option (List ℕ)
before_letter letter text =
    if nat_eq (length text) 0 then None
    else if to_ascii_uppercase (slice_index text (length text - 1)) == letter then Some (take (length text - 1) text)
    else None

abbrev pub or_else : {A : Type 0} → Option A → Option A → Option A
or_else (Some x) other = Some x
or_else None other = other

-- `L-n`
abbrev pub last_back : List ℕ → Option (List ℕ) → Option DayForm
last_back front None = None
last_back front (Some back) = if is_letter 76 front then option_map (λ n. days.Last n) (number_of back) else None

abbrev pub last_back_of : Parts → Option DayForm
last_back_of parts = last_back parts.front parts.rest

-- `aW`
abbrev pub nearest : Option (List ℕ) → Option DayForm
nearest None = None
nearest (Some day) = option_map (λ a. days.Nearest a) (number_of day)

-- `?`, `L`, `LW`, `L-n` and `aW`
unfoldable pub day_form : List ℕ → Option DayForm
day_form text =
    if is_question text then Some days.Unnamed
    else if is_letter 76 text then Some (days.Last 0)
    else if is_last_weekday text then Some days.LastWeekday
    else or_else (last_back_of (cut_at 45 text)) (nearest (before_letter 87 text))

-- `a#k`
abbrev pub nth : List ℕ → Option (List ℕ) → Option WeekForm
nth day None = None
nth day (Some k) = option_and_then (λ a. option_map (λ n. weeks.Nth a n) (number_of k)) (value_of DayOfWeek day)

abbrev pub nth_of : Parts → Option WeekForm
nth_of parts = nth parts.front parts.rest

-- `aL`
abbrev pub last_of : Option (List ℕ) → Option WeekForm
last_of None = None
last_of (Some day) = option_map (λ a. weeks.LastOf a) (value_of DayOfWeek day)

-- `?`, `L`, `a#k` and `aL`
unfoldable pub week_form : List ℕ → Option WeekForm
week_form text =
    if is_question text then Some weeks.Unnamed
    else if is_letter 76 text then Some weeks.Saturday
    else or_else (nth_of (cut_at 35 text)) (last_of (before_letter 76 text))

abbrev pub special_form : Field → List ℕ → Option Form
special_form DayOfMonth text = option_map (λ form. Day form) (day_form text)
special_form DayOfWeek text = option_map (λ form. Week form) (week_form text)
special_form Seconds text = None
special_form Minutes text = None
special_form Hours text = None
special_form Month text = None
special_form Year text = None

-- the form of an element
unfoldable pub form_of : Field → List ℕ → Option Form
form_of field text = or_else (option_map (λ run. Values run) (run_of field text)) (special_form field text)

abbrev pub range_fault : Field → Bool → ℕ → Option CronError
range_fault field true value = None
range_fault field false value = Some (OutOfRange (number field) value)

-- the number of a day's form, where it is out of range
unfoldable pub day_fault : DayForm → Option CronError
day_fault days.Unnamed = None
day_fault (days.Last back) = range_fault DayOfMonth (nat_lt back 31) back
day_fault days.LastWeekday = None
day_fault (days.Nearest day) = range_fault DayOfMonth (is_value DayOfMonth day) day

-- the first number of a weekday's form that is out of range
unfoldable pub week_fault : WeekForm → Option CronError
week_fault weeks.Unnamed = None
week_fault weeks.Saturday = None
week_fault (weeks.LastOf day) = range_fault DayOfWeek (is_value DayOfWeek day) day
week_fault (weeks.Nth day n) =
    if not (is_value DayOfWeek day) then Some (OutOfRange (number DayOfWeek) day)
    else range_fault DayOfWeek (nat_lt 0 n && nat_lt n 6) n

-- the first number of a form that is out of range, or else its step
abbrev pub form_fault : Field → Form → Option CronError
form_fault field (Values run) = run_fault field run
form_fault field (Day form) = day_fault form
form_fault field (Week form) = week_fault form

abbrev pub unless : Option CronError → Form → Result Form CronError
unless None form = Ok form
unless (Some fault) form = Err fault

abbrev pub checked : Field → ℕ → Option Form → Result Form CronError
checked field at None = Err (BadToken (number field) (u32_of at))
checked field at (Some form) = unless (form_fault field form) form

-- the element at this place, or what is wrong with it
unfoldable pub element_of : Field → ℕ → List ℕ → Result Form CronError
element_of field at text = checked field at (form_of field text)
