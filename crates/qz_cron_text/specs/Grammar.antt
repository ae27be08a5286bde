-- The grammar of cron texts, as a relation: which texts there are, and what each means. No rule reads a text; each tells
-- how one is put together. Marks as bytes: 42 `*`, 44 `,`, 45 `-`, 47 `/`, 35 `#`, 63 `?`, 76 `L`, 87 `W`.
use Rattle.std.specs.Prelude.{◌≡◌, ℕ, ◌+◌, ◌-◌, ◌*◌, ◌%◌, ◌^◌, ◌≤◌, ◌<◌, ◌↔◌, ◌⊎◌, List, [], ◌∷◌, ◌++◌, map, length, true, Option, Some, None, not, slice_get}
use Rattle.std.specs.Char.{to_ascii_uppercase}
use Rattle.std.specs.Str.{all_ascii_digits}
use Rattle.std.specs.Int.{IsInRange, bit_at}
use Rattle.std.specs.List.{AllByRecursion}
use Rattle.qz_civil.specs.declared.fields.Field.{Field}
use Rattle.qz_civil.specs.declared.fields.Field.TheVariants.{Seconds, Minutes, Hours, DayOfMonth, Month, DayOfWeek, Year}
use Rattle.qz_civil.specs.declared.fields.DayField.{DayField}
use Rattle.qz_civil.specs.declared.fields.DayField.TheVariants as day
use Rattle.qz_civil.specs.declared.fields.WeekField.{WeekField}
use Rattle.qz_civil.specs.declared.fields.WeekField.TheVariants as week
use Rattle.qz_civil.specs.declared.fields.CronFields.{CronFields}
use Rattle.qz_civil.specs.Fields.{least, greatest, size, has_word, is_any_day, is_any_week}
use Rattle.qz_cron_text.specs.declared.runs.Run.{Run}
use Rattle.qz_cron_text.specs.declared.forms.Form.{Form}
use Rattle.qz_cron_text.specs.declared.forms.Form.TheVariants.{Values, Day, Week}
use Rattle.qz_cron_text.specs.declared.forms.DayForm.{DayForm}
use Rattle.qz_cron_text.specs.declared.forms.DayForm.TheVariants as days
use Rattle.qz_cron_text.specs.declared.forms.WeekForm.{WeekForm}
use Rattle.qz_cron_text.specs.declared.forms.WeekForm.TheVariants as weeks
use Rattle.qz_cron_text.specs.Values.{names}
use Rattle.qz_cron_text.specs.Runs.{all_by, is_year}

-- the number that digits stand for, each by its place
abbrev pub digits_sum : List ℕ → ℕ
digits_sum [] = 0
digits_sum (d ∷ ds) = (d - 48) * 10 ^ length ds + digits_sum ds

-- one to four digits
pub record IsNumeral (text : List ℕ) (n : ℕ) : Type 0 where
  pub some : 1 ≤ length text
  pub few : length text ≤ 4
  pub digits : all_ascii_digits text ≡ true
  pub value : digits_sum text ≡ n

-- a value: a numeral, or a name of the field in either case; names begin at 1
pub data IsValue (field : Field) : List ℕ → ℕ → Type 0 where
  numeral : {text : List ℕ} {n : ℕ} → IsNumeral text n → IsValue field text n
  named : (text : List ℕ) (i : ℕ) → slice_get (names field) i ≡ Some (map to_ascii_uppercase text) → IsValue field text (i + 1)

-- a run of values: `*`, `*/n`, `/n`, `a`, `a/n`, `a-b` and `a-b/n`
pub data IsRun (field : Field) : List ℕ → Run → Type 0 where
  every : IsRun field (42 ∷ []) (all_by field 1)
  every_by : {k : List ℕ} {n : ℕ} → IsNumeral k n → IsRun field (42 ∷ 47 ∷ k) (all_by field n)
  every_by_slash : {k : List ℕ} {n : ℕ} → IsNumeral k n → IsRun field (47 ∷ k) (all_by field n)
  single : {a : List ℕ} {v : ℕ} → IsValue field a v → IsRun field a (record { first = v; last = v; step = 1 })
  onward : {a k : List ℕ} {v n : ℕ} → IsValue field a v → IsNumeral k n
      → IsRun field (a ++ 47 ∷ k) (record { first = v; last = greatest field; step = n })
  between : {a b : List ℕ} {v w : ℕ} → IsValue field a v → IsValue field b w
      → IsRun field (a ++ 45 ∷ b) (record { first = v; last = w; step = 1 })
  between_by : {a b k : List ℕ} {v w n : ℕ} → IsValue field a v → IsValue field b w → IsNumeral k n
      → IsRun field ((a ++ 45 ∷ b) ++ 47 ∷ k) (record { first = v; last = w; step = n })

-- the byte is this letter in either case
abbrev pub IsLetter : ℕ → ℕ → Type 0
IsLetter letter b = to_ascii_uppercase b ≡ letter

-- `?`, `L`, `L-n`, `LW` and `aW`
pub data IsDayForm : List ℕ → DayForm → Type 0 where
  no_day : IsDayForm (63 ∷ []) days.Unnamed
  last_day : (l : ℕ) → IsLetter 76 l → IsDayForm (l ∷ []) (days.Last 0)
  before_last_day : {k : List ℕ} {n : ℕ} (l : ℕ) → IsLetter 76 l → IsNumeral k n → IsDayForm (l ∷ 45 ∷ k) (days.Last n)
  last_weekday : (l w : ℕ) → IsLetter 76 l → IsLetter 87 w → IsDayForm (l ∷ w ∷ []) days.LastWeekday
  nearest_weekday : {a : List ℕ} {n : ℕ} (w : ℕ) → IsNumeral a n → IsLetter 87 w → IsDayForm (a ++ w ∷ []) (days.Nearest n)

-- `?`, `L`, `aL` and `a#k`
pub data IsWeekForm : List ℕ → WeekForm → Type 0 where
  no_weekday : IsWeekForm (63 ∷ []) weeks.Unnamed
  saturday : (l : ℕ) → IsLetter 76 l → IsWeekForm (l ∷ []) weeks.Saturday
  last_of_month : {a : List ℕ} {v : ℕ} (l : ℕ) → IsValue DayOfWeek a v → IsLetter 76 l → IsWeekForm (a ++ l ∷ []) (weeks.LastOf v)
  nth_of_month : {a k : List ℕ} {v n : ℕ} → IsValue DayOfWeek a v → IsNumeral k n → IsWeekForm (a ++ 35 ∷ k) (weeks.Nth v n)

-- an element of a field
pub data IsForm (field : Field) : List ℕ → Form → Type 0 where
  of_values : {text : List ℕ} {run : Run} → IsRun field text run → IsForm field text (Values run)
  of_day : {text : List ℕ} {form : DayForm} → field ≡ DayOfMonth → IsDayForm text form → IsForm field text (Day form)
  of_week : {text : List ℕ} {form : WeekForm} → field ≡ DayOfWeek → IsWeekForm text form → IsForm field text (Week form)

-- the value is one of the field's
abbrev pub IsOf : Field → ℕ → Type 0
IsOf field v = IsInRange (least field) (greatest field) v

-- both values are the field's, years don't wrap, and the step is 1 to 59
pub record RunInRange (field : Field) (run : Run) : Type 0 where
  pub first : IsOf field run.first
  pub last : IsOf field run.last
  pub years : is_year field ≡ true → run.first ≤ run.last
  pub step : IsInRange 1 59 run.step

-- the numbers of an element are in range
abbrev pub DayInRange : DayForm → Type 0
DayInRange days.Unnamed = Unit {0}
DayInRange (days.Last back) = back ≤ 30
DayInRange days.LastWeekday = Unit {0}
DayInRange (days.Nearest d) = IsOf DayOfMonth d

abbrev pub WeekInRange : WeekForm → Type 0
WeekInRange weeks.Unnamed = Unit {0}
WeekInRange weeks.Saturday = Unit {0}
WeekInRange (weeks.LastOf d) = IsOf DayOfWeek d
WeekInRange (weeks.Nth d n) = IsOf DayOfWeek d × IsInRange 1 5 n

abbrev pub InRange : Field → Form → Type 0
InRange field (Values run) = RunInRange field run
InRange field (Day form) = DayInRange form
InRange field (Week form) = WeekInRange form

-- an element whose numbers are in range
pub record IsElement (field : Field) (text : List ℕ) (form : Form) : Type 0 where
  pub is_form : IsForm field text form
  pub in_range : InRange field form

-- elements joined by commas
pub data AreElements (field : Field) : List ℕ → List Form → Type 0 where
  one_element : {text : List ℕ} {form : Form} → IsElement field text form → AreElements field text (form ∷ [])
  more_elements : {text texts : List ℕ} {form : Form} {forms : List Form} → IsElement field text form → AreElements field texts forms
      → AreElements field (text ++ 44 ∷ texts) (form ∷ forms)

-- how far the last value of a run is ahead of the first, where after the greatest value the least comes
abbrev pub span : Field → Run → ℕ
span field run = (run.last + size field - run.first) % size field

-- the value is some steps ahead of the run's first one, and no further than the last one
abbrev pub HasValue : Field → Run → ℕ → Type 0
HasValue field run v =
    (k : ℕ) × (k * run.step ≤ span field run) × (v ≡ least field + (run.first - least field + k * run.step) % size field)

-- some run has the value
abbrev pub SomeHas : Field → List Run → ℕ → Type 0
SomeHas field [] v = ⊥
SomeHas field (run ∷ runs) v = HasValue field run v ⊎ SomeHas field runs v

-- the word has as bits the 64 values from number `from` on, of which each is some run's
abbrev pub HasBits : Field → ℕ → List Run → ℕ → Type 0
HasBits field from runs word = (i : ℕ) → (bit_at word i ≡ 1) ↔ ((i < 64) × SomeHas field runs (least field + from + i))

-- a list of runs, and the 64 values from number `from` on that some run has
pub record IsSet (field : Field) (from : ℕ) (text : List ℕ) (word : ℕ) : Type 0 where
  pub runs : List Run
  pub elements : AreElements field text (map (λ run. Values run) runs)
  pub bits : HasBits field from runs word

-- the days of the month
abbrev pub IsDay : List ℕ → DayField → Type 0
IsDay text day.Any = IsElement DayOfMonth text (Day days.Unnamed)
IsDay text (day.Set word) = IsSet DayOfMonth 0 text word
IsDay text (day.Last back) = IsElement DayOfMonth text (Day (days.Last back))
IsDay text day.LastWeekday = IsElement DayOfMonth text (Day days.LastWeekday)
IsDay text (day.Nearest d) = IsElement DayOfMonth text (Day (days.Nearest d))

-- the days of the week, where `L` is Saturday
abbrev pub IsWeek : List ℕ → WeekField → Type 0
IsWeek text week.Any = IsElement DayOfWeek text (Week weeks.Unnamed)
IsWeek text (week.Set word) = IsSet DayOfWeek 0 text word ⊎ (IsElement DayOfWeek text (Week weeks.Saturday) × (word ≡ 64))
IsWeek text (week.Last d) = IsElement DayOfWeek text (Week (weeks.LastOf d))
IsWeek text (week.Nth d n) = IsElement DayOfWeek text (Week (weeks.Nth d n))

-- a list of runs, and four words of 64 bits: bit i of them is set exactly where some run has the year 1970 + i
pub record AreYears (text : List ℕ) (years : List ℕ) : Type 0 where
  pub runs : List Run
  pub elements : AreElements Year text (map (λ run. Values run) runs)
  pub four : length years ≡ 4
  pub words : AllByRecursion (λ word. word < 2 ^ 64) years
  pub bits : (i : ℕ) → i < 256 → (has_word years i ≡ true) ↔ SomeHas Year runs (1970 + i)

-- where the field is absent, the years are those of `*`
abbrev pub AreYearsOf : Option (List ℕ) → List ℕ → Type 0
AreYearsOf None years = AreYears (42 ∷ []) years
AreYearsOf (Some text) years = AreYears text years

-- spaces and tabs
abbrev pub AreBlanks : List ℕ → Type 0
AreBlanks [] = Unit {0}
AreBlanks (b ∷ bs) = ((b ≡ 32) ⊎ (b ≡ 9)) × AreBlanks bs

-- fields with one blank or more between any two, and any after the last
pub data AreJoined : List (List ℕ) → List ℕ → Type 0 where
  last_field : (field blanks : List ℕ) → AreBlanks blanks → AreJoined (field ∷ []) (field ++ blanks)
  next_field : {fields : List (List ℕ)} {text : List ℕ} (field blanks : List ℕ) (b : ℕ) → AreBlanks (b ∷ blanks) → AreJoined fields text
      → AreJoined (field ∷ fields) (field ++ b ∷ (blanks ++ text))

-- the seventh field, if there is one
abbrev pub years_list : Option (List ℕ) → List (List ℕ)
years_list None = []
years_list (Some text) = text ∷ []

-- a cron text with its meaning: six or seven fields, of which exactly one of the two day fields is `?`
pub record IsText (text : List ℕ) (f : CronFields) : Type 0 where
  -- the texts of its fields
  pub seconds : List ℕ
  pub minutes : List ℕ
  pub hours : List ℕ
  pub day : List ℕ
  pub months : List ℕ
  pub week : List ℕ
  pub years : Option (List ℕ)
  -- blanks, and then the fields, joined by blanks
  pub blanks : List ℕ
  pub rest : List ℕ
  pub is_blank : AreBlanks blanks
  pub is : text ≡ blanks ++ rest
  pub joined : AreJoined (seconds ∷ minutes ∷ hours ∷ day ∷ months ∷ week ∷ years_list years) rest
  -- the meaning of each field
  pub is_seconds : IsSet Seconds 0 seconds f.seconds
  pub is_minutes : IsSet Minutes 0 minutes f.minutes
  pub is_hours : IsSet Hours 0 hours f.hours
  pub is_day : IsDay day f.day
  pub is_months : IsSet Month 0 months f.months
  pub is_week : IsWeek week f.week
  pub is_years : AreYearsOf years f.years
  pub one_named : is_any_day f.day ≡ not (is_any_week f.week)
