-- The first fault of a cron text, in the words of the grammar. No rule reads a text; each tells how one is put together, and
-- what in it is wrong.
use Rattle.std.specs.Prelude.{◌≡◌, ◌≢◌, ℕ, ◌+◌, ◌≤◌, ◌⊎◌, List, [], ◌∷◌, ◌++◌, length, true, Some, slice_get}
use Rattle.std.specs.List.{AllByRecursion, zip}
use Rattle.std.specs.Int.{IsInRange}
use Rattle.qz_civil.specs.declared.fields.Field.{Field}
use Rattle.qz_civil.specs.declared.fields.Field.TheVariants.{Seconds, Minutes, Hours, DayOfMonth, Month, DayOfWeek, Year}
use Rattle.qz_civil.specs.Fields.{number}
use Rattle.qz_cron_text.specs.declared.errors.CronError.{CronError}
use Rattle.qz_cron_text.specs.declared.errors.CronError.TheVariants.{FieldCount, BadToken, OutOfRange, BothDays, NoDays, BadStep, NotAlone}
use Rattle.qz_cron_text.specs.declared.forms.Form.{Form}
use Rattle.qz_cron_text.specs.declared.forms.Form.TheVariants.{Values, Day, Week}
use Rattle.qz_cron_text.specs.declared.forms.DayForm.TheVariants as days
use Rattle.qz_cron_text.specs.declared.forms.WeekForm.TheVariants as weeks
use Rattle.qz_cron_text.specs.declared.runs.Run.{Run}
use Rattle.qz_cron_text.specs.Errors.{u32_of}
use Rattle.qz_cron_text.specs.Grammar.{AreBlanks, AreElements, IsElement, IsForm, IsOf}
use Rattle.qz_cron_text.specs.Runs.{is_year}
use Rattle.qz_cron_text.specs.Texts.{Placed}

-- Places. A part of a text is at the number of bytes before it.

-- a part and its place
abbrev pub part_at : ℕ → List ℕ → Placed
part_at at text = record { at = at; text = text }

-- at least one byte, and no space or tab among them
pub record IsUnbroken (text : List ℕ) : Type 0 where
  pub some : 1 ≤ length text
  pub no_blank : AllByRecursion (λ b. (b ≢ 32) × (b ≢ 9)) text

-- the fields of a text that is at a place: unbroken parts between blanks
pub data AreFields : ℕ → List ℕ → List Placed → Type 0 where
  no_field : {at : ℕ} {blanks : List ℕ} → AreBlanks blanks → AreFields at blanks []
  last_field : {at : ℕ} (blanks : List ℕ) {field : List ℕ} → AreBlanks blanks → IsUnbroken field
      → AreFields at (blanks ++ field) (part_at (at + length blanks) field ∷ [])
  next_field : {at : ℕ} (blanks : List ℕ) {field rest : List ℕ} (b : ℕ) {more : List Placed} → AreBlanks blanks → IsUnbroken field
      → (b ≡ 32) ⊎ (b ≡ 9) → AreFields (at + length blanks + length field + 1) rest more
      → AreFields at (blanks ++ (field ++ b ∷ rest)) (part_at (at + length blanks) field ∷ more)

-- the elements of a field that is at a place: parts between commas
pub data AreParts : ℕ → List ℕ → List Placed → Type 0 where
  last_part : {at : ℕ} {part : List ℕ} → AllByRecursion (λ b. b ≢ 44) part → AreParts at part (part_at at part ∷ [])
  next_part : {at : ℕ} {part rest : List ℕ} {more : List Placed} → AllByRecursion (λ b. b ≢ 44) part
      → AreParts (at + length part + 1) rest more → AreParts at (part ++ 44 ∷ rest) (part_at at part ∷ more)

-- Elements.

-- the first value of a run is the field's, and a year that isn't later than the last
pub record IsFirstRight (field : Field) (run : Run) : Type 0 where
  pub is_value : IsOf field run.first
  pub forward : is_year field ≡ true → run.first ≤ run.last

-- the first number of a form that is out of range
pub data IsOutOfRange (field : Field) : Form → ℕ → Type 0 where
  first_value : {run : Run} → (IsFirstRight field run → ⊥) → IsOutOfRange field (Values run) run.first
  last_value : {run : Run} → IsFirstRight field run → (IsOf field run.last → ⊥) → IsOutOfRange field (Values run) run.last
  before_last_day : {back : ℕ} → 31 ≤ back → IsOutOfRange field (Day (days.Last back)) back
  nearest_weekday : {d : ℕ} → (IsOf DayOfMonth d → ⊥) → IsOutOfRange field (Day (days.Nearest d)) d
  last_of_month : {d : ℕ} → (IsOf DayOfWeek d → ⊥) → IsOutOfRange field (Week (weeks.LastOf d)) d
  weekday_of_month : {d n : ℕ} → (IsOf DayOfWeek d → ⊥) → IsOutOfRange field (Week (weeks.Nth d n)) d
  nth_of_month : {d n : ℕ} → IsOf DayOfWeek d → (IsInRange 1 5 n → ⊥) → IsOutOfRange field (Week (weeks.Nth d n)) n

-- the step of a run isn't 1 to 59, and its values are right
pub record IsBadStep (field : Field) (run : Run) : Type 0 where
  pub first : IsFirstRight field run
  pub last : IsOf field run.last
  pub step : IsInRange 1 59 run.step → ⊥

-- what is wrong with an element: it has none of its field's forms, or a number out of range, or a step that isn't 1 to 59
pub data IsElementFault (field : Field) (at : ℕ) (text : List ℕ) : CronError → Type 0 where
  bad_token : ((form : Form) → IsForm field text form → ⊥) → IsElementFault field at text (BadToken (number field) (u32_of at))
  out_of_range : {form : Form} {value : ℕ} → IsForm field text form → IsOutOfRange field form value
      → IsElementFault field at text (OutOfRange (number field) value)
  bad_step : {run : Run} → IsForm field text (Values run) → IsBadStep field run → IsElementFault field at text (BadStep (number field))

-- Fields.

-- the element has no fault
abbrev pub IsRightElement : Field → Placed → Type 0
IsRightElement field part = (form : Form) × IsElement field part.text form

-- some form isn't a run of values
abbrev pub HasSpecial : List Form → Type 0
HasSpecial [] = ⊥
HasSpecial (Values run ∷ forms) = HasSpecial forms
HasSpecial (Day form ∷ forms) = Unit {0}
HasSpecial (Week form ∷ forms) = Unit {0}

-- elements without a fault, of which one that isn't a run of values is alone
pub record IsRightField (field : Field) (text : List ℕ) : Type 0 where
  pub forms : List Form
  pub elements : AreElements field text forms
  pub alone : 2 ≤ length forms → HasSpecial forms → ⊥

-- the first fault of a field: that of its first element with one, or else a form that isn't alone
pub data IsFieldFault (field : Field) (at : ℕ) (text : List ℕ) : CronError → Type 0 where
  in_element : (before after : List Placed) {part : Placed} {fault : CronError} → AreParts at text (before ++ part ∷ after)
      → AllByRecursion (IsRightElement field) before → IsElementFault field part.at part.text fault → IsFieldFault field at text fault
  not_alone : {forms : List Form} → AreElements field text forms → 2 ≤ length forms → HasSpecial forms
      → IsFieldFault field at text (NotAlone (number field))

-- Texts.

-- the fields of a text from the left
abbrev pub all_fields : List Field
all_fields = Seconds ∷ Minutes ∷ Hours ∷ DayOfMonth ∷ Month ∷ DayOfWeek ∷ Year ∷ []

-- the parts with the fields that they are
abbrev pub as_fields : List Placed → List (Field × Placed)
as_fields parts = zip all_fields parts

-- the part is a field without a fault
abbrev pub IsRightPart : Field × Placed → Type 0
IsRightPart part = IsRightField part.0 part.1.text

-- the part with that number, from 0, is `?`
abbrev pub IsQuestion : List Placed → ℕ → Type 0
IsQuestion parts i = (part : Placed) × (slice_get parts i ≡ Some part) × (part.text ≡ 63 ∷ [])

-- it is something else
abbrev pub IsNoQuestion : List Placed → ℕ → Type 0
IsNoQuestion parts i = (part : Placed) × (slice_get parts i ≡ Some part) × (part.text ≢ 63 ∷ [])

-- The first fault of a text: that there are neither six nor seven fields; or the first fault of the first field with one; or, where
-- no field has one, that neither of the two fields on days is `?`, or that both are.
pub data IsFirstFault (text : List ℕ) : CronError → Type 0 where
  field_count : {parts : List Placed} → AreFields 0 text parts → (length parts ≢ 6) × (length parts ≢ 7)
      → IsFirstFault text (FieldCount (u32_of (length parts)))
  in_field : {parts : List Placed} (before after : List (Field × Placed)) {field : Field} {part : Placed} {fault : CronError}
      → AreFields 0 text parts → (length parts ≡ 6) ⊎ (length parts ≡ 7) → as_fields parts ≡ before ++ (field, part) ∷ after
      → AllByRecursion IsRightPart before → IsFieldFault field part.at part.text fault → IsFirstFault text fault
  both_days : {parts : List Placed} → AreFields 0 text parts → (length parts ≡ 6) ⊎ (length parts ≡ 7)
      → AllByRecursion IsRightPart (as_fields parts) → IsNoQuestion parts 3 → IsNoQuestion parts 5 → IsFirstFault text BothDays
  no_days : {parts : List Placed} → AreFields 0 text parts → (length parts ≡ 6) ⊎ (length parts ≡ 7)
      → AllByRecursion IsRightPart (as_fields parts) → IsQuestion parts 3 → IsQuestion parts 5 → IsFirstFault text NoDays
