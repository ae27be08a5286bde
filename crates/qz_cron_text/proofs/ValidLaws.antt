-- What a text says is within the fields' limits, and no set is empty.
use Rattle.std.proofs.Common.{◌≡◌, ◌∙◌, ap, sym, refl, subst, ℕ, ◌+◌, ◌-◌, ◌*◌, ◌%◌, ◌^◌, ◌<◌, ◌≤◌, Bool, true, false, min, arith, zero, suc, cond, List, [], ◌∷◌, map, lit≤, inl, inr}
use Rattle.std.specs.Prelude.{Option, Some, None, Result, Ok, Err, ◌||◌, not, nat_lt, nat_le, ◌⊎◌, bit_or, IfOk, IsTrue}
use Rattle.std.specs.Int.{bit_at}
use Rattle.std.proofs.lemmas.Nat.{or_lt, pow_pos}
use Rattle.std.proofs.lemmas.Nat.Bits.{bit_at-zero}
use Rattle.std.proofs.Math.Nat.{mod-eq_of_lt, zero-mul}
use Rattle.qz_civil.specs.declared.fields.Field.{Field}
use Rattle.qz_civil.specs.declared.fields.Field.TheVariants.{Seconds, Minutes, Hours, DayOfMonth, Month, DayOfWeek, Year}
use Rattle.qz_civil.specs.declared.fields.DayField.{DayField}
use Rattle.qz_civil.specs.declared.fields.DayField.TheVariants as day
use Rattle.qz_civil.specs.declared.fields.WeekField.{WeekField}
use Rattle.qz_civil.specs.declared.fields.WeekField.TheVariants as week
use Rattle.qz_civil.specs.declared.fields.CronFields.{CronFields}
use Rattle.qz_civil.specs.Fields.{least, greatest, size, is_value, is_set, has_some, is_year_set, is_day_field, is_week_field, is_any_day, is_any_week, is_time_fields, is_date_fields, is_cron_fields}
use Rattle.qz_cron_text.specs.declared.runs.Run.{Run}
use Rattle.qz_cron_text.specs.declared.forms.Form.{Form}
use Rattle.qz_cron_text.specs.declared.forms.Form.TheVariants.{Values}
use Rattle.qz_cron_text.specs.declared.errors.CronError.{CronError}
use Rattle.qz_cron_text.specs.Reading.{reading}
use Rattle.qz_cron_text.specs.Runs.{has_value}
use Rattle.qz_cron_text.proofs.GrammarLaws.{reading_is}
use Rattle.qz_cron_text.specs.Sets.{word_of}
use Rattle.qz_cron_text.specs.Grammar.{RunInRange, AreElements, one_element, more_elements, HasValue, SomeHas, HasBits, IsSet, IsDay, IsWeek, AreYears, AreYearsOf, IsText}
use Rattle.qz_cron_text.proofs.SetLemmas.{set_of-below, has_value-above}
use Rattle.qz_cron_text.proofs.FieldLemmas.{size_some}
use Rattle.qz_cron_text.proofs.ElementLaws.{value_right}
use Rattle.qz_cron_text.proofs.FieldLaws.{AreInRange, words_of, set_word, forms_in_range, runs_in_range}
use Rattle.qz_cron_text.proofs.YearLaws.{four_words, YearWords, year_words, one_set, set_fits}
use Rattle.qz_cron_text.proofs.PrintTexts.{days_few, week_few, months_few, hours_few, minutes_few, seconds_few}

-- a word of a run has no bit beyond the field's values
word_below : (field : Field) (run : Run) (from k : ℕ) → size field ≤ from + k → word_of field run from < 2 ^ k
unfolding word_of
word_below field run from k beyond =
    set_of-below (λ i. has_value field run (from + i)) k 64 (λ i above. has_value-above field run (from + i) (omega arith))

words_below : (field : Field) (from k word : ℕ) (runs : List Run) → size field ≤ from + k → word < 2 ^ k → words_of field from word runs < 2 ^ k
words_below field from k word [] beyond small = small
words_below field from k word (run ∷ runs) beyond small =
    words_below field from k (bit_or word (word_of field run from)) runs beyond (or_lt k word (word_of field run from) small (word_below field run from k beyond))

set_below : (field : Field) (from k : ℕ) (text : List ℕ) (word : ℕ) → size field ≤ from + k → IsSet field from text word → word < 2 ^ k
set_below field from k text word beyond is =
    subst (λ (w : ℕ). w < 2 ^ k) (set_word field from text word is) (words_below field from k 0 is.runs beyond (pow_pos k))

-- a run has its first value
has_first : (field : Field) (run : Run) → RunInRange field run → HasValue field run run.first
unfolding greatest
has_first field run right =
    let some : 1 ≤ size field = size_some field in
    let low : least field ≤ run.first = right.first.0 in
    let high : run.first ≤ least field + size field - 1 = right.first.1 in
    let none : 0 * run.step ≡ 0 = zero-mul run.step in
    let e : run.first - least field + 0 * run.step ≡ run.first - least field = omega (arith, none) in
    let at : (run.first - least field + 0 * run.step) % size field ≡ run.first - least field = ap (λ (m : ℕ). m % size field) e ∙ mod-eq_of_lt (omega arith) in
    (0, omega (arith, none), omega (arith, at))

-- a list of elements has a first one
record HasFirst (field : Field) (runs : List Run) : Type 0 where
  run : Run
  right : RunInRange field run
  has : SomeHas field runs run.first

no_elements : (field : Field) (text : List ℕ) (forms : List Form) → AreElements field text forms → forms ≡ [] → ⊥
no_elements field text forms (one_element {text = word} {form} is) none = cc
no_elements field text forms (more_elements {text = word} {texts} {form} {forms = others} is more) none = cc

first_run : (field : Field) (text : List ℕ) (runs : List Run) → AreElements field text (map (λ run. Values run) runs) → HasFirst field runs
first_run field text [] are = absurd (no_elements field text [] are refl)
first_run field text (run ∷ runs) are =
    let right : AreInRange field (run ∷ runs) = runs_in_range field (run ∷ runs) (forms_in_range field text (map (λ r. Values r) (run ∷ runs)) are) in
    record { run = run; right = right.0; has = inl (has_first field run right.0) }

or_true : (b : Bool) → (b || true) ≡ true
or_true true = refl
or_true false = refl

some_bit : (w i : ℕ) → bit_at w i ≡ 1 → 0 < w
some_bit zero i one = let none : bit_at 0 i ≡ 0 = bit_at-zero i in absurd (omega (arith, none, one))
some_bit (suc w) i one = omega arith

-- the word in which the first value is has it
first_bit : (field : Field) (from word : ℕ) (runs : List Run) (first : HasFirst field runs) → HasBits field from runs word
    → from ≤ first.run.first - least field → first.run.first - least field < from + 64 → 0 < word
first_bit field from word runs first bits low high =
    let below : least field ≤ first.run.first = first.right.first.0 in
    let at : first.run.first ≡ least field + from + (first.run.first - least field - from) = omega arith in
    some_bit word (first.run.first - least field - from)
    ((bits (first.run.first - least field - from)).1 (omega arith, subst (λ (v : ℕ). SomeHas field runs v) at first.has))

first_number : (field : Field) (run : Run) → RunInRange field run → run.first - least field < size field
unfolding greatest
first_number field run right =
    let some : 1 ≤ size field = size_some field in
    let low : least field ≤ run.first = right.first.0 in
    let high : run.first ≤ least field + size field - 1 = right.first.1 in
    omega arith

set_valid : (field : Field) (text : List ℕ) (word : ℕ) → size field ≤ 64 → IsSet field 0 text word → is_set field word ≡ true
unfolding is_set
set_valid field text word few is =
    let first : HasFirst field is.runs = first_run field text is.runs is.elements in
    let number : first.run.first - least field < size field = first_number field first.run first.right in
    let some : 0 < word = first_bit field 0 word is.runs first is.bits (omega arith) (omega arith) in
    let small : word < 2 ^ size field = set_below field 0 (size field) text word (omega arith) is in
    grind (arith, some, small)

-- the years' words
years_some : (a b c d : ℕ) → ((0 < a) ⊎ (0 < b) ⊎ (0 < c) ⊎ (0 < d)) → has_some (four_words a b c d) ≡ true
years_some a b c d (inl some) = let e : nat_lt 0 a ≡ true = grind (arith, some) in rw e refl
years_some a b c d (inr (inl some)) = let e : nat_lt 0 b ≡ true = grind (arith, some) in rw e (or_true (nat_lt 0 a))
years_some a b c d (inr (inr (inl some))) = let e : nat_lt 0 c ≡ true = grind (arith, some) in rw (e, or_true (nat_lt 0 b)) (or_true (nat_lt 0 a))
years_some a b c d (inr (inr (inr some))) =
    let e : nat_lt 0 d ≡ true = grind (arith, some) in rw (e, or_true (nat_lt 0 c), or_true (nat_lt 0 b)) (or_true (nat_lt 0 a))

-- a word of the years has no bit beyond the last year
year_word_small : (text : List ℕ) (from word : ℕ) → IsSet Year from text word → nat_lt word (2 ^ min (size Year - from) 64) ≡ true
year_word_small text from word is = by_place (nat_lt (size Year - from) 64) refl
  where
    by_place : (b : Bool) → nat_lt (size Year - from) 64 ≡ b → nat_lt word (2 ^ min (size Year - from) 64) ≡ true
    by_place true less =
        let same : min (size Year - from) 64 ≡ size Year - from = grind (arith, less) in
        let small : word < 2 ^ (size Year - from) = set_below Year from (size Year - from) text word (omega arith) is in
        rw same (grind (arith, small))
    by_place false more =
        let same : min (size Year - from) 64 ≡ 64 = grind (arith, more) in
        let small : word < 2 ^ 64 = set_fits Year from text word is in
        rw same (grind (arith, small))

years_valid_at : (text years : List ℕ) → AreYears text years → is_year_set years ≡ true
unfolding is_year_set size
years_valid_at text years are =
    subst (λ (ys : List ℕ). is_year_set ys ≡ true) (sym words.is)
    (rw (
      years_some words.first words.second words.third words.fourth some,
      year_word_small text 0 words.first (one_set text years words 0 words.first words.first_bits),
      year_word_small text 64 words.second (one_set text years words 64 words.second words.second_bits),
      year_word_small text 128 words.third (one_set text years words 128 words.third words.third_bits),
      year_word_small text 192 words.fourth (one_set text years words 192 words.fourth words.fourth_bits),
    )
    refl)
  where
    words : YearWords text years
    words = year_words text years are

    start : HasFirst Year words.runs
    start = first_run Year text words.runs words.elements

    number : start.run.first - least Year < 256
    number = let within = first_number Year start.run start.right in let most : size Year ≤ 256 = lit≤ tt in omega arith

    by_place : (x y z : Bool) → nat_lt (start.run.first - least Year) 64 ≡ x → nat_lt (start.run.first - least Year) 128 ≡ y → nat_lt (start.run.first - least Year) 192 ≡ z
        → (0 < words.first) ⊎ (0 < words.second) ⊎ (0 < words.third) ⊎ (0 < words.fourth)
    by_place true y z low second third = inl (first_bit Year 0 words.first words.runs start words.first_bits (omega arith) (grind (arith, low)))
    by_place false true z low second third = inr (inl (first_bit Year 64 words.second words.runs start words.second_bits (grind (arith, low)) (grind (arith, second))))
    by_place false false true low second third = inr (inr (inl (first_bit Year 128 words.third words.runs start words.third_bits (grind (arith, second)) (grind (arith, third)))))
    by_place false false false low second third = inr (inr (inr (first_bit Year 192 words.fourth words.runs start words.fourth_bits (grind (arith, third)) (omega (arith, number)))))

    some : (0 < words.first) ⊎ (0 < words.second) ⊎ (0 < words.third) ⊎ (0 < words.fourth)
    some = by_place (nat_lt (start.run.first - least Year) 64) (nat_lt (start.run.first - least Year) 128) (nat_lt (start.run.first - least Year) 192) refl refl refl

years_valid : (text : Option (List ℕ)) (years : List ℕ) → AreYearsOf text years → is_year_set years ≡ true
years_valid None years is = years_valid_at (42 ∷ []) years is
years_valid (Some text) years is = years_valid_at text years is

day_valid : (text : List ℕ) (d : DayField) → IsDay text d → is_day_field d ≡ true
unfolding is_day_field
day_valid text day.Any is = refl
day_valid text (day.Set word) is = set_valid DayOfMonth text word days_few is
day_valid text (day.Last back) is = grind (arith, is.in_range)
day_valid text day.LastWeekday is = refl
day_valid text (day.Nearest d) is = value_right DayOfMonth d is.in_range

saturday_valid : (word : ℕ) → word ≡ 64 → is_set DayOfWeek word ≡ true
unfolding is_set size
saturday_valid word same = subst (λ (w : ℕ). is_set DayOfWeek w ≡ true) (sym same) refl

week_set_valid : (text : List ℕ) (word : ℕ) → IsWeek text (week.Set word) → is_set DayOfWeek word ≡ true
week_set_valid text word (inl is) = set_valid DayOfWeek text word week_few is
week_set_valid text word (inr (is, same)) = saturday_valid word same

week_valid : (text : List ℕ) (w : WeekField) → IsWeek text w → is_week_field w ≡ true
unfolding is_week_field
week_valid text week.Any is = refl
week_valid text (week.Set word) is = week_set_valid text word is
week_valid text (week.Last d) is = value_right DayOfWeek d is.in_range
week_valid text (week.Nth d n) is =
    let right : is_value DayOfWeek d ≡ true = value_right DayOfWeek d is.in_range.0 in
    let low : nat_le 1 n ≡ true = grind (arith, is.in_range.1.0) in
    let high : nat_le n 5 ≡ true = grind (arith, is.in_range.1.1) in
    rw (right, low, high) refl

one_day : (a b : Bool) → a ≡ not b → cond a (not b) b ≡ true
one_day true true e = absurd (clash e)
  where
    clash : true ≡ false → ⊥
    clash x = cc
one_day true false e = refl
one_day false true e = refl
one_day false false e = absurd (clash e)
  where
    clash : false ≡ true → ⊥
    clash x = cc

-- what a text says is valid
pub text_valid : (text : List ℕ) (f : CronFields) → IsText text f → is_cron_fields f ≡ true
unfolding is_time_fields is_date_fields
text_valid text f is =
    rw (
      set_valid Seconds is.seconds f.seconds seconds_few is.is_seconds,
      set_valid Minutes is.minutes f.minutes minutes_few is.is_minutes,
      set_valid Hours is.hours f.hours hours_few is.is_hours,
      day_valid is.day f.day is.is_day,
      set_valid Month is.months f.months months_few is.is_months,
      week_valid is.week f.week is.is_week,
      years_valid is.years f.years is.is_years,
    )
    (one_day (is_any_day f.day) (is_any_week f.week) is.one_named)

pub valid_when_read : (text : List ℕ) (result : Result CronFields CronError) → result ≡ reading text → IfOk result (λ f. IsTrue (is_cron_fields f))
valid_when_read text (Ok f) e = text_valid text f (reading_is text f (sym e))
valid_when_read text (Err fault) e = tt
