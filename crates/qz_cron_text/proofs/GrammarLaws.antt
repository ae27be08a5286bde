-- Reading a text agrees with the grammar.
use Rattle.std.proofs.Common.{◌≡◌, ◌∙◌, ap, sym, refl, subst, ℕ, ◌≤◌, arith, List, [], ◌∷◌, ◌++◌, length, map, inl, inr}
use Rattle.std.specs.Prelude.{Option, Some, None, Result, Ok, Err, not, ◌↔◌, IfOk}
use Rattle.std.specs.List.{AllByRecursion}
use Rattle.qz_civil.specs.declared.fields.Field.{Field}
use Rattle.qz_civil.specs.declared.fields.Field.TheVariants.{Seconds, Minutes, Hours, DayOfMonth, Month, DayOfWeek, Year}
use Rattle.qz_civil.specs.declared.fields.DayField.{DayField}
use Rattle.qz_civil.specs.declared.fields.DayField.TheVariants as day
use Rattle.qz_civil.specs.declared.fields.WeekField.{WeekField}
use Rattle.qz_civil.specs.declared.fields.WeekField.TheVariants as week
use Rattle.qz_civil.specs.declared.fields.CronFields.{CronFields}
use Rattle.qz_civil.specs.Fields.{is_any_day, is_any_week}
use Rattle.qz_cron_text.specs.declared.errors.CronError.{CronError}
use Rattle.qz_cron_text.specs.declared.forms.Form.{Form}
use Rattle.qz_cron_text.specs.declared.forms.Form.TheVariants.{Values, Day, Week}
use Rattle.qz_cron_text.specs.declared.forms.DayForm.TheVariants as days
use Rattle.qz_cron_text.specs.declared.forms.WeekForm.TheVariants as weeks
use Rattle.qz_cron_text.specs.Elements.{◌>>=◌}
use Rattle.qz_cron_text.specs.Texts.{Whole, whole_by, whole_of, fields_at, is_blank}
use Rattle.qz_cron_text.specs.Errors.{u32_of}
use Rattle.qz_cron_text.specs.Reading.{word_at, day_of, week_of, years_of, days_checked, fields_of, reading}
use Rattle.qz_cron_text.specs.Grammar.{IsElement, AreElements, one_element, more_elements, IsSet, IsDay, IsWeek, AreYearsOf, years_list, IsText}
use Rattle.qz_cron_text.proofs.Free.{free-append}
use Rattle.qz_cron_text.proofs.Bytes.{inner_no_blank, form_inner, form_some}
use Rattle.qz_cron_text.proofs.TextLaws.{IsWord, IsSpaced, spaced, spaced_words, fields_texts, text_of, words}
use Rattle.qz_cron_text.proofs.WholeLaws.{Read, read_on, ok_is, word_is, word_read, day_is, day_read, week_is, week_read, years_are, years_read, IsChecked, checked_is, checked_read, text_in, texts_in, whole_is, IsWhole, whole_read, seconds_plain, minutes_plain, hours_plain, months_plain}

-- the parts of a text that was read
record AreFields (w : Whole) (f : CronFields) : Type 0 where
  seconds : IsSet Seconds 0 w.seconds.text f.seconds
  minutes : IsSet Minutes 0 w.minutes.text f.minutes
  hours : IsSet Hours 0 w.hours.text f.hours
  day : IsDay w.day.text f.day
  months : IsSet Month 0 w.months.text f.months
  week : IsWeek w.week.text f.week
  years : AreYearsOf (text_in w.years) f.years
  one_named : is_any_day f.day ≡ not (is_any_week f.week)

abbrev pub given : ℕ → ℕ → ℕ → DayField → ℕ → WeekField → List ℕ → CronFields
given s m h d i w years = record { seconds = s; minutes = m; hours = h; day = d; months = i; week = w; years = years }

-- the rest of a text from one of its fields on
abbrev pub from_years : Whole → ℕ → ℕ → ℕ → DayField → ℕ → WeekField → Result CronFields CronError
from_years w s m h d i k = years_of w.years >>= λ years. days_checked (given s m h d i k years)

abbrev pub from_week : Whole → ℕ → ℕ → ℕ → DayField → ℕ → Result CronFields CronError
from_week w s m h d i = week_of w.week >>= from_years w s m h d i

abbrev pub from_months : Whole → ℕ → ℕ → ℕ → DayField → Result CronFields CronError
from_months w s m h d = word_at Month 0 w.months >>= from_week w s m h d

abbrev pub from_day : Whole → ℕ → ℕ → ℕ → Result CronFields CronError
from_day w s m h = day_of w.day >>= from_months w s m h

abbrev pub from_hours : Whole → ℕ → ℕ → Result CronFields CronError
from_hours w s m = word_at Hours 0 w.hours >>= from_day w s m

abbrev pub from_minutes : Whole → ℕ → Result CronFields CronError
from_minutes w s = word_at Minutes 0 w.minutes >>= from_hours w s

fields_are : (w : Whole) (f : CronFields) → fields_of w ≡ Ok f → AreFields w f
unfolding fields_of
fields_are w f e =
    let s : Read (word_at Seconds 0 w.seconds) (from_minutes w) f = read_on (word_at Seconds 0 w.seconds) (from_minutes w) f e in
    let m : Read (word_at Minutes 0 w.minutes) (from_hours w s.value) f = read_on (word_at Minutes 0 w.minutes) (from_hours w s.value) f s.rest in
    let h : Read (word_at Hours 0 w.hours) (from_day w s.value m.value) f = read_on (word_at Hours 0 w.hours) (from_day w s.value m.value) f m.rest in
    let d : Read (day_of w.day) (from_months w s.value m.value h.value) f = read_on (day_of w.day) (from_months w s.value m.value h.value) f h.rest in
    let i : Read (word_at Month 0 w.months) (from_week w s.value m.value h.value d.value) f = read_on (word_at Month 0 w.months) (from_week w s.value m.value h.value d.value) f d.rest in
    let k : Read (week_of w.week) (from_years w s.value m.value h.value d.value i.value) f = read_on (week_of w.week) (from_years w s.value m.value h.value d.value i.value) f i.rest in
    let y : Read (years_of w.years) (λ years. days_checked (given s.value m.value h.value d.value i.value k.value years)) f =
    read_on (years_of w.years) (λ years. days_checked (given s.value m.value h.value d.value i.value k.value years)) f k.rest in
    let checked : IsChecked (given s.value m.value h.value d.value i.value k.value y.value) f = checked_is (given s.value m.value h.value d.value i.value k.value y.value) f y.rest in
    let are : AreFields w (given s.value m.value h.value d.value i.value k.value y.value) = record {
      seconds = word_is Seconds 0 w.seconds s.value seconds_plain s.is;
      minutes = word_is Minutes 0 w.minutes m.value minutes_plain m.is;
      hours = word_is Hours 0 w.hours h.value hours_plain h.is;
      day = day_is w.day d.value d.is;
      months = word_is Month 0 w.months i.value months_plain i.is;
      week = week_is w.week k.value k.is;
      years = years_are w.years y.value y.is;
      one_named = checked.one_named;
    } in
    subst (λ (g : CronFields). AreFields w g) {x = given s.value m.value h.value d.value i.value k.value y.value} checked.same are

fields_read : (w : Whole) (f : CronFields) → AreFields w f → fields_of w ≡ Ok f
unfolding fields_of
fields_read w f are =
    rw (
      word_read Seconds 0 w.seconds f.seconds are.seconds,
      word_read Minutes 0 w.minutes f.minutes are.minutes,
      word_read Hours 0 w.hours f.hours are.hours,
      day_read w.day f.day are.day,
      word_read Month 0 w.months f.months are.months,
      week_read w.week f.week are.week,
      years_read w.years f.years are.years,
    )
    (checked_read f are.one_named)

-- a text that was read is in the grammar
pub reading_is : (text : List ℕ) (f : CronFields) → reading text ≡ Ok f → IsText text f
unfolding reading whole_of
reading_is text f e = made whole.value (whole_is (u32_of (length (fields_at 0 text))) (fields_at 0 text) whole.value whole.is) (fields_are whole.value f whole.rest)
  where
    whole : Read (whole_by (u32_of (length (fields_at 0 text))) (fields_at 0 text)) fields_of f
    whole = read_on (whole_by (u32_of (length (fields_at 0 text))) (fields_at 0 text)) fields_of f e

    made : (w : Whole) → map text_of (fields_at 0 text) ≡ texts_in w → AreFields w f → IsText text f
    made w texts are =
        let same : words text ≡ texts_in w = sym (fields_texts 0 text) ∙ texts in
        let parts : IsSpaced text (texts_in w) = subst (λ (ts : List (List ℕ)). IsSpaced text ts) same (spaced text) in
        record {
          seconds = w.seconds.text;
          minutes = w.minutes.text;
          hours = w.hours.text;
          day = w.day.text;
          months = w.months.text;
          week = w.week.text;
          years = text_in w.years;
          blanks = parts.blanks;
          rest = parts.rest;
          is_blank = parts.are;
          is = parts.is;
          joined = parts.joined;
          is_seconds = are.seconds;
          is_minutes = are.minutes;
          is_hours = are.hours;
          is_day = are.day;
          is_months = are.months;
          is_week = are.week;
          is_years = are.years;
          one_named = are.one_named;
        }

element_word : (field : Field) (text : List ℕ) (form : Form) → IsElement field text form → IsWord text
element_word field text form is = record { some = form_some field text form is.is_form; free = inner_no_blank text (form_inner field text form is.is_form) }

two_words : (xs ys : List ℕ) → IsWord xs → IsWord ys → IsWord (xs ++ 44 ∷ ys)
two_words xs ys first second = record { some = long xs; free = free-append is_blank xs (44 ∷ ys) first.free (refl, second.free) }
  where
    long : (zs : List ℕ) → 1 ≤ length (zs ++ 44 ∷ ys)
    long [] = grind arith
    long (z ∷ zs) = grind arith

elements_word : (field : Field) (text : List ℕ) (forms : List Form) → AreElements field text forms → IsWord text
elements_word field text forms (one_element {text = word} {form} is) = element_word field word form is
elements_word field text forms (more_elements {text = word} {texts} {form} {forms = others} is more) =
    two_words word texts (element_word field word form is) (elements_word field texts others more)

set_word : (field : Field) (from : ℕ) (text : List ℕ) (word : ℕ) → IsSet field from text word → IsWord text
set_word field from text word is = elements_word field text (map (λ run. Values run) is.runs) is.elements

day_word : (text : List ℕ) (d : DayField) → IsDay text d → IsWord text
day_word text day.Any is = element_word DayOfMonth text (Day days.Unnamed) is
day_word text (day.Set word) is = set_word DayOfMonth 0 text word is
day_word text (day.Last back) is = element_word DayOfMonth text (Day (days.Last back)) is
day_word text day.LastWeekday is = element_word DayOfMonth text (Day days.LastWeekday) is
day_word text (day.Nearest d) is = element_word DayOfMonth text (Day (days.Nearest d)) is

week_set_word : (text : List ℕ) (word : ℕ) → IsWeek text (week.Set word) → IsWord text
week_set_word text word (inl is) = set_word DayOfWeek 0 text word is
week_set_word text word (inr (is, same)) = element_word DayOfWeek text (Week weeks.Saturday) is

week_word : (text : List ℕ) (w : WeekField) → IsWeek text w → IsWord text
week_word text week.Any is = element_word DayOfWeek text (Week weeks.Unnamed) is
week_word text (week.Set word) is = week_set_word text word is
week_word text (week.Last d) is = element_word DayOfWeek text (Week (weeks.LastOf d)) is
week_word text (week.Nth d n) is = element_word DayOfWeek text (Week (weeks.Nth d n)) is

years_words : (years : Option (List ℕ)) (words : List ℕ) → AreYearsOf years words → AllByRecursion IsWord (years_list years)
years_words None words is = tt
years_words (Some text) words is = (elements_word Year text (map (λ run. Values run) is.runs) is.elements, tt)

-- a text in the grammar is read
pub reading_read : (text : List ℕ) (f : CronFields) → IsText text f → reading text ≡ Ok f
unfolding reading whole_of
reading_read text f is =
    let all : AllByRecursion IsWord (is.seconds ∷ is.minutes ∷ is.hours ∷ is.day ∷ is.months ∷ is.week ∷ years_list is.years) = (
      set_word Seconds 0 is.seconds f.seconds is.is_seconds,
      (
        set_word Minutes 0 is.minutes f.minutes is.is_minutes,
        (
          set_word Hours 0 is.hours f.hours is.is_hours,
          (day_word is.day f.day is.is_day, (set_word Month 0 is.months f.months is.is_months, (week_word is.week f.week is.is_week, years_words is.years f.years is.is_years))),
        ),
      ),
    ) in
    let found : words text ≡ is.seconds ∷ is.minutes ∷ is.hours ∷ is.day ∷ is.months ∷ is.week ∷ years_list is.years =
    ap words is.is ∙ spaced_words is.blanks (is.seconds ∷ is.minutes ∷ is.hours ∷ is.day ∷ is.months ∷ is.week ∷ years_list is.years) is.rest is.is_blank is.joined all in
    let w : IsWhole (u32_of (length (fields_at 0 text))) (fields_at 0 text) is.seconds is.minutes is.hours is.day is.months is.week is.years =
    whole_read (u32_of (length (fields_at 0 text))) (fields_at 0 text) is.seconds is.minutes is.hours is.day is.months is.week is.years (fields_texts 0 text ∙ found) in
    let are : AreFields w.whole f = record {
      seconds = subst (λ (t : List ℕ). IsSet Seconds 0 t f.seconds) (sym w.seconds) is.is_seconds;
      minutes = subst (λ (t : List ℕ). IsSet Minutes 0 t f.minutes) (sym w.minutes) is.is_minutes;
      hours = subst (λ (t : List ℕ). IsSet Hours 0 t f.hours) (sym w.hours) is.is_hours;
      day = subst (λ (t : List ℕ). IsDay t f.day) (sym w.day) is.is_day;
      months = subst (λ (t : List ℕ). IsSet Month 0 t f.months) (sym w.months) is.is_months;
      week = subst (λ (t : List ℕ). IsWeek t f.week) (sym w.week) is.is_week;
      years = subst (λ (t : Option (List ℕ)). AreYearsOf t f.years) (sym w.years_text) is.is_years;
      one_named = is.one_named;
    } in
    rw w.is (fields_read w.whole f are)

-- a text says just one thing, and what it says is what is read
pub texts_have_meanings : (text : List ℕ) (f : CronFields) → (reading text ≡ Ok f) ↔ IsText text f
texts_have_meanings text f = (reading_is text f, reading_read text f)

pub one_meaning : (text : List ℕ) (f g : CronFields) → IsText text f → IsText text g → f ≡ g
one_meaning text f g is also = ok_is (sym (reading_read text f is) ∙ reading_read text g also)

pub when_read : (text : List ℕ) (result : Result CronFields CronError) → result ≡ reading text → IfOk result (λ f. IsText text f)
when_read text (Ok f) e = reading_is text f (sym e)
when_read text (Err fault) e = tt
