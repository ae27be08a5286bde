-- Whole texts: reading them agrees with the grammar.
use Rattle.std.proofs.Common.{◌≡◌, ◌<◌, arith, length, ◌∙◌, ap, sym, refl, subst, ℕ, Bool, true, false, cond, List, [], ◌∷◌, map, inl, inr}
use Rattle.std.specs.Prelude.{Option, Some, None, Result, Ok, Err, ◌&&◌, not}
use Rattle.std.specs.Option.{option_map}
use Rattle.qz_civil.specs.declared.fields.Field.{Field}
use Rattle.qz_civil.specs.declared.fields.Field.TheVariants.{Seconds, Minutes, Hours, DayOfMonth, Month, DayOfWeek, Year}
use Rattle.qz_civil.specs.declared.fields.DayField.{DayField}
use Rattle.qz_civil.specs.declared.fields.DayField.TheVariants as day
use Rattle.qz_civil.specs.declared.fields.WeekField.{WeekField}
use Rattle.qz_civil.specs.declared.fields.WeekField.TheVariants as week
use Rattle.qz_civil.specs.declared.fields.CronFields.{CronFields}
use Rattle.qz_civil.specs.Fields.{is_any_day, is_any_week}
use Rattle.qz_cron_text.specs.declared.errors.CronError.{CronError}
use Rattle.qz_cron_text.specs.declared.errors.CronError.TheVariants.{BothDays, NoDays, FieldCount}
use Rattle.qz_cron_text.specs.declared.forms.Form.TheVariants.{Day, Week}
use Rattle.qz_cron_text.specs.declared.forms.DayForm.{DayForm}
use Rattle.qz_cron_text.specs.declared.forms.DayForm.TheVariants as days
use Rattle.qz_cron_text.specs.declared.forms.WeekForm.{WeekForm}
use Rattle.qz_cron_text.specs.declared.forms.WeekForm.TheVariants as weeks
use Rattle.qz_cron_text.specs.declared.elements.Elements.{Elements}
use Rattle.qz_cron_text.specs.Elements.{◌>>=◌, and_form}
use Rattle.qz_cron_text.specs.Texts.{Placed, Whole, six_and, whole_by}
use Rattle.qz_cron_text.specs.Reading.{field_at, word_at, special_day, day_by, special_week, week_by, day_of, week_of, years_at, all_years, years_of, days_checked}
use Rattle.qz_cron_text.specs.Grammar.{IsForm, of_day, of_week, IsElement, HasBits, IsSet, IsDay, IsWeek, AreYears, AreYearsOf, years_list}
use Rattle.qz_cron_text.proofs.TextLaws.{text_of}
use Rattle.qz_cron_text.proofs.YearLaws.{YearWords, year_words, one_set, years_of_words}
use Rattle.qz_cron_text.proofs.FieldLaws.{IsFieldOf, a_set, a_day, a_week, words_of, runs_bits, runs_are_set, set_read, form_field, field_is}

-- what was read, and the rest
pub record Read {A B : Type 0} (r : Result A CronError) (f : A → Result B CronError) (y : B) : Type 0 where
  pub value : A
  pub is : r ≡ Ok value
  pub rest : f value ≡ Ok y

pub read_on : {A B : Type 0} (r : Result A CronError) (f : A → Result B CronError) (y : B) → (r >>= f) ≡ Ok y → Read r f y
read_on (Ok x) f y e = record { value = x; is = refl; rest = e }
read_on (Err fault) f y e = absurd (clash e)
  where
    clash : {B : Type 0} {z : B} → ◌≡◌ {A = Result B CronError} (Err fault) (Ok z) → ⊥
    clash x = cc

pub ok_is : {A : Type 0} {x y : A} → ◌≡◌ {A = Result A CronError} (Ok x) (Ok y) → x ≡ y
ok_is e = cc

day_at : (field : Field) (text : List ℕ) (form : DayForm) → IsForm field text (Day form) → field ≡ DayOfMonth
day_at field text form (of_day at is) = at

week_at : (field : Field) (text : List ℕ) (form : WeekForm) → IsForm field text (Week form) → field ≡ DayOfWeek
week_at field text form (of_week at is) = at

-- a field of values alone
pub record IsPlainField (field : Field) : Type 0 where
  pub no_day : field ≡ DayOfMonth → ⊥
  pub no_week : field ≡ DayOfWeek → ⊥

set_of_field : (field : Field) (from : ℕ) (text : List ℕ) (found : Elements) → IsPlainField field → IsFieldOf field from text found → IsSet field from text found.word
set_of_field field from text found plain (a_set is) = is
set_of_field field from text found plain (a_day {form} is) = absurd (plain.no_day (day_at field text form is.is_form))
set_of_field field from text found plain (a_week {form} is) = absurd (plain.no_week (week_at field text form is.is_form))

pub word_is : (field : Field) (from : ℕ) (p : Placed) (word : ℕ) → IsPlainField field → word_at field from p ≡ Ok word → IsSet field from p.text word
word_is field from p word plain e =
    let read : Read (field_at field from p) (λ found. Ok found.word) word = read_on (field_at field from p) (λ found. Ok found.word) word e in
    subst (λ (w : ℕ). IsSet field from p.text w) (ok_is read.rest) (set_of_field field from p.text read.value plain (field_is field from p.at p.text read.value read.is))

pub word_read : (field : Field) (from : ℕ) (p : Placed) (word : ℕ) → IsSet field from p.text word → word_at field from p ≡ Ok word
word_read field from p word is = rw (set_read field from p.at p.text word is) refl

pub seconds_plain : IsPlainField Seconds
seconds_plain = record { no_day = λ e. seconds_day e; no_week = λ e. seconds_week e }
  where
    seconds_day : Seconds ≡ DayOfMonth → ⊥
    seconds_day e = cc

    seconds_week : Seconds ≡ DayOfWeek → ⊥
    seconds_week e = cc

pub minutes_plain : IsPlainField Minutes
minutes_plain = record { no_day = λ e. minutes_day e; no_week = λ e. minutes_week e }
  where
    minutes_day : Minutes ≡ DayOfMonth → ⊥
    minutes_day e = cc

    minutes_week : Minutes ≡ DayOfWeek → ⊥
    minutes_week e = cc

pub hours_plain : IsPlainField Hours
hours_plain = record { no_day = λ e. hours_day e; no_week = λ e. hours_week e }
  where
    hours_day : Hours ≡ DayOfMonth → ⊥
    hours_day e = cc

    hours_week : Hours ≡ DayOfWeek → ⊥
    hours_week e = cc

pub months_plain : IsPlainField Month
months_plain = record { no_day = λ e. months_day e; no_week = λ e. months_week e }
  where
    months_day : Month ≡ DayOfMonth → ⊥
    months_day e = cc

    months_week : Month ≡ DayOfWeek → ⊥
    months_week e = cc

years_plain : IsPlainField Year
years_plain = record { no_day = λ e. years_day e; no_week = λ e. years_week e }
  where
    years_day : Year ≡ DayOfMonth → ⊥
    years_day e = cc

    years_week : Year ≡ DayOfWeek → ⊥
    years_week e = cc

special_day_is : (text : List ℕ) (form : DayForm) → IsElement DayOfMonth text (Day form) → IsDay text (special_day form)
special_day_is text days.Unnamed is = is
special_day_is text (days.Last back) is = is
special_day_is text days.LastWeekday is = is
special_day_is text (days.Nearest d) is = is

day_of_field : (text : List ℕ) (found : Elements) → IsFieldOf DayOfMonth 0 text found → IsDay text (day_by found.word found.day)
day_of_field text found (a_set is) = is
day_of_field text found (a_day {form} is) = special_day_is text form is
day_of_field text found (a_week {form} is) = absurd (clash (week_at DayOfMonth text form is.is_form))
  where
    clash : DayOfMonth ≡ DayOfWeek → ⊥
    clash e = cc

pub day_is : (p : Placed) (d : DayField) → day_of p ≡ Ok d → IsDay p.text d
unfolding day_of
day_is p d e =
    let read : Read (field_at DayOfMonth 0 p) (λ found. Ok (day_by found.word found.day)) d = read_on (field_at DayOfMonth 0 p) (λ found. Ok (day_by found.word found.day)) d e in
    subst (λ (x : DayField). IsDay p.text x) (ok_is read.rest) (day_of_field p.text read.value (field_is DayOfMonth 0 p.at p.text read.value read.is))

pub day_read : (p : Placed) (d : DayField) → IsDay p.text d → day_of p ≡ Ok d
unfolding day_of and_form
day_read p day.Any is = rw (form_field DayOfMonth 0 p.at p.text (Day days.Unnamed) is) refl
day_read p (day.Set word) is = rw (set_read DayOfMonth 0 p.at p.text word is) refl
day_read p (day.Last back) is = rw (form_field DayOfMonth 0 p.at p.text (Day (days.Last back)) is) refl
day_read p day.LastWeekday is = rw (form_field DayOfMonth 0 p.at p.text (Day days.LastWeekday) is) refl
day_read p (day.Nearest d) is = rw (form_field DayOfMonth 0 p.at p.text (Day (days.Nearest d)) is) refl

special_week_is : (text : List ℕ) (form : WeekForm) → IsElement DayOfWeek text (Week form) → IsWeek text (special_week form)
special_week_is text weeks.Unnamed is = is
special_week_is text weeks.Saturday is = inr (is, refl)
special_week_is text (weeks.LastOf d) is = is
special_week_is text (weeks.Nth d n) is = is

week_of_field : (text : List ℕ) (found : Elements) → IsFieldOf DayOfWeek 0 text found → IsWeek text (week_by found.word found.week)
week_of_field text found (a_set is) = inl is
week_of_field text found (a_day {form} is) = absurd (clash (day_at DayOfWeek text form is.is_form))
  where
    clash : DayOfWeek ≡ DayOfMonth → ⊥
    clash e = cc
week_of_field text found (a_week {form} is) = special_week_is text form is

pub week_is : (p : Placed) (w : WeekField) → week_of p ≡ Ok w → IsWeek p.text w
unfolding week_of
week_is p w e =
    let read : Read (field_at DayOfWeek 0 p) (λ found. Ok (week_by found.word found.week)) w = read_on (field_at DayOfWeek 0 p) (λ found. Ok (week_by found.word found.week)) w e in
    subst (λ (x : WeekField). IsWeek p.text x) (ok_is read.rest) (week_of_field p.text read.value (field_is DayOfWeek 0 p.at p.text read.value read.is))

week_set_read : (p : Placed) (word : ℕ) → IsWeek p.text (week.Set word) → week_of p ≡ Ok (week.Set word)
unfolding week_of and_form
week_set_read p word (inl is) = rw (set_read DayOfWeek 0 p.at p.text word is) refl
week_set_read p word (inr (is, same)) = rw (form_field DayOfWeek 0 p.at p.text (Week weeks.Saturday) is, same) refl

pub week_read : (p : Placed) (w : WeekField) → IsWeek p.text w → week_of p ≡ Ok w
unfolding week_of and_form
week_read p week.Any is = rw (form_field DayOfWeek 0 p.at p.text (Week weeks.Unnamed) is) refl
week_read p (week.Set word) is = week_set_read p word is
week_read p (week.Last d) is = rw (form_field DayOfWeek 0 p.at p.text (Week (weeks.LastOf d)) is) refl
week_read p (week.Nth d n) is = rw (form_field DayOfWeek 0 p.at p.text (Week (weeks.Nth d n)) is) refl

abbrev pub text_in : Option Placed → Option (List ℕ)
text_in p = option_map (λ x. x.text) p

years_are_at : (p : Placed) (years : List ℕ) → years_at p ≡ Ok years → AreYears p.text years
years_are_at p years e =
    subst (λ (ys : List ℕ). AreYears p.text ys) (ok_is fourth.rest)
    (years_of_words p.text set.runs first.value second.value third.value fourth.value set.elements set.bits
    (same_bits 64 second.value second.is) (same_bits 128 third.value third.is) (same_bits 192 fourth.value fourth.is))
  where
    first : Read (word_at Year 0 p) (λ a. word_at Year 64 p >>= λ b. word_at Year 128 p >>= λ c. word_at Year 192 p >>= λ d. Ok (a ∷ b ∷ c ∷ d ∷ [])) years
    first = read_on (word_at Year 0 p) (λ a. word_at Year 64 p >>= λ b. word_at Year 128 p >>= λ c. word_at Year 192 p >>= λ d. Ok (a ∷ b ∷ c ∷ d ∷ [])) years e

    second : Read (word_at Year 64 p) (λ b. word_at Year 128 p >>= λ c. word_at Year 192 p >>= λ d. Ok (first.value ∷ b ∷ c ∷ d ∷ [])) years
    second = read_on (word_at Year 64 p) (λ b. word_at Year 128 p >>= λ c. word_at Year 192 p >>= λ d. Ok (first.value ∷ b ∷ c ∷ d ∷ [])) years first.rest

    third : Read (word_at Year 128 p) (λ c. word_at Year 192 p >>= λ d. Ok (first.value ∷ second.value ∷ c ∷ d ∷ [])) years
    third = read_on (word_at Year 128 p) (λ c. word_at Year 192 p >>= λ d. Ok (first.value ∷ second.value ∷ c ∷ d ∷ [])) years second.rest

    fourth : Read (word_at Year 192 p) (λ d. Ok (first.value ∷ second.value ∷ third.value ∷ d ∷ [])) years
    fourth = read_on (word_at Year 192 p) (λ d. Ok (first.value ∷ second.value ∷ third.value ∷ d ∷ [])) years third.rest

    set : IsSet Year 0 p.text first.value
    set = word_is Year 0 p first.value years_plain first.is

    -- the same runs give the other words
    same_bits : (from word : ℕ) → word_at Year from p ≡ Ok word → HasBits Year from set.runs word
    same_bits from word read = subst (λ (w : ℕ). HasBits Year from set.runs w) (ok_is (sym again ∙ read)) (runs_bits Year from p.text set.runs set.elements)
      where
        again : word_at Year from p ≡ Ok (words_of Year from 0 set.runs)
        again = word_read Year from p (words_of Year from 0 set.runs) (runs_are_set Year from p.text set.runs set.elements)

years_read_at : (p : Placed) (years : List ℕ) → AreYears p.text years → years_at p ≡ Ok years
years_read_at p years are =
    let words : YearWords p.text years = year_words p.text years are in
    rw (
      word_read Year 0 p words.first (one_set p.text years words 0 words.first words.first_bits),
      word_read Year 64 p words.second (one_set p.text years words 64 words.second words.second_bits),
      word_read Year 128 p words.third (one_set p.text years words 128 words.third words.third_bits),
      word_read Year 192 p words.fourth (one_set p.text years words 192 words.fourth words.fourth_bits),
    )
    (ap (λ (ys : List ℕ). Ok ys) (sym words.is))

pub years_are : (p : Option Placed) (years : List ℕ) → years_of p ≡ Ok years → AreYearsOf (text_in p) years
unfolding years_of
years_are None years e = years_are_at all_years years e
years_are (Some p) years e = years_are_at p years e

pub years_read : (p : Option Placed) (years : List ℕ) → AreYearsOf (text_in p) years → years_of p ≡ Ok years
unfolding years_of
years_read None years is = years_read_at all_years years is
years_read (Some p) years is = years_read_at p years is

-- exactly one of the two day fields is named
pub record IsChecked (f g : CronFields) : Type 0 where
  pub same : f ≡ g
  pub one_named : is_any_day f.day ≡ not (is_any_week f.week)

pub checked_is : (f g : CronFields) → days_checked f ≡ Ok g → IsChecked f g
unfolding days_checked
checked_is f g e = by_days (is_any_day f.day) (is_any_week f.week) refl refl e
  where
    by_days : (a b : Bool) → is_any_day f.day ≡ a → is_any_week f.week ≡ b
        → cond (not a && not b) (Err BothDays) (cond (a && b) (Err NoDays) (Ok f)) ≡ Ok g → IsChecked f g
    by_days true true any_day any_week x = absurd (clash x)
      where
        clash : {y : CronFields} → ◌≡◌ {A = Result CronFields CronError} (Err NoDays) (Ok y) → ⊥
        clash z = cc
    by_days true false any_day any_week x = record { same = ok_is x; one_named = rw (any_day, any_week) refl }
    by_days false true any_day any_week x = record { same = ok_is x; one_named = rw (any_day, any_week) refl }
    by_days false false any_day any_week x = absurd (clash x)
      where
        clash : {y : CronFields} → ◌≡◌ {A = Result CronFields CronError} (Err BothDays) (Ok y) → ⊥
        clash z = cc

pub checked_read : (f : CronFields) → is_any_day f.day ≡ not (is_any_week f.week) → days_checked f ≡ Ok f
unfolding days_checked
checked_read f one = by_week (is_any_week f.week) refl
  where
    by_week : (b : Bool) → is_any_week f.week ≡ b → cond (not (is_any_day f.day) && not (is_any_week f.week)) (Err BothDays) (cond (is_any_day f.day && is_any_week f.week) (Err NoDays) (Ok f)) ≡ Ok f
    by_week true any = rw (one, any) refl
    by_week false any = rw (one, any) refl

-- the texts of the fields of a whole text
abbrev pub texts_in : Whole → List (List ℕ)
texts_in w =
    w.seconds.text ∷ w.minutes.text ∷ w.hours.text ∷ w.day.text ∷ w.months.text ∷ w.week.text ∷ years_list (text_in w.years)

no_whole : {A : Type 0} (found : ℕ) (w : Whole) → ◌≡◌ {A = Result Whole CronError} (Err (FieldCount found)) (Ok w) → A
no_whole found w e = absurd (clash e)
  where
    clash : ◌≡◌ {A = Result Whole CronError} (Err (FieldCount found)) (Ok w) → ⊥
    clash x = cc

-- fields that make a whole have its texts
pub whole_is : (found : ℕ) (ps : List Placed) (w : Whole) → whole_by found ps ≡ Ok w → map text_of ps ≡ texts_in w
whole_is found [] w e = no_whole found w e
whole_is found (a ∷ []) w e = no_whole found w e
whole_is found (a ∷ b ∷ []) w e = no_whole found w e
whole_is found (a ∷ b ∷ c ∷ []) w e = no_whole found w e
whole_is found (a ∷ b ∷ c ∷ d ∷ []) w e = no_whole found w e
whole_is found (a ∷ b ∷ c ∷ d ∷ i ∷ []) w e = no_whole found w e
whole_is found (a ∷ b ∷ c ∷ d ∷ i ∷ f ∷ []) w e = ap texts_in (ok_is e)
whole_is found (a ∷ b ∷ c ∷ d ∷ i ∷ f ∷ g ∷ []) w e = ap texts_in (ok_is e)
whole_is found (a ∷ b ∷ c ∷ d ∷ i ∷ f ∷ g ∷ h ∷ more) w e = no_whole found w e

-- the first of the fields that have these texts
record HasText (ps : List Placed) (text : List ℕ) (texts : List (List ℕ)) : Type 0 where
  first : Placed
  others : List Placed
  is : ps ≡ first ∷ others
  first_text : first.text ≡ text
  other_texts : map text_of others ≡ texts

has_text : (ps : List Placed) (text : List ℕ) (texts : List (List ℕ)) → map text_of ps ≡ text ∷ texts → HasText ps text texts
has_text [] text texts e = absurd (clash e)
  where
    clash : [] ≡ text ∷ texts → ⊥
    clash x = cc
has_text (p ∷ ps) text texts e = record { first = p; others = ps; is = refl; first_text = first_same e; other_texts = others_same e }
  where
    first_same : p.text ∷ map text_of ps ≡ text ∷ texts → p.text ≡ text
    first_same x = cc

    others_same : p.text ∷ map text_of ps ≡ text ∷ texts → map text_of ps ≡ texts
    others_same x = cc

no_more : (ps : List Placed) → map text_of ps ≡ [] → ps ≡ []
no_more [] e = refl
no_more (p ∷ ps) e = absurd (clash e)
  where
    clash : p.text ∷ map text_of ps ≡ [] → ⊥
    clash x = cc

record HasYears (ps : List Placed) (years : Option (List ℕ)) : Type 0 where
  field : Option Placed
  is_six : (a b c d i f : Placed) (found : ℕ) → whole_by found (a ∷ b ∷ c ∷ d ∷ i ∷ f ∷ ps) ≡ Ok (six_and field a b c d i f)
  text : text_in field ≡ years

has_years : (ps : List Placed) (years : Option (List ℕ)) → map text_of ps ≡ years_list years → HasYears ps years
has_years ps None e =
    let none : ps ≡ [] = no_more ps e in
    subst (λ (qs : List Placed). HasYears qs None) (sym none) (record { field = None; is_six = λ a b c d i f found. refl; text = refl })
has_years ps (Some text) e =
    let one : HasText ps text [] = has_text ps text [] e in
    let none : one.others ≡ [] = no_more one.others one.other_texts in
    let all : ps ≡ one.first ∷ [] = one.is ∙ ap (λ (qs : List Placed). one.first ∷ qs) none in
    subst (λ (qs : List Placed). HasYears qs (Some text)) (sym all)
    (record { field = Some one.first; is_six = λ a b c d i f found. refl; text = ap (λ (t : List ℕ). Some t) one.first_text })

-- the fields of a whole, by their texts
pub record IsWhole (found : ℕ) (ps : List Placed) (a b c d i f : List ℕ) (years : Option (List ℕ)) : Type 0 where
  pub whole : Whole
  pub is : whole_by found ps ≡ Ok whole
  pub seconds : whole.seconds.text ≡ a
  pub minutes : whole.minutes.text ≡ b
  pub hours : whole.hours.text ≡ c
  pub day : whole.day.text ≡ d
  pub months : whole.months.text ≡ i
  pub week : whole.week.text ≡ f
  pub years_text : text_in whole.years ≡ years

too_few : (ps : List Placed) (texts : List (List ℕ)) → map text_of ps ≡ texts → length ps < length texts → ⊥
too_few ps texts e less = omega (arith, less, length-map ps, ap (λ (ts : List (List ℕ)). length ts) e)
  where
    length-map : (qs : List Placed) → length (map text_of qs) ≡ length qs
    length-map [] = refl
    length-map (q ∷ qs) = grind (arith, length-map qs)

pub whole_read : (found : ℕ) (ps : List Placed) (a b c d i f : List ℕ) (years : Option (List ℕ)) → map text_of ps ≡ a ∷ b ∷ c ∷ d ∷ i ∷ f ∷ years_list years
    → IsWhole found ps a b c d i f years
whole_read found [] a b c d i f years e = absurd (too_few [] _ e (grind arith))
whole_read found (p ∷ []) a b c d i f years e = absurd (too_few (p ∷ []) _ e (grind arith))
whole_read found (p ∷ q ∷ []) a b c d i f years e = absurd (too_few (p ∷ q ∷ []) _ e (grind arith))
whole_read found (p ∷ q ∷ r ∷ []) a b c d i f years e = absurd (too_few (p ∷ q ∷ r ∷ []) _ e (grind arith))
whole_read found (p ∷ q ∷ r ∷ s ∷ []) a b c d i f years e = absurd (too_few (p ∷ q ∷ r ∷ s ∷ []) _ e (grind arith))
whole_read found (p ∷ q ∷ r ∷ s ∷ t ∷ []) a b c d i f years e = absurd (too_few (p ∷ q ∷ r ∷ s ∷ t ∷ []) _ e (grind arith))
whole_read found (p ∷ q ∷ r ∷ s ∷ t ∷ u ∷ ps) a b c d i f years e = with_years (has_years ps years rest)
  where
    rest : map text_of ps ≡ years_list years
    rest = cc

    with_years : HasYears ps years → IsWhole found (p ∷ q ∷ r ∷ s ∷ t ∷ u ∷ ps) a b c d i f years
    with_years y = record {
      whole = six_and y.field p q r s t u;
      is = y.is_six p q r s t u found;
      seconds = cc;
      minutes = cc;
      hours = cc;
      day = cc;
      months = cc;
      week = cc;
      years_text = y.text;
    }
