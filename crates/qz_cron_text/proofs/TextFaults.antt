-- The first fault of a text: reading it agrees with the grammar.
use Rattle.std.proofs.Common.{◌≡◌, ◌≢◌, ◌∙◌, ap, sym, refl, subst, ℕ, Bool, true, false, arith, cond, List, [], ◌∷◌, ◌++◌, length, inl, inr}
use Rattle.std.specs.Prelude.{Option, Some, None, Result, Ok, Err, ◌&&◌, ◌↔◌, ◌⊎◌, not, slice_get, IfErr}
use Rattle.std.specs.List.{AllByRecursion}
use Rattle.qz_civil.specs.declared.fields.Field.{Field}
use Rattle.qz_civil.specs.declared.fields.Field.TheVariants.{Seconds, Minutes, Hours, DayOfMonth, Month, DayOfWeek, Year}
use Rattle.qz_civil.specs.declared.fields.DayField.{DayField}
use Rattle.qz_civil.specs.declared.fields.DayField.TheVariants as day
use Rattle.qz_civil.specs.declared.fields.WeekField.{WeekField}
use Rattle.qz_civil.specs.declared.fields.WeekField.TheVariants as week
use Rattle.qz_civil.specs.declared.fields.CronFields.{CronFields}
use Rattle.qz_civil.specs.Fields.{is_any_day, is_any_week}
use Rattle.qz_cron_text.specs.declared.errors.CronError.{CronError}
use Rattle.qz_cron_text.specs.declared.errors.CronError.TheVariants.{BothDays, NoDays, FieldCount}
use Rattle.qz_cron_text.specs.declared.forms.Form.TheVariants.{Values, Day, Week}
use Rattle.qz_cron_text.specs.declared.forms.DayForm.TheVariants as days
use Rattle.qz_cron_text.specs.declared.forms.WeekForm.TheVariants as weeks
use Rattle.qz_cron_text.specs.declared.elements.Elements.{Elements}
use Rattle.qz_cron_text.specs.Elements.{◌>>=◌}
use Rattle.qz_cron_text.specs.Errors.{u32_of}
use Rattle.qz_cron_text.specs.Runs.{all_by}
use Rattle.qz_cron_text.specs.Texts.{Placed, Whole, six_and, whole_by, whole_of, fields_at}
use Rattle.qz_cron_text.specs.Reading.{field_at, word_at, day_by, week_by, day_of, week_of, years_at, all_years, years_of, days_checked, fields_of, reading}
use Rattle.qz_cron_text.specs.Grammar.{IsForm, every, of_values, of_day, of_week, one_element, no_day, no_weekday, IsDay, IsWeek}
use Rattle.qz_cron_text.specs.Faults.{AreFields, IsRightField, IsFieldFault, as_fields, IsRightPart, IsQuestion, IsNoQuestion, IsFirstFault, field_count, in_field, both_days, no_days}
use Rattle.qz_cron_text.proofs.FieldFaults.{field_fault_read, field_fault_is, right_read, right_is}
use Rattle.qz_cron_text.proofs.PrintStars.{all_in_range}
use Rattle.qz_cron_text.proofs.PlaceLaws.{fields_found, are_fields}
use Rattle.qz_cron_text.proofs.GrammarLaws.{given, from_years, from_week, from_months, from_day, from_hours, from_minutes}
use Rattle.qz_cron_text.proofs.WholeLaws.{ok_is, day_is, day_read, week_is, week_read}

err_same : {A : Type 0} {x y : CronError} → ◌≡◌ {A = Result A CronError} (Err x) (Err y) → x ≡ y
err_same e = cc

ok_err : {A : Type 0} {x : A} {y : CronError} → ◌≡◌ {A = Result A CronError} (Ok x) (Err y) → ⊥
ok_err e = cc

-- What reading one field answers.

record Reads {A : Type 0} (field : Field) (p : Placed) (r : Result A CronError) : Type 0 where
  fault_read : (fault : CronError) → IsFieldFault field p.at p.text fault → r ≡ Err fault
  fault_is : (fault : CronError) → r ≡ Err fault → IsFieldFault field p.at p.text fault
  right_ok : IsRightField field p.text → (x : A) × (r ≡ Ok x)
  ok_right : (x : A) → r ≡ Ok x → IsRightField field p.text

-- a field that is read, and something made of it
made_reads : {A : Type 0} (field : Field) (from : ℕ) (p : Placed) (make : Elements → A) → Reads field p (field_at field from p >>= λ found. Ok (make found))
made_reads {A = A} field from p make = record {
  fault_read = λ fault is. rw (field_fault_read field from p.at p.text fault is) refl;
  fault_is = λ fault e. by_fault (field_at field from p) refl fault e;
  right_ok = λ right. let read = right_read field from p.at p.text right in (make read.0, rw read.1 refl);
  ok_right = λ x e. by_ok (field_at field from p) refl x e;
}
  where
    by_fault : (r : Result Elements CronError) → field_at field from p ≡ r → (fault : CronError) → (r >>= λ found. Ok (make found)) ≡ Err fault → IsFieldFault field p.at p.text fault
    by_fault (Ok found) read fault e = absurd (ok_err e)
    by_fault (Err other) read fault e = field_fault_is field from p.at p.text fault (read ∙ ap (λ y. Err y) (err_same e))

    by_ok : (r : Result Elements CronError) → field_at field from p ≡ r → (y : A) → (r >>= λ found. Ok (make found)) ≡ Ok y → IsRightField field p.text
    by_ok (Ok found) read y e = right_is field from p.at p.text found read
    by_ok (Err other) read y e = absurd (ok_err (sym e))

word_reads : (field : Field) (from : ℕ) (p : Placed) → Reads field p (word_at field from p)
word_reads field from p = made_reads field from p (λ found. found.word)

day_reads : (p : Placed) → Reads DayOfMonth p (day_of p)
unfolding day_of
day_reads p = made_reads DayOfMonth 0 p (λ found. day_by found.word found.day)

week_reads : (p : Placed) → Reads DayOfWeek p (week_of p)
unfolding week_of
week_reads p = made_reads DayOfWeek 0 p (λ found. week_by found.word found.week)

years_reads : (p : Placed) → Reads Year p (years_at p)
years_reads p = record {
  fault_read = λ fault is. rw ((word_reads Year 0 p).fault_read fault is) refl;
  fault_is = λ fault e. by_first (word_at Year 0 p) refl fault e;
  right_ok = λ right.
      let a = (word_reads Year 0 p).right_ok right in
      let b = (word_reads Year 64 p).right_ok right in
      let c = (word_reads Year 128 p).right_ok right in
      let d = (word_reads Year 192 p).right_ok right in
      (a.0 ∷ b.0 ∷ c.0 ∷ d.0 ∷ [], rw (a.1, b.1, c.1, d.1) refl);
  ok_right = λ x e. by_ok (word_at Year 0 p) refl x e;
}
  where
    by_fourth : (a b c : ℕ) (r : Result ℕ CronError) → word_at Year 192 p ≡ r → (fault : CronError)
        → (r >>= λ d. Ok (a ∷ b ∷ c ∷ d ∷ [])) ≡ Err fault → IsFieldFault Year p.at p.text fault
    by_fourth a b c (Ok d) read fault e = absurd (ok_err e)
    by_fourth a b c (Err other) read fault e = (word_reads Year 192 p).fault_is fault (read ∙ ap (λ y. Err y) (err_same e))

    by_third : (a b : ℕ) (r : Result ℕ CronError) → word_at Year 128 p ≡ r → (fault : CronError)
        → (r >>= λ c. word_at Year 192 p >>= λ d. Ok (a ∷ b ∷ c ∷ d ∷ [])) ≡ Err fault → IsFieldFault Year p.at p.text fault
    by_third a b (Ok c) read fault e = by_fourth a b c (word_at Year 192 p) refl fault e
    by_third a b (Err other) read fault e = (word_reads Year 128 p).fault_is fault (read ∙ ap (λ y. Err y) (err_same e))

    by_second : (a : ℕ) (r : Result ℕ CronError) → word_at Year 64 p ≡ r → (fault : CronError)
        → (r >>= λ b. word_at Year 128 p >>= λ c. word_at Year 192 p >>= λ d. Ok (a ∷ b ∷ c ∷ d ∷ [])) ≡ Err fault → IsFieldFault Year p.at p.text fault
    by_second a (Ok b) read fault e = by_third a b (word_at Year 128 p) refl fault e
    by_second a (Err other) read fault e = (word_reads Year 64 p).fault_is fault (read ∙ ap (λ y. Err y) (err_same e))

    by_first : (r : Result ℕ CronError) → word_at Year 0 p ≡ r → (fault : CronError)
        → (r >>= λ a. word_at Year 64 p >>= λ b. word_at Year 128 p >>= λ c. word_at Year 192 p >>= λ d. Ok (a ∷ b ∷ c ∷ d ∷ [])) ≡ Err fault
        → IsFieldFault Year p.at p.text fault
    by_first (Ok a) read fault e = by_second a (word_at Year 64 p) refl fault e
    by_first (Err other) read fault e = (word_reads Year 0 p).fault_is fault (read ∙ ap (λ y. Err y) (err_same e))

    by_ok : (r : Result ℕ CronError) → word_at Year 0 p ≡ r → (y : List ℕ)
        → (r >>= λ a. word_at Year 64 p >>= λ b. word_at Year 128 p >>= λ c. word_at Year 192 p >>= λ d. Ok (a ∷ b ∷ c ∷ d ∷ [])) ≡ Ok y → IsRightField Year p.text
    by_ok (Ok a) read y e = (word_reads Year 0 p).ok_right a read
    by_ok (Err other) read y e = absurd (ok_err (sym e))

-- `*`, for years that are absent
star_right : IsRightField Year (42 ∷ [])
star_right = record {
  forms = Values (all_by Year 1) ∷ [];
  elements = one_element (record { is_form = of_values every; in_range = all_in_range Year });
  alone = λ two special. special;
}

-- Fields from the left.

-- the first of the fields that has a fault has this one
abbrev FirstIn : CronError → List (Field × Placed) → Type 0
FirstIn fault [] = ⊥
FirstIn fault (part ∷ more) = IsFieldFault part.0 part.1.at part.1.text fault ⊎ (IsRightPart part × FirstIn fault more)

first_joined : (fault : CronError) (before after : List (Field × Placed)) (field : Field) (part : Placed) → AllByRecursion IsRightPart before
    → IsFieldFault field part.at part.text fault → FirstIn fault (before ++ (field, part) ∷ after)
first_joined fault [] after field part right wrong = inl wrong
first_joined fault (p ∷ before) after field part right wrong = inr (right.0, first_joined fault before after field part right.1 wrong)

record SplitAt (fault : CronError) (parts : List (Field × Placed)) : Type 0 where
  before : List (Field × Placed)
  after : List (Field × Placed)
  field : Field
  part : Placed
  is : parts ≡ before ++ (field, part) ∷ after
  right : AllByRecursion IsRightPart before
  wrong : IsFieldFault field part.at part.text fault

first_split : (fault : CronError) (parts : List (Field × Placed)) → FirstIn fault parts → SplitAt fault parts
first_split fault [] first = absurd first
first_split fault (p ∷ parts) (inl wrong) = record { before = []; after = parts; field = p.0; part = p.1; is = refl; right = tt; wrong = wrong }
first_split fault (p ∷ parts) (inr later) =
    let rest : SplitAt fault parts = first_split fault parts later.1 in
    record {
      before = p ∷ rest.before;
      after = rest.after;
      field = rest.field;
      part = rest.part;
      is = ap (λ (ps : List (Field × Placed)). p ∷ ps) rest.is;
      right = (later.0, rest.right);
      wrong = rest.wrong;
    }

abbrev years_part : Option Placed → List (Field × Placed)
years_part None = []
years_part (Some p) = (Year, p) ∷ []

-- the fields of a whole text
abbrev as_whole : Whole → List (Field × Placed)
as_whole w =
    (Seconds, w.seconds) ∷ (Minutes, w.minutes) ∷ (Hours, w.hours) ∷ (DayOfMonth, w.day) ∷ (Month, w.months) ∷ (DayOfWeek, w.week) ∷ years_part w.years

-- one step of the reading: it fails here, or later
fails_by : {A B G : Type 0} (field : Field) (p : Placed) (r : Result A CronError) (f : A → Result B CronError) (fault : CronError) → Reads field p r
    → ((x : A) → G → f x ≡ Err fault) → IsFieldFault field p.at p.text fault ⊎ (IsRightField field p.text × G) → (r >>= f) ≡ Err fault
fails_by field p r f fault reads later (inl wrong) = rw (reads.fault_read fault wrong) refl
fails_by field p r f fault reads later (inr (right, rest)) = let ok = reads.right_ok right in rw ok.1 (later ok.0 rest)

years_fail : {B : Type 0} (years : Option Placed) (f : List ℕ → Result B CronError) (fault : CronError) → FirstIn fault (years_part years) → (years_of years >>= f) ≡ Err fault
unfolding years_of
years_fail None f fault first = absurd first
years_fail (Some p) f fault first = fails_by Year p (years_at p) f fault (years_reads p) (λ x none. absurd none) first

whole_fault : (w : Whole) (fault : CronError) → FirstIn fault (as_whole w) → fields_of w ≡ Err fault
unfolding fields_of
whole_fault w fault first =
    fails_by Seconds w.seconds (word_at Seconds 0 w.seconds) (from_minutes w) fault (word_reads Seconds 0 w.seconds) (λ s first_s.
    fails_by Minutes w.minutes (word_at Minutes 0 w.minutes) (from_hours w s) fault (word_reads Minutes 0 w.minutes) (λ m first_m.
    fails_by Hours w.hours (word_at Hours 0 w.hours) (from_day w s m) fault (word_reads Hours 0 w.hours) (λ h first_h.
    fails_by DayOfMonth w.day (day_of w.day) (from_months w s m h) fault (day_reads w.day) (λ d first_d.
    fails_by Month w.months (word_at Month 0 w.months) (from_week w s m h d) fault (word_reads Month 0 w.months) (λ i first_i.
    fails_by DayOfWeek w.week (week_of w.week) (from_years w s m h d i) fault (week_reads w.week) (λ k first_k.
    years_fail w.years (λ years. days_checked (given s m h d i k years)) fault first_k) first_i) first_d) first_h) first_m) first_s) first

-- The two fields on days.

day_question : (text : List ℕ) → IsForm DayOfMonth text (Day days.Unnamed) → text ≡ 63 ∷ []
day_question text (of_day at no_day) = refl

week_question : (text : List ℕ) → IsForm DayOfWeek text (Week weeks.Unnamed) → text ≡ 63 ∷ []
week_question text (of_week at no_weekday) = refl

any_day : (text : List ℕ) (d : DayField) → IsDay text d → is_any_day d ≡ true → text ≡ 63 ∷ []
any_day text day.Any is any = day_question text is.is_form
any_day text (day.Set word) is any = cc
any_day text (day.Last back) is any = cc
any_day text day.LastWeekday is any = cc
any_day text (day.Nearest d) is any = cc

any_week : (text : List ℕ) (k : WeekField) → IsWeek text k → is_any_week k ≡ true → text ≡ 63 ∷ []
any_week text week.Any is any = week_question text is.is_form
any_week text (week.Set word) is any = cc
any_week text (week.Last d) is any = cc
any_week text (week.Nth d n) is any = cc

question_day : (text : List ℕ) → text ≡ 63 ∷ [] → IsDay text day.Any
question_day text e = subst (λ (t : List ℕ). IsDay t day.Any) (sym e) (record { is_form = of_day refl no_day; in_range = tt })

question_week : (text : List ℕ) → text ≡ 63 ∷ [] → IsWeek text week.Any
question_week text e = subst (λ (t : List ℕ). IsWeek t week.Any) (sym e) (record { is_form = of_week refl no_weekday; in_range = tt })

day_any : (p : Placed) (d : DayField) → day_of p ≡ Ok d → p.text ≡ 63 ∷ [] → is_any_day d ≡ true
day_any p d read e = ap (λ x. is_any_day x) (ok_is (sym read ∙ day_read p day.Any (question_day p.text e)))

week_any : (p : Placed) (k : WeekField) → week_of p ≡ Ok k → p.text ≡ 63 ∷ [] → is_any_week k ≡ true
week_any p k read e = ap (λ x. is_any_week x) (ok_is (sym read ∙ week_read p week.Any (question_week p.text e)))

-- which fault the two fields have together
data DaysFault (w : Whole) : CronError → Type 0 where
  both_named : (w.day.text ≢ 63 ∷ []) → (w.week.text ≢ 63 ∷ []) → DaysFault w BothDays
  neither_named : w.day.text ≡ 63 ∷ [] → w.week.text ≡ 63 ∷ [] → DaysFault w NoDays

days_fail : (w : Whole) (f : CronFields) (fault : CronError) → day_of w.day ≡ Ok f.day → week_of w.week ≡ Ok f.week → days_checked f ≡ Err fault → DaysFault w fault
unfolding days_checked
days_fail w f fault day_read_as week_read_as e = by_days (is_any_day f.day) (is_any_week f.week) refl refl e
  where
    named : (text : List ℕ) (b : Bool) → b ≡ false → (text ≡ 63 ∷ [] → b ≡ true) → text ≢ 63 ∷ []
    named text b none any same = let one = any same in cc

    by_days : (a b : Bool) → is_any_day f.day ≡ a → is_any_week f.week ≡ b
        → cond (not a && not b) (Err BothDays) (cond (a && b) (Err NoDays) (Ok f)) ≡ Err fault → DaysFault w fault
    by_days true true any_d any_w x =
        subst (λ (y : CronError). DaysFault w y) (err_same x)
        (neither_named (any_day w.day.text f.day (day_is w.day f.day day_read_as) any_d) (any_week w.week.text f.week (week_is w.week f.week week_read_as) any_w))
    by_days true false any_d any_w x = absurd (ok_err x)
    by_days false true any_d any_w x = absurd (ok_err x)
    by_days false false any_d any_w x =
        subst (λ (y : CronError). DaysFault w y) (err_same x)
        (both_named (named w.day.text (is_any_day f.day) any_d (day_any w.day f.day day_read_as)) (named w.week.text (is_any_week f.week) any_w (week_any w.week f.week week_read_as)))

days_fault : (w : Whole) (f : CronFields) (fault : CronError) → day_of w.day ≡ Ok f.day → week_of w.week ≡ Ok f.week → DaysFault w fault → days_checked f ≡ Err fault
unfolding days_checked
days_fault w f fault day_read_as week_read_as (both_named d k) = rw (named_day (is_any_day f.day) refl, named_week (is_any_week f.week) refl) refl
  where
    named_day : (b : Bool) → is_any_day f.day ≡ b → is_any_day f.day ≡ false
    named_day true any = absurd (d (any_day w.day.text f.day (day_is w.day f.day day_read_as) any))
    named_day false none = none

    named_week : (b : Bool) → is_any_week f.week ≡ b → is_any_week f.week ≡ false
    named_week true any = absurd (k (any_week w.week.text f.week (week_is w.week f.week week_read_as) any))
    named_week false none = none
days_fault w f fault day_read_as week_read_as (neither_named d k) = rw (day_any w.day f.day day_read_as d, week_any w.week f.week week_read_as k) refl

-- Reading the fields fails at the first one with a fault, or at the two fields on days.

record AtDays (w : Whole) (fault : CronError) : Type 0 where
  right : AllByRecursion IsRightPart (as_whole w)
  wrong : DaysFault w fault

-- one step of the reading that fails
fails_at : {A B G : Type 0} (field : Field) (p : Placed) (r : Result A CronError) (f : A → Result B CronError) (fault : CronError) → Reads field p r → (r >>= f) ≡ Err fault
    → (IsFieldFault field p.at p.text fault → G) → ((x : A) → r ≡ Ok x → IsRightField field p.text → f x ≡ Err fault → G) → G
fails_at {A = A} {B = B} {G = G} field p r f fault reads e here later = by_result r refl e
  where
    by_result : (q : Result A CronError) → r ≡ q → (q >>= f) ≡ Err fault → G
    by_result (Ok x) read x_fails = later x read (reads.ok_right x read) x_fails
    by_result (Err other) read x_fails = here (reads.fault_is fault (read ∙ ap (λ y. Err y) (err_same x_fails)))

years_fails : (w : Whole) (years : Option Placed) (s m h : ℕ) (d : DayField) (i : ℕ) (k : WeekField) (fault : CronError) → day_of w.day ≡ Ok d → week_of w.week ≡ Ok k
    → (years_of years >>= λ ys. days_checked (given s m h d i k ys)) ≡ Err fault
    → FirstIn fault (years_part years) ⊎ (AllByRecursion IsRightPart (years_part years) × DaysFault w fault)
unfolding years_of
years_fails w None s m h d i k fault day_as week_as e =
    fails_at Year all_years (years_at all_years) (λ ys. days_checked (given s m h d i k ys)) fault (years_reads all_years) e
    (λ wrong. absurd (star_fault wrong))
    (λ ys read right rest. inr (tt, days_fail w (given s m h d i k ys) fault day_as week_as rest))
  where
    star_fault : {x : CronError} → IsFieldFault Year 0 (42 ∷ []) x → ⊥
    star_fault wrong = let ok = (years_reads all_years).right_ok star_right in ok_err (sym ok.1 ∙ (years_reads all_years).fault_read _ wrong)
years_fails w (Some p) s m h d i k fault day_as week_as e =
    fails_at Year p (years_at p) (λ ys. days_checked (given s m h d i k ys)) fault (years_reads p) e
    (λ wrong. inl (inl wrong))
    (λ ys read right rest. inr ((right, tt), days_fail w (given s m h d i k ys) fault day_as week_as rest))

whole_fails : (w : Whole) (fault : CronError) → fields_of w ≡ Err fault → FirstIn fault (as_whole w) ⊎ AtDays w fault
unfolding fields_of
whole_fails w fault e =
    fails_at Seconds w.seconds (word_at Seconds 0 w.seconds) (from_minutes w) fault (word_reads Seconds 0 w.seconds) e (λ wrong. inl (inl wrong)) (λ s read_s right_s e_s.
    fails_at Minutes w.minutes (word_at Minutes 0 w.minutes) (from_hours w s) fault (word_reads Minutes 0 w.minutes) e_s (λ wrong. inl (inr (right_s, inl wrong))) (λ m read_m right_m e_m.
    fails_at Hours w.hours (word_at Hours 0 w.hours) (from_day w s m) fault (word_reads Hours 0 w.hours) e_m (λ wrong. inl (inr (right_s, inr (right_m, inl wrong)))) (λ h read_h right_h e_h.
    fails_at DayOfMonth w.day (day_of w.day) (from_months w s m h) fault (day_reads w.day) e_h (λ wrong. inl (inr (right_s, inr (right_m, inr (right_h, inl wrong))))) (λ d read_d right_d e_d.
    fails_at Month w.months (word_at Month 0 w.months) (from_week w s m h d) fault (word_reads Month 0 w.months) e_d (λ wrong. inl (inr (right_s, inr (right_m, inr (right_h, inr (right_d, inl wrong)))))) (λ i read_i right_i e_i.
    fails_at DayOfWeek w.week (week_of w.week) (from_years w s m h d i) fault (week_reads w.week) e_i (λ wrong. inl (inr (right_s, inr (right_m, inr (right_h, inr (right_d, inr (right_i, inl wrong))))))) (λ k read_k right_k e_k.
    elim (years_fails w w.years s m h d i k fault read_d read_k e_k) [
      | inl first ↦ inl (inr (right_s, inr (right_m, inr (right_h, inr (right_d, inr (right_i, inr (right_k, first)))))))
      | inr both ↦ inr (record { right = (right_s, (right_m, (right_h, (right_d, (right_i, (right_k, both.0)))))); wrong = both.1 })
    ]))))))

years_right : (years : Option Placed) → AllByRecursion IsRightPart (years_part years) → (ys : List ℕ) × (years_of years ≡ Ok ys)
unfolding years_of
years_right None right = (years_reads all_years).right_ok star_right
years_right (Some p) right = (years_reads p).right_ok right.0

whole_days : (w : Whole) (fault : CronError) → AtDays w fault → fields_of w ≡ Err fault
unfolding fields_of
whole_days w fault at =
    let right = at.right in
    let s = (word_reads Seconds 0 w.seconds).right_ok right.0 in
    let m = (word_reads Minutes 0 w.minutes).right_ok right.1.0 in
    let h = (word_reads Hours 0 w.hours).right_ok right.1.1.0 in
    let d = (day_reads w.day).right_ok right.1.1.1.0 in
    let i = (word_reads Month 0 w.months).right_ok right.1.1.1.1.0 in
    let k = (week_reads w.week).right_ok right.1.1.1.1.1.0 in
    let y = years_right w.years right.1.1.1.1.1.1 in
    rw (s.1, m.1, h.1, d.1, i.1, k.1, y.1) (days_fault w (given s.0 m.0 h.0 d.0 i.0 k.0 y.0) fault d.1 k.1 at.wrong)

-- Texts by the number of their fields.

data Shape : List Placed → Type 0 where
  six : (a b c d i f : Placed) → Shape (a ∷ b ∷ c ∷ d ∷ i ∷ f ∷ [])
  seven : (a b c d i f g : Placed) → Shape (a ∷ b ∷ c ∷ d ∷ i ∷ f ∷ g ∷ [])
  others : {ps : List Placed} → (length ps ≢ 6) × (length ps ≢ 7) → ((found : ℕ) → whole_by found ps ≡ Err (FieldCount found)) → Shape ps

shape_of : (ps : List Placed) → Shape ps
shape_of [] = others ((λ e. omega (arith, e)), (λ e. omega (arith, e))) (λ found. refl)
shape_of (a ∷ []) = others ((λ e. omega (arith, e)), (λ e. omega (arith, e))) (λ found. refl)
shape_of (a ∷ b ∷ []) = others ((λ e. omega (arith, e)), (λ e. omega (arith, e))) (λ found. refl)
shape_of (a ∷ b ∷ c ∷ []) = others ((λ e. omega (arith, e)), (λ e. omega (arith, e))) (λ found. refl)
shape_of (a ∷ b ∷ c ∷ d ∷ []) = others ((λ e. omega (arith, e)), (λ e. omega (arith, e))) (λ found. refl)
shape_of (a ∷ b ∷ c ∷ d ∷ i ∷ []) = others ((λ e. omega (arith, e)), (λ e. omega (arith, e))) (λ found. refl)
shape_of (a ∷ b ∷ c ∷ d ∷ i ∷ f ∷ []) = six a b c d i f
shape_of (a ∷ b ∷ c ∷ d ∷ i ∷ f ∷ g ∷ []) = seven a b c d i f g
shape_of (a ∷ b ∷ c ∷ d ∷ i ∷ f ∷ g ∷ h ∷ more) = others ((λ e. omega (arith, e)), (λ e. omega (arith, e))) (λ found. refl)

-- The first fault of a text.

same_part : (a b : Placed) → Some a ≡ Some b → a ≡ b
same_part a b e = cc

as_questions : (w : Whole) (parts : List Placed) → slice_get parts 3 ≡ Some w.day → slice_get parts 5 ≡ Some w.week → (fault : CronError) → DaysFault w fault
    → ((fault ≡ BothDays) × IsNoQuestion parts 3 × IsNoQuestion parts 5) ⊎ ((fault ≡ NoDays) × IsQuestion parts 3 × IsQuestion parts 5)
as_questions w parts d k fault (both_named day_named week_named) = inl (refl, (w.day, d, day_named), (w.week, k, week_named))
as_questions w parts d k fault (neither_named day_any week_any) = inr (refl, (w.day, d, day_any), (w.week, k, week_any))

-- a text of six or seven fields whose reading fails has a first fault
fields_fault : (text : List ℕ) (parts : List Placed) (w : Whole) (fault : CronError) → AreFields 0 text parts → (length parts ≡ 6) ⊎ (length parts ≡ 7)
    → as_fields parts ≡ as_whole w → slice_get parts 3 ≡ Some w.day → slice_get parts 5 ≡ Some w.week → fields_of w ≡ Err fault → IsFirstFault text fault
fields_fault text parts w fault are count same d k e = elim (whole_fails w fault e) [
  | inl first ↦ (
      let split : SplitAt fault (as_fields parts) = first_split fault (as_fields parts) (subst (λ (ps : List (Field × Placed)). FirstIn fault ps) (sym same) first) in
      in_field split.before split.after are count split.is split.right split.wrong
      )
  | inr at ↦ (
      let right : AllByRecursion IsRightPart (as_fields parts) = subst (λ (ps : List (Field × Placed)). AllByRecursion IsRightPart ps) (sym same) at.right in
      elim (as_questions w parts d k fault at.wrong) [
        | inl both ↦ subst (λ (y : CronError). IsFirstFault text y) (sym both.0) (both_days are count right both.1 both.2)
        | inr none ↦ subst (λ (y : CronError). IsFirstFault text y) (sym none.0) (no_days are count right none.1 none.2)
      ]
      )
]

by_shape : (text : List ℕ) (parts : List Placed) (fault : CronError) → AreFields 0 text parts → Shape parts
    → (whole_by (u32_of (length parts)) parts >>= fields_of) ≡ Err fault → IsFirstFault text fault
by_shape text parts fault are (six a b c d i f) e = fields_fault text _ (six_and None a b c d i f) fault are (inl refl) refl refl refl e
by_shape text parts fault are (seven a b c d i f g) e = fields_fault text _ (six_and (Some g) a b c d i f) fault are (inr refl) refl refl refl e
by_shape text parts fault are (others count none) e =
    let wrong : FieldCount (u32_of (length parts)) ≡ fault = err_same (ap (λ r. r >>= fields_of) (sym (none (u32_of (length parts)))) ∙ e) in
    subst (λ (y : CronError). IsFirstFault text y) wrong (field_count are count)

pub first_fault_is : (text : List ℕ) (fault : CronError) → reading text ≡ Err fault → IsFirstFault text fault
unfolding reading whole_of
first_fault_is text fault e = by_shape text (fields_at 0 text) fault (are_fields 0 text) (shape_of (fields_at 0 text)) e

-- and a first fault is what reading answers
reads_first : (parts : List Placed) (fault : CronError) → Shape parts → (length parts ≡ 6) ⊎ (length parts ≡ 7) → FirstIn fault (as_fields parts)
    → (whole_by (u32_of (length parts)) parts >>= fields_of) ≡ Err fault
reads_first parts fault (six a b c d i f) count first = whole_fault (six_and None a b c d i f) fault first
reads_first parts fault (seven a b c d i f g) count first = whole_fault (six_and (Some g) a b c d i f) fault first
reads_first parts fault (others wrong none) count first = elim count [ inl e ↦ absurd (wrong.0 e) | inr e ↦ absurd (wrong.1 e) ]

-- the two fields on days, of a whole with these parts
days_of : (parts : List Placed) (w : Whole) → slice_get parts 3 ≡ Some w.day → slice_get parts 5 ≡ Some w.week
    → (IsNoQuestion parts 3 × IsNoQuestion parts 5 → DaysFault w BothDays) × (IsQuestion parts 3 × IsQuestion parts 5 → DaysFault w NoDays)
days_of parts w d k = (
  (λ named.
      let day_is = same_part _ _ (sym d ∙ named.0.1) in
      let week_is = same_part _ _ (sym k ∙ named.1.1) in
      both_named (subst (λ (p : Placed). p.text ≢ 63 ∷ []) (sym day_is) named.0.2) (subst (λ (p : Placed). p.text ≢ 63 ∷ []) (sym week_is) named.1.2)),
  (λ any.
      let day_is = same_part _ _ (sym d ∙ any.0.1) in
      let week_is = same_part _ _ (sym k ∙ any.1.1) in
      neither_named (subst (λ (p : Placed). p.text ≡ 63 ∷ []) (sym day_is) any.0.2) (subst (λ (p : Placed). p.text ≡ 63 ∷ []) (sym week_is) any.1.2)),
)

-- what the two fields on days have, by the parts
abbrev DaysOf : List Placed → CronError → Type 0
DaysOf parts fault = ((fault ≡ BothDays) × IsNoQuestion parts 3 × IsNoQuestion parts 5) ⊎ ((fault ≡ NoDays) × IsQuestion parts 3 × IsQuestion parts 5)

days_by : (parts : List Placed) (w : Whole) (fault : CronError) → slice_get parts 3 ≡ Some w.day → slice_get parts 5 ≡ Some w.week → DaysOf parts fault → DaysFault w fault
days_by parts w fault d k (inl both) = subst (λ (y : CronError). DaysFault w y) (sym both.0) ((days_of parts w d k).0 (both.1, both.2))
days_by parts w fault d k (inr none) = subst (λ (y : CronError). DaysFault w y) (sym none.0) ((days_of parts w d k).1 (none.1, none.2))

reads_days : (parts : List Placed) (fault : CronError) → Shape parts → (length parts ≡ 6) ⊎ (length parts ≡ 7) → AllByRecursion IsRightPart (as_fields parts)
    → DaysOf parts fault → (whole_by (u32_of (length parts)) parts >>= fields_of) ≡ Err fault
reads_days parts fault (six a b c d i f) count right wrong =
    whole_days (six_and None a b c d i f) fault (record { right = right; wrong = days_by (a ∷ b ∷ c ∷ d ∷ i ∷ f ∷ []) (six_and None a b c d i f) fault refl refl wrong })
reads_days parts fault (seven a b c d i f g) count right wrong =
    whole_days (six_and (Some g) a b c d i f) fault (record { right = right; wrong = days_by (a ∷ b ∷ c ∷ d ∷ i ∷ f ∷ g ∷ []) (six_and (Some g) a b c d i f) fault refl refl wrong })
reads_days parts fault (others some none) count right wrong = elim count [ inl e ↦ absurd (some.0 e) | inr e ↦ absurd (some.1 e) ]

reads_count : (parts : List Placed) → Shape parts → (length parts ≢ 6) × (length parts ≢ 7) → (whole_by (u32_of (length parts)) parts >>= fields_of) ≡ Err (FieldCount (u32_of (length parts)))
reads_count parts (six a b c d i f) count = absurd (count.0 refl)
reads_count parts (seven a b c d i f g) count = absurd (count.1 refl)
reads_count parts (others some none) count = ap (λ r. r >>= fields_of) (none (u32_of (length parts)))

-- the reading of a text by its fields
abbrev reading_of : List Placed → Result CronFields CronError
reading_of parts = whole_by (u32_of (length parts)) parts >>= fields_of

reading_parts : (text : List ℕ) (parts : List Placed) → AreFields 0 text parts → reading text ≡ reading_of parts
unfolding reading whole_of
reading_parts text parts are = ap (λ (ps : List Placed). reading_of ps) (fields_found 0 text parts are)

pub first_fault_read : (text : List ℕ) (fault : CronError) → IsFirstFault text fault → reading text ≡ Err fault
first_fault_read text fault (field_count {parts} are count) = reading_parts text parts are ∙ reads_count parts (shape_of parts) count
first_fault_read text fault (in_field {parts} before after {field} {part} {fault = wrong} are count is right here) =
    let first : FirstIn wrong (as_fields parts) = subst (λ (ps : List (Field × Placed)). FirstIn wrong ps) (sym is) (first_joined wrong before after field part right here) in
    reading_parts text parts are ∙ reads_first parts wrong (shape_of parts) count first
first_fault_read text fault (both_days {parts} are count right day_named week_named) =
    reading_parts text parts are ∙ reads_days parts BothDays (shape_of parts) count right (inl (refl, day_named, week_named))
first_fault_read text fault (no_days {parts} are count right day_any week_any) =
    reading_parts text parts are ∙ reads_days parts NoDays (shape_of parts) count right (inr (refl, day_any, week_any))

-- so reading fails with the first fault, and there is just one
pub texts_have_faults : (text : List ℕ) (fault : CronError) → (reading text ≡ Err fault) ↔ IsFirstFault text fault
texts_have_faults text fault = (first_fault_is text fault, first_fault_read text fault)

pub one_fault : (text : List ℕ) (fault other : CronError) → IsFirstFault text fault → IsFirstFault text other → fault ≡ other
one_fault text fault other is also = err_same (sym (first_fault_read text fault is) ∙ first_fault_read text other also)

-- what reading answers where it fails is the first fault
pub fault_when_read : (text : List ℕ) (result : Result CronFields CronError) → result ≡ reading text → IfErr result (λ fault. IsFirstFault text fault)
fault_when_read text (Ok f) e = tt
fault_when_read text (Err fault) e = first_fault_is text fault (sym e)
