-- Elements whose numbers are in range: reading them agrees with the grammar.
use Rattle.std.proofs.Common.{◌≡◌, refl, subst, ℕ, ◌≤◌, Bool, true, false, arith, cond, List}
use Rattle.std.specs.Prelude.{Option, Some, None, Result, Ok, Err, ◌&&◌, ◌||◌, not, nat_lt}
use Rattle.std.specs.Int.{IsInRange}
use Rattle.qz_civil.specs.declared.fields.Field.{Field}
use Rattle.qz_civil.specs.declared.fields.Field.TheVariants.{DayOfMonth, DayOfWeek}
use Rattle.qz_civil.specs.Fields.{number, is_value}
use Rattle.qz_cron_text.specs.declared.errors.CronError.{CronError}
use Rattle.qz_cron_text.specs.declared.errors.CronError.TheVariants.{BadToken, OutOfRange}
use Rattle.qz_cron_text.specs.declared.runs.Run.{Run}
use Rattle.qz_cron_text.specs.declared.forms.Form.{Form}
use Rattle.qz_cron_text.specs.declared.forms.Form.TheVariants.{Values, Day, Week}
use Rattle.qz_cron_text.specs.declared.forms.DayForm.{DayForm}
use Rattle.qz_cron_text.specs.declared.forms.DayForm.TheVariants as days
use Rattle.qz_cron_text.specs.declared.forms.WeekForm.{WeekForm}
use Rattle.qz_cron_text.specs.declared.forms.WeekForm.TheVariants as weeks
use Rattle.qz_cron_text.specs.Runs.{run_fault, is_year}
use Rattle.qz_cron_text.specs.Forms.{form_of, form_fault, day_fault, week_fault, range_fault, unless, checked, element_of}
use Rattle.qz_cron_text.specs.Errors.{u32_of}
use Rattle.qz_cron_text.specs.Grammar.{IsOf, RunInRange, DayInRange, WeekInRange, InRange, IsElement}
use Rattle.qz_cron_text.proofs.FormLaws.{form_read}
use Rattle.qz_cron_text.proofs.FormCases.{form_is}

pub value_in_range : (field : Field) (v : ℕ) → is_value field v ≡ true → IsOf field v
unfolding is_value
value_in_range field v is = (grind (arith, is), grind (arith, is))

pub value_right : (field : Field) (v : ℕ) → IsOf field v → is_value field v ≡ true
unfolding is_value
value_right field v (low, high) = grind (arith, low, high)

run_value : (field : Field) (run : Run) → run_fault field run ≡ None → (is_value field run.first ≡ true) × (is_value field run.last ≡ true)
unfolding run_fault
run_value field run is = (grind (arith, is), grind (arith, is))

run_step : (field : Field) (run : Run) → run_fault field run ≡ None → IsInRange 1 59 run.step
unfolding run_fault
run_step field run is = (grind (arith, is), grind (arith, is))

run_years : (field : Field) (run : Run) → run_fault field run ≡ None → is_year field ≡ true → run.first ≤ run.last
unfolding run_fault
run_years field run is year = grind (arith, is, year)

run_in_range : (field : Field) (run : Run) → run_fault field run ≡ None → RunInRange field run
run_in_range field run is =
    let values : (is_value field run.first ≡ true) × (is_value field run.last ≡ true) = run_value field run is in
    record { first = value_in_range field run.first values.0; last = value_in_range field run.last values.1; years = run_years field run is; step = run_step field run is }

no_year_fault : (year : Bool) (first last : ℕ) → (year ≡ true → first ≤ last) → (year && nat_lt last first) ≡ false
no_year_fault true first last right = let less : first ≤ last = right refl in grind (arith, less)
no_year_fault false first last right = refl

pub run_right : (field : Field) (run : Run) → RunInRange field run → run_fault field run ≡ None
unfolding run_fault
run_right field run right =
    let step : (nat_lt run.step 1 || nat_lt 59 run.step) ≡ false = grind (arith, right.step.0, right.step.1) in
    rw (value_right field run.first right.first, value_right field run.last right.last, no_year_fault (is_year field) run.first run.last right.years, step) refl

some_none : {A : Type 0} {x : A} → Some x ≡ None → ⊥
some_none e = cc

range_is : (field : Field) (b : Bool) (v : ℕ) → range_fault field b v ≡ None → b ≡ true
range_is field true v is = refl
range_is field false v is = absurd (some_none is)

day_in_range : (form : DayForm) → day_fault form ≡ None → DayInRange form
unfolding day_fault
day_in_range days.Unnamed is = tt
day_in_range (days.Last back) is = let less : nat_lt back 31 ≡ true = range_is DayOfMonth (nat_lt back 31) back is in grind (arith, less)
day_in_range days.LastWeekday is = tt
day_in_range (days.Nearest d) is = value_in_range DayOfMonth d (range_is DayOfMonth (is_value DayOfMonth d) d is)

day_right : (form : DayForm) → DayInRange form → day_fault form ≡ None
unfolding day_fault
day_right days.Unnamed right = refl
day_right (days.Last back) right = let less : nat_lt back 31 ≡ true = grind (arith, right) in rw less refl
day_right days.LastWeekday right = refl
day_right (days.Nearest d) right = rw (value_right DayOfMonth d right) refl

week_in_range : (form : WeekForm) → week_fault form ≡ None → WeekInRange form
unfolding week_fault
week_in_range weeks.Unnamed is = tt
week_in_range weeks.Saturday is = tt
week_in_range (weeks.LastOf d) is = value_in_range DayOfWeek d (range_is DayOfWeek (is_value DayOfWeek d) d is)
week_in_range (weeks.Nth d n) is = by_day (is_value DayOfWeek d) refl is
  where
    by_day : (b : Bool) → is_value DayOfWeek d ≡ b
        → cond (not b) (Some (OutOfRange (number DayOfWeek) d)) (range_fault DayOfWeek (nat_lt 0 n && nat_lt n 6) n) ≡ None → IsOf DayOfWeek d × IsInRange 1 5 n
    by_day true day e =
        let in_month : (nat_lt 0 n && nat_lt n 6) ≡ true = range_is DayOfWeek (nat_lt 0 n && nat_lt n 6) n e in
        (value_in_range DayOfWeek d day, (grind (arith, in_month), grind (arith, in_month)))
    by_day false day e = absurd (some_none e)

week_right : (form : WeekForm) → WeekInRange form → week_fault form ≡ None
unfolding week_fault
week_right weeks.Unnamed right = refl
week_right weeks.Saturday right = refl
week_right (weeks.LastOf d) right = rw (value_right DayOfWeek d right) refl
week_right (weeks.Nth d n) right =
    let in_month : (nat_lt 0 n && nat_lt n 6) ≡ true = grind (arith, right.1.0, right.1.1) in
    rw (value_right DayOfWeek d right.0, in_month) refl

form_in_range : (field : Field) (form : Form) → form_fault field form ≡ None → InRange field form
form_in_range field (Values run) is = run_in_range field run is
form_in_range field (Day form) is = day_in_range form is
form_in_range field (Week form) is = week_in_range form is

form_right : (field : Field) (form : Form) → InRange field form → form_fault field form ≡ None
form_right field (Values run) right = run_right field run right
form_right field (Day form) right = day_right form right
form_right field (Week form) right = week_right form right

pub element_read : (field : Field) (at : ℕ) (text : List ℕ) (form : Form) → IsElement field text form → element_of field at text ≡ Ok form
unfolding element_of
element_read field at text form is = rw (form_read field text form is.is_form, form_right field form is.in_range) refl

pub element_is : (field : Field) (at : ℕ) (text : List ℕ) (form : Form) → element_of field at text ≡ Ok form → IsElement field text form
unfolding element_of
element_is field at text form is = by_form (form_of field text) refl is
  where
    same_ok : {x y : Form} {E : Type 0} → ◌≡◌ {A = Result Form E} (Ok x) (Ok y) → x ≡ y
    same_ok e = cc

    by_fault : (found : Form) → form_of field text ≡ Some found → (o : Option CronError) → form_fault field found ≡ o → unless o found ≡ Ok form → IsElement field text form
    by_fault found read (Some fault) faulty e = absurd (clash e)
      where
        clash : Err fault ≡ Ok form → ⊥
        clash x = cc
    by_fault found read None right e =
        subst (λ (f : Form). IsElement field text f) (same_ok e) (record { is_form = form_is field text found read; in_range = form_in_range field found right })

    by_form : (o : Option Form) → form_of field text ≡ o → checked field at o ≡ Ok form → IsElement field text form
    by_form None read e = absurd (clash e)
      where
        clash : Err (BadToken (number field) (u32_of at)) ≡ Ok form → ⊥
        clash x = cc
    by_form (Some found) read e = by_fault found read (form_fault field found) refl e
