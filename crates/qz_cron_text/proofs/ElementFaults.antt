-- What is wrong with an element: reading it agrees with the grammar.
use Rattle.std.proofs.Common.{◌≡◌, ◌∙◌, ap, sym, refl, subst, ℕ, ◌≤◌, Bool, true, false, arith, cond, List}
use Rattle.std.specs.Prelude.{Option, Some, None, Result, Err, ◌&&◌, ◌||◌, not, nat_lt}
use Rattle.std.specs.Int.{IsInRange}
use Rattle.qz_civil.specs.declared.fields.Field.{Field}
use Rattle.qz_civil.specs.declared.fields.Field.TheVariants.{DayOfMonth, DayOfWeek}
use Rattle.qz_civil.specs.Fields.{number, is_value}
use Rattle.qz_cron_text.specs.declared.errors.CronError.{CronError}
use Rattle.qz_cron_text.specs.declared.errors.CronError.TheVariants.{BadToken, OutOfRange, BadStep}
use Rattle.qz_cron_text.specs.declared.runs.Run.{Run}
use Rattle.qz_cron_text.specs.declared.forms.Form.{Form}
use Rattle.qz_cron_text.specs.declared.forms.Form.TheVariants.{Values, Day, Week}
use Rattle.qz_cron_text.specs.declared.forms.DayForm.{DayForm}
use Rattle.qz_cron_text.specs.declared.forms.DayForm.TheVariants as days
use Rattle.qz_cron_text.specs.declared.forms.WeekForm.{WeekForm}
use Rattle.qz_cron_text.specs.declared.forms.WeekForm.TheVariants as weeks
use Rattle.qz_cron_text.specs.Runs.{run_fault, is_year}
use Rattle.qz_cron_text.specs.Forms.{form_of, form_fault, day_fault, week_fault, range_fault, unless, checked, element_of}
use Rattle.qz_cron_text.specs.Errors.{u32_of}
use Rattle.qz_cron_text.specs.Grammar.{IsOf, IsForm, of_day, of_week}
use Rattle.qz_cron_text.specs.Faults.{IsFirstRight, IsOutOfRange, first_value, last_value, before_last_day, nearest_weekday, last_of_month, weekday_of_month, nth_of_month, IsBadStep, IsElementFault, bad_token, out_of_range, bad_step}
use Rattle.qz_cron_text.proofs.ElementLaws.{value_in_range, value_right}
use Rattle.qz_cron_text.proofs.FormLaws.{form_read}
use Rattle.qz_cron_text.proofs.FormCases.{form_is}

no_value : (field : Field) (v : ℕ) → (IsOf field v → ⊥) → is_value field v ≡ false
no_value field v out = by_value (is_value field v) refl
  where
    by_value : (b : Bool) → is_value field v ≡ b → b ≡ false
    by_value true is = absurd (out (value_in_range field v is))
    by_value false is = refl

not_of : (field : Field) (v : ℕ) → is_value field v ≡ false → IsOf field v → ⊥
not_of field v none of = let one = value_right field v of in cc

-- Runs.

forward_is : (year : Bool) (first last : ℕ) → (year && nat_lt last first) ≡ false → year ≡ true → first ≤ last
forward_is true first last e year = grind (arith, e)
forward_is false first last e year = cc

is_forward : (year : Bool) (first last : ℕ) → (year ≡ true → first ≤ last) → (year && nat_lt last first) ≡ false
is_forward true first last right = let less : first ≤ last = right refl in grind (arith, less)
is_forward false first last right = refl

-- the tests of a run, in their order
record Tests (field : Field) (run : Run) (first backward last step : Bool) : Type 0 where
  first_is : is_value field run.first ≡ first
  backward_is : (is_year field && nat_lt run.last run.first) ≡ backward
  last_is : is_value field run.last ≡ last
  step_is : (nat_lt run.step 1 || nat_lt 59 run.step) ≡ step

tests_of : (field : Field) (run : Run) → Tests field run (is_value field run.first) (is_year field && nat_lt run.last run.first) (is_value field run.last) (nat_lt run.step 1 || nat_lt 59 run.step)
tests_of field run = record { first_is = refl; backward_is = refl; last_is = refl; step_is = refl }

first_right : (field : Field) (run : Run) (last step : Bool) → Tests field run true false last step → IsFirstRight field run
first_right field run last step t =
    record { is_value = value_in_range field run.first t.first_is; forward = forward_is (is_year field) run.first run.last t.backward_is }

first_wrong : (field : Field) (run : Run) (backward last step : Bool) → Tests field run false backward last step → IsFirstRight field run → ⊥
first_wrong field run backward last step t right = not_of field run.first t.first_is right.is_value

first_backward : (field : Field) (run : Run) (last step : Bool) → Tests field run true true last step → IsFirstRight field run → ⊥
first_backward field run last step t right = let none = is_forward (is_year field) run.first run.last right.forward in let one = t.backward_is in cc

no_step : (step : ℕ) → (nat_lt step 1 || nat_lt 59 step) ≡ true → IsInRange 1 59 step → ⊥
no_step step out h = grind (arith, out, h.0, h.1)

wrong_step : (step : ℕ) → (IsInRange 1 59 step → ⊥) → (nat_lt step 1 || nat_lt 59 step) ≡ true
wrong_step step out = by_step (nat_lt step 1 || nat_lt 59 step) refl
  where
    by_step : (b : Bool) → (nat_lt step 1 || nat_lt 59 step) ≡ b → b ≡ true
    by_step true is = refl
    by_step false is = absurd (out (grind (arith, is), grind (arith, is)))

abbrev run_tests : Field → Run → Bool → Bool → Bool → Bool → Option CronError
run_tests field run first backward last step =
    cond (not first) (Some (OutOfRange (number field) run.first)) (cond backward (Some (OutOfRange (number field) run.first)) (cond (not last) (Some (OutOfRange (number field) run.last)) (cond step (Some (BadStep (number field))) None)))

run_fault-tests : (field : Field) (run : Run) → run_fault field run ≡ run_tests field run (is_value field run.first) (is_year field && nat_lt run.last run.first) (is_value field run.last) (nat_lt run.step 1 || nat_lt 59 run.step)
unfolding run_fault
run_fault-tests field run = refl

some_is : {x y : CronError} → Some x ≡ Some y → x ≡ y
some_is e = cc

run_faulty : (field : Field) (at : ℕ) (text : List ℕ) (run : Run) (first backward last step : Bool) (fault : CronError) → Tests field run first backward last step
    → IsForm field text (Values run) → run_tests field run first backward last step ≡ Some fault → IsElementFault field at text fault
run_faulty field at text run false backward last step fault t is e =
    subst (λ (x : CronError). IsElementFault field at text x) (some_is e) (out_of_range is (first_value (first_wrong field run backward last step t)))
run_faulty field at text run true true last step fault t is e =
    subst (λ (x : CronError). IsElementFault field at text x) (some_is e) (out_of_range is (first_value (first_backward field run last step t)))
run_faulty field at text run true false false step fault t is e =
    subst (λ (x : CronError). IsElementFault field at text x) (some_is e) (out_of_range is (last_value (first_right field run false step t) (not_of field run.last t.last_is)))
run_faulty field at text run true false true true fault t is e =
    subst (λ (x : CronError). IsElementFault field at text x) (some_is e)
    (bad_step is (record { first = first_right field run true true t; last = value_in_range field run.last t.last_is; step = no_step run.step t.step_is }))
run_faulty field at text run true false true false fault t is e = cc

run_first : (field : Field) (run : Run) → (IsFirstRight field run → ⊥) → run_fault field run ≡ Some (OutOfRange (number field) run.first)
run_first field run wrong = run_fault-tests field run ∙ by_tests _ _ _ _ (tests_of field run)
  where
    by_tests : (first backward last step : Bool) → Tests field run first backward last step → run_tests field run first backward last step ≡ Some (OutOfRange (number field) run.first)
    by_tests false backward last step t = refl
    by_tests true true last step t = refl
    by_tests true false last step t = absurd (wrong (first_right field run last step t))

run_last : (field : Field) (run : Run) → IsFirstRight field run → (IsOf field run.last → ⊥) → run_fault field run ≡ Some (OutOfRange (number field) run.last)
run_last field run right out =
    run_fault-tests field run ∙ rw (value_right field run.first right.is_value, is_forward (is_year field) run.first run.last right.forward, no_value field run.last out) refl

run_step : (field : Field) (run : Run) → IsBadStep field run → run_fault field run ≡ Some (BadStep (number field))
run_step field run bad =
    run_fault-tests field run
    ∙ rw (value_right field run.first bad.first.is_value, is_forward (is_year field) run.first run.last bad.first.forward, value_right field run.last bad.last, wrong_step run.step bad.step) refl

-- Days and weekdays.

in_day : (field : Field) (text : List ℕ) (form : DayForm) → IsForm field text (Day form) → field ≡ DayOfMonth
in_day field text form (of_day at is) = at

in_week : (field : Field) (text : List ℕ) (form : WeekForm) → IsForm field text (Week form) → field ≡ DayOfWeek
in_week field text form (of_week at is) = at

not_below : (n : ℕ) → 31 ≤ n → nat_lt n 31 ≡ false
not_below n le = grind (arith, le)

is_31 : (n : ℕ) → nat_lt n 31 ≡ false → 31 ≤ n
is_31 n e = grind (arith, e)

no_nth : (n : ℕ) → (IsInRange 1 5 n → ⊥) → (nat_lt 0 n && nat_lt n 6) ≡ false
no_nth n out = by_nth (nat_lt 0 n && nat_lt n 6) refl
  where
    by_nth : (b : Bool) → (nat_lt 0 n && nat_lt n 6) ≡ b → b ≡ false
    by_nth true is = absurd (out (grind (arith, is), grind (arith, is)))
    by_nth false is = refl

not_nth : (n : ℕ) → (nat_lt 0 n && nat_lt n 6) ≡ false → IsInRange 1 5 n → ⊥
not_nth n none h = grind (arith, none, h.0, h.1)

-- the first number out of range is what the definition finds
out_fault : (field : Field) (text : List ℕ) (form : Form) (v : ℕ) → IsForm field text form → IsOutOfRange field form v → form_fault field form ≡ Some (OutOfRange (number field) v)
unfolding day_fault week_fault
out_fault field text form v is (first_value {run} wrong) = run_first field run wrong
out_fault field text form v is (last_value {run} right out) = run_last field run right out
out_fault field text form v is (before_last_day {back} le) = rw (in_day field text _ is, not_below back le) refl
out_fault field text form v is (nearest_weekday {d} out) = rw (in_day field text _ is, no_value DayOfMonth d out) refl
out_fault field text form v is (last_of_month {d} out) = rw (in_week field text _ is, no_value DayOfWeek d out) refl
out_fault field text form v is (weekday_of_month {d} {n} out) = rw (in_week field text _ is, no_value DayOfWeek d out) refl
out_fault field text form v is (nth_of_month {d} {n} of out) = rw (in_week field text _ is, value_right DayOfWeek d of, no_nth n out) refl

pub fault_read : (field : Field) (at : ℕ) (text : List ℕ) (fault : CronError) → IsElementFault field at text fault → element_of field at text ≡ Err fault
unfolding element_of
fault_read field at text fault (bad_token none) = by_form (form_of field text) refl
  where
    by_form : (o : Option Form) → form_of field text ≡ o → checked field at o ≡ Err (BadToken (number field) (u32_of at))
    by_form None read = refl
    by_form (Some form) read = absurd (none form (form_is field text form read))
fault_read field at text fault (out_of_range {form} {value} is out) = rw (form_read field text form is, out_fault field text form value is out) refl
fault_read field at text fault (bad_step {run} is bad) = rw (form_read field text (Values run) is, run_step field run bad) refl

day_faulty : (field : Field) (at : ℕ) (text : List ℕ) (form : DayForm) (fault : CronError) → IsForm field text (Day form) → day_fault form ≡ Some fault → IsElementFault field at text fault
unfolding day_fault
day_faulty field at text days.Unnamed fault is e = cc
day_faulty field at text (days.Last back) fault is e = by_test (nat_lt back 31) refl e
  where
    by_test : (b : Bool) → nat_lt back 31 ≡ b → range_fault DayOfMonth b back ≡ Some fault → IsElementFault field at text fault
    by_test true low x = cc
    by_test false high x =
        let same : OutOfRange (number field) back ≡ fault = ap (λ f. OutOfRange (number f) back) (in_day field text _ is) ∙ some_is x in
        subst (λ (y : CronError). IsElementFault field at text y) same (out_of_range is (before_last_day (is_31 back high)))
day_faulty field at text days.LastWeekday fault is e = cc
day_faulty field at text (days.Nearest d) fault is e = by_test (is_value DayOfMonth d) refl e
  where
    by_test : (b : Bool) → is_value DayOfMonth d ≡ b → range_fault DayOfMonth b d ≡ Some fault → IsElementFault field at text fault
    by_test true low x = cc
    by_test false out x =
        let same : OutOfRange (number field) d ≡ fault = ap (λ f. OutOfRange (number f) d) (in_day field text _ is) ∙ some_is x in
        subst (λ (y : CronError). IsElementFault field at text y) same (out_of_range is (nearest_weekday (not_of DayOfMonth d out)))

week_faulty : (field : Field) (at : ℕ) (text : List ℕ) (form : WeekForm) (fault : CronError) → IsForm field text (Week form) → week_fault form ≡ Some fault → IsElementFault field at text fault
unfolding week_fault
week_faulty field at text weeks.Unnamed fault is e = cc
week_faulty field at text weeks.Saturday fault is e = cc
week_faulty field at text (weeks.LastOf d) fault is e = by_test (is_value DayOfWeek d) refl e
  where
    by_test : (b : Bool) → is_value DayOfWeek d ≡ b → range_fault DayOfWeek b d ≡ Some fault → IsElementFault field at text fault
    by_test true low x = cc
    by_test false out x =
        let same : OutOfRange (number field) d ≡ fault = ap (λ f. OutOfRange (number f) d) (in_week field text _ is) ∙ some_is x in
        subst (λ (y : CronError). IsElementFault field at text y) same (out_of_range is (last_of_month (not_of DayOfWeek d out)))
week_faulty field at text (weeks.Nth d n) fault is e = by_tests (is_value DayOfWeek d) (nat_lt 0 n && nat_lt n 6) refl refl e
  where
    by_tests : (a b : Bool) → is_value DayOfWeek d ≡ a → (nat_lt 0 n && nat_lt n 6) ≡ b
        → cond (not a) (Some (OutOfRange (number DayOfWeek) d)) (range_fault DayOfWeek b n) ≡ Some fault → IsElementFault field at text fault
    by_tests false b day nth x =
        let same : OutOfRange (number field) d ≡ fault = ap (λ f. OutOfRange (number f) d) (in_week field text _ is) ∙ some_is x in
        subst (λ (y : CronError). IsElementFault field at text y) same (out_of_range is (weekday_of_month (not_of DayOfWeek d day)))
    by_tests true true day nth x = cc
    by_tests true false day nth x =
        let same : OutOfRange (number field) n ≡ fault = ap (λ f. OutOfRange (number f) n) (in_week field text _ is) ∙ some_is x in
        subst (λ (y : CronError). IsElementFault field at text y) same (out_of_range is (nth_of_month (value_in_range DayOfWeek d day) (not_nth n nth)))

faulty : (field : Field) (at : ℕ) (text : List ℕ) (form : Form) (fault : CronError) → IsForm field text form → form_fault field form ≡ Some fault → IsElementFault field at text fault
faulty field at text (Values run) fault is e = run_faulty field at text run _ _ _ _ fault (tests_of field run) is (sym (run_fault-tests field run) ∙ e)
faulty field at text (Day form) fault is e = day_faulty field at text form fault is e
faulty field at text (Week form) fault is e = week_faulty field at text form fault is e

pub fault_is : (field : Field) (at : ℕ) (text : List ℕ) (fault : CronError) → element_of field at text ≡ Err fault → IsElementFault field at text fault
unfolding element_of
fault_is field at text fault e = by_form (form_of field text) refl e
  where
    err_is : {x y : CronError} → ◌≡◌ {A = Result Form CronError} (Err x) (Err y) → x ≡ y
    err_is x = cc

    by_fault : (form : Form) → form_of field text ≡ Some form → (o : Option CronError) → form_fault field form ≡ o → unless o form ≡ Err fault → IsElementFault field at text fault
    by_fault form read None right x = cc
    by_fault form read (Some found) wrong x = faulty field at text form fault (form_is field text form read) (wrong ∙ ap (λ y. Some y) (err_is x))

    by_form : (o : Option Form) → form_of field text ≡ o → checked field at o ≡ Err fault → IsElementFault field at text fault
    by_form None read x = subst (λ (y : CronError). IsElementFault field at text y) (err_is x) (bad_token (λ form is. none form (form_read field text form is)))
      where
        none : (form : Form) → form_of field text ≡ Some form → ⊥
        none form some = cc
    by_form (Some form) read x = by_fault form read (form_fault field form) refl x
