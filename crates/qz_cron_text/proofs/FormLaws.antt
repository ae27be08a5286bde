-- Elements: reading them agrees with the grammar.
use Rattle.std.proofs.Common.{◌≡◌, sym, refl, subst, ℕ, ◌+◌, ◌≤◌, true, false, arith, List, [], ◌∷◌, ◌++◌, length}
use Rattle.std.specs.Prelude.{Some, None, ◌==◌}
use Rattle.std.specs.Option.{option_map}
use Rattle.std.specs.Char.{to_ascii_uppercase, is_ascii_digit}
use Rattle.std.proofs.lemmas.List.{take_at, get_or_at}
use Rattle.qz_civil.specs.declared.fields.Field.{Field}
use Rattle.qz_civil.specs.declared.fields.Field.TheVariants.{DayOfMonth, DayOfWeek}
use Rattle.qz_cron_text.specs.declared.forms.Form.{Form}
use Rattle.qz_cron_text.specs.declared.forms.Form.TheVariants.{Values, Day, Week}
use Rattle.qz_cron_text.specs.declared.forms.DayForm.{DayForm}
use Rattle.qz_cron_text.specs.declared.forms.WeekForm.{WeekForm}
use Rattle.qz_cron_text.specs.Values.{name_of, value_of}
use Rattle.qz_cron_text.specs.Runs.{is_star, run_of, closed_run}
use Rattle.qz_cron_text.specs.Forms.{is_letter, is_question, is_last_weekday, before_letter, or_else, day_form, week_form, special_form, form_of}
use Rattle.qz_cron_text.specs.Grammar.{IsNumeral, IsLetter, IsDayForm, no_day, last_day, before_last_day, last_weekday, nearest_weekday, IsWeekForm, no_weekday, saturday, last_of_month, nth_of_month, IsForm, of_values, of_day, of_week}
use Rattle.qz_cron_text.proofs.Free.{IsFree, is_mark, free-append, uncut, cut_marked, IsPlain, is_plain, plain-append}
use Rattle.qz_cron_text.proofs.Numerals.{numeral_read, numeral_plain, number_none}
use Rattle.qz_cron_text.proofs.Names.{name_none, weekday_none}
use Rattle.qz_cron_text.proofs.RunLaws.{value_read, value_plain, value_some, plain_no_mark, plain_no_star, run_read}

pub letter_plain : (letter b : ℕ) → is_plain letter ≡ true → to_ascii_uppercase b ≡ letter → is_plain b ≡ true
letter_plain letter b plain is = grind (arith, plain, is)

letter_no_digit : (letter b : ℕ) → is_ascii_digit letter ≡ false → to_ascii_uppercase b ≡ letter → is_ascii_digit b ≡ false
letter_no_digit letter b other is = grind (arith, other, is)

-- what is neither a value nor has a mark is no run
no_run : (field : Field) (text : List ℕ) → IsPlain text → value_of field text ≡ None → run_of field text ≡ None
unfolding run_of closed_run
no_run field text plain none =
    rw (uncut 47 text (plain_no_mark 47 refl text plain), plain_no_star text plain, uncut 45 text (plain_no_mark 45 refl text plain), none) refl

-- a text with a letter behind digits or other letters is no day of the month
no_day_value : (xs : List ℕ) (b : ℕ) (ys : List ℕ) → is_ascii_digit b ≡ false → value_of DayOfMonth (xs ++ b ∷ ys) ≡ None
unfolding value_of name_of
no_day_value xs b ys other = rw (number_none xs b ys other) refl

no_weekday_value : (xs : List ℕ) (l : ℕ) → IsLetter 76 l → value_of DayOfWeek (xs ++ l ∷ []) ≡ None
unfolding value_of
no_weekday_value xs l letter = rw (number_none xs l [] (letter_no_digit 76 l refl letter), weekday_none xs l letter) refl

no_marked_value : (field : Field) (xs : List ℕ) (m : ℕ) (ys : List ℕ) → is_plain m ≡ false → is_ascii_digit m ≡ false → value_of field (xs ++ m ∷ ys) ≡ None
unfolding value_of
no_marked_value field xs m ys other digit = rw (number_none xs m ys digit, name_none field xs m ys other) refl

back_no_run : (l : ℕ) (k : List ℕ) → IsLetter 76 l → IsPlain k → run_of DayOfMonth (l ∷ 45 ∷ k) ≡ None
unfolding run_of closed_run
back_no_run l k letter plain =
    let free : IsFree (is_mark 47) (l ∷ 45 ∷ k) = ((plain_no_mark 47 refl (l ∷ []) (letter_plain 76 l refl letter, tt)).0, (refl, plain_no_mark 47 refl k plain)) in
    let dash : IsFree (is_mark 45) (l ∷ []) = plain_no_mark 45 refl (l ∷ []) (letter_plain 76 l refl letter, tt) in
    rw (uncut 47 (l ∷ 45 ∷ k) free, cut_marked 45 (l ∷ []) k dash, no_day_value [] l [] (letter_no_digit 76 l refl letter)) refl

nth_no_run : (a k : List ℕ) → IsPlain a → IsPlain k → run_of DayOfWeek (a ++ 35 ∷ k) ≡ None
unfolding run_of closed_run
nth_no_run a k pa pk =
    let slash : IsFree (is_mark 47) (a ++ 35 ∷ k) = free-append (is_mark 47) a (35 ∷ k) (plain_no_mark 47 refl a pa) (refl, plain_no_mark 47 refl k pk) in
    let dash : IsFree (is_mark 45) (a ++ 35 ∷ k) = free-append (is_mark 45) a (35 ∷ k) (plain_no_mark 45 refl a pa) (refl, plain_no_mark 45 refl k pk) in
    rw (uncut 47 (a ++ 35 ∷ k) slash, no_star a k, uncut 45 (a ++ 35 ∷ k) dash, no_marked_value DayOfWeek a 35 k refl refl) refl
  where
    no_star : (xs ys : List ℕ) → is_star (xs ++ 35 ∷ ys) ≡ false
    no_star [] [] = refl
    no_star [] (y ∷ ys) = refl
    no_star (x ∷ []) ys = refl
    no_star (x ∷ y ∷ xs) ys = refl

-- what stands before a letter at the end
before_read : (letter b : ℕ) (xs : List ℕ) → to_ascii_uppercase b ≡ letter → before_letter letter (xs ++ b ∷ []) ≡ Some xs
unfolding before_letter
before_read letter b xs is = grind (arith, is, length_push xs, get_or_at xs b [] 0 (length xs) refl, take_at xs (b ∷ []) (length xs) refl)
  where
    length_push : (ys : List ℕ) → length (ys ++ b ∷ []) ≡ length ys + 1
    length_push [] = refl
    length_push (y ∷ ys) = grind (arith, length_push ys)

question_push : (xs : List ℕ) (b : ℕ) (ys : List ℕ) → 1 ≤ length xs → is_question (xs ++ b ∷ ys) ≡ false
question_push [] b ys some = absurd (omega arith)
question_push (x ∷ []) b ys some = refl
question_push (x ∷ y ∷ xs) b ys some = refl

letter_push : (letter : ℕ) (xs : List ℕ) (b : ℕ) (ys : List ℕ) → 1 ≤ length xs → is_letter letter (xs ++ b ∷ ys) ≡ false
letter_push letter [] b ys some = absurd (omega arith)
letter_push letter (x ∷ []) b ys some = refl
letter_push letter (x ∷ y ∷ xs) b ys some = refl

-- a numeral doesn't begin with L
digit_no_letter : (x : ℕ) → is_ascii_digit x ≡ true → (to_ascii_uppercase x == 76) ≡ false
digit_no_letter x digit = grind (arith, digit)

weekday_push : (xs : List ℕ) (n w : ℕ) → IsNumeral xs n → is_last_weekday (xs ++ w ∷ []) ≡ false
weekday_push [] n w is = absurd (omega (arith, is.some))
weekday_push (x ∷ []) n w is = let digit : is_ascii_digit x ≡ true = grind (arith, is.digits) in rw (digit_no_letter x digit) refl
weekday_push (x ∷ y ∷ []) n w is = refl
weekday_push (x ∷ y ∷ z ∷ xs) n w is = refl

letter_test : (letter b : ℕ) → to_ascii_uppercase b ≡ letter → (to_ascii_uppercase b == letter) ≡ true
letter_test letter b is = grind (arith, is)

letter_no_question : (letter b : ℕ) → is_plain letter ≡ true → to_ascii_uppercase b ≡ letter → (b == 63) ≡ false
letter_no_question letter b plain is = grind (arith, plain, is)

day_read : (text : List ℕ) (form : DayForm) → IsDayForm text form → day_form text ≡ Some form
unfolding day_form
day_read text form no_day = refl
day_read text form (last_day l letter) = rw (letter_no_question 76 l refl letter, letter_test 76 l letter) refl
day_read text form (before_last_day {k} {n} l letter is) =
    let dash : IsFree (is_mark 45) (l ∷ []) = plain_no_mark 45 refl (l ∷ []) (letter_plain 76 l refl letter, tt) in
    rw (no_weekday_letters k, cut_marked 45 (l ∷ []) k dash, letter_test 76 l letter, numeral_read k n is) refl
  where
    no_weekday_letters : (ys : List ℕ) → is_last_weekday (l ∷ 45 ∷ ys) ≡ false
    no_weekday_letters [] = grind arith
    no_weekday_letters (y ∷ ys) = refl
day_read text form (last_weekday l w letter other) = rw (letter_test 76 l letter, letter_test 87 w other) refl
day_read text form (nearest_weekday {a} {n} w is letter) =
    let dash : IsFree (is_mark 45) (a ++ w ∷ []) = plain_no_mark 45 refl (a ++ w ∷ []) (plain-append a (w ∷ []) (numeral_plain a n is) (letter_plain 87 w refl letter, tt)) in
    rw (question_push a w [] is.some, letter_push 76 a w [] is.some, weekday_push a n w is, uncut 45 (a ++ w ∷ []) dash, before_read 87 w a letter, numeral_read a n is) refl

week_read : (text : List ℕ) (form : WeekForm) → IsWeekForm text form → week_form text ≡ Some form
unfolding week_form
week_read text form no_weekday = refl
week_read text form (saturday l letter) = rw (letter_no_question 76 l refl letter, letter_test 76 l letter) refl
week_read text form (last_of_month {a} {v} l is letter) =
    let some : 1 ≤ length a = value_some DayOfWeek a v is in
    let sharp : IsFree (is_mark 35) (a ++ l ∷ []) = plain_no_mark 35 refl (a ++ l ∷ []) (plain-append a (l ∷ []) (value_plain DayOfWeek a v is) (letter_plain 76 l refl letter, tt)) in
    rw (question_push a l [] some, letter_push 76 a l [] some, uncut 35 (a ++ l ∷ []) sharp, before_read 76 l a letter, value_read DayOfWeek a v is) refl
week_read text form (nth_of_month {a} {k} {v} {n} is by) =
    let some : 1 ≤ length a = value_some DayOfWeek a v is in
    rw (question_push a 35 k some, letter_push 76 a 35 k some, cut_marked 35 a k (plain_no_mark 35 refl a (value_plain DayOfWeek a v is)), value_read DayOfWeek a v is, numeral_read k n by) refl

question_no_run : (field : Field) → run_of field (63 ∷ []) ≡ None
unfolding run_of closed_run
question_no_run field =
    rw (uncut 47 (63 ∷ []) (refl, tt), uncut 45 (63 ∷ []) (refl, tt), no_marked_value field [] 63 [] refl refl) refl

day_no_run : (text : List ℕ) (form : DayForm) → IsDayForm text form → run_of DayOfMonth text ≡ None
day_no_run text form no_day = question_no_run DayOfMonth
day_no_run text form (last_day l letter) =
    no_run DayOfMonth (l ∷ []) (letter_plain 76 l refl letter, tt) (no_day_value [] l [] (letter_no_digit 76 l refl letter))
day_no_run text form (before_last_day {k} {n} l letter is) = back_no_run l k letter (numeral_plain k n is)
day_no_run text form (last_weekday l w letter other) =
    no_run DayOfMonth (l ∷ w ∷ []) (letter_plain 76 l refl letter, (letter_plain 87 w refl other, tt)) (no_day_value [] l (w ∷ []) (letter_no_digit 76 l refl letter))
day_no_run text form (nearest_weekday {a} {n} w is letter) =
    no_run DayOfMonth (a ++ w ∷ []) (plain-append a (w ∷ []) (numeral_plain a n is) (letter_plain 87 w refl letter, tt)) (no_day_value a w [] (letter_no_digit 87 w refl letter))

week_no_run : (text : List ℕ) (form : WeekForm) → IsWeekForm text form → run_of DayOfWeek text ≡ None
week_no_run text form no_weekday = question_no_run DayOfWeek
week_no_run text form (saturday l letter) = no_run DayOfWeek (l ∷ []) (letter_plain 76 l refl letter, tt) (no_weekday_value [] l letter)
week_no_run text form (last_of_month {a} {v} l is letter) =
    no_run DayOfWeek (a ++ l ∷ []) (plain-append a (l ∷ []) (value_plain DayOfWeek a v is) (letter_plain 76 l refl letter, tt)) (no_weekday_value a l letter)
week_no_run text form (nth_of_month {a} {k} {v} {n} is by) = nth_no_run a k (value_plain DayOfWeek a v is) (numeral_plain k n by)

pub form_read : (field : Field) (text : List ℕ) (form : Form) → IsForm field text form → form_of field text ≡ Some form
unfolding form_of
form_read field text form (of_values {text = word} {run} is) = rw (run_read field word run is) refl
form_read field text form (of_day {text = word} {form = day} at is) =
    subst (λ (f : Field). or_else (option_map (λ run. Values run) (run_of f word)) (special_form f word) ≡ Some (Day day)) (sym at)
    (rw (day_no_run word day is, day_read word day is) refl)
form_read field text form (of_week {text = word} {form = week} at is) =
    subst (λ (f : Field). or_else (option_map (λ run. Values run) (run_of f word)) (special_form f word) ≡ Some (Week week)) (sym at)
    (rw (week_no_run word week is, week_read word week is) refl)
