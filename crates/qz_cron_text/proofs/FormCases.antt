-- Elements: what is read of one is in the grammar.
use Rattle.std.proofs.Common.{◌≡◌, ◌∙◌, ap, sym, refl, subst, ℕ, ◌-◌, ◌≤◌, Bool, true, false, arith, suc, cond, List, [], ◌∷◌, ◌++◌, length, take, get_or}
use Rattle.std.specs.Prelude.{Option, Some, None, ◌==◌, nat_eq, slice_index}
use Rattle.std.specs.Option.{option_map, option_and_then}
use Rattle.std.specs.Char.{to_ascii_uppercase}
use Rattle.qz_civil.specs.declared.fields.Field.{Field}
use Rattle.qz_civil.specs.declared.fields.Field.TheVariants.{Seconds, Minutes, Hours, DayOfMonth, Month, DayOfWeek, Year}
use Rattle.qz_cron_text.specs.declared.runs.Run.{Run}
use Rattle.qz_cron_text.specs.declared.forms.Form.{Form}
use Rattle.qz_cron_text.specs.declared.forms.Form.TheVariants.{Values, Day, Week}
use Rattle.qz_cron_text.specs.declared.forms.DayForm.{DayForm}
use Rattle.qz_cron_text.specs.declared.forms.DayForm.TheVariants as days
use Rattle.qz_cron_text.specs.declared.forms.WeekForm.{WeekForm}
use Rattle.qz_cron_text.specs.declared.forms.WeekForm.TheVariants as weeks
use Rattle.qz_cron_text.specs.Cuts.{cut_at}
use Rattle.qz_cron_text.specs.Values.{number_of, value_of}
use Rattle.qz_cron_text.specs.Runs.{run_of}
use Rattle.qz_cron_text.specs.Forms.{is_letter, is_question, is_last_weekday, before_letter, or_else, last_back, last_back_of, nearest, day_form, nth, nth_of, last_of, week_form, special_form, form_of}
use Rattle.qz_cron_text.specs.Grammar.{IsNumeral, IsLetter, IsDayForm, no_day, last_day, before_last_day, last_weekday, nearest_weekday, IsWeekForm, no_weekday, saturday, last_of_month, nth_of_month, IsForm, of_values, of_day, of_week}
use Rattle.qz_cron_text.proofs.Free.{IsCut, cut_is}
use Rattle.qz_cron_text.proofs.Numerals.{number_is}
use Rattle.qz_cron_text.proofs.RunLaws.{some_is, none_is, value_is, run_is}

false_is : {A : Type 0} → false ≡ true → A
false_is e = absurd (clash e)
  where
    clash : false ≡ true → ⊥
    clash e = cc

question_is : (text : List ℕ) → is_question text ≡ true → text ≡ 63 ∷ []
question_is [] is = false_is is
question_is (b ∷ []) is = let same : b ≡ 63 = grind (arith, is) in cc
question_is (b ∷ c ∷ bs) is = false_is is

record IsOneLetter (letter : ℕ) (text : List ℕ) : Type 0 where
  byte : ℕ
  is : text ≡ byte ∷ []
  is_byte : IsLetter letter byte

letter_is : (letter : ℕ) (text : List ℕ) → is_letter letter text ≡ true → IsOneLetter letter text
letter_is letter [] is = false_is is
letter_is letter (b ∷ []) is = record { byte = b; is = refl; is_byte = grind (arith, is) }
letter_is letter (b ∷ c ∷ bs) is = false_is is

record AreTwoLetters (text : List ℕ) : Type 0 where
  first : ℕ
  second : ℕ
  is : text ≡ first ∷ second ∷ []
  first_is : IsLetter 76 first
  second_is : IsLetter 87 second

two_letters_are : (text : List ℕ) → is_last_weekday text ≡ true → AreTwoLetters text
two_letters_are [] is = false_is is
two_letters_are (a ∷ []) is = false_is is
two_letters_are (a ∷ b ∷ []) is = record { first = a; second = b; is = refl; first_is = grind (arith, is); second_is = grind (arith, is) }
two_letters_are (a ∷ b ∷ c ∷ bs) is = false_is is

record EndsWith (letter : ℕ) (text front : List ℕ) : Type 0 where
  byte : ℕ
  is : text ≡ front ++ byte ∷ []
  is_byte : IsLetter letter byte

last_split : (xs : List ℕ) → 1 ≤ length xs → xs ≡ take (length xs - 1) xs ++ get_or xs (length xs - 1) 0 ∷ []
last_split [] some = absurd (omega arith)
last_split (x ∷ []) some = refl
last_split (x ∷ y ∷ xs) some =
    let before : y ∷ xs ≡ take (length (y ∷ xs) - 1) (y ∷ xs) ++ get_or (y ∷ xs) (length (y ∷ xs) - 1) 0 ∷ [] = last_split (y ∷ xs) (grind arith) in
    let e : length (x ∷ y ∷ xs) - 1 ≡ suc (length (y ∷ xs) - 1) = grind arith in
    rw e (ap (λ (t : List ℕ). x ∷ t) before)

before_is : (letter : ℕ) (text front : List ℕ) → before_letter letter text ≡ Some front → EndsWith letter text front
unfolding before_letter
before_is letter text front is = by_empty (nat_eq (length text) 0) refl is
  where
    last : ℕ
    last = slice_index text (length text - 1)

    by_letter : 1 ≤ length text → (b : Bool) → (to_ascii_uppercase (slice_index text (length text - 1)) == letter) ≡ b
        → cond b (Some (take (length text - 1) text)) None ≡ Some front → EndsWith letter text front
    by_letter some false other e = absurd (none_is e)
    by_letter some true same e =
        record { byte = slice_index text (length text - 1); is = last_split text some ∙ ap (λ (t : List ℕ). t ++ slice_index text (length text - 1) ∷ []) (some_is e); is_byte = grind (arith, same) }

    by_empty : (b : Bool) → nat_eq (length text) 0 ≡ b
        → cond b None (cond (to_ascii_uppercase (slice_index text (length text - 1)) == letter) (Some (take (length text - 1) text)) None) ≡ Some front
        → EndsWith letter text front
    by_empty true none e = absurd (none_is e)
    by_empty false some e = by_letter (grind (arith, some)) (to_ascii_uppercase (slice_index text (length text - 1)) == letter) refl e

last_back_is : (text front : List ℕ) (behind : Option (List ℕ)) (form : DayForm) → IsCut 45 text front behind → last_back front behind ≡ Some form → IsDayForm text form
last_back_is text front None form at is = absurd (none_is is)
last_back_is text front (Some k) form at is = by_letter (is_letter 76 front) refl is
  where
    made : (n : ℕ) → IsNumeral k n → IsOneLetter 76 front → IsDayForm text (days.Last n)
    made n numeral one =
        let whole : text ≡ one.byte ∷ 45 ∷ k = at ∙ ap (λ (t : List ℕ). t ++ 45 ∷ k) one.is in
        subst (λ (t : List ℕ). IsDayForm t (days.Last n)) (sym whole) (before_last_day one.byte one.is_byte numeral)

    by_number : IsOneLetter 76 front → (o : Option ℕ) → number_of k ≡ o → option_map (λ n. days.Last n) o ≡ Some form → IsDayForm text form
    by_number one None read e = absurd (none_is e)
    by_number one (Some n) read e = subst (λ (f : DayForm). IsDayForm text f) (some_is e) (made n (number_is k n read) one)

    by_letter : (b : Bool) → is_letter 76 front ≡ b → cond b (option_map (λ n. days.Last n) (number_of k)) None ≡ Some form → IsDayForm text form
    by_letter false other e = absurd (none_is e)
    by_letter true one e = by_number (letter_is 76 front one) (number_of k) refl e

nearest_is : (text : List ℕ) (o : Option (List ℕ)) (form : DayForm) → before_letter 87 text ≡ o → nearest o ≡ Some form → IsDayForm text form
nearest_is text None form at is = absurd (none_is is)
nearest_is text (Some a) form at is = by_number (number_of a) refl is
  where
    ends : EndsWith 87 text a
    ends = before_is 87 text a at

    by_number : (o : Option ℕ) → number_of a ≡ o → option_map (λ n. days.Nearest n) o ≡ Some form → IsDayForm text form
    by_number None read e = absurd (none_is e)
    by_number (Some n) read e =
        subst (λ (f : DayForm). IsDayForm text f) (some_is e)
        (subst (λ (t : List ℕ). IsDayForm t (days.Nearest n)) (sym ends.is) (nearest_weekday ends.byte (number_is a n read) ends.is_byte))

day_is : (text : List ℕ) (form : DayForm) → day_form text ≡ Some form → IsDayForm text form
unfolding day_form
day_is text form is = by_question (is_question text) refl is
  where
    at : (t : List ℕ) (f : DayForm) → text ≡ t → f ≡ form → IsDayForm t f → IsDayForm text form
    at t f same is_f made = subst (λ (x : List ℕ). IsDayForm x form) (sym same) (subst (λ (g : DayForm). IsDayForm t g) is_f made)

    by_back : (o : Option DayForm) → last_back_of (cut_at 45 text) ≡ o → or_else o (nearest (before_letter 87 text)) ≡ Some form → IsDayForm text form
    by_back None read e = nearest_is text (before_letter 87 text) form refl e
    by_back (Some f) read e = last_back_is text (cut_at 45 text).front (cut_at 45 text).rest form (cut_is 45 text) (read ∙ e)

    by_weekday : (b : Bool) → is_last_weekday text ≡ b
        → cond b (Some days.LastWeekday) (or_else (last_back_of (cut_at 45 text)) (nearest (before_letter 87 text))) ≡ Some form → IsDayForm text form
    by_weekday true both e =
        let two : AreTwoLetters text = two_letters_are text both in
        at (two.first ∷ two.second ∷ []) days.LastWeekday two.is (some_is e) (last_weekday two.first two.second two.first_is two.second_is)
    by_weekday false other e = by_back (last_back_of (cut_at 45 text)) refl e

    by_letter : (b : Bool) → is_letter 76 text ≡ b
        → cond b (Some (days.Last 0)) (cond (is_last_weekday text) (Some days.LastWeekday) (or_else (last_back_of (cut_at 45 text)) (nearest (before_letter 87 text)))) ≡ Some form
        → IsDayForm text form
    by_letter true one e =
        let letter : IsOneLetter 76 text = letter_is 76 text one in
        at (letter.byte ∷ []) (days.Last 0) letter.is (some_is e) (last_day letter.byte letter.is_byte)
    by_letter false other e = by_weekday (is_last_weekday text) refl e

    by_question : (b : Bool) → is_question text ≡ b
        → cond b (Some days.Unnamed) (cond (is_letter 76 text) (Some (days.Last 0)) (cond (is_last_weekday text) (Some days.LastWeekday) (or_else (last_back_of (cut_at 45 text)) (nearest (before_letter 87 text))))) ≡ Some form
        → IsDayForm text form
    by_question true one e = at (63 ∷ []) days.Unnamed (question_is text one) (some_is e) no_day
    by_question false other e = by_letter (is_letter 76 text) refl e

nth_is : (text front : List ℕ) (behind : Option (List ℕ)) (form : WeekForm) → IsCut 35 text front behind → nth front behind ≡ Some form → IsWeekForm text form
nth_is text front None form at is = absurd (none_is is)
nth_is text front (Some k) form at is = by_day (value_of DayOfWeek front) refl is
  where
    by_number : (v : ℕ) → value_of DayOfWeek front ≡ Some v → (o : Option ℕ) → number_of k ≡ o → option_map (λ n. weeks.Nth v n) o ≡ Some form → IsWeekForm text form
    by_number v day None read e = absurd (none_is e)
    by_number v day (Some n) read e =
        subst (λ (f : WeekForm). IsWeekForm text f) (some_is e)
        (subst (λ (t : List ℕ). IsWeekForm t (weeks.Nth v n)) (sym at) (nth_of_month (value_is DayOfWeek front v day) (number_is k n read)))

    by_day : (o : Option ℕ) → value_of DayOfWeek front ≡ o
        → option_and_then (λ a. option_map (λ n. weeks.Nth a n) (number_of k)) o ≡ Some form → IsWeekForm text form
    by_day None read e = absurd (none_is e)
    by_day (Some v) read e = by_number v read (number_of k) refl e

last_of_is : (text : List ℕ) (o : Option (List ℕ)) (form : WeekForm) → before_letter 76 text ≡ o → last_of o ≡ Some form → IsWeekForm text form
last_of_is text None form at is = absurd (none_is is)
last_of_is text (Some a) form at is = by_value (value_of DayOfWeek a) refl is
  where
    ends : EndsWith 76 text a
    ends = before_is 76 text a at

    by_value : (o : Option ℕ) → value_of DayOfWeek a ≡ o → option_map (λ v. weeks.LastOf v) o ≡ Some form → IsWeekForm text form
    by_value None read e = absurd (none_is e)
    by_value (Some v) read e =
        subst (λ (f : WeekForm). IsWeekForm text f) (some_is e)
        (subst (λ (t : List ℕ). IsWeekForm t (weeks.LastOf v)) (sym ends.is) (last_of_month ends.byte (value_is DayOfWeek a v read) ends.is_byte))

week_is : (text : List ℕ) (form : WeekForm) → week_form text ≡ Some form → IsWeekForm text form
unfolding week_form
week_is text form is = by_question (is_question text) refl is
  where
    at : (t : List ℕ) (f : WeekForm) → text ≡ t → f ≡ form → IsWeekForm t f → IsWeekForm text form
    at t f same is_f made = subst (λ (x : List ℕ). IsWeekForm x form) (sym same) (subst (λ (g : WeekForm). IsWeekForm t g) is_f made)

    by_nth : (o : Option WeekForm) → nth_of (cut_at 35 text) ≡ o → or_else o (last_of (before_letter 76 text)) ≡ Some form → IsWeekForm text form
    by_nth None read e = last_of_is text (before_letter 76 text) form refl e
    by_nth (Some f) read e = nth_is text (cut_at 35 text).front (cut_at 35 text).rest form (cut_is 35 text) (read ∙ e)

    by_letter : (b : Bool) → is_letter 76 text ≡ b → cond b (Some weeks.Saturday) (or_else (nth_of (cut_at 35 text)) (last_of (before_letter 76 text))) ≡ Some form → IsWeekForm text form
    by_letter true one e =
        let letter : IsOneLetter 76 text = letter_is 76 text one in
        at (letter.byte ∷ []) weeks.Saturday letter.is (some_is e) (saturday letter.byte letter.is_byte)
    by_letter false other e = by_nth (nth_of (cut_at 35 text)) refl e

    by_question : (b : Bool) → is_question text ≡ b
        → cond b (Some weeks.Unnamed) (cond (is_letter 76 text) (Some weeks.Saturday) (or_else (nth_of (cut_at 35 text)) (last_of (before_letter 76 text)))) ≡ Some form
        → IsWeekForm text form
    by_question true one e = at (63 ∷ []) weeks.Unnamed (question_is text one) (some_is e) no_weekday
    by_question false other e = by_letter (is_letter 76 text) refl e

day_case : (field : Field) (text : List ℕ) (form : Form) (o : Option DayForm) → field ≡ DayOfMonth → day_form text ≡ o
    → option_map (λ f. Day f) o ≡ Some form → IsForm field text form
day_case field text form None at read e = absurd (none_is e)
day_case field text form (Some f) at read e = subst (λ (g : Form). IsForm field text g) (some_is e) (of_day at (day_is text f read))

week_case : (field : Field) (text : List ℕ) (form : Form) (o : Option WeekForm) → field ≡ DayOfWeek → week_form text ≡ o
    → option_map (λ f. Week f) o ≡ Some form → IsForm field text form
week_case field text form None at read e = absurd (none_is e)
week_case field text form (Some f) at read e = subst (λ (g : Form). IsForm field text g) (some_is e) (of_week at (week_is text f read))

special_is : (field : Field) (text : List ℕ) (form : Form) → special_form field text ≡ Some form → IsForm field text form
special_is Seconds text form is = absurd (none_is is)
special_is Minutes text form is = absurd (none_is is)
special_is Hours text form is = absurd (none_is is)
special_is DayOfMonth text form is = day_case DayOfMonth text form (day_form text) refl refl is
special_is Month text form is = absurd (none_is is)
special_is DayOfWeek text form is = week_case DayOfWeek text form (week_form text) refl refl is
special_is Year text form is = absurd (none_is is)

pub form_is : (field : Field) (text : List ℕ) (form : Form) → form_of field text ≡ Some form → IsForm field text form
unfolding form_of
form_is field text form is = by_run (run_of field text) refl is
  where
    by_run : (o : Option Run) → run_of field text ≡ o → or_else (option_map (λ run. Values run) o) (special_form field text) ≡ Some form → IsForm field text form
    by_run None read e = special_is field text form e
    by_run (Some run) read e = subst (λ (f : Form). IsForm field text f) (some_is e) (of_values (run_is field text run read))
