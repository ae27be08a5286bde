-- Which bytes an element has: no comma and no blank.
use Rattle.std.proofs.Common.{◌≡◌, ◌∙◌, sym, refl, subst, ℕ, ◌≤◌, Bool, true, false, arith, List, [], ◌∷◌, ◌++◌, length}
use Rattle.std.specs.Prelude.{◌==◌, ◌||◌}
use Rattle.std.specs.List.{AllByRecursion}
use Rattle.qz_civil.specs.declared.fields.Field.{Field}
use Rattle.qz_civil.specs.declared.fields.Field.TheVariants.{DayOfWeek}
use Rattle.qz_cron_text.specs.declared.runs.Run.{Run}
use Rattle.qz_cron_text.specs.declared.forms.Form.{Form}
use Rattle.qz_cron_text.specs.declared.forms.DayForm.{DayForm}
use Rattle.qz_cron_text.specs.declared.forms.WeekForm.{WeekForm}
use Rattle.qz_cron_text.specs.Texts.{is_blank}
use Rattle.qz_cron_text.specs.Grammar.{IsNumeral, IsValue, IsRun, every, every_by, every_by_slash, single, onward, between, between_by, IsLetter, IsDayForm, no_day, last_day, before_last_day, last_weekday, nearest_weekday, IsWeekForm, no_weekday, saturday, last_of_month, nth_of_month, IsForm, of_values, of_day, of_week}
use Rattle.qz_cron_text.proofs.Free.{IsFree, is_mark, IsPlain, is_plain}
use Rattle.qz_cron_text.proofs.Numerals.{numeral_plain}
use Rattle.qz_cron_text.proofs.RunLaws.{value_plain, value_some}
use Rattle.qz_cron_text.proofs.FormLaws.{letter_plain}

-- a digit, a letter, or a mark that an element can have
abbrev pub is_inner : ℕ → Bool
is_inner b = is_plain b || (b == 42) || (b == 45) || (b == 47) || (b == 35) || (b == 63)

abbrev pub IsInner : List ℕ → Type 0
IsInner text = AllByRecursion (λ b. is_inner b ≡ true) text

inner-append : (xs ys : List ℕ) → IsInner xs → IsInner ys → IsInner (xs ++ ys)
inner-append [] ys a b = b
inner-append (x ∷ xs) ys a b = (a.0, inner-append xs ys a.1 b)

plain_inner : (text : List ℕ) → IsPlain text → IsInner text
plain_inner [] plain = tt
plain_inner (b ∷ bs) plain = (rw plain.0 refl, plain_inner bs plain.1)

letter_inner : (letter b : ℕ) → is_plain letter ≡ true → IsLetter letter b → IsInner (b ∷ [])
letter_inner letter b plain is = plain_inner (b ∷ []) (letter_plain letter b plain is, tt)

numeral_inner : (text : List ℕ) (n : ℕ) → IsNumeral text n → IsInner text
numeral_inner text n is = plain_inner text (numeral_plain text n is)

value_inner : (field : Field) (text : List ℕ) (v : ℕ) → IsValue field text v → IsInner text
value_inner field text v is = plain_inner text (value_plain field text v is)

run_inner : (field : Field) (text : List ℕ) (run : Run) → IsRun field text run → IsInner text
run_inner field text run every = (refl, tt)
run_inner field text run (every_by {k} {n} is) = (refl, (refl, numeral_inner k n is))
run_inner field text run (every_by_slash {k} {n} is) = (refl, numeral_inner k n is)
run_inner field text run (single {a} {v} is) = value_inner field a v is
run_inner field text run (onward {a} {k} {v} {n} is by) = inner-append a (47 ∷ k) (value_inner field a v is) (refl, numeral_inner k n by)
run_inner field text run (between {a} {b} {v} {w} is last) = inner-append a (45 ∷ b) (value_inner field a v is) (refl, value_inner field b w last)
run_inner field text run (between_by {a} {b} {k} {v} {w} {n} is last by) =
    inner-append (a ++ 45 ∷ b) (47 ∷ k) (inner-append a (45 ∷ b) (value_inner field a v is) (refl, value_inner field b w last)) (refl, numeral_inner k n by)

day_inner : (text : List ℕ) (form : DayForm) → IsDayForm text form → IsInner text
day_inner text form no_day = (refl, tt)
day_inner text form (last_day l letter) = letter_inner 76 l refl letter
day_inner text form (before_last_day {k} {n} l letter is) = ((letter_inner 76 l refl letter).0, (refl, numeral_inner k n is))
day_inner text form (last_weekday l w letter other) = ((letter_inner 76 l refl letter).0, letter_inner 87 w refl other)
day_inner text form (nearest_weekday {a} {n} w is letter) = inner-append a (w ∷ []) (numeral_inner a n is) (letter_inner 87 w refl letter)

week_inner : (text : List ℕ) (form : WeekForm) → IsWeekForm text form → IsInner text
week_inner text form no_weekday = (refl, tt)
week_inner text form (saturday l letter) = letter_inner 76 l refl letter
week_inner text form (last_of_month {a} {v} l is letter) = inner-append a (l ∷ []) (value_inner DayOfWeek a v is) (letter_inner 76 l refl letter)
week_inner text form (nth_of_month {a} {k} {v} {n} is by) = inner-append a (35 ∷ k) (value_inner DayOfWeek a v is) (refl, numeral_inner k n by)

pub form_inner : (field : Field) (text : List ℕ) (form : Form) → IsForm field text form → IsInner text
form_inner field text form (of_values {text = word} {run} is) = run_inner field word run is
form_inner field text form (of_day {text = word} {form = day} at is) = day_inner word day is
form_inner field text form (of_week {text = word} {form = week} at is) = week_inner word week is

inner_not : (b : ℕ) (p : ℕ → Bool) → ((m : ℕ) → p m ≡ true → is_inner m ≡ false) → is_inner b ≡ true → p b ≡ false
inner_not b p other inner = by_test (p b) refl
  where
    by_test : (t : Bool) → p b ≡ t → t ≡ false
    by_test false is = refl
    by_test true is = let clash : true ≡ false = sym inner ∙ other b is in clash

inner_free : (p : ℕ → Bool) → ((m : ℕ) → p m ≡ true → is_inner m ≡ false) → (text : List ℕ) → IsInner text → IsFree p text
inner_free p other [] inner = tt
inner_free p other (b ∷ bs) inner = (inner_not b p other inner.0, inner_free p other bs inner.1)

comma_other : (m : ℕ) → is_mark 44 m ≡ true → is_inner m ≡ false
comma_other m is = let same : m ≡ 44 = grind (arith, is) in subst (λ (b : ℕ). is_inner b ≡ false) (sym same) refl

blank_other : (m : ℕ) → is_blank m ≡ true → is_inner m ≡ false
blank_other m is = by_space (m == 32) refl
  where
    by_space : (t : Bool) → (m == 32) ≡ t → is_inner m ≡ false
    by_space true space = let same : m ≡ 32 = grind (arith, space) in subst (λ (b : ℕ). is_inner b ≡ false) (sym same) refl
    by_space false no_space = let same : m ≡ 9 = grind (arith, is, no_space) in subst (λ (b : ℕ). is_inner b ≡ false) (sym same) refl

pub inner_no_comma : (text : List ℕ) → IsInner text → IsFree (is_mark 44) text
inner_no_comma text inner = inner_free (is_mark 44) comma_other text inner

pub inner_no_blank : (text : List ℕ) → IsInner text → IsFree is_blank text
inner_no_blank text inner = inner_free is_blank blank_other text inner

-- elements aren't empty
length_mark : (xs : List ℕ) (m : ℕ) (ys : List ℕ) → 1 ≤ length (xs ++ m ∷ ys)
length_mark [] m ys = grind arith
length_mark (x ∷ xs) m ys = grind arith

run_some : (field : Field) (text : List ℕ) (run : Run) → IsRun field text run → 1 ≤ length text
run_some field text run every = grind arith
run_some field text run (every_by {k} {n} is) = grind arith
run_some field text run (every_by_slash {k} {n} is) = grind arith
run_some field text run (single {a} {v} is) = value_some field a v is
run_some field text run (onward {a} {k} {v} {n} is by) = length_mark a 47 k
run_some field text run (between {a} {b} {v} {w} is last) = length_mark a 45 b
run_some field text run (between_by {a} {b} {k} {v} {w} {n} is last by) = length_mark (a ++ 45 ∷ b) 47 k

day_some : (text : List ℕ) (form : DayForm) → IsDayForm text form → 1 ≤ length text
day_some text form no_day = grind arith
day_some text form (last_day l letter) = grind arith
day_some text form (before_last_day {k} {n} l letter is) = grind arith
day_some text form (last_weekday l w letter other) = grind arith
day_some text form (nearest_weekday {a} {n} w is letter) = length_mark a w []

week_some : (text : List ℕ) (form : WeekForm) → IsWeekForm text form → 1 ≤ length text
week_some text form no_weekday = grind arith
week_some text form (saturday l letter) = grind arith
week_some text form (last_of_month {a} {v} l is letter) = length_mark a l []
week_some text form (nth_of_month {a} {k} {v} {n} is by) = length_mark a 35 k

pub form_some : (field : Field) (text : List ℕ) (form : Form) → IsForm field text form → 1 ≤ length text
form_some field text form (of_values {text = word} {run} is) = run_some field word run is
form_some field text form (of_day {text = word} {form = day} at is) = day_some word day is
form_some field text form (of_week {text = word} {form = week} at is) = week_some word week is
