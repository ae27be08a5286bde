-- The canonical text is in the grammar, with the fields that it was printed of.
use Rattle.std.proofs.Common.{◌≡◌, ◌≢◌, ◌∙◌, ap, sym, refl, subst, ℕ, ◌+◌, ◌-◌, ◌/◌, ◌%◌, ◌^◌, ◌<◌, ◌≤◌, Bool, true, false, min, suc, ◌*◌, arith, cond, List, [], ◌∷◌, ◌++◌, length, lit≤, inl, inr}
use Rattle.std.specs.Prelude.{Option, Some, None, ◌==◌, not, nat_lt, codes, Ok}
use Rattle.std.specs.Fmt.{decimal as printed}
use Rattle.std.specs.Int.{bit_at, IsInRange}
use Rattle.std.specs.List.{AllByRecursion}
use Rattle.std.proofs.Math.Pow.{pow_mono}
use Rattle.std.proofs.lemmas.Bool.{ltb-true}
use Rattle.std.proofs.lemmas.List.{append_assoc, append-nil}
use Rattle.qz_civil.specs.declared.fields.Field.TheVariants.{Seconds, Minutes, Hours, DayOfMonth, Month, DayOfWeek, Year}
use Rattle.qz_civil.specs.declared.fields.DayField.{DayField}
use Rattle.qz_civil.specs.declared.fields.DayField.TheVariants as day
use Rattle.qz_civil.specs.declared.fields.WeekField.{WeekField}
use Rattle.qz_civil.specs.declared.fields.WeekField.TheVariants as week
use Rattle.qz_civil.specs.declared.fields.CronFields.{CronFields}
use Rattle.qz_civil.specs.Fields.{least, greatest, size, is_value, has_bit, has_word, is_set, is_within_words, has_some, is_year_set, is_day_field, is_week_field, is_any_day, is_any_week, is_time_fields, is_date_fields, is_cron_fields}
use Rattle.qz_cron_text.specs.declared.forms.Form.TheVariants.{Day, Week}
use Rattle.qz_cron_text.specs.declared.forms.DayForm.TheVariants as days
use Rattle.qz_cron_text.specs.declared.forms.WeekForm.TheVariants as weeks
use Rattle.qz_cron_text.specs.Runs.{all_by}
use Rattle.qz_cron_text.specs.Printing.{one_word, members, has_all, values_text, set_text, day_text, week_text, years_text, times_text, dates_text, canonical_text}
use Rattle.qz_cron_text.specs.Grammar.{numeral, every, of_values, one_element, SomeHas, AreYears, no_day, last_day, before_last_day, last_weekday, nearest_weekday, no_weekday, last_of_month, nth_of_month, of_day, of_week, IsOf, IsElement, IsDay, IsWeek, AreYearsOf, AreJoined, last_field, next_field, years_list, IsText}
use Rattle.qz_cron_text.specs.Reading.{reading}
use Rattle.qz_cron_text.proofs.ElementLaws.{value_in_range}
use Rattle.qz_cron_text.proofs.GrammarLaws.{reading_read}
use Rattle.qz_cron_text.proofs.PrintSets.{printed_numeral, member_runs, members_elements, member_has, has_member}
use Rattle.qz_cron_text.proofs.PrintStars.{set_is, low_bit, bit_has, bit_is_one, no_bits, no_member, all_in_range, all_has, has_low, all_numbers, false_true, both_true}

-- days are printed as numerals
month_day_small : (d : ℕ) → IsOf DayOfMonth d → d < 10000
unfolding greatest least size
month_day_small d (low, high) = omega arith

week_day_small : (d : ℕ) → IsOf DayOfWeek d → d < 10000
unfolding greatest least size
week_day_small d (low, high) = omega arith

pub days_few : size DayOfMonth ≤ 64
unfolding size
days_few = lit≤ tt

pub week_few : size DayOfWeek ≤ 64
unfolding size
week_few = lit≤ tt

pub months_few : size Month ≤ 64
unfolding size
months_few = lit≤ tt

pub hours_few : size Hours ≤ 64
unfolding size
hours_few = lit≤ tt

pub minutes_few : size Minutes ≤ 64
unfolding size
minutes_few = lit≤ tt

pub seconds_few : size Seconds ≤ 64
unfolding size
seconds_few = lit≤ tt

last_text : (back : ℕ) → back ≤ 30 → (b : Bool) → (back == 0) ≡ b → IsElement DayOfMonth (cond b (codes "L") (codes "L-" ++ printed back)) (Day (days.Last back))
last_text back less true none =
    let same : 0 ≡ back = grind (arith, none) in
    subst (λ (n : ℕ). IsElement DayOfMonth (76 ∷ []) (Day (days.Last n))) same (record { is_form = of_day refl (last_day 76 refl); in_range = lit≤ tt })
last_text back less false some =
    record { is_form = of_day refl (before_last_day 76 refl (printed_numeral back (omega arith))); in_range = less }

day_is : (d : DayField) → is_day_field d ≡ true → IsDay (day_text d) d
unfolding day_text is_day_field
day_is day.Any valid = record { is_form = of_day refl no_day; in_range = tt }
day_is (day.Set word) valid = set_is DayOfMonth word days_few valid
day_is (day.Last back) valid = last_text back (grind (arith, valid)) (back == 0) refl
day_is day.LastWeekday valid = record { is_form = of_day refl (last_weekday 76 87 refl refl); in_range = tt }
day_is (day.Nearest d) valid =
    let right : IsOf DayOfMonth d = value_in_range DayOfMonth d valid in
    record { is_form = of_day refl (nearest_weekday 87 (printed_numeral d (month_day_small d right)) refl); in_range = right }

nth_text : (d n : ℕ) → IsOf DayOfWeek d → IsInRange 1 5 n → IsElement DayOfWeek ((printed d ++ codes "#") ++ printed n) (Week (weeks.Nth d n))
nth_text d n right in_month =
    let regroup : (printed d ++ codes "#") ++ printed n ≡ printed d ++ 35 ∷ printed n = append_assoc (printed d) (35 ∷ []) (printed n) in
    subst (λ (t : List ℕ). IsElement DayOfWeek t (Week (weeks.Nth d n))) (sym regroup)
    (record { is_form = of_week refl (nth_of_month (numeral (printed_numeral d (week_day_small d right))) (printed_numeral n (omega (arith, in_month.1)))); in_range = (right, in_month) })

week_is : (w : WeekField) → is_week_field w ≡ true → IsWeek (week_text w) w
unfolding week_text is_week_field
week_is week.Any valid = record { is_form = of_week refl no_weekday; in_range = tt }
week_is (week.Set word) valid = inl (set_is DayOfWeek word week_few valid)
week_is (week.Last d) valid =
    let right : IsOf DayOfWeek d = value_in_range DayOfWeek d valid in
    record { is_form = of_week refl (last_of_month 76 (numeral (printed_numeral d (week_day_small d right))) refl); in_range = right }
week_is (week.Nth d n) valid =
    let right : is_value DayOfWeek d ≡ true = grind (arith, valid) in
    let low : 1 ≤ n = grind (arith, valid) in
    let high : n ≤ 5 = grind (arith, valid) in
    nth_text d n (value_in_range DayOfWeek d right) (low, high)

-- Years: valid words have no bit beyond the last year, and some bit.

first_of : (w : ℕ) (ws : List ℕ) (i : ℕ) → i < 64 → has_word (w ∷ ws) i ≡ has_bit w i
unfolding has_word
first_of w ws i low =
    let e : i / 64 ≡ 0 = omega arith in
    let f : i % 64 ≡ i = omega arith in
    rw (e, f) refl

later_of : (w : ℕ) (ws : List ℕ) (i : ℕ) → has_word (w ∷ ws) (64 + i) ≡ has_word ws i
unfolding has_word
later_of w ws i =
    let e : (64 + i) / 64 ≡ suc (i / 64) = omega arith in
    let f : (64 + i) % 64 ≡ i % 64 = omega arith in
    rw (e, f) refl

within_words : (n : ℕ) (ws : List ℕ) (i : ℕ) → is_within_words n ws ≡ true → i < 64 * length ws → has_word ws i ≡ true → i < n
within_words n [] i valid less has = absurd (omega arith)
within_words n (w ∷ ws) i valid less has = by_place (nat_lt i 64) refl (within_words (n - 64) ws (i - 64) both.1)
  where
    both : (nat_lt w (2 ^ min n 64) ≡ true) × (is_within_words (n - 64) ws ≡ true)
    both = both_true (nat_lt w (2 ^ min n 64)) (is_within_words (n - 64) ws) valid

    by_place : (b : Bool) → nat_lt i 64 ≡ b → (i - 64 < 64 * length ws → has_word ws (i - 64) ≡ true → i - 64 < n - 64) → i < n
    by_place true low rest =
        let one : bit_at w i ≡ 1 = bit_is_one w i (sym (first_of w ws i (grind (arith, low))) ∙ has) in
        let below : i < min n 64 = low_bit w (min n 64) i (ltb-true w (2 ^ min n 64) both.0) one in
        omega arith
    by_place false high rest =
        let ge : 64 ≤ i = grind (arith, high) in
        let e : 64 + (i - 64) ≡ i = omega arith in
        let later : has_word ws (i - 64) ≡ true = sym (later_of w ws (i - 64)) ∙ (ap (λ (j : ℕ). has_word (w ∷ ws) j) e ∙ has) in
        let below : i - 64 < n - 64 = rest (omega arith) later in
        omega arith

pow_most : (k : ℕ) → k ≤ 64 → 2 ^ k ≤ 2 ^ 64
pow_most k le = pow_mono le

words_small : (n : ℕ) (ws : List ℕ) → is_within_words n ws ≡ true → AllByRecursion (λ w. w < 2 ^ 64) ws
words_small n [] valid = tt
words_small n (w ∷ ws) valid =
    let both : (nat_lt w (2 ^ min n 64) ≡ true) × (is_within_words (n - 64) ws ≡ true) = both_true (nat_lt w (2 ^ min n 64)) (is_within_words (n - 64) ws) valid in
    let small : w < 2 ^ min n 64 = ltb-true w (2 ^ min n 64) both.0 in
    (omega (arith, small, pow_most (min n 64) (omega arith)), words_small (n - 64) ws both.1)

none_some : (ws : List ℕ) → AllByRecursion (λ w. w < 2 ^ 64) ws → ((i : ℕ) → i < 64 * length ws → has_word ws i ≡ true → ⊥) → has_some ws ≡ false
none_some [] small none = refl
none_some (w ∷ ws) small none =
    let no_bit : w ≡ 0 = no_bits w (λ i one. let low : i < 64 = low_bit w 64 i small.0 one in none i (omega arith) (first_of w ws i low ∙ bit_has w i one)) in
    rw no_bit (none_some ws small.1 (λ i less has. none (64 + i) (omega arith) (later_of w ws i ∙ has)))

-- what a valid set of years has
record ValidYears (years : List ℕ) : Type 0 where
  four : length years ≡ 4
  words : AllByRecursion (λ w. w < 2 ^ 64) years
  known : (i : ℕ) → i < 256 → has_word years i ≡ true → i < size Year
  some : members years (size Year) ≢ []

valid_years : (years : List ℕ) → length years ≡ 4 → is_year_set years ≡ true → ValidYears years
unfolding is_year_set
valid_years years four valid = record { four = four; words = small; known = known; some = some }
  where
    both : (has_some years ≡ true) × (is_within_words (size Year) years ≡ true)
    both = both_true (has_some years) (is_within_words (size Year) years) valid

    small : AllByRecursion (λ w. w < 2 ^ 64) years
    small = words_small (size Year) years both.1

    known : (i : ℕ) → i < 256 → has_word years i ≡ true → i < size Year
    known i less has = within_words (size Year) years i both.1 (omega (arith, four)) has

    some : members years (size Year) ≢ []
    some none = false_true (sym (none_some years small (λ i less has. false_true (sym (no_member years (size Year) i none (known i (omega (arith, four)) has)) ∙ has))) ∙ both.0)

year_least : least Year ≡ 1970
unfolding least
year_least = refl

-- the years that are printed one by one
listed_years : (years : List ℕ) → ValidYears years → AreYears (values_text Year years (size Year)) years
listed_years years valid = record {
  runs = member_runs Year years;
  elements = members_elements Year years valid.some;
  four = valid.four;
  words = valid.words;
  bits = λ i less. (there i less, back i less);
}
  where
    there : (i : ℕ) → i < 256 → has_word years i ≡ true → SomeHas Year (member_runs Year years) (1970 + i)
    there i less has = rw (← year_least) (member_has Year years (size Year) i (omega arith) (valid.known i less has) has)

    back : (i : ℕ) → i < 256 → SomeHas Year (member_runs Year years) (1970 + i) → has_word years i ≡ true
    back i less some =
        let found : (j : ℕ) × (j < size Year) × (least Year + i ≡ least Year + j) × (has_word years j ≡ true) =
        has_member Year years (size Year) (least Year + i) (omega arith) (rw year_least some) in
        let e : found.0 ≡ i = omega (arith, found.2) in
        subst (λ (j : ℕ). has_word years j ≡ true) e found.3

-- all years, for which the field is left out
all_years : (years : List ℕ) → ValidYears years → has_all years (size Year) ≡ true → AreYears (42 ∷ []) years
all_years years valid all = record {
  runs = all_by Year 1 ∷ [];
  elements = one_element (record { is_form = of_values every; in_range = all_in_range Year });
  four = valid.four;
  words = valid.words;
  bits = λ i less. (there i less, back i less);
}
  where
    there : (i : ℕ) → i < 256 → has_word years i ≡ true → SomeHas Year (all_by Year 1 ∷ []) (1970 + i)
    there i less has = rw (← year_least) (inl (all_has Year i (valid.known i less has)))

    back : (i : ℕ) → i < 256 → SomeHas Year (all_by Year 1 ∷ []) (1970 + i) → has_word years i ≡ true
    back i less (inl has) =
        let below : 1970 + i < least Year + size Year = has_low Year (all_by Year 1) (1970 + i) has in
        all_numbers years (size Year) i all (omega (arith, below, year_least))
    back i less (inr none) = absurd none

-- the years' text, and the fields that it adds
record PrintedYears (years : List ℕ) : Type 0 where
  text : Option (List ℕ)
  are : AreYearsOf text years
  is : (w : List ℕ) → AreJoined (w ∷ years_list text) (w ++ years_text years)

no_years : (years : List ℕ) → has_all years (size Year) ≡ true → years_text years ≡ []
unfolding years_text
no_years years all = rw all refl

some_years : (years : List ℕ) → has_all years (size Year) ≡ false → years_text years ≡ 32 ∷ values_text Year years (size Year)
unfolding years_text
some_years years other = rw other refl

printed_years : (years : List ℕ) → ValidYears years → PrintedYears years
printed_years years valid = by_all (has_all years (size Year)) refl
  where
    by_all : (t : Bool) → has_all years (size Year) ≡ t → PrintedYears years
    by_all true all = record {
      text = None;
      are = all_years years valid all;
      is = λ w. subst (λ (t : List ℕ). AreJoined (w ∷ []) (w ++ t)) (sym (no_years years all)) (last_field w [] tt);
    }
    by_all false other = record {
      text = Some (values_text Year years (size Year));
      are = listed_years years valid;
      is = λ w. subst (λ (t : List ℕ). AreJoined (w ∷ values_text Year years (size Year) ∷ []) (w ++ t)) (sym (some_years years other))
          (next_field w [] 32 (inl refl, tt) (last_alone (values_text Year years (size Year))));
    }
      where
        last_alone : (y : List ℕ) → AreJoined (y ∷ []) y
        last_alone y = subst (λ (t : List ℕ). AreJoined (y ∷ []) t) (append-nil y) (last_field y [] tt)

-- a field with one space after it
spaced_field : (field : List ℕ) (fields : List (List ℕ)) (text : List ℕ) → AreJoined fields text → AreJoined (field ∷ fields) (field ++ 32 ∷ text)
spaced_field field fields text more = next_field field [] 32 (inl refl, tt) more

regroup : (s m h d i w y : List ℕ)
    → (((((s ++ codes " ") ++ m) ++ codes " ") ++ h) ++ codes " ") ++ ((((d ++ codes " ") ++ i) ++ codes " ") ++ w) ++ y
    ≡ s ++ 32 ∷ (m ++ 32 ∷ (h ++ 32 ∷ (d ++ 32 ∷ (i ++ 32 ∷ (w ++ y)))))
regroup s m h d i w y = simp append_assoc

canonical_is : (f : CronFields)
    → canonical_text f ≡ set_text Seconds (one_word f.seconds) ++ 32 ∷ (set_text Minutes (one_word f.minutes) ++ 32 ∷ (set_text Hours (one_word f.hours) ++ 32 ∷ (day_text f.day ++ 32 ∷ (set_text Month (one_word f.months) ++ 32 ∷ (week_text f.week ++ years_text f.years)))))
unfolding canonical_text times_text dates_text
canonical_is f =
    regroup (set_text Seconds (one_word f.seconds)) (set_text Minutes (one_word f.minutes)) (set_text Hours (one_word f.hours)) (day_text f.day) (set_text Month (one_word f.months)) (week_text f.week) (years_text f.years)

-- what valid fields have
record AreValid (f : CronFields) : Type 0 where
  seconds : is_set Seconds f.seconds ≡ true
  minutes : is_set Minutes f.minutes ≡ true
  hours : is_set Hours f.hours ≡ true
  day : is_day_field f.day ≡ true
  months : is_set Month f.months ≡ true
  week : is_week_field f.week ≡ true
  years : is_year_set f.years ≡ true
  one_named : is_any_day f.day ≡ not (is_any_week f.week)

one_day : (a b : Bool) → cond a (not b) b ≡ true → a ≡ not b
one_day true true e = false_true e
one_day true false e = refl
one_day false true e = refl
one_day false false e = false_true e

are_valid : (f : CronFields) → is_cron_fields f ≡ true → AreValid f
unfolding is_time_fields is_date_fields
are_valid f valid = record {
  seconds = grind (arith, valid);
  minutes = grind (arith, valid);
  hours = grind (arith, valid);
  day = grind (arith, valid);
  months = grind (arith, valid);
  week = grind (arith, valid);
  years = grind (arith, valid);
  one_named = one_day (is_any_day f.day) (is_any_week f.week) (grind (arith, valid));
}

-- the canonical text of valid fields says them
pub canonical_is_text : (f : CronFields) → length f.years ≡ 4 → is_cron_fields f ≡ true → IsText (canonical_text f) f
canonical_is_text f four valid = made (are_valid f valid) (printed_years f.years (valid_years f.years four (are_valid f valid).years))
  where
    made : AreValid f → PrintedYears f.years → IsText (canonical_text f) f
    made are years = record {
      seconds = set_text Seconds (one_word f.seconds);
      minutes = set_text Minutes (one_word f.minutes);
      hours = set_text Hours (one_word f.hours);
      day = day_text f.day;
      months = set_text Month (one_word f.months);
      week = week_text f.week;
      years = years.text;
      blanks = [];
      rest = canonical_text f;
      is_blank = tt;
      is = refl;
      joined = subst (λ (t : List ℕ). AreJoined (set_text Seconds (one_word f.seconds) ∷ set_text Minutes (one_word f.minutes) ∷ set_text Hours (one_word f.hours) ∷ day_text f.day ∷ set_text Month (one_word f.months) ∷ week_text f.week ∷ years_list years.text) t) (sym (canonical_is f))
          (spaced_field _ _ _ (spaced_field _ _ _ (spaced_field _ _ _ (spaced_field _ _ _ (spaced_field _ _ _ (years.is (week_text f.week)))))));
      is_seconds = set_is Seconds f.seconds seconds_few are.seconds;
      is_minutes = set_is Minutes f.minutes minutes_few are.minutes;
      is_hours = set_is Hours f.hours hours_few are.hours;
      is_day = day_is f.day are.day;
      is_months = set_is Month f.months months_few are.months;
      is_week = week_is f.week are.week;
      is_years = years.are;
      one_named = are.one_named;
    }

pub printed_again : (text : List ℕ) (f : CronFields) → text ≡ canonical_text f → length f.years ≡ 4 → is_cron_fields f ≡ true → reading text ≡ Ok f
printed_again text f same four valid = rw same (reading_read (canonical_text f) f (canonical_is_text f four valid))
