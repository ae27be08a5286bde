-- Which months have so many days.
use Rattle.std.proofs.Common.{◌≡◌, ℕ, zero, suc, ◌+◌, ◌-◌, ◌/◌, ◌%◌, ◌<◌, ◌≤◌, inl, inr, Bool, true, false, not, ◌&&◌, ◌||◌, ◌==◌, bit_and, min, nat_le, List, [], ◌∷◌, slice_index, refl, sym, ◌∙◌, arith}
use Rattle.std.specs.Int.{IsInRange, bit_at}
use Rattle.std.proofs.lemmas.Bool.{agree_below_at, and_from, and_parts, both_ways, cases_Bool, cases_lt}
use Rattle.std.proofs.lemmas.Nat.Bits.{bit_at-lt, bit_at_and}
use Rattle.qz_civil.specs.declared.fields.CronFields.{CronFields}
use Rattle.qz_civil.specs.declared.fields.DayField.TheVariants as days
use Rattle.qz_civil.specs.declared.limits.TheConstants.{LAST_YEAR}
use Rattle.qz_civil.specs.Dates.{days_in_month}
use Rattle.qz_civil.specs.Fields.{has_bit, has_word, in_days, in_years, is_value, least, greatest, size}
use Rattle.qz_civil.specs.Least.{NoneIn, IsLeastIn}
use Rattle.qz_civil.proofs.DateLemmas.{days_in_month-bound}
use Rattle.qz_cron.specs.declared.lengths.TheConstants.{ALL_MONTHS, FEBRUARY, LEAP_YEARS, MONTHS_OF_31}
use Rattle.qz_cron.specs.Search.{IsBare, meets_month, month_days}

-- sets in common

both_one : (x y : ℕ) → x < 2 → y < 2 → (min x y == 1) ≡ ((x == 1) && (y == 1))
both_one x y a b = grind arith

has-and : (a b i : ℕ) → has_bit (bit_and a b) i ≡ (has_bit a i && has_bit b i)
unfolding has_bit
has-and a b i = rw (bit_at_and a b i) (both_one (bit_at a i) (bit_at b i) (bit_at-lt a i) (bit_at-lt b i))

-- the least length

pub least_of_set : (set bit length d w : ℕ) → IsLeastIn (has_bit set) 0 32 bit → IsInRange 1 length d → in_days (days.Set set) length d w ≡ true → bit + 1 ≤ length
unfolding in_days
least_of_set set bit length d w first h met =
    elim (cases_lt (d - 1) bit) [
      | inl lt ↦ absurd (both_ways _ (first.none (d - 1) (omega arith) lt) met)
      | inr ge ↦ omega (arith, h.0, h.1)
    ]

pub least_of_none : (set length d w : ℕ) → NoneIn (has_bit set) 0 32 → IsInRange 1 length d → in_days (days.Set set) length d w ≡ true → 32 ≤ length
unfolding in_days
least_of_none set length d w none h met =
    elim (cases_lt (d - 1) 32) [
      | inl lt ↦ absurd (both_ways _ (none (d - 1) (omega arith) lt) met)
      | inr ge ↦ omega (arith, h.0, h.1)
    ]

pub least_of_last : (back length d w : ℕ) → IsInRange 1 length d → in_days (days.Last back) length d w ≡ true → back + 1 ≤ length
unfolding in_days
least_of_last back length d w h met = let low = h.0 in grind arith

pub least_of_nearest : (a length d w : ℕ) → in_days (days.Nearest a) length d w ≡ true → a ≤ length
unfolding in_days
least_of_nearest a length d w met = grind arith

-- the months

pub all_months : (m : ℕ) → m < 12 → has_bit ALL_MONTHS m ≡ true
unfolding has_bit
all_months m lt = agree_below_at (has_bit ALL_MONTHS) (λ m. true) 12 m refl lt

short : (y m : ℕ) → m ≡ 2 → days_in_month y m ≤ 29
unfolding days_in_month
short y m e = grind arith

not_one : (m : ℕ) → (m ≡ 1 → ⊥) → not (m == 1) ≡ true
not_one m h = grind arith

pub not_february : (y m : ℕ) → m < 12 → 30 ≤ days_in_month y (m + 1) → has_bit (ALL_MONTHS - FEBRUARY) m ≡ true
unfolding has_bit
not_february y m lt long =
    agree_below_at (has_bit (ALL_MONTHS - FEBRUARY)) (λ m. not (m == 1)) 12 m refl lt ∙ not_one m (λ e. omega (arith, short y (m + 1) (omega arith)))

-- the months of 28 to 30 days
abbrev is_short : ℕ → Bool
is_short m = (m == 2) || ((m == 4) || (m == 6) || (m == 9) || (m == 11))

long_is_not_short : (y m : ℕ) → 31 ≤ days_in_month y m → not (is_short m) ≡ true
unfolding days_in_month
long_is_not_short y m long = grind arith

pub long_months : (y m : ℕ) → m < 12 → 31 ≤ days_in_month y (m + 1) → has_bit MONTHS_OF_31 m ≡ true
unfolding has_bit
long_months y m lt long = agree_below_at (has_bit MONTHS_OF_31) (λ m. not (is_short (m + 1))) 12 m refl lt ∙ long_is_not_short y (m + 1) long

pub too_long : (y m : ℕ) → 32 ≤ days_in_month y m → ⊥
too_long y m long = let bound = days_in_month-bound y m in omega (arith, bound.1)

-- the years

february : (m : ℕ) → m < 12 → has_bit FEBRUARY m ≡ true → m ≡ 1
unfolding has_bit
february m lt h = let one : (m == 1) ≡ true = sym (agree_below_at (has_bit FEBRUARY) (λ m. m == 1) 12 m refl lt) ∙ h in grind arith

fourth : (y : ℕ) → 29 ≤ days_in_month y 2 → y % 4 ≡ 0
unfolding days_in_month
fourth y long = grind arith

leap_bits : (j : ℕ) → j < 64 → j % 4 ≡ 2 → has_bit LEAP_YEARS j ≡ true
unfolding has_bit
leap_bits j lt e = agree_below_at (has_bit LEAP_YEARS) (λ j. j % 4 == 2) 64 j refl lt ∙ (rw e refl)

-- a year in which February has 29 days is among the leap years
pub leap_year : (y m : ℕ) → IsInRange 1970 LAST_YEAR y → m < 12 → has_bit FEBRUARY m ≡ true → 29 ≤ days_in_month y (m + 1) → has_bit LEAP_YEARS ((y - 1970) % 64) ≡ true
leap_year y m h lt is long =
    let second : m + 1 ≡ 2 = omega (arith, february m lt is) in
    let four : y % 4 ≡ 0 = fourth y (rw second at long) in
    leap_bits ((y - 1970) % 64) (omega arith) (omega (arith, h.0))

at_word : (words list : ℕ → ℕ) (word i leap : ℕ) → i / 64 ≡ word → list word ≡ bit_and (words word) leap → has_bit (list (i / 64)) (i % 64) ≡ (has_bit (words (i / 64)) (i % 64) && has_bit leap (i % 64))
at_word words list word i leap e is = rw (e, is) (has-and (words word) leap (i % 64))

abbrev leap_list : List ℕ → ℕ → List ℕ
leap_list words leap = bit_and (slice_index words 0) leap ∷ bit_and (slice_index words 1) leap ∷ bit_and (slice_index words 2) leap ∷ bit_and (slice_index words 3) leap ∷ []

leap_word : (words : List ℕ) (leap word : ℕ) → word < 4 → slice_index (leap_list words leap) word ≡ bit_and (slice_index words word) leap
leap_word words leap zero lt = refl
leap_word words leap (suc zero) lt = refl
leap_word words leap (suc (suc zero)) lt = refl
leap_word words leap (suc (suc (suc zero))) lt = refl
leap_word words leap (suc (suc (suc (suc n)))) lt = absurd (omega arith)

pub leap_words : (words : List ℕ) (leap i : ℕ) → i < 256 → has_word (leap_list words leap) i ≡ (has_word words i && has_bit leap (i % 64))
unfolding has_word
leap_words words leap i lt = at_word (slice_index words) (slice_index (leap_list words leap)) (i / 64) i leap refl (leap_word words leap (i / 64) (omega arith))

-- narrowed fields

in_years-parts : (f : CronFields) (y : ℕ) → in_years f y ≡ true → IsInRange 1970 LAST_YEAR y × (has_word f.years (y - 1970) ≡ true)
unfolding in_years is_value least greatest size
in_years-parts f y h =
    let parts = and_parts (nat_le 1970 y && nat_le y LAST_YEAR) (has_word f.years (y - 1970)) h in
    ((grind arith), parts.1)

in_years-from : (f : CronFields) (y : ℕ) → IsInRange 1970 LAST_YEAR y → has_word f.years (y - 1970) ≡ true → in_years f y ≡ true
unfolding in_years is_value least greatest size
in_years-from f y range h = let low = range.0 in let high = range.1 in and_from _ _ (grind arith) h

pub month-kept : (f g : CronFields) (set : ℕ) → g.months ≡ bit_and f.months set → ((i : ℕ) → i < 256 → has_word g.years i ≡ true → has_word f.years i ≡ true) → (number : ℕ) → meets_month g number ≡ true → meets_month f number ≡ true
month-kept f g set months years number h =
    let parts = and_parts _ _ h in
    let year = in_years-parts g (number / 12) parts.0 in
    let month : (has_bit f.months (number % 12) && has_bit set (number % 12)) ≡ true = sym (has-and f.months set (number % 12)) ∙ (rw months at parts.1) in
    and_from _ _ (in_years-from f (number / 12) year.0 (years (number / 12 - 1970) (omega (arith, year.0.1)) year.1)) (and_parts _ _ month).0

-- what the length of a month leaves of the months and of the years
pub record Leaves (f g : CronFields) (set length : ℕ) : Type 0 where
  pub months : g.months ≡ bit_and f.months set
  pub set_has : (y m : ℕ) → m < 12 → length ≤ days_in_month y (m + 1) → has_bit set m ≡ true
  pub years_have : (y m : ℕ) → IsInRange 1970 LAST_YEAR y → m < 12 → has_bit g.months m ≡ true → length ≤ days_in_month y (m + 1) → has_word f.years (y - 1970) ≡ true → has_word g.years (y - 1970) ≡ true
  pub least : (days d w : ℕ) → IsInRange 1 days d → in_days f.day days d w ≡ true → length ≤ days

month_left : (f g : CronFields) (set length number : ℕ) → Leaves f g set length → meets_month f number ≡ true → length ≤ month_days number → meets_month g number ≡ true
month_left f g set length number leaves h long =
    let parts = and_parts _ _ h in
    let year = in_years-parts f (number / 12) parts.0 in
    let month : has_bit g.months (number % 12) ≡ true = rw leaves.months (has-and f.months set (number % 12) ∙ and_from _ _ parts.1 (leaves.set_has (number / 12) (number % 12) (omega arith) long)) in
    and_from _ _ (in_years-from g (number / 12) year.0 (leaves.years_have (number / 12) (number % 12) year.0 (omega arith) month long year.1)) month

pub month-bare : (f g : CronFields) (set length number : ℕ) → Leaves f g set length → meets_month g number ≡ false → IsBare f number
month-bare f g set length number leaves none d w h =
    elim (cases_Bool (meets_month f number && in_days f.day (month_days number) d w)) [
      | inl both ↦
          let parts = and_parts _ _ both in
          absurd (both_ways _ none (month_left f g set length number leaves parts.0 (leaves.least (month_days number) d w h parts.1)))
      | inr neither ↦ neither
    ]
