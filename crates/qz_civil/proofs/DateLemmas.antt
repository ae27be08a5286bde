-- The calendar by counting days has the dates of jiff_core's day numbers.
use Rattle.std.proofs.Common.{◌≡◌, ◌≢◌, ℕ, zero, suc, ◌+◌, ◌*◌, ◌/◌, ◌%◌, ◌<◌, ◌≤◌, min, inl, inr, nat_lt, if◌then◌else◌, refl, sym, ap, subst, ◌∙◌, arith, rules, ℤ, pos, negsuc, neg_ℤ, unsigned_abs, ◌+ℤ◌, ◌<ℤ◌, ◌≤ℤ◌}
use Rattle.std.specs.Int.{IsInRange}
use Rattle.std.proofs.lemmas.Bool.{cases_order}
use Rattle.jiff_core.specs.declared.civil.date.Date.{Date as LibraryDate}
use Rattle.jiff_core.specs.Calendar.{days_in_month as library_days_in_month, days_from_civil, IsBetween}
use Rattle.jiff_core.specs.Date.{epoch_day}
use Rattle.jiff_core.proofs.SignedLemmas.{signed_arith}
use Rattle.jiff_core.proofs.CalendarLemmas.{days_from_civil-day_count, day_count-lt_year, days_in_month_bounds, day_count-epoch}
use Rattle.jiff_core.proofs.DateLemmas.{epoch_day_injective, days_from_civil-day, days_from_civil-next_month, days_from_civil-next_year, days_from_civil-max}
use Rattle.qz_civil.specs.declared.dates.Civil.{Civil}
use Rattle.qz_civil.specs.declared.dates.Date.{Date}
use Rattle.qz_civil.specs.declared.limits.TheConstants.{DAY_MS, LAST_DAY}
use Rattle.qz_civil.specs.Dates.{days_in_month, month_length, next_month, next_date, date_of, IsDate, civil_of, date_part, weekday_of, IsInRanges}

-- The months of this calendar are the library's.

days_in_month-library : (y m : ℕ) → days_in_month y m ≡ library_days_in_month (pos y) m
unfolding days_in_month
days_in_month-library y m = refl

pub days_in_month-bound : (y m : ℕ) → IsInRange 28 31 (days_in_month y m)
days_in_month-bound y m = let b = days_in_month_bounds (pos y) m in rw (days_in_month-library y m) (b.1, b.0)

december : (y : ℕ) → days_in_month y 12 ≡ 31
unfolding days_in_month
december y = refl

-- The date after a date.

if_lt : {A : Type 0} (a b : ℕ) (x y : A) → a < b → (if nat_lt a b then x else y) ≡ x
if_lt a b x y h = grind arith

if_ge : {A : Type 0} (a b : ℕ) (x y : A) → b ≤ a → (if nat_lt a b then x else y) ≡ y
if_ge a b x y h = grind arith

pub next_date-day : (d : Date) → d.day < month_length d → next_date d ≡ record d { day = d.day + 1 }
unfolding next_date
next_date-day d h = if_lt d.day (month_length d) _ _ h

pub next_date-last : (d : Date) → month_length d ≤ d.day → next_date d ≡ next_month d
unfolding next_date
next_date-last d h = if_ge d.day (month_length d) _ _ h

pub next_month-month : (d : Date) → d.month < 12 → next_month d ≡ record { year = d.year; month = d.month + 1; day = 1 }
unfolding next_month
next_month-month d h = if_lt d.month 12 _ _ h

pub next_month-year : (d : Date) → 12 ≤ d.month → next_month d ≡ record { year = d.year + 1; month = 1; day = 1 }
unfolding next_month
next_month-year d h = if_ge d.month 12 _ _ h

-- a date is followed by the next of its month, by the first of the next month, or by the first of the next year
pub data Follows (d e : Date) : Type 0 where
  in_month : d.day < month_length d → e ≡ record d { day = d.day + 1 } → Follows d e
  in_year : d.day ≡ month_length d → d.month < 12 → e ≡ record { year = d.year; month = d.month + 1; day = 1 } → Follows d e
  in_next : d.day ≡ month_length d → d.month ≡ 12 → e ≡ record { year = d.year + 1; month = 1; day = 1 } → Follows d e

pub follows : (d : Date) → IsDate d → Follows d (next_date d)
follows d h =
    elim (cases_order d.day (month_length d)) [
      | inr (inl lt) ↦ in_month lt (next_date-day d lt)
      | inl same ↦ elim (cases_order d.month 12) [
        | inr (inl lt) ↦ in_year same lt (next_date-last d (omega arith) ∙ next_month-month d lt)
        | inl last ↦ in_next same last (next_date-last d (omega arith) ∙ next_month-year d (omega arith))
        | inr (inr gt) ↦ absurd (omega (arith, h.0))
      ]
      | inr (inr gt) ↦ absurd (omega (arith, h.1))
    ]

first_day : (y m : ℕ) → IsInRange 1 12 m → IsDate (record { year = y; month = m; day = 1 })
first_day y m h = let long = days_in_month-bound y m in (h, (omega arith, omega (arith, long.0)))

valid_by : (d e : Date) → IsDate d → Follows d e → IsDate e
valid_by d e h (in_month lt is) = subst IsDate (sym is) (h.0, (omega arith, omega arith))
valid_by d e h (in_year same lt is) = subst IsDate (sym is) (first_day d.year (d.month + 1) (omega arith, omega arith))
valid_by d e h (in_next same last is) = subst IsDate (sym is) (first_day (d.year + 1) 1 (omega arith, omega arith))

pub date_of-valid : (n : ℕ) → IsDate (date_of n)
unfolding date_of
date_of-valid zero = (search rules, (omega arith, (let long = days_in_month-bound 1969 12 in rw (december 1969) (omega arith))))
date_of-valid (suc n) = valid_by (date_of n) (next_date (date_of n)) (date_of-valid n) (follows (date_of n) (date_of-valid n))

-- The library's number of a date is the day that has it.

abbrev pub number : Date → ℤ
number d = days_from_civil (pos d.year) d.month d.day

number-epoch : number (record { year = 1969; month = 12; day = 31 }) +ℤ pos 1 ≡ pos 0
number-epoch = omega (arith, signed_arith, days_from_civil-day_count (pos 1970) 1 1, day_count-epoch, days_from_civil-next_year (pos 1969) (pos 1970) (search rules) refl)

number_by : (d e : Date) → IsDate d → Follows d e → number e ≡ number d +ℤ pos 1
number_by d e h (in_month lt is) = rw is (omega (arith, signed_arith, days_from_civil-day (pos d.year) d.month d.day (d.day + 1) h.1.0 (omega arith)))
number_by d e h (in_year same lt is) = rw is (days_from_civil-next_month (pos d.year) d.month d.day h.0.0 (same ∙ days_in_month-library d.year d.month))
number_by d e h (in_next same last is) =
    let end : d.day ≡ 31 = rw (last, december d.year) at same in
    rw (is, last, end) (days_from_civil-next_year (pos d.year) (pos (d.year + 1)) (search rules) (omega (arith, signed_arith)))

pub number-date_of : (n : ℕ) → number (date_of n) +ℤ pos 1 ≡ pos n
unfolding date_of
number-date_of zero = number-epoch
number-date_of (suc n) =
    let e = number_by (date_of n) (next_date (date_of n)) (date_of-valid n) (follows (date_of n) (date_of-valid n)) in
    omega (arith, signed_arith, number-date_of n)

-- the years up to the last day are years of the library
pub year-bound : (n : ℕ) → n ≤ LAST_DAY → (date_of n).year ≤ 9999
year-bound n h =
    let valid = date_of-valid n in
    elim (cases_order (date_of n).year 9999) [
      | inl same ↦ omega arith
      | inr (inl lt) ↦ omega arith
      | inr (inr gt) ↦ absurd (omega (arith, signed_arith, number-date_of n, days_from_civil-max, days_from_civil-day_count, day_count-lt_year (pos 9999) 12 31 (pos (date_of n).year) (date_of n).month (date_of n).day (search rules) valid.1.0 (omega (arith, signed_arith))))
    ]

date_at : (d : Date) → IsDate d → d.year ≤ 9999 → LibraryDate
date_at d h year = record {
  year = pos d.year;
  month = d.month;
  day = d.day;
  year_in = omega (arith, signed_arith);
  month_in = h.0;
  day_in = rw (← days_in_month-library d.year d.month) h.1;
}

abbrev date : ℕ → ℕ → ℕ → Date
date y m d = record { year = y; month = m; day = d }

pub same_parts : (d e : Date) → d.year ≡ e.year → d.month ≡ e.month → d.day ≡ e.day → d ≡ e
same_parts d e year month day =
    let made : date d.year d.month d.day ≡ date e.year e.month e.day = rw (year, month, day) refl in made

-- two dates with one number are the same
pub number-injective : (d e : Date) → IsDate d → IsDate e → d.year ≤ 9999 → e.year ≤ 9999 → number d ≡ number e → d ≡ e
unfolding date_at
number-injective d e hd he yd ye same =
    let parts = epoch_day_injective (date_at d hd yd) (date_at e he ye) same in
    same_parts d e (omega (arith, signed_arith, parts.0)) parts.1 parts.2

-- the day with the number of a date has that date
pub date_of-number : (n : ℕ) (d : Date) → n ≤ LAST_DAY → IsDate d → d.year ≤ 9999 → number d +ℤ pos 1 ≡ pos n → date_of n ≡ d
date_of-number n d h valid year e =
    number-injective (date_of n) d (date_of-valid n) valid (year-bound n h) year (omega (arith, signed_arith, number-date_of n))

-- no day has an earlier date
pub date_of-earlier : (n : ℕ) (d : Date) → number d <ℤ neg_ℤ (pos 1) → date_of n ≢ d
date_of-earlier n d h e =
    let same : number (date_of n) ≡ number d = ap number e in
    absurd (omega (arith, signed_arith, number-date_of n))

-- the library's date with the number of a day is the day's date
pub same_date : (n : ℕ) (d : LibraryDate) → n ≤ LAST_DAY → epoch_day d +ℤ pos 1 ≡ pos n → (d.year ≡ pos (date_of n).year) × (d.month ≡ (date_of n).month) × (d.day ≡ (date_of n).day)
unfolding date_at
same_date n d h e = epoch_day_injective d (date_at (date_of n) (date_of-valid n) (year-bound n h)) (omega (arith, signed_arith, number-date_of n))

pub year_range : (n : ℕ) (d : LibraryDate) → n ≤ LAST_DAY → epoch_day d +ℤ pos 1 ≡ pos n → IsBetween (pos 0) (pos 9999) d.year
year_range n d h e = let same = same_date n d h e in let b = year-bound n h in rw same.0 (omega (arith, signed_arith))

-- a real date isn't changed where the library clamps its day to the month
pub number-constrained : (d : Date) (l : LibraryDate) (y : ℤ) → IsDate d → y ≡ pos d.year → l.year ≡ y → l.month ≡ d.month → l.day ≡ min d.day (library_days_in_month y d.month) → epoch_day l ≡ number d
number-constrained d l y h year same month day =
    let long : library_days_in_month y d.month ≡ month_length d = rw year (sym (days_in_month-library d.year d.month)) in
    let kept : l.day ≡ d.day = omega (arith, h.1) in
    rw (same, year, month, kept) refl

-- A civil time is determined by its parts.

date_of-injective : (n m : ℕ) → date_of n ≡ date_of m → n ≡ m
date_of-injective n m e =
    let same = ap number e in
    omega (arith, signed_arith, number-date_of n, number-date_of m)

pub civil_of-injective : (n m : ℕ) → civil_of n ≡ civil_of m → n ≡ m
civil_of-injective n m e =
    let year : (date_of (n / DAY_MS)).year ≡ (date_of (m / DAY_MS)).year = ap (λ c. unsigned_abs c.year) e in
    let month = ap (λ (c : Civil). c.month) e in
    let day = ap (λ (c : Civil). c.day) e in
    let second : n % DAY_MS / 1000 ≡ m % DAY_MS / 1000 = ap (λ c. c.second) e in
    let milli : n % 1000 ≡ m % 1000 = ap (λ c. c.milli) e in
    let date = date_of-injective _ _ (same_parts (date_of (n / DAY_MS)) (date_of (m / DAY_MS)) year month day) in
    omega arith

pub civil_of-in_ranges : (n : ℕ) → IsInRanges (civil_of n)
civil_of-in_ranges n = record { year = omega (arith, signed_arith); second = omega arith; milli = omega arith }

pub civil_of-date : (n : ℕ) (c : Civil) → civil_of n ≡ c → date_of (n / DAY_MS) ≡ date_part c
civil_of-date n c e = ap date_part e

-- it has the weekday of its date's day
pub civil_of-weekday : (n day : ℕ) (c : Civil) → date_of day ≡ date_part c → civil_of n ≡ c → c.weekday ≡ weekday_of day
civil_of-weekday n day c of_day e =
    let same = date_of-injective (n / DAY_MS) day (civil_of-date n c e ∙ sym of_day) in
    sym (ap (λ (c : Civil). c.weekday) e) ∙ ap weekday_of same

same_year : (y : ℤ) → pos 0 ≤ℤ y → pos (unsigned_abs y) ≡ y
same_year (pos n) h = refl
same_year (negsuc n) h = absurd (omega (arith, signed_arith))

abbrev civil_time : ℤ → ℕ → ℕ → ℕ → ℕ → ℕ → Civil
civil_time y m d w s ms = record { year = y; month = m; day = d; weekday = w; second = s; milli = ms }

pub civil_of-parts : (c : Civil) (day : ℕ) → IsInRanges c → date_of day ≡ date_part c → c.weekday ≡ weekday_of day → civil_of (day * DAY_MS + c.second * 1000 + c.milli) ≡ c
civil_of-parts c day h of_day weekday =
    let second_in = h.second in
    let milli_in = h.milli in
    let here : (day * DAY_MS + c.second * 1000 + c.milli) / DAY_MS ≡ day = omega arith in
    let second : (day * DAY_MS + c.second * 1000 + c.milli) % DAY_MS / 1000 ≡ c.second = omega arith in
    let milli : (day * DAY_MS + c.second * 1000 + c.milli) % 1000 ≡ c.milli = omega arith in
    let year = same_year c.year h.year in
    let made : civil_time (pos (unsigned_abs c.year)) c.month c.day c.weekday c.second c.milli ≡ c = rw year refl in
    rw (here, of_day, second, milli, ← weekday) made

pub ruleset date_facts = (date_of-valid, year-bound)
