-- Days by their months.
use Rattle.std.proofs.Common.{◌≡◌, ℕ, zero, suc, ◌+◌, ◌-◌, ◌*◌, ◌/◌, ◌%◌, ◌<◌, ◌≤◌, inl, inr, Bool, true, false, ◌&&◌, refl, ap, ◌∙◌, arith, rules, max, Option, Some, None, IsSome, IfNone, ◌≢◌}
use Rattle.std.specs.Int.{IsInRange}
use Rattle.std.proofs.lemmas.Bool.{cases_lt, and_left}
use Rattle.qz_civil.specs.declared.dates.Date.{Date}
use Rattle.qz_civil.specs.declared.fields.CronFields.{CronFields}
use Rattle.qz_civil.specs.declared.limits.TheConstants.{END_DAY, LAST_DAY, LAST_YEAR}
use Rattle.qz_civil.specs.Dates.{date_of, days_in_month, next_date, next_month, month_length, weekday_of, IsDate}
use Rattle.qz_civil.specs.Fields.{meets_date, in_years, in_months, in_week, is_value, least, greatest, size}
use Rattle.qz_civil.specs.Least.{NoneIn, IsLeastIn, IsFirst}
use Rattle.qz_civil.specs.Months.{month_number}
use Rattle.qz_civil.proofs.DateLemmas.{date_of-valid, days_in_month-bound, next_date-day, next_date-last, next_month-month, next_month-year, follows, Follows, same_parts}
use Rattle.qz_civil.proofs.DateLemmas.Follows.{in_month, in_year, in_next}
use Rattle.qz_civil.proofs.MonthLemmas.{month_of, month_of-horizon, month_of-rises}
use Rattle.qz_cron.specs.declared.months.TheConstants.{END_MONTH, FIRST_MONTH}
use Rattle.qz_cron.specs.Search.{first_of, IsBare, meets_day, meets_in_month, meets_month, month_days}
use Rattle.qz_cron.proofs.Firsts.{first_same}

date_of-suc : (n : ℕ) → date_of (suc n) ≡ next_date (date_of n)
unfolding date_of
date_of-suc n = refl

-- a day and the next: a month begins only after the one before
pub record Steps (d e : Date) : Type 0 where
  pub small : month_number e ≤ month_number d + 1
  pub begins : e.day ≡ 1 → month_number e ≡ month_number d + 1

steps_by : (d e : Date) → IsDate d → Follows d e → Steps d e
steps_by d e h (in_month lt is) = rw is (record {
  small = omega arith;
  begins = λ one. absurd (omega (arith, h.1));
})
steps_by d e h (in_year same lt is) = rw is (record {
  small = omega arith;
  begins = λ one. omega (arith, h.0);
})
steps_by d e h (in_next same last is) = rw is (record {
  small = omega arith;
  begins = λ one. omega arith;
})

steps : (n : ℕ) → Steps (date_of n) (date_of (suc n))
steps n = rw (date_of-suc n) (steps_by (date_of n) (next_date (date_of n)) (date_of-valid n) (follows (date_of n) (date_of-valid n)))

-- a day before the first of a month is in an earlier month
before_by : (k start : ℕ) → k < suc start → (date_of (suc start)).day ≡ 1 → month_of k < month_of (suc start)
before_by k start lt one =
    let s = steps start in
    omega (arith, s.begins one, month_of-rises k start (omega arith))

pub month_of-before : (k start : ℕ) → k < start → (date_of start).day ≡ 1 → month_of k < month_of start
month_of-before k zero lt one = absurd (omega arith)
month_of-before k (suc start) lt one = before_by k start lt one

-- the days of a month

month_number-first_of : (number : ℕ) → month_number (first_of number) ≡ number
month_number-first_of number = omega arith

pub days_of_month : (start number k : ℕ) → date_of start ≡ first_of number → k < month_days number → date_of (start + k) ≡ record (first_of number) { day = k + 1 }
days_of_month start number zero e lt = let same : start + zero ≡ start = omega arith in rw same e
days_of_month start number (suc k) e lt =
    let next : start + suc k ≡ suc (start + k) = omega arith in
    let plus : suc k + 1 ≡ k + 1 + 1 = omega arith in
    let before = days_of_month start number k e (omega arith) in
    rw (next, plus) (date_of-suc (start + k) ∙ (ap next_date before ∙ next_date-day (record (first_of number) { day = k + 1 }) (omega arith)))

next_month-first_of : (number k : ℕ) → next_month (record (first_of number) { day = k }) ≡ first_of (number + 1)
next_month-first_of number k =
    let d : Date = record (first_of number) { day = k } in
    elim (cases_lt d.month 12) [
      | inl lt ↦ rw (next_month-month d lt) (same_parts _ (first_of (number + 1)) (omega arith) (omega arith) refl)
      | inr ge ↦ rw (next_month-year d ge) (same_parts _ (first_of (number + 1)) (omega arith) (omega arith) refl)
    ]

-- behind the last day of a month begins the next
next_first : (start number : ℕ) → date_of start ≡ first_of number → date_of (start + month_days number) ≡ first_of (number + 1)
next_first start number e =
    let long = days_in_month-bound (number / 12) (number % 12 + 1) in
    let k : ℕ = month_days number - 1 in
    let last : Date = record (first_of number) { day = k + 1 } in
    let at_last : date_of (start + k) ≡ last = days_of_month start number k e (omega arith) in
    let next : start + month_days number ≡ suc (start + k) = omega arith in
    rw next (date_of-suc (start + k) ∙ (ap next_date at_last ∙ (next_date-last last (omega arith) ∙ next_month-first_of number (k + 1))))

pub month_of-after : (start number : ℕ) → date_of start ≡ first_of number → month_of (start + month_days number) ≡ number + 1
month_of-after start number e = ap month_number (next_first start number e) ∙ month_number-first_of (number + 1)

-- the days of a month are those from its first to before the next month's first
pub month_of-within : (start number k : ℕ) → date_of start ≡ first_of number → start ≤ k → k < start + month_days number → month_of k ≡ number
month_of-within start number k e low high =
    let same : start + (k - start) ≡ k = omega arith in
    let is = rw same at (days_of_month start number (k - start) e (omega arith)) in
    rw is (omega arith)

pub within_month : (start number k : ℕ) → date_of start ≡ first_of number → month_of k ≡ number → (start ≤ k) × (k < start + month_days number)
within_month start number k e at =
    let first : month_of start ≡ number = ap month_number e ∙ month_number-first_of number in
    let one : (date_of start).day ≡ 1 = ap (λ d. d.day) e in (
      elim (cases_lt k start) [
        | inl lt ↦ absurd (omega (arith, month_of-before k start lt one))
        | inr ge ↦ ge
      ],
      elim (cases_lt k (start + month_days number)) [
        | inl lt ↦ lt
        | inr ge ↦ absurd (omega (arith, month_of-after start number e, month_of-rises (start + month_days number) k ge))
      ],
    )

-- the first days of months

start_of : (j : ℕ) → (start : ℕ) × (date_of start ≡ first_of (FIRST_MONTH + j)) × (start ≤ 1 + 31 * j)
unfolding date_of next_date next_month days_in_month
start_of zero = (1, refl, omega arith)
start_of (suc j) =
    let before = start_of j in
    let long = days_in_month-bound ((FIRST_MONTH + j) / 12) ((FIRST_MONTH + j) % 12 + 1) in
    let next : FIRST_MONTH + suc j ≡ FIRST_MONTH + j + 1 = omega arith in
    (before.0 + month_days (FIRST_MONTH + j), rw next (next_first before.0 (FIRST_MONTH + j) before.1), omega (arith, before.2, long.1))

-- each month from January 1970 on has a first day
month_begins : (number : ℕ) → IsInRange FIRST_MONTH (END_MONTH - 1) number → (start : ℕ) × (date_of start ≡ first_of number) × (start ≤ LAST_DAY)
month_begins number h =
    let start = start_of (number - FIRST_MONTH) in
    let is : FIRST_MONTH + (number - FIRST_MONTH) ≡ number = omega (arith, h.0) in
    (start.0, rw is at start.1, omega (arith, start.2, h.1))

pub some_start : (number : ℕ) (found : Option ℕ) → IsInRange FIRST_MONTH (END_MONTH - 1) number → IfNone found ((day : ℕ) → day ≤ LAST_DAY → date_of day ≢ first_of number) → IsSome found
some_start number None h none = let start = month_begins number h in absurd (none start.0 start.2 start.1)
some_start number (Some day) h none = search rules

-- and up to December of the last year it ends before END_DAY
pub month-ends : (number start : ℕ) → IsInRange FIRST_MONTH (END_MONTH - 1) number → date_of start ≡ first_of number → start + month_days number ≤ END_DAY
month-ends number start h e =
    let long = days_in_month-bound (number / 12) (number % 12 + 1) in
    let last : ℕ = start + month_days number - 1 in
    elim (cases_lt END_DAY (start + month_days number)) [
      | inl lt ↦ absurd (omega (
        arith,
        h.1,
        month_of-within start number last e (omega (arith, long.0)) (omega (arith, long.0)),
        month_of-rises END_DAY last (omega arith),
        month_of-horizon,
      ))
      | inr ge ↦ ge
    ]

-- the test of a day, by its month

month_days-number : (d : Date) → IsInRange 1 12 d.month → month_days (month_number d) ≡ month_length d
month_days-number d h =
    let year : month_number d / 12 ≡ d.year = omega arith in
    let month : month_number d % 12 + 1 ≡ d.month = omega arith in
    rw (year, month) refl

bare_date : (y m month d w : Bool) → (y && m) ≡ month → (month && d) ≡ false → ((y && m) && (d && w)) ≡ false
bare_date y m month d w e none = grind arith

of_parts : (f : CronFields) (d : Date) → IsInRange 1 12 d.month → (in_years f d.year && in_months f d.month) ≡ meets_month f (month_number d)
unfolding in_months
of_parts f d h =
    let year : month_number d / 12 ≡ d.year = omega arith in
    let month : month_number d % 12 ≡ d.month - 1 = omega arith in
    rw (year, month) refl

-- no day of a bare month passes
pub meets_day-bare : (f : CronFields) (k : ℕ) → IsBare f (month_of k) → meets_day f k ≡ false
unfolding meets_date
meets_day-bare f k bare =
    let valid = date_of-valid k in
    let length : month_days (month_of k) ≡ month_length (date_of k) = month_days-number (date_of k) valid.0 in
    let none = rw length at (bare (date_of k).day (weekday_of k)) in
    bare_date (in_years f (date_of k).year) (in_months f (date_of k).month) (meets_month f (month_of k)) _ (in_week f.week (month_length (date_of k)) (date_of k).day (weekday_of k)) (of_parts f (date_of k) valid.0) (none valid.1)

meets_by : (f : CronFields) (start number k : ℕ) → date_of start ≡ first_of number → meets_month f number ≡ true → start ≤ k → k < start + month_days number → meets_day f k ≡ meets_in_month f (month_days number) start (k + 1 - start)
unfolding meets_date
meets_by f start number k e set low high =
    let same : start + (k - start) ≡ k = omega arith in
    let is = rw same at (days_of_month start number (k - start) e (omega arith)) in
    let place : start + (k + 1 - start) - 1 ≡ k = omega arith in
    let day : k - start + 1 ≡ k + 1 - start = omega arith in
    let month : (in_years f (number / 12) && in_months f (number % 12 + 1)) ≡ true = of_parts f (first_of number) (omega arith) ∙ (rw (month_number-first_of number) set) in
    rw (is, month, place, day) refl

pub meets_day-in_month : (f : CronFields) (start number from : ℕ) (r : Option ℕ) → date_of start ≡ first_of number → meets_month f number ≡ true → IsFirst (λ k. meets_in_month f (month_days number) start (k + 1 - start)) (max from start) (start + month_days number) r → IsFirst (meets_day f) (max from start) (start + month_days number) r
meets_day-in_month f start number from r e set =
    first_same _ _ _ _ r (λ k low high. meets_by f start number k e set (omega arith) high)

-- no day from `from` on passes in a month before that number
abbrev pub NoneBefore : CronFields → ℕ → ℕ → Type 0
NoneBefore f from number = (k : ℕ) → from ≤ k → month_of k < number → meets_day f k ≡ false

pub none_at_start : (f : CronFields) (from : ℕ) → NoneBefore f from (month_of from)
none_at_start f from k low lt = absurd (omega (arith, month_of-rises from k low))

-- months that don't pass have no day that does
abbrev pub LeavesBare : CronFields → (ℕ → Bool) → Type 0
LeavesBare f months = (number : ℕ) → months number ≡ false → IsBare f number

none_up_to : (f : CronFields) (months : ℕ → Bool) (from number found : ℕ) → LeavesBare f months → NoneBefore f from number → NoneIn months number found → NoneBefore f from found
none_up_to f months from number found bare none skipped k low lt =
    elim (cases_lt (month_of k) number) [
      | inl less ↦ none k low less
      | inr ge ↦ meets_day-bare f k (bare (month_of k) (skipped (month_of k) ge lt))
    ]

-- the search finds no day in the month: it goes on behind it
pub none_behind : (f : CronFields) (months : ℕ → Bool) (from number end found start : ℕ) → LeavesBare f months → NoneBefore f from number → IsLeastIn months number end found → date_of start ≡ first_of found → NoneIn (meets_day f) (max from start) (start + month_days found) → NoneBefore f from (found + 1)
none_behind f months from number end found start bare none next e here k low lt =
    elim (cases_lt (month_of k) found) [
      | inl less ↦ none_up_to f months from number found bare none next.none k low less
      | inr ge ↦
          let within = within_month start found k e (omega arith) in
          here k (omega (arith, within.0)) within.1
    ]

-- it finds a day
pub first_in_month : (f : CronFields) (months : ℕ → Bool) (from number end found start v to : ℕ) → LeavesBare f months → NoneBefore f from number → IsLeastIn months number end found → date_of start ≡ first_of found → IsLeastIn (meets_day f) (max from start) (start + month_days found) v → v < to → IsLeastIn (meets_day f) from to v
first_in_month f months from number end found start v to bare none next e here within = record {
  low = (let a = here.low in omega arith);
  high = within;
  passes = here.passes;
  none = λ k low lt.
      let a = here.low in
      let b = here.high in
      let at : month_of v ≡ found = month_of-within start found v e (omega arith) b in
      elim (cases_lt (month_of k) found) [
        | inl less ↦ none_up_to f months from number found bare none next.none k low less
        | inr ge ↦
            let inside = within_month start found k e (omega (arith, month_of-rises k v (omega arith))) in
            here.none k (omega (arith, inside.0)) lt
      ];
}

-- there is no month left
in_years-late : (f : CronFields) (y : ℕ) → LAST_YEAR + 1 ≤ y → in_years f y ≡ false
unfolding in_years is_value least greatest size
in_years-late f y late = grind arith

late_is_bare : (f : CronFields) (number : ℕ) → END_MONTH ≤ number → IsBare f number
late_is_bare f number late d w h = and_left _ _ (and_left _ _ (in_years-late f (number / 12) (omega arith)))

pub none_left : (f : CronFields) (months : ℕ → Bool) (from number to : ℕ) → LeavesBare f months → NoneBefore f from number → NoneIn months number END_MONTH → NoneIn (meets_day f) from to
none_left f months from number to bare none skipped k low high =
    elim (cases_lt (month_of k) END_MONTH) [
      | inl lt ↦ none_up_to f months from number END_MONTH bare none skipped k low lt
      | inr ge ↦ meets_day-bare f k (late_is_bare f (month_of k) ge)
    ]
