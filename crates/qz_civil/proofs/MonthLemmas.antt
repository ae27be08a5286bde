-- The months of days that follow each other.
use Rattle.std.proofs.Common.{◌≡◌, ℕ, zero, suc, ◌+◌, ◌-◌, ◌*◌, ◌<◌, ◌≤◌, inl, inr, refl, ap, arith, pos, ◌+ℤ◌}
use Rattle.std.proofs.lemmas.Bool.{cases_lt}
use Rattle.jiff_core.proofs.SignedLemmas.{signed_arith}
use Rattle.jiff_core.specs.Calendar.{day_count, days_from_civil, days_of_years, days_of_months}
use Rattle.qz_civil.specs.declared.dates.Date.{Date}
use Rattle.qz_civil.specs.declared.limits.TheConstants.{END_DAY, LAST_YEAR}
use Rattle.qz_civil.specs.Dates.{date_of, days_in_month, next_date, IsDate}
use Rattle.qz_civil.specs.Months.{month_number}
use Rattle.qz_civil.proofs.DateLemmas.{date_of-valid, follows, Follows, number, number-date_of, date_of-number}
use Rattle.qz_civil.proofs.DateLemmas.Follows.{in_month, in_year, in_next}

-- the month in which day n lies
abbrev pub month_of : ℕ → ℕ
month_of n = month_number (date_of n)

rises_by_one : (d e : Date) → IsDate d → Follows d e → month_number d ≤ month_number e
rises_by_one d e h (in_month lt is) = rw is (omega arith)
rises_by_one d e h (in_year same lt is) = rw is (omega arith)
rises_by_one d e h (in_next same last is) = rw is (omega arith)

next_rises : (n : ℕ) → month_of n ≤ month_of (suc n)
unfolding date_of
next_rises n = rises_by_one (date_of n) (next_date (date_of n)) (date_of-valid n) (follows (date_of n) (date_of-valid n))

rises_by : (n k : ℕ) → month_of n ≤ month_of (n + k)
rises_by n zero = let e : n + zero ≡ n = omega arith in rw e (omega arith)
rises_by n (suc k) =
    let e : n + suc k ≡ suc (n + k) = omega arith in
    rw e (omega (arith, rises_by n k, next_rises (n + k)))

-- the later day isn't in an earlier month
pub month_of-rises : (n m : ℕ) → n ≤ m → month_of n ≤ month_of m
month_of-rises n m le =
    let e : n + (m - n) ≡ m = omega arith in
    rw e at (rises_by n (m - n))

-- so the day of an earlier month is earlier
pub month_of-earlier : (n m : ℕ) → month_of n < month_of m → n < m
month_of-earlier n m lt = elim (cases_lt n m) [
  | inl before ↦ before
  | inr ge ↦ absurd (omega (arith, month_of-rises m n ge))
]

-- two days of one date are one
pub date_of-same : (n m : ℕ) → date_of n ≡ date_of m → n ≡ m
date_of-same n m e =
    let same = ap number e in
    omega (arith, signed_arith, number-date_of n, number-date_of m)

-- the date of END_DAY: the second day of the year after the last
horizon : Date
horizon = record { year = LAST_YEAR + 1; month = 1; day = 2 }

horizon-valid : IsDate horizon
unfolding horizon days_in_month
horizon-valid = ((omega arith, omega arith), (omega arith, omega arith))

horizon-number : number horizon +ℤ pos 1 ≡ pos END_DAY
unfolding horizon days_from_civil day_count days_of_years days_of_months
horizon-number = refl

-- the January after the last year
abbrev pub end_month : ℕ
end_month = 12 * (LAST_YEAR + 1)

pub month_of-horizon : month_of END_DAY ≡ end_month
unfolding horizon
month_of-horizon = ap month_number (date_of-number END_DAY horizon (omega arith) horizon-valid (omega arith) horizon-number)

-- no month up to END_DAY is later than that January
pub month_of-last : (n : ℕ) → n ≤ END_DAY → month_of n ≤ end_month
month_of-last n le = omega (arith, month_of-rises n END_DAY le, month_of-horizon)
