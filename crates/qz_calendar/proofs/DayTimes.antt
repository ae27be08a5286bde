-- A day's local times by kind of calendar.
use Rattle.std.proofs.Common.{◌≡◌, inl, inr, ℕ, ◌+◌, ◌-◌, ◌*◌, ◌/◌, ◌%◌, ◌<◌, ◌≤◌, Bool, true, not, ◌&&◌, if◌then◌else◌, refl, arith, nat_le, List, Option}
use Rattle.std.specs.Int.{IsInRange}
use Rattle.std.proofs.lemmas.Bool.{cases_lt}
use Rattle.qz_civil.specs.declared.calendars.CalendarKind.TheVariants.{Annual, Holiday, Weekly, Monthly, Daily, Cron}
use Rattle.qz_civil.specs.declared.fields.CronFields.{CronFields}
use Rattle.qz_civil.specs.Calendars.{is_from_to}
use Rattle.qz_civil.specs.Dates.{date_of, weekday_of}
use Rattle.qz_civil.specs.Fields.{has_bit, meets_date, meets_time}
use Rattle.qz_civil.specs.Least.{IsFirst, IsLeastIn, NoneIn}
use Rattle.qz_civil.proofs.DateLemmas.{date_of-valid, days_in_month-bound}
use Rattle.qz_cron.proofs.Firsts.{first_same}
use Rattle.qz_calendar.specs.Exclusions.{excludes, lists}
use Rattle.qz_calendar.specs.Search.{is_free_on}

-- the parts of ms m of day d
record IsPart (d m : ℕ) : Type 0 where
  pub day : (d * 86400000 + m) / 86400000 ≡ d
  pub second : (d * 86400000 + m) % 86400000 / 1000 ≡ m / 1000
  pub milli : (d * 86400000 + m) % 1000 ≡ m % 1000

part : (day milli : ℕ) → milli < 86400000 → IsPart day milli
part day milli lt = record { day = omega arith; second = omega arith; milli = omega arith }

annual : (days : List ℕ) (day milli : ℕ) → milli < 86400000 → is_free_on (Annual days) day milli ≡ not (lists days ((date_of day).month * 100 + (date_of day).day))
unfolding excludes
annual days day milli lt = let p = part day milli lt in rw p.day refl

pub first-annual : (days : List ℕ) (day low : ℕ) (r : Option ℕ) → IsFirst (λ milli. not (lists days ((date_of day).month * 100 + (date_of day).day))) low 86400000 r → IsFirst (is_free_on (Annual days) day) low 86400000 r
first-annual days day low r = first_same _ _ _ _ r (λ milli from to. annual days day milli to)

holiday : (dates : List ℕ) (day milli : ℕ) → milli < 86400000 → is_free_on (Holiday dates) day milli ≡ not (lists dates ((date_of day).year * 10000 + (date_of day).month * 100 + (date_of day).day))
unfolding excludes
holiday dates day milli lt = let p = part day milli lt in rw p.day refl

pub first-holiday : (dates : List ℕ) (day low : ℕ) (r : Option ℕ) → IsFirst (λ milli. not (lists dates ((date_of day).year * 10000 + (date_of day).month * 100 + (date_of day).day))) low 86400000 r → IsFirst (is_free_on (Holiday dates) day) low 86400000 r
first-holiday dates day low r = first_same _ _ _ _ r (λ milli from to. holiday dates day milli to)

weekly : (days day milli : ℕ) → milli < 86400000 → is_free_on (Weekly days) day milli ≡ not (has_bit days (weekday_of day - 1))
unfolding excludes
weekly days day milli lt = let p = part day milli lt in rw p.day refl

pub first-weekly : (days day low : ℕ) (r : Option ℕ) → IsFirst (λ milli. not (has_bit days (weekday_of day - 1))) low 86400000 r → IsFirst (is_free_on (Weekly days) day) low 86400000 r
first-weekly days day low r = first_same _ _ _ _ r (λ milli from to. weekly days day milli to)

monthly : (days day milli : ℕ) → milli < 86400000 → is_free_on (Monthly days) day milli ≡ not (has_bit days ((date_of day).day - 1))
unfolding excludes
monthly days day milli lt = let p = part day milli lt in rw p.day refl

pub first-monthly : (days day low : ℕ) (r : Option ℕ) → IsFirst (λ milli. not (has_bit days ((date_of day).day - 1))) low 86400000 r → IsFirst (is_free_on (Monthly days) day) low 86400000 r
first-monthly days day low r = first_same _ _ _ _ r (λ milli from to. monthly days day milli to)

daily : (from to : ℕ) (inverted : Bool) (day milli : ℕ) → milli < 86400000 → is_free_on (Daily from to inverted) day milli ≡ not (if inverted then not (is_from_to from to milli) else is_from_to from to milli)
unfolding excludes
daily from to inverted day milli lt =
    let p = part day milli lt in
    let whole : milli / 1000 * 1000 + milli % 1000 ≡ milli = omega arith in
    rw (p.second, p.milli, whole) refl

pub first-daily : (from to : ℕ) (inverted : Bool) (day low : ℕ) (r : Option ℕ) → IsFirst (λ milli. not (if inverted then not (is_from_to from to milli) else is_from_to from to milli)) low 86400000 r → IsFirst (is_free_on (Daily from to inverted) day) low 86400000 r
first-daily from to inverted day low r = first_same _ _ _ _ r (λ milli a b. daily from to inverted day milli b)

pub cron : (fields : CronFields) (day milli : ℕ) → milli < 86400000 → is_free_on (Cron fields) day milli ≡ not (meets_date fields (date_of day) (weekday_of day) && meets_time fields (milli / 1000))
unfolding excludes
cron fields day milli lt =
    let p = part day milli lt in
    let year : nat_le 0 (date_of day).year ≡ true = grind arith in
    rw (p.day, p.second, year) refl

pub first-cron : (fields : CronFields) (day low : ℕ) (r : Option ℕ) → IsFirst (λ milli. not (meets_date fields (date_of day) (weekday_of day) && meets_time fields (milli / 1000))) low 86400000 r → IsFirst (is_free_on (Cron fields) day) low 86400000 r
first-cron fields day low r = first_same _ _ _ _ r (λ milli from to. cron fields day milli to)

-- the day of the month
pub day-range : (n : ℕ) → IsInRange 1 31 (date_of n).day
day-range n =
    let valid = date_of-valid n in
    let long = days_in_month-bound (date_of n).year (date_of n).month in
    (valid.1.0, omega (arith, valid.1.1, long.1))

-- The search day by day.

pub none-there : (p : ℕ → Bool) (from day low : ℕ) → NoneIn p from (day * 86400000 + low) → NoneIn (λ milli. p (day * 86400000 + milli)) low 86400000 → NoneIn p from ((day + 1) * 86400000)
none-there p from day low before none k start end =
    elim (cases_lt k (day * 86400000 + low)) [
      | inl lt ↦ before k start lt
      | inr ge ↦
          let at : day * 86400000 + (k - day * 86400000) ≡ k = omega arith in
          rw at at (none (k - day * 86400000) (omega arith) (omega arith))
    ]

pub first-there : (p : ℕ → Bool) (from day low milli : ℕ) → from ≤ day * 86400000 + low → NoneIn p from (day * 86400000 + low) → IsLeastIn (λ m. p (day * 86400000 + m)) low 86400000 milli → IsLeastIn p from (day * 86400000 + milli + 1) (day * 86400000 + milli)
first-there p from day low milli le before first =
    let start = first.low in
    record {
      low = omega arith;
      high = omega arith;
      passes = first.passes;
      none = λ k a b. elim (cases_lt k (day * 86400000 + low)) [
        | inl lt ↦ before k a lt
        | inr ge ↦
            let at : day * 86400000 + (k - day * 86400000) ≡ k = omega arith in
            rw at at (first.none (k - day * 86400000) (omega arith) (omega arith))
      ];
    }
