-- The year in which a quarter begins.
use Rattle.std.proofs.Common.{◌≡◌, ℕ, zero, suc, ◌+◌, ◌*◌, ◌/◌, ◌≤◌, ◌<◌, ℤ, pos, ◌≤ℤ◌, ◌-ℤ◌, arith, sym, ap, ◌∙◌, inl, inr, min, negsuc, unsigned_abs, to_z, of_z, w32}
use Rattle.std.proofs.lemmas.Bool.Decides.{leb_tells}
use Rattle.jiff_core.specs.Calendar.{days_of_years, days_in_month}
use Rattle.jiff_core.specs.Date.{epoch_day}
use Rattle.jiff_core.specs.declared.civil.date.Date.{Date}
use Rattle.jiff_core.proofs.CalendarLemmas.{days_from_civil-day_count, day_of_year_bound, day_count-day_of_year, day_count-last_of_year}
use Rattle.jiff_core.proofs.DateLemmas.{civil}
use Rattle.jiff_core.proofs.SignedLemmas.{signed_arith, back_small}
use Rattle.jiff_tz.specs.Year.{years_within, year_of_day, year_of_nanos}
use Rattle.jiff_tz.proofs.YearLemmas.{year_of_day-date}
use Rattle.qz_zone_rule.specs.Tables.{nanosecond}

years_within_bound : (n a : ℕ) → years_within n a ≤ n
unfolding years_within
years_within_bound zero a = omega arith
years_within_bound (suc n) a = elim (leb_tells (days_of_years (suc n)) a) [
  | inl fits ↦ rw fits.0 (omega arith)
  | inr over ↦ let bound = years_within_bound n a in rw over.0 (omega arith)
]

-- more days are no fewer years
years_within_rises : (n a b : ℕ) → a ≤ b → years_within n a ≤ years_within n b
unfolding years_within
years_within_rises zero a b h = omega arith
years_within_rises (suc n) a b h = elim (leb_tells (days_of_years (suc n)) a) [
  | inl fits ↦ elim (leb_tells (days_of_years (suc n)) b) [
    | inl also ↦ rw (fits.0, also.0) (omega arith)
    | inr over ↦ let fact = fits.1 in let other = over.1 in absurd (omega arith)
  ]
  | inr over ↦ elim (leb_tells (days_of_years (suc n)) b) [
    | inl fits ↦ let bound = years_within_bound n a in rw (over.0, fits.0) (omega arith)
    | inr also ↦ rw (over.0, also.0) (years_within_rises n a b h)
  ]
]

-- between two days of one year all days are of that year
year_between : (a i b : ℕ) → a ≤ i → i ≤ b → year_of_day (pos a) ≡ year_of_day (pos b) → year_of_day (pos i) ≡ year_of_day (pos a)
year_between a i b h k e =
    let low = years_within_rises 20000 (a + 4371953) (i + 4371953) (omega arith) in
    let high = years_within_rises 20000 (i + 4371953) (b + 4371953) (omega arith) in
    let same : years_within 20000 (a + 4371953) ≡ years_within 20000 (b + 4371953) = omega (arith, signed_arith, e) in
    let result : years_within 20000 (i + 4371953) ≡ years_within 20000 (a + 4371953) = omega arith in
    ap (λ y. pos y -ℤ pos 10000) result

-- the day of a quarter
day_of_quarter : (i : ℕ) → year_of_nanos (nanosecond i) ≡ year_of_day (pos (i / 96))
day_of_quarter i =
    let same : i * 900000 * 1000000 / 86400000000000 ≡ i / 96 = omega arith in
    ap (λ day. year_of_day (pos day)) same

-- 31 December is the last day of its year
pub last_is_later : (d last : Date) → last.year ≡ d.year → last.month ≡ 12 → last.day ≡ min 31 (days_in_month d.year 12) → epoch_day d ≤ℤ epoch_day last
last_is_later d last y m e =
    let date = civil d in
    let first_of_month = date.2.0 in
    let of_date = days_from_civil-day_count d.year d.month d.day in
    let of_last = days_from_civil-day_count d.year 12 31 in
    let place = day_count-day_of_year d.year d.month d.day first_of_month in
    let bound = day_of_year_bound d.year d.month d.day date in
    let end = day_count-last_of_year d.year in
    let day : last.day ≡ 31 = e in
    rw (y, m, day) (omega (arith, signed_arith))

-- all quarters up to the end of a year are of that year
pub same_year : (d last : Date) (place i : ℕ) (end : ℕ) → epoch_day d ≡ pos (place / 96) → epoch_day last ≡ pos end → last.year ≡ d.year → place ≤ i → i < (end + 1) * 96 → year_of_nanos (nanosecond i) ≡ year_of_nanos (nanosecond place)
same_year d last place i end e f y h k =
    let first_year : year_of_day (pos (place / 96)) ≡ d.year = ap year_of_day (sym e) ∙ year_of_day-date d in
    let last_year : year_of_day (pos end) ≡ last.year = ap year_of_day (sym f) ∙ year_of_day-date last in
    day_of_quarter i ∙ year_between (place / 96) (i / 96) end (omega arith) (omega arith) (first_year ∙ sym y ∙ sym last_year) ∙ sym (day_of_quarter place)

-- a day from 1970 on is its own number
pub day_number : (day : ℤ) (n : ℕ) → pos 0 ≤ℤ day → day ≤ℤ pos 2932896 → n ≡ unsigned_abs (to_z w32 (of_z w32 day)) → day ≡ pos n
day_number (pos k) n low high e = let bits : to_z w32 (of_z w32 (pos k)) ≡ pos k = back_small w32 (pos k) (omega (arith, signed_arith)) in sym (ap pos (e ∙ ap unsigned_abs bits))
day_number (negsuc k) n low high e = absurd (omega (arith, signed_arith))
