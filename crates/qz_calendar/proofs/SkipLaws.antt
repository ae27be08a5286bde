-- What the cron calendars of one local clock exclude together.
use Rattle.std.proofs.Common.{◌≡◌, ◌∙◌, refl, sym, ap, ℕ, ◌+◌, ◌*◌, ◌/◌, ◌%◌, ◌<◌, ◌≤◌, Bool, true, false, not, ◌||◌, arith, pos, List, [], ◌∷◌, ◌++◌, length, get_or}
use Rattle.std.proofs.lemmas.List.Folds.{list_any-append, list_all_at}
use Rattle.qz_civil.specs.declared.calendars.CalendarKind.TheVariants.{Cron}
use Rattle.qz_civil.specs.declared.fields.CronFields.{CronFields}
use Rattle.qz_civil.specs.Dates.{date_of, weekday_of}
use Rattle.qz_civil.specs.Fields.{meets_date, meets_time}
use Rattle.qz_civil.specs.Least.{NoneIn}
use Rattle.qz_civil.specs.Zones.{local}
use Rattle.qz_calendar.specs.declared.clocks.ClockFields.{ClockFields}
use Rattle.qz_calendar.specs.Chains.{ZonedCalendar}
use Rattle.qz_calendar.specs.Search.{any_meets, are_free_at, is_free, is_free_at, is_free_on, meets_at}
use Rattle.qz_calendar.proofs.DayTimes.{cron}

-- the fields on the time of day of a cron text
pub record IsOf (fields : CronFields) (f : ClockFields) : Type 0 where
  pub seconds : f.seconds ≡ fields.seconds
  pub minutes : f.minutes ≡ fields.minutes
  pub hours : f.hours ≡ fields.hours

or_nothing : (b : Bool) → (b || false) ≡ true → b ≡ true
or_nothing true h = refl
or_nothing false h = absurd cc

met_time : (fields : CronFields) (f : ClockFields) (s : ℕ) → IsOf fields f → any_meets (f ∷ []) s ≡ true → meets_time fields s ≡ true
unfolding meets_time
met_time fields f s of met = rw (← of.seconds, ← of.minutes, ← of.hours) (or_nothing (meets_at f (s / 3600) (s % 3600 / 60) (s % 3600 % 60)) met)

-- what meets them on a day that the cron text meets isn't free
met_local : (fields : CronFields) (f : ClockFields) (day milli : ℕ) → IsOf fields f → meets_date fields (date_of day) (weekday_of day) ≡ true → milli < 86400000 → any_meets (f ∷ []) (milli / 1000) ≡ true → is_free_on (Cron fields) day milli ≡ false
met_local fields f day milli of on lt met = cron fields day milli lt ∙ rw (on, met_time fields f (milli / 1000) of met) refl

pub bars : (calendar : ZonedCalendar) (fields : CronFields) (f : ClockFields) (shift day t : ℕ) → calendar.kind ≡ Cron fields → local calendar.zone (pos t) ≡ t + shift → IsOf fields f → meets_date fields (date_of day) (weekday_of day) ≡ true
    → (t + shift) / 86400000 ≡ day → any_meets (f ∷ []) ((t + shift) % 86400000 / 1000) ≡ true → is_free_at calendar t ≡ false
bars calendar fields f shift day t kind clock of on same met =
    let parts : day * 86400000 + (t + shift) % 86400000 ≡ t + shift = omega arith in
    let free : is_free_on (Cron fields) day ((t + shift) % 86400000) ≡ false = met_local fields f day ((t + shift) % 86400000) of on (omega arith) met in
    ap (λ k. is_free k (local calendar.zone (pos t))) kind ∙ ap (is_free (Cron fields)) (clock ∙ sym parts) ∙ free

-- one more calendar's fields
either : (a b : Bool) (P : Type 0) → (a ≡ true → P) → (b ≡ true → P) → (a || b) ≡ true → P
either true b P p q h = p refl
either false b P p q h = q h

pub met_more : (calendars : List ZonedCalendar) (fs : List ClockFields) (f : ClockFields) (i t s : ℕ) (d : ZonedCalendar) → i < length calendars → (any_meets fs s ≡ true → are_free_at calendars t ≡ false) → (any_meets (f ∷ []) s ≡ true → is_free_at (get_or calendars i d) t ≡ false)
    → any_meets (fs ++ f ∷ []) s ≡ true → are_free_at calendars t ≡ false
met_more calendars fs f i t s d within before one met =
    either (any_meets fs s) (any_meets (f ∷ []) s) (are_free_at calendars t ≡ false) before (λ h. list_all_at (λ c. is_free_at c t) calendars i d within (one h))
    (sym (list_any-append _ fs (f ∷ [])) ∙ met)

-- None is free until a second of the day that meets none of the fields.
pub none_until : (calendars : List ZonedCalendar) (fs : List ClockFields) (from shift end second next : ℕ) → ((t : ℕ) → from ≤ t → t < end → (t + shift) / 86400000 ≡ (from + shift) / 86400000)
    → ((t : ℕ) → from ≤ t → t < end → any_meets fs ((t + shift) % 86400000 / 1000) ≡ true → are_free_at calendars t ≡ false)
    → second ≡ (from + shift) % 86400000 / 1000 → NoneIn (λ s. not (any_meets fs s)) second next
    → (t : ℕ) → from ≤ t → t < end → t + shift < (from + shift) / 86400000 * 86400000 + next * 1000 → are_free_at calendars t ≡ false
none_until calendars fs from shift end second next day met at none t low high before =
    let same = day t low high in
    met t low high (not_unmet _ (none ((t + shift) % 86400000 / 1000) (omega arith) (omega arith)))
  where
    not_unmet : (b : Bool) → not b ≡ false → b ≡ true
    not_unmet true h = refl
    not_unmet false h = absurd cc
