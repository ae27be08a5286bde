-- The tests of a later day decide the turns by days and by months.
use Rattle.std.proofs.Common.{◌≡◌, ap, ◌∙◌, ℕ, zero, suc, ◌+◌, ◌-◌, ◌*◌, ◌/◌, ◌%◌, ◌<◌, ◌≤◌, arith}
use Rattle.std.specs.Bool.{Decides}
use Rattle.std.proofs.Math.Nat.{mul-mod_left}
use Rattle.std.proofs.lemmas.Bool.Decides.{Decides-and, Decides-eqb, Decides-like, Decides-ltb}
use Rattle.std.proofs.lemmas.Nat.{mul-le, div-add-mod'}
use Rattle.qz_civil.specs.declared.dates.Date.{Date}
use Rattle.qz_civil.specs.Dates.{date_of}
use Rattle.qz_civil.specs.Months.{day_in_month, month_number}
use Rattle.qz_civil.proofs.DateLemmas.{same_parts}
use Rattle.qz_interval.specs.Interval.{IsDaysLater, IsMonthsLater}
use Rattle.qz_interval.proofs.NumberLemmas.{month_number-day_in_month}
use Rattle.qz_plan.specs.Plan.{is_day_later, is_month_later, same_date}

-- the day comes some steps after the first
pub record IsStepsLater (step first day : ℕ) : Type 0 where
  pub place : ℕ
  pub counted : 1 ≤ place
  pub at : day ≡ first + place * step

steps_of : (step first day : ℕ) → 1 ≤ step → (first < day) × ((day - first) % step ≡ 0) → IsStepsLater step first day
steps_of step first day some h =
    let even = h.1 in
    let at : day ≡ first + (day - first) / step * step = omega (arith, h.0, div-add-mod' (day - first) step) in
    record { place = (day - first) / step; counted = nonzero ((day - first) / step) at; at = at }
  where
    nonzero : (k : ℕ) → day ≡ first + k * step → 1 ≤ k
    nonzero zero at = omega (arith, h.0)
    nonzero (suc k) at = omega arith

of_steps : (step first day : ℕ) → 1 ≤ step → IsStepsLater step first day → (first < day) × ((day - first) % step ≡ 0)
of_steps step first day some h =
    let at = h.at in
    let over = mul-le 1 step h.place step h.counted (omega arith) in
    let rest : day - first ≡ h.place * step = omega arith in
    (omega arith, rw rest (mul-mod_left h.place step))

steps-decides : (step first day : ℕ) → 1 ≤ step → Decides (is_day_later step first day) (IsStepsLater step first day)
steps-decides step first day some =
    Decides-like _ (steps_of step first day some) (of_steps step first day some) (Decides-and _ _ (Decides-ltb first day) (Decides-eqb ((day - first) % step) 0))

pub day-decides : (step : ℕ) → 1 ≤ step → (first day : ℕ) → Decides (is_day_later step first day) ((k : ℕ) × (1 ≤ k) × IsDaysLater (k * step) first day)
day-decides step some first day =
    Decides-like _ (λ h. (h.place, h.counted, h.at)) (λ h. record { place = h.0; counted = h.1; at = h.2 }) (steps-decides step first day some)

same_date-decides : (a b : Date) → Decides (same_date a b) (a ≡ b)
same_date-decides a b =
    Decides-like _ (λ h. same_parts a b h.0.0 h.0.1 h.1) (λ (h : a ≡ b). ((ap (λ (d : Date). d.year) h, ap (λ (d : Date). d.month) h), ap (λ (d : Date). d.day) h))
    (Decides-and _ _ (Decides-and _ _ (Decides-eqb a.year b.year) (Decides-eqb a.month b.month)) (Decides-eqb a.day b.day))

-- the month of the day comes some steps after that of the first, and the day is the one of its month
abbrev IsMonthDay : ℕ → ℕ → ℕ → Type 0
IsMonthDay step first day =
    IsStepsLater step (month_number (date_of first)) (month_number (date_of day)) × (date_of day ≡ day_in_month (month_number (date_of day)) (date_of first).day)

of_month : (step first day : ℕ) → ((k : ℕ) × (1 ≤ k) × IsMonthsLater (k * step) first day) → IsMonthDay step first day
of_month step first day h =
    let month : month_number (date_of day) ≡ month_number (date_of first) + h.0 * step =
    ap month_number h.2 ∙ month_number-day_in_month (month_number (date_of first) + h.0 * step) (date_of first).day in
    (record { place = h.0; counted = h.1; at = month }, rw month h.2)

month_of : (step first day : ℕ) → IsMonthDay step first day → ((k : ℕ) × (1 ≤ k) × IsMonthsLater (k * step) first day)
month_of step first day h = (h.0.place, h.0.counted, h.1 ∙ ap (λ n. day_in_month n (date_of first).day) h.0.at)

pub month-decides : (step : ℕ) → 1 ≤ step → (first day : ℕ) → Decides (is_month_later step first day) ((k : ℕ) × (1 ≤ k) × IsMonthsLater (k * step) first day)
month-decides step some first day =
    Decides-like _ (month_of step first day) (of_month step first day)
    (Decides-and _ _ (steps-decides step (month_number (date_of first)) (month_number (date_of day)) some)
    (same_date-decides (date_of day) (day_in_month (month_number (date_of day)) (date_of first).day)))
