-- The test of a fire time decides `IsFireTime`, so the first timestamp that passes is the least fire time.
use Rattle.std.proofs.Common.{◌≡◌, ◌*◌, ◌≤◌, ◌&&◌, Bool, ℕ, ℤ, pos, negsuc, ◌≤ℤ◌, List, Option, IsTrue, arith}
use Rattle.std.specs.Bool.{Decides}
use Rattle.std.proofs.lemmas.Bool.Decides.{Decides-and, Decides-like}
use Rattle.std.proofs.lemmas.Int.{ints}
use Rattle.qz_civil.specs.declared.limits.TheConstants.{LAST}
use Rattle.qz_civil.specs.declared.stretches.Stretch.{Stretch}
use Rattle.qz_civil.specs.declared.timings.Kind.{Kind}
use Rattle.qz_civil.specs.declared.timings.Kind.TheVariants.{Simple, Cron, Interval, Daily}
use Rattle.qz_civil.specs.declared.timings.Timing.{Timing}
use Rattle.qz_civil.specs.declared.timings.Unit.{Unit}
use Rattle.qz_civil.specs.declared.timings.Unit.TheVariants as units
use Rattle.qz_civil.specs.Least.{IsNext}
use Rattle.qz_civil.specs.Timings.{is_kind, is_simple, is_timing}
use Rattle.qz_calendar.specs.Chains.{ZonedCalendar}
use Rattle.qz_daily.specs.Timestamps.{pattern}
use Rattle.qz_interval.specs.Interval.{IsDated, IsDayTurn, IsDaysLater, IsInterval, IsMoment, IsMonthTurn, IsMonthsLater}
use Rattle.qz_misfire.proofs.NextLaws.{same_next}
use Rattle.qz_simple.specs.Simple.{IsSimple}
use Rattle.qz_plan.specs.FireTimes.{IsFireTime}
use Rattle.qz_plan.specs.Plan.{fire_time_after, is_before, is_dated_time, is_day_later, is_fire_time, is_interval_time, is_month_later, is_scheduled, is_simple_time}
use Rattle.qz_plan.specs.Schedule.{IsOfKind}
use Rattle.qz_plan.proofs.DatedTests.{dated-decides}
use Rattle.qz_plan.proofs.DayTests.{day-decides, month-decides}
use Rattle.qz_plan.proofs.Plan.{fire_time_least}
use Rattle.qz_plan.proofs.SecondTests.{cron-decides, daily-decides}
use Rattle.qz_plan.proofs.SimpleTests.{simple-decides}
use Rattle.qz_plan.proofs.TestLaws.{included-decides}

-- By kind.

of_simple : (start : ℤ) (end : Option ℤ) (interval count t : ℤ) → IsTrue (is_simple interval count) → Decides (is_simple_time start interval count t && is_before end t) (IsSimple start end interval count t)
of_simple start end (pos i) count t valid = simple-decides start end count t i (grind (arith, ints))
of_simple start end (negsuc i) count t valid = absurd (grind (arith, ints))

module _ (start : ℤ) (end : Option ℤ) (every : ℕ) (preserve skip : Bool) (zone : List Stretch) (t : ℤ) (some : 1 ≤ every) (low : pos 0 ≤ℤ t) (high : t ≤ℤ LAST) where
  by_days : (step : ℕ) → 1 ≤ step → Decides (is_dated_time preserve skip zone (is_day_later step) start t && is_before end t) (IsDated (IsMoment preserve skip zone start) (IsDayTurn zone start step) start end t)
  by_days step more = dated-decides (is_day_later step) (λ k. IsDaysLater (k * step)) (day-decides step more) preserve skip zone start t end low high

  by_months : (step : ℕ) → 1 ≤ step → Decides (is_dated_time preserve skip zone (is_month_later step) start t && is_before end t) (IsDated (IsMoment preserve skip zone start) (IsMonthTurn zone start step) start end t)
  by_months step more = dated-decides (is_month_later step) (λ k. IsMonthsLater (k * step)) (month-decides step more) preserve skip zone start t end low high

  of_interval : (unit : Unit) → Decides (is_interval_time start unit every preserve skip zone t && is_before end t) (IsInterval start end unit every preserve skip zone t)
  of_interval units.Second = simple-decides start end (negsuc 0) t (every * 1000) (omega (arith, ints))
  of_interval units.Minute = simple-decides start end (negsuc 0) t (every * 60000) (omega (arith, ints))
  of_interval units.Hour = simple-decides start end (negsuc 0) t (every * 3600000) (omega (arith, ints))
  of_interval units.Day = by_days every some
  of_interval units.Week = by_days (every * 7) (omega arith)
  of_interval units.Month = by_months every some
  of_interval units.Year = by_months (every * 12) (omega arith)

of_kind : (kind : Kind) (zone : List Stretch) (start : ℤ) (end : Option ℤ) (t : ℤ) → IsTrue (is_kind kind) → pos 0 ≤ℤ t → t ≤ℤ LAST → Decides (is_scheduled kind zone start end t) (IsOfKind kind zone start end t)
of_kind (Simple interval count) zone start end t valid low high = of_simple start end interval count t valid
of_kind (Cron fields name) zone start end t valid low high = cron-decides fields zone start end t low
of_kind (Interval unit every name preserve skip) zone start end t valid low high = of_interval start end every preserve skip zone t (grind arith) low high unit
of_kind (Daily unit every from to days name) zone start end t valid low high = daily-decides start end (pattern unit every from to days) zone t low

kind_of : (timing : Timing) → IsTrue (is_timing timing) → IsTrue (is_kind timing.kind)
kind_of timing valid = grind arith

module _ (timing : Timing) (zone : List Stretch) (chain : List ZonedCalendar) (valid : IsTrue (is_timing timing)) where
  pub fire_time-decides : (t : ℤ) → pos 0 ≤ℤ t → t ≤ℤ LAST → Decides (is_fire_time timing zone chain t) (IsFireTime timing zone chain t)
  fire_time-decides t low high =
      Decides-like _ (λ h. record { scheduled = h.0; included = h.1 }) (λ h. (h.scheduled, h.included))
      (Decides-and _ _ (of_kind timing.kind zone timing.start timing.end t (kind_of timing valid) low high) (included-decides chain t))

  -- the function gives the least fire time
  pub fire_time-next : (t : ℤ) → negsuc 0 ≤ℤ t → IsNext LAST (IsFireTime timing zone chain) t (fire_time_after timing zone chain t)
  fire_time-next t low = fire_time_least timing zone chain t fire_time-decides low

  -- and so what is the least fire time is what the function gives
  pub fire_time-one : (t : ℤ) (r : Option ℤ) → negsuc 0 ≤ℤ t → IsNext LAST (IsFireTime timing zone chain) t r → r ≡ fire_time_after timing zone chain t
  fire_time-one t r low next = same_next LAST (IsFireTime timing zone chain) t r (fire_time_after timing zone chain t) next (fire_time-next t low)
