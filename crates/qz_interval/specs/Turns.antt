-- Turns by their numbers: of days counted from 1969-12-31 on, or of months counted from January of the year 0 on.
use Rattle.std.specs.Prelude.{◌≡◌, ℕ, ◌+◌, ◌*◌, ◌/◌, ◌%◌, ◌<◌, ◌≤◌, ◌^◌, ℤ, ◌≤ℤ◌}
use Rattle.std.specs.Int.{IsInRange}
use Rattle.qz_civil.specs.Dates.{date_of}
use Rattle.qz_civil.specs.Months.{day_in_month, month_number}
use Rattle.qz_interval.specs.declared.turns.Count.{Count}
use Rattle.qz_interval.specs.declared.turns.Count.TheVariants.{Days, Months}
use Rattle.qz_interval.specs.declared.turns.Step.{Step}
use Rattle.qz_interval.specs.declared.turns.Step.TheVariants.{ByDays, ByMonths}
use Rattle.qz_interval.specs.declared.turns.Turns.{Turns}
use Rattle.qz_interval.specs.Interval.{IsClockOf, IsDaysLater, IsMonthsLater}

-- the number of a day, or of its month
abbrev pub number_of : Count → ℕ → ℕ
number_of Days day = day
number_of (Months of_month) day = month_number (date_of day)

-- the day with that number, or the day of the month with that number
abbrev pub HasNumber : Count → ℕ → ℕ → Type 0
HasNumber Days number day = day ≡ number
HasNumber (Months of_month) number day = date_of day ≡ day_in_month number of_month

-- the clock shows m at the turn with that number
pub record IsClockAt (turns : Turns) (number m : ℕ) : Type 0 where
  pub day : HasNumber turns.count number (m / 86400000)
  pub time : m % 86400000 ≡ turns.time

-- the turn at place k
abbrev pub IsTurnOf : Turns → ℕ → ℕ → Type 0
IsTurnOf turns k m = IsClockAt turns (turns.first + k * turns.step) m

-- t is the moment of the turn at place k
pub record HasMoment (Moment : ℕ → ℤ → Type 0) (turns : Turns) (k : ℕ) (t : ℤ) : Type 0 where
  pub clock : ℕ
  pub turn : IsTurnOf turns k clock
  pub at : Moment clock t

-- no turn from the first on, before place k, comes later than `after`
abbrev pub ArePassed : (ℕ → ℤ → Type 0) → Turns → ℤ → ℕ → Type 0
ArePassed Moment turns after k = (j : ℕ) (s : ℤ) → 1 ≤ j → j < k → HasMoment Moment turns j s → s ≤ℤ after

-- 1 to 2 to the power of 40 days or months: 2147483647 weeks or years are fewer
abbrev pub IsStep : Step → Type 0
IsStep (ByDays step) = IsInRange 1 (2 ^ 40) step
IsStep (ByMonths step) = IsInRange 1 (2 ^ 40) step

-- the k-th turn is k steps after the clock l
abbrev pub turns_after : Step → ℕ → ℕ → ℕ → Type 0
turns_after (ByDays step) l k m = IsClockOf (IsDaysLater (k * step)) l m
turns_after (ByMonths step) l k m = IsClockOf (IsMonthsLater (k * step)) l m
