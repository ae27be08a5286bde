-- The fire times of a calendar-interval trigger. Times are in ms, local clocks are counted from 1969-12-31T00:00:00 on,
-- and days from 1969-12-31 on.
use Rattle.std.specs.Prelude.{◌≡◌, ℕ, ◌+◌, ◌*◌, ◌/◌, ◌%◌, ◌<◌, ◌≤◌, Bool, true, false, ℤ, pos, negsuc, ◌-ℤ◌, ◌<ℤ◌, List, Option, ◌⊎◌, IsTrue}
use Rattle.qz_civil.specs.declared.stretches.Stretch.{Stretch}
use Rattle.qz_civil.specs.declared.timings.Unit.{Unit as Units}
use Rattle.qz_civil.specs.declared.timings.Unit.TheVariants.{Second, Minute, Hour, Day, Week, Month, Year}
use Rattle.qz_civil.specs.Dates.{date_of}
use Rattle.qz_civil.specs.Instants.{IsEarliest, IsShownAt}
use Rattle.qz_civil.specs.Months.{day_in_month, month_number}
use Rattle.qz_civil.specs.Occurrences.{IsBefore}
use Rattle.qz_civil.specs.Timings.{is_timestamp}
use Rattle.qz_civil.specs.Zones.{fixed_offset, local, offset_at}
use Rattle.qz_simple.specs.Simple.{IsSimple}

-- day e comes n days after day d
abbrev pub IsDaysLater : ℕ → ℕ → ℕ → Type 0
IsDaysLater n d e = e ≡ d + n

-- day e lies n months after day d: on the same day of the month, or on the month's last day where it has fewer
abbrev pub IsMonthsLater : ℕ → ℕ → ℕ → Type 0
IsMonthsLater n d e = date_of e ≡ day_in_month (month_number (date_of d) + n) (date_of d).day

-- the clock shows m on such a day after that of l, at the same time of day
pub record IsClockOf (Later : ℕ → ℕ → Type 0) (l m : ℕ) : Type 0 where
  pub day : Later (l / 86400000) (m / 86400000)
  pub time : m % 86400000 ≡ l % 86400000

-- that local time lies in a gap which ends at t: the clock shows less one ms before, and more at t, where a stretch begins
pub record IsGapEnd (zone : List Stretch) (clock : ℕ) (t : ℤ) : Type 0 where
  pub known : IsTrue (is_timestamp t)
  pub before : local zone (t -ℤ pos 1) < clock
  pub after : clock < local zone t

-- the flags `preserve` and `skip`, the zone, the start, and t as the moment of a turn that has that local time. With
-- `preserve` the zone's clock tells it: t is the earliest timestamp that shows it, and without `skip` also the end of the
-- gap in which it lies. Without `preserve` a clock tells it that always has the offset which the zone has at the start.
abbrev pub IsMoment : Bool → Bool → List Stretch → ℤ → ℕ → ℤ → Type 0
IsMoment true true zone start clock t = IsEarliest (IsShownAt zone clock) t
IsMoment true false zone start clock t = IsEarliest (IsShownAt zone clock) t ⊎ IsGapEnd zone clock t
IsMoment false skip zone start clock t = IsShownAt (fixed_offset (offset_at zone start)) clock t

-- t is the moment of a turn after the first
pub record IsLaterTurn (Moment : ℕ → ℤ → Type 0) (IsOccurrence : ℕ → ℕ → Type 0) (t : ℤ) : Type 0 where
  pub place : ℕ
  pub counted : 1 ≤ place
  pub clock : ℕ
  pub turn : IsOccurrence place clock
  pub at : Moment clock t

-- t is the start, or comes after it as a later turn; and before the end
pub record IsDated (Moment : ℕ → ℤ → Type 0) (IsOccurrence : ℕ → ℕ → Type 0) (start : ℤ) (end : Option ℤ) (t : ℤ) : Type 0 where
  pub turn : (t ≡ start) ⊎ ((start <ℤ t) × IsLaterTurn Moment IsOccurrence t)
  pub before : IsBefore end t

-- the k-th turn is k steps after the start, by its local clock
abbrev pub IsDayTurn : List Stretch → ℤ → ℕ → ℕ → ℕ → Type 0
IsDayTurn zone start step k m = IsClockOf (IsDaysLater (k * step)) (local zone start) m

abbrev pub IsMonthTurn : List Stretch → ℤ → ℕ → ℕ → ℕ → Type 0
IsMonthTurn zone start step k m = IsClockOf (IsMonthsLater (k * step)) (local zone start) m

-- t is a fire time. The flags count for days and what is longer.
abbrev pub IsInterval : ℤ → Option ℤ → Units → ℕ → Bool → Bool → List Stretch → ℤ → Type 0
IsInterval start end Second every preserve skip zone = IsSimple start end (pos (every * 1000)) (negsuc 0)
IsInterval start end Minute every preserve skip zone = IsSimple start end (pos (every * 60000)) (negsuc 0)
IsInterval start end Hour every preserve skip zone = IsSimple start end (pos (every * 3600000)) (negsuc 0)
IsInterval start end Day every preserve skip zone = IsDated (IsMoment preserve skip zone start) (IsDayTurn zone start every) start end
IsInterval start end Week every preserve skip zone = IsDated (IsMoment preserve skip zone start) (IsDayTurn zone start (every * 7)) start end
IsInterval start end Month every preserve skip zone = IsDated (IsMoment preserve skip zone start) (IsMonthTurn zone start every) start end
IsInterval start end Year every preserve skip zone = IsDated (IsMoment preserve skip zone start) (IsMonthTurn zone start (every * 12)) start end
