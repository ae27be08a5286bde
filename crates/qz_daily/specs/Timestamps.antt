-- The timestamps of a daily trigger, as of Quartz's DailyTimeIntervalTrigger: the last time of the day is included, the end isn't.
use Rattle.std.specs.Prelude.{◌≡◌, ℕ, ◌-◌, ◌*◌, ◌%◌, Bool, true, ◌&&◌, ◌==◌, nat_le, ℤ, pos, ◌≤ℤ◌, List, Option, unwrap_or}
use Rattle.qz_civil.specs.declared.stretches.Stretch.{Stretch}
use Rattle.qz_civil.specs.declared.timings.Unit.{Unit}
use Rattle.qz_civil.specs.Fields.{has_bit}
use Rattle.qz_civil.specs.Timings.{seconds}
use Rattle.qz_civil.specs.Occurrences.{IsBefore}
use Rattle.qz_civil.specs.Zones.{civil}
use Rattle.qz_daily.specs.declared.patterns.Pattern.{Pattern}

-- so many units in seconds; with units that vary in length the step is 0, so that a day has one time at most
unfoldable pub step_of : Unit → ℕ → ℕ
step_of unit every = every * unwrap_or (seconds unit) 0

-- each so many units from one second of the day to another, on those days
abbrev pub pattern : Unit → ℕ → ℕ → ℕ → ℕ → Pattern
pattern unit every from to days = record { step = step_of unit every; from = from; to = to; days = days }

-- the weekday, from 1 for Sunday, is chosen
abbrev pub is_weekday : Pattern → ℕ → Bool
is_weekday p weekday = has_bit p.days (weekday - 1)

-- the second of the day is `from` or a number of steps later, up to `to`
unfoldable pub is_time : Pattern → ℕ → Bool
is_time p second = (nat_le p.from second && nat_le second p.to) && ((second - p.from) % p.step == 0)

-- t is in the schedule: a whole second begins at t, and the local time at t is in the pattern
pub record IsDaily (start : ℤ) (end : Option ℤ) (p : Pattern) (zone : List Stretch) (t : ℤ) : Type 0 where
  pub second : ℕ
  pub whole : t ≡ pos (second * 1000)
  pub day : is_weekday p (civil zone t).weekday ≡ true
  pub time : is_time p (civil zone t).second ≡ true
  pub started : start ≤ℤ t
  pub before : IsBefore end t
