-- The schedule of a trigger: the timestamps at which it fires, whatever a calendar excludes. Times are in ms.
use Rattle.std.specs.Prelude.{◌*◌, ◌/◌, ℤ, pos, ◌≤ℤ◌, int_le, if◌then◌else◌, unsigned_abs, List, Option, Some, None}
use Rattle.qz_civil.specs.declared.fields.CronFields.{CronFields}
use Rattle.qz_civil.specs.declared.stretches.Stretch.{Stretch}
use Rattle.qz_civil.specs.declared.timings.Kind.{Kind}
use Rattle.qz_civil.specs.declared.timings.Kind.TheVariants.{Simple, Cron, Interval, Daily}
use Rattle.qz_civil.specs.declared.timings.Timing.{Timing}
use Rattle.qz_cron.specs.Moments.{IsMatch}
use Rattle.qz_daily.specs.Timestamps.{IsDaily, pattern}
use Rattle.qz_interval.specs.Interval.{IsInterval}
use Rattle.qz_simple.specs.Simple.{IsSimple}

-- t is not after the end, where there is one
abbrev pub IsUpTo : Option ℤ → ℤ → Type 0
IsUpTo None t = Unit {0}
IsUpTo (Some end) t = t ≤ℤ end

-- what was found, unless it comes after the end
abbrev pub up_to : Option ℤ → Option ℤ → Option ℤ
up_to None found = found
up_to (Some end) None = None
up_to (Some end) (Some t) = if int_le t end then Some t else None

-- the whole second in which the start lies
abbrev pub start_second : ℤ → ℤ
start_second start = pos (unsigned_abs start / 1000 * 1000)

-- the local time at t meets the fields, and t comes neither before the second of the start nor after the end
pub record IsCron (fields : CronFields) (zone : List Stretch) (start : ℤ) (end : Option ℤ) (t : ℤ) : Type 0 where
  pub meets : IsMatch fields zone t
  pub started : start_second start ≤ℤ t
  pub before : IsUpTo end t

-- by kind; a simple trigger has no zone
abbrev pub IsOfKind : Kind → List Stretch → ℤ → Option ℤ → ℤ → Type 0
IsOfKind (Simple interval count) zone start end t = IsSimple start end interval count t
IsOfKind (Cron fields name) zone start end t = IsCron fields zone start end t
IsOfKind (Interval unit every name preserve skip) zone start end t = IsInterval start end unit every preserve skip zone t
IsOfKind (Daily unit every from to days name) zone start end t = IsDaily start end (pattern unit every from to days) zone t

-- t is a fire time of that timing, in the zone that its kind names
abbrev pub IsScheduled : Timing → List Stretch → ℤ → Type 0
IsScheduled timing zone t = IsOfKind timing.kind zone timing.start timing.end t
