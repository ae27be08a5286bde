-- What the local clock of a rule's table shows.
use Rattle.std.specs.Prelude.{◌≡◌, ℕ, ◌*◌, ◌<◌, pos, ◌+ℤ◌, List}
use Rattle.jiff_core.specs.DateTime.{civil_nanos}
use Rattle.jiff_core.specs.Timestamp.{nanos_of_seconds}
use Rattle.jiff_core.specs.declared.civil.datetime.DateTime.{DateTime}
use Rattle.jiff.specs.Placed.{IsPosixZone}
use Rattle.jiff_tz.specs.Zone.{offset_at as jiff_offset_at}
use Rattle.jiff_tz.specs.declared.timezone.TimeZone.{TimeZone}
use Rattle.qz_civil.specs.declared.limits.TheConstants.{DAY_MS}
use Rattle.qz_civil.specs.declared.stretches.Stretch.{Stretch}
use Rattle.qz_civil.specs.Zones.{local, offset_at}
use Rattle.qz_zone_rule.specs.declared.quarters.TheConstants.{QUARTERS}
use Rattle.qz_zone_rule.specs.Tables.{nanosecond, offset, quarter}

-- At each quarter the table has the offset of the zone that jiff reads the text as, and its local clock, which counts from
-- 1969-12-31T00:00:00 on, shows the date and time to which jiff converts the quarter. Between two quarters nothing is claimed.
pub record ShowsTimes (text : List ℕ) (stretches : List Stretch) : Type 0 where
  pub offsets : (z : TimeZone) → IsPosixZone text z → (i : ℕ) → i < QUARTERS → offset_at stretches (pos (quarter i)) ≡ offset z i
  pub clock : (z : TimeZone) → IsPosixZone text z → (i : ℕ) → i < QUARTERS → (dt : DateTime)
      → civil_nanos dt ≡ nanosecond i +ℤ nanos_of_seconds (jiff_offset_at z (nanosecond i))
      → pos (local stretches (pos (quarter i)) * 1_000_000) ≡ civil_nanos dt +ℤ pos (DAY_MS * 1_000_000)
