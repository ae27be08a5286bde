-- What each level of the search looks for. Days and seconds of the local clock are counted from 1969-12-31T00:00:00 on.
use Rattle.std.specs.Prelude.{ℕ, ◌*◌, ◌/◌, ◌%◌, Bool, ◌&&◌, pos, List}
use Rattle.qz_civil.specs.declared.limits.TheConstants.{DAY_SECONDS}
use Rattle.qz_civil.specs.declared.stretches.Stretch.{Stretch}
use Rattle.qz_civil.specs.Dates.{weekday_of}
use Rattle.qz_civil.specs.Zones.{civil}
use Rattle.qz_daily.specs.declared.patterns.Pattern.{Pattern}
use Rattle.qz_daily.specs.Timestamps.{is_time, is_weekday}

-- the day is chosen by its weekday
abbrev pub has_day : Pattern → ℕ → Bool
has_day p day = is_weekday p (weekday_of day)

-- the second of the local clock is in the pattern
abbrev pub is_second : Pattern → ℕ → Bool
is_second p second = has_day p (second / DAY_SECONDS) && is_time p (second % DAY_SECONDS)

-- the zone's local time at second s from 1970-01-01T00:00:00Z on is in the pattern
abbrev pub is_at : Pattern → List Stretch → ℕ → Bool
is_at p zone s = is_weekday p (civil zone (pos (s * 1000))).weekday && is_time p (civil zone (pos (s * 1000))).second
