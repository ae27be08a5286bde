-- Which offset a rule has at an instant, by what its text reads as. These are the definitions of jiff's `PosixRule`, whose rules
-- carry proofs that no definition can make out of a text; `rules_are_jiffs` says that both agree. Instants are in ns.
use Rattle.std.specs.Prelude.{ℤ, ◌+ℤ◌, ◌-ℤ◌, ◌*ℤ◌, ◌&&◌, ◌||◌, int_lt, Option, Some, None, if◌then◌else◌}
use Rattle.jiff_core.specs.Timestamp.{nanos_of_seconds}
use Rattle.jiff_tz.specs.PosixRule.{rule_day, match_some, clamp_to, nanos_per_day, first_nanosecond, last_nanosecond, saturating_add, int_same, in_window}
use Rattle.jiff_tz.specs.PosixText.{TzText, DstText}
use Rattle.jiff_tz.specs.Year.{year_of_nanos}
use Rattle.jiff_tz.specs.declared.posix.Day.{Day}

-- when a day and its seconds fall in the year, for a clock that is `seconds` ahead of UTC; what would leave the year stays at its
-- edge, and a day that the year lacks is its end
unfoldable pub moment : ℤ → Day × ℤ → ℤ → ℤ
moment y d seconds = match_some (rule_day y d.0) (last_nanosecond y) (λ day.
    clamp_to (first_nanosecond y) (last_nanosecond y)
    (day *ℤ nanos_per_day +ℤ nanos_of_seconds (d.1 -ℤ seconds)))

-- when daylight saving time begins and ends in the year; where it begins as the year does and its end, read at standard time,
-- leaves the year, it is in force all year
unfoldable pub window : DstText → ℤ → ℤ → ℤ × ℤ
window d y std =
    let start : ℤ = moment y d.start std in
    let end : ℤ = moment y d.finish d.seconds in
    let shifted : ℤ = saturating_add end (nanos_of_seconds std) in
    if int_same start (first_nanosecond y)
    && (int_lt shifted (first_nanosecond y) || int_lt (last_nanosecond y) shifted)
    then (start, last_nanosecond y)
    else (start, end)

abbrev pub seconds_by : ℤ → Option DstText → ℤ → ℤ
seconds_by std None n = std
seconds_by std (Some d) n = if in_window (window d (year_of_nanos n) std) n then d.seconds else std

-- local time less UTC, in seconds
abbrev pub seconds_at : TzText → ℤ → ℤ
seconds_at rule n = seconds_by rule.std_seconds rule.dst n
