use Rattle.std.proofs.Common.{◌≡◌, ℕ, take}
use Rattle.qz_civil.specs.Fields.{has_bit}
use Rattle.qz_calendar.specs.Search.{any_meets_at}
use Rattle.qz_calendar.proofs.clocks.seconds_met.Given as goal

abbrev pub invariant-loop-field : goal.invariant-loop-field
invariant-loop-field l = (s : ℕ) → has_bit l.met s ≡ any_meets_at (take l.field-index l.fields) l.hour l.minute s
