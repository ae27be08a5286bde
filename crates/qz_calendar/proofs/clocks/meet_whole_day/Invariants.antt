use Rattle.std.proofs.Common.{◌≡◌, ◌<◌, ℕ, true, take}
use Rattle.qz_civil.specs.Fields.{has_bit}
use Rattle.qz_calendar.specs.Search.{any_meets_at}
use Rattle.qz_calendar.proofs.clocks.meet_whole_day.Given as goal

abbrev pub invariant-loop-field : goal.invariant-loop-field
invariant-loop-field l = (h m s : ℕ) → h < 24 → m < 60 → has_bit l.met s ≡ true → any_meets_at (take l.field-index l.fields) h m s ≡ true
