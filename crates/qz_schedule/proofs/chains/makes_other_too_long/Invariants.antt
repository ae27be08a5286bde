use Rattle.std.proofs.Common.{◌≡◌, false, not, ◌&&◌, take}
use Rattle.std.specs.List.{list_any}
use Rattle.qz_types.specs.Words.{same_text}
use Rattle.qz_model.specs.Calendars.{with_new_calendar, is_too_long}
use Rattle.qz_schedule.proofs.chains.makes_other_too_long.Given as goal

abbrev pub invariant-loop-place : goal.invariant-loop-place
invariant-loop-place l =
    list_any (λ d. not (same_text l.new.name d.name) && is_too_long (with_new_calendar l.new l.tables.tables.calendars) d) (take l.place l.tables.tables.calendars) ≡ false
