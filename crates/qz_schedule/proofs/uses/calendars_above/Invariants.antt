use Rattle.std.proofs.Common.{◌≡◌, count_by, take}
use Rattle.qz_model.specs.Calendars.{is_named}
use Rattle.qz_schedule.proofs.uses.calendars_above.Given as goal

abbrev pub invariant-loop-place : goal.invariant-loop-place
invariant-loop-place l = l.count ≡ count_by (λ c. is_named l.name c.base) (take l.place l.tables.tables.calendars)
