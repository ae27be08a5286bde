use Rattle.std.proofs.Common.{◌≡◌, count_by, take}
use Rattle.qz_model.specs.Calendars.{is_named}
use Rattle.qz_model.specs.Plan.{zone_named_by}
use Rattle.qz_schedule.proofs.uses.triggers_in_zone.Given as goal

abbrev pub invariant-loop-place : goal.invariant-loop-place
invariant-loop-place l = l.count ≡ count_by (λ t. is_named l.name (zone_named_by t.spec.timing.kind)) (take l.place l.tables.tables.triggers)
