use Rattle.std.proofs.Common.{◌≡◌, count_by, take}
use Rattle.qz_types.specs.Words.{same_text}
use Rattle.qz_schedule.proofs.uses.calendars_in_zone.Given as goal

abbrev pub invariant-loop-place : goal.invariant-loop-place
invariant-loop-place l = l.count ≡ count_by (λ c. same_text l.name c.zone) (take l.place l.tables.tables.calendars)
