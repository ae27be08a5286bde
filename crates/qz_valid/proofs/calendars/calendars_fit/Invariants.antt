use Rattle.std.proofs.Common.{◌≡◌, true, take}
use Rattle.std.specs.List.{list_all}
use Rattle.qz_valid.specs.Calendars.{calendar_fits}
use Rattle.qz_valid.proofs.calendars.calendars_fit.Given as goal

abbrev pub invariant-loop-place : goal.invariant-loop-place
invariant-loop-place l = list_all (calendar_fits l.tables.tables) (take l.place l.tables.tables.calendars) ≡ true
