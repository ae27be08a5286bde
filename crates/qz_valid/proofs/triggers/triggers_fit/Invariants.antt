use Rattle.std.proofs.Common.{◌≡◌, true, take}
use Rattle.std.specs.List.{list_all}
use Rattle.qz_valid.specs.Triggers.{trigger_fits}
use Rattle.qz_valid.proofs.triggers.triggers_fit.Given as goal

abbrev pub invariant-loop-place : goal.invariant-loop-place
invariant-loop-place l = list_all (trigger_fits l.tables.tables l.acquired l.exclusive) (take l.place l.tables.tables.triggers) ≡ true
