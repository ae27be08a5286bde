use Rattle.std.proofs.Common.{◌≡◌, true, take}
use Rattle.std.specs.List.{list_all}
use Rattle.qz_valid.specs.Fired.{fired_fits}
use Rattle.qz_valid.proofs.fired.all_fired_fit.Given as goal

abbrev pub invariant-loop-place : goal.invariant-loop-place
invariant-loop-place l = list_all (fired_fits l.tables.tables l.exclusive) (take l.place l.tables.tables.fired) ≡ true
