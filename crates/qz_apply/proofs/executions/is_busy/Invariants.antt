use Rattle.std.proofs.Common.{◌≡◌, false, take}
use Rattle.std.specs.List.{list_any}
use Rattle.qz_model.specs.Executions.{is_exclusive_of}
use Rattle.qz_apply.proofs.executions.is_busy.Given as goal

abbrev pub invariant-loop-place : goal.invariant-loop-place
invariant-loop-place l = list_any (is_exclusive_of l.key) (take l.place l.tables.tables.fired) ≡ false
