use Rattle.std.proofs.Common.{◌≡◌, false, take}
use Rattle.std.specs.List.{list_any}
use Rattle.qz_model.specs.Jobs.{has_other_flag}
use Rattle.qz_schedule.proofs.jobs.flag_refusal.Given as goal

abbrev pub invariant-loop-place : goal.invariant-loop-place
invariant-loop-place l = list_any (has_other_flag l.job) (take l.place l.tables.tables.fired) ≡ false
