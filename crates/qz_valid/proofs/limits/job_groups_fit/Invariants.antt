use Rattle.std.proofs.Common.{◌≡◌, true, take}
use Rattle.std.specs.List.{list_all}
use Rattle.qz_civil.specs.Timings.{is_name}
use Rattle.qz_valid.proofs.limits.job_groups_fit.Given as goal

abbrev pub invariant-loop-place : goal.invariant-loop-place
invariant-loop-place l = list_all is_name (take l.place l.tables.tables.paused_job_groups) ≡ true
