use Rattle.std.proofs.Common.{◌≡◌, map, filter, take}
use Rattle.qz_model.specs.Recovery.{recovery_trigger}
use Rattle.qz_recover.specs.Recovering.{is_recovered_by}
use Rattle.qz_recover.proofs.recovery_triggers.recoveries.Given as goal

abbrev pub invariant-loop-place : goal.invariant-loop-place
invariant-loop-place l = l.triggers.items ≡ map (recovery_trigger l.tables.tables.paused_groups l.tables.tables.paused_job_groups) (filter (is_recovered_by l.tables.tables.jobs l.member) (take l.place l.tables.tables.fired))
