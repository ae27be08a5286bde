use Rattle.std.proofs.Common.{◌≡◌, ◌≤◌, length, filter, take}
use Rattle.qz_recover.specs.Recovering.{is_recovered_by}
use Rattle.qz_recover.proofs.recovery_triggers.count_recoveries.Given as goal

abbrev pub invariant-loop-place : goal.invariant-loop-place
invariant-loop-place l = (l.count ≡ length (filter (is_recovered_by l.tables.tables.jobs l.member) (take l.place l.tables.tables.fired))) × (l.count ≤ l.place)
