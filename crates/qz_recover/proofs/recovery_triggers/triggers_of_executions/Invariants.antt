use Rattle.std.proofs.Common.{◌≡◌, map, filter, take}
use Rattle.qz_recover.specs.Recovering.{is_execution_of}
use Rattle.qz_recover.proofs.recovery_triggers.triggers_of_executions.Given as goal

abbrev pub invariant-loop-place : goal.invariant-loop-place
invariant-loop-place l = l.keys.items ≡ map (λ f. f.trigger) (filter (is_execution_of l.member) (take l.place l.tables.tables.fired))
