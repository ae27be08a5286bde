use Rattle.std.proofs.Common.{◌≡◌, ◌≤◌, ◌&&◌, not, length, filter, take}
use Rattle.qz_types.specs.States.{is_acquired}
use Rattle.qz_model.specs.Tests.{is_of}
use Rattle.qz_recover.proofs.leaving.executions_of.Given as goal

abbrev pub invariant-loop-place : goal.invariant-loop-place
invariant-loop-place l = (l.count ≡ length (filter (λ f. not (is_acquired f.state) && is_of l.me f) (take l.place l.tables.tables.fired))) × (l.count ≤ l.place)
