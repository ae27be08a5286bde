use Rattle.std.proofs.Common.{◌≡◌, ◌≤◌, length, drop, filter, option_copied}
use Rattle.std.specs.List.{slice_get}
use Rattle.qz_types.specs.Due.{in_due_order}
use Rattle.qz_tables.specs.Due.{waits_and}
use Rattle.qz_tables.proofs.due.first_waiting.Given as goal

abbrev pub decreases-loop-place : goal.decreases-loop-place
decreases-loop-place g l = l.place

abbrev pub invariant-loop-place : goal.invariant-loop-place
invariant-loop-place g l = (l.place ≤ length l.triggers.rows)
    × (option_copied l.first ≡ slice_get (in_due_order (filter (waits_and (option_copied l.after) (g.T.Test.test l.test)) (drop l.place l.triggers.rows))) 0)
