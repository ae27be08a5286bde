use Rattle.std.proofs.Common.{◌≡◌, ◌≤◌, ◌-◌, length, drop, filter}
use Rattle.std.specs.List.{slice_get}
use Rattle.qz_types.specs.States.{is_acquired_for}
use Rattle.qz_tables.proofs.fired.first_acquired.Given as goal

abbrev pub decreases-loop-place : goal.decreases-loop-place
decreases-loop-place l = length l.rows.rows - l.place

abbrev pub invariant-loop-place : goal.invariant-loop-place
invariant-loop-place l = (l.place ≤ length l.rows.rows)
    × (slice_get (filter (is_acquired_for l.trigger) l.rows.rows) 0 ≡ slice_get (filter (is_acquired_for l.trigger) (drop l.place l.rows.rows)) 0)
