use Rattle.std.proofs.Common.{◌≡◌, count_by, take, not}
use Rattle.qz_types.specs.States.{is_acquired}
use Rattle.qz_board_stores.proofs.executing.count_executing.Given as goal

abbrev pub invariant-loop-place : goal.invariant-loop-place
invariant-loop-place l = l.count ≡ count_by (λ f. not (is_acquired f.state)) (take l.place l.tables.tables.fired)
