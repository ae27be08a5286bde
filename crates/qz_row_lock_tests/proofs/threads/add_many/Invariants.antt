use Rattle.std.proofs.Common.{◌≡◌, false}
use Rattle.qz_row_lock.specs.Seats.{IsOf, is_out}
use Rattle.qz_row_lock_tests.proofs.threads.add_many.Given as goal

abbrev pub invariant-loop-value : goal.invariant-loop-value
invariant-loop-value g l = IsOf l.lock l.seat × (is_out l.seat ≡ false) × (l.seat.parts ≡ l.initial.seat.parts)
