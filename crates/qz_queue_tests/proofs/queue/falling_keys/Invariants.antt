use Rattle.std.proofs.Common.{◌≡◌, ◌+◌, ◌-◌, ◌<◌, ◌≤◌, length, ℕ, ◌*◌}
use Rattle.std.specs.List.{All}
use Rattle.qz_queue_tests.proofs.queue.falling_keys.Given as goal

abbrev pub invariant-loop-pairs : goal.invariant-loop-pairs
invariant-loop-pairs g l = record {
  places : 1000 ≤ l.queue.places;
  room : 1000 ≤ l.queue.spare + l.pairs-counter;
  slots : All (λ (pair : ℕ × ℕ). pair.1 < l.pairs-counter) l.queue.pairs;
  keys : All (λ (pair : ℕ × ℕ). 1000 < pair.0 + l.pairs-counter) l.queue.pairs;
}
