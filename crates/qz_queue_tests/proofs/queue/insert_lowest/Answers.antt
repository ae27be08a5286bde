use Rattle.std.proofs.Common.{rules, ◌≡◌, ◌≢◌, ◌+◌, ◌<◌, ◌≤◌, length, ℕ, List, arith, nat_lt}
use Rattle.qz_queue.specs.Order.{put_pair}
use Rattle.qz_queue.specs.Numbers.{nat_order}
use Rattle.qz_queue.proofs.Lists.{every_at, every_from}
use Rattle.qz_queue.proofs.Sorts.{at_none, every_put}
use Rattle.qz_queue_tests.proofs.queue.insert_lowest.Goals as goal

pub insert-requires-clause-absent : goal.insert-requires-clause-absent
insert-requires-clause-absent c = at_none c.args.slot c.args.queue.now.pairs (every_from (λ (pair : ℕ × ℕ). pair.1 ≢ c.args.slot) c.args.queue.now.pairs (λ k d p e. let h = c.requires.slots k d p in absurd (omega arith)))

pub returns-clause-slots : goal.returns-clause-slots
returns-clause-slots c = rw c.insert.ensures.pairs
    (λ k d p. every_at (λ (pair : ℕ × ℕ). pair.1 < c.args.slot + 1) (put_pair nat_lt (c.args.due, c.args.slot) c.args.queue.now.pairs) k d
    (every_put nat_lt nat_order (λ (pair : ℕ × ℕ). pair.1 < c.args.slot + 1) (c.args.due, c.args.slot) c.args.queue.now.pairs (omega arith)
    (every_from (λ (pair : ℕ × ℕ). pair.1 < c.args.slot + 1) c.args.queue.now.pairs (λ i e q. let h = c.requires.slots i e q in omega arith))) p)

pub returns-clause-keys : goal.returns-clause-keys
returns-clause-keys c = rw c.insert.ensures.pairs
    (λ k d p. every_at (λ (pair : ℕ × ℕ). c.args.due ≤ pair.0) (put_pair nat_lt (c.args.due, c.args.slot) c.args.queue.now.pairs) k d
    (every_put nat_lt nat_order (λ (pair : ℕ × ℕ). c.args.due ≤ pair.0) (c.args.due, c.args.slot) c.args.queue.now.pairs (omega arith)
    (every_from (λ (pair : ℕ × ℕ). c.args.due ≤ pair.0) c.args.queue.now.pairs (λ i e q. let h = c.requires.keys i e q in omega arith))) p)
