use Rattle.std.proofs.Common.{arith, refl}
use Rattle.qz_queue.proofs.Heaps.{left_over, right_over}
use Rattle.qz_queue.proofs.sifts.first_child.Goals as goal
use Rattle.qz_queue.proofs.sifts.first_child.Goals.{else-right-heap-via-then-right-heap+else-compare_at, else-right-heap-via-else-right-heap}

pub returns-then-compare_at-clause-best : goal.returns-then-compare_at-clause-best
returns-then-compare_at-clause-best g c = right_over g.K.Ranked.stands_before g.K.Ranked.order c.args.heap.now c.args.at _ refl c.if-compare_at.ensures.answer

pub returns-else-right-heap-clause-best : goal.returns-else-right-heap-clause-best
returns-else-right-heap-clause-best g c = left_over g.K.Ranked.stands_before g.K.Ranked.order c.args.heap.now c.args.at _ refl
    (elim c.else-right-heap.branch [ else-right-heap-via-then-right-heap+else-compare_at w ↦ λ h. w.if-compare_at.ensures.answer | else-right-heap-via-else-right-heap w ↦ λ h. absurd (omega arith) ])
