use Rattle.std.proofs.Common.{arith}
use Rattle.qz_queue.proofs.Seen.{placed_widened}
use Rattle.qz_queue.proofs.queue.DueQueue.reserve.Goals as goal

pub invariant_of-self-2 : goal.invariant_of-self-2
invariant_of-self-2 g c =
    let inv = c.self.invariant in
    rw c.in_ok-reserve.ensures.items (record { heap = inv.heap; placed = placed_widened c.self.inside.heap.items c.self.inside.places.items c.widen.new.places.items (omega arith) c.widen.ensures.same inv.placed; apart = inv.apart })
