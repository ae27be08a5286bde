use Rattle.qz_queue.proofs.Seen.{empty_in}
use Rattle.qz_queue.proofs.queue.DueQueue.new.Goals as goal

pub invariant_of-result : goal.invariant_of-result
invariant_of-result g c = empty_in g.K.Ranked.stands_before g.K.Ranked.order _ _ c.new.ensures.items
