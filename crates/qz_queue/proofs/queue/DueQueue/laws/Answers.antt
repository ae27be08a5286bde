use Rattle.qz_queue.proofs.Seen.{ascending_in, slots_apart_in}
use Rattle.qz_queue.proofs.queue.DueQueue.laws.Goals as goal

pub returns-clause-ascending : goal.returns-clause-ascending
returns-clause-ascending g c = rw (← c.self.view_is) (ascending_in g.K.Ranked.stands_before g.K.Ranked.order c.self.inside.heap.items c.self.inside.places.items c.self.invariant)

pub returns-clause-slots : goal.returns-clause-slots
returns-clause-slots g c = rw (← c.self.view_is) (slots_apart_in g.K.Ranked.stands_before g.K.Ranked.order c.self.inside.heap.items c.self.inside.places.items c.self.invariant)
