use Rattle.std.proofs.Common.{sym}
use Rattle.qz_queue.proofs.Seen.{first_in, ascending_in, slots_apart_in}
use Rattle.qz_queue.proofs.queue.DueQueue.first.Goals as goal

pub returns-in-Some-clause-first : goal.returns-in-Some-clause-first
returns-in-Some-clause-first g c = let h = rw c.deref.ensures.value at c.in-Some.ensures.item in rw (← c.self.view_is) (sym (first_in g.K.Ranked.stands_before g.K.Ranked.order c.self.inside.heap.items c.in-Some.pair.now c.self.invariant.heap h.3.0 (h.3.1 c.in-Some.pair.now)))

pub returns-in-Some-clause-ascending : goal.returns-in-Some-clause-ascending
returns-in-Some-clause-ascending g c = rw (← c.self.view_is) (ascending_in g.K.Ranked.stands_before g.K.Ranked.order c.self.inside.heap.items c.self.inside.places.items c.self.invariant)

pub returns-in-Some-clause-slots : goal.returns-in-Some-clause-slots
returns-in-Some-clause-slots g c = rw (← c.self.view_is) (slots_apart_in g.K.Ranked.stands_before g.K.Ranked.order c.self.inside.heap.items c.self.inside.places.items c.self.invariant)
