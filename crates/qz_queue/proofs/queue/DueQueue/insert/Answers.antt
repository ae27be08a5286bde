use Rattle.qz_queue.proofs.Seen.{absent_in, free_new, cheap_in}
use Rattle.qz_queue.proofs.Known.{known_heap}
use Rattle.qz_queue.proofs.queue.DueQueue.insert.Goals as goal

pub add-requires-clause-absent : goal.add-requires-clause-absent
add-requires-clause-absent g c = absent_in g.K.Ranked.stands_before g.K.Ranked.order c.self.inside.heap.items c.args.slot (rw (← c.self.view_is) at c.requires.absent)

pub add-requires-clause-free : goal.add-requires-clause-free
add-requires-clause-free g c = free_new g.K.Ranked.stands_before g.K.Ranked.order c.self.inside.heap.items c.args.due c.args.slot (rw (← c.self.view_is) at c.requires.absent) (rw (← c.self.view_is) at c.requires.free)

pub returns-clause-calls : goal.returns-clause-calls
returns-clause-calls g c = rw (← c.self.view_is) (cheap_in g.K.Ranked.stands_before g.K.Ranked.order c.self.inside.heap.items _ _ c.add.ensures.calls)

pub add-requires-clause-known : goal.add-requires-clause-known
add-requires-clause-known g c = known_heap g.K.Ranked.stands_before g.K.Ranked.order (g.C.Compare.Knows c.args.compare.now) c.self.inside.heap.items (rw (← c.self.view_is) at c.requires.known)
