use Rattle.qz_queue.proofs.Seen.{free_in, none_in, cheap_in, some_or_none}
use Rattle.qz_queue.proofs.Known.{known_heap}
use Rattle.qz_queue.proofs.queue.DueQueue.change.Goals as goal

pub change_at-requires-clause-free : goal.change_at-requires-clause-free
change_at-requires-clause-free g c = rw c.deref_mut.ensures.value (free_in g.K.Ranked.stands_before g.K.Ranked.order c.self.inside.heap.items c.args.due c.args.slot (rw (← c.self.view_is) at c.requires.free))

pub unreachable-requires : goal.unreachable-requires
unreachable-requires g c = some_or_none _ (rw (← c.self.view_is) at c.requires.present) (none_in g.K.Ranked.stands_before g.K.Ranked.order c.self.inside.heap.items c.args.slot (rw c.deref.ensures.value at c.in-None.ensures.missing))

pub returns-clause-calls : goal.returns-clause-calls
returns-clause-calls g c = rw (← c.self.view_is) (cheap_in g.K.Ranked.stands_before g.K.Ranked.order c.self.inside.heap.items _ _ (rw c.deref_mut.ensures.value at c.change_at.ensures.calls))

pub change_at-requires-clause-known : goal.change_at-requires-clause-known
change_at-requires-clause-known g c = rw c.deref_mut.ensures.value (known_heap g.K.Ranked.stands_before g.K.Ranked.order (g.C.Compare.Knows c.args.compare.now) c.self.inside.heap.items (rw (← c.self.view_is) at c.requires.known))
