use Rattle.std.proofs.Common.{sym}
use Rattle.qz_queue.proofs.Seen.{none_in, same_in, key_in, rest_in, cheap_in}
use Rattle.qz_queue.proofs.Known.{known_heap}
use Rattle.qz_queue.proofs.queue.DueQueue.remove.Goals as goal

pub returns-in-Some-clause-key : goal.returns-in-Some-clause-key
returns-in-Some-clause-key g c = rw (← c.self.view_is) (sym (key_in g.K.Ranked.stands_before g.K.Ranked.order c.self.inside.heap.items c.take_out.new.heap.items _ _ c.take_out.ensures.pairs c.take_out.ensures.others))

pub returns-in-Some-clause-pairs : goal.returns-in-Some-clause-pairs
returns-in-Some-clause-pairs g c = rw (← c.self.view_is) (sym (rest_in g.K.Ranked.stands_before g.K.Ranked.order c.self.inside.heap.items c.take_out.new.heap.items _ _ c.take_out.ensures.pairs c.take_out.ensures.others))

pub returns-in-Some-clause-calls : goal.returns-in-Some-clause-calls
returns-in-Some-clause-calls g c = rw (← c.self.view_is) (cheap_in g.K.Ranked.stands_before g.K.Ranked.order c.self.inside.heap.items _ _ c.take_out.ensures.calls)

pub returns-in-None-clause-key : goal.returns-in-None-clause-key
returns-in-None-clause-key g c = rw (← c.self.view_is) (sym (none_in g.K.Ranked.stands_before g.K.Ranked.order c.self.inside.heap.items c.args.slot (rw c.deref.ensures.value at c.in-None.ensures.missing)))

pub returns-in-None-clause-pairs : goal.returns-in-None-clause-pairs
returns-in-None-clause-pairs g c = rw (← c.self.view_is) (sym (same_in g.K.Ranked.stands_before g.K.Ranked.order c.self.inside.heap.items c.args.slot (rw c.deref.ensures.value at c.in-None.ensures.missing)))

pub take_out-requires-clause-known : goal.take_out-requires-clause-known
take_out-requires-clause-known g c = known_heap g.K.Ranked.stands_before g.K.Ranked.order (g.C.Compare.Knows c.args.compare.now) c.self.inside.heap.items (rw (← c.self.view_is) at c.requires.known)

pub returns-in-Some-clause-gone : goal.returns-in-Some-clause-gone
returns-in-Some-clause-gone g c = none_in g.K.Ranked.stands_before g.K.Ranked.order c.take_out.new.heap.items c.args.slot c.take_out.ensures.others

pub returns-in-None-clause-gone : goal.returns-in-None-clause-gone
returns-in-None-clause-gone g c = rw (← c.self.view_is) (none_in g.K.Ranked.stands_before g.K.Ranked.order c.self.inside.heap.items c.args.slot (rw c.deref.ensures.value at c.in-None.ensures.missing))
