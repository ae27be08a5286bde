use Rattle.std.proofs.Common.{◌-◌, arith}
use Rattle.qz_queue.proofs.Edited.{moved_placed, moved_but, taken, taken_last}
use Rattle.qz_queue.proofs.edits.take_out.Goals as goal

pub returns-then-at-last-clause-indexed : goal.returns-then-at-last-clause-indexed
returns-then-at-last-clause-indexed g c = (taken_last g.K.Ranked.stands_before g.K.Ranked.order c.args.heap.now.items _ c.args.places.now c.pop_last.result c.pop_last.ensures.items.0 c.args.slot c.args.at (omega arith) c.pop_last.ensures.items.1 c.requires.indexed c.requires.held).indexed

pub returns-then-at-last-clause-pairs : goal.returns-then-at-last-clause-pairs
returns-then-at-last-clause-pairs g c = (taken_last g.K.Ranked.stands_before g.K.Ranked.order c.args.heap.now.items _ c.args.places.now c.pop_last.result c.pop_last.ensures.items.0 c.args.slot c.args.at (omega arith) c.pop_last.ensures.items.1 c.requires.indexed c.requires.held).pairs

pub returns-then-at-last-clause-others : goal.returns-then-at-last-clause-others
returns-then-at-last-clause-others g c = (taken_last g.K.Ranked.stands_before g.K.Ranked.order c.args.heap.now.items _ c.args.places.now c.pop_last.result c.pop_last.ensures.items.0 c.args.slot c.args.at (omega arith) c.pop_last.ensures.items.1 c.requires.indexed c.requires.held).others

pub settle_in-requires-clause-placed : goal.settle_in-requires-clause-placed
settle_in-requires-clause-placed g c = moved_placed g.K.Ranked.stands_before g.K.Ranked.order c.exchange_in.new.heap.items _ _ _ c.pop_last-key.ensures.items.1 c.exchange_in.ensures.placed

pub settle_in-requires-clause-heap : goal.settle_in-requires-clause-heap
settle_in-requires-clause-heap g c = moved_but g.K.Ranked.stands_before g.K.Ranked.order c.args.heap.now.items c.exchange_in.new.heap.items _ _ c.args.at (c.len-last.result - 1) (omega arith) (omega arith) (omega arith) c.exchange_in.ensures.swapped c.pop_last-key.ensures.items.1 c.requires.indexed.heap

pub returns-clause-indexed : goal.returns-clause-indexed
returns-clause-indexed g c = (taken g.K.Ranked.stands_before g.K.Ranked.order c.args.heap.now.items c.exchange_in.new.heap.items c.pop_last-key.new.heap.items c.settle_in.new.heap.items c.args.places.now c.exchange_in.new.places c.settle_in.new.places c.pop_last-key.result c.pop_last-key.ensures.items.0 c.args.slot c.args.at (c.len-last.result - 1) (omega arith) (omega arith) (omega arith) c.exchange_in.ensures.swapped c.exchange_in.ensures.permutation c.exchange_in.ensures.placed c.pop_last-key.ensures.items.1 c.settle_in.ensures.permutation c.settle_in.ensures.placed c.settle_in.ensures.heap c.requires.indexed c.requires.held).indexed

pub returns-clause-pairs : goal.returns-clause-pairs
returns-clause-pairs g c = (taken g.K.Ranked.stands_before g.K.Ranked.order c.args.heap.now.items c.exchange_in.new.heap.items c.pop_last-key.new.heap.items c.settle_in.new.heap.items c.args.places.now c.exchange_in.new.places c.settle_in.new.places c.pop_last-key.result c.pop_last-key.ensures.items.0 c.args.slot c.args.at (c.len-last.result - 1) (omega arith) (omega arith) (omega arith) c.exchange_in.ensures.swapped c.exchange_in.ensures.permutation c.exchange_in.ensures.placed c.pop_last-key.ensures.items.1 c.settle_in.ensures.permutation c.settle_in.ensures.placed c.settle_in.ensures.heap c.requires.indexed c.requires.held).pairs

pub returns-clause-others : goal.returns-clause-others
returns-clause-others g c = (taken g.K.Ranked.stands_before g.K.Ranked.order c.args.heap.now.items c.exchange_in.new.heap.items c.pop_last-key.new.heap.items c.settle_in.new.heap.items c.args.places.now c.exchange_in.new.places c.settle_in.new.places c.pop_last-key.result c.pop_last-key.ensures.items.0 c.args.slot c.args.at (c.len-last.result - 1) (omega arith) (omega arith) (omega arith) c.exchange_in.ensures.swapped c.exchange_in.ensures.permutation c.exchange_in.ensures.placed c.pop_last-key.ensures.items.1 c.settle_in.ensures.permutation c.settle_in.ensures.placed c.settle_in.ensures.heap c.requires.indexed c.requires.held).others
