use Rattle.std.proofs.Common.{length-set, ℕ, arith}
use Rattle.std.proofs.lemmas.Grind.{common_steps}
use Rattle.qz_queue.proofs.Heaps.{first_slot, second_slot}
use Rattle.qz_queue.proofs.sifts.exchange.Goals as goal

pub bounds-places-first : goal.bounds-places-first
bounds-places-first g c = first_slot c.args.heap.now c.swap.new.self c.args.places.now c.args.low c.args.high _ c.requires.placed c.requires.within c.swap.ensures.by_index

pub bounds-places-second : goal.bounds-places-second
bounds-places-second g c = let h = second_slot c.args.heap.now c.swap.new.self c.args.places.now c.args.low c.args.high c.index-heap-high.result c.requires.placed c.requires.order c.requires.within c.swap.ensures.by_index in omega (arith, length-set {A = ℕ})

pub offset_bounds-places-first : goal.offset_bounds-places-first
offset_bounds-places-first g c = let h = first_slot c.args.heap.now c.swap.new.self c.args.places.now c.args.low c.args.high c.index-heap-low.result c.requires.placed c.requires.within c.swap.ensures.by_index in grind (arith, common_steps)

pub offset_bounds-places-second : goal.offset_bounds-places-second
offset_bounds-places-second g c = let h = second_slot c.args.heap.now c.swap.new.self c.args.places.now c.args.low c.args.high c.index-heap-high.result c.requires.placed c.requires.order c.requires.within c.swap.ensures.by_index in let l = length-set {A = ℕ} in grind (arith, common_steps)
