use Rattle.std.proofs.Common.{◌≡◌, ◌-◌, length, ℕ, arith, [], ◌∷◌, ◌++◌, subst, set, length-append}
use Rattle.qz_queue.specs.Heap.{IsPlaced, IsHeapBut}
use Rattle.qz_queue.proofs.Edited.{placed_added, but_added, added}
use Rattle.qz_queue.proofs.edits.add.Goals as goal

pub lift_in-requires-clause-placed : goal.lift_in-requires-clause-placed
lift_in-requires-clause-placed g c =
    let n : length c.args.heap.now.items ≡ c.len-at.result = omega arith in
    rw c.append.ensures.items (subst (λ (k : ℕ). IsPlaced (c.args.heap.now.items ++ (c.args.due, c.args.slot) ∷ []) (set c.args.places.now c.args.slot k)) n (placed_added c.args.heap.now.items c.args.places.now (c.args.due, c.args.slot) c.requires.indexed.placed c.requires.absent c.requires.place))

pub lift_in-requires-clause-heap : goal.lift_in-requires-clause-heap
lift_in-requires-clause-heap g c =
    let e = c.append.ensures.items in
    let n : length c.args.heap.now.items ≡ length (c.args.heap.now.items ++ (c.args.due, c.args.slot) ∷ []) - 1 = omega (arith, length-append c.args.heap.now.items ((c.args.due, c.args.slot) ∷ [])) in
    rw e (subst (λ (k : ℕ). IsHeapBut g.K.Ranked.stands_before (c.args.heap.now.items ++ (c.args.due, c.args.slot) ∷ []) k) n (but_added g.K.Ranked.stands_before g.K.Ranked.order c.args.heap.now.items (c.args.due, c.args.slot) c.requires.indexed.heap))

pub returns-clause-indexed : goal.returns-clause-indexed
returns-clause-indexed g c =
    let told = c.lift_in.ensures in
    (added g.K.Ranked.stands_before g.K.Ranked.order c.args.heap.now.items c.lift_in.new.heap.items c.args.places.now c.lift_in.new.places (c.args.due, c.args.slot) c.requires.indexed c.requires.free (rw c.append.ensures.items at told.permutation) told.placed told.heap).0

pub returns-clause-pairs : goal.returns-clause-pairs
returns-clause-pairs g c =
    let told = c.lift_in.ensures in
    (added g.K.Ranked.stands_before g.K.Ranked.order c.args.heap.now.items c.lift_in.new.heap.items c.args.places.now c.lift_in.new.places (c.args.due, c.args.slot) c.requires.indexed c.requires.free (rw c.append.ensures.items at told.permutation) told.placed told.heap).1
