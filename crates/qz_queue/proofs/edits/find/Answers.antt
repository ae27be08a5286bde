use Rattle.std.proofs.Common.{refl}
use Rattle.qz_queue.proofs.Edited.{not_placed, not_high, not_there}
use Rattle.qz_queue.proofs.edits.find.Goals as goal

pub returns-then-place-places-clause-missing : goal.returns-then-place-places-clause-missing
returns-then-place-places-clause-missing g c = not_placed c.args.heap.now _ _ c.requires c.if-place-places.true

pub returns-then-at-heap-clause-missing : goal.returns-then-at-heap-clause-missing
returns-then-at-heap-clause-missing g c = not_high c.args.heap.now _ _ c.requires c.if-at-heap.true

pub returns-else-heap-at-clause-missing : goal.returns-else-heap-at-clause-missing
returns-else-heap-at-clause-missing g c = not_there c.args.heap.now c.args.places.now c.args.slot _ c.index-heap-at.result c.requires refl c.if-heap-at.false c.if-at-heap.false
