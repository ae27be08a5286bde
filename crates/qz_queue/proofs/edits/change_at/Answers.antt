use Rattle.std.proofs.Common.{◌∙◌}
use Rattle.qz_queue.proofs.Edited.{changed_placed, changed_but, changed}
use Rattle.qz_queue.proofs.Lists.{same_default}
use Rattle.std.proofs.Common.{ap}
use Rattle.qz_queue.specs.Order.{key_of}
use Rattle.qz_queue.proofs.Seen.{now_in}
use Rattle.qz_queue.proofs.edits.change_at.Goals as goal

pub settle-requires-clause-placed : goal.settle-requires-clause-placed
settle-requires-clause-placed g c = rw c.replace-old.ensures.after (changed_placed g.K.Ranked.stands_before g.K.Ranked.order c.args.heap.now c.args.places.now c.args.at (c.args.due, c.args.slot) c.requires.within c.requires.indexed.placed c.requires.held)

pub settle-requires-clause-heap : goal.settle-requires-clause-heap
settle-requires-clause-heap g c = changed_but g.K.Ranked.stands_before g.K.Ranked.order c.args.heap.now c.args.at c.replace-old.new.dest c.requires.within c.requires.indexed.heap

pub returns-clause-indexed : goal.returns-clause-indexed
returns-clause-indexed g c = (changed g.K.Ranked.stands_before g.K.Ranked.order c.args.heap.now c.settle.new.heap c.args.places.now c.settle.new.places c.args.at c.args.slot c.args.due c.replace-old.result c.requires.within c.requires.indexed c.requires.held c.requires.free (c.replace-old.ensures.value ∙ same_default _ _ _ _ c.requires.within) (rw c.replace-old.ensures.after at c.settle.ensures.permutation) c.settle.ensures.placed c.settle.ensures.heap).indexed

pub returns-clause-key : goal.returns-clause-key
returns-clause-key g c = (changed g.K.Ranked.stands_before g.K.Ranked.order c.args.heap.now c.settle.new.heap c.args.places.now c.settle.new.places c.args.at c.args.slot c.args.due c.replace-old.result c.requires.within c.requires.indexed c.requires.held c.requires.free (c.replace-old.ensures.value ∙ same_default _ _ _ _ c.requires.within) (rw c.replace-old.ensures.after at c.settle.ensures.permutation) c.settle.ensures.placed c.settle.ensures.heap).key

pub returns-clause-pairs : goal.returns-clause-pairs
returns-clause-pairs g c = (changed g.K.Ranked.stands_before g.K.Ranked.order c.args.heap.now c.settle.new.heap c.args.places.now c.settle.new.places c.args.at c.args.slot c.args.due c.replace-old.result c.requires.within c.requires.indexed c.requires.held c.requires.free (c.replace-old.ensures.value ∙ same_default _ _ _ _ c.requires.within) (rw c.replace-old.ensures.after at c.settle.ensures.permutation) c.settle.ensures.placed c.settle.ensures.heap).pairs

pub returns-clause-now : goal.returns-clause-now
returns-clause-now g c = ap (key_of c.args.slot) (returns-clause-pairs g c) ∙ now_in g.K.Ranked.stands_before g.K.Ranked.order c.args.heap.now c.args.places.now c.args.due c.args.slot c.requires.indexed
