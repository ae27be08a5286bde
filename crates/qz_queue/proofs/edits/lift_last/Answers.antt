use Rattle.std.proofs.Common.{arith, ⊎_elim}
use Rattle.std.proofs.lemmas.List.Sorted.{length_permutation}
use Rattle.qz_queue.proofs.Heaps.{closes, leaf_over}
use Rattle.qz_queue.proofs.edits.lift_last.Goals as goal

pub returns-clause-heap : goal.returns-clause-heap
returns-clause-heap g c =
    let told = c.rise.ensures in
    let long = length_permutation _ _ told.permutation in
    closes g.K.Ranked.stands_before g.K.Ranked.order _ _ told.risen.heap (⊎_elim (λ same. let at = same.0 in leaf_over g.K.Ranked.stands_before g.K.Ranked.order _ _ (omega arith)) (λ over. over) told.risen.over) told.under
