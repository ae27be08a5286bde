use Rattle.std.proofs.Common.{length, arith, ⊎_elim}
use Rattle.std.proofs.lemmas.List.Sorted.{IsPermutation-trans}
use Rattle.qz_queue.proofs.Heaps.{closes}
use Rattle.qz_queue.proofs.Bounds.{cheap_both}
use Rattle.qz_queue.proofs.Known.{known_moved}
use Rattle.qz_queue.proofs.edits.settle.Goals as goal

pub returns-then-to-at-clause-permutation : goal.returns-then-to-at-clause-permutation
returns-then-to-at-clause-permutation g c = IsPermutation-trans _ _ _ c.rise-to.ensures.permutation c.sink.ensures.permutation

pub returns-then-to-at-clause-calls : goal.returns-then-to-at-clause-calls
returns-then-to-at-clause-calls g c =
    let up = c.rise-to.ensures.calls in
    let down = c.sink.ensures.calls in
    cheap_both (length c.args.heap.now) up.0 down.0 c.args.at c.rise-to.result _ _ _ c.if-to-at.true up.1 up.2 (omega arith) down.2

pub returns-else-to-at-clause-heap : goal.returns-else-to-at-clause-heap
returns-else-to-at-clause-heap g c =
    let told = c.rise-to.ensures in
    closes g.K.Ranked.stands_before g.K.Ranked.order _ _ told.risen.heap (⊎_elim (λ same. absurd (c.if-to-at.false same.0)) (λ over. over) told.risen.over) told.under

pub sink-requires-clause-known : goal.sink-requires-clause-known
sink-requires-clause-known g c = known_moved (g.C.Compare.Knows c.args.compare.now) (g.C.Compare.Knows c.rise-to.new.compare) _ _ c.requires.known c.rise-to.ensures.knows c.rise-to.ensures.permutation
