use Rattle.std.proofs.Common.{◌+◌, arith}
use Rattle.std.proofs.lemmas.List.Sorted.{IsPermutation-trans}
use Rattle.qz_queue.proofs.Heaps.{closes, sunk, leaf_over, down_but, down_under}
use Rattle.qz_queue.proofs.Bounds.{falls_more}
use Rattle.qz_queue.proofs.Known.{known_moved, known_later}
use Rattle.qz_queue.proofs.sifts.sink.Goals as goal

pub returns-then-not-compare_at-clause-heap : goal.returns-then-not-compare_at-clause-heap
returns-then-not-compare_at-clause-heap g c =
    let inv = c.loop-at.invariant in
    closes g.K.Ranked.stands_before g.K.Ranked.order _ _ inv.heap (sunk g.K.Ranked.stands_before g.K.Ranked.order _ _ _ c.if-not-compare_at.ensures.answer c.first_child-child.ensures.best) inv.under

pub loop-at-preserved : goal.loop-at-preserved
loop-at-preserved g c =
    let inv = c.loop-at.invariant in
    let told = c.exchange.ensures in
    let calls = inv.calls in
    let more = c.if-not-compare_at.ensures.calls in
    let child = c.first_child-child.ensures in
    record {
      within = omega arith;
      permutation = IsPermutation-trans _ _ _ inv.permutation told.permutation;
      placed = told.placed;
      heap = down_but g.K.Ranked.stands_before g.K.Ranked.order _ _ c.loop-at.at _ child.within.0 child.parent child.within.1 (omega arith) told.swapped child.best inv.heap;
      under = down_under g.K.Ranked.stands_before g.K.Ranked.order _ _ c.loop-at.at _ child.within.0 child.parent told.swapped c.if-not-compare_at.ensures.answer;
      knows = λ k h. c.if-not-compare_at.ensures.knows k (child.knows k (inv.knows k h));
      calls = (calls.0 + 1, falls_more calls.0 c.loop-at.at _ _ (omega arith) calls.1, omega arith);
    }

pub returns-clause-heap : goal.returns-clause-heap
returns-clause-heap g c =
    let inv = c.loop-at.invariant in
    closes g.K.Ranked.stands_before g.K.Ranked.order _ _ inv.heap (leaf_over g.K.Ranked.stands_before g.K.Ranked.order _ _ (omega arith)) inv.under

pub first_child-child-requires-clause-known : goal.first_child-child-requires-clause-known
first_child-child-requires-clause-known g c = known_moved (g.C.Compare.Knows c.args.compare.now) (g.C.Compare.Knows c.loop-at.compare) _ _ c.requires.known c.loop-at.invariant.knows c.loop-at.invariant.permutation

pub compare_at-requires-clause-known : goal.compare_at-requires-clause-known
compare_at-requires-clause-known g c =
    let here = known_moved (g.C.Compare.Knows c.args.compare.now) (g.C.Compare.Knows c.loop-at.compare) _ _ c.requires.known c.loop-at.invariant.knows c.loop-at.invariant.permutation in
    known_later (g.C.Compare.Knows c.loop-at.compare) (g.C.Compare.Knows c.first_child-child.new.compare) _ here c.first_child-child.ensures.knows

pub returns-then-not-compare_at-clause-knows : goal.returns-then-not-compare_at-clause-knows
returns-then-not-compare_at-clause-knows g c = λ k h. c.if-not-compare_at.ensures.knows k (c.first_child-child.ensures.knows k (c.loop-at.invariant.knows k h))

pub returns-clause-knows : goal.returns-clause-knows
returns-clause-knows g c = c.loop-at.invariant.knows
