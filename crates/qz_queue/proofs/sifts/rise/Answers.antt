use Rattle.std.proofs.Common.{◌+◌, arith}
use Rattle.std.proofs.lemmas.List.Sorted.{IsPermutation-trans}
use Rattle.qz_queue.proofs.Heaps.{risen_under, root_under, risen_more}
use Rattle.qz_queue.proofs.Bounds.{climbs}
use Rattle.qz_queue.proofs.Known.{known_moved}
use Rattle.qz_queue.proofs.sifts.rise.Goals as goal

pub returns-then-not-compare_at-clause-under : goal.returns-then-not-compare_at-clause-under
returns-then-not-compare_at-clause-under g c = risen_under g.K.Ranked.stands_before g.K.Ranked.order _ _ c.if-not-compare_at.ensures.answer

pub loop-at-preserved : goal.loop-at-preserved
loop-at-preserved g c =
    let inv = c.loop-at.invariant in
    let told = c.exchange.ensures in
    let calls = inv.calls in
    let more = c.if-not-compare_at.ensures.calls in
    record {
      within = omega arith;
      permutation = IsPermutation-trans _ _ _ inv.permutation told.permutation;
      placed = told.placed;
      risen = risen_more g.K.Ranked.stands_before g.K.Ranked.order _ _ _ c.args.start c.loop-at.at (omega arith) inv.within (omega arith) told.swapped c.if-not-compare_at.ensures.answer inv.risen;
      knows = λ k h. c.if-not-compare_at.ensures.knows k (inv.knows k h);
      calls = (calls.0 + 1, climbs calls.0 c.loop-at.at _ _ (omega arith) calls.1, omega arith);
    }

pub returns-clause-under : goal.returns-clause-under
returns-clause-under g c = root_under g.K.Ranked.stands_before g.K.Ranked.order _ _ (omega arith)

pub compare_at-requires-clause-known : goal.compare_at-requires-clause-known
compare_at-requires-clause-known g c = known_moved (g.C.Compare.Knows c.args.compare.now) (g.C.Compare.Knows c.loop-at.compare) _ _ c.requires.known c.loop-at.invariant.knows c.loop-at.invariant.permutation

pub returns-then-not-compare_at-clause-knows : goal.returns-then-not-compare_at-clause-knows
returns-then-not-compare_at-clause-knows g c = λ k h. c.if-not-compare_at.ensures.knows k (c.loop-at.invariant.knows k h)

pub returns-clause-knows : goal.returns-clause-knows
returns-clause-knows g c = c.loop-at.invariant.knows
