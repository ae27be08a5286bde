use Rattle.std.proofs.Common.{rules, FitsSigned, w64, arith, length-append}
use Rattle.std.proofs.lemmas.Int.{ints, to_z-of_z}
use Rattle.qz_times.proofs.ChainLaws.{IsChain-more}
use Rattle.qz_times.proofs.telling.first_times.Goals as goal

pub loop-place-preserved : goal.loop-place-preserved
loop-place-preserved c =
    let fits : FitsSigned w64 c.in-Some.next = search rules in
    let next = to_z-of_z w64 c.in-Some.next fits in
    let kept = c.loop-place.invariant in
    let least = rw c.in-Some.is at c.next_time.ensures in
    let items = rw next at c.in_ok-push.ensures.items in
    rw next (record {
      low = omega (arith, ints, kept.low, least.later);
      high = least.within;
      many = rw items (simp length-append (omega (arith, kept.many)));
      chain = rw items (IsChain-more _ _ _ _ _ kept.chain least);
    })
