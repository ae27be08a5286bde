use Rattle.std.proofs.Common.{ℕ, ◌+◌, ◌-◌, ◌*◌, ◌<◌, ◌≤◌, length}
use Rattle.std.specs.List.Sorted.{IsPermutation}
use Rattle.qz_queue.specs.Heap.{IsPlaced, IsHeapBut, IsUnderParent}
use Rattle.qz_queue.specs.Sift.{IsFall}
use Rattle.qz_queue.specs.Order.{KeepsKnown}
use Rattle.qz_queue.proofs.sifts.sink.Given as goal

abbrev pub invariant-loop-at : goal.invariant-loop-at
invariant-loop-at g l = record {
  within : l.at < length l.heap;
  permutation : IsPermutation l.initial.heap l.heap;
  placed : IsPlaced l.heap l.places;
  heap : IsHeapBut g.K.Ranked.stands_before l.heap l.at;
  under : IsUnderParent g.K.Ranked.stands_before l.heap l.at;
  knows : KeepsKnown (g.C.Compare.Knows l.initial.compare) (g.C.Compare.Knows l.compare);
  calls : (s : ℕ) × IsFall s l.start l.at × (g.C.Compare.count l.compare ≤ g.C.Compare.count l.initial.compare + 2 * s);
}

abbrev pub decreases-loop-at : goal.decreases-loop-at
decreases-loop-at g l = length l.heap - l.at
