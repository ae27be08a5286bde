use Rattle.qz_disk.proofs.Replays.{IsSplit}
use Rattle.qz_disk.proofs.images.unsynced.Given as goal

abbrev pub invariant-loop-k : goal.invariant-loop-k
invariant-loop-k l = IsSplit l.calls l.k l.count l.ranges.items
