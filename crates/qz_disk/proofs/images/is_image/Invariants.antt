use Rattle.std.proofs.Common.{◌≡◌, ℕ, ◌<◌, false, get_or}
use Rattle.qz_disk.specs.Memory.{is_touched}
use Rattle.qz_disk.proofs.images.is_image.Given as goal

abbrev pub invariant-loop-k : goal.invariant-loop-k
invariant-loop-k l = (i : ℕ) → i < l.k → is_touched l.ranges i ≡ false → get_or l.bytes i 0 ≡ get_or l.synced i 0
