use Rattle.std.proofs.Common.{ℕ, ◌<◌, [], slice_index_or}
use Rattle.qz_disk.specs.Memory.{IsImageOf, standing_of}
use Rattle.qz_disk.proofs.images.first_image.Given as goal

-- those before it are no images
abbrev pub invariant-loop-k : goal.invariant-loop-k
invariant-loop-k l = (j : ℕ) → j < l.k → IsImageOf (standing_of l.first l.calls) (slice_index_or l.images j []) → ⊥
