use Rattle.std.proofs.Common.{◌≡◌, drop}
use Rattle.qz_disk.proofs.memory.take_image.Given as goal

abbrev pub invariant-loop-turn : goal.invariant-loop-turn
invariant-loop-turn l = l.images ≡ drop l._turn l.fn.images
