use Rattle.std.proofs.Common.{◌≡◌, ◌-◌, ◌≤◌, take, length}
use Rattle.qz_stream.specs.declared.place.Place.TheVariants as place
use Rattle.qz_stream.specs.Standing.{Feeds}
use Rattle.qz_stream.proofs.stream.Stream.read.Given as goal

abbrev pub invariant-loop-used : goal.invariant-loop-used
invariant-loop-used l = (l.used ≤ length l.piece) × Feeds (take l.used l.piece) l.initial.self l.self × (l.self.place ≡ place.Whole → 1 ≤ l.used)

abbrev pub decreases-loop-used : goal.decreases-loop-used
decreases-loop-used l = length l.piece - l.used
