use Rattle.std.proofs.Common.{take}
use Rattle.qz_valid.proofs.Sets.{Counts}
use Rattle.qz_valid.proofs.keys.counted_keys.Given as goal

abbrev pub invariant-loop-place : goal.invariant-loop-place
invariant-loop-place l = Counts l.of (take l.place l.tables.tables.fired) l.keys
