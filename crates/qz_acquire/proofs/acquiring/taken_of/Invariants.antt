use Rattle.std.proofs.Common.{◌≡◌, ◌++◌, map, drop}
use Rattle.qz_acquire.specs.Choosing.{taken_row}
use Rattle.qz_acquire.proofs.acquiring.taken_of.Given as goal

abbrev pub invariant-loop-row : goal.invariant-loop-row
invariant-loop-row l = l.taken ++ map taken_row (drop l.row-index l.rows) ≡ map taken_row l.rows
