use Rattle.std.proofs.Common.{take}
use Rattle.qz_valid.proofs.Apart.{Numbers}
use Rattle.qz_valid.proofs.names.are_apart.Given as goal

abbrev pub invariant-loop-place : goal.invariant-loop-place
invariant-loop-place l = Numbers (take l.place l.tables.tables.triggers) l.numbers.keys
