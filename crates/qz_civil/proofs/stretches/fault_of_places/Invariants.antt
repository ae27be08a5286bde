use Rattle.std.proofs.Common.{◌≡◌, drop, None}
use Rattle.qz_civil.specs.Zones.{bad_place}
use Rattle.qz_civil.proofs.stretches.fault_of_places.Given as goal

abbrev pub invariant-loop-place : goal.invariant-loop-place
invariant-loop-place l = bad_place 0 None l.stretches ≡ bad_place l.place l.before (drop l.place l.stretches)
