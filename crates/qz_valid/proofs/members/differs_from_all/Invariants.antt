use Rattle.std.proofs.Common.{◌≡◌, true, take}
use Rattle.std.specs.List.{list_all}
use Rattle.qz_valid.specs.Members.{differs_from}
use Rattle.qz_valid.proofs.members.differs_from_all.Given as goal

abbrev pub invariant-loop-place : goal.invariant-loop-place
invariant-loop-place l = list_all (differs_from l.member) (take l.place l.tables.tables.members) ≡ true
