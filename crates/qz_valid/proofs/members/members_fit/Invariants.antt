use Rattle.std.proofs.Common.{◌≡◌, true, take}
use Rattle.std.specs.List.{list_all}
use Rattle.qz_valid.specs.Members.{member_fits}
use Rattle.qz_valid.proofs.members.members_fit.Given as goal

abbrev pub invariant-loop-place : goal.invariant-loop-place
invariant-loop-place l = list_all (member_fits l.tables.tables) (take l.place l.tables.tables.members) ≡ true
