-- What a command is about.
use Rattle.std.specs.Prelude.{◌≡◌}
use Rattle.qz_types.specs.declared.commands.Command.{Command}
use Rattle.qz_types.specs.declared.commands.Command.TheVariants.{Join, Leave, Acquire, Release, Fire, Complete, Misfires, Recover}
use Rattle.qz_types.specs.declared.groups.Group.{Group}
use Rattle.qz_types.specs.declared.groups.Group.TheVariants as group

-- the group of a command: what isn't named here is a client's, about jobs, triggers, calendars and zones
abbrev pub group_of : Command → Group
group_of (Join node) = group.Membership
group_of Leave = group.Membership
group_of (Recover node) = group.Membership
group_of (Acquire no_later window max) = group.Claim
group_of (Release entry) = group.Claim
group_of (Fire entry) = group.Claim
group_of Misfires = group.Claim
group_of (Complete entry code) = group.End
group_of c = group.Schedule

-- the command is of this group
abbrev pub IsOfSchedule : Command → Type 0
IsOfSchedule c = group_of c ≡ group.Schedule

abbrev pub IsOfMembership : Command → Type 0
IsOfMembership c = group_of c ≡ group.Membership

abbrev pub IsOfClaim : Command → Type 0
IsOfClaim c = group_of c ≡ group.Claim

abbrev pub IsOfEnd : Command → Type 0
IsOfEnd c = group_of c ≡ group.End
