-- A test of each member.
use Rattle.std.specs.Prelude.{Bool, not, ◌&&◌, ◌||◌, ◌==◌, nat_lt}
use Rattle.std.specs.List.{list_all}
use Rattle.qz_types.specs.Rows.{MemberData}
use Rattle.qz_types.specs.Tables.{SchedulerTables}
use Rattle.qz_types.specs.Words.{same_text}

-- the other one has another epoch, or is the same member
unfoldable pub differs_from : MemberData → MemberData → Bool
differs_from m other = not (other.epoch == m.epoch) || same_text other.node m.node

-- its epoch was given, and is its own
unfoldable pub member_fits : SchedulerTables → MemberData → Bool
member_fits T m = nat_lt m.epoch T.next_epoch && list_all (differs_from m) T.members
