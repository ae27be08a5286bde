-- The first entries of a standby's state store.
use Rattle.std.specs.Prelude.{ℕ, ℤ, List, map}
use Rattle.qz_types.specs.Entries.{EntryData, StateEntryData}
use Rattle.qz_types.specs.Rows.{MemberData}
use Rattle.qz_types.specs.Tables.{SchedulerTables}
use Rattle.qz_types.specs.declared.states.StateCommand.TheVariants.{CheckIn}
use Rattle.qz_checkin.specs.Bytes.{Whole as WholeRows, list_of}
use Rattle.qz_standby.specs.Forms.{left_by}
use Rattle.qz_standby.specs.declared.checking_in.TheConstants.{CHECK_IN_INTERVAL}

-- a member checks in at this reading of the clock
abbrev pub check_in_of : ℤ → MemberData → StateEntryData
check_in_of at member = record { at = at; seat = 0; command = CheckIn member.node CHECK_IN_INTERVAL }

-- each member of these tables checks in, in the order of the names, at the recorded moment of the last transaction
abbrev pub check_ins : SchedulerTables → List StateEntryData
check_ins T = map (check_in_of T.last_moment) T.members

-- the whole list of a state store of version 2 in which they have checked in
abbrev pub rows_list : SchedulerTables → WholeRows
rows_list T = list_of 2 (check_ins T)

-- that of the state store beside a trigger store of these entries, from this start on
abbrev pub rows_beside : SchedulerTables → List EntryData → WholeRows
rows_beside start entries = rows_list (left_by start entries)
