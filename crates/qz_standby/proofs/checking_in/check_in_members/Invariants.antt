use Rattle.std.proofs.Common.{◌≤◌, []}
use Rattle.qz_disk.specs.Disk.{LeavesOnly}
use Rattle.qz_checkin.specs.Bytes.{list_of}
use Rattle.qz_checkin.specs.Kinds.{state_kind}
use Rattle.qz_checkin.specs.View.{view, disk_state, GoesOnFrom}
use Rattle.qz_standby.specs.CheckIns.{rows_list}
use Rattle.qz_standby.specs.Making.{HoldsFirst}
use Rattle.qz_standby.proofs.Members.{HaveCheckedIn}
use Rattle.qz_standby.proofs.checking_in.check_in_members.Given as goal

-- the members before this place have checked in
abbrev pub invariant-loop-place : goal.invariant-loop-place
invariant-loop-place g l = record {
  checked : HaveCheckedIn l.fn.tables.tables l.place (view l.states);
  any_moment : g.D.Disk.honest → GoesOnFrom l.initial.states (list_of 2 []) → GoesOnFrom l.states (list_of 2 [])
      × LeavesOnly (disk_state l.initial.states) (disk_state l.states) (HoldsFirst state_kind (rows_list l.fn.tables.tables));
  later : (view l.initial.states).faults ≤ (view l.states).faults;
}
