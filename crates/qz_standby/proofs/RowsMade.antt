-- What the steps make of a disk.
use Rattle.std.proofs.Common.{◌≡◌, inl, inr, []}
use Rattle.std.specs.Prelude.{Some, None, Result, Ok, Err, OnOk, IfErr}
use Rattle.qz_disk.specs.declared.disk.Disk.{Ghosts}
use Rattle.qz_disk.specs.Disk.{DiskState, IsLawful as DiskIsLawful, Torn, LeavesOnly}
use Rattle.qz_disk.proofs.Moments.{then_leaves, weaker}
use Rattle.qz_journal.specs.Layout.{HasStore}
use Rattle.qz_journal.specs.Making.{Makes as MakesNew}
use Rattle.qz_journal.specs.declared.errors.NewStoreError.{NewStoreError}
use Rattle.qz_journal.specs.declared.errors.NewStoreError.TheVariants as new_store
use Rattle.qz_journal.specs.declared.layout.TheConstants.{STATES}
use Rattle.qz_types.specs.declared.stores.Store.TheVariants as store
use Rattle.qz_types.specs.Tables.{SchedulerTables}
use Rattle.qz_checkin.specs.Bytes.{list_of}
use Rattle.qz_checkin.specs.History.{new_state_history}
use Rattle.qz_checkin.specs.Kinds.{state_kind}
use Rattle.qz_checkin.specs.Laws.{state_lawful}
use Rattle.qz_checkin.specs.View.{view, disk_state, GoesOnFrom}
use Rattle.qz_checkin.specs.declared.stores.StateStore.{StateStore}
use Rattle.qz_standby.specs.CheckIns.{check_ins, rows_list}
use Rattle.qz_standby.specs.Making.{HoldsFirst, LeavesFirst}
use Rattle.qz_standby.specs.Parts.{IsInPart, MakesRows, uncreated}
use Rattle.qz_standby.specs.declared.errors.Unmade.{Unmade}
use Rattle.qz_standby.proofs.Firsts.{now_whole}

-- The state store wasn't made.

not_created_by : (e : NewStoreError) (T : SchedulerTables) (old new : DiskState) → (HasStore STATES old.content → ⊥) → MakesNew 2 STATES (Some e) old new → IsInPart (uncreated e store.States)
not_created_by new_store.Exists T old new none made = absurd (none (inl made.found))
not_created_by new_store.OtherKind T old new none made = absurd (none (inr made.found))
not_created_by new_store.NoMemory T old new none made = tt
not_created_by new_store.Fault T old new none made = tt

pub not_created : (e : NewStoreError) (T : SchedulerTables) (old new : DiskState) → (HasStore STATES old.content → ⊥) → MakesNew 2 STATES (Some e) old new → MakesRows (Err (uncreated e store.States)) (rows_list T) old new
not_created e T old new none made =
    (not_created_by e T old new none made, λ from only. weaker old new (Torn 0 17 from) _ (made.any_moment from only) (λ b torn. inl torn))

-- It was made, and members checked in.

abbrev AllChecked : {D : Type 0} {g : Ghosts D} → SchedulerTables → StateStore D g → Type 0
AllChecked T t = ((view t).history ≡ record new_state_history { entries = check_ins T }) × ((view t).undecided ≡ None)

module _ {D : Type 0} {g : Ghosts D} (honest : g.honest) (lawful : (d : D) → DiskIsLawful (g.state d)) (T : SchedulerTables) (old : D) (s t : StateStore D g) (made : MakesNew 2 STATES None (g.state old) (disk_state s))
    (on : GoesOnFrom t (list_of 2 [])) (leaves : LeavesOnly (disk_state s) (disk_state t) (HoldsFirst state_kind (rows_list T))) where
  first : LeavesFirst state_kind (rows_list T) (g.state old) (disk_state t)
  first from only = then_leaves (g.state old) (disk_state s) (disk_state t) (Torn 0 17 from) (HoldsFirst state_kind (rows_list T)) _ (made.any_moment from only) leaves (λ b torn. inl torn) (λ b held. inr (inr held))

  pub rows_made : (r : Result (Unit {0}) Unmade) → OnOk r (AllChecked T t) → IfErr r IsInPart → MakesRows r (rows_list T) (g.state old) (disk_state t)
  rows_made (Ok x) all part = (first, now_whole state_lawful t.store honest (lawful _) (rows_list T) on all.0 all.1)
  rows_made (Err e) all part = (part, first)
