-- Both stores, opened for the work of nodes.
use Rattle.std.specs.Prelude.{◌≡◌, ◌⊎◌, ◌≤◌, [], true, false}
use Rattle.qz_disk.specs.declared.disk.Disk.{Ghosts}
use Rattle.qz_io.specs.Outside.{Outside}
use Rattle.qz_journal.specs.Through.{OnlyReads}
use Rattle.qz_model.specs.History.{replay}
use Rattle.qz_trigger_store.specs.Bytes.{Whole, IsWhole}
use Rattle.qz_trigger_store.specs.Entries.{is_old}
use Rattle.qz_trigger_store.specs.Opening.{IsOpened}
use Rattle.qz_trigger_store.specs.View.{view as triggers_view, added_of, keeps_of, disk_state, GoesOnFrom}
use Rattle.qz_trigger_store.specs.declared.stores.TriggerStore.{TriggerStore}
use Rattle.qz_checkin.specs.Bytes.{Whole as WholeRows, IsWhole as IsWholeRows}
use Rattle.qz_checkin.specs.Opening.{IsOpened as AreOpened}
use Rattle.qz_checkin.specs.View.{view as states_view, disk_state as states_disk_state, GoesOnFrom as RowsGoOnFrom}
use Rattle.qz_checkin.specs.declared.stores.StateStore.{StateStore}
use Rattle.qz_top.specs.Calls.{FoundOld, NotOpened}
use Rattle.qz_top.specs.Found.{IsFoundOn}
use Rattle.qz_top.specs.NodeRuns.{both}
use Rattle.qz_top.specs.declared.ended.Ended.{Ended}

-- The stores of these two disks, which were only read: the trigger store isn't old, and keeps what it accepts from now on.
pub record JustOpened {D : Type 0} {g : Ghosts D} (triggers states : D) (t : TriggerStore D g) (s : StateStore D g) : Type 0 where
  pub are_opened : IsOpened (triggers_view t) × AreOpened (states_view s)
  pub current : is_old (replay (triggers_view t).history) ≡ false
  pub keeps : keeps_of t ≡ true
  pub nothing_added : added_of t ≡ []
  pub found : g.honest → IsFoundOn g triggers states (both t s)
  pub goes_on : g.honest → (w : Whole) → IsWhole w (g.state triggers).content → GoesOnFrom t w
  pub rows_go_on : g.honest → (v : WholeRows) → IsWholeRows v (g.state states).content → RowsGoOnFrom s v
  pub no_earlier : (g.faults triggers ≤ (triggers_view t).faults) × (g.faults states ≤ (states_view s).faults)
  pub reads : g.honest → OnlyReads (g.state triggers) (disk_state t) × OnlyReads (g.state states) (states_disk_state s)

-- There are none to work on: one of them wasn't opened, or the trigger store is old.
abbrev pub HasNoStores : {D : Type 0} {g : Ghosts D} → D → D → Ended D g → Outside → Outside → Type 0
HasNoStores triggers states e old new = NotOpened triggers states e old new ⊎ FoundOld triggers states e old new
