-- The end of a call whose nodes worked.
use Rattle.std.specs.Prelude.{◌≡◌, ℕ, List, true, Option, Some}
use Rattle.qz_disk.specs.declared.disk.Disk.{Ghosts}
use Rattle.qz_io.specs.Outside.{Outside}
use Rattle.qz_model.specs.History.{replay}
use Rattle.qz_types.specs.Entries.{EntryData}
use Rattle.qz_trigger_store.specs.Bytes.{Whole}
use Rattle.qz_trigger_store.specs.View.{view as triggers_view, added_of, disk_of, disk_state, GoesOnFrom, LeavesEither}
use Rattle.qz_trigger_store.specs.declared.stores.TriggerStore.{TriggerStore}
use Rattle.qz_checkin.specs.View.{disk_of as states_disk_of}
use Rattle.qz_top.specs.Found.{found_history}
use Rattle.qz_top.specs.NodeRuns.{IsToldAs, text_since}
use Rattle.qz_top.specs.Resting.{RestsNodes, OpensShortIfRoom}
use Rattle.qz_top.specs.declared.statuses.Status.{Status}
use Rattle.qz_top.specs.declared.statuses.Status.TheVariants as status
use Rattle.qz_serve.specs.Boards.{WritesAfterBoard}
use Rattle.qz_serve.specs.Going.{triggers_of, states_of}
use Rattle.qz_serve.specs.declared.both_stores.BothStores.{BothStores}
use Rattle.qz_serve.specs.declared.served.Served.{Served}

-- What was accepted since the opening was told, after the lines of a board with so many looks over a store that was opened with these
-- entries. Then a checkpoint was made where one was due, and the disks were given back.
pub record EndedCall {D : Type 0} {g : Ghosts D} (looks : Option ℕ) (opened : List EntryData) (work : Status) (stores : BothStores D g) (s : Served D) (old new : Outside) : Type 0 where
  pub told_as : Status
  pub told : IsToldAs told_as work
  pub written : WritesAfterBoard looks opened (triggers_view (triggers_of stores)).history told_as (text_since (found_history (triggers_of stores)) (replay (triggers_view (triggers_of stores)).history) (added_of (triggers_of stores))) old new
  pub rested : TriggerStore D g
  pub rests : RestsNodes told_as s.status (triggers_view (triggers_of stores)) (triggers_view rested)
  pub any_moment : g.honest → LeavesEither (triggers_of stores) rested
  pub disks : s.disks ≡ Some (disk_of rested, states_disk_of (states_of stores))
  -- where it ended with 0 and the store is open, the next opening is short
  pub next : s.status ≡ status.Ok → (triggers_view rested).is_open ≡ true → g.honest → (w : Whole) → GoesOnFrom rested w → OpensShortIfRoom (triggers_view rested) (disk_state rested).content
