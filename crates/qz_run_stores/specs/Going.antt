-- How the stores went on since a run began.
use Rattle.std.specs.Prelude.{◌≡◌, ◌≤◌, List, ◌++◌, true, false}
use Rattle.qz_civil.specs.Causes.{Rose}
use Rattle.qz_disk.specs.declared.disk.Disk.{Ghosts}
use Rattle.qz_types.specs.Entries.{EntryData, StateEntryData}
use Rattle.qz_model.specs.History.{replay}
use Rattle.qz_stores.specs.Stores.{StoreState}
use Rattle.qz_trigger_store.specs.View.{view, version_of, base_count_of, base_of, found_of, keeps_of}
use Rattle.qz_trigger_store.specs.declared.stores.TriggerStore.{TriggerStore}
use Rattle.qz_checkin.specs.View.{view as states_view}
use Rattle.qz_checkin.specs.declared.stores.StateStore.{StateStore}
use Rattle.qz_run_stores.specs.Asked.{AreAsked}
use Rattle.qz_run_stores.specs.Ways.{KeepsTriggers, KeepsStates}

-- The disk's count of faults never falls, and it rose where the store was open and is closed.
pub record Went {H E : Type 0} (s t : StoreState H E) : Type 0 where
  pub later : s.faults ≤ t.faults
  pub closes : s.is_open ≡ true → t.is_open ≡ false → Rose s.faults t.faults

-- The trigger store went on with further entries, which are those by which nodes of a run ask; its version, its base, what it found at its
-- opening and whether it keeps what it accepts are as they were.
pub record TriggersWent {D : Type 0} {g : Ghosts D} (begun now : TriggerStore D g) : Type 0 where
  pub went : Went (view begun) (view now)
  pub version : version_of now ≡ version_of begun
  pub base : (base_count_of now ≡ base_count_of begun) × (base_of now ≡ base_of begun)
  pub found : found_of now ≡ found_of begun
  pub keeps : keeps_of now ≡ keeps_of begun
  pub added : List EntryData
  pub entries : (view now).history.entries ≡ (view begun).history.entries ++ added
  pub kept : ∥ KeepsTriggers begun now ∥₁
  pub asked : ∥ AreAsked (replay (view begun).history) added ∥₁

-- The state store went on with further entries.
pub record StatesWent {D : Type 0} {g : Ghosts D} (begun now : StateStore D g) : Type 0 where
  pub kept : ∥ KeepsStates begun now ∥₁
  pub went : Went (states_view begun) (states_view now)
  pub added : List StateEntryData
  pub entries : (states_view now).history.entries ≡ (states_view begun).history.entries ++ added
