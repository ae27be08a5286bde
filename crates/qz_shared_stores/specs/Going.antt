-- How a trigger store went on since it was put under its row.
use Rattle.std.specs.Prelude.{◌≡◌, List, ◌++◌}
use Rattle.qz_disk.specs.declared.disk.Disk.{Ghosts}
use Rattle.qz_types.specs.Entries.{EntryData}
use Rattle.qz_trigger_store.specs.View.{view, version_of, base_count_of, base_of, found_of, keeps_of}
use Rattle.qz_trigger_store.specs.declared.stores.TriggerStore.{TriggerStore}
use Rattle.qz_run_stores.specs.Going.{Went}
use Rattle.qz_run_stores.specs.Ways.{KeepsTriggers}

-- The trigger store went on with further entries; its version, its base, what it found at its opening and whether it keeps what
-- it accepts are as they were. On an honest disk a crash at any moment left a history on the way.
pub record TriggersWentOn {D : Type 0} {g : Ghosts D} (begun now : TriggerStore D g) : Type 0 where
  pub went : Went (view begun) (view now)
  pub version : version_of now ≡ version_of begun
  pub base : (base_count_of now ≡ base_count_of begun) × (base_of now ≡ base_of begun)
  pub found : found_of now ≡ found_of begun
  pub keeps : keeps_of now ≡ keeps_of begun
  pub added : List EntryData
  pub entries : (view now).history.entries ≡ (view begun).history.entries ++ added
  pub kept : ∥ KeepsTriggers begun now ∥₁
