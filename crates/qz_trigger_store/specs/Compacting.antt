-- Trigger stores that begin with a snapshot.
use Rattle.std.specs.Prelude.{ℕ, Option}
use Rattle.qz_disk.specs.Disk.{DiskState}
use Rattle.qz_types.specs.Tables.{SchedulerTables}
use Rattle.qz_stores.specs.Compacting as store
use Rattle.qz_stores.specs.declared.compacting.CompactError.{CompactError}
use Rattle.qz_trigger_store.specs.Bytes.{Whole}
use Rattle.qz_trigger_store.specs.Kinds.{trigger_kind}

-- the whole list of a store that begins with a snapshot of these tables, and has no entries
abbrev pub compacted_list : ℕ → SchedulerTables → Whole
compacted_list version T = store.compacted_list version T

-- A trigger store was to be begun with a snapshot of these tables on an honest disk that had the first state and has the second, and
-- this is why it wasn't, or None.
abbrev pub Compacts : ℕ → SchedulerTables → Option CompactError → DiskState → DiskState → Type 0
Compacts version T error old new = store.Compacts trigger_kind version T error old new
