-- What is seen of a trigger store, and of its disk.
use Rattle.std.specs.Prelude.{◌≡◌, ℕ, ℤ, List, Bool, true, false, is_some}
use Rattle.qz_disk.specs.declared.disk.Disk.{Ghosts}
use Rattle.qz_disk.specs.Disk.{DiskState}
use Rattle.qz_journal.specs.declared.slots.Slots.{Slots}
use Rattle.qz_types.specs.Entries.{EntryData}
use Rattle.qz_types.specs.declared.replies.Reply.{Reply}
use Rattle.qz_types.specs.Tables.{SchedulerTables}
use Rattle.qz_model.specs.History.{replay_from, replies_from, moments_from}
use Rattle.qz_stores.specs.Bytes as bytes
use Rattle.qz_stores.specs.View as store
use Rattle.qz_trigger_store.specs.Bytes.{Whole}
use Rattle.qz_trigger_store.specs.Entries.{TriggerState}
use Rattle.qz_trigger_store.specs.Kinds.{trigger_kind}
use Rattle.qz_trigger_store.specs.declared.accepted.Keep.{Keep}
use Rattle.qz_trigger_store.specs.declared.accepted.Keep.TheVariants as keep
use Rattle.qz_trigger_store.specs.declared.stores.TriggerStore.{TriggerStore}

-- the version of the format that its history began in
abbrev pub version_of : {D : Type 0} {g : Ghosts D} → TriggerStore D g → ℕ
version_of s = store.version_of s.store

-- how many entries came before those that it read when it was opened, and the tables that they left
abbrev pub base_count_of : {D : Type 0} {g : Ghosts D} → TriggerStore D g → ℕ
base_count_of s = store.base_count_of s.store

abbrev pub base_of : {D : Type 0} {g : Ghosts D} → TriggerStore D g → SchedulerTables
base_of s = store.base_of s.store

-- the entries that it read when it was opened
abbrev pub found_of : {D : Type 0} {g : Ghosts D} → TriggerStore D g → List EntryData
found_of s = store.found_of s.store

-- the entries accepted since then, their recorded moments and their replies
abbrev pub added_of : {D : Type 0} {g : Ghosts D} → TriggerStore D g → List EntryData
added_of s = store.added_of s.store

abbrev pub moments_of : {D : Type 0} {g : Ghosts D} → TriggerStore D g → List ℤ
moments_of s = moments_from (replay_from (base_of s) (found_of s)) (added_of s)

abbrev pub replies_of : {D : Type 0} {g : Ghosts D} → TriggerStore D g → List Reply
replies_of s = replies_from (replay_from (base_of s) (found_of s)) (added_of s)

-- how many entries came after the snapshot in use, or in all where no slot is open
abbrev pub behind_of : {D : Type 0} {g : Ghosts D} → TriggerStore D g → ℕ
behind_of s = store.behind_of s.store

-- the slots of its journal, which lead to its snapshots
abbrev pub slots_of : {D : Type 0} {g : Ghosts D} → TriggerStore D g → Slots
slots_of s = store.slots_of s.store

-- the bytes that the disk had when it was opened
abbrev pub opened_of : {D : Type 0} {g : Ghosts D} → TriggerStore D g → List ℕ
opened_of s = store.opened_of s.store

-- the store keeps what it accepts in memory
abbrev pub keeps_of : {D : Type 0} {g : Ghosts D} → TriggerStore D g → Bool
keeps_of s = is_some s.accepted

-- a store that keeps this does
abbrev pub keeps_entries : Keep → Bool
keeps_entries keep.Tables = false
keeps_entries keep.Entries = true

-- the tables that they leave
abbrev pub tables_of : {D : Type 0} {g : Ghosts D} → TriggerStore D g → SchedulerTables
tables_of s = store.state_of s.store

-- the disk that it is on
abbrev pub disk_of : {D : Type 0} {g : Ghosts D} → TriggerStore D g → D
disk_of s = store.disk_of s.store

-- its content and its images, where it is honest
abbrev pub disk_state : {D : Type 0} {g : Ghosts D} → TriggerStore D g → DiskState
disk_state s = store.disk_state s.store

-- the store at this moment
abbrev pub view : {D : Type 0} {g : Ghosts D} → TriggerStore D g → TriggerState
view s = store.view s.store

-- What the disk held when the store was opened is a whole list that begins with this one.
abbrev pub GoesOnFrom : {D : Type 0} {g : Ghosts D} → TriggerStore D g → Whole → Type 0
GoesOnFrom s w = store.GoesOnFrom s.store w

-- The disk is honest, and held a whole list when the store was opened.
abbrev pub IsTold : {D : Type 0} {g : Ghosts D} → TriggerStore D g → Type 0
IsTold s = store.IsTold s.store

-- the bytes are those of the state before a call, or of the state after it
abbrev pub IsOfEither : Whole → TriggerState → TriggerState → List ℕ → Type 0
IsOfEither w s t found = bytes.IsOfEither trigger_kind w s t found

-- A crash at any moment of a call leaves the state before it, or the one after it, of whatever whole list the store goes on from.
abbrev pub LeavesEither : {D : Type 0} {g : Ghosts D} → TriggerStore D g → TriggerStore D g → Type 0
LeavesEither s t = store.LeavesHistories s.store t.store

-- What the store was opened on is as it was: its version, its base and the entries found, and the bytes.
abbrev pub IsOpenedAsBefore : {D : Type 0} {g : Ghosts D} → TriggerStore D g → TriggerStore D g → Type 0
IsOpenedAsBefore s t = store.IsOpenedAsBefore s.store t.store

-- Nothing of the store, of what it keeps and of its disk has changed, whatever room it has.
abbrev pub IsAsBefore : {D : Type 0} {g : Ghosts D} → TriggerStore D g → TriggerStore D g → Type 0
IsAsBefore s t = store.IsAsBefore s.store t.store × (keeps_of t ≡ keeps_of s)
