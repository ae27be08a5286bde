-- What is seen of a state store, and of its disk.
use Rattle.std.specs.Prelude.{ℕ, List, ◌++◌}
use Rattle.qz_disk.specs.declared.disk.Disk.{Ghosts}
use Rattle.qz_disk.specs.Disk.{DiskState}
use Rattle.qz_types.specs.Entries.{StateEntryData}
use Rattle.qz_stores.specs.Bases.{WholeList, list_of as new_list}
use Rattle.qz_stores.specs.Bytes as bytes_of
use Rattle.qz_stores.specs.Restarting.{read_of}
use Rattle.qz_stores.specs.declared.kinds.Kind.{Ghosts as Kinds}
use Rattle.qz_stores.specs.declared.rereads.Reread.{Reread}
use Rattle.qz_stores.specs.View as store
use Rattle.qz_checkin.specs.Rows.{StateTables}
use Rattle.qz_checkin.specs.Entries.{StatesState}
use Rattle.qz_checkin.specs.Kinds.{state_kind}
use Rattle.qz_checkin.specs.Bytes.{Whole, list_of}
use Rattle.qz_checkin.specs.declared.stores.StateStore.{StateStore}

-- the entries of its history
abbrev pub entries_of : {D : Type 0} {g : Ghosts D} → StateStore D g → List StateEntryData
entries_of s = store.found_of s.store ++ store.added_of s.store

-- the rows that they leave
abbrev pub tables_of : {D : Type 0} {g : Ghosts D} → StateStore D g → StateTables
tables_of s = store.state_of s.store

-- the disk that it is on
abbrev pub disk_of : {D : Type 0} {g : Ghosts D} → StateStore D g → D
disk_of s = store.disk_of s.store

-- its content and its images, where it is honest
abbrev pub disk_state : {D : Type 0} {g : Ghosts D} → StateStore D g → DiskState
disk_state s = store.disk_state s.store

-- the store at this moment
abbrev pub view : {D : Type 0} {g : Ghosts D} → StateStore D g → StatesState
view s = store.view s.store

-- the version of the format that it has
abbrev pub version_of : {D : Type 0} {g : Ghosts D} → StateStore D g → ℕ
version_of s = store.version_of s.store

-- its whole list, which is all of its history
abbrev pub whole_of : {D : Type 0} {g : Ghosts D} → StateStore D g → Whole
whole_of s = list_of (version_of s) (entries_of s)

-- what was read anew, as a whole list
abbrev pub whole_read : {K E R C : Type 0} {k : Kinds K E R C} → Reread K E R C k → WholeList k.State E
whole_read {k = k} reread = new_list k.kind reread.version (read_of reread)

-- What the disk held when the store was opened is a whole list that begins with this one.
abbrev pub GoesOnFrom : {D : Type 0} {g : Ghosts D} → StateStore D g → Whole → Type 0
GoesOnFrom s w = store.GoesOnFrom s.store w

-- The disk is honest, and held a whole list when the store was opened.
abbrev pub IsTold : {D : Type 0} {g : Ghosts D} → StateStore D g → Type 0
IsTold s = store.IsTold s.store

-- the bytes are those of the state before a call, or of the state after it
abbrev pub IsOfEither : Whole → StatesState → StatesState → List ℕ → Type 0
IsOfEither w s t bytes = bytes_of.IsOfEither state_kind w s t bytes

-- The store goes on from each whole list that it went on from, and a crash at any moment of a call leaves the history before
-- it, or the one after it.
abbrev pub LeavesEither : {D : Type 0} {g : Ghosts D} → StateStore D g → StateStore D g → Type 0
LeavesEither s t = store.LeavesHistories s.store t.store

-- Nothing of the store, of what it keeps and of its disk has changed.
abbrev pub IsAsBefore : {D : Type 0} {g : Ghosts D} → StateStore D g → StateStore D g → Type 0
IsAsBefore s t = store.IsAsBefore s.store t.store
