-- What a promotion makes of a disk.
use Rattle.std.specs.Prelude.{⊤, ◌≡◌, ◌⊎◌, ℕ, true, List, [], ◌++◌, length, Option, Some, None}
use Rattle.qz_civil.specs.Causes.{Rose}
use Rattle.qz_disk.specs.Disk.{DiskState, Only, Stays, Torn, LeavesOnly}
use Rattle.qz_disk.specs.declared.disk.Disk.{Ghosts}
use Rattle.qz_journal.specs.Layout.{IsStore, HasStore, other_kind, end_of}
use Rattle.qz_journal.specs.Commits.{HaveRoom, IsFullFor}
use Rattle.qz_journal.specs.declared.errors.NewStoreError.{NewStoreError}
use Rattle.qz_journal.specs.declared.errors.NewStoreError.TheVariants as new_store
use Rattle.qz_journal.specs.declared.layout.TheConstants.{TRIGGERS}
use Rattle.qz_types.specs.Entries.{EntryData}
use Rattle.qz_types.specs.Tables.{SchedulerTables, empty}
use Rattle.qz_model.specs.History.{History, IsLegalFrom}
use Rattle.qz_snapshot.specs.Checkpoints.{snapshot_written}
use Rattle.qz_stores.specs.declared.compacting.CompactError.{CompactError}
use Rattle.qz_stores.specs.declared.compacting.CompactError.TheVariants as compact
use Rattle.qz_trigger_store.specs.Bytes.{Whole, IsWhole}
use Rattle.qz_trigger_store.specs.View.{view, version_of, found_of, added_of}
use Rattle.qz_trigger_store.specs.declared.stores.TriggerStore.{TriggerStore}
use Rattle.qz_follow.specs.Kept.{AreKept}
use Rattle.qz_follow.specs.declared.promoting.PromoteFault.{PromoteFault}
use Rattle.qz_follow.specs.declared.promoting.PromoteFault.TheVariants as fault

-- the whole list of these entries, in a store of this version that starts with these tables
abbrev pub list_from : ℕ → SchedulerTables → List EntryData → Whole
list_from version start entries = record { version = version; start = start; entries = entries }

-- The bytes are a store of this version, which starts with these tables and holds the first of these entries.
abbrev pub HoldsFirst : ℕ → SchedulerTables → List EntryData → List ℕ → Type 0
HoldsFirst version start entries bytes = (first : List EntryData) × (rest : List EntryData) × (entries ≡ first ++ rest) × IsWhole (list_from version start first) bytes

-- They begin as no trigger store does, or are such a store.
abbrev pub HoldsPart : ℕ → SchedulerTables → List EntryData → List ℕ → Type 0
HoldsPart version start entries bytes = (IsStore TRIGGERS bytes → ⊥) ⊎ HoldsFirst version start entries bytes

-- The disk holds a store of this version with these tables and entries, and a crash leaves that.
pub record HasEntries (version : ℕ) (start : SchedulerTables) (entries : List EntryData) (s : DiskState) : Type 0 where
  pub content : IsWhole (list_from version start entries) s.content
  pub images : (bytes : List ℕ) → s.IsImage bytes → IsWhole (list_from version start entries) bytes

-- nothing was written, or the disk has such a store without entries
abbrev pub IsUnfilled : ℕ → SchedulerTables → DiskState → DiskState → Type 0
IsUnfilled version start old new = Stays old new ⊎ HasEntries version start [] new

-- A store that starts with these tables has no room for these records: the snapshot of the tables needs so many bytes, and a new store
-- has so many; or the records do, after that snapshot.
abbrev pub IsFullOf : SchedulerTables → List (List ℕ) → ℕ → ℕ → Type 0
IsFullOf start payloads need room =
    IsFullFor (snapshot_written start 0 0) (end_of []) 0 need room
    ⊎ IsFullFor payloads (end_of (snapshot_written start 0 0)) (length (snapshot_written start 0 0)) need room

-- Why a follower isn't promoted onto a disk that begins with these bytes, or None where it is. That it has no whole header or base, or
-- that memory, room or the disk failed, isn't seen in them; but memory and room are wanted only where there is no store.
abbrev pub IsFoundBy : List ℕ → Option PromoteFault → Type 0
IsFoundBy bytes None = HasStore TRIGGERS bytes → ⊥
IsFoundBy bytes (Some (fault.Short at)) = ⊤
IsFoundBy bytes (Some fault.Exists) = IsStore TRIGGERS bytes
IsFoundBy bytes (Some fault.OtherKind) = IsStore (other_kind TRIGGERS) bytes
IsFoundBy bytes (Some fault.NoMemory) = HasStore TRIGGERS bytes → ⊥
IsFoundBy bytes (Some (fault.NoRoom need room)) = HasStore TRIGGERS bytes → ⊥
IsFoundBy bytes (Some fault.Fault) = ⊤

-- What the disk has afterwards: all entries; or it stays as it is; or, where memory or room ran out, it stays or has none of them.
abbrev pub IsPromotedOr : ℕ → SchedulerTables → List EntryData → Option PromoteFault → DiskState → DiskState → Type 0
IsPromotedOr version start entries None old new = HasEntries version start entries new
IsPromotedOr version start entries (Some (fault.Short at)) old new = Stays old new
IsPromotedOr version start entries (Some fault.Exists) old new = Stays old new
IsPromotedOr version start entries (Some fault.OtherKind) old new = Stays old new
IsPromotedOr version start entries (Some fault.NoMemory) old new = IsUnfilled version start old new
IsPromotedOr version start entries (Some (fault.NoRoom need room)) old new = IsUnfilled version start old new
IsPromotedOr version start entries (Some fault.Fault) old new = ⊤

-- A follower of a store of this version, with these entries from this start on, was to be promoted onto an honest disk, and this is why
-- it wasn't, or None. A store of either kind and any version stays as it is, whatever fails and whenever a crash comes. On another disk
-- a crash at any moment leaves any bytes in the first 17, or no store, or one with the first of the entries.
pub record Promotes (version : ℕ) (start : SchedulerTables) (entries : List EntryData) (error : Option PromoteFault) (old new : DiskState) : Type 0 where
  pub found : IsFoundBy old.content error
  pub made : IsPromotedOr version start entries error old new
  pub kept : HasStore TRIGGERS old.content → Stays old new
  pub kept_at_any_moment : HasStore TRIGGERS old.content → LeavesOnly old new old.IsImage
  pub any_moment : (bytes : List ℕ) → Only bytes old → LeavesOnly old new (λ b. Torn 0 17 bytes b ⊎ HoldsPart version start entries b)

-- A store that starts with these tables can take over these payloads: they are the records of these entries, which it accepts one by
-- one.
pub record AreAdoptable (start : SchedulerTables) (entries : List EntryData) (payloads : List (List ℕ)) : Type 0 where
  pub kept : ∥ AreKept (end_of payloads) entries payloads ∥₁
  pub legal : ∥ IsLegalFrom start entries ∥₁

-- the history of these entries from these tables on
abbrev pub history_from : SchedulerTables → List EntryData → History
history_from start entries = record { base_count = 0; base = start; entries = entries }

-- The store is open, in this version, and has these entries, from these tables on. It was made new, and all of them were added since.
pub record IsOpenWith {D : Type 0} {g : Ghosts D} (version : ℕ) (start : SchedulerTables) (entries : List EntryData) (s : TriggerStore D g) : Type 0 where
  pub is_open : (view s).is_open ≡ true
  pub version_is : version_of s ≡ version
  pub history : (view s).history ≡ history_from start entries
  pub found : found_of s ≡ []
  pub added : added_of s ≡ entries

-- why no store was made, as a promotion says it
abbrev pub fault_of : NewStoreError → PromoteFault
fault_of new_store.Exists = fault.Exists
fault_of new_store.OtherKind = fault.OtherKind
fault_of new_store.NoMemory = fault.NoMemory
fault_of new_store.Fault = fault.Fault

-- and why none was begun with a snapshot
abbrev pub unbegun : CompactError → PromoteFault
unbegun compact.Exists = fault.Exists
unbegun compact.OtherKind = fault.OtherKind
unbegun compact.NoMemory = fault.NoMemory
unbegun (compact.NoRoom need room) = fault.NoRoom need room
unbegun compact.Fault = fault.Fault

-- Memory or room ran out, or the disk failed and its count of faults rose.
abbrev pub IsFailure : ℕ → PromoteFault → ℕ → Type 0
IsFailure before fault.NoMemory now = ⊤
IsFailure before (fault.NoRoom need room) now = ⊤
IsFailure before fault.Fault now = Rose before now
IsFailure before (fault.Short at) now = ⊥
IsFailure before fault.Exists now = ⊥
IsFailure before fault.OtherKind now = ⊥

-- What the disk of a new store has after it was to take over these entries: all; or none, where memory or room ran out.
abbrev pub HasFilled : ℕ → SchedulerTables → List EntryData → Option PromoteFault → DiskState → Type 0
HasFilled version start entries None s = HasEntries version start entries s
HasFilled version start entries (Some fault.NoMemory) s = HasEntries version start [] s
HasFilled version start entries (Some (fault.NoRoom need room)) s = HasEntries version start [] s
HasFilled version start entries (Some fault.Fault) s = ⊤
HasFilled version start entries (Some (fault.Short at)) s = ⊥
HasFilled version start entries (Some fault.Exists) s = ⊥
HasFilled version start entries (Some fault.OtherKind) s = ⊥

-- A new store was to take over these entries, and this is why it didn't, or None. A crash at any moment leaves the first of them.
pub record Fills (version : ℕ) (start : SchedulerTables) (entries : List EntryData) (error : Option PromoteFault) (old new : DiskState) : Type 0 where
  pub has : HasFilled version start entries error new
  pub any_moment : LeavesOnly old new (HoldsFirst version start entries)

-- A store that starts with these tables has no room for the records of these entries: so many bytes are needed, and so many there are.
abbrev pub LacksAll : SchedulerTables → List EntryData → ℕ → ℕ → Type 0
LacksAll start entries need room = (payloads : List (List ℕ)) × ∥ AreKept (end_of payloads) entries payloads ∥₁ × IsFullOf start payloads need room

-- A new store was made on a disk that had none, and starts with these tables. A crash in the call leaves any bytes in the first 17, or
-- no store, or that one.
pub record Begins (version : ℕ) (start : SchedulerTables) (old new : DiskState) : Type 0 where
  pub none : HasStore TRIGGERS old.content → ⊥
  pub any_moment : (bytes : List ℕ) → Only bytes old → LeavesOnly old new (λ b. Torn 0 17 bytes b ⊎ HoldsPart version start [] b)

-- The gate after what such a store begins with, and how many payloads that is: nothing where these are the tables of a new store, else
-- their snapshot.
abbrev pub IsBehindStart : SchedulerTables → ℕ → ℕ → Type 0
IsBehindStart start gate count = (gate ≡ end_of (snapshot_written start 0 0)) × (count ≡ length (snapshot_written start 0 0)) × HaveRoom (snapshot_written start 0 0) (end_of []) 0
