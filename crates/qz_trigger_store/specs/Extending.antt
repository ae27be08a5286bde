-- A trigger store that takes over entries which another one accepted, with the tables that they leave.
use Rattle.std.specs.Prelude.{ℕ, List}
use Rattle.qz_disk.specs.Disk.{DiskState}
use Rattle.qz_types.specs.Entries.{EntryData}
use Rattle.qz_stores.specs.Extending as store
use Rattle.qz_trigger_store.specs.Bytes.{Whole}
use Rattle.qz_trigger_store.specs.Entries.{TriggerState}
use Rattle.qz_trigger_store.specs.Kinds.{trigger_kind}

-- the whole list with these further entries
abbrev pub with_entries : Whole → List EntryData → Whole
with_entries w more = store.with_entries w more

-- The bytes hold this whole list with the first of these further entries.
abbrev pub HoldsFirst : Whole → List EntryData → List ℕ → Type 0
HoldsFirst w more bytes = store.HoldsFirst trigger_kind w more bytes

-- The disk holds this whole list, and a crash leaves that.
abbrev pub Has : Whole → DiskState → Type 0
Has w s = store.Has trigger_kind w s

-- These entries, of which these payloads are the records, were put at the end of the history.
abbrev pub Extends : List (List ℕ) → List EntryData → TriggerState → TriggerState → Type 0
Extends records more s t = store.Extends trigger_kind records more s t
