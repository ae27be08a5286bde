-- What an opening finds in the bytes of a disk.
use Rattle.std.specs.Prelude.{ℕ, List}
use Rattle.qz_journal.specs.declared.errors.MountError.{MountError}
use Rattle.qz_stores.specs.Opening as store
use Rattle.qz_trigger_store.specs.Entries.{TriggerState}
use Rattle.qz_trigger_store.specs.Kinds.{trigger_kind}

-- What holds of a store at each moment, whatever its disk tells: its history begins with valid tables, is legal and leaves valid
-- tables. While it is open, its journal has a payload for each entry at least, those before its base counted: the journal of a
-- closed one may have been read anew.
abbrev pub IsSound : TriggerState → Type 0
IsSound s = store.IsSound trigger_kind s

-- a store that was just opened
abbrev pub IsOpened : TriggerState → Type 0
IsOpened s = store.IsOpened trigger_kind s

-- why an opening of these bytes is refused; that the disk or memory failed isn't seen in them
abbrev pub IsRefused : List ℕ → MountError → Type 0
IsRefused bytes error = store.IsRefused trigger_kind bytes error

-- Each history that an opening may take from these bytes lists so many entries after its base.
abbrev pub OpensWith : List ℕ → ℕ → Type 0
OpensWith bytes many = store.OpensWith trigger_kind bytes many
