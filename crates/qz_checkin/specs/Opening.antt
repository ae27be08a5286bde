-- What an opening finds in the bytes of a disk.
use Rattle.std.specs.Prelude.{ℕ, List}
use Rattle.qz_journal.specs.declared.errors.MountError.{MountError}
use Rattle.qz_stores.specs.Opening as store
use Rattle.qz_checkin.specs.Entries.{StatesState}
use Rattle.qz_checkin.specs.Kinds.{state_kind}

-- What holds of a store at each moment, whatever its disk tells: its history is legal and begins with a new store, its
-- rows are valid, and while it is open no more entries than payloads come before its gate.
abbrev pub IsSound : StatesState → Type 0
IsSound s = store.IsSound state_kind s

-- a store that was just opened
abbrev pub IsOpened : StatesState → Type 0
IsOpened s = store.IsOpened state_kind s

-- why an opening of these bytes is refused; that the disk or memory failed isn't seen in them
abbrev pub IsRefused : List ℕ → MountError → Type 0
IsRefused bytes error = store.IsRefused state_kind bytes error
