-- How full the stores are.
use Rattle.std.specs.Prelude.{ℕ}
use Rattle.qz_steps.specs.declared.rooms.Fill.{Fill}
use Rattle.qz_steps.specs.declared.rooms.Room.{Room}
use Rattle.qz_stores.specs.Stores.{StoreState}
use Rattle.qz_trigger_store.specs.Entries.{TriggerState}
use Rattle.qz_checkin.specs.Entries.{StatesState}

-- the offset of the closed gate, and how many payloads stand before it
abbrev pub fill_of : {H E : Type 0} → StoreState H E → Fill
fill_of s = record { bytes = s.gate; payloads = s.payloads }

-- how full both stores are, of which that of triggers has so many entries after its last snapshot
abbrev pub room_of : TriggerState → ℕ → StatesState → Room
room_of s behind t = record { triggers = fill_of s; behind = behind; states = fill_of t }
