-- The rows in memory.
use Rattle.std.specs.Prelude.{◌≡◌, ◌<◌, Option, IsSome, vec_len, vec_capacity}
use Rattle.qz_types.specs.Rows.{StateData}
use Rattle.qz_types.specs.Entries.{StateEntryData}
use Rattle.qz_checkin.specs.Rows.{StateTables, IsAccepted, state_moment, state_transaction}
use Rattle.qz_checkin.specs.Valid.{row_by}
use Rattle.qz_checkin.specs.declared.rows.States.{States}

abbrev pub tables_in : States → StateTables
tables_in s = record { rows = s.rows.items; last_moment = s.last_moment }

-- if there is a row to be put in, it takes no memory
abbrev pub HasRoomFor : Option StateData → States → Type 0
HasRoomFor row s = IsSome row → vec_len s.rows < vec_capacity s.rows

-- The entry is accepted at these rows. The row that it puts in is ready, and has room.
pub record Prepares (s : States) (e : StateEntryData) (row : Option StateData) : Type 0 where
  pub accepted : IsAccepted (state_transaction (tables_in s) e)
  pub row_is : row ≡ row_by (state_moment (tables_in s) e.at) e.command
  pub room : HasRoomFor row s
