-- What an opening finds in bytes.
use Rattle.std.specs.Prelude.{◌≡◌, ℕ, List, None}
use Rattle.qz_journal.specs.Slots.{slots_of, slot_in_use}
use Rattle.qz_model.specs.History.{History}
use Rattle.qz_trigger_store.specs.Bytes.{Whole, list_of, IsWhole, Stands, StandsFrom, BeginsNew}
use Rattle.qz_trigger_store.specs.Entries.{TriggerState}
use Rattle.qz_checkin.specs.Bytes.{Whole as WholeRows, IsWhole as IsWholeRows, Stands as RowsStand}
use Rattle.qz_checkin.specs.Entries.{StatesState}

-- the history is all that the bytes hold, from a new store on
pub record IsAll (bytes : List ℕ) (h : History) : Type 0 where
  pub version : ℕ
  pub begins : BeginsNew version h
  pub whole : IsWhole (list_of version h.entries) bytes

-- What was opened of a trigger store. Its history begins with the snapshot at the slot in use, and is what the bytes from there on
-- tell. Where the bytes hold a whole list, with true snapshots, it is an end of it. Where no slot is open, it is all that they
-- hold.
pub record IsFoundIn (bytes : List ℕ) (opened : TriggerState) : Type 0 where
  pub version : ℕ
  pub stands : StandsFrom version bytes opened.history
  pub whole : (w : Whole) → IsWhole w bytes → Stands w bytes opened.history
  pub without_slots : slot_in_use (slots_of bytes) ≡ None → IsAll bytes opened.history

-- What was opened of a state store. No slot of it is open, so it is all that the bytes hold.
pub record AreFoundIn (bytes : List ℕ) (opened : StatesState) : Type 0 where
  pub all : WholeRows
  pub held : IsWholeRows all bytes
  pub whole : (v : WholeRows) → IsWholeRows v bytes → RowsStand v bytes opened.history
