-- What an entry is to a store that takes over the record of it.
use Rattle.std.specs.Prelude.{ℕ, List, length}
use Rattle.qz_stores.specs.Stores.{EntryKind}
use Rattle.qz_stores.specs.Kinds.{StoreKind, replay, with_entry}

-- What an entry of which these bytes are the record is to a store that adopts it. The version of the store has no say, as
-- where a history is read, and these bytes are what is written.
abbrev pub adopted : {H S E R : Type 0} → StoreKind H S E R → List ℕ → EntryKind H E R
adopted k bytes = record {
  answer = λ h e. k.answer (replay k h) e;
  with_entry = with_entry k;
  size = λ e. length bytes;
  IsWritten = λ e. k.IsRecordOf bytes e;
}
