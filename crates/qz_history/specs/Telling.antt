-- What was written of a history whose entries are read payload by payload.
use Rattle.std.specs.Prelude.{◌≡◌, ◌⊎◌, ℕ, ◌+◌, List, take, Option}
use Rattle.std.specs.Io.KnownBytes.{Appends}
use Rattle.qz_types.specs.Entries.{EntryData}
use Rattle.qz_types.specs.Tables.{SchedulerTables}
use Rattle.qz_model.specs.History.{History}
use Rattle.qz_stores.specs.Opening.{AreTaken}
use Rattle.qz_stores.specs.Replaying.{IsPassed, IsTaken}
use Rattle.qz_trigger_store.specs.Kinds.{trigger_kind}
use Rattle.qz_history.specs.Told.{beginning_of, told, told_from}

-- the bytes that an output holds, where they are known
abbrev pub Bytes : Type 0
Bytes = Option (List ℕ)

-- Of entries that were told, and of the next payload, which is read at the tables that they left, a front of what is told was written.
pub record TellsOn (from number : ℕ) (T left : SchedulerTables) (payload : List ℕ) (told_so_far : List EntryData) (old new : Option (List ℕ)) : Type 0 where
  pub entries : List EntryData
  pub part : ℕ
  pub next : (entries ≡ told_so_far) ⊎ (IsPassed trigger_kind payload told_so_far entries ⊎ IsTaken trigger_kind left payload told_so_far entries)
  pub written : Appends old new (take part (told_from from number T entries))

-- Of a history that begins with these tables, which so many entries left, a front of what is told was written: entries were read
-- of a front of the payloads, and a part of their objects left.
pub record TellsPart (from count : ℕ) (T : SchedulerTables) (payloads : List (List ℕ)) (old new : Option (List ℕ)) : Type 0 where
  pub entries : List EntryData
  pub read : ℕ
  pub part : ℕ
  pub taken : AreTaken trigger_kind T (take read payloads) entries
  pub written : Appends old new (take part (told_from from (count + 1) T entries))

-- All of it was written, and where it begins is this.
pub record TellsWhole (from : ℕ) (h : History) (begins : Option ℕ) (old new : Option (List ℕ)) : Type 0 where
  pub written : Appends old new (told from h)
  pub begins_is : begins ≡ beginning_of from h
