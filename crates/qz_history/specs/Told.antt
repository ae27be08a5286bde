-- What is told of a history.
use Rattle.std.specs.Prelude.{ℕ, ◌+◌, ℤ, List, [], ◌∷◌, ◌++◌, nat_lt, if◌then◌else◌, Option, Some, None}
use Rattle.qz_types.specs.Entries.{EntryData}
use Rattle.qz_types.specs.Outcomes.{Outcome, accepted, refused}
use Rattle.qz_types.specs.Tables.{SchedulerTables, recorded_moment}
use Rattle.qz_model.specs.History.{History, tables_left}
use Rattle.qz_model.specs.Transaction.{transaction}
use Rattle.qz_history.specs.Objects.{object_text}

-- a transaction of this number, with its moment and its reply, if the number is above `from`
abbrev pub told_outcome : ℕ → ℕ → ℤ → EntryData → Outcome → List ℕ
told_outcome from number moment e (accepted next reply) = if nat_lt from number then object_text number moment e reply else []
told_outcome from number moment e (refused refusal) = []

-- the same at these tables
unfoldable pub told_entry : ℕ → ℕ → SchedulerTables → EntryData → List ℕ
told_entry from number T e = told_outcome from number (recorded_moment T e.at) e (transaction T e)

-- each entry at the tables that those before it leave, numbered on from this number
abbrev pub told_from : ℕ → ℕ → SchedulerTables → List EntryData → List ℕ
told_from from number T [] = []
told_from from number T (e ∷ es) = told_entry from number T e ++ told_from from (number + 1) (tables_left T (transaction T e)) es

-- all entries of a history. Those that its base stands for aren't there.
abbrev pub told : ℕ → History → List ℕ
told from h = told_from from (h.base_count + 1) h.base h.entries

-- the number of the first entry that a history lists, if it isn't the first that was asked for
abbrev pub beginning_of : ℕ → History → Option ℕ
beginning_of from h = if nat_lt from h.base_count then Some (h.base_count + 1) else None
