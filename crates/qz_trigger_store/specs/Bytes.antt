-- Which bytes are those of which whole list of entries, and of which history.
use Rattle.std.specs.Prelude.{ℕ, List, Option}
use Rattle.qz_types.specs.Entries.{EntryData}
use Rattle.qz_types.specs.Tables.{SchedulerTables}
use Rattle.qz_model.specs.History.{History}
use Rattle.qz_stores.specs.Bases as bases
use Rattle.qz_stores.specs.Bytes as store
use Rattle.qz_stores.specs.Opening as opening
use Rattle.qz_trigger_store.specs.Kinds.{trigger_kind}

-- A whole list of entries, the format version of the store, and the tables with which it starts: those of a new store, or those
-- of the snapshot with which the store began.
abbrev pub Whole : Type 0
Whole = bases.WholeList SchedulerTables EntryData

-- the whole list of these entries from a new store of this format version on
abbrev pub list_of : ℕ → List EntryData → Whole
list_of version entries = bases.list_of trigger_kind version entries

-- the second list starts with the tables of the first, in the same version
abbrev pub BeginsAs : Whole → Whole → Type 0
BeginsAs w v = bases.BeginsAs w v

-- The bytes are a store of triggers that holds this list: its payloads are records of these entries and parts of snapshots, the
-- entries are accepted one by one from valid tables on, with which the list starts, and each open slot leads to a snapshot of
-- the tables that those before it leave. Where no slot is open, the list starts as a new store does.
abbrev pub IsWhole : Whole → List ℕ → Type 0
IsWhole w bytes = bases.IsWhole trigger_kind w bytes

-- the history begins with a new store of this format version
abbrev pub BeginsNew : ℕ → History → Type 0
BeginsNew version h = store.BeginsNew trigger_kind version h

-- The bytes hold a whole list that begins with this one, and the history is an end of it: its base is what the entries before
-- it leave.
abbrev pub Stands : Whole → List ℕ → History → Type 0
Stands w bytes h = bases.Stands trigger_kind w bytes h

-- for the history, or for it with the undecided entry
abbrev pub MayBe : Whole → History → Option EntryData → List ℕ → Type 0
MayBe w h undecided bytes = store.MayBe trigger_kind w h undecided bytes

-- The bytes from the slot in use on are those of this history: it begins with the tables of the snapshot that stands there, or
-- of a new store where no slot is open, and its entries are recorded. Nothing is said of what comes before.
abbrev pub StandsFrom : ℕ → List ℕ → History → Type 0
StandsFrom version bytes h = opening.StandsFrom trigger_kind version bytes h

-- Both histories are ends of one whole list, which starts with these tables: they leave the same tables, after as many entries.
abbrev pub AreEnds : SchedulerTables → History → History → Type 0
AreEnds start h g = bases.AreEnds trigger_kind start h g

-- What a restart may find: another end of the history's whole list, which starts with these tables, or of that with the undecided
-- entry.
abbrev pub IsDecided : SchedulerTables → History → Option EntryData → History → Type 0
IsDecided start h undecided found = bases.IsDecided trigger_kind start h undecided found
