-- Which bytes are those of which lists and histories.
use Rattle.std.specs.Prelude.{ℕ, List, Option}
use Rattle.qz_types.specs.Entries.{StateEntryData}
use Rattle.qz_stores.specs.Bases as list
use Rattle.qz_stores.specs.Bytes as store
use Rattle.qz_stores.specs.Opening as opening
use Rattle.qz_checkin.specs.History.{StateHistory}
use Rattle.qz_checkin.specs.Kinds.{state_kind}
use Rattle.qz_checkin.specs.Rows.{StateTables}

-- the history begins with a new store of this format version
abbrev pub BeginsNew : ℕ → StateHistory → Type 0
BeginsNew version h = store.BeginsNew state_kind version h

-- A whole list of entries, in a store of some format version, and the rows with which it starts. A state store has no snapshots,
-- so these are those of a new store.
abbrev pub Whole : Type 0
Whole = list.WholeList StateTables StateEntryData

-- the whole list of these entries from a new store of this format version on
abbrev pub list_of : ℕ → List StateEntryData → Whole
list_of version entries = list.list_of state_kind version entries

-- the second list starts with the rows of the first, in the same version
abbrev pub BeginsAs : Whole → Whole → Type 0
BeginsAs w v = list.BeginsAs w v

-- The bytes are a state store of this version. Its payloads are records of these entries, a new store accepts the entries one
-- by one, and no slot is open.
abbrev pub IsWhole : Whole → List ℕ → Type 0
IsWhole w bytes = list.IsWhole state_kind w bytes

-- The bytes are a state store of this version, and its payloads are records of all that the history has.
abbrev pub StandsFrom : ℕ → List ℕ → StateHistory → Type 0
StandsFrom version bytes h = opening.StandsFrom state_kind version bytes h

-- The bytes hold a whole list that begins with this one, and the history is an end of it.
abbrev pub Stands : Whole → List ℕ → StateHistory → Type 0
Stands w bytes h = list.Stands state_kind w bytes h

-- for the history, or for it with the undecided entry
abbrev pub MayBe : Whole → StateHistory → Option StateEntryData → List ℕ → Type 0
MayBe w h undecided bytes = store.MayBe state_kind w h undecided bytes

-- Both histories are ends of one whole list, which starts with these rows.
abbrev pub AreEnds : StateTables → StateHistory → StateHistory → Type 0
AreEnds start h g = list.AreEnds state_kind start h g

-- What a restart may find: another end of the history's whole list, which starts with these rows, or of that with the undecided
-- entry.
abbrev pub IsDecided : StateTables → StateHistory → Option StateEntryData → StateHistory → Type 0
IsDecided start h undecided found = list.IsDecided state_kind start h undecided found
