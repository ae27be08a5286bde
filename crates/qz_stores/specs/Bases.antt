-- The whole list of a store's entries, from the state that it starts with, and histories that begin with a base and are an end of it.
use Rattle.std.specs.Prelude.{◌≡◌, ◌⊎◌, ℕ, ◌≤◌, true, not, take, drop, List, [], ◌∷◌, ◌++◌, length, filter, Option, Some, None}
use Rattle.std.specs.List.{AllZip}
use Rattle.qz_journal.specs.Layout.{Holds, end_of}
use Rattle.qz_journal.specs.Slots.{IsSlot, slot, slots_of, slot_in_use}
use Rattle.qz_stores.specs.Stores.{StoreState}
use Rattle.qz_stores.specs.Kinds.{StoreKind, with_entry}

-- the payloads that are no parts of snapshots
abbrev pub records : {H S E R : Type 0} → StoreKind H S E R → List (List ℕ) → List (List ℕ)
records k payloads = filter (λ payload. not (k.is_part payload)) payloads

-- These are records of these entries, in order.
abbrev pub RecordEntries : {H S E R : Type 0} → StoreKind H S E R → List (List ℕ) → List E → Type 0
RecordEntries k payloads entries = ∥ AllZip k.IsRecordOf (records k payloads) entries ∥₁

-- At this offset a snapshot begins, of the state that the entries before it leave, from this start on.
pub record IsSnapshotAt {H S E R : Type 0} (k : StoreKind H S E R) (start : S) (payloads : List (List ℕ)) (entries : List E) (offset : ℕ) : Type 0 where
  pub before : List (List ℕ)
  pub from : List (List ℕ)
  pub earlier : List E
  pub later : List E
  pub payloads_are : payloads ≡ before ++ from
  pub entries_are : entries ≡ earlier ++ later
  pub offset_is : offset ≡ end_of before
  pub recorded : RecordEntries k before earlier
  pub snapshot : k.BeginSnapshot from (k.replay_from start earlier) (length before) (length earlier)

-- A snapshot that begins at this offset among these payloads comes after so many entries; where no slot is in use, there are none.
abbrev pub ComeBefore : {H S E R : Type 0} → StoreKind H S E R → Option ℕ → ℕ → List (List ℕ) → ℕ → Type 0
ComeBefore k None start payloads many = many ≡ 0
ComeBefore {S = S} k (Some gate) start payloads many =
    (front from : List (List ℕ)) → payloads ≡ front ++ from → start ≡ end_of front → (T : S) (before entries : ℕ) → k.BeginSnapshot from T before entries → entries ≡ many

-- The bytes are a store of this kind and version, which starts with this state. Its payloads are records of these entries and
-- parts of snapshots. The start is a valid state. It accepts the entries one by one, and each open slot leads to a snapshot of
-- the state that those before it leave. Where no slot is open, an opening begins with the state of a new store, and so the
-- start is that one. (Bytes hold one list of entries at most.)
pub record HoldAll {H S E R : Type 0} (k : StoreKind H S E R) (version : ℕ) (start : S) (bytes : List ℕ) (entries : List E) : Type 0 where
  pub store : (payloads : List (List ℕ)) × Holds bytes version k.number payloads
  pub recorded : (payloads : List (List ℕ)) → Holds bytes version k.number payloads → RecordEntries k payloads entries
  pub valid : ∥ k.IsValid start ∥₁
  pub legal : ∥ k.IsLegalFrom start entries ∥₁
  pub slots : (payloads : List (List ℕ)) → Holds bytes version k.number payloads → (gate offset : ℕ) → IsSlot gate → slot gate bytes ≡ Some offset → ∥ IsSnapshotAt k start payloads entries offset ∥₁
  pub begins : slot_in_use (slots_of bytes) ≡ None → start ≡ k.empty version

-- they hold these, or these and the undecided one
abbrev pub MayHoldAll : {H S E R : Type 0} → StoreKind H S E R → ℕ → S → List E → Option E → List ℕ → Type 0
MayHoldAll k version start entries None bytes = HoldAll k version start bytes entries
MayHoldAll k version start entries (Some e) bytes = HoldAll k version start bytes entries ⊎ HoldAll k version start bytes (entries ++ e ∷ [])

-- The history is an end of these entries of a store that starts with this state: its base is how many of them come before it,
-- and the state that those leave.
pub record IsEndOf {H S E R : Type 0} (k : StoreKind H S E R) (start : S) (h : H) (entries : List E) : Type 0 where
  pub there : k.base_count h ≤ length entries
  pub rest : k.entries h ≡ drop (k.base_count h) entries
  pub base : k.base h ≡ k.replay_from start (take (k.base_count h) entries)

-- What a restart may find of the whole list: an end of it, or an end of it with the undecided entry.
abbrev pub IsDecidedFrom : {H S E R : Type 0} → StoreKind H S E R → S → List E → Option E → H → Type 0
IsDecidedFrom k start entries None found = IsEndOf k start found entries
IsDecidedFrom k start entries (Some e) found = IsEndOf k start found entries ⊎ IsEndOf k start found (entries ++ e ∷ [])

-- A whole list of entries, in a store of this version, and the state before the first: that of a new store, or that of the
-- snapshot with which the store began.
pub record WholeList (S E : Type 0) : Type 0 where
  pub version : ℕ
  pub start : S
  pub entries : List E

-- the whole list of these entries from a new store of this version on
abbrev pub list_of : {H S E R : Type 0} → StoreKind H S E R → ℕ → List E → WholeList S E
list_of k version entries = record { version = version; start = k.empty version; entries = entries }

-- the second list starts as the first, in the same version
abbrev pub BeginsAs : {S E : Type 0} → WholeList S E → WholeList S E → Type 0
BeginsAs w v = (v.version ≡ w.version) × (v.start ≡ w.start)

-- The bytes hold this whole list.
abbrev pub IsWhole : {H S E R : Type 0} → StoreKind H S E R → WholeList S E → List ℕ → Type 0
IsWhole k w bytes = HoldAll k w.version w.start bytes w.entries

-- The bytes hold a whole list that begins with this one, and the history is an end of it.
pub record Stands {H S E R : Type 0} (k : StoreKind H S E R) (w : WholeList S E) (bytes : List ℕ) (h : H) : Type 0 where
  pub more : List E
  pub held : HoldAll k w.version w.start bytes (w.entries ++ more)
  pub end_of_them : IsEndOf k w.start h (w.entries ++ more)

-- Both histories are ends of one whole list, which starts with this state: they leave the same state, after as many entries.
pub record AreEnds {H S E R : Type 0} (k : StoreKind H S E R) (start : S) (h g : H) : Type 0 where
  pub entries : List E
  pub first : IsEndOf k start h entries
  pub second : IsEndOf k start g entries

-- What a restart may find: another end of the history's whole list, which starts with this state, or of that with the undecided
-- entry.
abbrev pub IsDecided : {H S E R : Type 0} → StoreKind H S E R → S → H → Option E → H → Type 0
IsDecided k start h None found = AreEnds k start h found
IsDecided k start h (Some e) found = AreEnds k start h found ⊎ AreEnds k start (with_entry k e h) found

-- A restart ended: the store is open with what was found. On an honest disk that held a whole list when the store was opened
-- before, it is an end of the same whole list as the history, or of that with the undecided entry, whatever that list starts with.
pub record Opens {H S E R : Type 0} (k : StoreKind H S E R) (honest : Type 0) (s t : StoreState H E) : Type 0 where
  pub is_open : t.is_open ≡ true
  pub undecided : t.undecided ≡ None
  pub decided : honest → ∥ ((start : S) × IsDecided k start s.history s.undecided t.history) ∥₁
  pub later : s.faults ≤ t.faults
