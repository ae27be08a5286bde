-- What a node sees that looks for late ones.
use Rattle.std.specs.Prelude.{⊤, ◌≡◌, ℕ, ℤ, ◌+ℤ◌, List, ◌∷◌, ◌++◌, Bool, true, int_le, ◌&&◌, Option, Some, None, if◌then◌else◌}
use mathlib.Core.List.{IsPrefix}
use Rattle.qz_types.specs.Rows.{EvidenceData}
use Rattle.qz_types.specs.Entries.{StateEntryData}
use Rattle.qz_types.specs.declared.states.StateCommand.TheVariants.{CheckIn}
use Rattle.qz_stores.specs.Stores.{EntryKind, StoreState}
use Rattle.qz_checkin.specs.Rows.{StateTables, state_moment}
use Rattle.qz_checkin.specs.Lateness.{failed_by}
use Rattle.qz_run.specs.declared.stores.TheConstants.{CHECK_IN_INTERVAL}
use Rattle.qz_shared.specs.Since.{history_at}

-- Entries that begin with those of the opened store leave these rows: a store with that history has them.
pub record LeavesRows {S H : Type 0} (kind : EntryKind H StateEntryData ⊤) (listed : H → List StateEntryData) (state : S → StoreState H StateEntryData) (tables : S → StateTables) (opened : StoreState H StateEntryData) (entries : List StateEntryData) (T : StateTables) : Type 0 where
  pub store : S
  pub history : (state store).history ≡ history_at kind listed opened entries
  pub rows : tables store ≡ T

-- why the first node is taken for failed that is late at these rows for this one, at this reading
abbrev pub late_in : StateTables → ℤ → List ℕ → Option EvidenceData
late_in T at own = failed_by T (state_moment T at) own

-- this moment lies no further past the reading of a node's round than the interval in which it checks in
abbrev pub is_near : ℤ → ℤ → Bool
is_near before at = int_le at (before +ℤ CHECK_IN_INTERVAL)

-- A look that belongs to a round is given the reading of the round before. It finds nobody where its own reading, or the last moment
-- of the store, lies further past that one: a node that slept takes nobody for failed.
abbrev pub is_awake : Option ℤ → StateTables → ℤ → Bool
is_awake None T at = true
is_awake (Some before) T at = is_near before at && is_near before T.last_moment

-- what a look finds
abbrev pub found_in : Option ℤ → StateTables → ℤ → List ℕ → Option EvidenceData
found_in before T at own = if is_awake before T at then late_in T at own else None

-- the check-in of a node, under the number of a seat
abbrev pub check_in_by : ℤ → ℕ → List ℕ → StateEntryData
check_in_by at seat own = record { at = at; seat = seat; command = CheckIn own CHECK_IN_INTERVAL }

-- After the first entries the list has a check-in of this node with this reading.
pub record HasCheckedIn (first : List StateEntryData) (own : List ℕ) (at : ℤ) (entries : List StateEntryData) : Type 0 where
  pub before : List StateEntryData
  pub seat : ℕ
  pub later : List StateEntryData
  pub entries_are : entries ≡ (first ++ before) ++ check_in_by at seat own ∷ later

-- The list has a check-in of this node with the first reading, and after that one with the second.
pub record HasCheckedInAgain (first : List StateEntryData) (own : List ℕ) (before at : ℤ) (entries : List StateEntryData) : Type 0 where
  pub earlier : List StateEntryData
  pub seat : ℕ
  pub later : List StateEntryData
  pub checked_in : HasCheckedIn first own before earlier
  pub entries_are : entries ≡ earlier ++ check_in_by at seat own ∷ later

-- This node checked in at a reading and looked after that, at entries with which what was `seen` since then begins. It
-- found that another node was late at the rows that they leave, by this evidence. It hadn't slept: it had checked in before, and
-- neither that reading nor the moment of the rows lies further past that than its interval.
pub record FindsLate (leaves : List StateEntryData → StateTables → Type 0) (first : List StateEntryData) (own : List ℕ) (at : ℤ) (seen : List StateEntryData) (found : EvidenceData) : Type 0 where
  pub looked : List StateEntryData
  pub tables : StateTables
  pub begins : IsPrefix looked seen
  pub checked_in : HasCheckedIn first own at looked
  pub rows : leaves looked tables
  pub found_is : late_in tables at own ≡ Some found
  pub before : ℤ
  pub again : HasCheckedInAgain first own before at looked
  pub awake : is_awake (Some before) tables at ≡ true
