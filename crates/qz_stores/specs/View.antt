-- What is seen of a store, and of its disk.
use Rattle.std.specs.Prelude.{◌≡◌, ℕ, ◌-◌, List, ◌++◌}
use Rattle.qz_disk.specs.declared.disk.Disk.{Ghosts}
use Rattle.qz_disk.specs.Disk.{DiskState, LeavesOnly}
use Rattle.qz_journal.specs.View.{disk_of as journal_disk, gate_of, count_of, slots_of as journal_slots}
use Rattle.qz_journal.specs.declared.slots.Slots.{Slots}
use Rattle.qz_stores.specs.Stores.{StoreState}
use Rattle.qz_stores.specs.Bases.{HoldAll, WholeList}
use Rattle.qz_stores.specs.Bytes.{IsOfEither}
use Rattle.qz_stores.specs.declared.kinds.Kind.{Ghosts as Kinds}
use Rattle.qz_stores.specs.declared.stores.Store.{Store}

-- how many entries came before those that were found, and the state that they left
abbrev pub base_count_of : {D K E R C : Type 0} {g : Ghosts D} {k : Kinds K E R C} → Store D K E R C g k → ℕ
base_count_of s = s.base_count

abbrev pub base_of : {D K E R C : Type 0} {g : Ghosts D} {k : Kinds K E R C} → Store D K E R C g k → k.State
base_of {k = k} s = k.state s.base.value

-- the entries that were read when it was opened
abbrev pub found_of : {D K E R C : Type 0} {g : Ghosts D} {k : Kinds K E R C} → Store D K E R C g k → List E
found_of s = s.found.items

-- the entries accepted since then
abbrev pub added_of : {D K E R C : Type 0} {g : Ghosts D} {k : Kinds K E R C} → Store D K E R C g k → List E
added_of s = s.added.items

-- the bytes that the disk had when it was opened
abbrev pub opened_of : {D K E R C : Type 0} {g : Ghosts D} {k : Kinds K E R C} → Store D K E R C g k → List ℕ
opened_of {g = g} s = (g.state (journal_disk s.opened.value)).content

-- the version of the format that its history began in
abbrev pub version_of : {D K E R C : Type 0} {g : Ghosts D} {k : Kinds K E R C} → Store D K E R C g k → ℕ
version_of s = s.version

-- how many entries came after the snapshot in use, or in all where no slot is open
abbrev pub behind_of : {D K E R C : Type 0} {g : Ghosts D} {k : Kinds K E R C} → Store D K E R C g k → ℕ
behind_of s = s.count - s.snapshot

-- the slots of its journal
abbrev pub slots_of : {D K E R C : Type 0} {g : Ghosts D} {k : Kinds K E R C} → Store D K E R C g k → Slots
slots_of s = journal_slots s.journal

-- what it keeps in memory
abbrev pub kept_of : {D K E R C : Type 0} {g : Ghosts D} {k : Kinds K E R C} → Store D K E R C g k → K
kept_of s = s.state

-- the state that they leave
abbrev pub state_of : {D K E R C : Type 0} {g : Ghosts D} {k : Kinds K E R C} → Store D K E R C g k → k.State
state_of {k = k} s = k.state s.state

-- the disk that it is on
abbrev pub disk_of : {D K E R C : Type 0} {g : Ghosts D} {k : Kinds K E R C} → Store D K E R C g k → D
disk_of s = journal_disk s.journal

-- its content and its images, where it is honest
abbrev pub disk_state : {D K E R C : Type 0} {g : Ghosts D} {k : Kinds K E R C} → Store D K E R C g k → DiskState
disk_state {g = g} s = g.state (disk_of s)

-- The store at this moment. Its history is a base, and the entries since.
abbrev pub view : {D K E R C : Type 0} {g : Ghosts D} {k : Kinds K E R C} → Store D K E R C g k → StoreState k.History E
view {g = g} {k = k} s = record {
  history = k.kind.history s.base_count (base_of s) (found_of s ++ added_of s);
  gate = gate_of s.journal;
  payloads = count_of s.journal;
  is_open = s.is_open;
  undecided = s.undecided;
  faults = g.faults (disk_of s);
}

-- What the disk held when the store was opened is a whole list that begins with this one.
abbrev pub GoesOnFrom : {D K E R C : Type 0} {g : Ghosts D} {k : Kinds K E R C} → Store D K E R C g k → WholeList k.State E → Type 0
GoesOnFrom {E = E} {k = k} s w = (more : List E) × (version_of s ≡ w.version) × HoldAll k.kind w.version w.start (opened_of s) (w.entries ++ more)

-- The disk is honest, and held a whole list when the store was opened.
abbrev pub IsTold : {D K E R C : Type 0} {g : Ghosts D} {k : Kinds K E R C} → Store D K E R C g k → Type 0
IsTold {E = E} {g = g} {k = k} s = g.honest × ∥ ((w : WholeList k.State E) × GoesOnFrom s w) ∥₁

-- The store goes on from each whole list that it went on from, and a crash at any moment leaves the history before the call
-- or the one after it.
abbrev pub LeavesHistories : {D K E R C : Type 0} {g : Ghosts D} {k : Kinds K E R C} → Store D K E R C g k → Store D K E R C g k → Type 0
LeavesHistories {E = E} {k = k} s t =
    (w : WholeList k.State E) → GoesOnFrom s w → GoesOnFrom t w × LeavesOnly (disk_state s) (disk_state t) (IsOfEither k.kind w (view s) (view t))

-- What a store was opened on is as it was: its base and the entries found, and the bytes.
abbrev pub IsOpenedAsBefore : {D K E R C : Type 0} {g : Ghosts D} {k : Kinds K E R C} → Store D K E R C g k → Store D K E R C g k → Type 0
IsOpenedAsBefore s t =
    (t.version ≡ s.version) × (base_count_of t ≡ base_count_of s) × (base_of t ≡ base_of s) × (found_of t ≡ found_of s) × (opened_of t ≡ opened_of s)

-- Nothing of the store, of what it keeps and of its disk has changed, whatever room it has.
abbrev pub IsAsBefore : {D K E R C : Type 0} {g : Ghosts D} {k : Kinds K E R C} → Store D K E R C g k → Store D K E R C g k → Type 0
IsAsBefore s t =
    (t.journal ≡ s.journal) × IsOpenedAsBefore s t × (t.count ≡ s.count) × (t.snapshot ≡ s.snapshot) × (state_of t ≡ state_of s) × (added_of t ≡ added_of s)
    × (t.is_open ≡ s.is_open) × (t.undecided ≡ s.undecided)
