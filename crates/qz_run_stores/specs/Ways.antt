-- What a crash in the middle of a run leaves.
use Rattle.std.specs.Prelude.{◌⊎◌, ℕ, ◌≤◌, List, length, take}
use Rattle.qz_disk.specs.declared.disk.Disk.{Ghosts}
use Rattle.qz_disk.specs.Disk.{LeavesOnly}
use Rattle.qz_stores.specs.Stores.{EntryKind, StoreState, MayBeOf}
use Rattle.qz_model.specs.History.{History}
use Rattle.qz_trigger_store.specs.Bytes.{Whole, Stands}
use Rattle.qz_trigger_store.specs.Entries.{TriggerState, trigger_entry}
use Rattle.qz_trigger_store.specs.View.{view, disk_state, GoesOnFrom}
use Rattle.qz_trigger_store.specs.declared.stores.TriggerStore.{TriggerStore}
use Rattle.qz_checkin.specs.Bytes.{Whole as WholeRows, Stands as RowsStand}
use Rattle.qz_checkin.specs.Entries.{StatesState, of_states}
use Rattle.qz_checkin.specs.History.{StateHistory}
use Rattle.qz_checkin.specs.View.{view as states_view, disk_state as states_disk_state, GoesOnFrom as RowsGoOnFrom}
use Rattle.qz_checkin.specs.declared.stores.StateStore.{StateStore}

-- Between two moments of a store its history had some of the entries that were added: at least those of the first moment. The
-- bytes are those of such a history, or of the last one with its undecided entry. `first k h` has the first k entries of h.
abbrev pub IsBetween : {H E R : Type 0} → EntryKind H E R → (List ℕ → H → Type 0) → (ℕ → H → H) → (H → ℕ) → StoreState H E → StoreState H E → List ℕ → Type 0
IsBetween kind Stand first size begun now bytes =
    ((k : ℕ) × (size begun.history ≤ k) × (k ≤ size now.history) × Stand bytes (first k now.history)) ⊎ MayBeOf kind Stand now.history now.undecided bytes

abbrev pub first_entries : ℕ → History → History
first_entries k h = record h { entries = take k h.entries }

abbrev pub first_rows : ℕ → StateHistory → StateHistory
first_rows k h = record h { entries = take k h.entries }

-- the bytes of the trigger store on the way from one state to the other, which go on from this whole list
abbrev pub HasOnTheWay : Whole → TriggerState → TriggerState → List ℕ → Type 0
HasOnTheWay w begun now bytes = IsBetween trigger_entry (Stands w) first_entries (λ (h : History). length h.entries) begun now bytes

-- those of the state store
abbrev pub HasRowsOnTheWay : WholeRows → StatesState → StatesState → List ℕ → Type 0
HasRowsOnTheWay v begun now bytes = IsBetween of_states (RowsStand v) first_rows (λ (h : StateHistory). length h.entries) begun now bytes

-- On an honest disk the store goes on from each whole list that it went on from, and a crash at any moment between the two leaves
-- such bytes.
abbrev pub KeepsTriggers : {D : Type 0} {g : Ghosts D} → TriggerStore D g → TriggerStore D g → Type 0
KeepsTriggers {g = g} begun now =
    g.honest → (w : Whole) → GoesOnFrom begun w → GoesOnFrom now w × LeavesOnly (disk_state begun) (disk_state now) (HasOnTheWay w (view begun) (view now))

abbrev pub KeepsStates : {D : Type 0} {g : Ghosts D} → StateStore D g → StateStore D g → Type 0
KeepsStates {g = g} begun now =
    g.honest → (v : WholeRows) → RowsGoOnFrom begun v → RowsGoOnFrom now v × LeavesOnly (states_disk_state begun) (states_disk_state now) (HasRowsOnTheWay v (states_view begun) (states_view now))
