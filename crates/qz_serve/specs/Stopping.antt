-- What threads of nodes ask for, and why they stop.
use Rattle.std.specs.Prelude.{⊤, ◌⊎◌, ℕ, ℤ, List, Contains}
use mathlib.Core.List.{IsPrefix}
use Rattle.qz_types.specs.Entries.{EntryData, StateEntryData}
use Rattle.qz_types.specs.Rows.{MemberData}
use Rattle.qz_types.specs.declared.replies.Reply.{Reply}
use Rattle.qz_row_lock.specs.declared.logged.Logged.{Ghosts}
use Rattle.qz_row_lock.specs.declared.row.RowLock.{RowLock}
use Rattle.qz_row_lock.specs.declared.row.Seat.{Seat}
use Rattle.qz_row_lock.specs.Seats.{seen, first_value}
use Rattle.qz_stores.specs.Stores.{EntryKind, StoreState}
use Rattle.qz_checkin.specs.Rows.{StateTables}
use Rattle.qz_run.specs.declared.commands.Declined.{Declined}
use Rattle.qz_shared.specs.Calls.{Known}
use Rattle.qz_shared.specs.declared.held.Held.{Held}
use Rattle.qz_shared.specs.declared.stores.RowStore.{Ghosts as StoreGhosts}
use Rattle.qz_rounds.specs.Adding.{IsRecovery, IsRoundEntry}
use Rattle.qz_rounds.specs.Declining.{IsStopped}
use Rattle.qz_serve.specs.Asking.{first_entries}
use Rattle.qz_serve.specs.Entries.{IsScheduled}

-- `first` are the entries that the state store had before, and `seen` are those that it has.
module _ (shows : ℤ → Type 0) (until : ℤ) (leaves : List StateEntryData → StateTables → Type 0) (first : List StateEntryData) where
  -- The scheduler thread of a node of one of these names asks for it, or its check-in thread.
  pub record IsOfThreads (names : List (List ℕ)) (seen : List StateEntryData) (e : EntryData) : Type 0 where
    pub me : MemberData
    pub number : ℕ
    pub ours : Contains names me.node
    pub asked : IsScheduled shows until me number e ⊎ IsRecovery shows leaves first me seen e

  -- The check-in thread of such a node asks for it.
  pub record IsRowOfThreads (names : List (List ℕ)) (seen : List StateEntryData) (e : StateEntryData) : Type 0 where
    pub me : MemberData
    pub ours : Contains names me.node
    pub asked : IsRoundEntry shows leaves first me.node seen e

-- A thread stopped for this reason at an entry that is such, after some of what was seen. `base` are the entries that the store had
-- when it was put under its row.
pub record StoppedAfter {H E R : Type 0} (kind : EntryKind H E R) (listed : H → List E) (opened : StoreState H E) (base : List E) (IsOne : E → Type 0) (seen : List E) (w : Declined) : Type 0 where
  pub knows : Known E
  pub stopped : IsStopped kind listed opened IsOne knows w
  pub begins : IsPrefix base knows.seen
  pub within : IsPrefix knows.seen seen

module _ {S G : Type 0} {h : StoreGhosts S EntryData Reply} {g : Ghosts (Held S EntryData Reply h) EntryData G} {T I : Type 0} {k : StoreGhosts T StateEntryData ⊤} {j : Ghosts (Held T StateEntryData ⊤ k) StateEntryData I} where
  -- One of the threads of nodes of these names stopped for this reason, as the two seats show it into which theirs were joined.
  abbrev pub ShowsStopped : (ℤ → Type 0) → ℤ → (List StateEntryData → StateTables → Type 0) → List StateEntryData → List (List ℕ) → RowLock (Held S EntryData Reply h) EntryData G → RowLock (Held T StateEntryData ⊤ k) StateEntryData I
      → Seat (Held S EntryData Reply h) EntryData G g → Seat (Held T StateEntryData ⊤ k) StateEntryData I j → Declined → Type 0
  ShowsStopped shows until leaves first names row rounds s t w =
      StoppedAfter h.kind h.listed (h.state (first_value row).opened.value) (first_entries row) (IsOfThreads shows until leaves first names (seen t)) (seen s) w
      ⊎ StoppedAfter k.kind k.listed (k.state (first_value rounds).opened.value) (k.listed (k.state (first_value rounds).store).history) (IsRowOfThreads shows until leaves first names (seen t)) (seen t) w
