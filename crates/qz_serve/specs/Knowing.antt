-- What is known of threads that have ended, where only their seats, or those into which they were joined, are at hand.
use Rattle.std.specs.Prelude.{◌≡◌, ◌⊎◌, ◌≤◌, ℕ, ℤ, List, [], ◌∷◌, ◌++◌, map, Contains}
use Rattle.std.specs.List.{AllByRecursion}
use mathlib.Core.List.{IsPrefix}
use Rattle.qz_types.specs.Entries.{EntryData, StateEntryData}
use Rattle.qz_types.specs.Rows.{MemberData}
use Rattle.qz_types.specs.declared.replies.Reply.{Reply}
use Rattle.qz_row_lock.specs.declared.logged.Logged.{Ghosts}
use Rattle.qz_row_lock.specs.declared.row.RowLock.{RowLock}
use Rattle.qz_row_lock.specs.declared.row.Seat.{Seat}
use Rattle.qz_row_lock.specs.Seats.{ids, seen, mine}
use Rattle.qz_row_lock.specs.Views.{entries_of, times}
use Rattle.qz_node.specs.Jobs.{JobMeaning}
use Rattle.qz_checkin.specs.Rows.{StateTables}
use Rattle.qz_shared.specs.declared.held.Held.{Held}
use Rattle.qz_shared.specs.declared.stores.RowStore.{Ghosts as StoreGhosts}
use Rattle.qz_rounds.specs.Adding.{IsRecovery, IsRoundEntry}
use Rattle.qz_serve.specs.Heard.{Deed}
use Rattle.qz_serve.specs.Ran.{RanOrMore}
use Rattle.qz_serve.specs.Entries.{IsScheduled}
use Rattle.qz_serve.specs.Asking.{first_entries, heard_in}

-- In each history that goes on from what a seat has seen, and in which the seat's entries are `mine`, these jobs were told what
-- the deeds of these numbers say.
pub record RanIn (heard : List ℕ → List EntryData → List Deed) (seat_of : EntryData → ℕ) (base : List EntryData) (numbers seat_ids : List ℕ) (seen mine : List EntryData) (before after : List JobMeaning) : Type 0 where
  pub ran : (added : List EntryData) → IsPrefix seen (base ++ added) → entries_of seat_of seat_ids added ≡ mine → RanOrMore (heard numbers (base ++ added)) before after

module _ {S G : Type 0} {h : StoreGhosts S EntryData Reply} {g : Ghosts (Held S EntryData Reply h) EntryData G} where
  -- The same, as this seat shows it.
  abbrev pub ShowsRan : RowLock (Held S EntryData Reply h) EntryData G → Seat (Held S EntryData Reply h) EntryData G g → List ℕ → List JobMeaning → List JobMeaning → Type 0
  ShowsRan row s numbers before after = RanIn (heard_in row) h.seat_of (first_entries row) numbers (ids s) (seen s) (mine s) before after

-- A node at work: who it is, and the number of its scheduler thread's seat.
pub record Worker : Type 0 where
  pub me : MemberData
  pub number : ℕ

abbrev pub numbers_of : List Worker → List ℕ
numbers_of workers = map (λ w. w.number) workers

module _ (shows : ℤ → Type 0) (until : ℤ) (leaves : List StateEntryData → StateTables → Type 0) (first seen : List StateEntryData) where
  -- One of these nodes' scheduler threads asked for it, or one of their check-in threads, by which these state entries were
  -- seen.
  pub record IsOfNodes (workers : List Worker) (e : EntryData) : Type 0 where
    pub worker : Worker
    pub is_one : Contains workers worker
    pub asked : IsScheduled shows until worker.me worker.number e ⊎ IsRecovery shows leaves first worker.me seen e

  -- One of these nodes' check-in threads asked for it.
  pub record IsOfRounds (workers : List Worker) (e : StateEntryData) : Type 0 where
    pub worker : Worker
    pub is_one : Contains workers worker
    pub asked : IsRoundEntry shows leaves first worker.me.node seen e

-- This is true of each number and of what its list of jobs was told. A number without a list has no jobs, and lists without a
-- number are as before.
abbrev pub EachTold : (ℕ → List JobMeaning → List JobMeaning → Type 0) → List ℕ → List (List JobMeaning) → List (List JobMeaning) → Type 0
EachTold P [] before after = after ≡ before
EachTold P (n ∷ numbers) [] after = P n [] [] × EachTold P numbers [] after
EachTold P (n ∷ numbers) (jobs ∷ before) [] = ⊥
EachTold P (n ∷ numbers) (jobs ∷ before) (told ∷ after) = P n jobs told × EachTold P numbers before after

-- What the threads of these nodes leave, as the seats show it into which theirs were joined: numbers of their own, their entries,
-- and what their jobs were told.
pub record HaveWorked (shows : ℤ → Type 0) (until : ℤ) (leaves : List StateEntryData → StateTables → Type 0) (first : List StateEntryData) (workers : List Worker)
    (ran : List ℕ → List JobMeaning → List JobMeaning → Type 0) (ids : List ℕ) (mine : List EntryData) (seen_rows mine_rows : List StateEntryData) (before after : List (List JobMeaning)) : Type 0 where
  pub own : (x : ℕ) → times x (numbers_of workers) ≤ times x ids
  pub entries : AllByRecursion (IsOfNodes shows until leaves first seen_rows workers) mine
  pub rows : AllByRecursion (IsOfRounds shows until leaves first seen_rows workers) mine_rows
  pub told : EachTold (λ n. ran (n ∷ [])) (numbers_of workers) before after

-- The same of these members.
pub record MembersWorked (shows : ℤ → Type 0) (until : ℤ) (leaves : List StateEntryData → StateTables → Type 0) (first : List StateEntryData) (members : List MemberData)
    (ran : List ℕ → List JobMeaning → List JobMeaning → Type 0) (ids : List ℕ) (mine : List EntryData) (seen_rows mine_rows : List StateEntryData) (before after : List (List JobMeaning)) : Type 0 where
  pub workers : List Worker
  pub who : map (λ w. w.me) workers ≡ members
  pub worked : HaveWorked shows until leaves first workers ran ids mine seen_rows mine_rows before after
