-- How the threads of nodes come to their end, where no store made them stop early.
use Rattle.std.specs.Prelude.{⊤, ◌≡◌, ◌⊎◌, ◌≤ℤ◌, ℕ, ℤ, true, false, List, [], ◌∷◌, ◌++◌, Option, Some, None, Ok, Err}
use Rattle.std.specs.List.{AllByRecursion}
use mathlib.Core.List.{IsPrefix}
use Rattle.qz_types.specs.Entries.{EntryData, StateEntryData}
use Rattle.qz_types.specs.Rows.{MemberData}
use Rattle.qz_types.specs.declared.commands.Command.{Command}
use Rattle.qz_types.specs.declared.commands.Command.TheVariants as asks
use Rattle.qz_types.specs.declared.errors.SubmitError.TheVariants as submit
use Rattle.qz_types.specs.declared.replies.Refusal.{Refusal}
use Rattle.qz_types.specs.declared.replies.Reply.{Reply}
use Rattle.qz_types.specs.declared.replies.Reply.TheVariants as reply
use Rattle.qz_node.specs.Turns.{TurnData}
use Rattle.qz_node.specs.declared.turns.Idle.TheVariants as idle
use Rattle.qz_row_lock.specs.declared.logged.Logged.{Ghosts}
use Rattle.qz_row_lock.specs.declared.row.RowLock.{RowLock}
use Rattle.qz_row_lock.specs.declared.row.Seat.{Seat}
use Rattle.qz_row_lock.specs.Seats.{seen, shut, first_value}
use Rattle.qz_rounds.specs.Declining.{declined_of}
use Rattle.qz_rounds.specs.Looking.{HasCheckedIn}
use Rattle.qz_run.specs.declared.commands.Declined.{Declined}
use Rattle.qz_run.specs.declared.commands.Declined.TheVariants as why
use Rattle.qz_shared.specs.Since.{history_at}
use Rattle.qz_shared.specs.declared.held.Held.{Held}
use Rattle.qz_shared.specs.declared.stores.RowStore.{Ghosts as StoreGhosts}
use Rattle.qz_stores.specs.Stores.{EntryKind, StoreState}
use Rattle.qz_serve.specs.Entries.{IsScheduled}

-- This refusal ends a scheduler thread, and isn't told as a cause: that of a Complete, where it is no limit and the node isn't fenced.
abbrev pub EndsThread : Command → Refusal → Type 0
EndsThread (asks.Complete entry code) refusal = declined_of (submit.Refused refusal) ≡ None
EndsThread other refusal = ⊥

module _ {H : Type 0} (kind : EntryKind H EntryData Reply) (listed : H → List EntryData) (opened : StoreState H EntryData) where
  -- The store accepted an entry with this reply, which has been seen.
  pub record WasAccepted (e : EntryData) (answer : Reply) (seen : List EntryData) : Type 0 where
    pub before : List EntryData
    pub accepted_as : kind.answer (history_at kind listed opened before) e ≡ Ok answer
    pub begins : IsPrefix (before ++ e ∷ []) seen

  -- An Acquire that is such found nothing due.
  pub record FoundNothing (IsOne : EntryData → Type 0) (seen : List EntryData) : Type 0 where
    pub entry : EntryData
    pub is_one : IsOne entry
    pub accepted : WasAccepted entry (reply.Acquired []) seen

  -- An entry that is such was refused after some of what was seen, and that ends the thread.
  pub record WasRefused (IsOne : EntryData → Type 0) (seen : List EntryData) : Type 0 where
    pub entry : EntryData
    pub is_one : IsOne entry
    pub refusal : Refusal
    pub before : List EntryData
    pub refused_as : kind.answer (history_at kind listed opened before) entry ≡ Err refusal
    pub ends : EndsThread entry.command refusal
    pub begins : IsPrefix before seen

  -- What a scheduler thread that works up to a moment knows of its end between two steps: where it rests, it found nothing due; and
  -- it isn't fenced.
  pub record KnowsEnd (shows : ℤ → Type 0) (until : ℤ) (me : MemberData) (number : ℕ) (turn : TurnData) (seen : List EntryData) : Type 0 where
    pub rests : turn.idle ≡ idle.Rest → FoundNothing (IsScheduled shows until me number) seen
    pub free : turn.fenced ≡ false

  -- It rested at a reading that the clock shows and that isn't before this moment.
  pub record RestedLate (shows : ℤ → Type 0) (until : ℤ) (me : MemberData) (number : ℕ) (seen : List EntryData) : Type 0 where
    pub reading : ℤ
    pub shown : shows reading
    pub late : until ≤ℤ reading
    pub rests : FoundNothing (IsScheduled shows until me number) seen

  -- It came to its end: it rested that late, or a Complete was refused so that it ends.
  abbrev pub CameToEnd : (ℤ → Type 0) → ℤ → MemberData → ℕ → List EntryData → Type 0
  CameToEnd shows until me number seen = RestedLate shows until me number seen ⊎ WasRefused (IsScheduled shows until me number) seen

  -- Both threads of a node came to their end: the scheduler thread, and the check-in thread after a check-in at a reading that isn't
  -- before this moment. `first` are the entries that the state store had before, and `rows` those that were seen.
  pub record NodeCameToEnd (shows : ℤ → Type 0) (until : ℤ) (first : List StateEntryData) (seen : List EntryData) (rows : List StateEntryData) (me : MemberData) : Type 0 where
    pub number : ℕ
    pub scheduler : CameToEnd shows until me number seen
    pub reading : ℤ
    pub shown : shows reading
    pub late : until ≤ℤ reading
    pub checked_in : HasCheckedIn first me.node reading rows

module _ {S G : Type 0} {h : StoreGhosts S EntryData Reply} {g : Ghosts (Held S EntryData Reply h) EntryData G} where
  -- The same, as a scheduler thread's seat shows it.
  abbrev pub Knows : (ℤ → Type 0) → ℤ → MemberData → RowLock (Held S EntryData Reply h) EntryData G → Seat (Held S EntryData Reply h) EntryData G g → TurnData → Type 0
  Knows shows until me row s turn = KnowsEnd h.kind h.listed (h.state (first_value row).opened.value) shows until me s.number turn (seen s)

  abbrev pub HasEnded : (ℤ → Type 0) → ℤ → MemberData → ℕ → RowLock (Held S EntryData Reply h) EntryData G → Seat (Held S EntryData Reply h) EntryData G g → Type 0
  HasEnded shows until me number row s = CameToEnd h.kind h.listed (h.state (first_value row).opened.value) shows until me number (seen s)

  module _ {T I : Type 0} {k : StoreGhosts T StateEntryData ⊤} {j : Ghosts (Held T StateEntryData ⊤ k) StateEntryData I} where
    -- Both threads of each of these nodes came to their end, as the two seats show it into which theirs were joined.
    abbrev pub HaveEnded : (ℤ → Type 0) → ℤ → List StateEntryData → List MemberData → RowLock (Held S EntryData Reply h) EntryData G
        → Seat (Held S EntryData Reply h) EntryData G g → Seat (Held T StateEntryData ⊤ k) StateEntryData I j → Type 0
    HaveEnded shows until first members row s t = AllByRecursion (NodeCameToEnd h.kind h.listed (h.state (first_value row).opened.value) shows until first (seen s) (seen t)) members

    -- After a fault one of the two saw its store closed.
    abbrev pub ShowsFault : Option Declined → Seat (Held S EntryData Reply h) EntryData G g → Seat (Held T StateEntryData ⊤ k) StateEntryData I j → Type 0
    ShowsFault cause s t = cause ≡ Some why.Fault → (shut s ≡ true) ⊎ (shut t ≡ true)
