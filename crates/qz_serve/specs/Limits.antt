-- How both stores grew in a part of a call, and at which limit that part ended.
use Rattle.std.specs.Prelude.{◌⊎◌, ℕ, ℤ, List}
use Rattle.qz_types.specs.Entries.{EntryData, StateEntryData}
use Rattle.qz_checkin.specs.Entries.{of_states}
use Rattle.qz_cluster.specs.Steps.{ClusterState}
use Rattle.qz_run.specs.declared.commands.Declined.{Declined}
use Rattle.qz_trigger_store.specs.Entries.{trigger_entry}
use Rattle.qz_serve.specs.Courses.{Leaves, row_entries_of}
use Rattle.qz_serve.specs.Declining.{DeclinedOnTheWay, HasGrown}
use Rattle.qz_serve.specs.Ours.{IsCheckIn, IsForget, IsJoin, IsLeave}
use Rattle.qz_serve.specs.Stopping.{IsOfThreads, IsRowOfThreads}

-- Both went on by further entries alone.
pub record StoresGrew (begun now : ClusterState) : Type 0 where
  pub triggers : HasGrown trigger_entry (λ h. h.entries) begun.triggers now.triggers
  pub states : HasGrown of_states (λ h. h.entries) begun.states now.states

module _ (shows : ℤ → Type 0) (until : ℤ) (names : List (List ℕ)) (begun end : ClusterState) where
  -- what one of these nodes asks of the trigger store, as it comes, goes or works
  abbrev pub IsOfOurs : EntryData → Type 0
  IsOfOurs e = IsJoin shows names e ⊎ IsLeave shows names e ⊎ IsOfThreads shows until (Leaves begun.states) (row_entries_of begun) names (row_entries_of end) e

  -- and of the state store
  abbrev pub IsRowOfOurs : StateEntryData → Type 0
  IsRowOfOurs e = IsCheckIn shows names e ⊎ IsForget shows names e ⊎ IsRowOfThreads shows until (Leaves begun.states) (row_entries_of begun) names (row_entries_of end) e

  -- Between two states of the stores one of them declined what one of these nodes asked, for this reason.
  pub record WasDeclined (w : Declined) : Type 0 where
    pub by : DeclinedOnTheWay trigger_entry (λ h. h.entries) IsOfOurs begun.triggers end.triggers w ⊎ DeclinedOnTheWay of_states (λ h. h.entries) IsRowOfOurs begun.states end.states w
