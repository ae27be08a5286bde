-- What a call of `serve` does to its stores, from the opening to the end.
use Rattle.std.specs.Prelude.{⊤, ◌≡◌, ◌⊎◌, ℕ, ℤ, ◌≤ℤ◌, List, [], ◌∷◌, ◌++◌, map, true, false, Option, Some, None}
use Rattle.std.specs.List.{All, AllByRecursion}
use Rattle.qz_types.specs.Entries.{EntryData, StateEntryData}
use Rattle.qz_types.specs.Rows.{MemberData}
use Rattle.qz_types.specs.Words.{member_of}
use Rattle.qz_model.specs.History.{replay}
use Rattle.qz_node.specs.Jobs.{JobMeaning}
use Rattle.qz_checkin.specs.Entries.{StatesState, of_states}
use Rattle.qz_checkin.specs.History.{replay_states}
use Rattle.qz_checkin.specs.Rows.{StateTables, state_of}
use Rattle.qz_trigger_store.specs.Entries.{TriggerState, trigger_entry}
use Rattle.qz_run.specs.declared.commands.Declined.{Declined}
use Rattle.qz_run.specs.declared.commands.Declined.TheVariants as why
use Rattle.qz_seen.specs.Seen.{rows_of, some_due}
use Rattle.qz_shared.specs.Since.{history_at}
use Rattle.qz_cluster.specs.Steps.{ClusterState}
use Rattle.qz_top.specs.NodeRuns.{WentOn}
use Rattle.qz_serve.specs.Finished.{CameToEnd, NodeCameToEnd}
use Rattle.qz_serve.specs.Heard.{Deed, heard_since}
use Rattle.qz_serve.specs.Ours.{CameAndWent}
use Rattle.qz_serve.specs.Served.{NodesServed, MainServed}

-- the entries that a state of the stores lists
abbrev pub entries_of : ClusterState → List EntryData
entries_of S = S.triggers.history.entries

abbrev pub row_entries_of : ClusterState → List StateEntryData
row_entries_of S = S.states.history.entries

-- what was done under these numbers since a trigger store was so, where its entries are now these
abbrev pub done_since : TriggerState → List ℕ → List EntryData → List Deed
done_since s numbers entries = heard_since trigger_entry (λ h. h.entries) (λ e. e.seat) s numbers entries

-- the rows that these entries leave, which begin with those of a state store
abbrev pub Leaves : StatesState → List StateEntryData → StateTables → Type 0
Leaves s entries rows = rows ≡ replay_states (history_at of_states (λ h. h.entries) s entries)

-- These members worked in their threads from one state of the stores to the other.
pub record WorkedAsNodes (shows : ℤ → Type 0) (until : ℤ) (members : List MemberData) (begun end : ClusterState) (jobs jobs' : List (List JobMeaning)) : Type 0 where
  pub served : NodesServed shows until (done_since begun.triggers) (Leaves begun.states) members (entries_of begun) (entries_of end) (row_entries_of begun) (row_entries_of end) jobs jobs'
  pub went_on : WentOn begun end served.added served.added_rows

-- This member worked alone, with the first list of jobs.
pub record WorkedAsMain (shows : ℤ → Type 0) (until : ℤ) (me : MemberData) (begun end : ClusterState) (jobs jobs' : List (List JobMeaning)) : Type 0 where
  pub served : MainServed shows until (done_since begun.triggers) me (entries_of begun) (entries_of end) jobs jobs'
  pub went_on : WentOn begun end served.added []

-- Between two states of the stores both threads of each of these nodes came to their end.
abbrev pub NodesEnded : (ℤ → Type 0) → ℤ → List MemberData → ClusterState → ClusterState → Type 0
NodesEnded shows until members begun end = AllByRecursion (NodeCameToEnd trigger_entry (λ h. h.entries) begun.triggers shows until (row_entries_of begun) (entries_of end) (row_entries_of end)) members

-- The same of the member that worked alone, under the number 0.
abbrev pub MainEnded : (ℤ → Type 0) → ℤ → MemberData → ClusterState → ClusterState → Type 0
MainEnded shows until me begun end = CameToEnd trigger_entry (λ h. h.entries) begun.triggers shows until me 0 (entries_of end)

-- nothing was done
abbrev pub DidNothing : ClusterState → ClusterState → List (List JobMeaning) → List (List JobMeaning) → Type 0
DidNothing begun end jobs jobs' = (end ≡ begun) × (jobs' ≡ jobs)

-- One turn of the node that works at the end: its member, the states of the stores and of the jobs at the beginning, and those of
-- the stores once it had joined and once it had worked.
pub record Turn : Type 0 where
  pub me : MemberData
  pub begun : ClusterState
  pub joined : ClusterState
  pub worked : ClusterState
  pub jobs : List (List JobMeaning)

-- `nodes` are the names of the nodes that work in threads, and `main` is that of the node that works at the end.
module _ (shows : ℤ → Type 0) (until : ℤ) (nodes : List (List ℕ)) (main : List ℕ) where
  -- The latter joins and works, and then all of the call's nodes leave. The turn may be cut short, for this cause; where there is none,
  -- the node came to the end of its work.
  pub record TookTurn (cause : Option Declined) (t : Turn) (end : ClusterState) (jobs' : List (List JobMeaning)) : Type 0 where
    pub name : t.me.node ≡ main
    pub joins : CameAndWent shows (main ∷ []) t.begun t.joined
    pub works : WorkedAsMain shows until t.me t.joined t.worked t.jobs jobs' ⊎ DidNothing t.joined t.worked t.jobs jobs'
    pub ended : cause ≡ None → MainEnded shows until t.me t.joined t.worked
    pub leaves : CameAndWent shows (nodes ++ main ∷ []) t.worked end

  -- the turns, the latest first, which alone may be cut short
  abbrev pub TookTurns : Option Declined → List Turn → ClusterState → ClusterState → List (List JobMeaning) → List (List JobMeaning) → Type 0
  TookTurns cause [] begun end jobs jobs' = DidNothing begun end jobs jobs'
  TookTurns cause (t ∷ past) begun end jobs jobs' = TookTurns None past begun t.begun jobs t.jobs × TookTurn cause t end jobs'

  -- The nodes join, work in threads, and then come turns of the other. The work may be cut short after each of these, for this cause;
  -- where there is none, all threads came to their end.
  pub record TookCourse (cause : Option Declined) (begun end : ClusterState) (jobs jobs' : List (List JobMeaning)) : Type 0 where
    pub joined : ClusterState
    pub joins : CameAndWent shows nodes begun joined
    pub members : List MemberData
    pub names : map (λ m. m.node) members ≡ nodes
    pub worked : ClusterState
    pub told : List (List JobMeaning)
    pub works : WorkedAsNodes shows until members joined worked jobs told ⊎ DidNothing joined worked jobs told
    pub ended : cause ≡ None → NodesEnded shows until members joined worked
    pub turns : List Turn
    pub took : TookTurns cause turns worked end told jobs'

-- The node is no member, and has neither a state row nor a fired row.
pub record IsGone (end : ClusterState) (name : List ℕ) : Type 0 where
  pub no_member : member_of name (replay end.triggers.history).members ≡ None
  pub no_row : state_of name (replay_states end.states.history).rows ≡ None
  pub holds_none : rows_of name (replay end.triggers.history).fired ≡ []

-- The clock showed a reading that isn't before the end, no trigger waits whose next time isn't past it, and all of the call's nodes are gone.
pub record IsOver (shows : ℤ → Type 0) (until : ℤ) (names : List (List ℕ)) (end : ClusterState) : Type 0 where
  pub reading : ℤ
  pub shown : shows reading
  pub late : until ≤ℤ reading
  pub none_due : some_due (replay end.triggers.history) until ≡ false
  pub gone : All (IsGone end) names

-- one of the stores is closed
abbrev pub OneIsClosed : ClusterState → Type 0
OneIsClosed S = (S.triggers.is_open ≡ false) ⊎ (S.states.is_open ≡ false)

-- both are open
abbrev pub AreBothOpen : ClusterState → Type 0
AreBothOpen S = (S.triggers.is_open ≡ true) × (S.states.is_open ≡ true)

-- How the work ended: where it came to its end, it is over, and after a fault a store is closed.
abbrev pub EndsBy : (ℤ → Type 0) → ℤ → List (List ℕ) → Option Declined → ClusterState → Type 0
EndsBy shows until names None end = IsOver shows until names end
EndsBy shows until names (Some why.Fault) end = OneIsClosed end
EndsBy shows until names (Some other) end = ⊤
