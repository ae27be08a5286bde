-- What a run of nodes did to the stores, and what it wrote.
use Rattle.std.specs.Prelude.{⊤, ◌≡◌, ◌⊎◌, ◌≤◌, ℕ, ◌+◌, List, [], ◌++◌, length, take, Bool, true, false, Result, Ok, Err}
use Rattle.std.specs.Io.KnownBytes.{Appends}
use Rattle.qz_disk.specs.declared.disk.Disk.{Ghosts}
use Rattle.qz_disk.specs.Disk.{LeavesOnly}
use Rattle.qz_io.specs.Outside.{Outside, IsHandedOn}
use Rattle.qz_types.specs.Entries.{EntryData, StateEntryData}
use Rattle.qz_types.specs.Tables.{SchedulerTables}
use Rattle.qz_model.specs.History.{History, IsLegal, replay, replies_from, moments_from}
use Rattle.qz_journal.specs.Through.{OnlyReads}
use Rattle.qz_trigger_store.specs.Bytes.{Whole}
use Rattle.qz_trigger_store.specs.Entries.{is_old}
use Rattle.qz_trigger_store.specs.Opening.{IsOpened}
use Rattle.qz_trigger_store.specs.View.{view as triggers_view}
use Rattle.qz_trigger_store.specs.declared.stores.TriggerStore.{TriggerStore}
use Rattle.qz_checkin.specs.Bytes.{Whole as WholeRows}
use Rattle.qz_checkin.specs.History.{IsLegal as AreLegal, replay_states}
use Rattle.qz_checkin.specs.Opening.{IsOpened as AreOpened}
use Rattle.qz_checkin.specs.View.{view as states_view}
use Rattle.qz_checkin.specs.declared.stores.StateStore.{StateStore}
use Rattle.qz_report.specs.Histories.{history_text}
use Rattle.qz_report.specs.Summaries.{summary_of, summary_text}
use Rattle.qz_node.specs.Jobs.{JobMeaning}
use Rattle.qz_run.specs.declared.commands.Plan.{Plan}
use Rattle.qz_run.specs.declared.commands.Declined.{Declined}
use Rattle.qz_run.specs.declared.commands.Declined.TheVariants as declined
use Rattle.qz_run.specs.Stores.{Event, RunState}
use Rattle.qz_run.specs.Laws.{Lawful, Ran, RanOrMore}
use Rattle.qz_run.specs.StateLaws.{LawfulStates, Stopped}
use Rattle.qz_run.specs.RunRules.{Ends}
use Rattle.qz_seen.specs.Asking.{entry_of}
use Rattle.qz_seen.specs.Seen.{node_name, seen}
use Rattle.qz_run_stores.specs.Accounts.{events_onto, row_events_onto}
use Rattle.qz_run_stores.specs.Asked.{AreAsked}
use Rattle.qz_run_stores.specs.Declining.{DeclinesEntry, HasDeclined}
use Rattle.qz_run_stores.specs.Logs.{has_row}
use Rattle.qz_run_stores.specs.Ways.{HasOnTheWay, HasRowsOnTheWay}
use Rattle.qz_cluster.specs.Steps.{ClusterState, without_script}
use Rattle.qz_schedule_law.specs.Following.{FollowsSchedules}
use Rattle.qz_top.specs.Calls.{FoundOld, HasSoundStores, NotOpened, RecoversLosses, RunsOneAtATime, trail_of}
use Rattle.qz_top.specs.Found.{count_of, IsFoundOn, HoldWhole}
use Rattle.qz_top.specs.Moments.{HasTriggers, HasStates}
use Rattle.qz_top.specs.Resting.{RestsNodes, OpensShortIfRoom}
use Rattle.qz_top.specs.declared.ended.Ended.{Ended}
use Rattle.qz_top.specs.declared.statuses.Status.{Status}
use Rattle.qz_top.specs.declared.statuses.Status.TheVariants as status

-- two stores at this moment, where no node of a script holds an epoch
abbrev pub both : {D : Type 0} {g : Ghosts D} → TriggerStore D g → StateStore D g → ClusterState
both t s = without_script (triggers_view t) (states_view s)

-- The histories went on with these entries and with these of the state store.
pub record WentOn (begun end : ClusterState) (added : List EntryData) (rows : List StateEntryData) : Type 0 where
  pub base_count : end.triggers.history.base_count ≡ begun.triggers.history.base_count
  pub base : end.triggers.history.base ≡ begun.triggers.history.base
  pub entries : end.triggers.history.entries ≡ begun.triggers.history.entries ++ added
  pub rows_are : end.states.history.entries ≡ begun.states.history.entries ++ rows

-- what the run saw at its end, where it added these
abbrev pub seen_after : ClusterState → ClusterState → List EntryData → List StateEntryData → RunState
seen_after begun end added rows = record {
  view = seen (replay end.triggers.history);
  log = events_onto [] (replay begun.triggers.history) added;
  states = record { has = has_row (replay_states end.states.history); log = row_events_onto [] rows };
}

-- One of the stores, as it was left, declines what the run may ask next.
abbrev pub WasStopped : Plan → Declined → ClusterState → RunState → Type 0
WasStopped p why end s =
    Stopped p (λ n at command w. DeclinesEntry end.triggers (entry_of (replay end.triggers.history) at n command) w)
    (λ n at command w. HasDeclined end.states (node_name n) at command w) why s

-- How the nodes' work ends, by its status.
abbrev pub EndsWork : Plan → Status → ClusterState → RunState → Type 0
EndsWork p status.Ok end s = Ends p false s
EndsWork p (status.Budget firings) end s = (firings ≡ p.budget) × Ends p true s
EndsWork p (status.TooMany count) end s = WasStopped p (declined.TooMany count) end s
EndsWork p (status.JournalFull need room) end s = WasStopped p (declined.JournalFull need room) end s
EndsWork p status.DiskFault end s = WasStopped p declined.Fault end s
EndsWork p status.NoMemory end s = WasStopped p declined.NoMemory end s
EndsWork p other end s = ⊥

-- The jobs were called for the Completes: where the run came to its end once for each, and else maybe once more.
abbrev pub CalledJobs : Status → List Event → List JobMeaning → List JobMeaning → Type 0
CalledJobs status.Ok log jobs jobs' = Ran log jobs jobs'
CalledJobs (status.Budget firings) log jobs jobs' = Ran log jobs jobs'
CalledJobs other log jobs jobs' = RanOrMore log jobs jobs'

-- The nodes of the plan worked from the one state of the stores to the other.
pub record Worked (p : Plan) (s : Status) (jobs jobs' : List JobMeaning) (begun end : ClusterState) : Type 0 where
  pub added : List EntryData
  pub rows : List StateEntryData
  pub went_on : WentOn begun end added rows
  -- each entry is one by which a node of the run asks
  pub asked : ∥ AreAsked (replay begun.triggers.history) added ∥₁
  pub lawful : Lawful p (seen_after begun end added rows).log
  pub lawful_rows : LawfulStates p (seen_after begun end added rows)
  pub ends : EndsWork p s end (seen_after begun end added rows)
  pub called : CalledJobs s (seen_after begun end added rows).log jobs jobs'

-- The status of a call is that of its nodes' work, or it tells that the output failed or memory ran out as the lines were written.
abbrev pub IsToldAs : Status → Status → Type 0
IsToldAs told work = (told ≡ work) ⊎ (told ≡ status.WriteFault) ⊎ (told ≡ status.NoMemory)

-- the status of a run whose nodes' work ended so
abbrev pub status_of : Plan → Result Bool Declined → Status
status_of p (Ok false) = status.Ok
status_of p (Ok true) = status.Budget p.budget
status_of p (Err (declined.TooMany count)) = status.TooMany count
status_of p (Err (declined.JournalFull need room)) = status.JournalFull need room
status_of p (Err declined.Fault) = status.DiskFault
status_of p (Err declined.NoMemory) = status.NoMemory
status_of p (Err declined.Fenced) = status.Fenced

-- how the nodes' work may end
abbrev pub IsOfNodes : Status → Type 0
IsOfNodes status.Ok = ⊤
IsOfNodes (status.Budget firings) = ⊤
IsOfNodes (status.TooMany count) = ⊤
IsOfNodes status.Fenced = ⊤
IsOfNodes (status.JournalFull need room) = ⊤
IsOfNodes status.DiskFault = ⊤
IsOfNodes status.NoMemory = ⊤
IsOfNodes other = ⊥

-- the lines of what was added to a history, numbered on from all entries before
abbrev pub lines_since : History → List EntryData → List ℕ
lines_since h added = history_text added (moments_from (replay h) added) (replies_from (replay h) added) (count_of h + 1)

-- the same, and the summary line, where the tables are these at the end
abbrev pub text_since : History → SchedulerTables → List EntryData → List ℕ
text_since h T added = lines_since h added ++ summary_text (summary_of added (replies_from (replay h) added) T)

-- the text of a run that added these
abbrev pub run_text : ClusterState → ClusterState → List EntryData → List ℕ
run_text begun end added = text_since begun.triggers.history (replay end.triggers.history) added

-- The text was written and handed on, whatever ended the run; or the output failed or memory ran out, and a part was written.
abbrev pub WritesRun : Status → List ℕ → Outside → Outside → Type 0
WritesRun status.WriteFault text old new = (n : ℕ) × (n ≤ length text) × Appends old.held new.held (take n text)
WritesRun status.NoMemory text old new = (n : ℕ) × (n ≤ length text) × Appends old.held new.held (take n text)
WritesRun s text old new = Appends old.held new.held text × IsHandedOn new.held new.handed

-- A disk on the way of a run: until its store is open it is only read, and from then on a crash at any moment leaves such bytes.
pub record IsKept {D : Type 0} (g : Ghosts D) (before after : D) (Has : List ℕ → Type 0) : Type 0 where
  pub opened : D
  pub reads : OnlyReads (g.state before) (g.state opened)
  pub leaves : LeavesOnly (g.state opened) (g.state after) Has

-- On honest disks that hold whole lists a crash at any moment leaves, once the stores are open, on each disk the opened history with some of what was
-- added, or the last one with its undecided entry.
abbrev pub IsKeptOnTheWay : {D : Type 0} (g : Ghosts D) → D → D → D → D → ClusterState → ClusterState → Type 0
IsKeptOnTheWay g triggers states triggers' states' opened end =
    (w : Whole) (v : WholeRows) → HoldWhole g triggers states w v
    → IsKept g triggers triggers' (HasOnTheWay w opened.triggers end.triggers) × IsKept g states states' (HasRowsOnTheWay v opened.states end.states)

-- The stores that stand on the disks were opened, of which the trigger store isn't old, and the nodes of the plan worked on
-- them. A script's states aren't told.
pub record RanNodesOnDisk {D : Type 0} {g : Ghosts D} (p : Plan) (jobs jobs' : List JobMeaning) (triggers states : D) (e : Ended D g)
    (old new : Outside) : Type 0 where
  -- what the bytes tell from the slot in use on was opened: the histories are legal, and the tables and rows that they leave are valid
  pub opened : ClusterState
  pub are_opened : IsOpened opened.triggers × AreOpened opened.states
  pub nothing_held : opened.held ≡ []
  pub found : g.honest → IsFoundOn g triggers states opened
  pub no_earlier : (g.faults triggers ≤ opened.triggers.faults) × (g.faults states ≤ opened.states.faults)
  pub current : is_old (replay opened.triggers.history) ≡ false
  -- the nodes' work, how that ended, and what was written of it
  pub worked_to : ClusterState
  pub work : Status
  pub worked : Worked p work jobs jobs' opened worked_to
  pub told_as : Status
  pub told : IsToldAs told_as work
  pub written : WritesRun told_as (run_text opened worked_to worked.added) old new
  -- and then a checkpoint was made where one was due
  pub end : ClusterState
  pub rests : RestsNodes told_as e.status worked_to.triggers end.triggers
  pub states_stay : end.states ≡ worked_to.states
  -- at the end both histories are legal, and triggers that weren't disturbed have fired for the first times of their schedules
  pub legal : IsLegal end.triggers.history × AreLegal end.states.history
  pub schedules : FollowsSchedules end.triggers.history
  -- tables and rows are valid there, and what was lost since the base was recovered once
  pub sound : HasSoundStores end
  pub recovered : RecoversLosses end
  -- and no job that excludes others had two executions at once
  pub one_at_a_time : RunsOneAtATime end
  pub no_trail : trail_of e.trail ≡ []
  pub faults : (g.faults e.triggers ≡ end.triggers.faults) × (g.faults e.states ≡ end.states.faults)
  -- at the end a crash leaves the bytes of the last history of each store, or of it with the undecided entry
  pub images : (w : Whole) (v : WholeRows) → HoldWhole g triggers states w v → (b : List ℕ) → ((g.state e.triggers).IsImage b → HasTriggers w b end) × ((g.state e.states).IsImage b → HasStates v b end)
  -- and so it does at any moment before
  pub any_moment : ∥ IsKeptOnTheWay g triggers states e.triggers e.states opened end ∥₁
  -- where the call ends with 0 and the trigger store is open, its next opening is short
  pub next : e.status ≡ status.Ok → end.triggers.is_open ≡ true → (w : Whole) (v : WholeRows) → HoldWhole g triggers states w v → OpensShortIfRoom end.triggers (g.state e.triggers).content

-- The nodes worked on both stores that were opened; or the trigger store is old, and no job was called.
abbrev pub RanOpened : {D : Type 0} {g : Ghosts D} → Plan → List JobMeaning → List JobMeaning → D → D → Ended D g → Outside → Outside → Type 0
RanOpened p jobs jobs' triggers states e old new = RanNodesOnDisk p jobs jobs' triggers states e old new ⊎ (FoundOld triggers states e old new × (jobs' ≡ jobs))

-- That was so, or one of the stores wasn't opened and no job was called.
abbrev pub RanNodes : {D : Type 0} {g : Ghosts D} → Plan → List JobMeaning → List JobMeaning → D → D → Ended D g → Outside → Outside → Type 0
RanNodes p jobs jobs' triggers states e old new = RanOpened p jobs jobs' triggers states e old new ⊎ (NotOpened triggers states e old new × (jobs' ≡ jobs))
