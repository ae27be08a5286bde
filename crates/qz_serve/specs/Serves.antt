-- What a call of `serve` does, by its words.
use Rattle.std.specs.Prelude.{⊤, ◌≡◌, ◌⊎◌, ◌≤◌, ℕ, ℤ, List, [], true, false, Option, Some, None, Result, Ok, Err, IfSome}
use Rattle.qz_civil.specs.Causes.{Rose}
use Rattle.qz_disk.specs.declared.disk.Disk.{Ghosts}
use Rattle.qz_io.specs.Outside.{Outside}
use Rattle.qz_model.specs.History.{IsLegal, replay}
use Rattle.qz_node.specs.Jobs.{JobMeaning}
use Rattle.qz_types.specs.Entries.{EntryData, StateEntryData}
use Rattle.qz_schedule_law.specs.Following.{FollowsSchedules}
use Rattle.qz_trigger_store.specs.Bytes.{Whole}
use Rattle.qz_trigger_store.specs.Entries.{is_old}
use Rattle.qz_trigger_store.specs.Opening.{IsOpened}
use Rattle.qz_checkin.specs.Bytes.{Whole as WholeRows}
use Rattle.qz_checkin.specs.History.{IsLegal as AreLegal}
use Rattle.qz_checkin.specs.Opening.{IsOpened as AreOpened}
use Rattle.qz_cluster.specs.Steps.{ClusterState}
use Rattle.qz_run.specs.declared.commands.Declined.{Declined}
use Rattle.qz_run.specs.declared.commands.Declined.TheVariants as why
use Rattle.qz_words.specs.declared.serves.Serving.{Serving}
use Rattle.qz_words.specs.declared.wishes.WordFault.{WordFault}
use Rattle.qz_stores.specs.Stores.{StoreState}
use Rattle.qz_top.specs.Calls.{RunsOneAtATime}
use Rattle.qz_top.specs.Found.{HoldWhole, IsFoundOn}
use Rattle.qz_top.specs.Moments.{HasStates, HasTriggers}
use Rattle.qz_top.specs.NodeRuns.{WentOn, IsKeptOnTheWay, IsToldAs, run_text}
use Rattle.qz_top.specs.OpenStores.{HasNoStores}
use Rattle.qz_top.specs.Resting.{RestsNodes, OpensShortIfRoom}
use Rattle.qz_top.specs.Standing.{IsInOrder}
use Rattle.qz_top.specs.declared.ended.Ended.{Ended}
use Rattle.qz_top.specs.declared.statuses.Status.{Status}
use Rattle.qz_top.specs.declared.statuses.Status.TheVariants as status
use Rattle.qz_serve.specs.Boards.{WritesAfterBoard}
use Rattle.qz_serve.specs.Courses.{TookCourse, EndsBy}
use Rattle.qz_serve.specs.Declining.{AtLimit}
use Rattle.qz_serve.specs.Limits.{WasDeclined}
use Rattle.qz_serve.specs.Ours.{node_names, main_name, our_names}
use Rattle.qz_serve.specs.declared.served.Served.{Served}

-- the status of work that ended so
abbrev pub status_of : Option Declined → Status
status_of None = status.Ok
status_of (Some (why.TooMany count)) = status.TooMany count
status_of (Some (why.JournalFull need room)) = status.JournalFull need room
status_of (Some why.Fault) = status.DiskFault
status_of (Some why.NoMemory) = status.NoMemory
status_of (Some why.Fenced) = status.Fenced

-- Of each entry it is known whether the store's disk has it, unless the disk's count of faults rose since it was so.
abbrev pub IsDecided : {H E : Type 0} → ℕ → StoreState H E → Type 0
IsDecided before s = (s.undecided ≡ None) ⊎ Rose before s.faults

-- The nodes worked on both stores that were opened, and the call wrote what they added and made a checkpoint where one was due.
pub record ServedOnDisk {D : Type 0} (g : Ghosts D) (shows : ℤ → Type 0) (p : Serving) (jobs jobs' : List (List JobMeaning)) (triggers states : D) (s : Served D)
    (old new : Outside) : Type 0 where
  -- what the bytes tell from the slot in use on was opened, and the trigger store isn't old
  pub opened : ClusterState
  pub are_opened : IsOpened opened.triggers × AreOpened opened.states
  pub nothing_held : opened.held ≡ []
  pub found : g.honest → IsFoundOn g triggers states opened
  pub no_earlier : (g.faults triggers ≤ opened.triggers.faults) × (g.faults states ≤ opened.states.faults)
  pub current : is_old (replay opened.triggers.history) ≡ false
  -- the nodes' work and how it ended
  pub worked_to : ClusterState
  pub cause : Option Declined
  pub took : TookCourse shows p.until (node_names p.nodes) main_name cause opened worked_to jobs jobs'
  pub ends : EndsBy shows p.until (our_names p.nodes) cause worked_to
  -- where that was at a limit or a full journal, a store had declined for this reason what one of the call's nodes asked
  pub declined : IfSome cause (AtLimit (WasDeclined shows p.until (our_names p.nodes) opened worked_to))
  -- what was added to both histories, and the text that was written of it, after the lines of the board where looks were asked for
  pub added : List EntryData
  pub rows : List StateEntryData
  pub went_on : WentOn opened worked_to added rows
  pub told_as : Status
  pub told : IsToldAs told_as (status_of cause)
  pub written : WritesAfterBoard p.looks opened.triggers.history.entries worked_to.triggers.history told_as (run_text opened worked_to added) old new
  -- and then a checkpoint was made where one was due
  pub end : ClusterState
  pub rests : RestsNodes told_as s.status worked_to.triggers end.triggers
  pub states_stay : end.states ≡ worked_to.states
  -- at the end both histories are legal, and triggers that weren't disturbed have fired for the first times of their schedules
  pub legal : IsLegal end.triggers.history × AreLegal end.states.history
  pub schedules : FollowsSchedules end.triggers.history
  -- tables and rows are valid there, what was lost since the base was recovered once, and no job that excludes others had two executions at once
  pub in_order : IsInOrder end
  pub one_at_a_time : RunsOneAtATime end
  -- the disks come back, with the counts of faults that the stores had at the end
  pub triggers_end : D
  pub states_end : D
  pub disks : s.disks ≡ Some (triggers_end, states_end)
  pub faults : (g.faults triggers_end ≡ end.triggers.faults) × (g.faults states_end ≡ end.states.faults)
  -- on them a crash leaves the bytes of the last history of each store, or of it with the undecided entry; where the disk's count
  -- of faults didn't rise in the call, there is none
  pub images : (w : Whole) (v : WholeRows) → HoldWhole g triggers states w v → (b : List ℕ) → ((g.state triggers_end).IsImage b → HasTriggers w b end) × ((g.state states_end).IsImage b → HasStates v b end)
  pub decided : IsDecided (g.faults triggers) end.triggers × IsDecided (g.faults states) end.states
  -- and at any moment before, it leaves each store with what was opened and some of what was added
  pub any_moment : ∥ IsKeptOnTheWay g triggers states triggers_end states_end opened end ∥₁
  -- where the call ends with 0 and the trigger store is open, its next opening is short
  pub next : s.status ≡ status.Ok → end.triggers.is_open ≡ true → (w : Whole) (v : WholeRows) → HoldWhole g triggers states w v → OpensShortIfRoom end.triggers (g.state triggers_end).content

-- The call gives this back, and has the disks of one that ended so.
pub record EndsAs {D : Type 0} {g : Ghosts D} (e : Ended D g) (s : Served D) : Type 0 where
  pub status_is : s.status ≡ e.status
  pub disks : s.disks ≡ Some (e.triggers, e.states)

-- There were no stores to work on: one of them wasn't opened, or the trigger store is old. No job was called.
pub record FoundNoStores {D : Type 0} (g : Ghosts D) (jobs jobs' : List (List JobMeaning)) (triggers states : D) (s : Served D)
    (old new : Outside) : Type 0 where
  pub ended : Ended D g
  pub ends : EndsAs ended s
  pub none : HasNoStores triggers states ended old new
  pub same_jobs : jobs' ≡ jobs

-- There was no memory for a lock row or for a board, and the stores were given up. Nothing was written.
pub record GaveUp {D : Type 0} (g : Ghosts D) (s : Served D) (old new : Outside) : Type 0 where
  pub status_is : s.status ≡ status.NoMemory
  pub no_disks : s.disks ≡ None
  pub untouched : new ≡ old

-- what the call does whose words ask for so many nodes up to a moment
abbrev pub DidServe : {D : Type 0} → Ghosts D → (ℤ → Type 0) → Serving → List (List JobMeaning) → List (List JobMeaning) → D → D → Served D → Outside → Outside → Type 0
DidServe g shows p jobs jobs' triggers states s old new =
    ServedOnDisk g shows p jobs jobs' triggers states s old new ⊎ FoundNoStores g jobs jobs' triggers states s old new ⊎ GaveUp g s old new

-- The words were bad, and nothing was done.
pub record HadBadWords {D : Type 0} (g : Ghosts D) (fault : WordFault) (jobs jobs' : List (List JobMeaning)) (triggers states : D) (s : Served D)
    (old new : Outside) : Type 0 where
  pub status_is : s.status ≡ status.BadWords fault
  pub disks : s.disks ≡ Some (triggers, states)
  pub untouched : new ≡ old
  pub same_jobs : jobs' ≡ jobs

abbrev pub DidAsAsked : {D : Type 0} → Ghosts D → (ℤ → Type 0) → Result Serving WordFault → List (List JobMeaning) → List (List JobMeaning) → D → D → Served D → Outside → Outside → Type 0
DidAsAsked g shows (Ok p) jobs jobs' triggers states s old new = DidServe g shows p jobs jobs' triggers states s old new
DidAsAsked g shows (Err fault) jobs jobs' triggers states s old new = HadBadWords g fault jobs jobs' triggers states s old new

-- the count of one of the disks rose, which both came back
abbrev pub DiskFailed : {D : Type 0} → Ghosts D → D → D → Option (D × D) → Type 0
DiskFailed g triggers states None = ⊥
DiskFailed g triggers states (Some disks) = Rose (g.faults triggers) (g.faults disks.0) ⊎ Rose (g.faults states) (g.faults disks.1)

-- Bad words are answered only where the words are refused so, and a fault only where the object's count of faults rose in the
-- call; of the input none, which isn't read.
abbrev pub HasCause : Status → Result Serving WordFault → Type 0 → Type 0 → Type 0
HasCause (status.BadWords fault) w output disk = w ≡ Err fault
HasCause status.ReadFault w output disk = ⊥
HasCause status.WriteFault w output disk = output
HasCause status.DiskFault w output disk = disk
HasCause s w output disk = ⊤
