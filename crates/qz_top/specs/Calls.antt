-- What the calls that run scripts did.
use Rattle.std.specs.Prelude.{⊤, ◌≡◌, ◌⊎◌, ◌≤◌, ℕ, ℤ, true, false, Bool, List, [], ◌∷◌, ◌++◌, length, take}
use Rattle.std.specs.List.{AllByRecursion, count_by}
use Rattle.qz_steps.specs.declared.steps.StepReply.{StepReply}
use Rattle.qz_types.specs.Entries.{EntryData}
use Rattle.qz_types.specs.declared.keys.Key.{Key}
use Rattle.qz_types.specs.declared.stores.Store.{Store}
use Rattle.qz_disk.specs.declared.disk.Disk.{Ghosts}
use Rattle.qz_io.specs.Outside.{Outside}
use Rattle.qz_laws.specs.Losses.{AreExact}
use Rattle.qz_journal.specs.Through.{OnlyReads}
use Rattle.qz_journal.specs.declared.errors.MountError.{MountError}
use Rattle.qz_journal.specs.declared.errors.MountError.TheVariants as mount
use Rattle.qz_model.specs.Executions.{is_exclusive_of}
use Rattle.qz_model.specs.History.{replay, replay_from}
use Rattle.qz_trigger_store.specs.Bytes.{Whole}
use Rattle.qz_trigger_store.specs.Entries.{is_old}
use Rattle.qz_trigger_store.specs.Opening.{IsOpened, IsSound}
use Rattle.qz_checkin.specs.Bytes.{Whole as WholeRows}
use Rattle.qz_checkin.specs.Opening.{IsOpened as AreOpened, IsSound as AreSound}
use Rattle.qz_cluster.specs.Mounting.{DisksAfter, RefusedBy, StandsBefore}
use Rattle.qz_cluster.specs.Steps.{ClusterState, is_restart}
use Rattle.qz_cluster.specs.Script.{ScriptState, TimedStep, new_script, plain_replies, step_replies}
use Rattle.qz_open.specs.Opened.{AreAlwaysAlone}
use Rattle.qz_open.specs.Runs.{AlwaysSparesOthers}
use Rattle.qz_top.specs.Found.{IsFoundOn, IsTold, HoldWhole}
use Rattle.qz_top.specs.Lines.{steps_of}
use Rattle.qz_top.specs.Lists.{WritesText, lines_of}
use Rattle.qz_top.specs.Loads.{AloneInLoad, Loads}
use Rattle.qz_top.specs.Moments.{HasTriggers, HasStates, BeginsWithReads, EachIsKept}
use Rattle.qz_top.specs.Resting.{OpensShortIfRoom}
use Rattle.qz_top.specs.Runs.{IsRun}
use Rattle.qz_top.specs.Seen.{states_in}
use Rattle.qz_top.specs.Trails.{IsNoFault, RunState, new_cluster}
use Rattle.qz_top.specs.declared.statuses.Status.{Status}
use Rattle.qz_top.specs.declared.statuses.Status.TheVariants as status
use Rattle.qz_top.specs.declared.ended.Trail.{Trail}
use Rattle.qz_top.specs.declared.ended.Ended.{Ended}

-- the states that a call's script went through
abbrev pub trail_of : {D : Type 0} {g : Ghosts D} → Trail D g → List ClusterState
trail_of t = states_in t.on_disk.value ++ states_in t.in_memory.value

-- a script that begins at this cluster
abbrev pub begun : Bool → ClusterState → RunState
begun is_own S = record { cluster = S; trail = S ∷ []; is_own = is_own }

-- Of the entries since the base, each execution that was lost with a failed node yielded one recovery trigger if its job asked for it and was
-- still stored, else none.
abbrev pub RecoversLosses : ClusterState → Type 0
RecoversLosses S = ∥ AreExact S.triggers.history.base S.triggers.history.entries ∥₁

-- After each entry since the base, a job with `no_concurrent` has one execution at most that has begun and not ended.
abbrev pub RunsOneAtATime : ClusterState → Type 0
RunsOneAtATime S = (first rest : List EntryData) → S.triggers.history.entries ≡ first ++ rest → (key : Key) → count_by (is_exclusive_of key) (replay_from S.triggers.history.base first).fired ≤ 1

-- A script on new stores in memory was run. Its replies are those of a plain scheduler that is new, empty and of version 2, but for
-- what the disks say of themselves. Disks in memory are honest.
pub record RanInMemory (s : Status) (trail : List ClusterState)
    (old new : Outside) : Type 0 where
  pub triggers_faults : ℕ
  pub states_faults : ℕ
  pub end : RunState
  pub lines : List (List ℕ)
  pub readings : List ℤ
  pub replies : List StepReply
  pub run : IsRun ⊤ s (begun true (new_cluster triggers_faults states_faults)) end old new lines readings replies
  pub plain : plain_replies (steps_of lines readings) replies ≡ step_replies (new_script 2) (steps_of lines readings)
  pub trail_is : trail ≡ end.trail
  -- in each of these states, and in the one at the end, lost executions are recovered once
  pub recovered : AllByRecursion RecoversLosses trail
  pub recovered_end : RecoversLosses end.cluster
  -- no job with `no_concurrent` has two open executions; a recovery ends those of the node that failed
  pub alone : AreAlwaysAlone [] (steps_of lines readings) replies
  -- and such a node has none, unless it still holds an epoch
  pub spared : AlwaysSparesOthers (new_cluster triggers_faults states_faults) [] (steps_of lines readings) replies run.steps.states
  pub no_fault : s ≡ status.DiskFault → ⊥

-- A script on new stores in memory was run, or there was no memory for the stores.
abbrev pub OwnDone : Status → List ClusterState → Outside → Outside → Type 0
OwnDone s trail old new =
    RanInMemory s trail old new
    ⊎ ((s ≡ status.NoMemory) × (trail ≡ []) × (new ≡ old))

-- what a plain scheduler sees of a cluster
abbrev pub script_of : ClusterState → ScriptState
script_of S = record { history = S.triggers.history; states = S.states.history; held = S.held }

-- each store's history is legal, and the tables and the rows that they leave are valid
abbrev pub HasSoundStores : ClusterState → Type 0
HasSoundStores S = IsSound S.triggers × AreSound S.states

-- the disks tell what they hold where the step is a restart
abbrev pub IsOnTold : Type 0 → TimedStep → Type 0
IsOnTold told t = is_restart t.step ≡ true → told

-- The stores that stand on the disks were opened, and a script was run on them.
pub record RanOnDisk {D : Type 0} {g : Ghosts D} (triggers states : D) (e : Ended D g)
    (old new : Outside) : Type 0 where
  -- what the bytes tell from the slot in use on was opened: the histories are legal, and the tables and rows that they leave are valid
  pub opened : ClusterState
  pub are_opened : IsOpened opened.triggers × AreOpened opened.states
  pub nothing_held : opened.held ≡ []
  pub found : g.honest → IsFoundOn g triggers states opened
  pub no_earlier : (g.faults triggers ≤ opened.triggers.faults) × (g.faults states ≤ opened.states.faults)
  -- the script, and the states that it went through
  pub end : RunState
  pub lines : List (List ℕ)
  pub readings : List ℤ
  pub replies : List StepReply
  pub run : IsRun (IsTold g triggers) e.status (begun false opened) end old new lines readings replies
  pub trail_is : trail_of e.trail ≡ end.trail
  pub on_disk : states_in e.trail.on_disk.value ≡ end.trail
  -- each of these states has legal histories, valid tables and valid rows, and so has the one at the end
  pub sound : AllByRecursion HasSoundStores (trail_of e.trail)
  pub sound_end : HasSoundStores end.cluster
  -- in each of them lost executions are recovered once
  pub recovered : AllByRecursion RecoversLosses (trail_of e.trail)
  pub recovered_end : RecoversLosses end.cluster
  -- no job with `no_concurrent` has two open executions; a recovery ends those of the node that failed. At first none is
  -- open, since no node holds an epoch
  pub alone : AreAlwaysAlone [] (steps_of lines readings) replies
  -- and a node that is recovered has none, unless it still holds an epoch
  pub spared : AlwaysSparesOthers opened [] (steps_of lines readings) replies run.steps.states
  -- without a fault the replies are those of a plain scheduler that goes on from the opened histories, but for what the disks say of
  -- themselves, and so are those before the first fault; restarts are so on honest disks that hold whole lists
  pub plain : AllByRecursion (IsOnTold (IsTold g triggers)) (steps_of lines readings) → AllByRecursion IsNoFault replies
      → plain_replies (steps_of lines readings) replies ≡ step_replies (script_of opened) (steps_of lines readings)
  pub plain_first : (first rest : List StepReply) → replies ≡ first ++ rest
      → AllByRecursion (IsOnTold (IsTold g triggers)) (take (length first) (steps_of lines readings)) → AllByRecursion IsNoFault first
      → plain_replies (steps_of lines readings) first ≡ take (length first) (step_replies (script_of opened) (steps_of lines readings))
  pub faults : (g.faults e.triggers ≡ end.cluster.triggers.faults) × (g.faults e.states ≡ end.cluster.states.faults)
  -- at the end a crash leaves the bytes of the last history of each store, or of it with the undecided entry
  pub images : (w : Whole) (v : WholeRows) → HoldWhole g triggers states w v → (b : List ℕ) → ((g.state e.triggers).IsImage b → HasTriggers w b end.cluster) × ((g.state e.states).IsImage b → HasStates v b end.cluster)
  -- before, at any moment, it leaves what it could have left before the call, until both stores are open; and from the
  -- moment on when a state was reached, each store as in that state or in a later one
  pub opening : g.honest → BeginsWithReads (g.state triggers) (g.state states) e.trail.on_disk.value.items
  pub any_moment : (w : Whole) (v : WholeRows) → HoldWhole g triggers states w v → EachIsKept w v e.trail.on_disk.value.items end.cluster (g.state e.triggers) (g.state e.states)
  -- where the call ends with 0, the next opening is short
  pub next : e.status ≡ status.Ok → (w : Whole) (v : WholeRows) → HoldWhole g triggers states w v → OpensShortIfRoom end.cluster.triggers (g.state e.triggers).content

-- The stores that stand on the disks were opened, and a document's commands were done on them.
pub record LoadedOnDisk {D : Type 0} {g : Ghosts D} (triggers states : D) (e : Ended D g)
    (old new : Outside) : Type 0 where
  -- what the bytes tell from the slot in use on was opened: the histories are legal, and the tables and rows that they leave are valid
  pub opened : ClusterState
  pub are_opened : IsOpened opened.triggers × AreOpened opened.states
  pub nothing_held : opened.held ≡ []
  pub found : g.honest → IsFoundOn g triggers states opened
  pub no_earlier : (g.faults triggers ≤ opened.triggers.faults) × (g.faults states ≤ opened.states.faults)
  -- the commands as steps of a client, and the states that they went through
  pub end : RunState
  pub loads : Loads (IsTold g triggers) e.status (begun false opened) end old new
  pub trail_is : trail_of e.trail ≡ end.trail
  pub on_disk : states_in e.trail.on_disk.value ≡ end.trail
  -- these states, the one at the end, and open executions are as in a script
  pub sound : AllByRecursion HasSoundStores (trail_of e.trail)
  pub sound_end : HasSoundStores end.cluster
  pub recovered : AllByRecursion RecoversLosses (trail_of e.trail)
  pub recovered_end : RecoversLosses end.cluster
  pub alone : AloneInLoad loads
  pub faults : (g.faults e.triggers ≡ end.cluster.triggers.faults) × (g.faults e.states ≡ end.cluster.states.faults)
  -- a crash at the end and at each moment before it, as in a script
  pub images : (w : Whole) (v : WholeRows) → HoldWhole g triggers states w v → (b : List ℕ) → ((g.state e.triggers).IsImage b → HasTriggers w b end.cluster) × ((g.state e.states).IsImage b → HasStates v b end.cluster)
  pub opening : g.honest → BeginsWithReads (g.state triggers) (g.state states) e.trail.on_disk.value.items
  pub any_moment : (w : Whole) (v : WholeRows) → HoldWhole g triggers states w v → EachIsKept w v e.trail.on_disk.value.items end.cluster (g.state e.triggers) (g.state e.states)
  -- and the next opening is short
  pub next : e.status ≡ status.Ok → (w : Whole) (v : WholeRows) → HoldWhole g triggers states w v → OpensShortIfRoom end.cluster.triggers (g.state e.triggers).content

-- The stores that stand on the disks were opened, and what they hold was written.
pub record ListedOnDisk {D : Type 0} {g : Ghosts D} (triggers states : D) (e : Ended D g)
    (old new : Outside) : Type 0 where
  pub opened : ClusterState
  pub are_opened : IsOpened opened.triggers × AreOpened opened.states
  pub found : g.honest → IsFoundOn g triggers states opened
  pub written : WritesText e.status (lines_of opened) old new
  -- the one state that was shown is the opened one
  pub trail_is : trail_of e.trail ≡ opened ∷ []
  -- the disks were only read
  pub reads : g.honest → OnlyReads (g.state triggers) (g.state e.triggers) × OnlyReads (g.state states) (g.state e.states)

-- The stores that stand on the disks were opened. The trigger store is one of version 1 that wasn't upgraded, and the call wants a
-- store of version 2, so nothing was done: the disks were only read.
pub record FoundOld {D : Type 0} {g : Ghosts D} (triggers states : D) (e : Ended D g)
    (old new : Outside) : Type 0 where
  pub opened : ClusterState
  pub are_opened : IsOpened opened.triggers × AreOpened opened.states
  pub found : g.honest → IsFoundOn g triggers states opened
  pub was_old : is_old (replay opened.triggers.history) ≡ true
  pub status_is : e.status ≡ status.OldStore
  pub none : trail_of e.trail ≡ []
  pub reads : g.honest → OnlyReads (g.state triggers) (g.state e.triggers) × OnlyReads (g.state states) (g.state e.states)
  pub untouched : new ≡ old

-- the status of a script whose store of this name wasn't opened
abbrev pub refusal_of : Store → MountError → Status
refusal_of store mount.Fault = status.DiskFault
refusal_of store mount.NotAStore = status.NotAStore store
refusal_of store (mount.Damaged at) = status.Damaged store at
refusal_of store mount.NoMemory = status.NoMemory

-- A store wasn't opened, and nothing was done: the disks were only read, so unless one failed they are as they were, and
-- a crash leaves only what it could have left before. The trigger store is opened first. Where both were opened and there
-- was no memory for the script, this is told as of the state store.
pub record NotOpened {D : Type 0} {g : Ghosts D} (triggers states : D) (e : Ended D g)
    (old new : Outside) : Type 0 where
  pub store : Store
  pub error : MountError
  pub status_is : e.status ≡ refusal_of store error
  pub none : trail_of e.trail ≡ []
  pub refused : g.honest → RefusedBy g store error triggers states
  -- where both disks are honest and hold whole lists, one of them failed or memory ran out
  pub why : (w : Whole) (v : WholeRows) → HoldWhole g triggers states w v → (error ≡ mount.Fault) ⊎ (error ≡ mount.NoMemory)
  -- where the state store is named, the trigger store could be opened
  pub first : g.honest → StandsBefore g store triggers
  pub reads : g.honest → DisksAfter g store error triggers states e.triggers e.states
  pub untouched : new ≡ old
