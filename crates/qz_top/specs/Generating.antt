-- What `gen` did: jobs and triggers that a number gives were added to an empty store, and nodes worked on it.
use Rattle.std.specs.Prelude.{⊤, ◌≡◌, ◌⊎◌, ◌≤◌, ℕ, ◌*◌, true, false, pos, ◌+ℤ◌, ◌-ℤ◌, List, [], ◌∷◌, ◌++◌, map, Result, Ok, Err}
use Rattle.qz_disk.specs.declared.disk.Disk.{Ghosts}
use Rattle.qz_io.specs.Outside.{Outside}
use Rattle.qz_types.specs.declared.commands.Command.{Command}
use Rattle.qz_types.specs.declared.errors.SubmitError.{SubmitError}
use Rattle.qz_types.specs.declared.errors.SubmitError.TheVariants as submit
use Rattle.qz_types.specs.declared.replies.Reply.{Reply}
use Rattle.qz_steps.specs.declared.steps.Step.TheVariants.{Client}
use Rattle.qz_steps.specs.declared.steps.StepReply.{StepReply}
use Rattle.qz_steps.specs.declared.steps.StepReply.TheVariants as reply
use Rattle.qz_generator.specs.Commands.{generated}
use Rattle.qz_generator.specs.declared.limits.TheConstants.{FIRST_MOMENT}
use Rattle.qz_model.specs.History.{History, IsLegal, replay, replies}
use Rattle.qz_trigger_store.specs.Bytes.{Whole}
use Rattle.qz_trigger_store.specs.Entries.{TriggerState, is_old}
use Rattle.qz_trigger_store.specs.Opening.{IsOpened}
use Rattle.qz_checkin.specs.Bytes.{Whole as WholeRows}
use Rattle.qz_checkin.specs.Entries.{StatesState}
use Rattle.qz_checkin.specs.History.{IsLegal as AreLegal}
use Rattle.qz_checkin.specs.Opening.{IsOpened as AreOpened}
use Rattle.qz_cluster.specs.Script.{TimedStep}
use Rattle.qz_cluster.specs.Steps.{ClusterState, is_closed, IsStep, IsCutShort, without_script}
use Rattle.qz_cluster.specs.declared.errors.StepEnd.{StepEnd}
use Rattle.qz_report.specs.Summaries.{summary_of, summary_text}
use Rattle.qz_node.specs.Jobs.{JobMeaning}
use Rattle.qz_run.specs.declared.commands.Plan.{Plan}
use Rattle.qz_open.specs.Runs.{StepsDone}
use Rattle.qz_schedule_law.specs.Following.{FollowsSchedules}
use Rattle.qz_top.specs.Calls.{HasSoundStores, NotOpened, RecoversLosses, RunsOneAtATime, trail_of}
use Rattle.qz_top.specs.Found.{count_of, IsFoundOn, HoldWhole}
use Rattle.qz_top.specs.Moments.{HasTriggers, HasStates}
use Rattle.qz_top.specs.NodeRuns.{IsToldAs, Worked, WritesRun, IsKeptOnTheWay}
use Rattle.qz_top.specs.Resting.{RestsNodes, OpensShortIfRoom}
use Rattle.qz_top.specs.Statuses.{cut_status}
use Rattle.qz_top.specs.Trails.{last_of}
use Rattle.qz_top.specs.declared.ended.Ended.{Ended}
use Rattle.qz_top.specs.declared.gen_on_disk.Workload.{Workload}
use Rattle.qz_top.specs.declared.statuses.Status.{Status}
use Rattle.qz_top.specs.declared.statuses.Status.TheVariants as status

-- 4 nodes work from the first moment to the end of the last of so many days, and fire at most 1000000 times
abbrev pub plan_of : ℕ → Plan
plan_of days = record { nodes = 4; from = FIRST_MOMENT; until = FIRST_MOMENT +ℤ pos (days * 86400000) -ℤ pos 1; budget = 1000000 }

-- a command as a step of a client at the first moment
abbrev pub first_step : Command → TimedStep
first_step c = record { step = Client c; at = FIRST_MOMENT }

-- The commands were done in turn, each as a step of a client at the first moment.
pub record Filled (honest : Type 0) (commands : List Command) (before after : ClusterState) : Type 0 where
  pub replies : List StepReply
  pub states : List ClusterState
  pub done : StepsDone honest before (map first_step commands) replies states
  pub last : after ≡ last_of before states

-- The step has no answer.
pub record HadNoAnswer (honest : Type 0) (s : Status) (t : TimedStep) (before after : ClusterState) : Type 0 where
  pub end : StepEnd
  pub cut : IsCutShort honest t end before after
  pub status_is : s ≡ cut_status end

-- A disk failed in the step, so a store is closed.
pub record MetFault (honest : Type 0) (s : Status) (t : TimedStep) (before after : ClusterState) : Type 0 where
  pub fault : IsStep honest t reply.Fault before after
  pub status_is : s ≡ status.DiskFault

-- how a step may end a filling
abbrev pub StepEnded : Type 0 → Status → TimedStep → ClusterState → ClusterState → Type 0
StepEnded honest s t before after = HadNoAnswer honest s t before after ⊎ MetFault honest s t before after

-- The first of the commands were done, and the next one ended it so.
pub record FilledPart (honest : Type 0) (s : Status) (commands : List Command) (before after : ClusterState) : Type 0 where
  pub done : List Command
  pub next : Command
  pub left : List Command
  pub all : commands ≡ done ++ next ∷ left
  pub between : ClusterState
  pub filled : Filled honest done before between
  pub ended : StepEnded honest s (first_step next) between after

-- There was no memory for the commands, and nothing was done.
pub record NoneMade (s : Status) (before after : ClusterState) : Type 0 where
  pub starved : s ≡ status.NoMemory
  pub same : after ≡ before

-- why not all of the commands were done
abbrev pub FillEnded : Type 0 → Status → List Command → ClusterState → ClusterState → Type 0
FillEnded honest s commands before after = NoneMade s before after ⊎ FilledPart honest s commands before after

-- what the store's answer to a command makes of a filling: it goes on after a reply and after a refusal
abbrev pub after_answer : Result Reply SubmitError → Result (Unit {0}) Status
after_answer (Ok r) = Ok tt
after_answer (Err (submit.Refused refusal)) = Ok tt
after_answer (Err (submit.JournalFull need room)) = Err (status.JournalFull need room)
after_answer (Err submit.NoMemory) = Err status.NoMemory
after_answer (Err (submit.Closed at)) = Err status.DiskFault
after_answer (Err submit.Fault) = Err status.DiskFault

-- both stores, where no node holds an epoch
abbrev pub beside : StatesState → TriggerState → ClusterState
beside states triggers = without_script triggers states

-- the line that sums up the whole history
abbrev pub summary_line_of : History → List ℕ
summary_line_of h = summary_text (summary_of h.entries (replies h) (replay h))

-- The trigger store's history wasn't empty, and nothing was done, called or written.
pub record HadEntries (s : Status) (jobs jobs' : List JobMeaning) (opened end : ClusterState) (old new : Outside) : Type 0 where
  pub exists : s ≡ status.Exists
  pub some : count_of opened.triggers.history ≡ 0 → ⊥
  pub same : end ≡ opened
  pub not_called : jobs' ≡ jobs
  pub untouched : new ≡ old

-- It was empty, and the store is one of version 1 that wasn't upgraded. Nothing was done, called or written.
pub record WasOld (s : Status) (jobs jobs' : List JobMeaning) (opened end : ClusterState) (old new : Outside) : Type 0 where
  pub none : count_of opened.triggers.history ≡ 0
  pub found : is_old (replay opened.triggers.history) ≡ true
  pub status_is : s ≡ status.OldStore
  pub same : end ≡ opened
  pub not_called : jobs' ≡ jobs
  pub untouched : new ≡ old

-- It was empty, the store isn't old, and not all of the commands were done. No node worked, and nothing was written.
pub record NotFilled (honest : Type 0) (w : Workload) (s : Status) (jobs jobs' : List JobMeaning) (opened end : ClusterState) (old new : Outside) : Type 0 where
  pub none : count_of opened.triggers.history ≡ 0
  pub current : is_old (replay opened.triggers.history) ≡ false
  pub ended : FillEnded honest s (generated w.seed w.jobs) opened end
  pub not_called : jobs' ≡ jobs
  pub untouched : new ≡ old

-- The nodes of the plan worked from the one state of the stores to another. The line that sums up the history was written, where
-- this holds of the store at first. Then a checkpoint was made where one was due.
pub record WorkedAndSummed (p : Plan) (s : Status) (jobs jobs' : List JobMeaning) (begun end : ClusterState) (IsFirst : Type 0) (old new : Outside) : Type 0 where
  pub work : Status
  pub worked_to : ClusterState
  pub worked : Worked p work jobs jobs' begun worked_to
  pub told_as : Status
  pub told : IsToldAs told_as work
  pub written : IsFirst → WritesRun told_as (summary_line_of worked_to.triggers.history) old new
  pub rests : RestsNodes told_as s worked_to.triggers end.triggers
  pub states_stay : end.states ≡ worked_to.states

-- It was empty, the store isn't old, all of the commands were done, and then the nodes of the plan worked, which ended so. The summary
-- line was written, which counts all that was added since the opening, and a checkpoint was made where one was due.
pub record RanGenerated (honest : Type 0) (w : Workload) (s : Status) (jobs jobs' : List JobMeaning) (opened end : ClusterState) (old new : Outside) : Type 0 where
  pub none : count_of opened.triggers.history ≡ 0
  pub current : is_old (replay opened.triggers.history) ≡ false
  pub between : ClusterState
  pub filled : Filled honest (generated w.seed w.jobs) opened between
  pub is_open : is_closed between ≡ false
  pub ran : WorkedAndSummed (plan_of w.days) s jobs jobs' between end ⊤ old new

abbrev pub Generated : Type 0 → Workload → Status → List JobMeaning → List JobMeaning → ClusterState → ClusterState → Outside → Outside → Type 0
Generated honest w s jobs jobs' opened end old new =
    HadEntries s jobs jobs' opened end old new ⊎ WasOld s jobs jobs' opened end old new ⊎ NotFilled honest w s jobs jobs' opened end old new ⊎ RanGenerated honest w s jobs jobs' opened end old new

-- The stores that stand on the disks were opened, and what `gen` does was done on them. A script's states aren't told.
pub record GeneratedOnDisk {D : Type 0} {g : Ghosts D} (w : Workload) (jobs jobs' : List JobMeaning) (triggers states : D) (e : Ended D g)
    (old new : Outside) : Type 0 where
  -- what the bytes tell from the slot in use on was opened: the histories are legal, and the tables and rows that they leave are valid
  pub opened : ClusterState
  pub are_opened : IsOpened opened.triggers × AreOpened opened.states
  pub nothing_held : opened.held ≡ []
  pub found : g.honest → IsFoundOn g triggers states opened
  pub no_earlier : (g.faults triggers ≤ opened.triggers.faults) × (g.faults states ≤ opened.states.faults)
  -- what was done, up to the end
  pub end : ClusterState
  pub did : Generated g.honest w e.status jobs jobs' opened end old new
  -- at the end both histories are legal, and triggers that weren't disturbed have fired for the first times of their schedules
  pub legal : IsLegal end.triggers.history × AreLegal end.states.history
  pub schedules : FollowsSchedules end.triggers.history
  -- tables and rows are valid there, and what was lost since the base was recovered once
  pub sound : HasSoundStores end
  pub recovered : RecoversLosses end
  -- and no job that excludes others had two executions at once
  pub one_at_a_time : RunsOneAtATime end
  pub no_trail : trail_of e.trail ≡ []
  pub faults : (g.faults e.triggers ≡ end.triggers.faults) × (g.faults e.states ≡ end.states.faults)
  -- at the end a crash leaves the bytes of the last history of each store, or of it with the undecided entry
  pub images : (w : Whole) (v : WholeRows) → HoldWhole g triggers states w v → (b : List ℕ) → ((g.state e.triggers).IsImage b → HasTriggers w b end) × ((g.state e.states).IsImage b → HasStates v b end)
  -- and so it does at any moment before
  pub any_moment : ∥ IsKeptOnTheWay g triggers states e.triggers e.states opened end ∥₁
  -- where the call ends with 0 and the trigger store is open, its next opening is short
  pub next : e.status ≡ status.Ok → end.triggers.is_open ≡ true → (w : Whole) (v : WholeRows) → HoldWhole g triggers states w v → OpensShortIfRoom end.triggers (g.state e.triggers).content

-- It was done on both stores, or one of them wasn't opened and no job was called.
abbrev pub Generates : {D : Type 0} {g : Ghosts D} → Workload → List JobMeaning → List JobMeaning → D → D → Ended D g → Outside → Outside → Type 0
Generates w jobs jobs' triggers states e old new = GeneratedOnDisk w jobs jobs' triggers states e old new ⊎ (NotOpened triggers states e old new × (jobs' ≡ jobs))
