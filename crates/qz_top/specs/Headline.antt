-- The headline: the replies that a call writes are a plain scheduler's, along one history of each store; a crash at any moment
-- leaves these histories; no job has two open executions that excludes them; and each lost execution is recovered once.
--
-- What is said of disks has the user's premises: both are honest, nobody else writes them, and they hold whole lists when the call
-- begins, as stores do that `init` made and calls of the program alone worked on. All else has no premise. Whoever declares a
-- node failed has to know that it stopped: what it executes is taken for ended then (`spared` says what that takes from it).
use Rattle.std.specs.Prelude.{⊤, ◌≡◌, ◌⊎◌, ℕ, ℤ, List, [], ◌∷◌, ◌++◌, length, take, Result, Ok, Err}
use Rattle.std.specs.List.{AllByRecursion}
use Rattle.qz_disk.specs.declared.disk.Disk.{Ghosts}
use Rattle.qz_steps.specs.declared.steps.StepReply.{StepReply}
use Rattle.qz_trigger_store.specs.Bytes.{Whole}
use Rattle.qz_checkin.specs.Bytes.{Whole as WholeRows}
use Rattle.qz_cluster.specs.Script.{TimedStep, new_script, plain_replies, step_replies}
use Rattle.qz_cluster.specs.Steps.{ClusterState}
use Rattle.qz_open.specs.Opened.{AreAlwaysAlone}
use Rattle.qz_open.specs.Runs.{StepsDone, AlwaysSparesOthers}
use Rattle.qz_top.specs.Calls.{IsOnTold, script_of, trail_of}
use Rattle.qz_top.specs.Found.{IsTold, HoldWhole}
use Rattle.qz_top.specs.Moments.{EachIsKept}
use Rattle.qz_top.specs.Standing.{LoseNothing, WereOpened, IsInOrder, OutlastsCrashes}
use Rattle.qz_top.specs.Trails.{IsNoFault, last_of, new_cluster}
use Rattle.qz_top.specs.declared.ended.Ended.{Ended}

-- These steps led from the opened state through the later ones, one a step, with these replies.
pub record AlongHistories (told : Type 0) (opened : ClusterState) (steps : List TimedStep) (replies : List StepReply) (later : List ClusterState) : Type 0 where
  -- each step was done, or refused, or met a fault, at the histories that the one before left
  pub one_history : StepsDone told opened steps replies later
  -- what a step appended is in every later history, whatever faults and restarts come; restarts are so on disks of the premise
  pub nothing_lost : told → LoseNothing opened later
  -- up to the first fault a plain scheduler, which knows no disk, replies the same, but for what the disks say of themselves; restarts
  -- are so on disks of the premise
  pub plain : (first rest : List StepReply) → replies ≡ first ++ rest → AllByRecursion (IsOnTold told) (take (length first) steps) → AllByRecursion IsNoFault first
      → plain_replies steps first ≡ take (length first) (step_replies (script_of opened) steps)
  pub in_order : AllByRecursion IsInOrder (opened ∷ later)
  -- No job with `no_concurrent` has two open executions, before any step or at the end. A recovery ends those of the failed
  -- node; where that holds no epoch, since it stopped, it has none.
  pub alone : AreAlwaysAlone [] steps replies
  pub spared : AlwaysSparesOthers opened [] steps replies later

-- On the stores of two disks. `Asks` says which steps the bytes that came in ask for, and which bytes went out.
pub record Headline {D : Type 0} {g : Ghosts D} (Asks : List TimedStep → List StepReply → Type 0) (triggers states : D) (e : Ended D g) : Type 0 where
  pub steps : List TimedStep
  pub replies : List StepReply
  pub asks : Asks steps replies
  -- the opening
  pub opened : ClusterState
  pub were_opened : WereOpened g triggers states opened
  -- the steps, each with the state after it
  pub later : List ClusterState
  pub along : AlongHistories (IsTold g triggers) opened steps replies later
  pub shown : trail_of e.trail ≡ opened ∷ later
  -- the state at the end, which has the triggers' history of the last step
  pub end : ClusterState
  pub end_is : end.triggers.history ≡ (last_of opened later).triggers.history
  pub end_in_order : IsInOrder end
  -- Each crash: at any moment the whole lists of before with what was added; and from the moment on when a state was reached, the
  -- histories of that state, of a later one or of the one at the end.
  pub outlasts : OutlastsCrashes g triggers states e.triggers e.states end
  pub each_kept : (w : Whole) (v : WholeRows) → HoldWhole g triggers states w v → EachIsKept w v e.trail.on_disk.value.items end (g.state e.triggers) (g.state e.states)

-- In memory, on new stores of version 2: all replies are a plain scheduler's, but for what the disks say of themselves, and none is a fault. A restart finds all there.
pub record HeadlineInMemory (Asks : List TimedStep → List StepReply → Type 0) (trail : List ClusterState) : Type 0 where
  pub steps : List TimedStep
  pub replies : List StepReply
  pub asks : Asks steps replies
  pub plain : plain_replies steps replies ≡ step_replies (new_script 2) steps
  pub triggers_faults : ℕ
  pub states_faults : ℕ
  pub later : List ClusterState
  pub along : AlongHistories ⊤ (new_cluster triggers_faults states_faults) steps replies later
  pub shown : trail ≡ new_cluster triggers_faults states_faults ∷ later
