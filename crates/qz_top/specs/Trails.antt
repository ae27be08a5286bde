-- Steps that were done one after another, and the states that they went through.
use Rattle.std.specs.Prelude.{◌≡◌, ℕ, true, false, Bool, List, [], ◌∷◌, ◌++◌, None}
use Rattle.std.specs.List.{AllByRecursion, flat_map}
use Rattle.qz_steps.specs.declared.steps.StepReply.{StepReply}
use Rattle.qz_steps.specs.declared.steps.StepReply.TheVariants as reply
use Rattle.qz_model.specs.History.{history_of_version}
use Rattle.qz_checkin.specs.History.{new_state_history}
use Rattle.qz_cluster.specs.Script.{TimedStep}
use Rattle.qz_report.specs.Replies.{reply_text}
use Rattle.qz_cluster.specs.Steps.{ClusterState}
use Rattle.qz_open.specs.Runs.{StepsDone}

-- the last of these states, which come after the first
abbrev pub last_of : ClusterState → List ClusterState → ClusterState
last_of S [] = S
last_of S (S' ∷ states) = last_of S' states

-- the reply lines
abbrev pub texts : List StepReply → List ℕ
texts replies = flat_map reply_text replies

abbrev pub is_fault : StepReply → Bool
is_fault (reply.Ok r) = false
is_fault (reply.Refused refusal) = false
is_fault reply.Fault = true
is_fault reply.Closed = false
is_fault reply.Stopped = false
is_fault reply.Restarted = false
is_fault (reply.Shown shown) = false
is_fault (reply.Marked marked) = false
is_fault (reply.Room room) = false

abbrev pub IsNoFault : StepReply → Type 0
IsNoFault r = is_fault r ≡ false

-- A script in progress: the cluster, the states that it went through with the one that it began with, and whether its
-- disks are the call's own.
pub record RunState : Type 0 where
  pub cluster : ClusterState
  pub trail : List ClusterState
  pub is_own : Bool

-- These steps led from one state of a script to the other, with these replies. On disks of its own it goes on after
-- no fault.
pub record RanSteps (honest : Type 0) (steps : List TimedStep) (replies : List StepReply) (before after : RunState) : Type 0 where
  pub states : List ClusterState
  pub done : StepsDone honest before.cluster steps replies states
  pub last : after.cluster ≡ last_of before.cluster states
  pub trail : after.trail ≡ before.trail ++ states
  pub own : after.is_own ≡ before.is_own
  pub no_fault : before.is_own ≡ true → AllByRecursion IsNoFault replies

-- a cluster on new stores of version 2, whose disks failed so often before
abbrev pub new_cluster : ℕ → ℕ → ClusterState
new_cluster triggers_faults states_faults = record {
  triggers = record { history = history_of_version 2; gate = 16; payloads = 0; is_open = true; undecided = None; faults = triggers_faults };
  states = record { history = new_state_history; gate = 16; payloads = 0; is_open = true; undecided = None; faults = states_faults };
  held = [];
  behind = 0;
  standing = true;
}
