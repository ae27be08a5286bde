-- Open executions of a script: those that have begun and not ended, by what its steps were answered. Nothing of the stores
-- is seen here.
use Rattle.std.specs.Prelude.{◌≡◌, ℕ, ◌≤◌, ◌==◌, Bool, true, not, List, [], ◌∷◌, filter}
use Rattle.std.specs.List.{AllByRecursion, count_by}
use Rattle.qz_types.specs.Words.{same_text, same_key}
use Rattle.qz_types.specs.declared.commands.Command.{Command}
use Rattle.qz_types.specs.declared.commands.Command.TheVariants.{Recover}
use Rattle.qz_types.specs.declared.keys.Key.{Key}
use Rattle.qz_types.specs.declared.replies.Reply.{Reply}
use Rattle.qz_types.specs.declared.replies.Reply.TheVariants.{Fired, Completed}
use Rattle.qz_steps.specs.declared.steps.Step.{Step}
use Rattle.qz_steps.specs.declared.steps.Step.TheVariants.{Client, Join, CheckIn, Node, Forget, Stop, Restart, Resume, Show, Checkpoint, ShowRoom}
use Rattle.qz_steps.specs.declared.steps.StepReply.{StepReply}
use Rattle.qz_steps.specs.declared.steps.StepReply.TheVariants as answer
use Rattle.qz_cluster.specs.Script.{TimedStep}

-- an execution: its entry number, the node that works at it, the key of its job, and whether it excludes all others of it
pub record Execution : Type 0 where
  pub entry : ℕ
  pub node : List ℕ
  pub job : Key
  pub no_concurrent : Bool

abbrev pub without_entry : ℕ → List Execution → List Execution
without_entry entry os = filter (λ o. not (entry == o.entry)) os

abbrev pub without_node : List ℕ → List Execution → List Execution
without_node node os = filter (λ o. not (same_text node o.node)) os

-- a node was replied to so: an execution of this job began, or that of this entry number ended
abbrev pub open_after_reply : List Execution → List ℕ → Reply → List Execution
open_after_reply os node (Fired entry scheduled at next trigger job) =
    record { entry = entry; node = node; job = job.key; no_concurrent = job.no_concurrent } ∷ os
open_after_reply os node (Completed entry) = without_entry entry os
open_after_reply os node reply = os

-- a node's command was done: whoever is recovered has none then, whether it knows it or not
abbrev pub open_after_command : List Execution → List ℕ → Command → Reply → List Execution
open_after_command os node (Recover failed) reply = without_node failed os
open_after_command os node c reply = open_after_reply os node reply

-- The step was done: a node that joins or stops has none then. An execution that began before is not among these: a node
-- that goes on has its row, and works on at it.
abbrev pub open_after_done : List Execution → Step → Reply → List Execution
open_after_done os (Client c) reply = os
open_after_done os (Join node interval) reply = without_node node os
open_after_done os (CheckIn node interval) reply = os
open_after_done os (Node node c) reply = open_after_command os node c reply
open_after_done os (Forget node failed) reply = os
open_after_done os (Stop node) reply = without_node node os
open_after_done os Restart reply = os
open_after_done os (Resume node epoch) reply = os
open_after_done os (Show question) reply = os
open_after_done os Checkpoint reply = os
open_after_done os ShowRoom reply = os

-- a disk failed in the step
abbrev pub open_after_fault : List Execution → Step → List Execution
open_after_fault os Restart = []
open_after_fault os step = os

-- the executions that are open after a step was answered so; after a restart none is, whether it failed or not
abbrev pub open_after : List Execution → Step → StepReply → List Execution
open_after os step (answer.Ok reply) = open_after_done os step reply
open_after os step answer.Restarted = []
open_after os step answer.Fault = open_after_fault os step
open_after os step a = os

-- an execution that excludes all others of its job is its job's only one
abbrev pub IsAlone : List Execution → Execution → Type 0
IsAlone os o = o.no_concurrent ≡ true → count_by (λ p. same_key o.job p.job) os ≤ 1

abbrev pub AreAlone : List Execution → Type 0
AreAlone os = AllByRecursion (IsAlone os) os

-- before each step and at the end
abbrev pub AreAlwaysAlone : List Execution → List TimedStep → List StepReply → Type 0
AreAlwaysAlone os (t ∷ ts) (a ∷ answers) = AreAlone os × AreAlwaysAlone (open_after os t.step a) ts answers
AreAlwaysAlone os ts answers = AreAlone os
