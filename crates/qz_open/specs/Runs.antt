-- Runs of a cluster: steps that were done one after another, and whose executions the recoveries in them end.
use Rattle.std.specs.Prelude.{⊤, ◌≡◌, false, List, [], ◌∷◌, None}
use Rattle.std.specs.List.{AllByRecursion}
use Rattle.qz_types.specs.Rows.{MemberData}
use Rattle.qz_types.specs.Words.{same_text, member_of}
use Rattle.qz_types.specs.declared.commands.Command.TheVariants.{Recover}
use Rattle.qz_steps.specs.declared.steps.Step.{Step}
use Rattle.qz_steps.specs.declared.steps.Step.TheVariants.{Node}
use Rattle.qz_steps.specs.declared.steps.StepReply.{StepReply}
use Rattle.qz_steps.specs.declared.steps.StepReply.TheVariants as answer
use Rattle.qz_trigger_store.specs.Opening.{IsOpened}
use Rattle.qz_cluster.specs.Script.{TimedStep}
use Rattle.qz_cluster.specs.Steps.{ClusterState, IsStep}
use Rattle.qz_open.specs.Opened.{Execution, open_after}

-- the trigger store was just opened, and no node holds an epoch
pub record IsStart (S : ClusterState) : Type 0 where
  pub opened : IsOpened S.triggers
  pub held : S.held ≡ []

-- Each state follows from the one before by its step and answer. Whether the disks are honest matters to restarts.
abbrev pub StepsDone : Type 0 → ClusterState → List TimedStep → List StepReply → List ClusterState → Type 0
StepsDone honest S [] [] [] = ⊤
StepsDone honest S (t ∷ ts) (a ∷ answers) (S' ∷ states) = IsStep honest t a S S' × StepsDone honest S' ts answers states
StepsDone honest S ts answers states = ⊥

-- A node that is recovered while it holds no epoch has no open execution: what it had was closed when it stopped, or when
-- the stores were opened anew. So a recovery ends open executions only of a node that still holds an epoch.
abbrev pub SparesDone : List MemberData → List Execution → Step → Type 0
SparesDone held os (Node node (Recover failed)) = member_of failed held ≡ None → AllByRecursion (λ o. same_text failed o.node ≡ false) os
SparesDone held os step = ⊤

-- where the step was done
abbrev pub SparesOthers : List MemberData → List Execution → Step → StepReply → Type 0
SparesOthers held os step (answer.Ok reply) = SparesDone held os step
SparesOthers held os step a = ⊤

-- so at each step, with the executions that are open before it
abbrev pub AlwaysSparesOthers : ClusterState → List Execution → List TimedStep → List StepReply → List ClusterState → Type 0
AlwaysSparesOthers S os (t ∷ ts) (a ∷ answers) (S' ∷ states) = SparesOthers S.held os t.step a × AlwaysSparesOthers S' (open_after os t.step a) ts answers states
AlwaysSparesOthers S os ts answers states = ⊤
