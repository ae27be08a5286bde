-- The transaction of a node that ends an execution, by Quartz's CompletedExecutionInstruction.
use Rattle.std.specs.Prelude.{ℕ, ℤ, List, Bool, true, false, not, ◌&&◌, Option, Some, None, is_none, if◌then◌else◌}
use Rattle.std.specs.List.{list_any}
use Rattle.qz_types.specs.Rows.{TriggerData, MemberData, FiredData}
use Rattle.qz_types.specs.declared.keys.Key.{Key}
use Rattle.qz_types.specs.declared.triggers.TriggerState.{TriggerState}
use Rattle.qz_types.specs.declared.triggers.TriggerState.TheVariants as state
use Rattle.qz_types.specs.declared.commands.Code.{Code}
use Rattle.qz_types.specs.declared.commands.Code.TheVariants.{Noop, ReExecuteJob, SetTriggerComplete, DeleteTrigger, SetAllJobTriggersComplete, SetTriggerError, SetAllJobTriggersError}
use Rattle.qz_types.specs.declared.replies.Reply.TheVariants as reply
use Rattle.qz_types.specs.declared.replies.Refusal.{Refusal}
use Rattle.qz_types.specs.declared.replies.Refusal.TheVariants.{UnknownEntry, NotExecuting}
use Rattle.qz_types.specs.Changes.{in_state, with_states, without_acquired}
use Rattle.qz_types.specs.States.{is_acquired, unblocked}
use Rattle.qz_types.specs.Tables.{SchedulerTables}
use Rattle.qz_types.specs.Outcomes.{Outcome, accepted, refused, unless}
use Rattle.qz_types.specs.Words.{trigger_of, with_trigger, fired_of, without_fired}
use Rattle.qz_model.specs.Acquiring.{owner_refusal}
use Rattle.qz_model.specs.Membership.{node_refusal}
use Rattle.qz_model.specs.Tests.{refuse_if, or_refusal, is_trigger_of, is_row_of_job, is_row_of_trigger}
use Rattle.qz_model.specs.Triggers.{without_trigger_and_orphan}

-- it has fired for the last time
abbrev pub is_complete : TriggerState → Bool
is_complete state.Complete = true
is_complete s = false

-- it is complete, has no next time, and no fired row names it
unfoldable pub is_finished : List FiredData → TriggerData → Bool
is_finished fired t = is_complete t.state && is_none t.next && not (list_any (is_row_of_trigger t.spec.key) fired)

-- the trigger, if there is one and it is finished
abbrev pub finished : List FiredData → Option TriggerData → Option TriggerData
finished fired None = None
finished fired (Some t) = if is_finished fired t then Some t else None

-- the trigger of this key gets this state, and its acquired row goes
unfoldable pub with_trigger_ended : SchedulerTables → Key → TriggerState → SchedulerTables
with_trigger_ended T key s = record T {
  triggers = with_trigger key (in_state s) T.triggers;
  fired = without_acquired (is_row_of_trigger key) T.fired;
}

-- the same of all triggers of this job
unfoldable pub with_job_ended : SchedulerTables → Key → TriggerState → SchedulerTables
with_job_ended T job s = record T {
  triggers = with_states (λ _. s) (is_trigger_of job) T.triggers;
  fired = without_acquired (is_row_of_job job) T.fired;
}

-- the tables after the code is applied to the trigger of the row, if it is stored, or to those of the row's job
abbrev pub with_code : Code → SchedulerTables → FiredData → SchedulerTables
with_code Noop T f = T
with_code ReExecuteJob T f = T
with_code SetTriggerComplete T f = with_trigger_ended T f.trigger state.Complete
with_code DeleteTrigger T f = without_trigger_and_orphan T (trigger_of f.trigger T.triggers)
with_code SetAllJobTriggersComplete T f = with_job_ended T f.job state.Complete
with_code SetTriggerError T f = with_trigger_ended T f.trigger state.Error
with_code SetAllJobTriggersError T f = with_job_ended T f.job state.Error

-- the triggers of the job are unblocked, if the execution excluded others
abbrev pub with_unblocked : Bool → Key → List TriggerData → List TriggerData
with_unblocked true job triggers = with_states unblocked (is_trigger_of job) triggers
with_unblocked false job triggers = triggers

-- the tables without the row, whose execution has ended
unfoldable pub without_execution : SchedulerTables → FiredData → SchedulerTables
without_execution T f = record T {
  triggers = with_unblocked f.no_concurrent f.job T.triggers;
  fired = without_fired f.entry T.fired;
}

-- with NOOP, a trigger that is finished then goes
abbrev pub without_finished : Code → SchedulerTables → Key → SchedulerTables
without_finished Noop T key = without_trigger_and_orphan T (finished T.fired (trigger_of key T.triggers))
without_finished code T key = T

-- the execution of a row ends with this code
abbrev pub completed : SchedulerTables → FiredData → Code → SchedulerTables
completed T f code = without_finished code (without_execution (with_code code T f) f) f.trigger

-- the row has to be the member's own, and executing
unfoldable pub complete_refusal : MemberData → FiredData → Option Refusal
complete_refusal me f = or_refusal (owner_refusal me f) (refuse_if (is_acquired f.state) NotExecuting None)

-- with RE_EXECUTE_JOB the execution goes on under the same row
abbrev pub complete_one : SchedulerTables → ℤ → FiredData → Code → Outcome
complete_one T m f ReExecuteJob = accepted (record T { last_moment = m }) (reply.Again f.entry)
complete_one T m f code = accepted (record (completed T f code) { last_moment = m }) (reply.Completed f.entry)

abbrev pub complete_row : SchedulerTables → ℤ → MemberData → Option FiredData → Code → Outcome
complete_row T m me None code = refused UnknownEntry
complete_row T m me (Some f) code = unless (complete_refusal me f) (complete_one T m f code)

-- a member ends what it began under this entry number
abbrev pub complete : SchedulerTables → ℤ → MemberData → ℕ → Code → Outcome
complete T m me entry code = unless (node_refusal T me) (complete_row T m me (fired_of entry T.fired) code)
