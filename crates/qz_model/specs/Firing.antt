-- The transaction of a node that begins an execution. Where executions of the job exclude each other, none of its other
-- triggers can be acquired until the execution ends, as with Quartz's DisallowConcurrentExecution.
use Rattle.std.specs.Prelude.{ℕ, ℤ, List, Bool, true, false, Option, Some, None, option_and_then, if◌then◌else◌}
use Rattle.qz_types.specs.Rows.{JobData, TriggerData, MemberData, FiredData}
use Rattle.qz_types.specs.declared.keys.Key.{Key}
use Rattle.qz_types.specs.declared.triggers.TriggerState.{TriggerState}
use Rattle.qz_types.specs.declared.triggers.TriggerState.TheVariants.{Waiting, Blocked, Complete}
use Rattle.qz_types.specs.declared.replies.Reply.TheVariants as reply
use Rattle.qz_types.specs.declared.replies.Refusal.{Refusal}
use Rattle.qz_types.specs.declared.replies.Refusal.TheVariants.{UnknownEntry, Early}
use Rattle.qz_types.specs.Changes.{with_states, after_fire, begun, without_acquired}
use Rattle.qz_types.specs.States.{blocked}
use Rattle.qz_types.specs.Tables.{SchedulerTables}
use Rattle.qz_types.specs.Outcomes.{Outcome, accepted, refused, unless}
use Rattle.qz_types.specs.Words.{trigger_of, with_trigger, fired_of, with_fired}
use Rattle.qz_model.specs.Acquiring.{acquired_refusal, next_time}
use Rattle.qz_model.specs.Due.{is_before}
use Rattle.qz_model.specs.Membership.{node_refusal}
use Rattle.qz_model.specs.Plan.{next_after}
use Rattle.qz_model.specs.Tests.{or_refusal, is_trigger_of, is_row_of_job, stored_job}

-- the next time of the trigger of this key, if it has one
unfoldable pub next_of : Key → List TriggerData → Option ℤ
next_of key triggers = option_and_then (λ t. t.next) (trigger_of key triggers)

-- the moment lies before the trigger's next time
abbrev pub early : ℤ → Option ℤ → Option Refusal
early m None = None
early m (Some next) = if is_before next (Some m) then Some (Early next) else None

unfoldable pub fire_refusal : SchedulerTables → ℤ → MemberData → FiredData → Option Refusal
fire_refusal T m me f = or_refusal (acquired_refusal me f) (early m (next_of f.trigger T.triggers))

-- the fire time that comes after the trigger's next time
abbrev pub time_after : SchedulerTables → Option TriggerData → Option ℤ
time_after T None = None
time_after T (Some t) = next_after T t.spec (next_time t)

-- the same of the trigger of the row
unfoldable pub following : SchedulerTables → FiredData → Option ℤ
following T f = time_after T (trigger_of f.trigger T.triggers)

-- the state of the trigger that fired, by its next time and by whether executions of its job exclude each other
abbrev pub fired_state : Option ℤ → Bool → TriggerState
fired_state None exclusive = Complete
fired_state (Some next) true = Blocked
fired_state (Some next) false = Waiting

-- the triggers of the job are blocked, if its executions exclude each other
abbrev pub with_blocked : Bool → Key → List TriggerData → List TriggerData
with_blocked true job triggers = with_states blocked (is_trigger_of job) triggers
with_blocked false job triggers = triggers

-- and no other row of the job stays acquired
abbrev pub without_siblings : Bool → Key → List FiredData → List FiredData
without_siblings true job fired = without_acquired (is_row_of_job job) fired
without_siblings false job fired = fired

-- the execution of an acquired row of this job begins, and its trigger has this next time
unfoldable pub with_begun : SchedulerTables → ℤ → FiredData → JobData → Option ℤ → SchedulerTables
with_begun T m f job next = record T {
  triggers = with_trigger f.trigger (after_fire next (fired_state next job.no_concurrent)) (with_blocked job.no_concurrent f.job T.triggers);
  fired = without_siblings job.no_concurrent f.job (with_fired f.entry (begun m job.no_concurrent job.requests_recovery) T.fired);
  last_moment = m;
}

abbrev pub fire_one : SchedulerTables → ℤ → FiredData → JobData → Option ℤ → Outcome
fire_one T m f job next = accepted (with_begun T m f job next) (reply.Fired f.entry f.scheduled m next f.trigger job)

abbrev pub fire_row : SchedulerTables → ℤ → MemberData → Option FiredData → Outcome
fire_row T m me None = refused UnknownEntry
fire_row T m me (Some f) = unless (fire_refusal T m me f) (fire_one T m f (stored_job f.job T.jobs) (following T f))

-- a member fires what it acquired under this entry number
abbrev pub fire : SchedulerTables → ℤ → MemberData → ℕ → Outcome
fire T m me entry = unless (node_refusal T me) (fire_row T m me (fired_of entry T.fired))
