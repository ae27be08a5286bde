-- The transaction of a client that takes a trigger out of the state ERROR, as Quartz's `resetTriggerFromErrorState`.
use Rattle.std.specs.Prelude.{ℤ, Bool, true, false, not, Option, Some, None, is_none, if◌then◌else◌}
use Rattle.qz_types.specs.Rows.{TriggerData}
use Rattle.qz_types.specs.declared.keys.Key.{Key}
use Rattle.qz_types.specs.declared.replies.Reply.TheVariants.{Done}
use Rattle.qz_types.specs.declared.replies.Refusal.{Refusal}
use Rattle.qz_types.specs.declared.replies.Refusal.TheVariants.{UnknownTrigger, NotInError}
use Rattle.qz_types.specs.declared.triggers.TriggerState.{TriggerState}
use Rattle.qz_types.specs.declared.triggers.TriggerState.TheVariants as state
use Rattle.qz_types.specs.Changes.{in_state}
use Rattle.qz_types.specs.Tables.{SchedulerTables}
use Rattle.qz_types.specs.Outcomes.{Outcome, accepted, unless}
use Rattle.qz_types.specs.Words.{trigger_of, with_trigger}
use Rattle.qz_model.specs.Tests.{refuse_if}
use Rattle.qz_model.specs.Triggers.{new_state}

-- its job failed for good, or its class isn't known
abbrev pub is_in_error : TriggerState → Bool
is_in_error state.Error = true
is_in_error s = false

-- it is the trigger that is in that state
abbrev pub reset_refusal : Option TriggerData → Option Refusal
reset_refusal None = Some UnknownTrigger
reset_refusal (Some t) = refuse_if (not (is_in_error t.state)) NotInError None

-- the trigger as it is then: it is complete where it has no next time, and else in the state of one that is stored now
unfoldable pub reset : SchedulerTables → TriggerData → TriggerData
reset T t = in_state (if is_none t.next then state.Complete else new_state T t.spec) t

abbrev pub reset_trigger : SchedulerTables → ℤ → Key → Outcome
reset_trigger T m key = unless (reset_refusal (trigger_of key T.triggers))
    (accepted (record T { triggers = with_trigger key (reset T) T.triggers; last_moment = m }) Done)
