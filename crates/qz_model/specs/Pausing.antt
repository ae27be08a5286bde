-- The transactions of clients that pause triggers and groups of them, and resume them.
use Rattle.std.specs.Prelude.{ℕ, ℤ, List, Bool, not, ◌&&◌, length, nat_le, Option, None}
use Rattle.qz_types.specs.Rows.{TriggerData, FiredData}
use Rattle.qz_types.specs.declared.keys.Key.{Key}
use Rattle.qz_types.specs.declared.limits.TheConstants.{GROUP_LIMIT, JOB_GROUP_LIMIT}
use Rattle.qz_types.specs.declared.replies.Reply.TheVariants.{Done}
use Rattle.qz_types.specs.declared.replies.Refusal.{Refusal}
use Rattle.qz_types.specs.declared.replies.Refusal.TheVariants.{TooMany}
use Rattle.qz_types.specs.Changes.{with_state, with_states, without_acquired}
use Rattle.qz_types.specs.States.{paused, resumed}
use Rattle.qz_types.specs.Tables.{SchedulerTables}
use Rattle.qz_types.specs.Outcomes.{Outcome, accepted, unless}
use Rattle.qz_types.specs.Words.{same_text, trigger_of, with_trigger, is_paused, put_group, without_group}
use Rattle.qz_model.specs.Tests.{refuse_if, is_row_of_trigger}
use Rattle.qz_model.specs.Triggers.{unknown_trigger}

-- the trigger is paused, and its acquired row goes
abbrev pub pause_trigger : SchedulerTables → ℤ → Key → Outcome
pause_trigger T m key = unless (unknown_trigger (trigger_of key T.triggers))
    (accepted (record T {
      triggers = with_trigger key (with_state paused) T.triggers;
      fired = without_acquired (is_row_of_trigger key) T.fired;
      last_moment = m;
    }) Done)

abbrev pub resume_trigger : SchedulerTables → ℤ → Key → Outcome
resume_trigger T m key = unless (unknown_trigger (trigger_of key T.triggers))
    (accepted (record T { triggers = with_trigger key (with_state resumed) T.triggers; last_moment = m }) Done)

-- the trigger is in this group
abbrev pub is_in_group : List ℕ → TriggerData → Bool
is_in_group group t = same_text group t.spec.key.group

-- the row is of a trigger of this group
abbrev pub is_row_of_group : List ℕ → FiredData → Bool
is_row_of_group group f = same_text group f.trigger.group

unfoldable pub pause_group_refusal : SchedulerTables → List ℕ → Option Refusal
pause_group_refusal T group =
    refuse_if (not (is_paused group T.paused_groups) && nat_le GROUP_LIMIT (length T.paused_groups)) (TooMany GROUP_LIMIT) None

-- the group is paused, so that triggers that are stored later are paused too, and each of its triggers now
abbrev pub pause_group : SchedulerTables → ℤ → List ℕ → Outcome
pause_group T m group = unless (pause_group_refusal T group)
    (accepted (record T {
      paused_groups = put_group group (without_group group T.paused_groups);
      triggers = with_states paused (is_in_group group) T.triggers;
      fired = without_acquired (is_row_of_group group) T.fired;
      last_moment = m;
    }) Done)

-- The group isn't paused any more, and none of its triggers is, whether it was paused with the group or alone; but those whose job's
-- group is paused stay so.
abbrev pub is_resumed_with_group : SchedulerTables → List ℕ → TriggerData → Bool
is_resumed_with_group T group t = is_in_group group t && not (is_paused t.spec.job.group T.paused_job_groups)

abbrev pub resume_group : SchedulerTables → ℤ → List ℕ → Outcome
resume_group T m group =
    accepted (record T {
      paused_groups = without_group group T.paused_groups;
      triggers = with_states resumed (is_resumed_with_group T group) T.triggers;
      last_moment = m;
    }) Done

-- Groups of jobs. That they are remembered is this scheduler's own rule: Quartz pauses the triggers that are stored by then.

-- the trigger is one of a job of this group
abbrev pub is_in_job_group : List ℕ → TriggerData → Bool
is_in_job_group group t = same_text group t.spec.job.group

-- the row is of a trigger of a job of this group
abbrev pub is_row_of_job_group : List ℕ → FiredData → Bool
is_row_of_job_group group f = same_text group f.job.group

unfoldable pub pause_job_group_refusal : SchedulerTables → List ℕ → Option Refusal
pause_job_group_refusal T group =
    refuse_if (not (is_paused group T.paused_job_groups) && nat_le JOB_GROUP_LIMIT (length T.paused_job_groups)) (TooMany JOB_GROUP_LIMIT) None

-- the group is paused, so that triggers that are stored later for a job of it are paused too, and each trigger of its jobs now
abbrev pub pause_job_group : SchedulerTables → ℤ → List ℕ → Outcome
pause_job_group T m group = unless (pause_job_group_refusal T group)
    (accepted (record T {
      paused_job_groups = put_group group (without_group group T.paused_job_groups);
      triggers = with_states paused (is_in_job_group group) T.triggers;
      fired = without_acquired (is_row_of_job_group group) T.fired;
      last_moment = m;
    }) Done)

-- the trigger is one of a job of this group, and its own group isn't paused
abbrev pub is_resumed_with_job_group : SchedulerTables → List ℕ → TriggerData → Bool
is_resumed_with_job_group T group t = is_in_job_group group t && not (is_paused t.spec.key.group T.paused_groups)

abbrev pub resume_job_group : SchedulerTables → ℤ → List ℕ → Outcome
resume_job_group T m group =
    accepted (record T {
      paused_job_groups = without_group group T.paused_job_groups;
      triggers = with_states resumed (is_resumed_with_job_group T group) T.triggers;
      last_moment = m;
    }) Done
