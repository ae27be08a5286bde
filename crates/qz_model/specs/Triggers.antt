-- The transactions of clients on triggers, and the threshold of misfires.
use Rattle.std.specs.Prelude.{ℕ, ◌+◌, ℤ, pos, List, Bool, not, ◌&&◌, ◌||◌, ◌++◌, length, nat_le, nat_lt, codes, Option, Some, None, is_some, is_none, unwrap_or}
use Rattle.std.specs.Fmt.{decimal}
use Rattle.qz_civil.specs.declared.timings.Kind.TheVariants.{Simple}
use Rattle.qz_types.specs.Rows.{JobData, TriggerData}
use Rattle.qz_types.specs.declared.keys.Key.{Key}
use Rattle.qz_types.specs.declared.limits.TheConstants.{NUMBER_LIMIT, TRIGGER_LIMIT}
use Rattle.qz_types.specs.declared.triggers.TriggerSpec.{TriggerSpec}
use Rattle.qz_types.specs.declared.triggers.TriggerState.{TriggerState}
use Rattle.qz_types.specs.declared.replies.Reply.TheVariants.{Done, Added, Triggered}
use Rattle.qz_types.specs.declared.replies.Refusal.{Refusal}
use Rattle.qz_types.specs.declared.replies.Refusal.TheVariants.{ReservedGroup, UnknownJob, UnknownTrigger, UnknownCalendar, UnknownZone, TriggerExists, NeverFires, TooMany}
use Rattle.qz_types.specs.Changes.{without_acquired}
use Rattle.qz_types.specs.States.{first_state}
use Rattle.qz_types.specs.Tables.{SchedulerTables}
use Rattle.qz_types.specs.Outcomes.{Outcome, accepted, unless}
use Rattle.qz_types.specs.Words.{same_text, job_of, trigger_of, put_trigger, without_trigger, is_paused}
use Rattle.qz_model.specs.Executions.{is_busy}
use Rattle.qz_model.specs.Jobs.{without_orphan_of}
use Rattle.qz_model.specs.Plan.{zone_named_by, is_known_zone_name, is_known_calendar, first_time}
use Rattle.qz_model.specs.Tests.{refuse_if, or_refusal, is_row_of_trigger}

-- the groups in which the scheduler itself adds triggers
unfoldable pub is_reserved : List ℕ → Bool
is_reserved group = same_text group (codes "RECOVERING_JOBS") || same_text group (codes "MANUAL_TRIGGERS")

-- the trigger is paused with its group, or with the group of its job
unfoldable pub is_in_paused : SchedulerTables → TriggerSpec → Bool
is_in_paused T s = is_paused s.key.group T.paused_groups || is_paused s.job.group T.paused_job_groups

-- the state of a trigger that is stored now
unfoldable pub new_state : SchedulerTables → TriggerSpec → TriggerState
new_state T s = first_state (is_in_paused T s) (is_busy s.job T.fired)

-- a trigger that hasn't fired yet
unfoldable pub new_trigger : SchedulerTables → TriggerSpec → Option ℤ → TriggerData
new_trigger T s next = record {
  spec = s;
  next = next;
  prev = None;
  times = 0;
  state = new_state T s;
}

-- AddTrigger.

-- what the trigger names can't be named
unfoldable pub naming_refusal : SchedulerTables → TriggerSpec → Option Refusal
naming_refusal T s =
    refuse_if (is_reserved s.key.group) ReservedGroup
    (refuse_if (is_none (job_of s.job T.jobs)) UnknownJob
    (refuse_if (not (is_known_calendar T.calendars s.calendar)) UnknownCalendar
    (refuse_if (not (is_known_zone_name T.zones (zone_named_by s.timing.kind))) UnknownZone None)))

unfoldable pub add_trigger_refusal : SchedulerTables → TriggerSpec → Bool → Option Refusal
add_trigger_refusal T s replace = or_refusal (naming_refusal T s)
    (refuse_if (is_some (trigger_of s.key T.triggers) && not replace) TriggerExists
    (refuse_if (is_none (first_time T s)) NeverFires
    (refuse_if (is_none (trigger_of s.key T.triggers) && nat_le TRIGGER_LIMIT (length T.triggers)) (TooMany TRIGGER_LIMIT) None)))

-- the jobs, without that of the trigger that was replaced, if it is an orphan then
abbrev pub without_old_orphan : Option TriggerData → List TriggerData → List JobData → List JobData
without_old_orphan None triggers jobs = jobs
without_old_orphan (Some old) triggers jobs = without_orphan_of old.spec.job triggers jobs

-- the trigger is stored, in place of one of its key
unfoldable pub with_new_trigger : SchedulerTables → TriggerData → SchedulerTables
with_new_trigger T t = record T {
  triggers = put_trigger t (without_trigger t.spec.key T.triggers);
  fired = without_acquired (is_row_of_trigger t.spec.key) T.fired;
  jobs = without_old_orphan (trigger_of t.spec.key T.triggers) (put_trigger t (without_trigger t.spec.key T.triggers)) T.jobs;
}

abbrev pub add_trigger : SchedulerTables → ℤ → TriggerSpec → Bool → Outcome
add_trigger T m s replace = unless (add_trigger_refusal T s replace)
    (accepted (record (with_new_trigger T (new_trigger T s (first_time T s))) { last_moment = m }) (Added (unwrap_or (first_time T s) (pos 0))))

-- DeleteTrigger.

abbrev pub unknown_trigger : Option TriggerData → Option Refusal
unknown_trigger None = Some UnknownTrigger
unknown_trigger (Some t) = None

-- the tables without the trigger, if there is one, its acquired row, and its job if that is an orphan then
unfoldable pub without_trigger_and_orphan : SchedulerTables → Option TriggerData → SchedulerTables
without_trigger_and_orphan T None = T
without_trigger_and_orphan T (Some t) = record T {
  triggers = without_trigger t.spec.key T.triggers;
  fired = without_acquired (is_row_of_trigger t.spec.key) T.fired;
  jobs = without_orphan_of t.spec.job (without_trigger t.spec.key T.triggers) T.jobs;
}

abbrev pub delete_trigger : SchedulerTables → ℤ → Key → Outcome
delete_trigger T m key = unless (unknown_trigger (trigger_of key T.triggers))
    (accepted (record (without_trigger_and_orphan T (trigger_of key T.triggers)) { last_moment = m }) Done)

-- TriggerNow.

-- fires once, at m
unfoldable pub manual_trigger : ℤ → ℕ → Key → TriggerSpec
manual_trigger m entry job = record {
  key = record { group = codes "MANUAL_TRIGGERS"; name = codes "now_" ++ decimal entry };
  job = job;
  priority = pos 5;
  calendar = None;
  timing = record { kind = Simple (pos 0) (pos 0); misfire = pos 0; start = m; end = None };
}

unfoldable pub trigger_now_refusal : SchedulerTables → Key → Option Refusal
trigger_now_refusal T job =
    refuse_if (is_none (job_of job T.jobs)) UnknownJob
    (refuse_if (nat_le TRIGGER_LIMIT (length T.triggers)) (TooMany TRIGGER_LIMIT)
    (refuse_if (nat_lt NUMBER_LIMIT (T.next_entry + 1)) (TooMany NUMBER_LIMIT) None))

-- a trigger is added that takes the next entry number for its name
abbrev pub trigger_now : SchedulerTables → ℤ → Key → Outcome
trigger_now T m job = unless (trigger_now_refusal T job)
    (accepted (record T {
      triggers = put_trigger (new_trigger T (manual_trigger m T.next_entry job) (Some m)) T.triggers;
      next_entry = T.next_entry + 1;
      last_moment = m;
    }) (Triggered (manual_trigger m T.next_entry job).key m))

-- Threshold.

abbrev pub set_threshold : SchedulerTables → ℤ → ℤ → Outcome
set_threshold T m ms = accepted (record T { threshold = ms; last_moment = m }) Done
