-- The commands of clients on jobs and triggers keep the next time of a trigger that they don't replace.
use Rattle.std.proofs.Common.{◌≡◌, ℕ, ◌+◌, ◌≤◌, ℤ, Bool, false, List, length, nat_le, nat_lt, Option, Some, None, IsTrue, is_none, refl, sym, ◌∙◌, subst, arith}
use Rattle.std.proofs.lemmas.Bool.{ltb-false}
use Rattle.qz_civil.specs.Timings.{is_timing}
use Rattle.qz_types.specs.Rows.{JobData, TriggerData}
use Rattle.qz_types.specs.declared.keys.Key.{Key}
use Rattle.qz_types.specs.declared.limits.TheConstants.{TRIGGER_LIMIT, NUMBER_LIMIT}
use Rattle.qz_types.specs.declared.triggers.TriggerSpec.{TriggerSpec}
use Rattle.qz_types.specs.declared.commands.Command.{Command}
use Rattle.qz_types.specs.declared.replies.Reply.{Reply}
use Rattle.qz_types.specs.declared.replies.Refusal.TheVariants.{UnknownJob, TooMany}
use Rattle.qz_types.specs.Changes.{with_state}
use Rattle.qz_types.specs.States.{paused, resumed}
use Rattle.qz_types.specs.Tables.{SchedulerTables, IsMoment}
use Rattle.qz_types.specs.Outcomes.{accepted}
use Rattle.qz_types.specs.Words.{same_key, job_of, trigger_of, without_trigger}
use Rattle.qz_model.specs.Invariant.{TablesValid}
use Rattle.qz_model.specs.Jobs.{add_job_refusal, add_job, unknown_job, delete_job}
use Rattle.qz_model.specs.Pausing.{pause_trigger, resume_trigger, is_in_group, pause_group_refusal, pause_group, is_resumed_with_group, resume_group, is_in_job_group, pause_job_group_refusal, pause_job_group, is_resumed_with_job_group, resume_job_group}
use Rattle.qz_model.specs.Plan.{first_time}
use Rattle.qz_model.specs.Resetting.{reset_refusal, reset, reset_trigger}
use Rattle.qz_model.specs.Tests.{is_trigger_of}
use Rattle.qz_model.specs.Triggers.{new_trigger, add_trigger_refusal, with_new_trigger, add_trigger, unknown_trigger, without_trigger_and_orphan, delete_trigger, manual_trigger, trigger_now_refusal, trigger_now, set_threshold}
use Rattle.qz_model.proofs.Changes.{passes}
use Rattle.qz_model.proofs.KeptTriggers.{manual_absent}
use Rattle.qz_model.proofs.NextTimes.{moment_up_to_last}
use Rattle.qz_model.proofs.Refusals.{not_refused}
use Rattle.qz_model.proofs.RowLaws.{trigger_of-alike, All-put_trigger, All-without_trigger}
use Rattle.qz_model.proofs.RowPoints.{All-left}
use Rattle.qz_schedule_law.proofs.Once.{manual_timing, manual_first}
use Rattle.qz_schedule_law.proofs.Stays.{IsFrom, IsAsBefore, Stays, TurnFacts, accepted_stays, as_before, same_triggers, before-with_trigger, before-with_states, stays-without_trigger, stays-moment}

-- Jobs.

pub facts-add_job : (T T' : SchedulerTables) (key : Key) (c : Command) (m : ℤ) (job : JobData) (replace : Bool) (r : Reply) → TablesValid T → add_job T m job replace ≡ accepted T' r → TurnFacts T key c r T'
facts-add_job T T' key c m job replace r valid e = accepted_stays T _ T' key c _ r (passes (add_job_refusal T job replace) _ T' r e).outcome refl (same_triggers T key _ valid refl refl refl refl)

pub facts-delete_job : (T T' : SchedulerTables) (key : Key) (c : Command) (m : ℤ) (job : Key) (r : Reply) → TablesValid T → delete_job T m job ≡ accepted T' r → TurnFacts T key c r T'
facts-delete_job T T' key c m job r valid e =
    accepted_stays T _ T' key c _ r (passes (unknown_job (job_of job T.jobs)) _ T' r e).outcome refl
    (record { triggers = All-left (IsAsBefore T key) (IsAsBefore T key) (is_trigger_of job) T.triggers (as_before T key valid) (λ t left is. is); calendars = refl; zones = refl; horizon = refl })

-- Triggers.

-- one of another key
other_key : (T : SchedulerTables) (key : Key) (u : TriggerData) → same_key key u.spec.key ≡ false → IsAsBefore T key u
other_key T key u differ same = absurd (cc)

-- or of a key that wasn't stored
pub new_key : (T : SchedulerTables) (key : Key) (u : TriggerData) → trigger_of u.spec.key T.triggers ≡ None → u.next ≡ first_time T u.spec → IsTrue (is_timing u.spec.timing) → IsAsBefore T key u
new_key T key u absent first timing same = subst (λ (o : Option TriggerData). IsFrom T o u) (sym (trigger_of-alike key u.spec.key T.triggers same ∙ absent)) (first, timing)

stays-new_trigger : (T : SchedulerTables) (key : Key) (m : ℤ) (u : TriggerData) → TablesValid T → same_key key u.spec.key ≡ false → Stays T key (record (with_new_trigger T u) { last_moment = m })
unfolding with_new_trigger
stays-new_trigger T key m u valid differ = record {
  triggers = All-put_trigger (IsAsBefore T key) u (without_trigger u.spec.key T.triggers) (other_key T key u differ)
      (All-without_trigger (IsAsBefore T key) (IsAsBefore T key) u.spec.key T.triggers (as_before T key valid) (λ v left is. is));
  calendars = refl;
  zones = refl;
  horizon = refl;
}

pub facts-add_trigger : (T T' : SchedulerTables) (key : Key) (c : Command) (m : ℤ) (s : TriggerSpec) (replace : Bool) (r : Reply) → TablesValid T → same_key key s.key ≡ false → add_trigger T m s replace ≡ accepted T' r → TurnFacts T key c r T'
unfolding new_trigger
facts-add_trigger T T' key c m s replace r valid differ e =
    accepted_stays T _ T' key c _ r (passes (add_trigger_refusal T s replace) _ T' r e).outcome refl (stays-new_trigger T key m (new_trigger T s (first_time T s)) valid differ)

pub facts-delete_trigger : (T T' : SchedulerTables) (key : Key) (c : Command) (m : ℤ) (k : Key) (r : Reply) → TablesValid T → delete_trigger T m k ≡ accepted T' r → TurnFacts T key c r T'
facts-delete_trigger T T' key c m k r valid e =
    accepted_stays T _ T' key c _ r (passes (unknown_trigger (trigger_of k T.triggers)) _ T' r e).outcome refl
    (stays-moment T key (without_trigger_and_orphan T (trigger_of k T.triggers)) m (stays-without_trigger T key T (trigger_of k T.triggers) (same_triggers T key T valid refl refl refl refl)))

manual_room : (T : SchedulerTables) (job : Key) → trigger_now_refusal T job ≡ None → T.next_entry + 1 ≤ NUMBER_LIMIT
unfolding trigger_now_refusal
manual_room T job clear =
    let stored = not_refused (is_none (job_of job T.jobs)) UnknownJob _ clear in
    let full = not_refused (nat_le TRIGGER_LIMIT (length T.triggers)) (TooMany TRIGGER_LIMIT) _ stored.1 in
    let spent = not_refused (nat_lt NUMBER_LIMIT (T.next_entry + 1)) (TooMany NUMBER_LIMIT) None full.1 in
    omega (arith, ltb-false NUMBER_LIMIT (T.next_entry + 1) spent.0)

pub facts-trigger_now : (T T' : SchedulerTables) (key : Key) (c : Command) (m : ℤ) (job : Key) (r : Reply) → TablesValid T → IsMoment T.horizon m → trigger_now T m job ≡ accepted T' r → TurnFacts T key c r T'
unfolding new_trigger
facts-trigger_now T T' key c m job r valid is e =
    let way = passes (trigger_now_refusal T job) _ T' r e in
    accepted_stays T _ T' key c _ r way.outcome refl (record {
      triggers = All-put_trigger (IsAsBefore T key) (new_trigger T (manual_trigger m T.next_entry job) (Some m)) T.triggers
          (new_key T key (new_trigger T (manual_trigger m T.next_entry job) (Some m)) (manual_absent T m job valid (manual_room T job way.clear)) (manual_first T m T.next_entry job valid is) (manual_timing m T.next_entry job (moment_up_to_last T m valid is)))
          (as_before T key valid);
      calendars = refl;
      zones = refl;
      horizon = refl;
    })

pub facts-set_threshold : (T T' : SchedulerTables) (key : Key) (c : Command) (m ms : ℤ) (r : Reply) → TablesValid T → set_threshold T m ms ≡ accepted T' r → TurnFacts T key c r T'
facts-set_threshold T T' key c m ms r valid e = accepted_stays T _ T' key c _ r e refl (same_triggers T key _ valid refl refl refl refl)

-- Pausing.

pub facts-pause_trigger : (T T' : SchedulerTables) (key : Key) (c : Command) (m : ℤ) (k : Key) (r : Reply) → TablesValid T → pause_trigger T m k ≡ accepted T' r → TurnFacts T key c r T'
facts-pause_trigger T T' key c m k r valid e =
    accepted_stays T _ T' key c _ r (passes (unknown_trigger (trigger_of k T.triggers)) _ T' r e).outcome refl
    (record { triggers = before-with_trigger T key k (with_state paused) T.triggers (λ t. refl) (λ t. refl) (as_before T key valid); calendars = refl; zones = refl; horizon = refl })

pub facts-resume_trigger : (T T' : SchedulerTables) (key : Key) (c : Command) (m : ℤ) (k : Key) (r : Reply) → TablesValid T → resume_trigger T m k ≡ accepted T' r → TurnFacts T key c r T'
facts-resume_trigger T T' key c m k r valid e =
    accepted_stays T _ T' key c _ r (passes (unknown_trigger (trigger_of k T.triggers)) _ T' r e).outcome refl
    (record { triggers = before-with_trigger T key k (with_state resumed) T.triggers (λ t. refl) (λ t. refl) (as_before T key valid); calendars = refl; zones = refl; horizon = refl })

pub facts-pause_group : (T T' : SchedulerTables) (key : Key) (c : Command) (m : ℤ) (group : List ℕ) (r : Reply) → TablesValid T → pause_group T m group ≡ accepted T' r → TurnFacts T key c r T'
facts-pause_group T T' key c m group r valid e =
    accepted_stays T _ T' key c _ r (passes (pause_group_refusal T group) _ T' r e).outcome refl
    (record { triggers = before-with_states T key paused (is_in_group group) T.triggers (as_before T key valid); calendars = refl; zones = refl; horizon = refl })

pub facts-resume_group : (T T' : SchedulerTables) (key : Key) (c : Command) (m : ℤ) (group : List ℕ) (r : Reply) → TablesValid T → resume_group T m group ≡ accepted T' r → TurnFacts T key c r T'
facts-resume_group T T' key c m group r valid e =
    accepted_stays T _ T' key c _ r e refl
    (record { triggers = before-with_states T key resumed (is_resumed_with_group T group) T.triggers (as_before T key valid); calendars = refl; zones = refl; horizon = refl })

pub facts-pause_job_group : (T T' : SchedulerTables) (key : Key) (c : Command) (m : ℤ) (group : List ℕ) (r : Reply) → TablesValid T → pause_job_group T m group ≡ accepted T' r → TurnFacts T key c r T'
facts-pause_job_group T T' key c m group r valid e =
    accepted_stays T _ T' key c _ r (passes (pause_job_group_refusal T group) _ T' r e).outcome refl
    (record { triggers = before-with_states T key paused (is_in_job_group group) T.triggers (as_before T key valid); calendars = refl; zones = refl; horizon = refl })

pub facts-resume_job_group : (T T' : SchedulerTables) (key : Key) (c : Command) (m : ℤ) (group : List ℕ) (r : Reply) → TablesValid T → resume_job_group T m group ≡ accepted T' r → TurnFacts T key c r T'
facts-resume_job_group T T' key c m group r valid e =
    accepted_stays T _ T' key c _ r e refl
    (record { triggers = before-with_states T key resumed (is_resumed_with_job_group T group) T.triggers (as_before T key valid); calendars = refl; zones = refl; horizon = refl })

-- A reset.

pub facts-reset_trigger : (T T' : SchedulerTables) (key : Key) (c : Command) (m : ℤ) (k : Key) (r : Reply) → TablesValid T → reset_trigger T m k ≡ accepted T' r → TurnFacts T key c r T'
unfolding reset
facts-reset_trigger T T' key c m k r valid e =
    accepted_stays T _ T' key c _ r (passes (reset_refusal (trigger_of k T.triggers)) _ T' r e).outcome refl
    (record { triggers = before-with_trigger T key k (reset T) T.triggers (λ t. refl) (λ t. refl) (as_before T key valid); calendars = refl; zones = refl; horizon = refl })
