-- The commands of clients lose no execution and add no recovery.
use Rattle.std.proofs.Common.{◌≡◌, ℕ, ℤ, Bool, true, false, ◌||◌, List, codes, Some, None, refl, subst, arith}
use Rattle.qz_types.specs.Rows.{JobData, TriggerData, CalendarData, ZoneData}
use Rattle.qz_types.specs.declared.keys.Key.{Key}
use Rattle.qz_types.specs.declared.triggers.TriggerSpec.{TriggerSpec}
use Rattle.qz_types.specs.declared.replies.Reply.{Reply}
use Rattle.qz_types.specs.Changes.{with_state}
use Rattle.qz_types.specs.States.{paused, resumed}
use Rattle.qz_types.specs.Tables.{SchedulerTables}
use Rattle.qz_types.specs.Outcomes.{accepted}
use Rattle.qz_types.specs.Words.{same_text, job_of, trigger_of, without_trigger}
use Rattle.qz_model.specs.Calendars.{add_calendar_refusal, add_calendar, delete_calendar_refusal, delete_calendar, add_zone_refusal, add_zone, delete_zone_refusal, delete_zone}
use Rattle.qz_model.specs.Invariant.{TablesValid}
use Rattle.qz_model.specs.Jobs.{add_job_refusal, add_job, unknown_job, delete_job}
use Rattle.qz_model.specs.Pausing.{pause_trigger, resume_trigger, is_in_group, is_row_of_group, pause_group_refusal, pause_group, is_resumed_with_group, resume_group, is_in_job_group, is_row_of_job_group, pause_job_group_refusal, pause_job_group, is_resumed_with_job_group, resume_job_group}
use Rattle.qz_model.specs.Plan.{first_time}
use Rattle.qz_model.specs.Resetting.{reset_refusal, reset, reset_trigger}
use Rattle.qz_model.specs.Tests.{is_trigger_of, is_row_of_job, is_row_of_trigger}
use Rattle.qz_model.specs.Triggers.{is_reserved, new_trigger, naming_refusal, add_trigger_refusal, with_new_trigger, add_trigger, unknown_trigger, without_trigger_and_orphan, delete_trigger, manual_trigger, trigger_now_refusal, trigger_now, set_threshold}
use Rattle.qz_model.specs.Upgrading.{widened_trigger, upgrade_refusal, upgrade}
use Rattle.qz_model.proofs.Changes.{passes}
use Rattle.qz_model.proofs.Refusals.{not_refused, no_first}
use Rattle.qz_model.proofs.RowLaws.{All-put_trigger, All-without_trigger}
use Rattle.qz_model.proofs.RowPoints.{All-left, All-map}
use Rattle.qz_laws.proofs.Quiet.{is_in_recovery, WasStored, Quiet, were_stored, all_stood, steady, same, accepted_quiet}
use Rattle.qz_laws.proofs.QuietChanges.{stored-with_trigger, stored-with_states, stood-without_acquired, quiet-without_trigger, at_moment}

-- Jobs.

pub quiet-add_job : (T T' : SchedulerTables) (m : ℤ) (job : JobData) (replace : Bool) (r : Reply) → TablesValid T → add_job T m job replace ≡ accepted T' r → Quiet T r T'
quiet-add_job T T' m job replace r valid e = accepted_quiet T _ T' _ r (passes (add_job_refusal T job replace) _ T' r e).outcome (same T _ _ valid refl refl refl refl refl)

pub quiet-delete_job : (T T' : SchedulerTables) (m : ℤ) (key : Key) (r : Reply) → TablesValid T → delete_job T m key ≡ accepted T' r → Quiet T r T'
quiet-delete_job T T' m key r valid e =
    accepted_quiet T _ T' _ r (passes (unknown_job (job_of key T.jobs)) _ T' r e).outcome
    (steady T _ _ refl refl refl (stood-without_acquired T _ (is_row_of_job key) T.fired (all_stood T _ valid))
    (All-left (WasStored T) (WasStored T) (is_trigger_of key) T.triggers (were_stored T valid) (λ t left was. was)))

-- Triggers.

-- a client's group isn't that of recoveries
not_recovering : (t : TriggerData) → is_reserved t.spec.key.group ≡ false → is_in_recovery t ≡ true → ⊥
unfolding is_reserved
not_recovering t client is = let wrong : (true || same_text t.spec.key.group (codes "MANUAL_TRIGGERS")) ≡ false = subst (λ b. (b || same_text t.spec.key.group (codes "MANUAL_TRIGGERS")) ≡ false) is client in absurd (cc)

client_group : (T : SchedulerTables) (s : TriggerSpec) (replace : Bool) → add_trigger_refusal T s replace ≡ None → is_reserved s.key.group ≡ false
unfolding add_trigger_refusal naming_refusal
client_group T s replace clear = (not_refused (is_reserved s.key.group) _ _ (no_first (naming_refusal T s) _ clear).0).0

quiet-new_trigger : (T : SchedulerTables) (r : Reply) (m : ℤ) (t : TriggerData) → TablesValid T → is_reserved t.spec.key.group ≡ false → Quiet T r (record (with_new_trigger T t) { last_moment = m })
unfolding with_new_trigger
quiet-new_trigger T r m t valid client =
    steady T _ _ refl refl refl (stood-without_acquired T _ (is_row_of_trigger t.spec.key) T.fired (all_stood T _ valid))
    (All-put_trigger (WasStored T) t (without_trigger t.spec.key T.triggers) (λ is. absurd (not_recovering t client is))
    (All-without_trigger (WasStored T) (WasStored T) t.spec.key T.triggers (were_stored T valid) (λ u differ was. was)))

pub quiet-add_trigger : (T T' : SchedulerTables) (m : ℤ) (s : TriggerSpec) (replace : Bool) (r : Reply) → TablesValid T → add_trigger T m s replace ≡ accepted T' r → Quiet T r T'
unfolding new_trigger
quiet-add_trigger T T' m s replace r valid e =
    let way = passes (add_trigger_refusal T s replace) _ T' r e in
    accepted_quiet T _ T' _ r way.outcome (quiet-new_trigger T _ m (new_trigger T s (first_time T s)) valid (client_group T s replace way.clear))

pub quiet-delete_trigger : (T T' : SchedulerTables) (m : ℤ) (key : Key) (r : Reply) → TablesValid T → delete_trigger T m key ≡ accepted T' r → Quiet T r T'
quiet-delete_trigger T T' m key r valid e =
    accepted_quiet T _ T' _ r (passes (unknown_trigger (trigger_of key T.triggers)) _ T' r e).outcome
    (at_moment T _ (without_trigger_and_orphan T (trigger_of key T.triggers)) m (quiet-without_trigger T _ T (trigger_of key T.triggers) (same T _ T valid refl refl refl refl refl)))

-- a manual trigger is in a group of its own
manual_other : (m : ℤ) (entry : ℕ) (job : Key) → same_text (manual_trigger m entry job).key.group (codes "RECOVERING_JOBS") ≡ false
unfolding manual_trigger same_text
manual_other m entry job = refl

pub quiet-trigger_now : (T T' : SchedulerTables) (m : ℤ) (job : Key) (r : Reply) → TablesValid T → trigger_now T m job ≡ accepted T' r → Quiet T r T'
unfolding new_trigger
quiet-trigger_now T T' m job r valid e =
    accepted_quiet T _ T' _ r (passes (trigger_now_refusal T job) _ T' r e).outcome (record {
      next_entry = omega arith;
      origins = all_stood T _ valid;
      triggers = All-put_trigger (WasStored T) (new_trigger T (manual_trigger m T.next_entry job) (Some m)) T.triggers (λ is. let other = manual_other m T.next_entry job in absurd (cc)) (were_stored T valid);
      next_epoch = omega arith;
      members = λ me below none. none;
    })

pub quiet-set_threshold : (T T' : SchedulerTables) (m ms : ℤ) (r : Reply) → TablesValid T → set_threshold T m ms ≡ accepted T' r → Quiet T r T'
quiet-set_threshold T T' m ms r valid e = accepted_quiet T _ T' _ r e (same T _ _ valid refl refl refl refl refl)

-- Pausing.

pub quiet-pause_trigger : (T T' : SchedulerTables) (m : ℤ) (key : Key) (r : Reply) → TablesValid T → pause_trigger T m key ≡ accepted T' r → Quiet T r T'
quiet-pause_trigger T T' m key r valid e =
    accepted_quiet T _ T' _ r (passes (unknown_trigger (trigger_of key T.triggers)) _ T' r e).outcome
    (steady T _ _ refl refl refl (stood-without_acquired T _ (is_row_of_trigger key) T.fired (all_stood T _ valid))
    (stored-with_trigger T key (with_state paused) T.triggers (λ t. refl) (were_stored T valid)))

pub quiet-resume_trigger : (T T' : SchedulerTables) (m : ℤ) (key : Key) (r : Reply) → TablesValid T → resume_trigger T m key ≡ accepted T' r → Quiet T r T'
quiet-resume_trigger T T' m key r valid e =
    accepted_quiet T _ T' _ r (passes (unknown_trigger (trigger_of key T.triggers)) _ T' r e).outcome
    (steady T _ _ refl refl refl (all_stood T _ valid) (stored-with_trigger T key (with_state resumed) T.triggers (λ t. refl) (were_stored T valid)))

pub quiet-pause_group : (T T' : SchedulerTables) (m : ℤ) (group : List ℕ) (r : Reply) → TablesValid T → pause_group T m group ≡ accepted T' r → Quiet T r T'
quiet-pause_group T T' m group r valid e =
    accepted_quiet T _ T' _ r (passes (pause_group_refusal T group) _ T' r e).outcome
    (steady T _ _ refl refl refl (stood-without_acquired T _ (is_row_of_group group) T.fired (all_stood T _ valid))
    (stored-with_states T paused (is_in_group group) T.triggers (were_stored T valid)))

pub quiet-resume_group : (T T' : SchedulerTables) (m : ℤ) (group : List ℕ) (r : Reply) → TablesValid T → resume_group T m group ≡ accepted T' r → Quiet T r T'
quiet-resume_group T T' m group r valid e =
    accepted_quiet T _ T' _ r e (steady T _ _ refl refl refl (all_stood T _ valid) (stored-with_states T resumed (is_resumed_with_group T group) T.triggers (were_stored T valid)))

pub quiet-pause_job_group : (T T' : SchedulerTables) (m : ℤ) (group : List ℕ) (r : Reply) → TablesValid T → pause_job_group T m group ≡ accepted T' r → Quiet T r T'
quiet-pause_job_group T T' m group r valid e =
    accepted_quiet T _ T' _ r (passes (pause_job_group_refusal T group) _ T' r e).outcome
    (steady T _ _ refl refl refl (stood-without_acquired T _ (is_row_of_job_group group) T.fired (all_stood T _ valid))
    (stored-with_states T paused (is_in_job_group group) T.triggers (were_stored T valid)))

pub quiet-resume_job_group : (T T' : SchedulerTables) (m : ℤ) (group : List ℕ) (r : Reply) → TablesValid T → resume_job_group T m group ≡ accepted T' r → Quiet T r T'
quiet-resume_job_group T T' m group r valid e =
    accepted_quiet T _ T' _ r e (steady T _ _ refl refl refl (all_stood T _ valid) (stored-with_states T resumed (is_resumed_with_job_group T group) T.triggers (were_stored T valid)))

-- Resetting and upgrading.

pub quiet-reset_trigger : (T T' : SchedulerTables) (m : ℤ) (key : Key) (r : Reply) → TablesValid T → reset_trigger T m key ≡ accepted T' r → Quiet T r T'
unfolding reset
quiet-reset_trigger T T' m key r valid e =
    accepted_quiet T _ T' _ r (passes (reset_refusal (trigger_of key T.triggers)) _ T' r e).outcome
    (steady T _ _ refl refl refl (all_stood T _ valid) (stored-with_trigger T key (reset T) T.triggers (λ t. refl) (were_stored T valid)))

pub quiet-upgrade : (T T' : SchedulerTables) (m : ℤ) (r : Reply) → TablesValid T → upgrade T m ≡ accepted T' r → Quiet T r T'
quiet-upgrade T T' m r valid e =
    accepted_quiet T _ T' _ r (passes (upgrade_refusal T) _ T' r e).outcome
    (steady T _ _ refl refl refl (all_stood T _ valid) (All-map (WasStored T) widened_trigger T.triggers (were_stored T valid)))

-- Calendars and zones.

pub quiet-add_calendar : (T T' : SchedulerTables) (m : ℤ) (c : CalendarData) (replace : Bool) (r : Reply) → TablesValid T → add_calendar T m c replace ≡ accepted T' r → Quiet T r T'
quiet-add_calendar T T' m c replace r valid e = accepted_quiet T _ T' _ r (passes (add_calendar_refusal T c replace) _ T' r e).outcome (same T _ _ valid refl refl refl refl refl)

pub quiet-delete_calendar : (T T' : SchedulerTables) (m : ℤ) (name : List ℕ) (r : Reply) → TablesValid T → delete_calendar T m name ≡ accepted T' r → Quiet T r T'
quiet-delete_calendar T T' m name r valid e = accepted_quiet T _ T' _ r (passes (delete_calendar_refusal T name) _ T' r e).outcome (same T _ _ valid refl refl refl refl refl)

pub quiet-add_zone : (T T' : SchedulerTables) (m : ℤ) (z : ZoneData) (r : Reply) → TablesValid T → add_zone T m z ≡ accepted T' r → Quiet T r T'
quiet-add_zone T T' m z r valid e = accepted_quiet T _ T' _ r (passes (add_zone_refusal T z) _ T' r e).outcome (same T _ _ valid refl refl refl refl refl)

pub quiet-delete_zone : (T T' : SchedulerTables) (m : ℤ) (name : List ℕ) (r : Reply) → TablesValid T → delete_zone T m name ≡ accepted T' r → Quiet T r T'
quiet-delete_zone T T' m name r valid e = accepted_quiet T _ T' _ r (passes (delete_zone_refusal T name) _ T' r e).outcome (same T _ _ valid refl refl refl refl refl)
