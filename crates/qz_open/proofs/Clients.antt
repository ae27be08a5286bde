-- The commands of clients end no execution, and none begins by them.
use Rattle.std.proofs.Common.{◌≡◌, ℕ, ℤ, Bool, false, List, Option, Some, None, refl, sym, subst}
use Rattle.qz_types.specs.Rows.{JobData, TriggerData, CalendarData, ZoneData, FiredData}
use Rattle.qz_types.specs.Changes.{without_acquired}
use Rattle.qz_types.specs.States.{is_acquired}
use Rattle.qz_types.specs.Tables.{SchedulerTables}
use Rattle.qz_types.specs.Outcomes.{accepted}
use Rattle.qz_types.specs.Words.{job_of, trigger_of}
use Rattle.qz_types.specs.declared.keys.Key.{Key}
use Rattle.qz_types.specs.declared.commands.Actor.{Actor}
use Rattle.qz_types.specs.declared.commands.Command.{Command}
use Rattle.qz_types.specs.declared.triggers.TriggerSpec.{TriggerSpec}
use Rattle.qz_types.specs.declared.replies.Reply.{Reply}
use Rattle.qz_model.specs.Calendars.{add_calendar_refusal, add_calendar, delete_calendar_refusal, delete_calendar, add_zone_refusal, add_zone, delete_zone_refusal, delete_zone}
use Rattle.qz_model.specs.Jobs.{add_job_refusal, add_job, unknown_job, delete_job}
use Rattle.qz_model.specs.Pausing.{pause_trigger, resume_trigger, is_row_of_group, pause_group_refusal, pause_group, resume_group, pause_job_group, pause_job_group_refusal, resume_job_group, is_row_of_job_group}
use Rattle.qz_model.specs.Resetting.{reset_refusal, reset_trigger}
use Rattle.qz_model.specs.Upgrading.{upgrade, upgrade_refusal}
use Rattle.qz_model.specs.Tests.{is_row_of_job, is_row_of_trigger}
use Rattle.qz_model.specs.Triggers.{new_trigger, add_trigger_refusal, with_new_trigger, add_trigger, unknown_trigger, without_trigger_and_orphan, delete_trigger, trigger_now_refusal, trigger_now, set_threshold}
use Rattle.qz_model.specs.Plan.{first_time}
use Rattle.qz_model.proofs.Changes.{passes}
use Rattle.qz_open.proofs.Lists.{Has}
use Rattle.qz_open.proofs.Facts.{is_begun, ExecutionFacts, steady, accepted_facts}
use Rattle.qz_open.proofs.Rows.{in_without_acquired}

-- a deleted trigger takes its acquired row with it
pub in_without_trigger : (T : SchedulerTables) (o : Option TriggerData) (f : FiredData) → Has f T.fired → is_acquired f.state ≡ false → Has f (without_trigger_and_orphan T o).fired
unfolding without_trigger_and_orphan
in_without_trigger T None f has executes = has
in_without_trigger T (Some t) f has executes = in_without_acquired (is_row_of_trigger t.spec.key) T.fired f has executes

module _ (T T' : SchedulerTables) (who : Actor) (c : Command) (r : Reply) where
  -- where all fired rows stay
  all_stay : (U : SchedulerTables) (s : Reply) → accepted U s ≡ accepted T' r → is_begun s ≡ false → U.fired ≡ T.fired → ExecutionFacts T who c r T'
  all_stay U s is none rows = accepted_facts T U T' who c s r is (steady T who c s U none (λ f has executes. subst (Has f) (sym rows) has))

  -- where acquired ones go
  acquired_go : (U : SchedulerTables) (s : Reply) → accepted U s ≡ accepted T' r → is_begun s ≡ false → (q : FiredData → Bool) → U.fired ≡ without_acquired q T.fired → ExecutionFacts T who c r T'
  acquired_go U s is none q rows = accepted_facts T U T' who c s r is (steady T who c s U none (λ f has executes. subst (Has f) (sym rows) (in_without_acquired q T.fired f has executes)))

  pub facts-add_job : (m : ℤ) (job : JobData) (replace : Bool) → add_job T m job replace ≡ accepted T' r → ExecutionFacts T who c r T'
  facts-add_job m job replace e = all_stay _ _ (passes (add_job_refusal T job replace) _ T' r e).outcome refl refl

  pub facts-delete_job : (m : ℤ) (key : Key) → delete_job T m key ≡ accepted T' r → ExecutionFacts T who c r T'
  facts-delete_job m key e = acquired_go _ _ (passes (unknown_job (job_of key T.jobs)) _ T' r e).outcome refl (is_row_of_job key) refl

  rows-new_trigger : (t : TriggerData) → (with_new_trigger T t).fired ≡ without_acquired (is_row_of_trigger t.spec.key) T.fired
  unfolding with_new_trigger
  rows-new_trigger t = refl

  pub facts-add_trigger : (m : ℤ) (s : TriggerSpec) (replace : Bool) → add_trigger T m s replace ≡ accepted T' r → ExecutionFacts T who c r T'
  facts-add_trigger m s replace e =
      let t = new_trigger T s (first_time T s) in
      acquired_go _ _ (passes (add_trigger_refusal T s replace) _ T' r e).outcome refl (is_row_of_trigger t.spec.key) (rows-new_trigger t)

  pub facts-delete_trigger : (m : ℤ) (key : Key) → delete_trigger T m key ≡ accepted T' r → ExecutionFacts T who c r T'
  facts-delete_trigger m key e =
      accepted_facts T _ T' who c _ r (passes (unknown_trigger (trigger_of key T.triggers)) _ T' r e).outcome
      (steady T who c _ _ refl (λ f has executes. in_without_trigger T (trigger_of key T.triggers) f has executes))

  pub facts-trigger_now : (m : ℤ) (job : Key) → trigger_now T m job ≡ accepted T' r → ExecutionFacts T who c r T'
  facts-trigger_now m job e = all_stay _ _ (passes (trigger_now_refusal T job) _ T' r e).outcome refl refl

  pub facts-set_threshold : (m ms : ℤ) → set_threshold T m ms ≡ accepted T' r → ExecutionFacts T who c r T'
  facts-set_threshold m ms e = all_stay _ _ e refl refl

  pub facts-pause_trigger : (m : ℤ) (key : Key) → pause_trigger T m key ≡ accepted T' r → ExecutionFacts T who c r T'
  facts-pause_trigger m key e = acquired_go _ _ (passes (unknown_trigger (trigger_of key T.triggers)) _ T' r e).outcome refl (is_row_of_trigger key) refl

  pub facts-resume_trigger : (m : ℤ) (key : Key) → resume_trigger T m key ≡ accepted T' r → ExecutionFacts T who c r T'
  facts-resume_trigger m key e = all_stay _ _ (passes (unknown_trigger (trigger_of key T.triggers)) _ T' r e).outcome refl refl

  pub facts-pause_group : (m : ℤ) (group : List ℕ) → pause_group T m group ≡ accepted T' r → ExecutionFacts T who c r T'
  facts-pause_group m group e = acquired_go _ _ (passes (pause_group_refusal T group) _ T' r e).outcome refl (is_row_of_group group) refl

  pub facts-resume_group : (m : ℤ) (group : List ℕ) → resume_group T m group ≡ accepted T' r → ExecutionFacts T who c r T'
  facts-resume_group m group e = all_stay _ _ e refl refl

  pub facts-pause_job_group : (m : ℤ) (group : List ℕ) → pause_job_group T m group ≡ accepted T' r → ExecutionFacts T who c r T'
  facts-pause_job_group m group e = acquired_go _ _ (passes (pause_job_group_refusal T group) _ T' r e).outcome refl (is_row_of_job_group group) refl

  pub facts-resume_job_group : (m : ℤ) (group : List ℕ) → resume_job_group T m group ≡ accepted T' r → ExecutionFacts T who c r T'
  facts-resume_job_group m group e = all_stay _ _ e refl refl

  pub facts-reset_trigger : (m : ℤ) (key : Key) → reset_trigger T m key ≡ accepted T' r → ExecutionFacts T who c r T'
  facts-reset_trigger m key e = all_stay _ _ (passes (reset_refusal (trigger_of key T.triggers)) _ T' r e).outcome refl refl

  pub facts-upgrade : (m : ℤ) → upgrade T m ≡ accepted T' r → ExecutionFacts T who c r T'
  facts-upgrade m e = all_stay _ _ (passes (upgrade_refusal T) _ T' r e).outcome refl refl

  pub facts-add_calendar : (m : ℤ) (calendar : CalendarData) (replace : Bool) → add_calendar T m calendar replace ≡ accepted T' r → ExecutionFacts T who c r T'
  facts-add_calendar m calendar replace e = all_stay _ _ (passes (add_calendar_refusal T calendar replace) _ T' r e).outcome refl refl

  pub facts-delete_calendar : (m : ℤ) (name : List ℕ) → delete_calendar T m name ≡ accepted T' r → ExecutionFacts T who c r T'
  facts-delete_calendar m name e = all_stay _ _ (passes (delete_calendar_refusal T name) _ T' r e).outcome refl refl

  pub facts-add_zone : (m : ℤ) (zone : ZoneData) → add_zone T m zone ≡ accepted T' r → ExecutionFacts T who c r T'
  facts-add_zone m zone e = all_stay _ _ (passes (add_zone_refusal T zone) _ T' r e).outcome refl refl

  pub facts-delete_zone : (m : ℤ) (name : List ℕ) → delete_zone T m name ≡ accepted T' r → ExecutionFacts T who c r T'
  facts-delete_zone m name e = all_stay _ _ (passes (delete_zone_refusal T name) _ T' r e).outcome refl refl
