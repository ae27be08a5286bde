-- What the changes of a command come to, one after the other.
use Rattle.std.proofs.Common.{◌≡◌, ℕ, ◌+◌, ℤ, pos, not, Bool, List, length, filter, Option, Some, None, unwrap_or, sym, ap, ◌∙◌, subst}
use Rattle.qz_types.specs.Rows.{TriggerData}
use Rattle.qz_types.specs.declared.keys.Key.{Key}
use Rattle.qz_types.specs.declared.replies.Reply.TheVariants.{Added, Deleted, Triggered}
use Rattle.qz_types.specs.declared.triggers.TriggerSpec.{TriggerSpec}
use Rattle.qz_types.specs.Changes.{without_acquired}
use Rattle.qz_types.specs.Outcomes.{accepted, unless}
use Rattle.qz_types.specs.Tables.{SchedulerTables}
use Rattle.qz_types.specs.Words.{same_key, job_of, without_job, trigger_of, put_trigger, without_trigger}
use Rattle.qz_model.specs.Jobs.{unknown_job, delete_job, without_orphan_of}
use Rattle.qz_model.specs.Plan.{first_time}
use Rattle.qz_model.specs.Tests.{is_trigger_of, is_row_of_job, is_row_of_trigger}
use Rattle.qz_model.specs.Triggers.{new_trigger, add_trigger_refusal, without_old_orphan, with_new_trigger, add_trigger, manual_trigger, trigger_now_refusal, trigger_now}
use Rattle.qz_apply.proofs.Accepted.{same_outcome}
use Rattle.qz_schedule.proofs.Facts.{new_spec, new_next}

-- a job goes with its triggers and their acquired rows
pub job_deleted : (T U V W X : SchedulerTables) (m : ℤ) (key : Key) (count : ℕ) → unknown_job (job_of key T.jobs) ≡ None
    → U ≡ record T { fired = without_acquired (λ f. same_key key f.job) T.fired } → V ≡ record U { triggers = filter (λ t. not (same_key key t.spec.job)) U.triggers }
    → W ≡ record V { jobs = without_job key V.jobs } → X ≡ record W { last_moment = m } → count ≡ length (filter (λ t. same_key key t.spec.job) U.triggers)
    → delete_job T m key ≡ accepted X (Deleted count)
job_deleted T U V W X m key count known rows triggers job moment counted =
    let left : SchedulerTables = record T {
      jobs = without_job key T.jobs;
      triggers = filter (λ t. not (is_trigger_of key t)) T.triggers;
      fired = without_acquired (is_row_of_job key) T.fired;
      last_moment = m;
    } in
    let tables : X ≡ left = moment ∙ ap (λ (w : SchedulerTables). record w { last_moment = m })
    (job ∙ ap (λ (v : SchedulerTables). record v { jobs = without_job key v.jobs })
    (triggers ∙ ap (λ (u : SchedulerTables). record u { triggers = filter (λ t. not (same_key key t.spec.job)) u.triggers }) rows)) in
    let same : count ≡ length (filter (is_trigger_of key) T.triggers) = counted ∙ ap (λ (u : SchedulerTables). length (filter (λ t. same_key key t.spec.job) u.triggers)) rows in
    subst (λ x. unless x (accepted left (Deleted (length (filter (is_trigger_of key) T.triggers)))) ≡ accepted X (Deleted count)) (sym known)
    (same_outcome X left (Deleted count) (Deleted (length (filter (is_trigger_of key) T.triggers))) tables (ap (λ (n : ℕ). Deleted n) same))

-- the trigger is put in place of one of its key
trigger_put : (T U V W : SchedulerTables) (key : Key) (t : TriggerData) → key ≡ t.spec.key → U ≡ record T { triggers = without_trigger key T.triggers }
    → V ≡ record U { fired = without_acquired (λ f. same_key key f.trigger) U.fired } → W ≡ record V { triggers = put_trigger t V.triggers }
    → W ≡ record T { triggers = put_trigger t (without_trigger t.spec.key T.triggers); fired = without_acquired (is_row_of_trigger t.spec.key) T.fired }
trigger_put T U V W key t same gone row put =
    put ∙ ap (λ (v : SchedulerTables). record v { triggers = put_trigger t v.triggers })
    (row ∙ ap (λ (u : SchedulerTables). record u { fired = without_acquired (λ f. same_key key f.trigger) u.fired }) gone)
    ∙ ap (λ (k : Key). record T { triggers = put_trigger t (without_trigger k T.triggers); fired = without_acquired (is_row_of_trigger k) T.fired }) same

pub trigger_is_new : (T U V W : SchedulerTables) (key : Key) (t : TriggerData) → key ≡ t.spec.key → trigger_of key T.triggers ≡ None → U ≡ record T { triggers = without_trigger key T.triggers }
    → V ≡ record U { fired = without_acquired (λ f. same_key key f.trigger) U.fired } → W ≡ record V { triggers = put_trigger t V.triggers } → W ≡ with_new_trigger T t
unfolding with_new_trigger
trigger_is_new T U V W key t same none gone row put =
    let rows : List TriggerData = put_trigger t (without_trigger t.spec.key T.triggers) in
    let absent : trigger_of t.spec.key T.triggers ≡ None = subst (λ k. trigger_of k T.triggers ≡ None) same none in
    trigger_put T U V W key t same gone row put
    ∙ ap (λ (o : Option TriggerData). record T { triggers = rows; fired = without_acquired (is_row_of_trigger t.spec.key) T.fired; jobs = without_old_orphan o rows T.jobs }) (sym absent)

pub trigger_is_replaced : (T U V W X : SchedulerTables) (key job : Key) (t old : TriggerData) → key ≡ t.spec.key → job ≡ old.spec.job → trigger_of key T.triggers ≡ Some old
    → U ≡ record T { triggers = without_trigger key T.triggers } → V ≡ record U { fired = without_acquired (λ f. same_key key f.trigger) U.fired }
    → W ≡ record V { triggers = put_trigger t V.triggers } → X ≡ record W { jobs = without_orphan_of job W.triggers W.jobs } → X ≡ with_new_trigger T t
unfolding with_new_trigger
trigger_is_replaced T U V W X key job t old same of found gone row put orphan =
    let rows : List TriggerData = put_trigger t (without_trigger t.spec.key T.triggers) in
    let stored : trigger_of t.spec.key T.triggers ≡ Some old = subst (λ k. trigger_of k T.triggers ≡ Some old) same found in
    orphan ∙ ap (λ (w : SchedulerTables). record w { jobs = without_orphan_of job w.triggers w.jobs }) (trigger_put T U V W key t same gone row put)
    ∙ ap (λ (j : Key). record T { triggers = rows; fired = without_acquired (is_row_of_trigger t.spec.key) T.fired; jobs = without_orphan_of j rows T.jobs }) of
    ∙ ap (λ (o : Option TriggerData). record T { triggers = rows; fired = without_acquired (is_row_of_trigger t.spec.key) T.fired; jobs = without_old_orphan o rows T.jobs }) (sym stored)

-- the trigger is stored with its first time
pub trigger_added : (T U X : SchedulerTables) (m : ℤ) (replace : Bool) (row : TriggerData) (next : ℤ) → add_trigger_refusal T row.spec replace ≡ None → row ≡ new_trigger T row.spec (first_time T row.spec) → row.next ≡ Some next
    → U ≡ with_new_trigger T row → X ≡ record U { last_moment = m } → add_trigger T m row.spec replace ≡ accepted X (Added next)
trigger_added T U X m replace row next clear is time stored moment =
    let left : SchedulerTables = record (with_new_trigger T (new_trigger T row.spec (first_time T row.spec))) { last_moment = m } in
    let tables : X ≡ left = moment ∙ ap (λ (u : SchedulerTables). record u { last_moment = m }) (stored ∙ ap (with_new_trigger T) is) in
    let first : Some next ≡ first_time T row.spec = sym time ∙ ap (λ (t : TriggerData). t.next) is ∙ new_next T row.spec (first_time T row.spec) in
    subst (λ x. unless x (accepted left (Added (unwrap_or (first_time T row.spec) (pos 0)))) ≡ accepted X (Added next)) (sym clear)
    (same_outcome X left (Added next) (Added (unwrap_or (first_time T row.spec) (pos 0))) tables (ap (λ (o : Option ℤ). Added (unwrap_or o (pos 0))) first))

-- the manual trigger is stored, and takes a number
pub manual_stored : (T U V W : SchedulerTables) (m : ℤ) (row : TriggerData) (key : Key) → trigger_now_refusal T row.spec.job ≡ None → row ≡ new_trigger T (manual_trigger m T.next_entry row.spec.job) (Some m) → key ≡ row.spec.key
    → U ≡ record T { triggers = put_trigger row T.triggers } → V ≡ record U { next_entry = T.next_entry + 1 } → W ≡ record V { last_moment = m } → trigger_now T m row.spec.job ≡ accepted W (Triggered key m)
manual_stored T U V W m row key clear is named put number moment =
    let given : TriggerSpec = manual_trigger m T.next_entry row.spec.job in
    let left : SchedulerTables = record T { triggers = put_trigger (new_trigger T given (Some m)) T.triggers; next_entry = T.next_entry + 1; last_moment = m } in
    let tables : W ≡ left = moment ∙ ap (λ (v : SchedulerTables). record v { last_moment = m })
    (number ∙ ap (λ (u : SchedulerTables). record u { next_entry = T.next_entry + 1 })
    (put ∙ ap (λ (t : TriggerData). record T { triggers = put_trigger t T.triggers }) is)) in
    let same : key ≡ given.key = named ∙ ap (λ (t : TriggerData). t.spec.key) is ∙ ap (λ (s : TriggerSpec). s.key) (new_spec T given (Some m)) in
    subst (λ x. unless x (accepted left (Triggered given.key m)) ≡ accepted W (Triggered key m)) (sym clear)
    (same_outcome W left (Triggered key m) (Triggered given.key m) tables (ap (λ (k : Key). Triggered k m) same))
