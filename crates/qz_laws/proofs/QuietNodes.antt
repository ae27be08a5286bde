-- What nodes do with triggers and executions of their own loses none and adds no recovery; nor does a node that leaves, or
-- one that joins under a name that no member has.
use Rattle.std.proofs.Common.{◌≡◌, ℕ, ◌==◌, ◌<◌, ℤ, ◌+ℤ◌, true, List, [], ◌∷◌, fold, Option, Some, None, is_some, inl, inr, refl, sym, ap, ◌∙◌, subst, arith}
use Rattle.std.specs.List.{AllByRecursion}
use Rattle.std.proofs.lemmas.Bool.{eqb-true}
use Rattle.qz_types.specs.Rows.{JobData, TriggerData, MemberData, FiredData}
use Rattle.qz_types.specs.declared.keys.Key.{Key}
use Rattle.qz_types.specs.declared.commands.Code.{Code}
use Rattle.qz_types.specs.declared.commands.Code.TheVariants.{Noop, ReExecuteJob, SetTriggerComplete, DeleteTrigger, SetAllJobTriggersComplete, SetTriggerError, SetAllJobTriggersError}
use Rattle.qz_types.specs.declared.triggers.TriggerState.{TriggerState}
use Rattle.qz_types.specs.declared.triggers.TriggerState.TheVariants as state
use Rattle.qz_types.specs.declared.replies.Reply.{Reply}
use Rattle.qz_types.specs.declared.replies.Reply.TheVariants as reply
use Rattle.qz_types.specs.Changes.{in_state, after_fire, begun, moved_trigger}
use Rattle.qz_types.specs.Tables.{SchedulerTables}
use Rattle.qz_types.specs.Outcomes.{accepted}
use Rattle.qz_types.specs.Words.{job_of, trigger_of, fired_of, with_fired}
use Rattle.qz_model.specs.Acquiring.{acquire_refusal, acquired_row, with_acquired, chosen, acquire, acquired_refusal, release_row, release}
use Rattle.qz_model.specs.Completing.{finished, with_trigger_ended, with_job_ended, with_code, without_execution, without_finished, completed, complete_refusal, complete_one, complete_row, complete}
use Rattle.qz_model.specs.Firing.{fire_refusal, fired_state, with_blocked, with_begun, following, fire_row, fire}
use Rattle.qz_model.specs.Invariant.{TablesValid}
use Rattle.qz_model.specs.Membership.{node_refusal}
use Rattle.qz_model.specs.Misfires.{misfired_triggers, move_of, with_moved, misfires}
use Rattle.qz_model.specs.Recovery.{with_new_member, joined, leave_refusal, leave}
use Rattle.qz_model.specs.Tests.{or_refusal, is_trigger_of, is_row_of_job, is_row_of_trigger, stored_job}
use Rattle.qz_model.proofs.Changes.{passes}
use Rattle.qz_model.proofs.RowLaws.{same_key-exact, job_of-key, each_fired, fired_of-entry, All-put_fired, All-with_fired, All-put_member, All-without_member}
use Rattle.qz_laws.proofs.Facts.{IsNot, Origin}
use Rattle.qz_laws.proofs.Quiet.{WasStored, Quiet, were_stored, all_stood, steady, same, accepted_quiet}
use Rattle.qz_laws.proofs.QuietChanges.{stored-with_trigger, stored-with_states, stored-with_blocked, stored-with_unblocked, stored-freed_by, stood-without_acquired, stood-without_fired, stood-without_siblings, stood-others, quiet-without_trigger, at_moment}

-- Acquire and Release.

quiet-with_acquired : (T : SchedulerTables) (r : Reply) (U : SchedulerTables) (me : MemberData) (t : TriggerData) → Quiet T r U → Quiet T r (with_acquired me U t)
unfolding with_acquired acquired_row
quiet-with_acquired T r U me t was = record {
  next_entry = omega (arith, was.next_entry);
  origins = All-put_fired (Origin T r) (acquired_row U.next_entry me t (stored_job t.spec.job U.jobs)) U.fired (inr (inl (record { acquired = refl; above = was.next_entry }))) was.origins;
  triggers = stored-with_trigger T t.spec.key (in_state state.Acquired) U.triggers (λ u. refl) was.triggers;
  next_epoch = was.next_epoch;
  members = was.members;
}

quiet-acquire_each : (T : SchedulerTables) (r : Reply) (U : SchedulerTables) (me : MemberData) (ts : List TriggerData) → Quiet T r U → Quiet T r (fold (with_acquired me) U ts)
quiet-acquire_each T r U me [] was = was
quiet-acquire_each T r U me (t ∷ ts) was = quiet-acquire_each T r (with_acquired me U t) me ts (quiet-with_acquired T r U me t was)

pub quiet-acquire : (T T' : SchedulerTables) (m : ℤ) (me : MemberData) (no_later window : ℤ) (max : ℕ) (r : Reply) → TablesValid T → acquire T m me no_later window max ≡ accepted T' r → Quiet T r T'
quiet-acquire T T' m me no_later window max r valid e =
    let ts = chosen T m (no_later +ℤ window) max in
    accepted_quiet T _ T' _ r (passes (or_refusal (node_refusal T me) (acquire_refusal T max)) _ T' r e).outcome
    (at_moment T _ (fold (with_acquired me) T ts) m (quiet-acquire_each T _ T me ts (same T _ T valid refl refl refl refl refl)))

quiet-release_row : (T T' : SchedulerTables) (m : ℤ) (me : MemberData) (o : Option FiredData) (r : Reply) → TablesValid T → release_row T m me o ≡ accepted T' r → Quiet T r T'
quiet-release_row T T' m me None r valid e = absurd (cc)
quiet-release_row T T' m me (Some f) r valid e =
    accepted_quiet T _ T' _ r (passes (acquired_refusal me f) _ T' r e).outcome
    (steady T _ _ refl refl refl (stood-without_fired T _ f.entry T.fired (all_stood T _ valid)) (stored-with_trigger T f.trigger (in_state state.Waiting) T.triggers (λ t. refl) (were_stored T valid)))

pub quiet-release : (T T' : SchedulerTables) (m : ℤ) (me : MemberData) (entry : ℕ) (r : Reply) → TablesValid T → release T m me entry ≡ accepted T' r → Quiet T r T'
quiet-release T T' m me entry r valid e = quiet-release_row T T' m me (fired_of entry T.fired) r valid (passes (node_refusal T me) _ T' r e).outcome

-- Fire.

-- the row of the execution that begins has the flags of the job that the reply hands out
begins_here : (T : SchedulerTables) (m : ℤ) (f g : FiredData) (job : JobData) (next : Option ℤ) → job.key ≡ f.job → fired_of f.entry T.fired ≡ Some f → (f.entry == g.entry) ≡ true → fired_of g.entry T.fired ≡ Some g
    → Origin T (reply.Fired f.entry f.scheduled m next f.trigger job) (begun m job.no_concurrent job.requests_recovery g)
begins_here T m f g job next key row is found =
    let same : f.entry ≡ g.entry = eqb-true f.entry g.entry is in
    let again : fired_of g.entry T.fired ≡ Some f = subst (λ n. fired_of n T.fired ≡ Some f) same row in
    let one : f ≡ g = cc in
    inr (inr (record { row = ap is_some found; reply = (same, key ∙ ap (λ (h : FiredData). h.job) one, refl) }))

pub stored_key : (key : Key) (jobs : List JobData) (o : Option JobData) → job_of key jobs ≡ o → (stored_job key jobs).key ≡ key
unfolding stored_job
stored_key key jobs None found = rw found refl
stored_key key jobs (Some job) found = rw found (sym (same_key-exact key job.key (job_of-key key job jobs found)))

quiet-with_begun : (T : SchedulerTables) (m : ℤ) (f : FiredData) (job : JobData) (next : Option ℤ) → TablesValid T → job.key ≡ f.job → fired_of f.entry T.fired ≡ Some f
    → Quiet T (reply.Fired f.entry f.scheduled m next f.trigger job) (with_begun T m f job next)
unfolding with_begun
quiet-with_begun T m f job next valid key row =
    let r : Reply = reply.Fired f.entry f.scheduled m next f.trigger job in
    steady T r _ refl refl refl
    (stood-without_siblings T r job.no_concurrent f.job (with_fired f.entry (begun m job.no_concurrent job.requests_recovery) T.fired)
    (All-with_fired (λ g. fired_of g.entry T.fired ≡ Some g) (Origin T r) f.entry (begun m job.no_concurrent job.requests_recovery) T.fired (each_fired T.fired valid.references_and_limits.ordered.fired)
    (λ g is found. begins_here T m f g job next key row is found) (λ g differ found. inl found)))
    (stored-with_trigger T f.trigger (after_fire next (fired_state next job.no_concurrent)) (with_blocked job.no_concurrent f.job T.triggers) (λ t. refl)
    (stored-with_blocked T job.no_concurrent f.job T.triggers (were_stored T valid)))

quiet-fire_row : (T T' : SchedulerTables) (m : ℤ) (me : MemberData) (entry : ℕ) (o : Option FiredData) (r : Reply) → TablesValid T → fired_of entry T.fired ≡ o → fire_row T m me o ≡ accepted T' r → Quiet T r T'
quiet-fire_row T T' m me entry None r valid found e = absurd (cc)
quiet-fire_row T T' m me entry (Some f) r valid found e =
    let row = subst (λ n. fired_of n T.fired ≡ Some f) (fired_of-entry entry f T.fired found) found in
    accepted_quiet T _ T' _ r (passes (fire_refusal T m me f) _ T' r e).outcome (quiet-with_begun T m f (stored_job f.job T.jobs) (following T f) valid (stored_key f.job T.jobs (job_of f.job T.jobs) refl) row)

pub quiet-fire : (T T' : SchedulerTables) (m : ℤ) (me : MemberData) (entry : ℕ) (r : Reply) → TablesValid T → fire T m me entry ≡ accepted T' r → Quiet T r T'
quiet-fire T T' m me entry r valid e = quiet-fire_row T T' m me entry (fired_of entry T.fired) r valid refl (passes (node_refusal T me) _ T' r e).outcome

-- Complete.

quiet-trigger_ended : (T : SchedulerTables) (r : Reply) (key : Key) (s : TriggerState) → TablesValid T → Quiet T r (with_trigger_ended T key s)
unfolding with_trigger_ended
quiet-trigger_ended T r key s valid =
    steady T r _ refl refl refl (stood-without_acquired T r (is_row_of_trigger key) T.fired (all_stood T r valid)) (stored-with_trigger T key (in_state s) T.triggers (λ t. refl) (were_stored T valid))

quiet-job_ended : (T : SchedulerTables) (r : Reply) (job : Key) (s : TriggerState) → TablesValid T → Quiet T r (with_job_ended T job s)
unfolding with_job_ended
quiet-job_ended T r job s valid =
    steady T r _ refl refl refl (stood-without_acquired T r (is_row_of_job job) T.fired (all_stood T r valid)) (stored-with_states T (λ _. s) (is_trigger_of job) T.triggers (were_stored T valid))

quiet-with_code : (code : Code) (T : SchedulerTables) (r : Reply) (f : FiredData) → TablesValid T → Quiet T r (with_code code T f)
quiet-with_code Noop T r f valid = same T r T valid refl refl refl refl refl
quiet-with_code ReExecuteJob T r f valid = same T r T valid refl refl refl refl refl
quiet-with_code SetTriggerComplete T r f valid = quiet-trigger_ended T r f.trigger state.Complete valid
quiet-with_code DeleteTrigger T r f valid = quiet-without_trigger T r T (trigger_of f.trigger T.triggers) (same T _ T valid refl refl refl refl refl)
quiet-with_code SetAllJobTriggersComplete T r f valid = quiet-job_ended T r f.job state.Complete valid
quiet-with_code SetTriggerError T r f valid = quiet-trigger_ended T r f.trigger state.Error valid
quiet-with_code SetAllJobTriggersError T r f valid = quiet-job_ended T r f.job state.Error valid

quiet-without_execution : (T : SchedulerTables) (r : Reply) (U : SchedulerTables) (f : FiredData) → Quiet T r U → Quiet T r (without_execution U f)
unfolding without_execution
quiet-without_execution T r U f was = record {
  next_entry = was.next_entry;
  origins = stood-without_fired T r f.entry U.fired was.origins;
  triggers = stored-with_unblocked T f.no_concurrent f.job U.triggers was.triggers;
  next_epoch = was.next_epoch;
  members = was.members;
}

quiet-without_finished : (code : Code) (T : SchedulerTables) (r : Reply) (U : SchedulerTables) (key : Key) → Quiet T r U → Quiet T r (without_finished code U key)
quiet-without_finished Noop T r U key was = quiet-without_trigger T r U (finished U.fired (trigger_of key U.triggers)) was
quiet-without_finished ReExecuteJob T r U key was = was
quiet-without_finished SetTriggerComplete T r U key was = was
quiet-without_finished DeleteTrigger T r U key was = was
quiet-without_finished SetAllJobTriggersComplete T r U key was = was
quiet-without_finished SetTriggerError T r U key was = was
quiet-without_finished SetAllJobTriggersError T r U key was = was

quiet-completed : (T : SchedulerTables) (r : Reply) (m : ℤ) (f : FiredData) (code : Code) → TablesValid T → Quiet T r (record (completed T f code) { last_moment = m })
quiet-completed T r m f code valid =
    at_moment T r (completed T f code) m
    (quiet-without_finished code T r (without_execution (with_code code T f) f) f.trigger (quiet-without_execution T r (with_code code T f) f (quiet-with_code code T r f valid)))

quiet-complete_one : (T T' : SchedulerTables) (m : ℤ) (f : FiredData) (code : Code) (r : Reply) → TablesValid T → complete_one T m f code ≡ accepted T' r → Quiet T r T'
quiet-complete_one T T' m f ReExecuteJob r valid e = accepted_quiet T _ T' _ r e (same T _ _ valid refl refl refl refl refl)
quiet-complete_one T T' m f Noop r valid e = accepted_quiet T _ T' _ r e (quiet-completed T _ m f Noop valid)
quiet-complete_one T T' m f SetTriggerComplete r valid e = accepted_quiet T _ T' _ r e (quiet-completed T _ m f SetTriggerComplete valid)
quiet-complete_one T T' m f DeleteTrigger r valid e = accepted_quiet T _ T' _ r e (quiet-completed T _ m f DeleteTrigger valid)
quiet-complete_one T T' m f SetAllJobTriggersComplete r valid e = accepted_quiet T _ T' _ r e (quiet-completed T _ m f SetAllJobTriggersComplete valid)
quiet-complete_one T T' m f SetTriggerError r valid e = accepted_quiet T _ T' _ r e (quiet-completed T _ m f SetTriggerError valid)
quiet-complete_one T T' m f SetAllJobTriggersError r valid e = accepted_quiet T _ T' _ r e (quiet-completed T _ m f SetAllJobTriggersError valid)

quiet-complete_row : (T T' : SchedulerTables) (m : ℤ) (me : MemberData) (o : Option FiredData) (code : Code) (r : Reply) → TablesValid T → complete_row T m me o code ≡ accepted T' r → Quiet T r T'
quiet-complete_row T T' m me None code r valid e = absurd (cc)
quiet-complete_row T T' m me (Some f) code r valid e = quiet-complete_one T T' m f code r valid (passes (complete_refusal me f) _ T' r e).outcome

pub quiet-complete : (T T' : SchedulerTables) (m : ℤ) (me : MemberData) (entry : ℕ) (code : Code) (r : Reply) → TablesValid T → complete T m me entry code ≡ accepted T' r → Quiet T r T'
quiet-complete T T' m me entry code r valid e = quiet-complete_row T T' m me (fired_of entry T.fired) code r valid (passes (node_refusal T me) _ T' r e).outcome

-- Misfires.

stored-with_moved : (T U : SchedulerTables) (m : ℤ) (rows : List TriggerData) (t : TriggerData) → AllByRecursion (WasStored T) rows → AllByRecursion (WasStored T) (with_moved U m rows t)
unfolding with_moved
stored-with_moved T U m rows t all = stored-with_trigger T t.spec.key (moved_trigger (move_of U m t)) rows (λ u. refl) all

stored-move_each : (T U : SchedulerTables) (m : ℤ) (rows ts : List TriggerData) → AllByRecursion (WasStored T) rows → AllByRecursion (WasStored T) (fold (with_moved U m) rows ts)
stored-move_each T U m rows [] all = all
stored-move_each T U m rows (t ∷ ts) all = stored-move_each T U m (with_moved U m rows t) ts (stored-with_moved T U m rows t all)

pub quiet-misfires : (T T' : SchedulerTables) (m : ℤ) (me : MemberData) (r : Reply) → TablesValid T → misfires T m me ≡ accepted T' r → Quiet T r T'
quiet-misfires T T' m me r valid e =
    accepted_quiet T _ T' _ r (passes (node_refusal T me) _ T' r e).outcome
    (steady T _ _ refl refl refl (all_stood T _ valid) (stored-move_each T T m T.triggers (misfired_triggers T m) (were_stored T valid)))

-- Leave, and Join under a new name.

pub quiet-leave : (T T' : SchedulerTables) (m : ℤ) (me : MemberData) (r : Reply) → TablesValid T → leave T m me ≡ accepted T' r → Quiet T r T'
quiet-leave T T' m me r valid e =
    accepted_quiet T _ T' _ r (passes (or_refusal (node_refusal T me) (leave_refusal T me)) _ T' r e).outcome (record {
      next_entry = omega arith;
      origins = stood-others T _ me T.fired (all_stood T _ valid);
      triggers = stored-freed_by T me T.fired T.triggers (were_stored T valid);
      next_epoch = omega arith;
      members = λ other below none. All-without_member (IsNot other) (IsNot other) me.node T.members none (λ n differ is. is);
    })

-- a new member has an epoch that none had
pub new_is_not : (T : SchedulerTables) (node : List ℕ) (me : MemberData) → me.epoch < T.next_epoch → IsNot me (record { node = node; epoch = T.next_epoch })
new_is_not T node me below is = let one : T.next_epoch ≡ me.epoch = ap (λ (n : MemberData). n.epoch) is in omega arith

quiet-joined : (T : SchedulerTables) (r : Reply) (m : ℤ) (node : List ℕ) → TablesValid T → Quiet T r (record (with_new_member T node) { last_moment = m })
unfolding with_new_member
quiet-joined T r m node valid = record {
  next_entry = omega arith;
  origins = all_stood T r valid;
  triggers = were_stored T valid;
  next_epoch = omega arith;
  members = λ me below none. All-put_member (IsNot me) (record { node = node; epoch = T.next_epoch }) T.members (new_is_not T node me below) none;
}

pub quiet-join : (T T' : SchedulerTables) (m : ℤ) (node : List ℕ) (r : Reply) → TablesValid T → joined T m node None ≡ accepted T' r → Quiet T r T'
quiet-join T T' m node r valid e = accepted_quiet T _ T' _ r e (quiet-joined T _ m node valid)
