-- Completing an execution keeps the tables valid.
use Rattle.std.proofs.Common.{◌≡◌, ℕ, ℤ, Bool, true, false, not, ◌&&◌, List, Option, Some, None, refl, sym, ap, ◌∙◌, subst}
use Rattle.std.specs.Ordering.{nat_cmp, is_eq}
use Rattle.std.proofs.lemmas.Cmp.{nat_cmp_total}
use Rattle.qz_types.specs.Rows.{TriggerData, MemberData, FiredData}
use Rattle.qz_types.specs.Sorted.{IsAscending}
use Rattle.qz_types.specs.declared.keys.Key.{Key}
use Rattle.qz_types.specs.declared.commands.Code.{Code}
use Rattle.qz_types.specs.declared.commands.Code.TheVariants.{Noop, ReExecuteJob, SetTriggerComplete, DeleteTrigger, SetAllJobTriggersComplete, SetTriggerError, SetAllJobTriggersError}
use Rattle.qz_types.specs.declared.triggers.TriggerState.{TriggerState}
use Rattle.qz_types.specs.declared.triggers.TriggerState.TheVariants as state
use Rattle.qz_types.specs.declared.replies.Reply.{Reply}
use Rattle.qz_types.specs.declared.replies.Refusal.TheVariants.{NotExecuting}
use Rattle.qz_types.specs.Changes.{without_acquired}
use Rattle.qz_types.specs.States.{is_acquired}
use Rattle.qz_types.specs.Tables.{SchedulerTables, IsMoment}
use Rattle.qz_types.specs.Outcomes.{accepted}
use Rattle.qz_types.specs.Words.{trigger_of, fired_of}
use Rattle.qz_model.specs.Acquiring.{owner_refusal}
use Rattle.qz_model.specs.Membership.{node_refusal}
use Rattle.qz_model.specs.Completing.{finished, with_trigger_ended, with_job_ended, with_code, without_execution, without_finished, completed, complete_refusal, complete_one, complete_row, complete}
use Rattle.qz_model.specs.Invariant.{is_blocked_or_done, is_blocked, is_live_state, TablesValid}
use Rattle.qz_model.specs.Tests.{refuse_if, is_trigger_of, is_row_of_trigger, is_row_of_job}
use Rattle.qz_model.specs.Triggers.{without_trigger_and_orphan}
use Rattle.qz_model.proofs.RowPoints.{All-weaker}
use Rattle.qz_model.proofs.RowLaws.{fired_of-entry}
use Rattle.qz_model.proofs.LookUps.{row_of-filter, only_found}
use Rattle.qz_model.proofs.Changes.{passes, valid-moment}
use Rattle.qz_model.proofs.StateChanges.{StatesFit, has_key, valid-with_state, valid-job_states}
use Rattle.qz_model.proofs.Dropping.{valid-without_trigger_and_orphan}
use Rattle.qz_model.proofs.Ended.{valid-without_execution}
use Rattle.qz_model.proofs.KeptFiring.{clear_both}

-- A trigger in this state fires no more, and isn't acquired.
pub record IsOver (s : TriggerState) : Type 0 where
  pub done : is_blocked_or_done s ≡ true
  pub free : is_blocked s ≡ false
  pub dead : is_live_state s ≡ false
  pub left : s ≡ state.Acquired → ⊥

over_complete : IsOver state.Complete
over_complete = record { done = refl; free = refl; dead = refl; left = λ e. cc }

over_error : IsOver state.Error
over_error = record { done = refl; free = refl; dead = refl; left = λ e. cc }

fits_over : (s : TriggerState) (p : TriggerData → Bool) (fired : List FiredData) → IsOver s → StatesFit (λ _. s) p fired
fits_over s p fired over = record {
  stays = λ t passes was busy. over.done;
  busy = λ t passes was shut. let free = over.free in absurd (cc);
  lives = λ t passes live. let dead = over.dead in absurd (cc);
}

valid-trigger_ended : (T : SchedulerTables) (key : Key) (s : TriggerState) → TablesValid T → IsOver s → TablesValid (with_trigger_ended T key s)
unfolding with_trigger_ended
valid-trigger_ended T key s valid over = valid-with_state T key (λ _. s) valid (fits_over s (has_key key) T.fired over) (λ t passes taken. over.left taken)

valid-job_ended : (T : SchedulerTables) (job : Key) (s : TriggerState) → TablesValid T → IsOver s → TablesValid (with_job_ended T job s)
unfolding with_job_ended
valid-job_ended T job s valid over = valid-job_states T job (λ _. s) valid (fits_over s (is_trigger_of job) T.fired over) (λ t passes taken. over.left taken)

-- What the code makes of the tables is valid, and has the row of the execution.
valid-with_code : (code : Code) (T : SchedulerTables) (f : FiredData) → TablesValid T → TablesValid (with_code code T f)
valid-with_code Noop T f valid = valid
valid-with_code ReExecuteJob T f valid = valid
valid-with_code SetTriggerComplete T f valid = valid-trigger_ended T f.trigger state.Complete valid over_complete
valid-with_code DeleteTrigger T f valid = valid-without_trigger_and_orphan T (trigger_of f.trigger T.triggers) valid
valid-with_code SetAllJobTriggersComplete T f valid = valid-job_ended T f.job state.Complete valid over_complete
valid-with_code SetTriggerError T f valid = valid-trigger_ended T f.trigger state.Error valid over_error
valid-with_code SetAllJobTriggersError T f valid = valid-job_ended T f.job state.Error valid over_error

-- an execution isn't among the acquired rows
pub execution_stays : (q : FiredData → Bool) (n : ℕ) (f : FiredData) (rows : List FiredData) → IsAscending nat_cmp (λ r. r.entry) rows → fired_of n rows ≡ Some f → is_acquired f.state ≡ false
    → fired_of n (without_acquired q rows) ≡ Some f
unfolding fired_of without_acquired
execution_stays q n f rows ordered found started =
    row_of-filter nat_cmp (λ r. r.entry) n (λ g. not (is_acquired g.state && q g)) rows
    (All-weaker (λ g. is_eq (nat_cmp n g.entry) ≡ true → g ≡ f) (λ g. is_eq (nat_cmp n g.entry) ≡ true → not (is_acquired g.state && q g) ≡ true) rows
    (λ g only same. ap (λ x. not (is_acquired x.state && q x)) (only same) ∙ ap (λ b. not (b && q f)) started) (only_found nat_cmp (λ r. r.entry) nat_cmp_total n f rows ordered found)) ∙ found

row-without_trigger : (T : SchedulerTables) (t : Option TriggerData) (n : ℕ) (f : FiredData) → TablesValid T → fired_of n T.fired ≡ Some f → is_acquired f.state ≡ false → fired_of n (without_trigger_and_orphan T t).fired ≡ Some f
unfolding without_trigger_and_orphan
row-without_trigger T None n f valid found started = found
row-without_trigger T (Some t) n f valid found started = execution_stays (is_row_of_trigger t.spec.key) n f T.fired valid.references_and_limits.ordered.fired found started

row-with_code : (code : Code) (T : SchedulerTables) (n : ℕ) (f : FiredData) → TablesValid T → fired_of n T.fired ≡ Some f → is_acquired f.state ≡ false → fired_of n (with_code code T f).fired ≡ Some f
unfolding with_trigger_ended with_job_ended
row-with_code Noop T n f valid found started = found
row-with_code ReExecuteJob T n f valid found started = found
row-with_code SetTriggerComplete T n f valid found started = execution_stays (is_row_of_trigger f.trigger) n f T.fired valid.references_and_limits.ordered.fired found started
row-with_code DeleteTrigger T n f valid found started = row-without_trigger T (trigger_of f.trigger T.triggers) n f valid found started
row-with_code SetAllJobTriggersComplete T n f valid found started = execution_stays (is_row_of_job f.job) n f T.fired valid.references_and_limits.ordered.fired found started
row-with_code SetTriggerError T n f valid found started = execution_stays (is_row_of_trigger f.trigger) n f T.fired valid.references_and_limits.ordered.fired found started
row-with_code SetAllJobTriggersError T n f valid found started = execution_stays (is_row_of_job f.job) n f T.fired valid.references_and_limits.ordered.fired found started

valid-without_finished : (code : Code) (T : SchedulerTables) (key : Key) → TablesValid T → TablesValid (without_finished code T key)
valid-without_finished Noop T key valid = valid-without_trigger_and_orphan T (finished T.fired (trigger_of key T.triggers)) valid
valid-without_finished ReExecuteJob T key valid = valid
valid-without_finished SetTriggerComplete T key valid = valid
valid-without_finished DeleteTrigger T key valid = valid
valid-without_finished SetAllJobTriggersComplete T key valid = valid
valid-without_finished SetTriggerError T key valid = valid
valid-without_finished SetAllJobTriggersError T key valid = valid

valid-completed : (T : SchedulerTables) (f : FiredData) (code : Code) → TablesValid T → fired_of f.entry T.fired ≡ Some f → is_acquired f.state ≡ false → TablesValid (completed T f code)
valid-completed T f code valid found started =
    valid-without_finished code (without_execution (with_code code T f) f) f.trigger
    (valid-without_execution (with_code code T f) f (valid-with_code code T f valid) (row-with_code code T f.entry f valid found started) started)

-- The horizon stays.
horizon-without_trigger : (T : SchedulerTables) (t : Option TriggerData) → (without_trigger_and_orphan T t).horizon ≡ T.horizon
unfolding without_trigger_and_orphan
horizon-without_trigger T None = refl
horizon-without_trigger T (Some t) = refl

horizon-with_code : (code : Code) (T : SchedulerTables) (f : FiredData) → (with_code code T f).horizon ≡ T.horizon
unfolding with_trigger_ended with_job_ended
horizon-with_code Noop T f = refl
horizon-with_code ReExecuteJob T f = refl
horizon-with_code SetTriggerComplete T f = refl
horizon-with_code DeleteTrigger T f = horizon-without_trigger T (trigger_of f.trigger T.triggers)
horizon-with_code SetAllJobTriggersComplete T f = refl
horizon-with_code SetTriggerError T f = refl
horizon-with_code SetAllJobTriggersError T f = refl

horizon-without_finished : (code : Code) (T : SchedulerTables) (key : Key) → (without_finished code T key).horizon ≡ T.horizon
horizon-without_finished Noop T key = horizon-without_trigger T (finished T.fired (trigger_of key T.triggers))
horizon-without_finished ReExecuteJob T key = refl
horizon-without_finished SetTriggerComplete T key = refl
horizon-without_finished DeleteTrigger T key = refl
horizon-without_finished SetAllJobTriggersComplete T key = refl
horizon-without_finished SetTriggerError T key = refl
horizon-without_finished SetAllJobTriggersError T key = refl

pub horizon-completed : (T : SchedulerTables) (f : FiredData) (code : Code) → (completed T f code).horizon ≡ T.horizon
unfolding without_execution
horizon-completed T f code = horizon-without_finished code (without_execution (with_code code T f) f) f.trigger ∙ horizon-with_code code T f

valid-completed_at : (T : SchedulerTables) (m : ℤ) (f : FiredData) (code : Code) → TablesValid T → IsMoment T.horizon m → fired_of f.entry T.fired ≡ Some f → is_acquired f.state ≡ false
    → TablesValid (record (completed T f code) { last_moment = m })
valid-completed_at T m f code valid is found started =
    valid-moment (completed T f code) m (valid-completed T f code valid found started) (subst (λ h. IsMoment h m) (sym (horizon-completed T f code)) is)

kept-complete_one : (T T' : SchedulerTables) (m : ℤ) (f : FiredData) (code : Code) (r : Reply) → TablesValid T → TablesValid (record T { last_moment = m })
    → TablesValid (record (completed T f code) { last_moment = m }) → complete_one T m f code ≡ accepted T' r → TablesValid T'
kept-complete_one T T' m f Noop r valid again ended e = subst TablesValid (cc) ended
kept-complete_one T T' m f ReExecuteJob r valid again ended e = subst TablesValid (cc) again
kept-complete_one T T' m f SetTriggerComplete r valid again ended e = subst TablesValid (cc) ended
kept-complete_one T T' m f DeleteTrigger r valid again ended e = subst TablesValid (cc) ended
kept-complete_one T T' m f SetAllJobTriggersComplete r valid again ended e = subst TablesValid (cc) ended
kept-complete_one T T' m f SetTriggerError r valid again ended e = subst TablesValid (cc) ended
kept-complete_one T T' m f SetAllJobTriggersError r valid again ended e = subst TablesValid (cc) ended

-- an execution of the member goes on
pub executing_clear : (me : MemberData) (f : FiredData) → complete_refusal me f ≡ None → is_acquired f.state ≡ false
unfolding complete_refusal
executing_clear me f clear =
    elim (is_acquired f.state) as (λ b. refuse_if b NotExecuting None ≡ None → b ≡ false) [ true ↦ λ e. absurd (cc) | false ↦ λ e. refl ]
    (clear_both (owner_refusal me f) (refuse_if (is_acquired f.state) NotExecuting None) clear).1

kept-complete_row : (T T' : SchedulerTables) (m : ℤ) (me : MemberData) (entry : ℕ) (f : Option FiredData) (code : Code) (r : Reply) → TablesValid T → IsMoment T.horizon m
    → fired_of entry T.fired ≡ f → complete_row T m me f code ≡ accepted T' r → TablesValid T'
kept-complete_row T T' m me entry None code r valid is found e = absurd (cc)
kept-complete_row T T' m me entry (Some f) code r valid is found e =
    let way = passes (complete_refusal me f) _ T' r e in
    let row = subst (λ n. fired_of n T.fired ≡ Some f) (fired_of-entry entry f T.fired found) found in
    kept-complete_one T T' m f code r valid (valid-moment T m valid is) (valid-completed_at T m f code valid is row (executing_clear me f way.clear)) way.outcome

pub kept-complete : (T T' : SchedulerTables) (m : ℤ) (me : MemberData) (entry : ℕ) (code : Code) (r : Reply) → TablesValid T → IsMoment T.horizon m → complete T m me entry code ≡ accepted T' r → TablesValid T'
kept-complete T T' m me entry code r valid is e = kept-complete_row T T' m me entry (fired_of entry T.fired) code r valid is refl (passes (node_refusal T me) _ T' r e).outcome
