-- What a Fire that isn't refused comes to.
use Rattle.std.proofs.Common.{◌≡◌, ℕ, ℤ, pos, true, List, Option, Some, None, IsSomeAnd, unwrap_or, refl, sym, ap, ◌∙◌, subst}
use Rattle.std.proofs.Math.Logic.{∥∥₁_elim}
use Rattle.std.proofs.Props.{props}
use Rattle.qz_civil.specs.declared.limits.TheConstants.{LAST}
use Rattle.qz_types.specs.Rows.{JobData, TriggerData, MemberData, FiredData}
use Rattle.qz_types.specs.declared.keys.Key.{Key}
use Rattle.qz_types.specs.States.{is_acquired}
use Rattle.qz_types.specs.Tables.{SchedulerTables, IsMoment}
use Rattle.qz_types.specs.Outcomes.{IsAccepted}
use Rattle.qz_types.specs.Words.{job_of, trigger_of, fired_of}
use Rattle.qz_apply.proofs.Accepted.{no_refusal, accepted_within}
use Rattle.qz_model.specs.Acquiring.{acquired_refusal, next_time}
use Rattle.qz_model.specs.Membership.{node_refusal}
use Rattle.qz_model.specs.Firing.{early, next_of, fire_refusal, following, with_begun, fire_one, fire_row, fire}
use Rattle.qz_model.specs.Invariant.{IsRowOf, is_live_state, TablesValid}
use Rattle.qz_model.specs.Tests.{stored_job}
use Rattle.qz_model.proofs.Changes.{HasItsTrigger, live_next, passes}
use Rattle.qz_model.proofs.RowLaws.{same_key-exact, job_of-key, All-fired_of}
use Rattle.qz_model.proofs.KeptFiring.{clear_both, acquired_clear}
use Rattle.qz_model.proofs.NextTimes.{moment_up_to_last}
use Rattle.qz_acquire.specs.Prepared.{committed}
use Rattle.qz_acquire.specs.declared.changes.Change.TheVariants.{Fire}

-- an accepted Fire begins the execution of this row, which was acquired
pub record Fires (T : SchedulerTables) (m : ℤ) (me : MemberData) (entry : ℕ) (f : FiredData) : Type 0 where
  pub taken : is_acquired f.state ≡ true
  pub outcome : fire T m me entry ≡ fire_one T m f (stored_job f.job T.jobs) (following T f)

refusal_clear : (T : SchedulerTables) (m : ℤ) (me : MemberData) (f : FiredData) → fire_refusal T m me f ≡ None → is_acquired f.state ≡ true
unfolding fire_refusal
refusal_clear T m me f clear = acquired_clear me f (clear_both (acquired_refusal me f) (early m (next_of f.trigger T.triggers)) clear).0

pub fires : (T : SchedulerTables) (m : ℤ) (me : MemberData) (entry : ℕ) (f : FiredData) → IsAccepted (fire T m me entry) → fired_of entry T.fired ≡ Some f → Fires T m me entry f
fires T m me entry f is stored =
    let at : fire_row T m me (fired_of entry T.fired) ≡ fire_row T m me (Some f) = ap (fire_row T m me) stored in
    let row : IsAccepted (fire_row T m me (Some f)) = subst IsAccepted at (accepted_within (node_refusal T me) (fire_row T m me (fired_of entry T.fired)) is) in
    let one = no_refusal (fire_refusal T m me f) (fire_one T m f (stored_job f.job T.jobs) (following T f)) row in
    record {
      taken = refusal_clear T m me f (passes (fire_refusal T m me f) _ _ _ one).clear;
      outcome = no_refusal (node_refusal T me) (fire_row T m me (fired_of entry T.fired)) is ∙ at ∙ one;
    }

-- the next time of the trigger of an acquired row is within the horizon
pub time_of_row : (T : SchedulerTables) (n : ℕ) (f : FiredData) (t : TriggerData) → ∥ TablesValid T ∥₁ → fired_of n T.fired ≡ Some f → is_acquired f.state ≡ true → trigger_of f.trigger T.triggers ≡ Some t → IsMoment LAST (next_time t)
unfolding next_time
time_of_row T n f t valid stored taken found = ∥∥₁_elim valid (hlevel props) (λ is.
    let row : IsRowOf f t = subst (λ o. IsSomeAnd o (IsRowOf f)) found (All-fired_of (HasItsTrigger T.triggers) n f T.fired is.acquired_match.a_trigger stored taken) in
    let next : IsMoment T.horizon f.scheduled = subst (λ o. IsSomeAnd o (IsMoment T.horizon)) row.next (live_next T f.trigger t is found (ap is_live_state row.state)) in
    let time : unwrap_or t.next (pos 0) ≡ f.scheduled = ap (λ o. unwrap_or o (pos 0)) row.next in
    subst (IsMoment LAST) (sym time) (moment_up_to_last T f.scheduled is next))

-- the job of a key has this key
key_of : (key : Key) (jobs : List JobData) (o : Option JobData) → job_of key jobs ≡ o → (stored_job key jobs).key ≡ key
unfolding stored_job
key_of key jobs None is = rw is refl
key_of key jobs (Some job) is = rw is (sym (same_key-exact key job.key (job_of-key key job jobs is)))

-- what begins with the row's trigger and its job is what the transaction begins
pub fired_as : (T : SchedulerTables) (m s : ℤ) (f : FiredData) (entry : ℕ) (trigger : Key) (job : JobData) (next : Option ℤ) → s ≡ f.scheduled → entry ≡ f.entry → trigger ≡ f.trigger → job ≡ stored_job f.job T.jobs
    → fire_one T m f (stored_job f.job T.jobs) next ≡ committed T m (Fire (record { entry = entry; scheduled = s; next = next; trigger = trigger; job = job }))
unfolding with_begun
fired_as T m s f entry trigger job next scheduled number key own =
    rw (scheduled, number, key, own, key_of f.job T.jobs (job_of f.job T.jobs) refl) refl
