-- Firing a trigger keeps the tables valid.
use Rattle.std.proofs.Common.{◌≡◌, ℕ, ℤ, pos, ◌≤ℤ◌, int_lt, true, false, not, List, Option, Some, None, IsSome, IfSome, is_some, IsSomeAnd, option_and_then, unwrap_or, refl, sym, ap, ◌∙◌, subst, arith}
use Rattle.std.proofs.Math.Logic.{∥∥₁_elim}
use Rattle.std.proofs.lemmas.Int.{ints}
use Rattle.qz_types.specs.Rows.{JobData, TriggerData, MemberData, FiredData}
use Rattle.qz_types.specs.declared.replies.Reply.{Reply}
use Rattle.qz_types.specs.declared.replies.Refusal.{Refusal}
use Rattle.qz_types.specs.declared.replies.Refusal.TheVariants.{NotAcquired}
use Rattle.qz_types.specs.Tables.{SchedulerTables, IsMoment}
use Rattle.qz_types.specs.Outcomes.{accepted}
use Rattle.qz_types.specs.States.{is_acquired}
use Rattle.qz_types.specs.declared.keys.Key.{Key}
use Rattle.qz_types.specs.Words.{job_of, trigger_of, fired_of}
use Rattle.qz_model.specs.Acquiring.{owner_refusal, acquired_refusal, next_time}
use Rattle.qz_model.specs.Membership.{node_refusal}
use Rattle.qz_model.specs.Firing.{early, next_of, fire_refusal, following, with_begun, fire_one, fire_row, fire}
use Rattle.qz_model.specs.Invariant.{IsRowOf, is_live_state, TablesValid}
use Rattle.qz_model.specs.Tests.{refuse_if, or_refusal, stored_job}
use Rattle.qz_model.proofs.RowLaws.{All-trigger_of, All-fired_of, fired_of-entry}
use Rattle.qz_model.proofs.Changes.{HasItsTrigger, HasJob, passes, live_next, valid-moment}
use Rattle.qz_model.proofs.NextTimes.{next_after-within}
use Rattle.qz_model.proofs.Begun.{valid-begun}

-- where two refusals come one after the other, neither is there
pub clear_both : (x y : Option Refusal) → or_refusal x y ≡ None → (x ≡ None) × (y ≡ None)
clear_both None y e = (refl, e)
clear_both (Some r) y e = absurd (cc)

-- an acquired row of the member is acquired
pub acquired_clear : (me : MemberData) (f : FiredData) → acquired_refusal me f ≡ None → is_acquired f.state ≡ true
unfolding acquired_refusal
acquired_clear me f clear =
    elim (is_acquired f.state) as (λ b. refuse_if (not b) NotAcquired None ≡ None → b ≡ true) [ true ↦ λ e. refl | false ↦ λ e. absurd (cc) ]
    (clear_both (owner_refusal me f) (refuse_if (not (is_acquired f.state)) NotAcquired None) clear).1

not_early : (m next : ℤ) → early m (Some next) ≡ None → next ≤ℤ m
not_early m next e = elim (int_lt m next) as (λ b. int_lt m next ≡ b → early m (Some next) ≡ None → next ≤ℤ m) [
  | true ↦ λ is h. absurd (cc)
  | false ↦ λ is h. grind (arith, ints)
] refl e

-- an acquired row has its trigger and its job
row_has : (T : SchedulerTables) (f : FiredData) → TablesValid T → fired_of f.entry T.fired ≡ Some f → is_acquired f.state ≡ true → IsSomeAnd (trigger_of f.trigger T.triggers) (IsRowOf f)
row_has T f valid row taken = All-fired_of (HasItsTrigger T.triggers) f.entry f T.fired valid.acquired_match.a_trigger row taken

job_has : (T : SchedulerTables) (f : FiredData) (o : Option TriggerData) → TablesValid T → trigger_of f.trigger T.triggers ≡ o → IsSomeAnd o (IsRowOf f) → IsSome (job_of f.job T.jobs)
job_has T f None valid found row = absurd row
job_has T f (Some t) valid found row = subst (λ k. IsSome (job_of k T.jobs)) row.job (All-trigger_of (HasJob T.jobs) f.trigger t T.triggers valid.references_and_limits.stored.trigger_jobs found)

pub job_of_row : (T : SchedulerTables) (f : FiredData) → TablesValid T → fired_of f.entry T.fired ≡ Some f → is_acquired f.state ≡ true → IsSome (job_of f.job T.jobs)
job_of_row T f valid row taken = job_has T f (trigger_of f.trigger T.triggers) valid refl (row_has T f valid row taken)

-- so valid tables lack none
pub no_job_missing : (T : SchedulerTables) (n : ℕ) (f : FiredData) → ∥ TablesValid T ∥₁ → fired_of n T.fired ≡ Some f → is_acquired f.state ≡ true → job_of f.job T.jobs ≡ None → ⊥
no_job_missing T n f valid row taken missing = ∥∥₁_elim valid (λ x y. absurd x) (λ is.
    let stored : IsSome (job_of f.job T.jobs) = job_of_row T f is (subst (λ k. fired_of k T.fired ≡ Some f) (fired_of-entry n f T.fired row) row) taken in
    let wrong : is_some (job_of f.job T.jobs) ≡ false = ap is_some missing in
    absurd (cc))

stored_is : (key : Key) (jobs : List JobData) (o : Option JobData) → IsSome o → job_of key jobs ≡ o → job_of key jobs ≡ Some (stored_job key jobs)
unfolding stored_job
stored_is key jobs None some is = absurd (cc)
stored_is key jobs (Some j) some is = rw is refl

next_found : (k : Key) (t : TriggerData) (rows : List TriggerData) → trigger_of k rows ≡ Some t → next_of k rows ≡ t.next
unfolding next_of
next_found k t rows found = ap (option_and_then (λ x. x.next)) found

-- the row's trigger is acquired for its scheduled time
following_within : (T : SchedulerTables) (f : FiredData) (t : TriggerData) → TablesValid T → trigger_of f.trigger T.triggers ≡ Some t → IsRowOf f t → IfSome (following T f) (IsMoment T.horizon)
unfolding following next_time
following_within T f t valid found row =
    let next : IsMoment T.horizon f.scheduled = subst (λ o. IsSomeAnd o (IsMoment T.horizon)) row.next (live_next T f.trigger t valid found (ap is_live_state row.state)) in
    let time : unwrap_or t.next (pos 0) ≡ f.scheduled = ap (λ o. unwrap_or o (pos 0)) row.next in
    rw found (next_after-within T t.spec (unwrap_or t.next (pos 0)) (subst (IsMoment T.horizon) (sym time) next))

-- the trigger of an acquired row fires
kept-fire_one : (T T' : SchedulerTables) (m : ℤ) (me : MemberData) (f : FiredData) (t : Option TriggerData) (r : Reply) → TablesValid T → IsMoment T.horizon m → fired_of f.entry T.fired ≡ Some f
    → is_acquired f.state ≡ true → trigger_of f.trigger T.triggers ≡ t → IsSomeAnd t (IsRowOf f) → early m (next_of f.trigger T.triggers) ≡ None
    → fire_one T m f (stored_job f.job T.jobs) (following T f) ≡ accepted T' r → TablesValid T'
unfolding with_begun
kept-fire_one T T' m me f None r valid is row taken found has on_time e = absurd has
kept-fire_one T T' m me f (Some t) r valid is row taken found has on_time e =
    let scheduled : early m (Some f.scheduled) ≡ None = subst (λ o. early m o ≡ None) (next_found f.trigger t T.triggers found ∙ has.next) on_time in
    let after = valid-begun (record T { last_moment = m }) m f t (stored_job f.job T.jobs) (following T f) (valid-moment T m valid is) (record {
      row = row;
      taken = taken;
      trigger = found;
      in_time = not_early m f.scheduled scheduled;
      stored = stored_is f.job T.jobs (job_of f.job T.jobs) (job_has T f (Some t) valid found has) refl;
      within = following_within T f t valid found has;
    }) in
    subst TablesValid (cc) after

kept-fire_row : (T T' : SchedulerTables) (m : ℤ) (me : MemberData) (entry : ℕ) (f : Option FiredData) (r : Reply) → TablesValid T → IsMoment T.horizon m
    → fired_of entry T.fired ≡ f → fire_row T m me f ≡ accepted T' r → TablesValid T'
unfolding fire_refusal
kept-fire_row T T' m me entry None r valid is found e = absurd (cc)
kept-fire_row T T' m me entry (Some f) r valid is found e =
    let way = passes (fire_refusal T m me f) _ T' r e in
    let clear = clear_both (acquired_refusal me f) (early m (next_of f.trigger T.triggers)) way.clear in
    let row = subst (λ n. fired_of n T.fired ≡ Some f) (fired_of-entry entry f T.fired found) found in
    let taken = acquired_clear me f clear.0 in
    kept-fire_one T T' m me f (trigger_of f.trigger T.triggers) r valid is row taken refl (row_has T f valid row taken) clear.1 way.outcome

pub kept-fire : (T T' : SchedulerTables) (m : ℤ) (me : MemberData) (entry : ℕ) (r : Reply) → TablesValid T → IsMoment T.horizon m → fire T m me entry ≡ accepted T' r → TablesValid T'
kept-fire T T' m me entry r valid is e = kept-fire_row T T' m me entry (fired_of entry T.fired) r valid is refl (passes (node_refusal T me) _ T' r e).outcome
