-- Taking a trigger out of the state ERROR keeps the tables valid.
use Rattle.std.proofs.Common.{◌≡◌, ◌≤◌, ℤ, true, false, not, List, Option, Some, None, IsSome, IsSomeAnd, is_none, refl, sym, subst, arith, if◌then◌else◌}
use Rattle.std.specs.List.{AllByRecursion}
use Rattle.qz_types.specs.Rows.{TriggerData}
use Rattle.qz_types.specs.declared.keys.Key.{Key}
use Rattle.qz_types.specs.declared.limits.TheConstants.{TRIGGER_LIMIT}
use Rattle.qz_types.specs.declared.replies.Reply.{Reply}
use Rattle.qz_types.specs.declared.replies.Refusal.TheVariants.{NotInError}
use Rattle.qz_types.specs.declared.triggers.TriggerState.{TriggerState}
use Rattle.qz_types.specs.declared.triggers.TriggerState.TheVariants as state
use Rattle.qz_types.specs.Outcomes.{accepted}
use Rattle.qz_types.specs.States.{is_acquired_for}
use Rattle.qz_types.specs.Tables.{SchedulerTables, IsMoment}
use Rattle.qz_types.specs.Words.{trigger_of, with_trigger}
use Rattle.qz_model.specs.Executions.{is_busy}
use Rattle.qz_model.specs.Invariant.{AreStored, IsRowOf, is_blocked, is_blocked_or_done, is_live_state, EndsIn, TablesValid}
use Rattle.qz_model.specs.Resetting.{is_in_error, reset_refusal, reset, reset_trigger}
use Rattle.qz_model.specs.Tests.{refuse_if}
use Rattle.qz_model.specs.Triggers.{is_reserved, is_in_paused, new_state}
use Rattle.qz_model.proofs.Changes.{HasOneRow, HasItsTrigger, HasNextTime, HasJob, HasCalendar, HasZone, StaysBlocked, IsBlockedBy, HasNumber, SharesNone, HasNumber-kept, HasNumber-alike, passes, each_next, have_next, valid-moment}
use Rattle.qz_model.proofs.KeptTriggers.{first_free, first_stays, first_blocked}
use Rattle.qz_model.proofs.References.{references-triggers}
use Rattle.qz_model.proofs.RowLaws.{same_key-exact, trigger_of-key, trigger_of-with_other, ordered-with_trigger, All-with_trigger, length-with_trigger}
use Rattle.qz_model.proofs.RowPoints.{All-weaker, All-both}
use Rattle.qz_model.proofs.Waiting.{none_acquired, other_row}

-- The state that a trigger gets: it isn't acquired, fits the executions of the job, and is live only where there is a next time.
module _ (T : SchedulerTables) (t : TriggerData) where
  reset_free : (reset T t).state ≡ state.Acquired → ⊥
  unfolding reset new_state
  reset_free = elim (is_none t.next) as (λ b. (if b then state.Complete else new_state T t.spec) ≡ state.Acquired → ⊥) [
    | true ↦ λ e. cc
    | false ↦ first_free (is_in_paused T t.spec) (is_busy t.spec.job T.fired)
  ]

  reset_stays : is_busy t.spec.job T.fired ≡ true → is_blocked_or_done (reset T t).state ≡ true
  unfolding reset new_state
  reset_stays busy = elim (is_none t.next) as (λ b. is_blocked_or_done (if b then state.Complete else new_state T t.spec) ≡ true) [
    | true ↦ refl
    | false ↦ first_stays (is_in_paused T t.spec) (is_busy t.spec.job T.fired) busy
  ]

  reset_blocked : is_blocked (reset T t).state ≡ true → is_busy t.spec.job T.fired ≡ true
  unfolding reset new_state
  reset_blocked = elim (is_none t.next) as (λ b. is_blocked (if b then state.Complete else new_state T t.spec) ≡ true → is_busy t.spec.job T.fired ≡ true) [
    | true ↦ λ e. absurd (cc)
    | false ↦ first_blocked (is_in_paused T t.spec) (is_busy t.spec.job T.fired)
  ]

live_then : (o : Option ℤ) (s : TriggerState) → is_live_state (if is_none o then state.Complete else s) ≡ true → IsSome o
live_then None s live = absurd (cc)
live_then (Some n) s live = refl

reset_lives : (T : SchedulerTables) (t : TriggerData) → is_live_state (reset T t).state ≡ true → IsSome t.next
unfolding reset
reset_lives T t live = live_then t.next (new_state T t.spec) live

module _ (T : SchedulerTables) (t : TriggerData) (valid : TablesValid T) (found : trigger_of t.spec.key T.triggers ≡ Some t) (free : t.state ≡ state.Acquired → ⊥) where
  abbrev triggers_then : List TriggerData
  triggers_then = with_trigger t.spec.key (reset T) T.triggers

  abbrev after_reset : SchedulerTables
  after_reset = record T { triggers = triggers_then }

  -- what doesn't speak of the state holds of the trigger still
  reset_all : (P : TriggerData → Type 0) → ((u : TriggerData) → P u → P (reset T u)) → AllByRecursion P T.triggers → AllByRecursion P triggers_then
  reset_all P keeps all = All-with_trigger P P t.spec.key (reset T) T.triggers all (λ u same is. keeps u is) (λ u differ is. is)

  stored_reset : AreStored T.jobs triggers_then T.calendars T.zones
  unfolding reset
  stored_reset = let was = valid.references_and_limits.stored in record {
    trigger_jobs = reset_all (HasJob T.jobs) (λ u is. is) was.trigger_jobs;
    trigger_calendars = reset_all (HasCalendar T.calendars) (λ u is. is) was.trigger_calendars;
    trigger_zones = reset_all (HasZone T.zones) (λ u is. is) was.trigger_zones;
    bases = was.bases;
    calendar_zones = was.calendar_zones;
    chains = was.chains;
  }

  same_key_then : (u : TriggerData) → (reset T u).spec.key ≡ u.spec.key
  unfolding reset
  same_key_then u = refl

  a_trigger_reset : AllByRecursion (HasItsTrigger triggers_then) T.fired
  a_trigger_reset =
      All-both (HasItsTrigger T.triggers) (λ f. is_acquired_for t.spec.key f ≡ false) (HasItsTrigger triggers_then) T.fired
      (λ f has none taken. subst (λ o. IsSomeAnd o (IsRowOf f))
      (sym (trigger_of-with_other f.trigger t.spec.key (reset T) T.triggers same_key_then (other_row t.spec.key f none taken))) (has taken))
      valid.acquired_match.a_trigger (none_acquired T t valid.acquired_match found free)

  numbers_reset : AllByRecursion (HasNumber after_reset) triggers_then
  numbers_reset =
      reset_all (HasNumber after_reset) (λ u has. HasNumber-alike after_reset u (reset T u) (sym (same_key_then u)) has)
      (All-weaker (HasNumber T) (HasNumber after_reset) T.triggers
      (λ u has. HasNumber-kept T after_reset u (omega arith) (λ n below none. none)
      (λ n all. reset_all (SharesNone u.spec.key n) (λ x shares. subst (λ k. is_reserved k.group ≡ true → EndsIn k.name n → k ≡ u.spec.key) (sym (same_key_then x)) shares) all) has)
      valid.fresh.added)

  next_times_reset : AllByRecursion (HasNextTime T.horizon) triggers_then
  unfolding reset
  next_times_reset =
      All-with_trigger (HasNextTime T.horizon) (HasNextTime T.horizon) t.spec.key (reset T) T.triggers (each_next T valid) (λ u same has. (reset_lives T u, has.1)) (λ u differ has. has)

  job_then : (u : TriggerData) → (reset T u).spec.job ≡ u.spec.job
  unfolding reset
  job_then u = refl

  pub valid-reset : TablesValid after_reset
  valid-reset = record {
    references_and_limits = let was = valid.references_and_limits in
        references-triggers T was triggers_then (ordered-with_trigger t.spec.key (reset T) T.triggers same_key_then was.ordered.triggers) stored_reset
        (subst (λ n. n ≤ TRIGGER_LIMIT) (sym (length-with_trigger t.spec.key (reset T) T.triggers)) was.limits.triggers);
    acquired_match = record {
      one_row = All-with_trigger (HasOneRow T.fired) (HasOneRow T.fired) t.spec.key (reset T) T.triggers valid.acquired_match.one_row
          (λ u same is taken. absurd (reset_free T u taken)) (λ u differ is. is);
      a_trigger = a_trigger_reset;
    };
    concurrency_agrees = valid.concurrency_agrees;
    one_exclusive = record {
      one = valid.one_exclusive.one;
      blocked = All-with_trigger (StaysBlocked T.fired) (StaysBlocked T.fired) t.spec.key (reset T) T.triggers valid.one_exclusive.blocked
          (λ u same is busy. reset_stays T u (subst (λ k. is_busy k T.fired ≡ true) (job_then u) busy)) (λ u differ is. is);
    };
    blocked_are_busy = record {
      busy = All-with_trigger (IsBlockedBy T.fired) (IsBlockedBy T.fired) t.spec.key (reset T) T.triggers valid.blocked_are_busy.busy
          (λ u same is blocked. subst (λ k. is_busy k T.fired ≡ true) (sym (job_then u)) (reset_blocked T u blocked)) (λ u differ is. is);
    };
    rows_of_members = valid.rows_of_members;
    next_times = have_next T.horizon T.last_moment triggers_then next_times_reset valid.next_times.moment;
    fresh = record { fired = valid.fresh.fired; added = numbers_reset };
    row_times = valid.row_times;
  }

not_error_free : (s : TriggerState) → refuse_if (not (is_in_error s)) NotInError None ≡ None → s ≡ state.Acquired → ⊥
not_error_free state.Acquired clear taken = absurd (cc)
not_error_free state.Waiting clear taken = cc
not_error_free state.Complete clear taken = cc
not_error_free state.Blocked clear taken = cc
not_error_free state.Paused clear taken = cc
not_error_free state.PausedBlocked clear taken = cc
not_error_free state.Error clear taken = cc

reset_at : (T : SchedulerTables) (m : ℤ) (key : Key) (o : Option TriggerData) → TablesValid T → trigger_of key T.triggers ≡ o → reset_refusal o ≡ None
    → TablesValid (record T { triggers = with_trigger key (reset T) T.triggers })
reset_at T m key None valid found clear = absurd (cc)
reset_at T m key (Some t) valid found clear =
    let own : key ≡ t.spec.key = same_key-exact key t.spec.key (trigger_of-key key t T.triggers found) in
    subst (λ k. TablesValid (record T { triggers = with_trigger k (reset T) T.triggers })) (sym own)
    (valid-reset T t valid (subst (λ k. trigger_of k T.triggers ≡ Some t) own found) (not_error_free t.state clear))

pub kept-reset_trigger : (T T' : SchedulerTables) (m : ℤ) (key : Key) (r : Reply) → TablesValid T → IsMoment T.horizon m → reset_trigger T m key ≡ accepted T' r → TablesValid T'
kept-reset_trigger T T' m key r valid is e =
    let way = passes (reset_refusal (trigger_of key T.triggers)) _ T' r e in
    let same : accepted (record T { triggers = with_trigger key (reset T) T.triggers; last_moment = m }) _ ≡ accepted T' r = way.outcome in
    let after = reset_at T m key (trigger_of key T.triggers) valid refl way.clear in
    subst TablesValid (cc) (valid-moment (record T { triggers = with_trigger key (reset T) T.triggers }) m after is)
