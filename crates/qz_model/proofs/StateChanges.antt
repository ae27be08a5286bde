-- Changes of the states of triggers, with the acquired rows of these gone, keep the tables valid.
use Rattle.std.proofs.Common.{◌≡◌, ℕ, ◌≤◌, ◌<◌, ℤ, Bool, true, false, ◌&&◌, List, count_by, Option, Some, None, IsSomeAnd, option_map, refl, sym, ap, ◌∙◌, subst, arith, if◌then◌else◌}
use Rattle.std.specs.List.{AllByRecursion}
use Rattle.std.proofs.lemmas.Bool.{and_parts, false_from_ne_true}
use Rattle.qz_types.specs.Rows.{JobData, TriggerData, CalendarData, ZoneData, MemberData, FiredData}
use Rattle.qz_types.specs.declared.keys.Key.{Key}
use Rattle.qz_types.specs.declared.limits.TheConstants.{TRIGGER_LIMIT}
use Rattle.qz_types.specs.declared.triggers.TriggerState.{TriggerState}
use Rattle.qz_types.specs.declared.triggers.TriggerState.TheVariants as state
use Rattle.qz_types.specs.Changes.{with_state, with_states, without_acquired}
use Rattle.qz_types.specs.States.{is_acquired, is_acquired_for}
use Rattle.qz_types.specs.Tables.{SchedulerTables}
use Rattle.qz_types.specs.Sorted.{IsAscending}
use Rattle.qz_types.specs.Words.{key_cmp, same_key, trigger_of, with_trigger}
use Rattle.qz_model.specs.Executions.{is_exclusive_of, is_busy}
use Rattle.qz_model.specs.Invariant.{AreStored, ReferencesAndLimits, IsRowOf, AcquiredMatch, HasFlag, ConcurrencyAgrees, is_blocked_or_done, is_blocked, RowsOfMembers, is_live_state, AreFresh, TablesValid}
use Rattle.qz_model.specs.Tests.{is_trigger_of, is_row_of_job, is_row_of_trigger}
use Rattle.qz_model.proofs.Changes.{HasOneRow, HasItsTrigger, HasNextTime, HasJob, HasCalendar, HasZone, AgreesWithRows, AgreesWithJob, StaysBlocked, IsBlockedBy, HasMember, HasRowTimes, HasNumber, SharesNone, HasNumber-kept, HasNumber-alike, each_next, have_next}
use Rattle.qz_model.proofs.References.{references-triggers, references-fired}
use Rattle.qz_model.proofs.RowLaws.{same_key-exact, trigger_of-key, trigger_of-alike, each_trigger}
use Rattle.qz_model.proofs.RowPoints.{All-weaker, All-both}
use Rattle.qz_model.proofs.StateLaws.{with_state-states, ordered-with_states, length-with_states, All-with_states, trigger_of-with_states, ordered-without_acquired, length-without_acquired, All-without_acquired, count_by-without_acquired, fired_of-without_acquired, exclusive-without_acquired, busy-without_acquired, without_acquired-none}

-- The acquired rows that pass are just those of the triggers that pass.
abbrev pub GoTogether : (TriggerData → Bool) → (FiredData → Bool) → Type 0
GoTogether p q = (t : TriggerData) (f : FiredData) → t.spec.key ≡ f.trigger → t.spec.job ≡ f.job → p t ≡ q f

-- An acquired trigger stays so, and no other becomes so.
pub record KeepsAcquired (change : TriggerState → TriggerState) : Type 0 where
  pub kept : (s : TriggerState) → s ≡ state.Acquired → change s ≡ state.Acquired
  pub was : (s : TriggerState) → change s ≡ state.Acquired → s ≡ state.Acquired

-- the trigger of an acquired row passes with it
found_row : (p : TriggerData → Bool) (q : FiredData → Bool) (f : FiredData) (o : Option TriggerData) (rows : List TriggerData) → GoTogether p q → trigger_of f.trigger rows ≡ o
    → IsSomeAnd o (IsRowOf f) → (t : TriggerData) → o ≡ Some t → p t ≡ q f
found_row p q f None rows together found row t is = absurd row
found_row p q f (Some u) rows together found row t is =
    let same : u ≡ t = cc in
    subst (λ x. p x ≡ q f) same (together u f (sym (same_key-exact f.trigger u.spec.key (trigger_of-key f.trigger u rows found))) row.job)

module _ (change : TriggerState → TriggerState) (p : TriggerData → Bool) (q : FiredData → Bool) (triggers : List TriggerData) (fired : List FiredData) where
  abbrev triggers_then : List TriggerData
  triggers_then = with_states change p triggers

  abbrev fired_then : List FiredData
  fired_then = without_acquired q fired

  -- the trigger of a row that stays is as it was
  found_then : (f : FiredData) (o : Option TriggerData) → GoTogether p q → q f ≡ false → trigger_of f.trigger triggers ≡ o → IsSomeAnd o (IsRowOf f)
      → IsSomeAnd (option_map (λ t. if p t then with_state change t else t) o) (IsRowOf f)
  found_then f None together stays found row = absurd row
  found_then f (Some t) together stays found row =
      let out : p t ≡ false = found_row p q f (Some t) triggers together found row t refl ∙ stays in
      subst (λ b. IsRowOf f (if b then with_state change t else t)) (sym out) row

  -- none of a trigger that doesn't pass goes
  own_stays : (t : TriggerData) (f : FiredData) → GoTogether p q → p t ≡ false → trigger_of t.spec.key triggers ≡ Some t → HasItsTrigger triggers f → (is_acquired f.state && q f) ≡ true
      → is_acquired_for t.spec.key f ≡ false
  unfolding is_acquired_for
  own_stays t f together out found has goes = false_from_ne_true (is_acquired_for t.spec.key f) (λ is.
      let taken : is_acquired f.state ≡ true = (and_parts (is_acquired f.state) (q f) goes).0 in
      let passes : q f ≡ true = (and_parts (is_acquired f.state) (q f) goes).1 in
      let same : same_key t.spec.key f.trigger ≡ true = (and_parts (is_acquired f.state) (same_key t.spec.key f.trigger) is).1 in
      let at : trigger_of f.trigger triggers ≡ Some t = sym (trigger_of-alike t.spec.key f.trigger triggers same) ∙ found in
      let alike : p t ≡ q f = found_row p q f (trigger_of f.trigger triggers) triggers together refl (has taken) t at in
      cc)

  -- an acquired trigger that changes isn't acquired any more
  pub match-with_states : GoTogether p q → ((t : TriggerData) → p t ≡ true → change t.state ≡ state.Acquired → ⊥) → IsAscending key_cmp (λ r. r.spec.key) triggers
      → AcquiredMatch triggers fired → AcquiredMatch triggers_then fired_then
  match-with_states together leaves ordered match = record {
    one_row = All-with_states change p (λ t. HasOneRow fired t × (trigger_of t.spec.key triggers ≡ Some t)) (HasOneRow fired_then) triggers
        (All-both (HasOneRow fired) (λ t. trigger_of t.spec.key triggers ≡ Some t) (λ t. HasOneRow fired t × (trigger_of t.spec.key triggers ≡ Some t)) triggers
        (λ t one found. (one, found)) match.one_row (each_trigger triggers ordered))
        (λ t passes is taken. absurd (leaves t passes taken))
        (λ t out is taken. count_by-without_acquired q (is_acquired_for t.spec.key) fired
        (All-weaker (HasItsTrigger triggers) (λ f. (is_acquired f.state && q f) ≡ true → is_acquired_for t.spec.key f ≡ false) fired
        (λ f has goes. own_stays t f together out is.1 has goes) match.a_trigger)
        ∙ is.0 taken);
    a_trigger = All-without_acquired q (HasItsTrigger triggers) (HasItsTrigger triggers_then) fired match.a_trigger
        (λ f away has taken.
        let stays : q f ≡ false = subst (λ b. (b && q f) ≡ false) taken away in
        subst (λ o. IsSomeAnd o (IsRowOf f)) (sym (trigger_of-with_states change p f.trigger triggers)) (found_then f (trigger_of f.trigger triggers) together stays refl (has taken)));
  }

  -- where the change keeps each acquired trigger, and acquires none, so do all rows
  found_same : (f : FiredData) (o : Option TriggerData) → KeepsAcquired change → IsSomeAnd o (IsRowOf f) → IsSomeAnd (option_map (λ t. if p t then with_state change t else t) o) (IsRowOf f)
  found_same f None keeps row = absurd row
  found_same f (Some t) keeps row = elim (p t) as (λ b. IsRowOf f (if b then with_state change t else t)) [
    | true ↦ record { state = keeps.kept t.state row.state; job = row.job; next = row.next }
    | false ↦ row
  ]

  pub match-same_rows : KeepsAcquired change → AcquiredMatch triggers fired → AcquiredMatch triggers_then fired
  match-same_rows keeps match = record {
    one_row = All-with_states change p (HasOneRow fired) (HasOneRow fired) triggers match.one_row
        (λ t passes one taken. one (keeps.was t.state taken)) (λ t out one. one);
    a_trigger = All-weaker (HasItsTrigger triggers) (HasItsTrigger triggers_then) fired
        (λ f has taken. subst (λ o. IsSomeAnd o (IsRowOf f)) (sym (trigger_of-with_states change p f.trigger triggers)) (found_same f (trigger_of f.trigger triggers) keeps (has taken))) match.a_trigger;
  }

  -- states that fit the executions, from what was known of each trigger
  pub stays-with_states : (P : TriggerData → Type 0) → AllByRecursion P triggers
      → ((t : TriggerData) → p t ≡ true → P t → StaysBlocked fired (with_state change t)) → ((t : TriggerData) → p t ≡ false → P t → StaysBlocked fired t)
      → AllByRecursion (StaysBlocked fired_then) triggers_then
  stays-with_states P all changed left =
      All-with_states change p P (StaysBlocked fired_then) triggers all
      (λ t passes is busy. changed t passes is (sym (busy-without_acquired q t.spec.job fired) ∙ busy))
      (λ t out is busy. left t out is (sym (busy-without_acquired q t.spec.job fired) ∙ busy))

  pub blocked_by-with_states : (P : TriggerData → Type 0) → AllByRecursion P triggers
      → ((t : TriggerData) → p t ≡ true → P t → IsBlockedBy fired (with_state change t)) → ((t : TriggerData) → p t ≡ false → P t → IsBlockedBy fired t)
      → AllByRecursion (IsBlockedBy fired_then) triggers_then
  blocked_by-with_states P all changed left =
      All-with_states change p P (IsBlockedBy fired_then) triggers all
      (λ t passes is blocked. busy-without_acquired q t.spec.job fired ∙ changed t passes is blocked)
      (λ t out is blocked. busy-without_acquired q t.spec.job fired ∙ left t out is blocked)

  pub next-with_states : (horizon : ℤ) → ((t : TriggerData) → p t ≡ true → is_live_state (change t.state) ≡ true → is_live_state t.state ≡ true)
      → AllByRecursion (HasNextTime horizon) triggers → AllByRecursion (HasNextTime horizon) triggers_then
  next-with_states horizon lives next =
      All-with_states change p (HasNextTime horizon) (HasNextTime horizon) triggers next (λ t passes has. (λ live. has.0 (lives t passes live), has.1)) (λ t out has. has)

  pub stored-with_states : (jobs : List JobData) (calendars : List CalendarData) (zones : List ZoneData) → AreStored jobs triggers calendars zones → AreStored jobs triggers_then calendars zones
  stored-with_states jobs calendars zones was = record {
    trigger_jobs = All-with_states change p (HasJob jobs) (HasJob jobs) triggers was.trigger_jobs (λ t passes is. is) (λ t out is. is);
    trigger_calendars = All-with_states change p (HasCalendar calendars) (HasCalendar calendars) triggers was.trigger_calendars (λ t passes is. is) (λ t out is. is);
    trigger_zones = All-with_states change p (HasZone zones) (HasZone zones) triggers was.trigger_zones (λ t passes is. is) (λ t out is. is);
    bases = was.bases;
    calendar_zones = was.calendar_zones;
    chains = was.chains;
  }

-- Without some acquired rows the executions are as they were.
module _ (q : FiredData → Bool) (fired : List FiredData) where
  flags_left : (key : Key) (flag : Bool) → AllByRecursion (HasFlag key flag) fired → AllByRecursion (HasFlag key flag) (without_acquired q fired)
  flags_left key flag all = All-without_acquired q (HasFlag key flag) (HasFlag key flag) fired all (λ f away is. is)

  pub concurrency-without_acquired : (jobs : List JobData) → ConcurrencyAgrees jobs fired → ConcurrencyAgrees jobs (without_acquired q fired)
  concurrency-without_acquired jobs agrees = record {
    with_rows = All-without_acquired q (AgreesWithRows fired) (AgreesWithRows (without_acquired q fired)) fired agrees.with_rows
        (λ f away is begun. flags_left f.job f.no_concurrent (is begun));
    with_jobs = All-weaker (AgreesWithJob fired) (AgreesWithJob (without_acquired q fired)) jobs (λ j is. flags_left j.key j.no_concurrent is) agrees.with_jobs;
  }

  pub one-without_acquired : ((key : Key) → count_by (is_exclusive_of key) fired ≤ 1) → (key : Key) → count_by (is_exclusive_of key) (without_acquired q fired) ≤ 1
  one-without_acquired one key = subst (λ n. n ≤ 1) (sym (exclusive-without_acquired q key fired)) (one key)

  pub members-without_acquired : (members : List MemberData) (next_epoch : ℕ) → RowsOfMembers members next_epoch fired → RowsOfMembers members next_epoch (without_acquired q fired)
  members-without_acquired members next_epoch was = record {
    given = was.given;
    distinct = was.distinct;
    rows = All-without_acquired q (HasMember members) (HasMember members) fired was.rows (λ f away is. is);
  }

module _ (T : SchedulerTables) (change : TriggerState → TriggerState) (p : TriggerData → Bool) (q : FiredData → Bool) where
  -- the tables after the change
  abbrev pub after_states : SchedulerTables
  after_states = record T { triggers = with_states change p T.triggers; fired = without_acquired q T.fired }

  pub references-with_states : ReferencesAndLimits T → ReferencesAndLimits after_states
  references-with_states was =
      let first : ReferencesAndLimits (record T { triggers = with_states change p T.triggers }) =
      references-triggers T was (with_states change p T.triggers) (ordered-with_states change p T.triggers was.ordered.triggers)
      (stored-with_states change p q T.triggers T.fired T.jobs T.calendars T.zones was.stored)
      (subst (λ n. n ≤ TRIGGER_LIMIT) (sym (length-with_states change p T.triggers)) was.limits.triggers) in
      references-fired (record T { triggers = with_states change p T.triggers }) first (without_acquired q T.fired) T.next_entry (ordered-without_acquired q T.fired was.ordered.fired)
      (omega (arith, length-without_acquired q T.fired, was.limits.fired)) was.limits.next_entry

  pub fresh-with_states : AreFresh T → AreFresh after_states
  fresh-with_states was = record {
    fired = All-without_acquired q (λ f. f.entry < T.next_entry) (λ f. f.entry < T.next_entry) T.fired was.fired (λ f away is. is);
    added = All-with_states change p (HasNumber after_states) (HasNumber after_states) T.triggers
        (All-weaker (HasNumber T) (HasNumber after_states) T.triggers
        (λ t has. HasNumber-kept T after_states t (omega arith) (λ n below none. fired_of-without_acquired q n T.fired none)
        (λ n all. All-with_states change p (SharesNone t.spec.key n) (SharesNone t.spec.key n) T.triggers all (λ u passes is. is) (λ u out is. is)) has)
        was.added)
        (λ t passes has. HasNumber-alike after_states t (with_state change t) refl has)
        (λ t out has. has);
  }

-- What a change of state has to keep of each trigger that passes: it stays blocked or done where its job is busy, is blocked
-- only there, and may fire again only if it could before.
pub record StatesFit (change : TriggerState → TriggerState) (p : TriggerData → Bool) (fired : List FiredData) : Type 0 where
  pub stays : (t : TriggerData) → p t ≡ true → StaysBlocked fired t → is_busy t.spec.job fired ≡ true → is_blocked_or_done (change t.state) ≡ true
  pub busy : (t : TriggerData) → p t ≡ true → IsBlockedBy fired t → is_blocked (change t.state) ≡ true → is_busy t.spec.job fired ≡ true
  pub lives : (t : TriggerData) → p t ≡ true → is_live_state (change t.state) ≡ true → is_live_state t.state ≡ true

module _ (T : SchedulerTables) (change : TriggerState → TriggerState) (p : TriggerData → Bool) (q : FiredData → Bool) (valid : TablesValid T) (fits : StatesFit change p T.fired) where
  valid-matching : AcquiredMatch (with_states change p T.triggers) (without_acquired q T.fired) → TablesValid (after_states T change p q)
  valid-matching match = record {
    references_and_limits = references-with_states T change p q valid.references_and_limits;
    acquired_match = match;
    concurrency_agrees = concurrency-without_acquired q T.fired T.jobs valid.concurrency_agrees;
    one_exclusive = record {
      one = one-without_acquired q T.fired valid.one_exclusive.one;
      blocked = stays-with_states change p q T.triggers T.fired (StaysBlocked T.fired) valid.one_exclusive.blocked fits.stays (λ t out was. was);
    };
    blocked_are_busy = record { busy = blocked_by-with_states change p q T.triggers T.fired (IsBlockedBy T.fired) valid.blocked_are_busy.busy fits.busy (λ t out was. was) };
    rows_of_members = members-without_acquired q T.fired T.members T.next_epoch valid.rows_of_members;
    next_times = have_next T.horizon T.last_moment (with_states change p T.triggers) (next-with_states change p q T.triggers T.fired T.horizon fits.lives (each_next T valid)) valid.next_times.moment;
    fresh = fresh-with_states T change p q valid.fresh;
    row_times = record { rows = All-without_acquired q (HasRowTimes T.horizon) (HasRowTimes T.horizon) T.fired valid.row_times.rows (λ f away is. is) };
  }

  -- triggers get other states, and none of them is acquired then
  pub valid-with_states : GoTogether p q → ((t : TriggerData) → p t ≡ true → change t.state ≡ state.Acquired → ⊥) → TablesValid (after_states T change p q)
  valid-with_states together leaves = valid-matching (match-with_states change p q T.triggers T.fired together leaves valid.references_and_limits.ordered.triggers valid.acquired_match)

-- triggers get other states, and each that is acquired stays so
pub valid-same_rows : (T : SchedulerTables) (change : TriggerState → TriggerState) (p : TriggerData → Bool) → TablesValid T → StatesFit change p T.fired → KeepsAcquired change
    → TablesValid (record T { triggers = with_states change p T.triggers })
valid-same_rows T change p valid fits keeps =
    let all : without_acquired (λ f. false) T.fired ≡ T.fired = without_acquired-none T.fired in
    let match : AcquiredMatch (with_states change p T.triggers) (without_acquired (λ f. false) T.fired) =
    subst (λ fired. AcquiredMatch (with_states change p T.triggers) fired) (sym all) (match-same_rows change p (λ f. false) T.triggers T.fired keeps valid.acquired_match) in
    subst (λ fired. TablesValid (record T { triggers = with_states change p T.triggers; fired = fired })) all (valid-matching T change p (λ f. false) valid fits match)

-- The same of one trigger, by its key.

-- the trigger has this key
abbrev pub has_key : Key → TriggerData → Bool
has_key key t = same_key key t.spec.key

pub valid-with_state : (T : SchedulerTables) (key : Key) (change : TriggerState → TriggerState) → TablesValid T → StatesFit change (has_key key) T.fired
    → ((t : TriggerData) → has_key key t ≡ true → change t.state ≡ state.Acquired → ⊥)
    → TablesValid (record T { triggers = with_trigger key (with_state change) T.triggers; fired = without_acquired (is_row_of_trigger key) T.fired })
valid-with_state T key change valid fits leaves =
    subst (λ triggers. TablesValid (record T { triggers = triggers; fired = without_acquired (is_row_of_trigger key) T.fired })) (sym (with_state-states key change T.triggers))
    (valid-with_states T change (has_key key) (is_row_of_trigger key) valid fits (λ t f same job. ap (same_key key) same) leaves)

pub valid-same_row : (T : SchedulerTables) (key : Key) (change : TriggerState → TriggerState) → TablesValid T → StatesFit change (has_key key) T.fired → KeepsAcquired change
    → TablesValid (record T { triggers = with_trigger key (with_state change) T.triggers })
valid-same_row T key change valid fits keeps =
    subst (λ triggers. TablesValid (record T { triggers = triggers })) (sym (with_state-states key change T.triggers)) (valid-same_rows T change (has_key key) valid fits keeps)

-- The same of all triggers of a job.
pub valid-job_states : (T : SchedulerTables) (job : Key) (change : TriggerState → TriggerState) → TablesValid T → StatesFit change (is_trigger_of job) T.fired
    → ((t : TriggerData) → is_trigger_of job t ≡ true → change t.state ≡ state.Acquired → ⊥)
    → TablesValid (record T { triggers = with_states change (is_trigger_of job) T.triggers; fired = without_acquired (is_row_of_job job) T.fired })
valid-job_states T job change valid fits leaves = valid-with_states T change (is_trigger_of job) (is_row_of_job job) valid fits (λ t f same own. ap (same_key job) own) leaves
