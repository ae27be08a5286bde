-- An execution ends, and keeps the tables valid. If it excluded others of its job, the triggers of the job are unblocked with it.
use Rattle.std.proofs.Common.{◌≡◌, ◌<◌, ◌≤◌, ◌==◌, Bool, true, false, not, ◌&&◌, List, length, count_by, nat_lt, Option, Some, None, IsSomeAnd, option_map, refl, sym, ap, ◌∙◌, subst, arith, if◌then◌else◌}
use Rattle.std.specs.List.{AllByRecursion}
use Rattle.std.proofs.lemmas.Bool.{and_parts, and_from, and_left, false_from_ne_true}
use Rattle.qz_types.specs.Rows.{TriggerData, FiredData}
use Rattle.qz_types.specs.Sorted.{IsAscending}
use Rattle.qz_types.specs.declared.keys.Key.{Key}
use Rattle.qz_types.specs.declared.limits.TheConstants.{TRIGGER_LIMIT}
use Rattle.qz_types.specs.declared.triggers.TriggerState.{TriggerState}
use Rattle.qz_types.specs.declared.triggers.TriggerState.TheVariants as state
use Rattle.qz_types.specs.Tables.{SchedulerTables}
use Rattle.qz_types.specs.Changes.{with_state}
use Rattle.qz_types.specs.States.{is_acquired, is_acquired_for, unblocked}
use Rattle.qz_types.specs.Words.{key_cmp, same_key, trigger_of, fired_of, without_fired}
use Rattle.qz_model.specs.Executions.{is_exclusive_of, is_busy}
use Rattle.qz_model.specs.Completing.{with_unblocked, without_execution}
use Rattle.qz_model.specs.Invariant.{AreStored, ReferencesAndLimits, IsRowOf, HasFlag, ConcurrencyAgrees, is_blocked, OneExclusive, BlockedAreBusy, is_live_state, TablesValid}
use Rattle.qz_model.specs.Tests.{is_trigger_of}
use Rattle.qz_model.proofs.RowPoints.{All-weaker, any_is_count, count_by-none}
use Rattle.qz_model.proofs.RowLaws.{same_key_laws, ordered-without_fired, only_fired, one_fired, counted_fired, fired_of-without_fired, All-without_fired, count_by-without_fired, length-without_fired}
use Rattle.qz_model.proofs.StateLaws.{ordered-with_states, length-with_states, All-with_states, trigger_of-with_states}
use Rattle.qz_model.proofs.References.{references-triggers, references-fired}
use Rattle.qz_model.proofs.Changes.{HasOneRow, HasItsTrigger, HasNextTime, HasJob, HasCalendar, HasZone, AgreesWithRows, AgreesWithJob, StaysBlocked, IsBlockedBy, HasMember, HasRowTimes, busy-same, HasNumber, SharesNone, HasNumber-kept, HasNumber-alike, each_next, have_next}

-- The triggers of a job, unblocked or not.
All-with_unblocked : (b : Bool) (job : Key) (P Q : TriggerData → Type 0) (rows : List TriggerData) → AllByRecursion P rows
    → ((t : TriggerData) → b ≡ true → same_key job t.spec.job ≡ true → P t → Q (with_state unblocked t)) → ((t : TriggerData) → (b ≡ true → same_key job t.spec.job ≡ false) → P t → Q t)
    → AllByRecursion Q (with_unblocked b job rows)
All-with_unblocked true job P Q rows all changed left = All-with_states unblocked (is_trigger_of job) P Q rows all (λ t is has. changed t refl is has) (λ t is has. left t (λ excluded. is) has)
All-with_unblocked false job P Q rows all changed left = All-weaker P Q rows (λ t has. left t (λ excluded. absurd (cc)) has) all

ordered-with_unblocked : (b : Bool) (job : Key) (rows : List TriggerData) → IsAscending key_cmp (λ r. r.spec.key) rows → IsAscending key_cmp (λ r. r.spec.key) (with_unblocked b job rows)
ordered-with_unblocked true job rows ordered = ordered-with_states unblocked (is_trigger_of job) rows ordered
ordered-with_unblocked false job rows ordered = ordered

pub length-with_unblocked : (b : Bool) (job : Key) (rows : List TriggerData) → length (with_unblocked b job rows) ≡ length rows
length-with_unblocked true job rows = length-with_states unblocked (is_trigger_of job) rows
length-with_unblocked false job rows = refl

-- an acquired trigger isn't changed
pub row_unblocked : (p : TriggerData → Bool) (g : FiredData) (o : Option TriggerData) → IsSomeAnd o (IsRowOf g) → IsSomeAnd (option_map (λ t. if p t then with_state unblocked t else t) o) (IsRowOf g)
row_unblocked p g None is = absurd is
row_unblocked p g (Some t) is = elim (p t) as (λ b. IsRowOf g (if b then with_state unblocked t else t)) [
  | true ↦ record { state = ap unblocked is.state; job = is.job; next = is.next }
  | false ↦ is
]

row-with_unblocked : (b : Bool) (job : Key) (g : FiredData) (rows : List TriggerData) → IsSomeAnd (trigger_of g.trigger rows) (IsRowOf g) → IsSomeAnd (trigger_of g.trigger (with_unblocked b job rows)) (IsRowOf g)
row-with_unblocked true job g rows is =
    subst (λ o. IsSomeAnd o (IsRowOf g)) (sym (trigger_of-with_states unblocked (is_trigger_of job) g.trigger rows)) (row_unblocked (is_trigger_of job) g (trigger_of g.trigger rows) is)
row-with_unblocked false job g rows is = is

-- States of triggers that are unblocked.
pub was_acquired : (s : TriggerState) → unblocked s ≡ state.Acquired → s ≡ state.Acquired
was_acquired state.Waiting e = absurd (cc)
was_acquired state.Acquired e = refl
was_acquired state.Complete e = absurd (cc)
was_acquired state.Blocked e = absurd (cc)
was_acquired state.Paused e = absurd (cc)
was_acquired state.PausedBlocked e = absurd (cc)
was_acquired state.Error e = absurd (cc)

pub not_blocked : (s : TriggerState) → is_blocked (unblocked s) ≡ false
not_blocked state.Waiting = refl
not_blocked state.Acquired = refl
not_blocked state.Complete = refl
not_blocked state.Blocked = refl
not_blocked state.Paused = refl
not_blocked state.PausedBlocked = refl
not_blocked state.Error = refl

pub same_live : (s : TriggerState) → is_live_state (unblocked s) ≡ is_live_state s
same_live state.Waiting = refl
same_live state.Acquired = refl
same_live state.Complete = refl
same_live state.Blocked = refl
same_live state.Paused = refl
same_live state.PausedBlocked = refl
same_live state.Error = refl

module _ (T : SchedulerTables) (f : FiredData) (valid : TablesValid T) (row : fired_of f.entry T.fired ≡ Some f) (started : is_acquired f.state ≡ false) where
  abbrev exclusive : Bool
  exclusive = f.no_concurrent

  abbrev triggers_then : List TriggerData
  triggers_then = with_unblocked exclusive f.job T.triggers

  abbrev fired_then : List FiredData
  fired_then = without_fired f.entry T.fired

  abbrev after_end : SchedulerTables
  after_end = record T { triggers = triggers_then; fired = fired_then }

  same_row : AllByRecursion (λ g. (f.entry == g.entry) ≡ true → g ≡ f) T.fired
  same_row = only_fired f.entry f T.fired valid.references_and_limits.ordered.fired row

  kept_rows : (P : FiredData → Type 0) → AllByRecursion P T.fired → AllByRecursion P fired_then
  kept_rows P all = All-without_fired P P f.entry T.fired all (λ g away is. is)

  -- where the row that goes isn't counted
  same_count : (p : FiredData → Bool) → p f ≡ false → count_by p fired_then ≡ count_by p T.fired
  same_count p out =
      count_by-without_fired p f.entry T.fired
      (All-weaker (λ g. (f.entry == g.entry) ≡ true → g ≡ f) (λ g. (f.entry == g.entry) ≡ true → p g ≡ false) T.fired (λ g is at. ap p (is at) ∙ out) same_row)

  same_elsewhere : (key : Key) → (exclusive ≡ true → same_key key f.job ≡ false) → count_by (is_exclusive_of key) fired_then ≡ count_by (is_exclusive_of key) T.fired
  unfolding is_exclusive_of
  same_elsewhere key other =
      same_count (is_exclusive_of key) (false_from_ne_true (is_exclusive_of key f) (λ is.
      let parts = and_parts (not (is_acquired f.state) && exclusive) (same_key key f.job) is in
      let no = other (and_parts (not (is_acquired f.state)) exclusive parts.0).1 in
      let same = parts.1 in
      absurd (cc)))

  busy_elsewhere : (key : Key) → (exclusive ≡ true → same_key key f.job ≡ false) → is_busy key fired_then ≡ is_busy key T.fired
  busy_elsewhere key other = busy-same key T.fired fired_then (same_elsewhere key other)

  -- the execution was the only one that excluded others
  none_here : (key : Key) → exclusive ≡ true → same_key key f.job ≡ true → count_by (is_exclusive_of key) fired_then ≡ 0
  unfolding is_exclusive_of
  none_here key excluded same =
      let passes : is_exclusive_of key f ≡ true = and_from (not (is_acquired f.state) && exclusive) (same_key key f.job) (and_from (not (is_acquired f.state)) exclusive (ap not started) excluded) same in
      let least : 1 ≤ count_by (is_exclusive_of key) T.fired = counted_fired (is_exclusive_of key) f.entry f T.fired row passes in
      let one : count_by (is_exclusive_of key) T.fired ≡ 1 = omega (arith, valid.one_exclusive.one key) in
      count_by-none (is_exclusive_of key) fired_then
      (All-without_fired (λ g. is_exclusive_of key g ≡ true → (f.entry == g.entry) ≡ true) (λ g. is_exclusive_of key g ≡ false) f.entry T.fired
      (one_fired (is_exclusive_of key) f.entry f T.fired row passes one)
      (λ g away is. false_from_ne_true (is_exclusive_of key g) (λ counted. let at = is counted in absurd (cc))))

  idle_here : (key : Key) → exclusive ≡ true → same_key key f.job ≡ true → is_busy key fired_then ≡ false
  unfolding is_busy
  idle_here key excluded same = any_is_count (is_exclusive_of key) fired_then ∙ ap (nat_lt 0) (none_here key excluded same)

  one_ended : (key : Key) → count_by (is_exclusive_of key) fired_then ≤ 1
  one_ended key = elim (exclusive && same_key key f.job) as (λ b. (exclusive && same_key key f.job) ≡ b → count_by (is_exclusive_of key) fired_then ≤ 1) [
    | true ↦ λ both. let parts = and_parts exclusive (same_key key f.job) both in omega (arith, none_here key parts.0 parts.1)
    | false ↦ λ not_both.
        omega (arith, same_elsewhere key (λ excluded. false_from_ne_true (same_key key f.job) (λ same. let both = and_from exclusive (same_key key f.job) excluded same in absurd (cc))), valid.one_exclusive.one key)
  ] refl

  concurrency_ended : ConcurrencyAgrees T.jobs fired_then
  concurrency_ended = record {
    with_rows = All-without_fired (AgreesWithRows T.fired) (AgreesWithRows fired_then) f.entry T.fired valid.concurrency_agrees.with_rows
        (λ g away agrees executes. kept_rows (HasFlag g.job g.no_concurrent) (agrees executes));
    with_jobs = All-weaker (AgreesWithJob T.fired) (AgreesWithJob fired_then) T.jobs (λ j agrees. kept_rows (HasFlag j.key j.no_concurrent) agrees) valid.concurrency_agrees.with_jobs;
  }

  exclusive_ended : OneExclusive triggers_then fired_then
  exclusive_ended = record {
    one = one_ended;
    blocked = All-with_unblocked exclusive f.job (StaysBlocked T.fired) (StaysBlocked fired_then) T.triggers valid.one_exclusive.blocked
        (λ u excluded same has busy. let idle = idle_here u.spec.job excluded (same_key_laws.symm u.spec.job f.job ∙ same) in absurd (cc))
        (λ u other has busy. has (sym (busy_elsewhere u.spec.job (λ excluded. same_key_laws.symm u.spec.job f.job ∙ other excluded)) ∙ busy));
  }

  blocked_ended : BlockedAreBusy triggers_then fired_then
  blocked_ended = record {
    busy = All-with_unblocked exclusive f.job (IsBlockedBy T.fired) (IsBlockedBy fired_then) T.triggers valid.blocked_are_busy.busy
        (λ u excluded same has shut. let free = not_blocked u.state in absurd (cc))
        (λ u other has shut. busy_elsewhere u.spec.job (λ excluded. same_key_laws.symm u.spec.job f.job ∙ other excluded) ∙ has shut);
  }

  one_row_ended : AllByRecursion (HasOneRow fired_then) triggers_then
  unfolding is_acquired_for
  one_row_ended =
      All-with_unblocked exclusive f.job (HasOneRow T.fired) (HasOneRow fired_then) T.triggers valid.acquired_match.one_row
      (λ u excluded same has taken. same_count (is_acquired_for u.spec.key) (and_left (is_acquired f.state) (same_key u.spec.key f.trigger) started) ∙ has (was_acquired u.state taken))
      (λ u other has taken. same_count (is_acquired_for u.spec.key) (and_left (is_acquired f.state) (same_key u.spec.key f.trigger) started) ∙ has taken)

  stored_ended : AreStored T.jobs triggers_then T.calendars T.zones
  stored_ended = let was = valid.references_and_limits.stored in record {
    trigger_jobs = All-with_unblocked exclusive f.job (HasJob T.jobs) (HasJob T.jobs) T.triggers was.trigger_jobs (λ u excluded same is. is) (λ u other is. is);
    trigger_calendars = All-with_unblocked exclusive f.job (HasCalendar T.calendars) (HasCalendar T.calendars) T.triggers was.trigger_calendars (λ u excluded same is. is) (λ u other is. is);
    trigger_zones = All-with_unblocked exclusive f.job (HasZone T.zones) (HasZone T.zones) T.triggers was.trigger_zones (λ u excluded same is. is) (λ u other is. is);
    bases = was.bases;
    calendar_zones = was.calendar_zones;
    chains = was.chains;
  }

  references_ended : ReferencesAndLimits after_end
  references_ended =
      let was = valid.references_and_limits in
      let first : ReferencesAndLimits (record T { triggers = triggers_then }) =
      references-triggers T was triggers_then (ordered-with_unblocked exclusive f.job T.triggers was.ordered.triggers) stored_ended
      (subst (λ n. n ≤ TRIGGER_LIMIT) (sym (length-with_unblocked exclusive f.job T.triggers)) was.limits.triggers) in
      references-fired (record T { triggers = triggers_then }) first fired_then T.next_entry (ordered-without_fired f.entry T.fired was.ordered.fired)
      (omega (arith, length-without_fired f.entry T.fired, was.limits.fired)) was.limits.next_entry

  numbers_ended : AllByRecursion (HasNumber after_end) triggers_then
  numbers_ended =
      All-with_unblocked exclusive f.job (HasNumber after_end) (HasNumber after_end) T.triggers
      (All-weaker (HasNumber T) (HasNumber after_end) T.triggers
      (λ u has. HasNumber-kept T after_end u (omega arith) (λ n below none. fired_of-without_fired n f.entry T.fired none)
      (λ n all. All-with_unblocked exclusive f.job (SharesNone u.spec.key n) (SharesNone u.spec.key n) T.triggers all (λ x excluded same is. is) (λ x other is. is)) has)
      valid.fresh.added)
      (λ u excluded same has. HasNumber-alike after_end u (with_state unblocked u) refl has)
      (λ u other has. has)

  pub valid-without_execution : TablesValid (without_execution T f)
  unfolding without_execution
  valid-without_execution = record {
    references_and_limits = references_ended;
    acquired_match = record {
      one_row = one_row_ended;
      a_trigger = All-without_fired (HasItsTrigger T.triggers) (HasItsTrigger triggers_then) f.entry T.fired valid.acquired_match.a_trigger
          (λ g away has taken. row-with_unblocked exclusive f.job g T.triggers (has taken));
    };
    concurrency_agrees = concurrency_ended;
    one_exclusive = exclusive_ended;
    blocked_are_busy = blocked_ended;
    rows_of_members = record {
      given = valid.rows_of_members.given;
      distinct = valid.rows_of_members.distinct;
      rows = kept_rows (HasMember T.members) valid.rows_of_members.rows;
    };
    next_times = have_next T.horizon T.last_moment triggers_then
        (All-with_unblocked exclusive f.job (HasNextTime T.horizon) (HasNextTime T.horizon) T.triggers (each_next T valid)
        (λ u excluded same has. (λ live. has.0 (sym (same_live u.state) ∙ live), has.1)) (λ u other has. has)) valid.next_times.moment;
    fresh = record { fired = kept_rows (λ g. g.entry < T.next_entry) valid.fresh.fired; added = numbers_ended };
    row_times = record { rows = kept_rows (HasRowTimes T.horizon) valid.row_times.rows };
  }
