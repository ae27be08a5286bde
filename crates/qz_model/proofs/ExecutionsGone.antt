-- The executions of a member that has no acquired rows end at once, and the tables stay valid: the triggers whose jobs they
-- excluded are unblocked.
use Rattle.std.proofs.Common.{◌≡◌, ℕ, ◌<◌, ◌≤◌, Bool, true, false, not, ◌&&◌, List, count_by, nat_lt, filter, None, IsSomeAnd, refl, sym, ap, ◌∙◌, subst, arith}
use Rattle.std.specs.List.{AllByRecursion, list_any}
use Rattle.std.specs.Ordering.{nat_cmp}
use Rattle.std.proofs.lemmas.Bool.{and_parts, and_from, false_from_ne_true}
use Rattle.std.proofs.lemmas.Cmp.{nat_cmp_total}
use Rattle.qz_types.specs.Rows.{TriggerData, MemberData, FiredData}
use Rattle.qz_types.specs.declared.keys.Key.{Key}
use Rattle.qz_types.specs.declared.limits.TheConstants.{TRIGGER_LIMIT}
use Rattle.qz_types.specs.Changes.{with_state, with_states}
use Rattle.qz_types.specs.States.{is_acquired, is_acquired_for, unblocked}
use Rattle.qz_types.specs.Tables.{SchedulerTables}
use Rattle.qz_types.specs.Words.{same_key, trigger_of, fired_of}
use Rattle.qz_model.specs.Executions.{is_exclusive_of, is_busy}
use Rattle.qz_model.specs.Invariant.{ReferencesAndLimits, IsRowOf, HasFlag, TablesValid}
use Rattle.qz_model.specs.Recovery.{lost_of, rows_of_others, has_excluded, unblocked_by}
use Rattle.qz_model.specs.Tests.{is_of}
use Rattle.qz_model.proofs.Changes.{HasOneRow, HasItsTrigger, HasNextTime, HasJob, HasCalendar, HasZone, AgreesWithRows, AgreesWithJob, StaysBlocked, IsBlockedBy, HasMember, HasRowTimes, busy-same, HasNumber, SharesNone, HasNumber-kept, HasNumber-alike, each_next, have_next}
use Rattle.qz_model.proofs.Ended.{row_unblocked, was_acquired, not_blocked, same_live}
use Rattle.qz_model.proofs.LookUps.{row_of-filter_none, IsAscending-filter}
use Rattle.qz_model.proofs.References.{references-triggers, references-fired}
use Rattle.qz_model.proofs.RowLaws.{same_key_laws}
use Rattle.qz_model.proofs.RowPoints.{All-weaker, All-left, All-none, any_is_count, any-filter, any-alike, count_by-left, count_by-left_le, count_by-left_lt, length-filter_le}
use Rattle.qz_model.proofs.StateLaws.{ordered-with_states, length-with_states, All-with_states, trigger_of-with_states}

rearranged : (begun mine alone same : Bool) → ((begun && mine) && (alone && same)) ≡ (mine && ((begun && alone) && same))
rearranged true true alone same = refl
rearranged true false alone same = refl
rearranged false true alone same = refl
rearranged false false alone same = refl

module _ (T : SchedulerTables) (me : MemberData) (valid : TablesValid T) (begun : AllByRecursion (λ f. (is_acquired f.state && is_of me f) ≡ false) T.fired) where
  abbrev pub excluded : TriggerData → Bool
  excluded t = has_excluded (lost_of me T.fired) t.spec.job

  abbrev pub triggers_then : List TriggerData
  triggers_then = with_states unblocked excluded T.triggers

  abbrev pub fired_then : List FiredData
  fired_then = filter (λ f. not (is_of me f)) T.fired

  abbrev pub after_ends : SchedulerTables
  after_ends = record T { triggers = triggers_then; fired = fired_then }

  kept_rows : (P : FiredData → Type 0) → AllByRecursion P T.fired → AllByRecursion P fired_then
  kept_rows P all = All-left P P (is_of me) T.fired all (λ f away is. is)

  -- an execution that ends excluded others of this job
  pub excluded_by : (key : Key) → has_excluded (lost_of me T.fired) key ≡ list_any (λ f. is_of me f && is_exclusive_of key f) T.fired
  unfolding lost_of is_exclusive_of
  excluded_by key =
      any-filter (λ f. f.no_concurrent && same_key f.job key) (λ f. not (is_acquired f.state) && is_of me f) T.fired
      ∙ any-alike (λ f. (not (is_acquired f.state) && is_of me f) && (f.no_concurrent && same_key f.job key)) (λ f. is_of me f && is_exclusive_of key f) T.fired
      (λ f. rearranged (not (is_acquired f.state)) (is_of me f) f.no_concurrent (same_key f.job key)
      ∙ ap (λ b. is_of me f && ((not (is_acquired f.state) && f.no_concurrent) && b)) (same_key_laws.symm f.job key))

  -- then none does any more
  pub idle_then : (key : Key) → has_excluded (lost_of me T.fired) key ≡ true → is_busy key fired_then ≡ false
  unfolding is_busy
  idle_then key is =
      let none : count_by (is_exclusive_of key) fired_then ≡ 0 =
      omega (arith, count_by-left_lt (is_exclusive_of key) (is_of me) T.fired (sym (excluded_by key) ∙ is), valid.one_exclusive.one key) in
      any_is_count (is_exclusive_of key) fired_then ∙ ap (nat_lt 0) none

  same_count : (key : Key) → has_excluded (lost_of me T.fired) key ≡ false → count_by (is_exclusive_of key) fired_then ≡ count_by (is_exclusive_of key) T.fired
  same_count key none =
      count_by-left (is_exclusive_of key) (is_of me) T.fired
      (All-weaker (λ f. (is_of me f && is_exclusive_of key f) ≡ false) (λ f. is_of me f ≡ true → is_exclusive_of key f ≡ false) T.fired
      (λ f not_both mine. ap (λ b. b && is_exclusive_of key f) (sym mine) ∙ not_both)
      (All-none (λ f. is_of me f && is_exclusive_of key f) T.fired (sym (excluded_by key) ∙ none)))

  same_busy : (key : Key) → has_excluded (lost_of me T.fired) key ≡ false → is_busy key fired_then ≡ is_busy key T.fired
  same_busy key none = busy-same key T.fired fired_then (same_count key none)

  -- no acquired row goes
  same_rows : (key : Key) → count_by (is_acquired_for key) fired_then ≡ count_by (is_acquired_for key) T.fired
  unfolding is_acquired_for
  same_rows key =
      count_by-left (is_acquired_for key) (is_of me) T.fired
      (All-weaker (λ f. (is_acquired f.state && is_of me f) ≡ false) (λ f. is_of me f ≡ true → is_acquired_for key f ≡ false) T.fired
      (λ f not_both mine. false_from_ne_true (is_acquired_for key f) (λ is.
      let both = and_from (is_acquired f.state) (is_of me f) (and_parts (is_acquired f.state) (same_key key f.trigger) is).0 mine in absurd (cc))) begun)

  with_ends : (P Q : TriggerData → Type 0) → AllByRecursion P T.triggers → ((t : TriggerData) → excluded t ≡ true → P t → Q (with_state unblocked t)) → ((t : TriggerData) → excluded t ≡ false → P t → Q t)
      → AllByRecursion Q triggers_then
  with_ends P Q all changed left = All-with_states unblocked excluded P Q T.triggers all changed left

  -- what holds of triggers whatever their state is
  pub with_same : (P : TriggerData → Type 0) → ((t : TriggerData) → P t → P (with_state unblocked t)) → AllByRecursion P T.triggers → AllByRecursion P triggers_then
  with_same P changed all = with_ends P P all (λ t is has. changed t has) (λ t out has. has)

  references_then : ReferencesAndLimits after_ends
  references_then =
      let was = valid.references_and_limits in
      let first : ReferencesAndLimits (record T { triggers = triggers_then }) =
      references-triggers T was triggers_then (ordered-with_states unblocked excluded T.triggers was.ordered.triggers)
      (record {
        trigger_jobs = with_same (HasJob T.jobs) (λ t is. is) was.stored.trigger_jobs;
        trigger_calendars = with_same (HasCalendar T.calendars) (λ t is. is) was.stored.trigger_calendars;
        trigger_zones = with_same (HasZone T.zones) (λ t is. is) was.stored.trigger_zones;
        bases = was.stored.bases;
        calendar_zones = was.stored.calendar_zones;
        chains = was.stored.chains;
      })
      (subst (λ n. n ≤ TRIGGER_LIMIT) (sym (length-with_states unblocked excluded T.triggers)) was.limits.triggers) in
      references-fired (record T { triggers = triggers_then }) first fired_then T.next_entry
      (IsAscending-filter nat_cmp (λ r. r.entry) nat_cmp_total (λ f. not (is_of me f)) T.fired was.ordered.fired)
      (omega (arith, length-filter_le (λ f. not (is_of me f)) T.fired, was.limits.fired)) was.limits.next_entry

  -- no row that goes comes again
  still_none : (n : ℕ) → fired_of n T.fired ≡ None → fired_of n fired_then ≡ None
  unfolding fired_of
  still_none n absent = row_of-filter_none nat_cmp (λ r. r.entry) n (λ f. not (is_of me f)) T.fired absent

  pub valid_then : TablesValid after_ends
  valid_then = record {
    references_and_limits = references_then;
    acquired_match = record {
      one_row = with_ends (HasOneRow T.fired) (HasOneRow fired_then) valid.acquired_match.one_row
          (λ t is has taken. same_rows t.spec.key ∙ has (was_acquired t.state taken)) (λ t out has taken. same_rows t.spec.key ∙ has taken);
      a_trigger = All-left (HasItsTrigger T.triggers) (HasItsTrigger triggers_then) (is_of me) T.fired valid.acquired_match.a_trigger
          (λ f away has taken. subst (λ o. IsSomeAnd o (IsRowOf f)) (sym (trigger_of-with_states unblocked excluded f.trigger T.triggers)) (row_unblocked excluded f (trigger_of f.trigger T.triggers) (has taken)));
    };
    concurrency_agrees = record {
      with_rows = All-left (AgreesWithRows T.fired) (AgreesWithRows fired_then) (is_of me) T.fired valid.concurrency_agrees.with_rows
          (λ f away agrees executes. kept_rows (HasFlag f.job f.no_concurrent) (agrees executes));
      with_jobs = All-weaker (AgreesWithJob T.fired) (AgreesWithJob fired_then) T.jobs (λ j agrees. kept_rows (HasFlag j.key j.no_concurrent) agrees) valid.concurrency_agrees.with_jobs;
    };
    one_exclusive = record {
      one = λ key. omega (arith, count_by-left_le (is_exclusive_of key) (is_of me) T.fired, valid.one_exclusive.one key);
      blocked = with_ends (StaysBlocked T.fired) (StaysBlocked fired_then) valid.one_exclusive.blocked
          (λ t is has busy. let idle = idle_then t.spec.job is in absurd (cc))
          (λ t out has busy. has (sym (same_busy t.spec.job out) ∙ busy));
    };
    blocked_are_busy = record {
      busy = with_ends (IsBlockedBy T.fired) (IsBlockedBy fired_then) valid.blocked_are_busy.busy
          (λ t is has shut. let free = not_blocked t.state in absurd (cc))
          (λ t out has shut. same_busy t.spec.job out ∙ has shut);
    };
    rows_of_members = record {
      given = valid.rows_of_members.given;
      distinct = valid.rows_of_members.distinct;
      rows = kept_rows (HasMember T.members) valid.rows_of_members.rows;
    };
    next_times = have_next T.horizon T.last_moment triggers_then
        (with_ends (HasNextTime T.horizon) (HasNextTime T.horizon) (each_next T valid) (λ t is has. (λ live. has.0 (sym (same_live t.state) ∙ live), has.1)) (λ t out has. has)) valid.next_times.moment;
    fresh = record {
      fired = kept_rows (λ f. f.entry < T.next_entry) valid.fresh.fired;
      added = with_same (HasNumber after_ends) (λ t has. HasNumber-alike after_ends t (with_state unblocked t) refl has)
          (All-weaker (HasNumber T) (HasNumber after_ends) T.triggers
          (λ t has. HasNumber-kept T after_ends t (omega arith) (λ n below none. still_none n none) (λ n all. with_same (SharesNone t.spec.key n) (λ x is. is) all) has) valid.fresh.added);
    };
    row_times = record { rows = kept_rows (HasRowTimes T.horizon) valid.row_times.rows };
  }

  pub valid-without_executions : TablesValid (record T { triggers = unblocked_by (lost_of me T.fired) T.triggers; fired = rows_of_others me T.fired })
  unfolding unblocked_by rows_of_others with_states
  valid-without_executions = valid_then
