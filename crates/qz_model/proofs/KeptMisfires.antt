-- A Misfires keeps the tables valid.
use Rattle.std.proofs.Common.{◌≡◌, ◌≤◌, ℤ, Bool, true, false, ◌&&◌, List, [], ◌∷◌, fold, filter, Option, Some, None, IsSome, IsSomeAnd, IfSome, is_none, refl, sym, ap, ◌∙◌, subst, arith, if◌then◌else◌}
use Rattle.std.specs.List.{AllByRecursion}
use Rattle.std.proofs.lemmas.Bool.{and_parts}
use Rattle.qz_civil.specs.declared.timings.Kind.{Kind}
use Rattle.qz_civil.specs.declared.timings.Kind.TheVariants.{Simple, Cron, Interval, Daily}
use Rattle.qz_civil.specs.declared.timings.Moved.{Moved}
use Rattle.qz_misfire.proofs.Moves.{moved-next}
use Rattle.qz_types.specs.Rows.{TriggerData, MemberData}
use Rattle.qz_types.specs.declared.limits.TheConstants.{TRIGGER_LIMIT, MISFIRE_LIMIT}
use Rattle.qz_types.specs.declared.triggers.TriggerSpec.{TriggerSpec}
use Rattle.qz_types.specs.declared.triggers.TriggerState.{TriggerState}
use Rattle.qz_types.specs.declared.triggers.TriggerState.TheVariants as state
use Rattle.qz_types.specs.declared.replies.Reply.{Reply}
use Rattle.qz_types.specs.Changes.{counting, moved_trigger}
use Rattle.qz_types.specs.Due.{is_waiting, in_due_order}
use Rattle.qz_types.specs.States.{is_acquired_for}
use Rattle.qz_types.specs.Tables.{SchedulerTables, IsMoment}
use Rattle.qz_types.specs.Outcomes.{accepted}
use Rattle.qz_types.specs.Sorted.{IsAscending}
use Rattle.qz_types.specs.Words.{key_cmp, same_key, trigger_of, with_trigger}
use Rattle.qz_model.specs.Acquiring.{next_time}
use Rattle.qz_model.specs.Due.{is_misfired}
use Rattle.qz_model.specs.Membership.{node_refusal}
use Rattle.qz_model.specs.Misfires.{misfired_triggers, move_of, with_moved, misfires}
use Rattle.qz_model.specs.Plan.{zone_named_by, next_after}
use Rattle.qz_model.specs.Invariant.{AreStored, IsRowOf, is_blocked, is_blocked_or_done, is_live_state, TablesValid}
use Rattle.qz_model.proofs.Apart.{HasOtherKey, AreApart, All-take, apart-take, apart-filter, apart-in_due_order, apart}
use Rattle.qz_model.proofs.RowPoints.{All-weaker, All-both, All-filter}
use Rattle.qz_model.proofs.RowLaws.{ordered-with_trigger, All-with_trigger, each_trigger, only_trigger, trigger_of-with_other, length-with_trigger}
use Rattle.qz_model.proofs.NextTimes.{next_after-within}
use Rattle.qz_model.proofs.References.{references-triggers}
use Rattle.qz_model.proofs.DueLaws.{All-in_due_order, waiting_from, IsStoredWaiting}
use Rattle.qz_model.proofs.Waiting.{none_waiting, other_row, still_waiting}
use Rattle.qz_model.proofs.Changes.{HasOneRow, HasItsTrigger, HasNextTime, HasJob, HasCalendar, HasZone, StaysBlocked, IsBlockedBy, passes, HasNumber, SharesNone, HasNumber-kept, HasNumber-alike, each_next, have_next, valid-moment}

-- the kind keeps its zone
counting_zone : (count : ℤ) (kind : Kind) → zone_named_by (counting count kind) ≡ zone_named_by kind
counting_zone count (Simple interval old) = refl
counting_zone count (Cron fields zone) = refl
counting_zone count (Interval unit every zone preserve skip) = refl
counting_zone count (Daily unit every from to days zone) = refl

-- the state of a trigger that has moved
abbrev state_with : Option ℤ → TriggerState → TriggerState
state_with next s = if is_none next then state.Complete else s

isnt_acquired : (next : Option ℤ) (s : TriggerState) → s ≡ state.Waiting → state_with next s ≡ state.Acquired → ⊥
isnt_acquired None s waits is = absurd (cc)
isnt_acquired (Some n) s waits is = absurd (cc)

still_blocked : (next : Option ℤ) (s : TriggerState) → is_blocked_or_done s ≡ true → is_blocked_or_done (state_with next s) ≡ true
still_blocked None s is = refl
still_blocked (Some n) s is = is

was_blocked : (next : Option ℤ) (s : TriggerState) → is_blocked (state_with next s) ≡ true → is_blocked s ≡ true
was_blocked None s is = absurd (cc)
was_blocked (Some n) s is = is

its_time : (next : Option ℤ) (s : TriggerState) → is_live_state (state_with next s) ≡ true → IsSome next
its_time None s live = absurd (cc)
its_time (Some n) s live = refl

module _ (T : SchedulerTables) (t : TriggerData) (move : Moved) (valid : TablesValid T) (one : IsStoredWaiting T t) (within : IfSome move.next (IsMoment T.horizon)) where
  abbrev triggers_then : List TriggerData
  triggers_then = with_trigger t.spec.key (moved_trigger move) T.triggers

  abbrev after_move : SchedulerTables
  after_move = record T { triggers = triggers_then }

  only : AllByRecursion (λ u. same_key t.spec.key u.spec.key ≡ true → u ≡ t) T.triggers
  only = only_trigger t.spec.key t T.triggers valid.references_and_limits.ordered.triggers one.stored

  stored_moved : AreStored T.jobs triggers_then T.calendars T.zones
  stored_moved = let was = valid.references_and_limits.stored in record {
    trigger_jobs = All-with_trigger (HasJob T.jobs) (HasJob T.jobs) t.spec.key (moved_trigger move) T.triggers was.trigger_jobs (λ u same is. is) (λ u differ is. is);
    trigger_calendars = All-with_trigger (HasCalendar T.calendars) (HasCalendar T.calendars) t.spec.key (moved_trigger move) T.triggers was.trigger_calendars (λ u same is. is) (λ u differ is. is);
    trigger_zones = All-with_trigger (HasZone T.zones) (HasZone T.zones) t.spec.key (moved_trigger move) T.triggers was.trigger_zones
        (λ u same is. rw (counting_zone move.count u.spec.timing.kind) is) (λ u differ is. is);
    bases = was.bases;
    calendar_zones = was.calendar_zones;
    chains = was.chains;
  }

  one_row_moved : AllByRecursion (HasOneRow T.fired) triggers_then
  one_row_moved =
      All-with_trigger (λ u. HasOneRow T.fired u × (same_key t.spec.key u.spec.key ≡ true → u ≡ t)) (HasOneRow T.fired) t.spec.key (moved_trigger move) T.triggers
      (All-both (HasOneRow T.fired) (λ u. same_key t.spec.key u.spec.key ≡ true → u ≡ t) (λ u. HasOneRow T.fired u × (same_key t.spec.key u.spec.key ≡ true → u ≡ t)) T.triggers
      (λ u has was. (has, was)) valid.acquired_match.one_row only)
      (λ u same is taken. absurd (isnt_acquired move.next u.state (ap (λ x. x.state) (is.1 same) ∙ one.waits) taken))
      (λ u differ is. is.0)

  -- no acquired row is for a trigger that waits
  a_trigger_moved : AllByRecursion (HasItsTrigger triggers_then) T.fired
  a_trigger_moved =
      All-both (HasItsTrigger T.triggers) (λ f. is_acquired_for t.spec.key f ≡ false) (HasItsTrigger triggers_then) T.fired
      (λ f has none taken. subst (λ o. IsSomeAnd o (IsRowOf f))
      (sym (trigger_of-with_other f.trigger t.spec.key (moved_trigger move) T.triggers (λ u. refl) (other_row t.spec.key f none taken))) (has taken))
      valid.acquired_match.a_trigger (none_waiting T t valid.acquired_match one)

  numbers_moved : AllByRecursion (HasNumber after_move) triggers_then
  numbers_moved =
      All-with_trigger (HasNumber after_move) (HasNumber after_move) t.spec.key (moved_trigger move) T.triggers
      (All-weaker (HasNumber T) (HasNumber after_move) T.triggers
      (λ u has. HasNumber-kept T after_move u (omega arith) (λ n below none. none)
      (λ n all. All-with_trigger (SharesNone u.spec.key n) (SharesNone u.spec.key n) t.spec.key (moved_trigger move) T.triggers all (λ x same is. is) (λ x differ is. is)) has)
      valid.fresh.added)
      (λ u same has. HasNumber-alike after_move u (moved_trigger move u) refl has)
      (λ u differ has. has)

  -- a trigger that waits is moved
  pub valid-moved : TablesValid after_move
  valid-moved = record {
    references_and_limits = let was = valid.references_and_limits in
        references-triggers T was triggers_then (ordered-with_trigger t.spec.key (moved_trigger move) T.triggers (λ u. refl) was.ordered.triggers) stored_moved
        (subst (λ n. n ≤ TRIGGER_LIMIT) (sym (length-with_trigger t.spec.key (moved_trigger move) T.triggers)) was.limits.triggers);
    acquired_match = record { one_row = one_row_moved; a_trigger = a_trigger_moved };
    concurrency_agrees = valid.concurrency_agrees;
    one_exclusive = record {
      one = valid.one_exclusive.one;
      blocked = All-with_trigger (StaysBlocked T.fired) (StaysBlocked T.fired) t.spec.key (moved_trigger move) T.triggers valid.one_exclusive.blocked
          (λ u same is busy. still_blocked move.next u.state (is busy)) (λ u differ is. is);
    };
    blocked_are_busy = record {
      busy = All-with_trigger (IsBlockedBy T.fired) (IsBlockedBy T.fired) t.spec.key (moved_trigger move) T.triggers valid.blocked_are_busy.busy
          (λ u same is blocked. is (was_blocked move.next u.state blocked)) (λ u differ is. is);
    };
    rows_of_members = valid.rows_of_members;
    next_times = have_next T.horizon T.last_moment triggers_then
        (All-with_trigger (HasNextTime T.horizon) (HasNextTime T.horizon) t.spec.key (moved_trigger move) T.triggers (each_next T valid)
        (λ u same is. (λ live. its_time move.next u.state live, within)) (λ u differ is. is)) valid.next_times.moment;
    fresh = record { fired = valid.fresh.fired; added = numbers_moved };
    row_times = valid.row_times;
  }

-- each later fire time lies within the horizon
abbrev pub HasTimesWithin : SchedulerTables → ℤ → Type 0
HasTimesWithin T m = (s : TriggerSpec) → IfSome (next_after T s m) (IsMoment T.horizon)

-- each of these is moved
valid-moved_each : (T : SchedulerTables) (m : ℤ) (triggers ts : List TriggerData) → IsMoment T.horizon m → HasTimesWithin T m → TablesValid (record T { triggers = triggers })
    → AllByRecursion (IsStoredWaiting (record T { triggers = triggers })) ts → AreApart ts → TablesValid (record T { triggers = fold (with_moved T m) triggers ts })
unfolding with_moved move_of
valid-moved_each T m triggers [] is within valid each apart = valid
valid-moved_each T m triggers (t ∷ ts) is within valid each apart =
    let U : SchedulerTables = record T { triggers = triggers } in
    let move : Moved = move_of T m t in
    let next : IfSome move.next (IsMoment T.horizon) = moved-next (IsMoment T.horizon) t.spec.timing (next_after T t.spec m) (next_time t) t.times m is (within t.spec) in
    valid-moved_each T m (with_moved T m triggers t) ts is within (valid-moved U t move valid each.0 next)
    (All-both (IsStoredWaiting U) (HasOtherKey t.spec.key) (IsStoredWaiting (record T { triggers = with_moved T m triggers t })) ts
    (λ u one other. still_waiting U (record T { triggers = with_moved T m triggers t }) t.spec.key (moved_trigger move) u (λ x. refl) refl other one) each.1 apart.0)
    apart.1

abbrev waits_misfired : SchedulerTables → ℤ → TriggerData → Bool
waits_misfired T m t = is_waiting t.state && is_misfired T m t

pub each_misfired : (T : SchedulerTables) (m : ℤ) → IsAscending key_cmp (λ r. r.spec.key) T.triggers → AllByRecursion (IsStoredWaiting T) (misfired_triggers T m)
unfolding misfired_triggers
each_misfired T m ordered =
    All-take (IsStoredWaiting T) MISFIRE_LIMIT (in_due_order (filter (waits_misfired T m) T.triggers))
    (All-in_due_order (IsStoredWaiting T) (filter (waits_misfired T m) T.triggers)
    (All-filter (IsStoredWaiting T) (waits_misfired T m) T.triggers
    (All-weaker (λ t. trigger_of t.spec.key T.triggers ≡ Some t) (λ t. waits_misfired T m t ≡ true → IsStoredWaiting T t) T.triggers
    (λ t found passes. record { stored = found; waits = waiting_from t.state (and_parts (is_waiting t.state) (is_misfired T m t) passes).0 }) (each_trigger T.triggers ordered))))

pub apart_misfired : (T : SchedulerTables) (m : ℤ) → IsAscending key_cmp (λ r. r.spec.key) T.triggers → AreApart (misfired_triggers T m)
unfolding misfired_triggers
apart_misfired T m ordered =
    apart-take MISFIRE_LIMIT (in_due_order (filter (waits_misfired T m) T.triggers))
    (apart-in_due_order (filter (waits_misfired T m) T.triggers) (apart-filter (waits_misfired T m) T.triggers (apart T.triggers ordered)))

pub kept-misfires : (T T' : SchedulerTables) (m : ℤ) (me : MemberData) (r : Reply) → TablesValid T → IsMoment T.horizon m → misfires T m me ≡ accepted T' r → TablesValid T'
kept-misfires T T' m me r valid is e =
    let way = passes (node_refusal T me) _ T' r e in
    let ordered = valid.references_and_limits.ordered.triggers in
    let moved_all = valid-moved_each T m T.triggers (misfired_triggers T m) is (λ s. next_after-within T s m is) valid (each_misfired T m ordered) (apart_misfired T m ordered) in
    subst TablesValid (cc) (valid-moment (record T { triggers = fold (with_moved T m) T.triggers (misfired_triggers T m) }) m moved_all is)
