-- Acquiring triggers keeps the tables valid.
use Rattle.std.proofs.Common.{◌≡◌, ℕ, zero, suc, ◌+◌, ◌<◌, ◌≤◌, ℤ, ◌+ℤ◌, true, false, not, ◌&&◌, List, [], ◌∷◌, fold, filter, take, length, nat_lt, count_by, Bool, Option, Some, None, IsSomeAnd, option_map, refl, sym, ap, ◌∙◌, subst, arith, zero-add, if◌then◌else◌}
use Rattle.std.specs.List.{AllByRecursion}
use Rattle.std.proofs.lemmas.Bool.{eqb-true, ltb-false}
use Rattle.qz_types.specs.Rows.{JobData, TriggerData, MemberData, FiredData}
use Rattle.qz_types.specs.declared.limits.TheConstants.{TRIGGER_LIMIT, FIRED_LIMIT, NUMBER_LIMIT}
use Rattle.qz_types.specs.declared.triggers.TriggerState.TheVariants as state
use Rattle.qz_types.specs.declared.replies.Reply.{Reply}
use Rattle.qz_types.specs.declared.replies.Refusal.{Refusal}
use Rattle.qz_types.specs.declared.replies.Refusal.TheVariants.{Fenced, TooMany}
use Rattle.qz_types.specs.declared.keys.Key.{Key}
use Rattle.qz_types.specs.Changes.{in_state}
use Rattle.qz_types.specs.Sorted.{IsAscending}
use Rattle.qz_types.specs.States.{is_acquired, is_acquired_for}
use Rattle.qz_types.specs.Tables.{SchedulerTables, IsMoment}
use Rattle.qz_types.specs.Outcomes.{accepted}
use Rattle.qz_types.specs.Words.{key_cmp, same_key, trigger_of, with_trigger, member_of, put_fired}
use Rattle.qz_model.specs.Acquiring.{acquire_refusal, is_sibling, first_of_each, chosen, acquired_row, with_acquired, acquire}
use Rattle.qz_model.specs.Due.{is_due, due_triggers}
use Rattle.qz_model.specs.Executions.{is_exclusive_of, is_busy}
use Rattle.qz_model.specs.Invariant.{AreStored, ReferencesAndLimits, IsRowOf, HasFlag, ConcurrencyAgrees, is_blocked_or_done, OneExclusive, BlockedAreBusy, RowsOfMembers, is_live_state, TablesValid}
use Rattle.qz_model.specs.Membership.{live_epoch, is_live, node_refusal}
use Rattle.qz_model.specs.Tests.{refuse_if, or_refusal, stored_job}
use Rattle.qz_model.proofs.Apart.{HasOtherKey, AreApart, All-take, All-filtered, apart-take, apart-filter, apart-in_due_order, apart}
use Rattle.qz_model.proofs.RowPoints.{All-weaker, All-both, count_by-none}
use Rattle.qz_model.proofs.RowLaws.{same_key_laws, ordered-with_trigger, All-with_trigger, only_trigger, trigger_of-with_trigger, length-with_trigger, ordered-put_fired, fired_of-above, fired_of-put_fired, All-put_fired, count_by-put_fired, length-put_fired}
use Rattle.qz_model.proofs.References.{references-triggers, references-fired}
use Rattle.qz_model.proofs.DueLaws.{IsStoredWaiting, each_due}
use Rattle.qz_model.proofs.Waiting.{none_waiting, has_next, still_waiting}
use Rattle.qz_model.proofs.Changes.{HasOneRow, HasItsTrigger, HasNextTime, HasJob, HasCalendar, HasZone, AgreesWithRows, AgreesWithJob, StaysBlocked, IsBlockedBy, HasMember, HasRowTimes, busy-same, passes, HasNumber, SharesNone, HasNumber-kept, HasNumber-alike, each_next, have_next, valid-moment}

found_mapped : (P : TriggerData → Type 0) (g : TriggerData → TriggerData) (o : Option TriggerData) → ((u : TriggerData) → P u → P (g u)) → IsSomeAnd o P → IsSomeAnd (option_map g o) P
found_mapped P g None keeps is = is
found_mapped P g (Some u) keeps is = keeps u is

module _ (T : SchedulerTables) (me : MemberData) (t : TriggerData) (valid : TablesValid T)
    (member : IsSomeAnd (member_of me.node T.members) (λ m. m.epoch ≡ me.epoch)) (one : IsStoredWaiting T t) where
  abbrev new_row : FiredData
  new_row = acquired_row T.next_entry me t (stored_job t.spec.job T.jobs)

  one_row_acquired : AllByRecursion (HasOneRow (put_fired new_row T.fired)) (with_trigger t.spec.key (in_state state.Acquired) T.triggers)
  unfolding acquired_row is_acquired_for
  one_row_acquired =
      All-with_trigger (HasOneRow T.fired) (HasOneRow (put_fired new_row T.fired))
      t.spec.key (in_state state.Acquired) T.triggers valid.acquired_match.one_row
      (λ u same was taken.
      let none : count_by (is_acquired_for u.spec.key) T.fired ≡ 0 =
      count_by-none (is_acquired_for u.spec.key) T.fired (All-weaker (λ f. is_acquired_for t.spec.key f ≡ false) (λ f. is_acquired_for u.spec.key f ≡ false) T.fired
      (λ f no. ap (λ b. is_acquired f.state && b) (sym (same_key_laws.congr t.spec.key u.spec.key f.trigger same)) ∙ no)
      (none_waiting T t valid.acquired_match one)) in
      count_by-put_fired (is_acquired_for u.spec.key) new_row T.fired ∙ rw (same_key_laws.symm u.spec.key t.spec.key ∙ same, none) refl)
      (λ u differ was taken. count_by-put_fired (is_acquired_for u.spec.key) new_row T.fired ∙ rw (same_key_laws.symm u.spec.key t.spec.key ∙ differ, was taken) refl)

  a_trigger_acquired : AllByRecursion (HasItsTrigger (with_trigger t.spec.key (in_state state.Acquired) T.triggers)) (put_fired new_row T.fired)
  unfolding acquired_row
  a_trigger_acquired =
      All-put_fired (HasItsTrigger (with_trigger t.spec.key (in_state state.Acquired) T.triggers)) new_row T.fired
      (λ taken.
      let now : trigger_of t.spec.key (with_trigger t.spec.key (in_state state.Acquired) T.triggers) ≡ Some (in_state state.Acquired t) =
      trigger_of-with_trigger t.spec.key t.spec.key (in_state state.Acquired) T.triggers (λ u. refl) ∙ rw (one.stored, same_key_laws.refl t.spec.key) refl in
      subst (λ o. IsSomeAnd o (IsRowOf new_row)) (sym now) (record { state = refl; job = refl; next = has_next T t valid one }))
      (All-weaker (HasItsTrigger T.triggers)
      (HasItsTrigger (with_trigger t.spec.key (in_state state.Acquired) T.triggers)) T.fired
      (λ f has taken. subst (λ o. IsSomeAnd o (IsRowOf f)) (sym (trigger_of-with_trigger f.trigger t.spec.key (in_state state.Acquired) T.triggers (λ u. refl)))
      (found_mapped (IsRowOf f) _ (trigger_of f.trigger T.triggers)
      (λ u row. elim (same_key t.spec.key u.spec.key) as (λ b. IsRowOf f (if b then in_state state.Acquired u else u)) [ true ↦ record { state = refl; job = row.job; next = row.next } | false ↦ row ])
      (has taken)))
      valid.acquired_match.a_trigger)

  next_times_acquired : AllByRecursion (HasNextTime T.horizon) (with_trigger t.spec.key (in_state state.Acquired) T.triggers)
  next_times_acquired =
      All-with_trigger (λ u. HasNextTime T.horizon u × (same_key t.spec.key u.spec.key ≡ true → u ≡ t))
      (HasNextTime T.horizon) t.spec.key (in_state state.Acquired) T.triggers
      (All-both (HasNextTime T.horizon) (λ u. same_key t.spec.key u.spec.key ≡ true → u ≡ t)
      (λ u. HasNextTime T.horizon u × (same_key t.spec.key u.spec.key ≡ true → u ≡ t)) T.triggers
      (λ u has only. (has, only)) (each_next T valid) (only_trigger t.spec.key t T.triggers valid.references_and_limits.ordered.triggers one.stored))
      (λ u same is. (λ live. is.0.0 (ap (λ x. is_live_state x.state) (is.1 same) ∙ ap is_live_state one.waits), is.0.1))
      (λ u differ is. is.0)

  abbrev after_acquire : SchedulerTables
  after_acquire = record T { triggers = with_trigger t.spec.key (in_state state.Acquired) T.triggers; fired = put_fired new_row T.fired; next_entry = T.next_entry + 1 }

  numbers_acquired : AllByRecursion (HasNumber after_acquire) (with_trigger t.spec.key (in_state state.Acquired) T.triggers)
  unfolding acquired_row
  numbers_acquired =
      All-with_trigger (HasNumber after_acquire) (HasNumber after_acquire) t.spec.key (in_state state.Acquired) T.triggers
      (All-weaker (HasNumber T) (HasNumber after_acquire) T.triggers
      (λ u has. HasNumber-kept T after_acquire u (omega arith) (λ n below none. fired_of-put_fired n new_row T.fired below none)
      (λ n all. All-with_trigger (SharesNone u.spec.key n) (SharesNone u.spec.key n) t.spec.key (in_state state.Acquired) T.triggers all (λ x same is. is) (λ x differ is. is)) has)
      valid.fresh.added)
      (λ u same has. HasNumber-alike after_acquire u (in_state state.Acquired u) refl has)
      (λ u differ has. has)

  abbrev triggers_then : List TriggerData
  triggers_then = with_trigger t.spec.key (in_state state.Acquired) T.triggers

  abbrev fired_then : List FiredData
  fired_then = put_fired new_row T.fired

  -- the new row is of no execution
  same_exclusive : (key : Key) → count_by (is_exclusive_of key) fired_then ≡ count_by (is_exclusive_of key) T.fired
  unfolding is_exclusive_of acquired_row
  same_exclusive key = count_by-put_fired (is_exclusive_of key) new_row T.fired ∙ zero-add _

  same_busy : (key : Key) → is_busy key fired_then ≡ is_busy key T.fired
  same_busy key = busy-same key T.fired fired_then (same_exclusive key)

  only : AllByRecursion (λ u. same_key t.spec.key u.spec.key ≡ true → u ≡ t) T.triggers
  only = only_trigger t.spec.key t T.triggers valid.references_and_limits.ordered.triggers one.stored

  concurrency_acquired : ConcurrencyAgrees T.jobs fired_then
  unfolding acquired_row
  concurrency_acquired = record {
    with_rows = All-put_fired (AgreesWithRows fired_then) new_row T.fired (λ begun. absurd (cc))
        (All-weaker (AgreesWithRows T.fired) (AgreesWithRows fired_then) T.fired
        (λ f agrees begun. All-put_fired (HasFlag f.job f.no_concurrent) new_row T.fired (λ new. absurd (cc)) (agrees begun)) valid.concurrency_agrees.with_rows);
    with_jobs = All-weaker (AgreesWithJob T.fired) (AgreesWithJob fired_then) T.jobs
        (λ j agrees. All-put_fired (HasFlag j.key j.no_concurrent) new_row T.fired (λ new. absurd (cc)) agrees) valid.concurrency_agrees.with_jobs;
  }

  -- a trigger that waits has no job that is busy
  exclusive_acquired : OneExclusive triggers_then fired_then
  exclusive_acquired = record {
    one = λ key. subst (λ n. n ≤ 1) (sym (same_exclusive key)) (valid.one_exclusive.one key);
    blocked = All-with_trigger (λ u. StaysBlocked T.fired u × (same_key t.spec.key u.spec.key ≡ true → u ≡ t)) (StaysBlocked fired_then) t.spec.key (in_state state.Acquired) T.triggers
        (All-both (StaysBlocked T.fired) (λ u. same_key t.spec.key u.spec.key ≡ true → u ≡ t) (λ u. StaysBlocked T.fired u × (same_key t.spec.key u.spec.key ≡ true → u ≡ t)) T.triggers
        (λ u stays is. (stays, is)) valid.one_exclusive.blocked only)
        (λ u same is busy.
        let waiting : is_blocked_or_done u.state ≡ false = ap (λ x. is_blocked_or_done x.state) (is.1 same) ∙ ap is_blocked_or_done one.waits in
        let blocked : is_blocked_or_done u.state ≡ true = is.0 (sym (same_busy u.spec.job) ∙ busy) in
        absurd (cc))
        (λ u differ is busy. is.0 (sym (same_busy u.spec.job) ∙ busy));
  }

  blocked_acquired : BlockedAreBusy triggers_then fired_then
  blocked_acquired = record {
    busy = All-with_trigger (IsBlockedBy T.fired) (IsBlockedBy fired_then) t.spec.key (in_state state.Acquired) T.triggers valid.blocked_are_busy.busy
        (λ u same is blocked. absurd (cc)) (λ u differ is blocked. same_busy u.spec.job ∙ is blocked);
  }

  members_acquired : RowsOfMembers T.members T.next_epoch fired_then
  unfolding acquired_row
  members_acquired = record {
    given = valid.rows_of_members.given;
    distinct = valid.rows_of_members.distinct;
    rows = All-put_fired (HasMember T.members) new_row T.fired member valid.rows_of_members.rows;
  }

  stored_acquired : AreStored T.jobs triggers_then T.calendars T.zones
  stored_acquired = let was = valid.references_and_limits.stored in record {
    trigger_jobs = All-with_trigger (HasJob T.jobs) (HasJob T.jobs) t.spec.key (in_state state.Acquired) T.triggers was.trigger_jobs (λ u same is. is) (λ u differ is. is);
    trigger_calendars = All-with_trigger (HasCalendar T.calendars) (HasCalendar T.calendars) t.spec.key (in_state state.Acquired) T.triggers was.trigger_calendars (λ u same is. is) (λ u differ is. is);
    trigger_zones = All-with_trigger (HasZone T.zones) (HasZone T.zones) t.spec.key (in_state state.Acquired) T.triggers was.trigger_zones (λ u same is. is) (λ u differ is. is);
    bases = was.bases;
    calendar_zones = was.calendar_zones;
    chains = was.chains;
  }

  references_acquired : length T.fired + 1 ≤ FIRED_LIMIT → T.next_entry + 1 ≤ NUMBER_LIMIT → ReferencesAndLimits after_acquire
  unfolding acquired_row
  references_acquired room number =
      let was = valid.references_and_limits in
      let first : ReferencesAndLimits (record T { triggers = triggers_then }) = references-triggers T was triggers_then (ordered-with_trigger t.spec.key (in_state state.Acquired) T.triggers (λ u. refl) was.ordered.triggers) stored_acquired
      (subst (λ n. n ≤ TRIGGER_LIMIT) (sym (length-with_trigger t.spec.key (in_state state.Acquired) T.triggers)) was.limits.triggers) in
      references-fired (record T { triggers = triggers_then }) first fired_then (T.next_entry + 1)
      (ordered-put_fired new_row T.fired was.ordered.fired (fired_of-above T.next_entry T.fired valid.fresh.fired))
      (subst (λ n. n ≤ FIRED_LIMIT) (sym (length-put_fired new_row T.fired)) room) number

  -- a trigger that waits is acquired, and gets a row
  pub valid-acquired : length T.fired + 1 ≤ FIRED_LIMIT → T.next_entry + 1 ≤ NUMBER_LIMIT → TablesValid after_acquire
  unfolding acquired_row
  valid-acquired room number = record {
    references_and_limits = references_acquired room number;
    acquired_match = record { one_row = one_row_acquired; a_trigger = a_trigger_acquired };
    concurrency_agrees = concurrency_acquired;
    one_exclusive = exclusive_acquired;
    blocked_are_busy = blocked_acquired;
    rows_of_members = members_acquired;
    next_times = have_next T.horizon T.last_moment triggers_then next_times_acquired valid.next_times.moment;
    fresh = record {
      fired = All-put_fired (λ f. f.entry < T.next_entry + 1) new_row T.fired (omega arith) (All-weaker (λ f. f.entry < T.next_entry) (λ f. f.entry < T.next_entry + 1) T.fired (λ f below. omega arith) valid.fresh.fired);
      added = numbers_acquired;
    };
    row_times = record { rows = All-put_fired (HasRowTimes T.horizon) new_row T.fired refl valid.row_times.rows };
  }

-- a node that isn't fenced is a member under its epoch
live_member : (me : MemberData) (o : Option MemberData) → is_live me.epoch (option_map (λ m. m.epoch) o) ≡ true → IsSomeAnd o (λ m. m.epoch ≡ me.epoch)
live_member me None live = absurd (cc)
live_member me (Some m) live = sym (eqb-true me.epoch m.epoch live)

pub member_of_actor : (T : SchedulerTables) (me : MemberData) → node_refusal T me ≡ None → IsSomeAnd (member_of me.node T.members) (λ m. m.epoch ≡ me.epoch)
unfolding node_refusal live_epoch
member_of_actor T me clear =
    elim (is_live me.epoch (live_epoch T me.node)) as (λ b. is_live me.epoch (live_epoch T me.node) ≡ b → (if b then None else Some (Fenced (live_epoch T me.node))) ≡ None → IsSomeAnd (member_of me.node T.members) (λ m. m.epoch ≡ me.epoch)) [
      | true ↦ λ live e. live_member me (member_of me.node T.members) live
      | false ↦ λ live e. absurd (cc)
    ] refl clear

-- each of these is acquired
valid-acquired_each : (me : MemberData) (T : SchedulerTables) (ts : List TriggerData) → TablesValid T → IsSomeAnd (member_of me.node T.members) (λ x. x.epoch ≡ me.epoch)
    → AllByRecursion (IsStoredWaiting T) ts → AreApart ts → length T.fired + length ts ≤ FIRED_LIMIT → T.next_entry + length ts ≤ NUMBER_LIMIT → TablesValid (fold (with_acquired me) T ts)
unfolding with_acquired
valid-acquired_each me T [] valid member each apart room number = valid
valid-acquired_each me T (t ∷ ts) valid member each apart room number =
    let row = acquired_row T.next_entry me t (stored_job t.spec.job T.jobs) in
    valid-acquired_each me (with_acquired me T t) ts (valid-acquired T me t valid member each.0 (omega arith) (omega arith)) member
    (All-both (IsStoredWaiting T) (HasOtherKey t.spec.key) (IsStoredWaiting (with_acquired me T t)) ts
    (λ u one other. still_waiting T (with_acquired me T t) t.spec.key (in_state state.Acquired) u (λ x. refl) refl other one) each.1 apart.0)
    apart.1 (omega (arith, length-put_fired row T.fired)) (omega arith)

All-first_of_each : (P : TriggerData → Type 0) (jobs : List JobData) (ts : List TriggerData) → AllByRecursion P ts → AllByRecursion P (first_of_each jobs ts)
All-first_of_each P jobs [] all = tt
All-first_of_each P jobs (t ∷ ts) all = (all.0, All-filtered P (λ u. not (is_sibling jobs t u)) (first_of_each jobs ts) (All-first_of_each P jobs ts all.1))

apart-first_of_each : (jobs : List JobData) (ts : List TriggerData) → AreApart ts → AreApart (first_of_each jobs ts)
apart-first_of_each jobs [] apart = tt
apart-first_of_each jobs (t ∷ ts) apart = (
  All-filtered (HasOtherKey t.spec.key) (λ u. not (is_sibling jobs t u)) (first_of_each jobs ts) (All-first_of_each (HasOtherKey t.spec.key) jobs ts apart.0),
  apart-filter (λ u. not (is_sibling jobs t u)) (first_of_each jobs ts) (apart-first_of_each jobs ts apart.1),
)

each_chosen : (T : SchedulerTables) (m limit : ℤ) (max : ℕ) → IsAscending key_cmp (λ r. r.spec.key) T.triggers → AllByRecursion (IsStoredWaiting T) (chosen T m limit max)
unfolding chosen
each_chosen T m limit max ordered =
    All-take (IsStoredWaiting T) max (first_of_each T.jobs (due_triggers T m limit)) (All-first_of_each (IsStoredWaiting T) T.jobs (due_triggers T m limit) (each_due T m limit ordered))

apart_chosen : (T : SchedulerTables) (m limit : ℤ) (max : ℕ) → IsAscending key_cmp (λ r. r.spec.key) T.triggers → AreApart (chosen T m limit max)
unfolding chosen due_triggers
apart_chosen T m limit max ordered =
    apart-take max (first_of_each T.jobs (due_triggers T m limit))
    (apart-first_of_each T.jobs (due_triggers T m limit) (apart-in_due_order (filter (is_due T m limit) T.triggers) (apart-filter (is_due T m limit) T.triggers (apart T.triggers ordered))))

length-take_le : (n : ℕ) (ts : List TriggerData) → length (take n ts) ≤ n
length-take_le zero ts = omega arith
length-take_le (suc n) [] = omega arith
length-take_le (suc n) (t ∷ ts) = omega (arith, length-take_le n ts)

pub few_chosen : (T : SchedulerTables) (m limit : ℤ) (max : ℕ) → length (chosen T m limit max) ≤ max
unfolding chosen
few_chosen T m limit max = length-take_le max (first_of_each T.jobs (due_triggers T m limit))

clear_first : (first next : Option Refusal) → or_refusal first next ≡ None → (first ≡ None) × (next ≡ None)
clear_first None next none = (refl, none)
clear_first (Some x) next none = absurd (cc)

clear_two : (a b : Bool) (x y : Refusal) → refuse_if a x (refuse_if b y None) ≡ None → (a ≡ false) × (b ≡ false)
clear_two true b x y none = absurd (cc)
clear_two false true x y none = absurd (cc)
clear_two false false x y none = (refl, refl)

-- there is room for as many rows and numbers as are asked for
pub record HasRoomFor (T : SchedulerTables) (max : ℕ) : Type 0 where
  pub rows : length T.fired + max ≤ FIRED_LIMIT
  pub numbers : T.next_entry + max ≤ NUMBER_LIMIT

pub room_for : (T : SchedulerTables) (max : ℕ) → acquire_refusal T max ≡ None → HasRoomFor T max
unfolding acquire_refusal
room_for T max clear =
    let both : (nat_lt FIRED_LIMIT (length T.fired + max) ≡ false) × (nat_lt NUMBER_LIMIT (T.next_entry + max) ≡ false) = clear_two _ _ (TooMany FIRED_LIMIT) (TooMany NUMBER_LIMIT) clear in
    record { rows = ltb-false _ _ both.0; numbers = ltb-false _ _ both.1 }

horizon-fold : (me : MemberData) (T : SchedulerTables) (ts : List TriggerData) → (fold (with_acquired me) T ts).horizon ≡ T.horizon
unfolding with_acquired
horizon-fold me T [] = refl
horizon-fold me T (t ∷ ts) = horizon-fold me (with_acquired me T t) ts

pub kept-acquire : (T T' : SchedulerTables) (m : ℤ) (me : MemberData) (no_later window : ℤ) (max : ℕ) (r : Reply) → TablesValid T → IsMoment T.horizon m → acquire T m me no_later window max ≡ accepted T' r → TablesValid T'
kept-acquire T T' m me no_later window max r valid is e =
    let way = passes (or_refusal (node_refusal T me) (acquire_refusal T max)) _ T' r e in
    let clear = clear_first (node_refusal T me) (acquire_refusal T max) way.clear in
    let room = room_for T max clear.1 in
    let ts = chosen T m (no_later +ℤ window) max in
    let few = few_chosen T m (no_later +ℤ window) max in
    let ordered = valid.references_and_limits.ordered.triggers in
    let acquired_all = valid-acquired_each me T ts valid (member_of_actor T me clear.0) (each_chosen T m (no_later +ℤ window) max ordered) (apart_chosen T m (no_later +ℤ window) max ordered)
    (omega (arith, room.rows, few)) (omega (arith, room.numbers, few)) in
    subst TablesValid (cc) (valid-moment (fold (with_acquired me) T ts) m acquired_all (subst (λ (h : ℤ). IsMoment h m) (sym (horizon-fold me T ts)) is))
