-- Releasing an acquired trigger keeps the tables valid.
use Rattle.std.proofs.Common.{◌≡◌, ℕ, ◌≤◌, ◌<◌, ◌==◌, ℤ, true, false, not, ◌&&◌, List, count_by, Bool, Option, Some, None, IsSomeAnd, refl, sym, ap, ◌∙◌, subst, arith}
use Rattle.std.specs.List.{AllByRecursion}
use Rattle.std.proofs.lemmas.Bool.{and_from, and_right, false_from_ne_true}
use Rattle.qz_types.specs.Rows.{TriggerData, MemberData, FiredData}
use Rattle.qz_types.specs.declared.keys.Key.{Key}
use Rattle.qz_types.specs.declared.limits.TheConstants.{TRIGGER_LIMIT}
use Rattle.qz_types.specs.declared.triggers.TriggerState.TheVariants as state
use Rattle.qz_types.specs.declared.replies.Reply.{Reply}
use Rattle.qz_types.specs.declared.replies.Refusal.{Refusal}
use Rattle.qz_types.specs.declared.replies.Refusal.TheVariants.{NotAcquired}
use Rattle.qz_types.specs.Changes.{in_state}
use Rattle.qz_types.specs.States.{is_acquired, is_acquired_for}
use Rattle.qz_types.specs.Tables.{SchedulerTables, IsMoment}
use Rattle.qz_types.specs.Outcomes.{accepted}
use Rattle.qz_types.specs.Words.{same_key, trigger_of, with_trigger, fired_of, without_fired}
use Rattle.qz_model.specs.Acquiring.{owner_refusal, acquired_refusal, release_row, release}
use Rattle.qz_model.specs.Executions.{is_exclusive_of, is_busy}
use Rattle.qz_model.specs.Invariant.{AreStored, ReferencesAndLimits, IsRowOf, HasFlag, ConcurrencyAgrees, is_blocked_or_done, OneExclusive, BlockedAreBusy, is_live_state, TablesValid}
use Rattle.qz_model.specs.Membership.{node_refusal}
use Rattle.qz_model.specs.Tests.{refuse_if, or_refusal}
use Rattle.qz_model.proofs.RowPoints.{All-weaker, All-both}
use Rattle.qz_model.proofs.RowLaws.{same_key_laws, ordered-with_trigger, All-trigger_of, trigger_of-key, All-with_trigger, only_trigger, trigger_of-with_other, length-with_trigger, ordered-without_fired, All-fired_of, fired_of-entry, only_fired, one_fired, fired_of-without_fired, All-without_fired, count_by-without_fired, length-without_fired}
use Rattle.qz_model.proofs.References.{references-triggers, references-fired}
use Rattle.qz_model.proofs.Changes.{HasOneRow, HasItsTrigger, HasNextTime, HasJob, HasCalendar, HasZone, AgreesWithRows, AgreesWithJob, StaysBlocked, IsBlockedBy, HasMember, HasRowTimes, busy-same, passes, HasNumber, SharesNone, HasNumber-kept, HasNumber-alike, each_next, have_next, valid-moment}

-- the row is stored, and it is of this trigger, which is acquired
pub record IsHeld (T : SchedulerTables) (f : FiredData) (t : TriggerData) : Type 0 where
  pub row : fired_of f.entry T.fired ≡ Some f
  pub taken : is_acquired f.state ≡ true
  pub trigger : trigger_of f.trigger T.triggers ≡ Some t
  pub acquired : t.state ≡ state.Acquired

held_by : (P : TriggerData → Type 0) (G : Type 0) (o : Option TriggerData) → IsSomeAnd o P → ((t : TriggerData) → o ≡ Some t → P t → G) → G
held_by P G None is goal = absurd is
held_by P G (Some t) is goal = goal t refl is

-- an acquired row has its trigger
pub held : (G : Type 0) (T : SchedulerTables) (f : FiredData) → TablesValid T → fired_of f.entry T.fired ≡ Some f → is_acquired f.state ≡ true → ((t : TriggerData) → IsHeld T f t → G) → G
held G T f valid row taken goal =
    held_by (IsRowOf f) G (trigger_of f.trigger T.triggers) (All-fired_of (HasItsTrigger T.triggers) f.entry f T.fired valid.acquired_match.a_trigger row taken)
    (λ t found is. goal t (record { row = row; taken = taken; trigger = found; acquired = is.state }))

module _ (T : SchedulerTables) (f : FiredData) (t : TriggerData) (valid : TablesValid T) (is_held : IsHeld T f t) where
  abbrev triggers_then : List TriggerData
  triggers_then = with_trigger f.trigger (in_state state.Waiting) T.triggers

  abbrev fired_then : List FiredData
  fired_then = without_fired f.entry T.fired

  abbrev after_release : SchedulerTables
  after_release = record T { triggers = triggers_then; fired = fired_then }

  own_key : same_key f.trigger t.spec.key ≡ true
  own_key = trigger_of-key f.trigger t T.triggers is_held.trigger

  only : AllByRecursion (λ u. same_key f.trigger u.spec.key ≡ true → u ≡ t) T.triggers
  only = only_trigger f.trigger t T.triggers valid.references_and_limits.ordered.triggers is_held.trigger

  same_row : AllByRecursion (λ g. (f.entry == g.entry) ≡ true → g ≡ f) T.fired
  same_row = only_fired f.entry f T.fired valid.references_and_limits.ordered.fired is_held.row

  -- the trigger has no other acquired row
  only_row : AllByRecursion (λ g. is_acquired_for t.spec.key g ≡ true → (f.entry == g.entry) ≡ true) T.fired
  unfolding is_acquired_for
  only_row =
      one_fired (is_acquired_for t.spec.key) f.entry f T.fired is_held.row (and_from (is_acquired f.state) (same_key t.spec.key f.trigger) is_held.taken (same_key_laws.symm t.spec.key f.trigger ∙ own_key))
      (All-trigger_of (HasOneRow T.fired) f.trigger t T.triggers valid.acquired_match.one_row is_held.trigger is_held.acquired)

  one_row_released : AllByRecursion (HasOneRow fired_then) triggers_then
  unfolding is_acquired_for
  one_row_released =
      All-with_trigger (HasOneRow T.fired) (HasOneRow fired_then) f.trigger (in_state state.Waiting) T.triggers valid.acquired_match.one_row
      (λ u same was taken. absurd (cc))
      (λ u differ was taken.
      let other : same_key u.spec.key f.trigger ≡ false = same_key_laws.symm u.spec.key f.trigger ∙ differ in
      count_by-without_fired (is_acquired_for u.spec.key) f.entry T.fired
      (All-weaker (λ g. (f.entry == g.entry) ≡ true → g ≡ f) (λ g. (f.entry == g.entry) ≡ true → is_acquired_for u.spec.key g ≡ false) T.fired
      (λ g is at. ap (is_acquired_for u.spec.key) (is at) ∙ and_right (is_acquired f.state) (same_key u.spec.key f.trigger) other) same_row)
      ∙ was taken)

  a_trigger_released : AllByRecursion (HasItsTrigger triggers_then) fired_then
  unfolding is_acquired_for
  a_trigger_released =
      All-without_fired (λ g. HasItsTrigger T.triggers g × (is_acquired_for t.spec.key g ≡ true → (f.entry == g.entry) ≡ true)) (HasItsTrigger triggers_then) f.entry T.fired
      (All-both (HasItsTrigger T.triggers) (λ g. is_acquired_for t.spec.key g ≡ true → (f.entry == g.entry) ≡ true)
      (λ g. HasItsTrigger T.triggers g × (is_acquired_for t.spec.key g ≡ true → (f.entry == g.entry) ≡ true)) T.fired
      (λ g has one. (has, one)) valid.acquired_match.a_trigger only_row)
      (λ g away is taken.
      let other : same_key f.trigger g.trigger ≡ false =
      false_from_ne_true (same_key f.trigger g.trigger) (λ same.
      let its : same_key t.spec.key g.trigger ≡ true = sym (same_key_laws.congr f.trigger t.spec.key g.trigger own_key) ∙ same in
      let at = is.1 (and_from (is_acquired g.state) (same_key t.spec.key g.trigger) taken its) in cc) in
      subst (λ o. IsSomeAnd o (IsRowOf g)) (sym (trigger_of-with_other g.trigger f.trigger (in_state state.Waiting) T.triggers (λ u. refl) other)) (is.0 taken))

  next_times_released : AllByRecursion (HasNextTime T.horizon) triggers_then
  next_times_released =
      All-with_trigger (λ u. HasNextTime T.horizon u × (same_key f.trigger u.spec.key ≡ true → u ≡ t)) (HasNextTime T.horizon) f.trigger (in_state state.Waiting) T.triggers
      (All-both (HasNextTime T.horizon) (λ u. same_key f.trigger u.spec.key ≡ true → u ≡ t) (λ u. HasNextTime T.horizon u × (same_key f.trigger u.spec.key ≡ true → u ≡ t)) T.triggers
      (λ u has was. (has, was)) (each_next T valid) only)
      (λ u same is. (λ live. is.0.0 (ap (λ x. is_live_state x.state) (is.1 same) ∙ ap is_live_state is_held.acquired), is.0.1))
      (λ u differ is. is.0)

  numbers_released : AllByRecursion (HasNumber after_release) triggers_then
  numbers_released =
      All-with_trigger (HasNumber after_release) (HasNumber after_release) f.trigger (in_state state.Waiting) T.triggers
      (All-weaker (HasNumber T) (HasNumber after_release) T.triggers
      (λ u has. HasNumber-kept T after_release u (omega arith) (λ n below none. fired_of-without_fired n f.entry T.fired none)
      (λ n all. All-with_trigger (SharesNone u.spec.key n) (SharesNone u.spec.key n) f.trigger (in_state state.Waiting) T.triggers all (λ x same is. is) (λ x differ is. is)) has)
      valid.fresh.added)
      (λ u same has. HasNumber-alike after_release u (in_state state.Waiting u) refl has)
      (λ u differ has. has)

  -- the row is of no execution
  same_exclusive : (key : Key) → count_by (is_exclusive_of key) fired_then ≡ count_by (is_exclusive_of key) T.fired
  unfolding is_exclusive_of
  same_exclusive key =
      count_by-without_fired (is_exclusive_of key) f.entry T.fired
      (All-weaker (λ g. (f.entry == g.entry) ≡ true → g ≡ f) (λ g. (f.entry == g.entry) ≡ true → is_exclusive_of key g ≡ false) T.fired
      (λ g is at. ap (is_exclusive_of key) (is at) ∙ ap (λ b. not b && f.no_concurrent && same_key key f.job) is_held.taken) same_row)

  same_busy : (key : Key) → is_busy key fired_then ≡ is_busy key T.fired
  same_busy key = busy-same key T.fired fired_then (same_exclusive key)

  left_all : (P : FiredData → Type 0) → AllByRecursion P T.fired → AllByRecursion P fired_then
  left_all P all = All-without_fired P P f.entry T.fired all (λ g away is. is)

  concurrency_released : ConcurrencyAgrees T.jobs fired_then
  concurrency_released = record {
    with_rows = All-without_fired (AgreesWithRows T.fired) (AgreesWithRows fired_then) f.entry T.fired valid.concurrency_agrees.with_rows
        (λ g away agrees begun. left_all (HasFlag g.job g.no_concurrent) (agrees begun));
    with_jobs = All-weaker (AgreesWithJob T.fired) (AgreesWithJob fired_then) T.jobs (λ j agrees. left_all (HasFlag j.key j.no_concurrent) agrees) valid.concurrency_agrees.with_jobs;
  }

  exclusive_released : OneExclusive triggers_then fired_then
  exclusive_released = record {
    one = λ key. subst (λ n. n ≤ 1) (sym (same_exclusive key)) (valid.one_exclusive.one key);
    blocked = All-with_trigger (λ u. StaysBlocked T.fired u × (same_key f.trigger u.spec.key ≡ true → u ≡ t)) (StaysBlocked fired_then) f.trigger (in_state state.Waiting) T.triggers
        (All-both (StaysBlocked T.fired) (λ u. same_key f.trigger u.spec.key ≡ true → u ≡ t) (λ u. StaysBlocked T.fired u × (same_key f.trigger u.spec.key ≡ true → u ≡ t)) T.triggers
        (λ u stays was. (stays, was)) valid.one_exclusive.blocked only)
        (λ u same is busy.
        let free : is_blocked_or_done u.state ≡ false = ap (λ x. is_blocked_or_done x.state) (is.1 same) ∙ ap is_blocked_or_done is_held.acquired in
        let blocked : is_blocked_or_done u.state ≡ true = is.0 (sym (same_busy u.spec.job) ∙ busy) in
        absurd (cc))
        (λ u differ is busy. is.0 (sym (same_busy u.spec.job) ∙ busy));
  }

  blocked_released : BlockedAreBusy triggers_then fired_then
  blocked_released = record {
    busy = All-with_trigger (IsBlockedBy T.fired) (IsBlockedBy fired_then) f.trigger (in_state state.Waiting) T.triggers valid.blocked_are_busy.busy
        (λ u same is blocked. absurd (cc)) (λ u differ is blocked. same_busy u.spec.job ∙ is blocked);
  }

  stored_released : AreStored T.jobs triggers_then T.calendars T.zones
  stored_released = let was = valid.references_and_limits.stored in record {
    trigger_jobs = All-with_trigger (HasJob T.jobs) (HasJob T.jobs) f.trigger (in_state state.Waiting) T.triggers was.trigger_jobs (λ u same is. is) (λ u differ is. is);
    trigger_calendars = All-with_trigger (HasCalendar T.calendars) (HasCalendar T.calendars) f.trigger (in_state state.Waiting) T.triggers was.trigger_calendars (λ u same is. is) (λ u differ is. is);
    trigger_zones = All-with_trigger (HasZone T.zones) (HasZone T.zones) f.trigger (in_state state.Waiting) T.triggers was.trigger_zones (λ u same is. is) (λ u differ is. is);
    bases = was.bases;
    calendar_zones = was.calendar_zones;
    chains = was.chains;
  }

  references_released : ReferencesAndLimits after_release
  references_released =
      let was = valid.references_and_limits in
      let first : ReferencesAndLimits (record T { triggers = triggers_then }) = references-triggers T was triggers_then (ordered-with_trigger f.trigger (in_state state.Waiting) T.triggers (λ u. refl) was.ordered.triggers) stored_released
      (subst (λ n. n ≤ TRIGGER_LIMIT) (sym (length-with_trigger f.trigger (in_state state.Waiting) T.triggers)) was.limits.triggers) in
      references-fired (record T { triggers = triggers_then }) first fired_then T.next_entry (ordered-without_fired f.entry T.fired was.ordered.fired)
      (omega (arith, length-without_fired f.entry T.fired, was.limits.fired)) was.limits.next_entry

  -- the row goes, and its trigger waits again
  pub valid-released : TablesValid after_release
  valid-released = record {
    references_and_limits = references_released;
    acquired_match = record { one_row = one_row_released; a_trigger = a_trigger_released };
    concurrency_agrees = concurrency_released;
    one_exclusive = exclusive_released;
    blocked_are_busy = blocked_released;
    rows_of_members = record { given = valid.rows_of_members.given; distinct = valid.rows_of_members.distinct; rows = left_all (HasMember T.members) valid.rows_of_members.rows };
    next_times = have_next T.horizon T.last_moment triggers_then next_times_released valid.next_times.moment;
    fresh = record { fired = left_all (λ g. g.entry < T.next_entry) valid.fresh.fired; added = numbers_released };
    row_times = record { rows = left_all (HasRowTimes T.horizon) valid.row_times.rows };
  }

taken_from_refusal : (o : Option Refusal) (b : Bool) → or_refusal o (refuse_if (not b) NotAcquired None) ≡ None → b ≡ true
taken_from_refusal None true clear = refl
taken_from_refusal None false clear = absurd (cc)
taken_from_refusal (Some x) b clear = absurd (cc)

-- a row that may be released or fired is acquired
pub taken_where_clear : (me : MemberData) (f : FiredData) → acquired_refusal me f ≡ None → is_acquired f.state ≡ true
unfolding acquired_refusal
taken_where_clear me f clear = taken_from_refusal (owner_refusal me f) (is_acquired f.state) clear

kept-release_row : (T T' : SchedulerTables) (m : ℤ) (me : MemberData) (entry : ℕ) (o : Option FiredData) (r : Reply) → TablesValid T → IsMoment T.horizon m → fired_of entry T.fired ≡ o → release_row T m me o ≡ accepted T' r → TablesValid T'
kept-release_row T T' m me entry None r valid is found e = absurd (cc)
kept-release_row T T' m me entry (Some f) r valid is found e =
    let way = passes (acquired_refusal me f) _ T' r e in
    let number : entry ≡ f.entry = fired_of-entry entry f T.fired found in
    let row : fired_of f.entry T.fired ≡ Some f = subst (λ (n : ℕ). fired_of n T.fired ≡ Some f) number found in
    held (TablesValid T') T f valid row (taken_where_clear me f way.clear)
    (λ t is_held. let released = valid-released T f t valid is_held in subst TablesValid (cc) (valid-moment (after_release T f t valid is_held) m released is))

pub kept-release : (T T' : SchedulerTables) (m : ℤ) (me : MemberData) (entry : ℕ) (r : Reply) → TablesValid T → IsMoment T.horizon m → release T m me entry ≡ accepted T' r → TablesValid T'
kept-release T T' m me entry r valid is e =
    let way = passes (node_refusal T me) _ T' r e in
    kept-release_row T T' m me entry (fired_of entry T.fired) r valid is refl way.outcome
