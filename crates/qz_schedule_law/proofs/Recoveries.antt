-- A member is recovered: the triggers that are added have keys that weren't stored, and all others keep their next times.
use Rattle.std.proofs.Common.{◌≡◌, ℕ, ◌<◌, ℤ, true, false, not, ◌&&◌, List, [], ◌∷◌, fold, map, filter, Option, Some, None, refl, subst, arith}
use Rattle.std.specs.List.{AllByRecursion}
use Rattle.std.proofs.lemmas.Bool.{and_parts, not-true}
use Rattle.qz_types.specs.declared.fired.FiredState.{FiredState}
use Rattle.qz_types.specs.declared.fired.FiredState.TheVariants as row
use Rattle.qz_types.specs.Rows.{TriggerData, MemberData, FiredData}
use Rattle.qz_types.specs.declared.keys.Key.{Key}
use Rattle.qz_types.specs.declared.commands.Command.{Command}
use Rattle.qz_types.specs.declared.replies.Reply.{Reply}
use Rattle.qz_types.specs.Changes.{with_state}
use Rattle.qz_types.specs.States.{is_acquired, unblocked}
use Rattle.qz_types.specs.Tables.{SchedulerTables, IsMoment}
use Rattle.qz_types.specs.Outcomes.{accepted, unless}
use Rattle.qz_types.specs.Words.{same_key, trigger_of, put_trigger, fired_of, member_of}
use Rattle.qz_model.specs.Invariant.{IsNumbered, HasTimes, TablesValid}
use Rattle.qz_model.specs.Membership.{node_refusal}
use Rattle.qz_model.specs.Recovery.{lost_of, rows_of_others, freed_by, has_excluded, unblocked_by, asks, recovery_trigger, recoveries, has_finished, triggers_added, triggers_left, recovered, recovery_refusal, recover_member, recover, with_new_member, join_refusal, joined, join}
use Rattle.qz_model.specs.Tests.{is_of}
use Rattle.qz_model.proofs.Changes.{HasNumber, HasRowTimes, passes}
use Rattle.qz_model.proofs.NextTimes.{moment_up_to_last}
use Rattle.qz_model.proofs.Numbers.{one_number}
use Rattle.qz_model.proofs.RecoveryTriggers.{IsNotOf, no_such}
use Rattle.qz_model.proofs.RowLaws.{trigger_of-none, All-put_trigger, All-fired_of, each_fired}
use Rattle.qz_model.proofs.RowPoints.{All-weaker, All-filter, All-changed, All-left}
use Rattle.qz_schedule_law.proofs.Clients.{new_key}
use Rattle.qz_schedule_law.proofs.Once.{recovery_timing, recovery_first}
use Rattle.qz_schedule_law.proofs.Stays.{IsAsBefore, alike, Stays, TurnFacts, accepted_stays, as_before, same_triggers, before-freed_by}

-- Keys of recoveries.

-- no trigger is named by the number of a row
unnamed : (T : SchedulerTables) (f : FiredData) → TablesValid T → fired_of f.entry T.fired ≡ Some f → AllByRecursion (IsNotOf f.entry) T.triggers
unnamed T f valid found =
    All-weaker (HasNumber T) (IsNotOf f.entry) T.triggers
    (λ u has reserved ends.
    let own = has reserved in
    let was : IsNumbered T u own.0 = own.1 in
    let below : f.entry < T.next_entry = All-fired_of (λ g. g.entry < T.next_entry) f.entry f T.fired valid.fresh.fired found in
    let limit = valid.references_and_limits.limits.next_entry in
    let same : own.0 ≡ f.entry = one_number u.spec.key.name own.0 f.entry (omega (arith, was.below, limit)) (omega (arith, below, limit)) was.named ends in
    let none : fired_of f.entry T.fired ≡ None = subst (λ n. fired_of n T.fired ≡ None) same was.no_row in
    absurd (cc)) valid.fresh.added

-- so the key by which the row's execution is recovered isn't stored
recovery_absent : (T : SchedulerTables) (groups job_groups : List (List ℕ)) (f : FiredData) → TablesValid T → fired_of f.entry T.fired ≡ Some f → trigger_of (recovery_trigger groups job_groups f).spec.key T.triggers ≡ None
recovery_absent T groups job_groups f valid found =
    trigger_of-none (recovery_trigger groups job_groups f).spec.key T.triggers
    (All-weaker (IsNotOf f.entry) (λ u. same_key (recovery_trigger groups job_groups f).spec.key u.spec.key ≡ false) T.triggers (no_such groups job_groups f) (unnamed T f valid found))

All-mapped : {R S : Type 0} (P : S → Type 0) (f : R → S) (xs : List R) → AllByRecursion (λ x. P (f x)) xs → AllByRecursion P (map f xs)
All-mapped P f [] all = tt
All-mapped P f (x ∷ xs) all = (all.0, All-mapped P f xs all.1)

-- the row stands, and its execution has begun for a moment
pub record IsBegun (T : SchedulerTables) (f : FiredData) : Type 0 where
  pub found : fired_of f.entry T.fired ≡ Some f
  pub time : IsMoment T.horizon f.scheduled

begun_time : (horizon : ℤ) (f : FiredData) (s : FiredState) → is_acquired s ≡ false → HasTimes horizon f s → IsMoment horizon f.scheduled
begun_time horizon f row.Acquired executes times = absurd (cc)
begun_time horizon f row.Executing executes times = times.0

is_begun : (T : SchedulerTables) (f : FiredData) → TablesValid T → fired_of f.entry T.fired ≡ Some f → is_acquired f.state ≡ false → IsBegun T f
is_begun T f valid found executes = record {
  found = found;
  time = begun_time T.horizon f f.state executes (All-fired_of (HasRowTimes T.horizon) f.entry f T.fired valid.row_times.rows found);
}

lost_begun : (T : SchedulerTables) (member : MemberData) → TablesValid T → AllByRecursion (IsBegun T) (lost_of member T.fired)
unfolding lost_of
lost_begun T member valid =
    All-filter (IsBegun T) (λ f. not (is_acquired f.state) && is_of member f) T.fired
    (All-weaker (λ f. fired_of f.entry T.fired ≡ Some f) (λ f. (not (is_acquired f.state) && is_of member f) ≡ true → IsBegun T f) T.fired
    (λ f found is. is_begun T f valid found (not-true (is_acquired f.state) (and_parts (not (is_acquired f.state)) (is_of member f) is).0))
    (each_fired T.fired valid.references_and_limits.ordered.fired))

recoveries_before : (T : SchedulerTables) (key : Key) (member : MemberData) → TablesValid T → AllByRecursion (IsAsBefore T key) (recoveries T member)
unfolding recoveries
recoveries_before T key member valid =
    All-mapped (IsAsBefore T key) (recovery_trigger T.paused_groups T.paused_job_groups) (filter (asks T.jobs) (lost_of member T.fired))
    (All-filter (λ f. IsAsBefore T key (recovery_trigger T.paused_groups T.paused_job_groups f)) (asks T.jobs) (lost_of member T.fired)
    (All-weaker (IsBegun T) (λ f. asks T.jobs f ≡ true → IsAsBefore T key (recovery_trigger T.paused_groups T.paused_job_groups f)) (lost_of member T.fired)
    (λ f begun is.
    new_key T key (recovery_trigger T.paused_groups T.paused_job_groups f) (recovery_absent T T.paused_groups T.paused_job_groups f valid begun.found) (recovery_first T T.paused_groups T.paused_job_groups f valid begun.time)
    (recovery_timing T.paused_groups T.paused_job_groups f (moment_up_to_last T f.scheduled valid begun.time)))
    (lost_begun T member valid)))

-- The triggers that a recovery leaves.

before-put_each : (T : SchedulerTables) (key : Key) (rows ts : List TriggerData) → AllByRecursion (IsAsBefore T key) ts → AllByRecursion (IsAsBefore T key) rows → AllByRecursion (IsAsBefore T key) (fold (λ us t. put_trigger t us) rows ts)
before-put_each T key rows [] new all = all
before-put_each T key rows (t ∷ ts) new all = before-put_each T key (put_trigger t rows) ts new.1 (All-put_trigger (IsAsBefore T key) t rows new.0 all)

before-unblocked_by : (T : SchedulerTables) (key : Key) (lost : List FiredData) (rows : List TriggerData) → AllByRecursion (IsAsBefore T key) rows → AllByRecursion (IsAsBefore T key) (unblocked_by lost rows)
unfolding unblocked_by
before-unblocked_by T key lost rows all =
    All-changed (IsAsBefore T key) (IsAsBefore T key) (λ t. has_excluded lost t.spec.job) (with_state unblocked) rows all (λ t changed was. alike T key t (with_state unblocked t) refl refl was) (λ t left was. was)

before-triggers_left : (T : SchedulerTables) (key : Key) (member : MemberData) → TablesValid T → AllByRecursion (IsAsBefore T key) (triggers_left T member)
unfolding triggers_left triggers_added
before-triggers_left T key member valid =
    All-left (IsAsBefore T key) (IsAsBefore T key) (λ t. has_finished (lost_of member T.fired) (rows_of_others member T.fired) t) (triggers_added T member)
    (before-put_each T key (unblocked_by (lost_of member T.fired) (freed_by member T.fired T.triggers)) (recoveries T member) (recoveries_before T key member valid)
    (before-unblocked_by T key (lost_of member T.fired) (freed_by member T.fired T.triggers) (before-freed_by T key member T.fired T.triggers (as_before T key valid))))
    (λ u left is. is)

-- Recover.

stays-recovered : (T : SchedulerTables) (key : Key) (m : ℤ) (member : MemberData) → TablesValid T → Stays T key (record (recovered T member) { last_moment = m })
unfolding recovered
stays-recovered T key m member valid = record { triggers = before-triggers_left T key member valid; calendars = refl; zones = refl; horizon = refl }

facts-recover_member : (T T' : SchedulerTables) (key : Key) (c : Command) (m : ℤ) (o : Option MemberData) (r : Reply) → TablesValid T → recover_member T m o ≡ accepted T' r → TurnFacts T key c r T'
facts-recover_member T T' key c m None r valid e = absurd (cc)
facts-recover_member T T' key c m (Some member) r valid e = accepted_stays T _ T' key c _ r (passes (recovery_refusal T member) _ T' r e).outcome refl (stays-recovered T key m member valid)

pub facts-recover : (T T' : SchedulerTables) (key : Key) (c : Command) (m : ℤ) (me : MemberData) (node : List ℕ) (r : Reply) → TablesValid T → recover T m me node ≡ accepted T' r → TurnFacts T key c r T'
facts-recover T T' key c m me node r valid e = facts-recover_member T T' key c m (member_of node T.members) r valid (passes (node_refusal T me) _ T' r e).outcome

-- Join.

stays-new_member : (T : SchedulerTables) (key : Key) (m : ℤ) (node : List ℕ) → TablesValid T → Stays T key (record (with_new_member T node) { last_moment = m })
unfolding with_new_member
stays-new_member T key m node valid = same_triggers T key _ valid refl refl refl refl

stays-rejoined : (T : SchedulerTables) (key : Key) (m : ℤ) (node : List ℕ) (member : MemberData) → TablesValid T → Stays T key (record (with_new_member (recovered T member) node) { last_moment = m })
unfolding recovered with_new_member
stays-rejoined T key m node member valid = record { triggers = before-triggers_left T key member valid; calendars = refl; zones = refl; horizon = refl }

facts-join_at : (T T' : SchedulerTables) (key : Key) (c : Command) (m : ℤ) (node : List ℕ) (o : Option MemberData) (r : Reply) → TablesValid T → unless (join_refusal T o) (joined T m node o) ≡ accepted T' r → TurnFacts T key c r T'
facts-join_at T T' key c m node None r valid e = accepted_stays T _ T' key c _ r (passes (join_refusal T None) _ T' r e).outcome refl (stays-new_member T key m node valid)
facts-join_at T T' key c m node (Some member) r valid e = accepted_stays T _ T' key c _ r (passes (join_refusal T (Some member)) _ T' r e).outcome refl (stays-rejoined T key m node member valid)

pub facts-join : (T T' : SchedulerTables) (key : Key) (c : Command) (m : ℤ) (node : List ℕ) (r : Reply) → TablesValid T → join T m node ≡ accepted T' r → TurnFacts T key c r T'
facts-join T T' key c m node r valid e = facts-join_at T T' key c m node (member_of node T.members) r valid e
