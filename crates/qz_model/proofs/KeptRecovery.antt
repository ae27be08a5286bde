-- A member recovers another, and the tables stay valid: what it acquired is given back, its executions end, the recovery
-- triggers are stored, then finished triggers go, and orphans with them, and last the member.
use Rattle.std.proofs.Common.{◌≡◌, ℕ, ◌+◌, ◌≤◌, ℤ, Bool, true, false, not, ◌&&◌, List, length, filter, map, fold, nat_lt, Option, Some, None, is_none, refl, sym, ap, subst, arith}
use Rattle.std.specs.Prelude.{⊤}
use Rattle.std.specs.List.{AllByRecursion, list_any}
use Rattle.std.specs.Ordering.{nat_cmp}
use Rattle.std.proofs.lemmas.Bool.{and_parts, and_left, and_right, ltb-false}
use Rattle.std.proofs.lemmas.Cmp.{nat_cmp_total}
use Rattle.std.proofs.lemmas.List.{length-map}
use Rattle.qz_types.specs.Rows.{TriggerData, MemberData, FiredData}
use Rattle.qz_types.specs.Sorted.{IsAscending}
use Rattle.qz_types.specs.declared.limits.TheConstants.{TRIGGER_LIMIT}
use Rattle.qz_types.specs.declared.triggers.TriggerState.TheVariants as state
use Rattle.qz_types.specs.declared.replies.Reply.{Reply}
use Rattle.qz_types.specs.declared.replies.Reply.TheVariants.{Recovered}
use Rattle.qz_types.specs.declared.replies.Refusal.TheVariants.{TooMany}
use Rattle.qz_types.specs.Changes.{with_states, without_acquired}
use Rattle.qz_types.specs.States.{is_acquired, unblocked}
use Rattle.qz_types.specs.Tables.{SchedulerTables, IsMoment}
use Rattle.qz_types.specs.Outcomes.{accepted}
use Rattle.qz_types.specs.Words.{member_of, put_trigger}
use Rattle.qz_model.specs.Completing.{is_complete, is_finished}
use Rattle.qz_model.specs.Invariant.{TablesValid}
use Rattle.qz_model.specs.Jobs.{is_orphan}
use Rattle.qz_model.specs.Membership.{node_refusal}
use Rattle.qz_model.specs.Recovery.{lost_of, rows_of_others, freed_by, unblocked_by, has_excluded, asks, recovery_trigger, recoveries, has_finished, triggers_added, triggers_left, has_lost, jobs_left, recovered, recovery_refusal, recover_member, recover}
use Rattle.qz_model.specs.Tests.{is_of, is_row_of_trigger}
use Rattle.qz_model.proofs.Changes.{passes, valid-moment}
use Rattle.qz_model.proofs.Dropping.{valid-without_triggers, valid-without_jobs, orphan_unused}
use Rattle.qz_model.proofs.ExecutionsGone.{after_ends, valid_then}
use Rattle.qz_model.proofs.GivenBack.{valid-given_back}
use Rattle.qz_model.proofs.KeptLeaving.{none_of_others}
use Rattle.qz_model.proofs.LookUps.{IsAscending-filter}
use Rattle.qz_model.proofs.MembersGone.{valid-without_member}
use Rattle.qz_model.proofs.RecoveryTriggers.{valid-recoveries, all_recoverable}
use Rattle.qz_model.proofs.Refusals.{not_refused}
use Rattle.qz_model.proofs.RowLaws.{each_member, All-member_of}
use Rattle.qz_model.proofs.RowPoints.{All-from, All-left, filter-filter}
use Rattle.qz_model.proofs.StateLaws.{length-with_states, without_acquired-none}

-- The rows that were acquired are gone before.

not_both : (taken mine : Bool) → not (taken && mine) ≡ false → (not taken && mine) ≡ false
not_both true mine e = refl
not_both false true e = absurd (cc)
not_both false false e = refl

mine_too : (taken mine : Bool) → not (taken && mine) ≡ false → not mine ≡ false
mine_too true true e = refl
mine_too true false e = absurd (cc)
mine_too false mine e = absurd (cc)

lost_still : (member : MemberData) (fired : List FiredData) → lost_of member (without_acquired (is_of member) fired) ≡ lost_of member fired
unfolding lost_of without_acquired
lost_still member fired =
    filter-filter (λ f. not (is_acquired f.state) && is_of member f) (λ f. not (is_acquired f.state && is_of member f)) fired (λ f out. not_both (is_acquired f.state) (is_of member f) out)

others_still : (member : MemberData) (fired : List FiredData) → rows_of_others member (without_acquired (is_of member) fired) ≡ rows_of_others member fired
unfolding rows_of_others without_acquired
others_still member fired =
    filter-filter (λ f. not (is_of member f)) (λ f. not (is_acquired f.state && is_of member f)) fired (λ f out. mine_too (is_acquired f.state) (is_of member f) out)

begun_left : (member : MemberData) (fired : List FiredData) → AllByRecursion (λ f. (is_acquired f.state && is_of member f) ≡ false) (without_acquired (is_of member) fired)
unfolding without_acquired
begun_left member fired =
    All-left (λ f. ⊤) (λ f. (is_acquired f.state && is_of member f) ≡ false) (λ f. is_acquired f.state && is_of member f) fired (All-from (λ f. ⊤) fired (λ f. tt)) (λ f out any. out)

-- a finished trigger isn't acquired
not_finished : (fired : List FiredData) (t : TriggerData) → t.state ≡ state.Acquired → is_finished fired t ≡ false
unfolding is_finished
not_finished fired t taken =
    and_left (is_complete t.state && is_none t.next) (not (list_any (is_row_of_trigger t.spec.key) fired)) (and_left (is_complete t.state) (is_none t.next) (ap is_complete taken))

no_finished : (lost fired : List FiredData) (t : TriggerData) → t.state ≡ state.Acquired → has_finished lost fired t ≡ false
no_finished lost fired t taken = and_right (list_any (is_row_of_trigger t.spec.key) lost) (is_finished fired t) (not_finished fired t taken)

-- the triggers of executions that ended go, where they are finished
valid-without_finished_triggers : (T : SchedulerTables) (lost : List FiredData) → TablesValid T → TablesValid (record T { triggers = filter (λ t. not (has_finished lost T.fired t)) T.triggers })
valid-without_finished_triggers T lost valid =
    subst (λ fired. TablesValid (record T { triggers = filter (λ t. not (has_finished lost T.fired t)) T.triggers; fired = fired })) (without_acquired-none T.fired)
    (valid-without_triggers T (has_finished lost T.fired) (λ f. false) valid
    (λ t f holds. sym (no_finished lost T.fired t holds.row.state)))

module _ (T : SchedulerTables) (member : MemberData) (valid : TablesValid T) (found : member_of member.node T.members ≡ Some member)
    (room : length T.triggers + length (recoveries T member) ≤ TRIGGER_LIMIT) where
  abbrev lost : List FiredData
  lost = lost_of member T.fired

  abbrev left : List FiredData
  left = rows_of_others member T.fired

  abbrev given : List TriggerData
  given = freed_by member T.fired T.triggers

  abbrev back : SchedulerTables
  back = record T { triggers = given; fired = without_acquired (is_of member) T.fired }

  valid_back : TablesValid back
  valid_back = valid-given_back T member valid

  abbrev rows_asking : List FiredData → List FiredData
  rows_asking rows = filter (asks T.jobs) rows

  few : length (after_ends back member valid_back (begun_left member T.fired)).triggers + length (rows_asking (lost_of member back.fired)) ≤ TRIGGER_LIMIT
  unfolding recoveries freed_by
  few =
      let all = length-with_states unblocked (λ t. has_excluded (lost_of member back.fired) t.spec.job) given in
      let own : length given ≡ length T.triggers = length-map T.triggers _ in
      let added : length (recoveries T member) ≡ length (rows_asking lost) = length-map (rows_asking lost) (recovery_trigger T.paused_groups T.paused_job_groups) in
      let asking : length (rows_asking (lost_of member back.fired)) ≡ length (rows_asking lost) = ap (λ rows. length (rows_asking rows)) (lost_still member T.fired) in
      omega (arith, all, own, added, asking, room)

  in_order : IsAscending nat_cmp (λ r. r.entry) (rows_asking (lost_of member back.fired))
  unfolding lost_of
  in_order =
      IsAscending-filter nat_cmp (λ r. r.entry) nat_cmp_total (asks T.jobs) (lost_of member back.fired)
      (IsAscending-filter nat_cmp (λ r. r.entry) nat_cmp_total (λ f. not (is_acquired f.state) && is_of member f) back.fired valid_back.references_and_limits.ordered.fired)

  valid_added : TablesValid (record T { triggers = triggers_added T member; fired = left })
  unfolding triggers_added recoveries unblocked_by rows_of_others with_states
  valid_added =
      let first = valid-recoveries (after_ends back member valid_back (begun_left member T.fired)) T.paused_groups T.paused_job_groups (rows_asking (lost_of member back.fired))
      (valid_then back member valid_back (begun_left member T.fired)) (all_recoverable back member valid_back (begun_left member T.fired)) in_order few in
      subst (λ rows. TablesValid (record T { triggers = fold (λ ts t. put_trigger t ts) (with_states unblocked (λ t. has_excluded rows t.spec.job) given) (map (recovery_trigger T.paused_groups T.paused_job_groups) (rows_asking rows)); fired = left })) (lost_still member T.fired)
      (subst (λ fired. TablesValid (record T { triggers = fold (λ ts t. put_trigger t ts) (with_states unblocked (λ t. has_excluded (lost_of member back.fired) t.spec.job) given) (map (recovery_trigger T.paused_groups T.paused_job_groups) (rows_asking (lost_of member back.fired))); fired = fired }))
      (others_still member T.fired) first)

  valid_finished : TablesValid (record T { triggers = triggers_left T member; fired = left })
  unfolding triggers_left
  valid_finished = valid-without_finished_triggers (record T { triggers = triggers_added T member; fired = left }) lost valid_added

  valid_orphans : TablesValid (record T { triggers = triggers_left T member; jobs = jobs_left T member; fired = left })
  unfolding jobs_left
  valid_orphans =
      valid-without_jobs (record T { triggers = triggers_left T member; fired = left }) (λ j. has_lost lost left (triggers_added T member) j && is_orphan (triggers_left T member) j) valid_finished
      (λ j goes. orphan_unused (triggers_left T member) j (and_parts (has_lost lost left (triggers_added T member) j) (is_orphan (triggers_left T member) j) goes).1)

  pub valid-recovered : TablesValid (recovered T member)
  unfolding recovered
  valid-recovered =
      valid-without_member (record T { triggers = triggers_left T member; jobs = jobs_left T member; fired = left }) member member valid_orphans found refl (none_of_others member T.fired)

-- there is room where nothing refuses it
pub recovery_room : (T : SchedulerTables) (member : MemberData) → recovery_refusal T member ≡ None → length T.triggers + length (recoveries T member) ≤ TRIGGER_LIMIT
unfolding recovery_refusal
recovery_room T member clear = ltb-false TRIGGER_LIMIT _ (not_refused (nat_lt TRIGGER_LIMIT (length T.triggers + length (recoveries T member))) (TooMany TRIGGER_LIMIT) None clear).0

pub found_itself : (T : SchedulerTables) (node : List ℕ) (member : MemberData) → TablesValid T → member_of node T.members ≡ Some member → member_of member.node T.members ≡ Some member
found_itself T node member valid found =
    All-member_of (λ m. member_of m.node T.members ≡ Some m) node member T.members (each_member T.members valid.references_and_limits.ordered.members) found

recovered_horizon : (T : SchedulerTables) (member : MemberData) → (recovered T member).horizon ≡ T.horizon
unfolding recovered
recovered_horizon T member = refl

kept-recover_member : (T T' : SchedulerTables) (m : ℤ) (node : List ℕ) (o : Option MemberData) (r : Reply) → TablesValid T → IsMoment T.horizon m → member_of node T.members ≡ o
    → recover_member T m o ≡ accepted T' r → TablesValid T'
kept-recover_member T T' m node None r valid is found e = absurd (cc)
kept-recover_member T T' m node (Some member) r valid is found e =
    let way = passes (recovery_refusal T member) _ T' r e in
    let same : accepted (record (recovered T member) { last_moment = m }) (Recovered (length (lost_of member T.fired)) (length (recoveries T member))) ≡ accepted T' r = way.outcome in
    let after = valid-recovered T member valid (found_itself T node member valid found) (recovery_room T member way.clear) in
    subst TablesValid (cc) (valid-moment (recovered T member) m after (subst (λ h. IsMoment h m) (sym (recovered_horizon T member)) is))

pub kept-recover : (T T' : SchedulerTables) (m : ℤ) (me : MemberData) (node : List ℕ) (r : Reply) → TablesValid T → IsMoment T.horizon m → recover T m me node ≡ accepted T' r → TablesValid T'
kept-recover T T' m me node r valid is e = kept-recover_member T T' m node (member_of node T.members) r valid is refl (passes (node_refusal T me) _ T' r e).outcome
