-- The transactions on members: a node joins or leaves, or a member that failed is recovered.
use Rattle.std.specs.Prelude.{ℕ, ◌+◌, ℤ, pos, negsuc, List, ◌∷◌, ◌++◌, Bool, false, not, ◌&&◌, ◌||◌, fold, filter, map, length, nat_le, nat_lt, codes, Option, Some, None, is_some, if◌then◌else◌}
use Rattle.std.specs.Fmt.{decimal}
use Rattle.std.specs.List.{list_any}
use Rattle.qz_civil.specs.declared.timings.Kind.TheVariants.{Simple}
use Rattle.qz_types.specs.Rows.{JobData, TriggerData, MemberData, FiredData}
use Rattle.qz_types.specs.declared.keys.Key.{Key}
use Rattle.qz_types.specs.declared.limits.TheConstants.{MEMBER_LIMIT, NUMBER_LIMIT, TRIGGER_LIMIT}
use Rattle.qz_types.specs.declared.triggers.TriggerState.TheVariants.{Waiting}
use Rattle.qz_types.specs.declared.replies.Reply.TheVariants.{Done, Joined, Recovered}
use Rattle.qz_types.specs.declared.replies.Refusal.{Refusal}
use Rattle.qz_types.specs.declared.replies.Refusal.TheVariants.{InUse, NotMember, TooMany}
use Rattle.qz_types.specs.Changes.{in_state, with_state}
use Rattle.qz_types.specs.States.{is_acquired, is_acquired_for, unblocked, first_state}
use Rattle.qz_types.specs.Tables.{SchedulerTables}
use Rattle.qz_types.specs.Outcomes.{Outcome, accepted, refused, unless}
use Rattle.qz_types.specs.Words.{same_key, job_of, put_trigger, member_of, put_member, without_member, is_paused}
use Rattle.qz_model.specs.Completing.{is_finished}
use Rattle.qz_model.specs.Jobs.{is_orphan}
use Rattle.qz_model.specs.Membership.{node_refusal}
use Rattle.qz_model.specs.Tests.{refuse_if, or_refusal, is_of, is_row_of_trigger}

-- What a member had in its hands.

-- its executions, which are lost with it
unfoldable pub lost_of : MemberData → List FiredData → List FiredData
lost_of member fired = filter (λ f. not (is_acquired f.state) && is_of member f) fired

-- the rows of all others
unfoldable pub rows_of_others : MemberData → List FiredData → List FiredData
rows_of_others member fired = filter (λ f. not (is_of member f)) fired

-- the member acquired the trigger of this key
abbrev pub has_acquired : MemberData → List FiredData → Key → Bool
has_acquired member fired key = list_any (λ f. is_of member f && is_acquired_for key f) fired

-- the triggers, those that it acquired waiting again
unfoldable pub freed_by : MemberData → List FiredData → List TriggerData → List TriggerData
freed_by member fired triggers = map (λ t. if has_acquired member fired t.spec.key then in_state Waiting t else t) triggers

-- Recovery of its executions.

-- one of the executions excluded all others of this job
abbrev pub has_excluded : List FiredData → Key → Bool
has_excluded lost job = list_any (λ f. f.no_concurrent && same_key f.job job) lost

-- the triggers, those unblocked whose jobs they excluded
unfoldable pub unblocked_by : List FiredData → List TriggerData → List TriggerData
unblocked_by lost triggers = map (λ t. if has_excluded lost t.spec.job then with_state unblocked t else t) triggers

-- the execution asks for recovery, and its job is stored
unfoldable pub asks : List JobData → FiredData → Bool
asks jobs f = f.requests_recovery && is_some (job_of f.job jobs)

-- the trigger by which it is recovered: it fires once, for the same time; paused groups, of triggers and of jobs, hold it
unfoldable pub recovery_trigger : List (List ℕ) → List (List ℕ) → FiredData → TriggerData
recovery_trigger paused_groups paused_job_groups f = record {
  spec = record {
    key = record { group = codes "RECOVERING_JOBS"; name = codes "recover_" ++ f.node ++ 95 ∷ decimal f.entry };
    job = f.job;
    priority = f.priority;
    calendar = None;
    timing = record { kind = Simple (pos 0) (pos 0); misfire = negsuc 0; start = f.scheduled; end = None };
  };
  next = Some f.scheduled;
  prev = None;
  times = 0;
  state = first_state (is_paused (codes "RECOVERING_JOBS") paused_groups || is_paused f.job.group paused_job_groups) false;
}

-- the triggers that are added for a member's executions
unfoldable pub recoveries : SchedulerTables → MemberData → List TriggerData
recoveries T member = map (recovery_trigger T.paused_groups T.paused_job_groups) (filter (asks T.jobs) (lost_of member T.fired))

-- one of the executions was of this trigger, which is finished now
abbrev pub has_finished : List FiredData → List FiredData → TriggerData → Bool
has_finished lost left t = list_any (is_row_of_trigger t.spec.key) lost && is_finished left t

-- the triggers with those that are added, and without those that are finished
unfoldable pub triggers_added : SchedulerTables → MemberData → List TriggerData
triggers_added T member = fold (λ ts t. put_trigger t ts) (unblocked_by (lost_of member T.fired) (freed_by member T.fired T.triggers)) (recoveries T member)

unfoldable pub triggers_left : SchedulerTables → MemberData → List TriggerData
triggers_left T member = filter (λ t. not (has_finished (lost_of member T.fired) (rows_of_others member T.fired) t)) (triggers_added T member)

-- one of these triggers is of this job, and finished
abbrev pub has_lost : List FiredData → List FiredData → List TriggerData → JobData → Bool
has_lost lost left triggers j = list_any (λ t. same_key j.key t.spec.job && has_finished lost left t) triggers

-- the jobs, without those that have lost a trigger and are orphans now
unfoldable pub jobs_left : SchedulerTables → MemberData → List JobData
jobs_left T member =
    filter (λ j. not (has_lost (lost_of member T.fired) (rows_of_others member T.fired) (triggers_added T member) j && is_orphan (triggers_left T member) j)) T.jobs

-- the tables without the member
unfoldable pub recovered : SchedulerTables → MemberData → SchedulerTables
recovered T member = record T {
  triggers = triggers_left T member;
  jobs = jobs_left T member;
  fired = rows_of_others member T.fired;
  members = without_member member.node T.members;
}

-- the triggers that are added would be too many
unfoldable pub recovery_refusal : SchedulerTables → MemberData → Option Refusal
recovery_refusal T member = refuse_if (nat_lt TRIGGER_LIMIT (length T.triggers + length (recoveries T member))) (TooMany TRIGGER_LIMIT) None

-- Recover.

abbrev pub recover_member : SchedulerTables → ℤ → Option MemberData → Outcome
recover_member T m None = refused NotMember
recover_member T m (Some member) = unless (recovery_refusal T member)
    (accepted (record (recovered T member) { last_moment = m }) (Recovered (length (lost_of member T.fired)) (length (recoveries T member))))

-- a member recovers what a failed one had
abbrev pub recover : SchedulerTables → ℤ → MemberData → List ℕ → Outcome
recover T m me node = unless (node_refusal T me) (recover_member T m (member_of node T.members))

-- Join.

-- the tables with a new member, under the next epoch
unfoldable pub with_new_member : SchedulerTables → List ℕ → SchedulerTables
with_new_member T node = record T {
  members = put_member (record { node = node; epoch = T.next_epoch }) T.members;
  next_epoch = T.next_epoch + 1;
}

unfoldable pub epoch_refusal : SchedulerTables → Option Refusal
epoch_refusal T = refuse_if (nat_lt NUMBER_LIMIT (T.next_epoch + 1)) (TooMany NUMBER_LIMIT) None

unfoldable pub join_refusal : SchedulerTables → Option MemberData → Option Refusal
join_refusal T None = refuse_if (nat_le MEMBER_LIMIT (length T.members)) (TooMany MEMBER_LIMIT) (epoch_refusal T)
join_refusal T (Some member) = or_refusal (recovery_refusal T member) (epoch_refusal T)

-- a node that joins under a member's name takes its place, and what that one had is recovered first
abbrev pub joined : SchedulerTables → ℤ → List ℕ → Option MemberData → Outcome
joined T m node None = accepted (record (with_new_member T node) { last_moment = m }) (Joined T.next_epoch 0 0)
joined T m node (Some member) =
    accepted (record (with_new_member (recovered T member) node) { last_moment = m })
    (Joined T.next_epoch (length (lost_of member T.fired)) (length (recoveries T member)))

abbrev pub join : SchedulerTables → ℤ → List ℕ → Outcome
join T m node = unless (join_refusal T (member_of node T.members)) (joined T m node (member_of node T.members))

-- Leave.

-- a member can't leave while executions of its own go on
unfoldable pub leave_refusal : SchedulerTables → MemberData → Option Refusal
leave_refusal T me = refuse_if (nat_lt 0 (length (lost_of me T.fired))) (InUse (length (lost_of me T.fired))) None

-- what it acquired is given back
abbrev pub leave : SchedulerTables → ℤ → MemberData → Outcome
leave T m me = unless (or_refusal (node_refusal T me) (leave_refusal T me))
    (accepted (record T {
      triggers = freed_by me T.fired T.triggers;
      fired = rows_of_others me T.fired;
      members = without_member me.node T.members;
      last_moment = m;
    }) Done)
