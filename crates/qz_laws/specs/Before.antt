-- The transactions as they were before groups of jobs could be paused, when tables were smaller. Tables of that time are those
-- without a paused group of jobs. What changed is written out here as it was then, so that the law holds the model of today
-- against it; all else is the model's.
use Rattle.std.specs.Prelude.{◌≡◌, ⊤, ℕ, ◌+◌, ℤ, pos, negsuc, ◌+ℤ◌, List, [], ◌∷◌, ◌++◌, Bool, true, false, not, ◌&&◌, fold, filter, find, map, length, nat_le, nat_lt, codes, Option, Some, None, is_some, is_none, unwrap_or}
use Rattle.std.specs.Fmt.{decimal}
use Rattle.qz_civil.specs.declared.timings.Kind.TheVariants.{Simple}
use Rattle.qz_types.specs.Rows.{JobData, TriggerData, MemberData, FiredData}
use Rattle.qz_types.specs.Entries.{EntryData}
use Rattle.qz_types.specs.declared.keys.Key.{Key}
use Rattle.qz_types.specs.declared.limits.TheConstants.{MEMBER_LIMIT, NUMBER_LIMIT}
use Rattle.qz_types.specs.declared.triggers.TriggerSpec.{TriggerSpec}
use Rattle.qz_types.specs.declared.commands.Command.{Command}
use Rattle.qz_types.specs.declared.commands.Command.TheVariants.{AddJob, AddTrigger, ResumeGroup, TriggerNow, Join, Acquire, Recover, ResetTrigger, PauseJobGroup, ResumeJobGroup}
use Rattle.qz_types.specs.declared.commands.Actor.{Actor}
use Rattle.qz_types.specs.declared.replies.Reply.{Reply}
use Rattle.qz_types.specs.declared.replies.Reply.TheVariants.{Done, Added, Triggered, Joined, Recovered}
use Rattle.qz_types.specs.declared.replies.Refusal.{Refusal}
use Rattle.qz_types.specs.declared.replies.Refusal.TheVariants.{UnknownJob, JobExists, TriggerExists, NeverFires, NotMember, TooMany}
use Rattle.qz_types.specs.Changes.{with_states}
use Rattle.qz_types.specs.States.{resumed, first_state}
use Rattle.qz_types.specs.Tables.{SchedulerTables, recorded_moment}
use Rattle.qz_types.specs.Outcomes.{Outcome, accepted, refused, unless, IsAccepted}
use Rattle.qz_types.specs.Words.{job_of, put_job, without_job, trigger_of, put_trigger, is_paused, without_group, member_of, without_member}
use Rattle.qz_model.specs.Acquiring.{chosen, acquire_each}
use Rattle.qz_model.specs.Executions.{is_busy}
use Rattle.qz_model.specs.History.{tables_left, onto_replies}
use Rattle.qz_model.specs.Jobs.{flag_refusal, has_other_flag, is_orphan}
use Rattle.qz_model.specs.Membership.{node_refusal}
use Rattle.qz_model.specs.Pausing.{is_in_group}
use Rattle.qz_model.specs.Plan.{first_time}
use Rattle.qz_model.specs.Recovery.{lost_of, rows_of_others, freed_by, unblocked_by, asks, has_finished, has_lost, with_new_member, epoch_refusal}
use Rattle.qz_model.specs.Tests.{refuse_if, or_refusal}
use Rattle.qz_model.specs.Transaction.{as_node, by_command}
use Rattle.qz_model.specs.Triggers.{naming_refusal, with_new_trigger, manual_trigger}

-- How many jobs, triggers and fired rows tables had at most.
abbrev pub jobs_before : ℕ
jobs_before = 65536

abbrev pub triggers_before : ℕ
triggers_before = 262144

abbrev pub fired_before : ℕ
fired_before = 16384

-- AddJob.

unfoldable pub add_job_refusal_before : SchedulerTables → JobData → Bool → Option Refusal
add_job_refusal_before T job replace =
    refuse_if (is_some (job_of job.key T.jobs) && not replace) JobExists
    (or_refusal (flag_refusal (find (has_other_flag job) T.fired))
    (refuse_if (is_none (job_of job.key T.jobs) && nat_le jobs_before (length T.jobs)) (TooMany jobs_before) None))

abbrev pub add_job_before : SchedulerTables → ℤ → JobData → Bool → Outcome
add_job_before T m job replace = unless (add_job_refusal_before T job replace)
    (accepted (record T { jobs = put_job job (without_job job.key T.jobs); last_moment = m }) Done)

-- AddTrigger and TriggerNow. A new trigger was paused with its own group alone.

unfoldable pub new_trigger_before : SchedulerTables → TriggerSpec → Option ℤ → TriggerData
new_trigger_before T s next = record {
  spec = s;
  next = next;
  prev = None;
  times = 0;
  state = first_state (is_paused s.key.group T.paused_groups) (is_busy s.job T.fired);
}

unfoldable pub add_trigger_refusal_before : SchedulerTables → TriggerSpec → Bool → Option Refusal
add_trigger_refusal_before T s replace = or_refusal (naming_refusal T s)
    (refuse_if (is_some (trigger_of s.key T.triggers) && not replace) TriggerExists
    (refuse_if (is_none (first_time T s)) NeverFires
    (refuse_if (is_none (trigger_of s.key T.triggers) && nat_le triggers_before (length T.triggers)) (TooMany triggers_before) None)))

abbrev pub add_trigger_before : SchedulerTables → ℤ → TriggerSpec → Bool → Outcome
add_trigger_before T m s replace = unless (add_trigger_refusal_before T s replace)
    (accepted (record (with_new_trigger T (new_trigger_before T s (first_time T s))) { last_moment = m }) (Added (unwrap_or (first_time T s) (pos 0))))

unfoldable pub trigger_now_refusal_before : SchedulerTables → Key → Option Refusal
trigger_now_refusal_before T job =
    refuse_if (is_none (job_of job T.jobs)) UnknownJob
    (refuse_if (nat_le triggers_before (length T.triggers)) (TooMany triggers_before)
    (refuse_if (nat_lt NUMBER_LIMIT (T.next_entry + 1)) (TooMany NUMBER_LIMIT) None))

abbrev pub trigger_now_before : SchedulerTables → ℤ → Key → Outcome
trigger_now_before T m job = unless (trigger_now_refusal_before T job)
    (accepted (record T {
      triggers = put_trigger (new_trigger_before T (manual_trigger m T.next_entry job) (Some m)) T.triggers;
      next_entry = T.next_entry + 1;
      last_moment = m;
    }) (Triggered (manual_trigger m T.next_entry job).key m))

-- ResumeGroup. Each trigger of the group was resumed.

abbrev pub resume_group_before : SchedulerTables → ℤ → List ℕ → Outcome
resume_group_before T m group =
    accepted (record T {
      paused_groups = without_group group T.paused_groups;
      triggers = with_states resumed (is_in_group group) T.triggers;
      last_moment = m;
    }) Done

-- Acquire.

unfoldable pub acquire_refusal_before : SchedulerTables → ℕ → Option Refusal
acquire_refusal_before T max =
    refuse_if (nat_lt fired_before (length T.fired + max)) (TooMany fired_before)
    (refuse_if (nat_lt NUMBER_LIMIT (T.next_entry + max)) (TooMany NUMBER_LIMIT) None)

abbrev pub acquire_before : SchedulerTables → ℤ → MemberData → ℤ → ℤ → ℕ → Outcome
acquire_before T m me no_later window max =
    unless (or_refusal (node_refusal T me) (acquire_refusal_before T max)) (acquire_each T m me (chosen T m (no_later +ℤ window) max))

-- Recovery. A trigger that recovers an execution was paused with its own group alone.

unfoldable pub recovery_trigger_before : List (List ℕ) → FiredData → TriggerData
recovery_trigger_before paused_groups f = record {
  spec = record {
    key = record { group = codes "RECOVERING_JOBS"; name = codes "recover_" ++ f.node ++ 95 ∷ decimal f.entry };
    job = f.job;
    priority = f.priority;
    calendar = None;
    timing = record { kind = Simple (pos 0) (pos 0); misfire = negsuc 0; start = f.scheduled; end = None };
  };
  next = Some f.scheduled;
  prev = None;
  times = 0;
  state = first_state (is_paused (codes "RECOVERING_JOBS") paused_groups) false;
}

unfoldable pub recoveries_before : SchedulerTables → MemberData → List TriggerData
recoveries_before T member = map (recovery_trigger_before T.paused_groups) (filter (asks T.jobs) (lost_of member T.fired))

unfoldable pub triggers_added_before : SchedulerTables → MemberData → List TriggerData
triggers_added_before T member =
    fold (λ ts t. put_trigger t ts) (unblocked_by (lost_of member T.fired) (freed_by member T.fired T.triggers)) (recoveries_before T member)

unfoldable pub triggers_left_before : SchedulerTables → MemberData → List TriggerData
triggers_left_before T member = filter (λ t. not (has_finished (lost_of member T.fired) (rows_of_others member T.fired) t)) (triggers_added_before T member)

unfoldable pub jobs_left_before : SchedulerTables → MemberData → List JobData
jobs_left_before T member =
    filter (λ j. not (has_lost (lost_of member T.fired) (rows_of_others member T.fired) (triggers_added_before T member) j && is_orphan (triggers_left_before T member) j)) T.jobs

unfoldable pub recovered_before : SchedulerTables → MemberData → SchedulerTables
recovered_before T member = record T {
  triggers = triggers_left_before T member;
  jobs = jobs_left_before T member;
  fired = rows_of_others member T.fired;
  members = without_member member.node T.members;
}

unfoldable pub recovery_refusal_before : SchedulerTables → MemberData → Option Refusal
recovery_refusal_before T member =
    refuse_if (nat_lt triggers_before (length T.triggers + length (recoveries_before T member))) (TooMany triggers_before) None

abbrev pub recover_member_before : SchedulerTables → ℤ → Option MemberData → Outcome
recover_member_before T m None = refused NotMember
recover_member_before T m (Some member) = unless (recovery_refusal_before T member)
    (accepted (record (recovered_before T member) { last_moment = m }) (Recovered (length (lost_of member T.fired)) (length (recoveries_before T member))))

abbrev pub recover_before : SchedulerTables → ℤ → MemberData → List ℕ → Outcome
recover_before T m me node = unless (node_refusal T me) (recover_member_before T m (member_of node T.members))

unfoldable pub join_refusal_before : SchedulerTables → Option MemberData → Option Refusal
join_refusal_before T None = refuse_if (nat_le MEMBER_LIMIT (length T.members)) (TooMany MEMBER_LIMIT) (epoch_refusal T)
join_refusal_before T (Some member) = or_refusal (recovery_refusal_before T member) (epoch_refusal T)

abbrev pub joined_before : SchedulerTables → ℤ → List ℕ → Option MemberData → Outcome
joined_before T m node None = accepted (record (with_new_member T node) { last_moment = m }) (Joined T.next_epoch 0 0)
joined_before T m node (Some member) =
    accepted (record (with_new_member (recovered_before T member) node) { last_moment = m })
    (Joined T.next_epoch (length (lost_of member T.fired)) (length (recoveries_before T member)))

abbrev pub join_before : SchedulerTables → ℤ → List ℕ → Outcome
join_before T m node = unless (join_refusal_before T (member_of node T.members)) (joined_before T m node (member_of node T.members))

-- Histories.

-- the command is one of that time
abbrev pub was_known : Command → Bool
was_known (ResetTrigger key) = false
was_known (PauseJobGroup group) = false
was_known (ResumeJobGroup group) = false
was_known command = true

-- what such a command came to at the recorded moment m
abbrev pub by_command_before : SchedulerTables → ℤ → Actor → Command → Outcome
by_command_before T m actor (AddJob job replace) = add_job_before T m job replace
by_command_before T m actor (AddTrigger spec replace) = add_trigger_before T m spec replace
by_command_before T m actor (ResumeGroup group) = resume_group_before T m group
by_command_before T m actor (TriggerNow job) = trigger_now_before T m job
by_command_before T m actor (Join node) = join_before T m node
by_command_before T m actor (Acquire no_later window max) = as_node actor (λ me. acquire_before T m me no_later window max)
by_command_before T m actor (Recover node) = as_node actor (λ me. recover_before T m me node)
by_command_before T m actor command = by_command T m actor command

abbrev pub transaction_before : SchedulerTables → EntryData → Outcome
transaction_before T e = by_command_before T (recorded_moment T e.at) e.actor e.command

-- each entry had a command of that time, and was accepted then at the tables that those before it left
abbrev pub WasLegalFrom : SchedulerTables → List EntryData → Type 0
WasLegalFrom T [] = ⊤
WasLegalFrom T (e ∷ es) =
    (was_known e.command ≡ true) × IsAccepted (transaction_before T e) × WasLegalFrom (tables_left T (transaction_before T e)) es

-- the tables that a history left then, and its replies
abbrev pub replay_before : SchedulerTables → List EntryData → SchedulerTables
replay_before T [] = T
replay_before T (e ∷ es) = replay_before (tables_left T (transaction_before T e)) es

abbrev pub replies_before : SchedulerTables → List EntryData → List Reply
replies_before T [] = []
replies_before T (e ∷ es) = onto_replies (transaction_before T e) (replies_before (tables_left T (transaction_before T e)) es)
