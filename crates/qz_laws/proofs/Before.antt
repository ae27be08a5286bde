-- What was accepted before groups of jobs could be paused is accepted still, and comes to the same.
use Rattle.std.proofs.Common.{◌≡◌, ℕ, ◌+◌, ◌≤◌, ℤ, Bool, true, false, not, ◌&&◌, ◌||◌, List, [], ◌∷◌, length, map, filter, find, nat_le, nat_lt, codes, Option, Some, None, is_some, is_none, refl, sym, ap, ◌∙◌, subst, arith}
use Rattle.std.proofs.lemmas.Bool.Decides.{nat_tests}
use Rattle.qz_types.specs.Rows.{JobData, TriggerData, MemberData, FiredData}
use Rattle.qz_types.specs.Entries.{EntryData}
use Rattle.qz_types.specs.declared.keys.Key.{Key}
use Rattle.qz_types.specs.declared.limits.TheConstants.{JOB_LIMIT, TRIGGER_LIMIT, FIRED_LIMIT}
use Rattle.qz_types.specs.declared.triggers.TriggerSpec.{TriggerSpec}
use Rattle.qz_types.specs.declared.triggers.TriggerState.{TriggerState}
use Rattle.qz_types.specs.declared.commands.Command.{Command}
use Rattle.qz_types.specs.declared.commands.Command.TheVariants as command
use Rattle.qz_types.specs.declared.commands.Actor.{Actor}
use Rattle.qz_types.specs.declared.commands.Actor.TheVariants.{Client, Node}
use Rattle.qz_types.specs.declared.replies.Reply.{Reply}
use Rattle.qz_types.specs.declared.replies.Refusal.{Refusal}
use Rattle.qz_types.specs.declared.replies.Refusal.TheVariants.{UnknownJob, JobExists, TriggerExists, NeverFires, TooMany}
use Rattle.qz_types.specs.Changes.{with_states}
use Rattle.qz_types.specs.States.{resumed, first_state}
use Rattle.qz_types.specs.Tables.{SchedulerTables, recorded_moment}
use Rattle.qz_types.specs.Outcomes.{Outcome, accepted, refused, unless, IsAccepted}
use Rattle.qz_types.specs.Words.{job_of, trigger_of, group_of, is_paused, member_of}
use Rattle.qz_model.specs.Acquiring.{acquire_refusal}
use Rattle.qz_model.specs.Executions.{is_busy}
use Rattle.qz_model.specs.History.{tables_left, onto_replies, IsLegalFrom, replay_from, replies_from}
use Rattle.qz_model.specs.Jobs.{flag_refusal, has_other_flag, add_job_refusal}
use Rattle.qz_model.specs.Membership.{node_refusal}
use Rattle.qz_model.specs.Pausing.{is_in_group, is_resumed_with_group}
use Rattle.qz_model.specs.Plan.{first_time}
use Rattle.qz_model.specs.Recovery.{lost_of, asks, recovery_trigger, recoveries, triggers_added, triggers_left, jobs_left, recovered, recovery_refusal, recover_member, join_refusal, joined}
use Rattle.qz_model.specs.Tests.{refuse_if, or_refusal}
use Rattle.qz_model.specs.Transaction.{by_command, transaction}
use Rattle.qz_model.specs.Triggers.{is_in_paused, new_state, new_trigger, naming_refusal, add_trigger_refusal, manual_trigger, trigger_now_refusal}
use Rattle.qz_model.proofs.Refusals.{not_refused, no_first}
use Rattle.qz_laws.specs.Before.{jobs_before, triggers_before, fired_before, add_job_refusal_before, new_trigger_before, add_trigger_refusal_before, trigger_now_refusal_before, acquire_refusal_before, recovery_trigger_before, recoveries_before, triggers_added_before, triggers_left_before, jobs_left_before, recovered_before, recovery_refusal_before, recover_member_before, join_refusal_before, joined_before, was_known, by_command_before, transaction_before, WasLegalFrom, replay_before, replies_before}
use Rattle.qz_laws.proofs.JobGroups.{groups_kept}

-- Refusals: the limits of today leave more room.

still_below : (old new n : ℕ) → old ≤ new → nat_le old n ≡ false → nat_le new n ≡ false
still_below old new n more below = grind (arith, nat_tests)

still_up_to : (old new n : ℕ) → old ≤ new → nat_lt old n ≡ false → nat_lt new n ≡ false
still_up_to old new n more fits = grind (arith, nat_tests)

still_room : (absent : Bool) (old new n : ℕ) → old ≤ new → (absent && nat_le old n) ≡ false → (absent && nat_le new n) ≡ false
still_room true old new n more below = still_below old new n more below
still_room false old new n more below = refl

clear_if : (b : Bool) (x : Refusal) (next : Option Refusal) → b ≡ false → next ≡ None → refuse_if b x next ≡ None
clear_if b x next fails none = rw fails none

clear_or : (first next : Option Refusal) → first ≡ None → next ≡ None → or_refusal first next ≡ None
clear_or first next none also = rw none also

still-add_job : (T : SchedulerTables) (job : JobData) (replace : Bool) → add_job_refusal_before T job replace ≡ None → add_job_refusal T job replace ≡ None
unfolding add_job_refusal_before add_job_refusal
still-add_job T job replace clear =
    let stored = not_refused (is_some (job_of job.key T.jobs) && not replace) JobExists _ clear in
    let flags = no_first (flag_refusal (find (has_other_flag job) T.fired)) _ stored.1 in
    let full = not_refused (is_none (job_of job.key T.jobs) && nat_le jobs_before (length T.jobs)) (TooMany jobs_before) None flags.1 in
    clear_if _ JobExists _ stored.0 (clear_or _ _ flags.0 (clear_if _ (TooMany JOB_LIMIT) None (still_room _ jobs_before JOB_LIMIT (length T.jobs) (omega arith) full.0) refl))

still-add_trigger : (T : SchedulerTables) (s : TriggerSpec) (replace : Bool) → add_trigger_refusal_before T s replace ≡ None → add_trigger_refusal T s replace ≡ None
unfolding add_trigger_refusal_before add_trigger_refusal
still-add_trigger T s replace clear =
    let names = no_first (naming_refusal T s) _ clear in
    let stored = not_refused (is_some (trigger_of s.key T.triggers) && not replace) TriggerExists _ names.1 in
    let time = not_refused (is_none (first_time T s)) NeverFires _ stored.1 in
    let full = not_refused (is_none (trigger_of s.key T.triggers) && nat_le triggers_before (length T.triggers)) (TooMany triggers_before) None time.1 in
    clear_or _ _ names.0 (clear_if _ TriggerExists _ stored.0 (clear_if _ NeverFires _ time.0
    (clear_if _ (TooMany TRIGGER_LIMIT) None (still_room _ triggers_before TRIGGER_LIMIT (length T.triggers) (omega arith) full.0) refl)))

still-trigger_now : (T : SchedulerTables) (job : Key) → trigger_now_refusal_before T job ≡ None → trigger_now_refusal T job ≡ None
unfolding trigger_now_refusal_before trigger_now_refusal
still-trigger_now T job clear =
    let stored = not_refused (is_none (job_of job T.jobs)) UnknownJob _ clear in
    let full = not_refused (nat_le triggers_before (length T.triggers)) (TooMany triggers_before) _ stored.1 in
    clear_if _ UnknownJob _ stored.0 (clear_if _ (TooMany TRIGGER_LIMIT) _ (still_below triggers_before TRIGGER_LIMIT (length T.triggers) (omega arith) full.0) full.1)

still-acquire : (T : SchedulerTables) (me : MemberData) (max : ℕ) → or_refusal (node_refusal T me) (acquire_refusal_before T max) ≡ None → or_refusal (node_refusal T me) (acquire_refusal T max) ≡ None
unfolding acquire_refusal_before acquire_refusal
still-acquire T me max clear =
    let fence = no_first (node_refusal T me) _ clear in
    let full = not_refused (nat_lt fired_before (length T.fired + max)) (TooMany fired_before) _ fence.1 in
    clear_or _ _ fence.0 (clear_if _ (TooMany FIRED_LIMIT) _ (still_up_to fired_before FIRED_LIMIT (length T.fired + max) (omega arith) full.0) full.1)

-- New triggers: no group of jobs is paused.

own_alone : (b : Bool) (group : List ℕ) (groups : List (List ℕ)) → groups ≡ [] → (b || is_paused group groups) ≡ b
unfolding group_of
own_alone true group groups none = refl
own_alone false group groups none = rw none refl

same-new_trigger : (T : SchedulerTables) (s : TriggerSpec) (next : Option ℤ) → T.paused_job_groups ≡ [] → new_trigger T s next ≡ new_trigger_before T s next
unfolding new_trigger new_trigger_before new_state is_in_paused
same-new_trigger T s next none =
    ap (λ b. record { spec = s; next = next; prev = None; times = 0; state = first_state b (is_busy s.job T.fired) }) (own_alone (is_paused s.key.group T.paused_groups) s.job.group T.paused_job_groups none)

-- A group that is resumed: so are all its triggers.

all_resumed : (T : SchedulerTables) (group : List ℕ) (t : TriggerData) → T.paused_job_groups ≡ [] → is_resumed_with_group T group t ≡ is_in_group group t
unfolding group_of
all_resumed T group t none = rw none (elim (is_in_group group t) as (λ b. (b && true) ≡ b) [ true ↦ refl | false ↦ refl ])

states_alike : (change : TriggerState → TriggerState) (p q : TriggerData → Bool) (rows : List TriggerData) → ((t : TriggerData) → p t ≡ q t) → with_states change p rows ≡ with_states change q rows
unfolding with_states
states_alike change p q [] same = refl
states_alike change p q (t ∷ rows) same = rw (same t, states_alike change p q rows same) refl

-- Recovery.

same-recovery_trigger : (groups job_groups : List (List ℕ)) (f : FiredData) → job_groups ≡ [] → recovery_trigger groups job_groups f ≡ recovery_trigger_before groups f
unfolding recovery_trigger recovery_trigger_before
same-recovery_trigger groups job_groups f none =
    let t : TriggerData = recovery_trigger_before groups f in
    ap (λ b. record { spec = t.spec; next = t.next; prev = t.prev; times = t.times; state = first_state b false }) (own_alone (is_paused (codes "RECOVERING_JOBS") groups) f.job.group job_groups none)

each_recovery : (groups job_groups : List (List ℕ)) (fs : List FiredData) → job_groups ≡ [] → map (recovery_trigger groups job_groups) fs ≡ map (recovery_trigger_before groups) fs
each_recovery groups job_groups [] none = refl
each_recovery groups job_groups (f ∷ fs) none = rw (same-recovery_trigger groups job_groups f none, each_recovery groups job_groups fs none) refl

module _ (T : SchedulerTables) (member : MemberData) (none : T.paused_job_groups ≡ []) where
  same-recoveries : recoveries T member ≡ recoveries_before T member
  unfolding recoveries recoveries_before
  same-recoveries = each_recovery T.paused_groups T.paused_job_groups (filter (asks T.jobs) (lost_of member T.fired)) none

  same-triggers_added : triggers_added T member ≡ triggers_added_before T member
  unfolding triggers_added triggers_added_before
  same-triggers_added = rw same-recoveries refl

  same-triggers_left : triggers_left T member ≡ triggers_left_before T member
  unfolding triggers_left triggers_left_before
  same-triggers_left = rw same-triggers_added refl

  same-jobs_left : jobs_left T member ≡ jobs_left_before T member
  unfolding jobs_left jobs_left_before
  same-jobs_left = rw (same-triggers_added, same-triggers_left) refl

  same-recovered : recovered T member ≡ recovered_before T member
  unfolding recovered recovered_before
  same-recovered = rw (same-triggers_left, same-jobs_left) refl

  still-recovery : recovery_refusal_before T member ≡ None → recovery_refusal T member ≡ None
  unfolding recovery_refusal_before recovery_refusal
  still-recovery clear =
      let full = not_refused (nat_lt triggers_before (length T.triggers + length (recoveries_before T member))) (TooMany triggers_before) None clear in
      clear_if _ (TooMany TRIGGER_LIMIT) None
      (subst (λ (ts : List TriggerData). nat_lt TRIGGER_LIMIT (length T.triggers + length ts) ≡ false) (sym same-recoveries)
      (still_up_to triggers_before TRIGGER_LIMIT (length T.triggers + length (recoveries_before T member)) (omega arith) full.0)) refl

-- Outcomes.

accepted_still : (x y : Option Refusal) (o p : Outcome) (U : SchedulerTables) (r : Reply) → (x ≡ None → y ≡ None) → p ≡ o → unless x o ≡ accepted U r → unless y p ≡ accepted U r
accepted_still None y o p U r clear same e = rw (clear refl) (same ∙ e)
accepted_still (Some z) y o p U r clear same e = absurd (cc)

-- the same, where what comes to pass is shown for itself
accepted_then : (x : Option Refusal) (o p : Outcome) (U : SchedulerTables) (r : Reply) → (o ≡ accepted U r → p ≡ accepted U r) → unless x o ≡ accepted U r → unless x p ≡ accepted U r
accepted_then None o p U r still e = still e
accepted_then (Some z) o p U r still e = absurd (cc)

module _ (T : SchedulerTables) (m : ℤ) (none : T.paused_job_groups ≡ []) (U : SchedulerTables) (r : Reply) where
  still-recover_member : (o : Option MemberData) → recover_member_before T m o ≡ accepted U r → recover_member T m o ≡ accepted U r
  still-recover_member None e = absurd (cc)
  still-recover_member (Some member) e =
      accepted_still _ _ _ _ U r (still-recovery T member none) (rw (same-recovered T member none, same-recoveries T member none) refl) e

  still-join : (o : Option MemberData) → join_refusal_before T o ≡ None → join_refusal T o ≡ None
  unfolding join_refusal_before join_refusal
  still-join None clear = clear
  still-join (Some member) clear = let parts = no_first (recovery_refusal_before T member) _ clear in clear_or _ _ (still-recovery T member none parts.0) parts.1

  same-joined : (node : List ℕ) (o : Option MemberData) → joined T m node o ≡ joined_before T m node o
  same-joined node None = refl
  same-joined node (Some member) = rw (same-recovered T member none, same-recoveries T member none) refl

  still-by_command : (actor : Actor) (c : Command) → was_known c ≡ true → by_command_before T m actor c ≡ accepted U r → by_command T m actor c ≡ accepted U r
  still-by_command actor (command.AddJob job replace) known e = accepted_still _ _ _ _ U r (still-add_job T job replace) refl e
  still-by_command actor (command.AddTrigger spec replace) known e =
      accepted_still _ _ _ _ U r (still-add_trigger T spec replace) (rw (same-new_trigger T spec (first_time T spec) none) refl) e
  still-by_command actor (command.TriggerNow job) known e =
      accepted_still _ _ _ _ U r (still-trigger_now T job) (rw (same-new_trigger T (manual_trigger m T.next_entry job) (Some m) none) refl) e
  still-by_command actor (command.ResumeGroup group) known e =
      rw (states_alike resumed (is_resumed_with_group T group) (is_in_group group) T.triggers (λ t. all_resumed T group t none)) e
  still-by_command actor (command.Join node) known e = accepted_still _ _ _ _ U r (still-join (member_of node T.members)) (same-joined node (member_of node T.members)) e
  still-by_command Client (command.Acquire no_later window max) known e = e
  still-by_command (Node me) (command.Acquire no_later window max) known e = accepted_still _ _ _ _ U r (still-acquire T me max) refl e
  still-by_command Client (command.Recover node) known e = e
  still-by_command (Node me) (command.Recover node) known e = accepted_then _ _ _ U r (still-recover_member (member_of node T.members)) e
  still-by_command actor (command.DeleteJob key) known e = e
  still-by_command actor (command.DeleteTrigger key) known e = e
  still-by_command actor (command.PauseTrigger key) known e = e
  still-by_command actor (command.ResumeTrigger key) known e = e
  still-by_command actor (command.PauseGroup group) known e = e
  still-by_command actor (command.AddCalendar calendar replace) known e = e
  still-by_command actor (command.DeleteCalendar name) known e = e
  still-by_command actor (command.AddZone zone) known e = e
  still-by_command actor (command.DeleteZone name) known e = e
  still-by_command actor (command.Threshold ms) known e = e
  still-by_command actor command.Leave known e = e
  still-by_command actor (command.Release entry) known e = e
  still-by_command actor (command.Fire entry) known e = e
  still-by_command actor (command.Complete entry code) known e = e
  still-by_command actor command.Misfires known e = e
  still-by_command actor command.Upgrade known e = e
  still-by_command actor (command.ResetTrigger key) known e = absurd (cc)
  still-by_command actor (command.PauseJobGroup group) known e = absurd (cc)
  still-by_command actor (command.ResumeJobGroup group) known e = absurd (cc)

-- What an entry that was accepted comes to: the same, and no group of jobs is paused then.
record IsStill (T : SchedulerTables) (e : EntryData) (o : Outcome) : Type 0 where
  pub now : transaction T e ≡ o
  pub none : (tables_left T o).paused_job_groups ≡ []

entry_still : (T : SchedulerTables) (e : EntryData) (o : Outcome) → T.paused_job_groups ≡ [] → was_known e.command ≡ true → transaction_before T e ≡ o → IsAccepted o → IsStill T e o
entry_still T e (accepted U r) none known before is =
    let now : transaction T e ≡ accepted U r = still-by_command T (recorded_moment T e.at) none U r e.actor e.command known before in
    record { now = now; none = groups_kept T U (recorded_moment T e.at) e.actor e.command r known now ∙ none }
entry_still T e (refused x) none known before is = absurd is

-- Histories.
pub record IsAsBefore (T : SchedulerTables) (es : List EntryData) : Type 0 where
  pub legal : IsLegalFrom T es
  pub replies : replies_from T es ≡ replies_before T es
  pub tables : replay_from T es ≡ replay_before T es
  pub none : (replay_from T es).paused_job_groups ≡ []

-- one entry more at the beginning
entry_before : (T : SchedulerTables) (e : EntryData) (es : List EntryData) → transaction T e ≡ transaction_before T e → IsAccepted (transaction_before T e)
    → IsAsBefore (tables_left T (transaction_before T e)) es → IsAsBefore T (e ∷ es)
entry_before T e es same is rest = record {
  legal = subst (λ (o : Outcome). IsAccepted o × IsLegalFrom (tables_left T o) es) (sym same) (is, rest.legal);
  replies = subst (λ (o : Outcome). onto_replies o (replies_from (tables_left T o) es) ≡ replies_before T (e ∷ es)) (sym same) (ap (onto_replies (transaction_before T e)) rest.replies);
  tables = subst (λ (o : Outcome). replay_from (tables_left T o) es ≡ replay_before T (e ∷ es)) (sym same) rest.tables;
  none = subst (λ (o : Outcome). (replay_from (tables_left T o) es).paused_job_groups ≡ []) (sym same) rest.none;
}

pub stays_legal : (T : SchedulerTables) (es : List EntryData) → T.paused_job_groups ≡ [] → WasLegalFrom T es → IsAsBefore T es
stays_legal T [] none legal = record { legal = tt; replies = refl; tables = refl; none = none }
stays_legal T (e ∷ es) none legal =
    let still = entry_still T e (transaction_before T e) none legal.0 refl legal.1 in
    entry_before T e es still.now legal.1 (stays_legal (tables_left T (transaction_before T e)) es still.none legal.2)
