-- Pausing and resuming triggers and groups of them keeps the tables valid.
use Rattle.std.proofs.Common.{◌≡◌, ℕ, ◌+◌, ◌≤◌, ℤ, Bool, true, false, not, ◌&&◌, List, length, nat_le, cond, None, IsTrue, refl, sym, ap, ◌∙◌, subst, arith}
use Rattle.std.proofs.lemmas.Bool.{leb-false}
use Rattle.std.proofs.lemmas.Cmp.{nat_list_cmp_total}
use Rattle.qz_civil.specs.Timings.{is_name}
use Rattle.qz_types.specs.Rows.{TriggerData, FiredData}
use Rattle.qz_types.specs.Changes.{with_state, with_states, without_acquired}
use Rattle.qz_types.specs.States.{paused, resumed}
use Rattle.qz_types.specs.Sorted.{IsAscending}
use Rattle.qz_types.specs.declared.keys.Key.{Key}
use Rattle.qz_types.specs.declared.limits.TheConstants.{GROUP_LIMIT, JOB_GROUP_LIMIT}
use Rattle.qz_types.specs.declared.triggers.TriggerState.{TriggerState}
use Rattle.qz_types.specs.declared.triggers.TriggerState.TheVariants as state
use Rattle.qz_types.specs.declared.replies.Reply.{Reply}
use Rattle.qz_types.specs.declared.replies.Refusal.TheVariants.{TooMany}
use Rattle.qz_types.specs.Tables.{SchedulerTables, IsMoment}
use Rattle.qz_types.specs.Outcomes.{accepted}
use Rattle.qz_types.specs.Words.{text_cmp, same_text, trigger_of, with_trigger, group_of, is_paused, put_group, without_group}
use Rattle.qz_model.specs.Invariant.{AreNames, is_blocked_or_done, is_blocked, is_live_state, TablesValid}
use Rattle.qz_model.specs.Pausing.{is_in_group, is_row_of_group, pause_trigger, resume_trigger, pause_group_refusal, pause_group, is_resumed_with_group, resume_group, is_in_job_group, is_row_of_job_group, pause_job_group_refusal, pause_job_group, is_resumed_with_job_group, resume_job_group}
use Rattle.qz_model.specs.Tests.{refuse_if, is_row_of_trigger}
use Rattle.qz_model.specs.Triggers.{unknown_trigger}
use Rattle.qz_model.proofs.Changes.{passes, HasNumber, HasNumber-kept, valid-moment}
use Rattle.qz_model.proofs.LookUps.{IsAscending-filter}
use Rattle.qz_model.proofs.References.{references-groups, references-job_groups}
use Rattle.qz_model.proofs.Replaced.{ordered-replaced, length-replaced}
use Rattle.qz_model.proofs.Refusals.{not_refused}
use Rattle.qz_model.proofs.RowPoints.{All-weaker, All-left, All-put, length-filter_le}
use Rattle.qz_model.proofs.StateChanges.{KeepsAcquired, StatesFit, has_key, valid-with_states, valid-same_rows, valid-with_state, valid-same_row}

-- Pausing keeps what is blocked blocked, blocks nothing else, and makes nothing live.
paused-stays : (s : TriggerState) → is_blocked_or_done s ≡ true → is_blocked_or_done (paused s) ≡ true
paused-stays state.Waiting is = absurd (cc)
paused-stays state.Acquired is = absurd (cc)
paused-stays state.Complete is = refl
paused-stays state.Blocked is = refl
paused-stays state.Paused is = absurd (cc)
paused-stays state.PausedBlocked is = refl
paused-stays state.Error is = refl

paused-blocked : (s : TriggerState) → is_blocked (paused s) ≡ is_blocked s
paused-blocked state.Waiting = refl
paused-blocked state.Acquired = refl
paused-blocked state.Complete = refl
paused-blocked state.Blocked = refl
paused-blocked state.Paused = refl
paused-blocked state.PausedBlocked = refl
paused-blocked state.Error = refl

paused-lives : (s : TriggerState) → is_live_state (paused s) ≡ is_live_state s
paused-lives state.Waiting = refl
paused-lives state.Acquired = refl
paused-lives state.Complete = refl
paused-lives state.Blocked = refl
paused-lives state.Paused = refl
paused-lives state.PausedBlocked = refl
paused-lives state.Error = refl

paused-leaves : (s : TriggerState) → paused s ≡ state.Acquired → ⊥
paused-leaves state.Waiting is = cc
paused-leaves state.Acquired is = cc
paused-leaves state.Complete is = cc
paused-leaves state.Blocked is = cc
paused-leaves state.Paused is = cc
paused-leaves state.PausedBlocked is = cc
paused-leaves state.Error is = cc

pub paused-fits : (p : TriggerData → Bool) (fired : List FiredData) → StatesFit paused p fired
paused-fits p fired = record {
  stays = λ t passes was busy. paused-stays t.state (was busy);
  busy = λ t passes was is. was (sym (paused-blocked t.state) ∙ is);
  lives = λ t passes is. sym (paused-lives t.state) ∙ is;
}

-- So does resuming.
resumed-stays : (s : TriggerState) → is_blocked_or_done s ≡ true → is_blocked_or_done (resumed s) ≡ true
resumed-stays state.Waiting is = absurd (cc)
resumed-stays state.Acquired is = absurd (cc)
resumed-stays state.Complete is = refl
resumed-stays state.Blocked is = refl
resumed-stays state.Paused is = absurd (cc)
resumed-stays state.PausedBlocked is = refl
resumed-stays state.Error is = refl

resumed-blocked : (s : TriggerState) → is_blocked (resumed s) ≡ is_blocked s
resumed-blocked state.Waiting = refl
resumed-blocked state.Acquired = refl
resumed-blocked state.Complete = refl
resumed-blocked state.Blocked = refl
resumed-blocked state.Paused = refl
resumed-blocked state.PausedBlocked = refl
resumed-blocked state.Error = refl

resumed-lives : (s : TriggerState) → is_live_state (resumed s) ≡ is_live_state s
resumed-lives state.Waiting = refl
resumed-lives state.Acquired = refl
resumed-lives state.Complete = refl
resumed-lives state.Blocked = refl
resumed-lives state.Paused = refl
resumed-lives state.PausedBlocked = refl
resumed-lives state.Error = refl

resumed-was : (s : TriggerState) → resumed s ≡ state.Acquired → s ≡ state.Acquired
resumed-was state.Waiting is = is
resumed-was state.Acquired is = is
resumed-was state.Complete is = is
resumed-was state.Blocked is = is
resumed-was state.Paused is = absurd (cc)
resumed-was state.PausedBlocked is = absurd (cc)
resumed-was state.Error is = is

pub resumed-fits : (p : TriggerData → Bool) (fired : List FiredData) → StatesFit resumed p fired
resumed-fits p fired = record {
  stays = λ t passes was busy. resumed-stays t.state (was busy);
  busy = λ t passes was is. was (sym (resumed-blocked t.state) ∙ is);
  lives = λ t passes is. sym (resumed-lives t.state) ∙ is;
}

pub resumed-keeps : KeepsAcquired resumed
resumed-keeps = record { kept = λ s taken. ap resumed taken; was = resumed-was }

-- One trigger.

pub kept-pause_trigger : (T T' : SchedulerTables) (m : ℤ) (key : Key) (r : Reply) → TablesValid T → IsMoment T.horizon m → pause_trigger T m key ≡ accepted T' r → TablesValid T'
kept-pause_trigger T T' m key r valid is e =
    let way = passes (unknown_trigger (trigger_of key T.triggers)) _ T' r e in
    let same : accepted (record T { triggers = with_trigger key (with_state paused) T.triggers; fired = without_acquired (is_row_of_trigger key) T.fired; last_moment = m }) _ ≡ accepted T' r = way.outcome in
    subst TablesValid (cc) (valid-with_state (record T { last_moment = m }) key paused (valid-moment T m valid is) (paused-fits (has_key key) T.fired) (λ t passes. paused-leaves t.state))

pub kept-resume_trigger : (T T' : SchedulerTables) (m : ℤ) (key : Key) (r : Reply) → TablesValid T → IsMoment T.horizon m → resume_trigger T m key ≡ accepted T' r → TablesValid T'
kept-resume_trigger T T' m key r valid is e =
    let way = passes (unknown_trigger (trigger_of key T.triggers)) _ T' r e in
    let same : accepted (record T { triggers = with_trigger key (with_state resumed) T.triggers; last_moment = m }) _ ≡ accepted T' r = way.outcome in
    subst TablesValid (cc) (valid-same_row (record T { last_moment = m }) key resumed (valid-moment T m valid is) (resumed-fits (has_key key) T.fired) resumed-keeps)

-- Groups.

pub valid-groups : (T : SchedulerTables) (groups : List (List ℕ)) → TablesValid T → IsAscending text_cmp (λ r. r) groups → length groups ≤ GROUP_LIMIT → AreNames groups → TablesValid (record T { paused_groups = groups })
valid-groups T groups valid ordered short named = record {
  references_and_limits = references-groups T valid.references_and_limits groups ordered short named;
  acquired_match = valid.acquired_match;
  concurrency_agrees = valid.concurrency_agrees;
  one_exclusive = valid.one_exclusive;
  blocked_are_busy = valid.blocked_are_busy;
  rows_of_members = valid.rows_of_members;
  next_times = valid.next_times;
  fresh = record {
    fired = valid.fresh.fired;
    added = All-weaker (HasNumber T) (HasNumber (record T { paused_groups = groups })) T.triggers
        (λ t has. HasNumber-kept T (record T { paused_groups = groups }) t (omega arith) (λ n below none. none) (λ n all. all) has) valid.fresh.added;
  };
  row_times = valid.row_times;
}

ordered-with_group : (group : List ℕ) (groups : List (List ℕ)) → IsAscending text_cmp (λ r. r) groups → IsAscending text_cmp (λ r. r) (put_group group (without_group group groups))
unfolding put_group without_group same_text
ordered-with_group group groups ordered = ordered-replaced text_cmp (λ r. r) nat_list_cmp_total group groups ordered

pub length-with_group : (group : List ℕ) (groups : List (List ℕ)) → length (put_group group (without_group group groups)) ≤ length groups + cond (is_paused group groups) 0 1
unfolding group_of put_group without_group same_text
length-with_group group groups = length-replaced text_cmp (λ r. r) group groups

ordered-without_group : (group : List ℕ) (groups : List (List ℕ)) → IsAscending text_cmp (λ r. r) groups → IsAscending text_cmp (λ r. r) (without_group group groups)
unfolding without_group
ordered-without_group group groups ordered = IsAscending-filter text_cmp (λ r. r) nat_list_cmp_total _ groups ordered

pub length-without_group : (group : List ℕ) (groups : List (List ℕ)) → length (without_group group groups) ≤ length groups
unfolding without_group
length-without_group group groups = length-filter_le _ groups

-- a name more, and one less
named-without_group : (group : List ℕ) (groups : List (List ℕ)) → AreNames groups → AreNames (without_group group groups)
unfolding without_group
named-without_group group groups named = All-left (λ g. IsTrue (is_name g)) (λ g. IsTrue (is_name g)) (same_text group) groups named (λ g other is. is)

named-with_group : (group : List ℕ) (groups : List (List ℕ)) → IsTrue (is_name group) → AreNames groups → AreNames (put_group group (without_group group groups))
unfolding put_group
named-with_group group groups good named = All-put text_cmp (λ r. r) (λ g. IsTrue (is_name g)) group (without_group group groups) good (named-without_group group groups named)

room_for_group : (limit : ℕ) (group : List ℕ) (groups : List (List ℕ)) → refuse_if (not (is_paused group groups) && nat_le limit (length groups)) (TooMany limit) None ≡ None → length groups ≤ limit
    → length (put_group group (without_group group groups)) ≤ limit
room_for_group limit group groups clear within = elim (is_paused group groups) as (λ b. refuse_if (not b && nat_le limit (length groups)) (TooMany limit) None ≡ None
    → length (put_group group (without_group group groups)) ≤ length groups + cond b 0 1 → length (put_group group (without_group group groups)) ≤ limit) [
      | true ↦ λ e grows. omega arith
      | false ↦ λ e grows. let below = leb-false limit (length groups) (not_refused _ _ None e).0 in omega arith
    ] clear (length-with_group group groups)

room_for_paused : (T : SchedulerTables) (group : List ℕ) → pause_group_refusal T group ≡ None → length T.paused_groups ≤ GROUP_LIMIT → length (put_group group (without_group group T.paused_groups)) ≤ GROUP_LIMIT
unfolding pause_group_refusal
room_for_paused T group clear within = room_for_group GROUP_LIMIT group T.paused_groups clear within

pub kept-pause_group : (T T' : SchedulerTables) (m : ℤ) (group : List ℕ) (r : Reply) → IsTrue (is_name group) → TablesValid T → IsMoment T.horizon m → pause_group T m group ≡ accepted T' r → TablesValid T'
kept-pause_group T T' m group r good valid is e =
    let way = passes (pause_group_refusal T group) _ T' r e in
    let same : accepted (record T { paused_groups = put_group group (without_group group T.paused_groups); triggers = with_states paused (is_in_group group) T.triggers; fired = without_acquired (is_row_of_group group) T.fired; last_moment = m }) _ ≡ accepted T' r = way.outcome in
    let was = valid.references_and_limits in
    let first : TablesValid (record T { last_moment = m; paused_groups = put_group group (without_group group T.paused_groups) }) =
    valid-groups (record T { last_moment = m }) (put_group group (without_group group T.paused_groups)) (valid-moment T m valid is) (ordered-with_group group T.paused_groups was.ordered.paused_groups) (room_for_paused T group way.clear was.limits.paused_groups)
    (named-with_group group T.paused_groups good was.limits.group_names) in
    subst TablesValid (cc)
    (valid-with_states (record T { last_moment = m; paused_groups = put_group group (without_group group T.paused_groups) }) paused (is_in_group group) (is_row_of_group group) first (paused-fits (is_in_group group) T.fired)
    (λ t f own job. ap (λ k. same_text group k.group) own) (λ t passes. paused-leaves t.state))

pub kept-resume_group : (T T' : SchedulerTables) (m : ℤ) (group : List ℕ) (r : Reply) → TablesValid T → IsMoment T.horizon m → resume_group T m group ≡ accepted T' r → TablesValid T'
kept-resume_group T T' m group r valid is e =
    let was = valid.references_and_limits in
    let first : TablesValid (record T { last_moment = m; paused_groups = without_group group T.paused_groups }) =
    valid-groups (record T { last_moment = m }) (without_group group T.paused_groups) (valid-moment T m valid is) (ordered-without_group group T.paused_groups was.ordered.paused_groups)
    (omega (arith, length-without_group group T.paused_groups, was.limits.paused_groups)) (named-without_group group T.paused_groups was.limits.group_names) in
    subst TablesValid (cc)
    (valid-same_rows (record T { last_moment = m; paused_groups = without_group group T.paused_groups }) resumed (is_resumed_with_group T group) first (resumed-fits (is_resumed_with_group T group) T.fired) resumed-keeps)

-- Groups of jobs.

pub valid-job_groups : (T : SchedulerTables) (groups : List (List ℕ)) → TablesValid T → IsAscending text_cmp (λ r. r) groups → length groups ≤ JOB_GROUP_LIMIT → AreNames groups → TablesValid (record T { paused_job_groups = groups })
valid-job_groups T groups valid ordered short named = record {
  references_and_limits = references-job_groups T valid.references_and_limits groups ordered short named;
  acquired_match = valid.acquired_match;
  concurrency_agrees = valid.concurrency_agrees;
  one_exclusive = valid.one_exclusive;
  blocked_are_busy = valid.blocked_are_busy;
  rows_of_members = valid.rows_of_members;
  next_times = valid.next_times;
  fresh = record {
    fired = valid.fresh.fired;
    added = All-weaker (HasNumber T) (HasNumber (record T { paused_job_groups = groups })) T.triggers
        (λ t has. HasNumber-kept T (record T { paused_job_groups = groups }) t (omega arith) (λ n below none. none) (λ n all. all) has) valid.fresh.added;
  };
  row_times = valid.row_times;
}

room_for_paused_jobs : (T : SchedulerTables) (group : List ℕ) → pause_job_group_refusal T group ≡ None → length T.paused_job_groups ≤ JOB_GROUP_LIMIT
    → length (put_group group (without_group group T.paused_job_groups)) ≤ JOB_GROUP_LIMIT
unfolding pause_job_group_refusal
room_for_paused_jobs T group clear within = room_for_group JOB_GROUP_LIMIT group T.paused_job_groups clear within

pub kept-pause_job_group : (T T' : SchedulerTables) (m : ℤ) (group : List ℕ) (r : Reply) → IsTrue (is_name group) → TablesValid T → IsMoment T.horizon m → pause_job_group T m group ≡ accepted T' r → TablesValid T'
kept-pause_job_group T T' m group r good valid is e =
    let way = passes (pause_job_group_refusal T group) _ T' r e in
    let same : accepted (record T { paused_job_groups = put_group group (without_group group T.paused_job_groups); triggers = with_states paused (is_in_job_group group) T.triggers; fired = without_acquired (is_row_of_job_group group) T.fired; last_moment = m }) _ ≡ accepted T' r = way.outcome in
    let was = valid.references_and_limits in
    let first : TablesValid (record T { last_moment = m; paused_job_groups = put_group group (without_group group T.paused_job_groups) }) =
    valid-job_groups (record T { last_moment = m }) (put_group group (without_group group T.paused_job_groups)) (valid-moment T m valid is) (ordered-with_group group T.paused_job_groups was.ordered.paused_job_groups)
    (room_for_paused_jobs T group way.clear was.limits.paused_job_groups)
    (named-with_group group T.paused_job_groups good was.limits.job_group_names) in
    subst TablesValid (cc)
    (valid-with_states (record T { last_moment = m; paused_job_groups = put_group group (without_group group T.paused_job_groups) }) paused (is_in_job_group group) (is_row_of_job_group group) first (paused-fits (is_in_job_group group) T.fired)
    (λ t f own job. ap (λ k. same_text group k.group) job) (λ t passes. paused-leaves t.state))

pub kept-resume_job_group : (T T' : SchedulerTables) (m : ℤ) (group : List ℕ) (r : Reply) → TablesValid T → IsMoment T.horizon m → resume_job_group T m group ≡ accepted T' r → TablesValid T'
kept-resume_job_group T T' m group r valid is e =
    let was = valid.references_and_limits in
    let first : TablesValid (record T { last_moment = m; paused_job_groups = without_group group T.paused_job_groups }) =
    valid-job_groups (record T { last_moment = m }) (without_group group T.paused_job_groups) (valid-moment T m valid is) (ordered-without_group group T.paused_job_groups was.ordered.paused_job_groups)
    (omega (arith, length-without_group group T.paused_job_groups, was.limits.paused_job_groups)) (named-without_group group T.paused_job_groups was.limits.job_group_names) in
    subst TablesValid (cc)
    (valid-same_rows (record T { last_moment = m; paused_job_groups = without_group group T.paused_job_groups }) resumed (is_resumed_with_job_group T group) first (resumed-fits (is_resumed_with_job_group T group) T.fired) resumed-keeps)
