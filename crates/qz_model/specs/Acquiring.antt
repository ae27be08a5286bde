-- The transactions of a node that takes triggers and gives them back, as Quartz's JobStoreTX does it in a cluster.
use Rattle.std.specs.Prelude.{ℕ, ◌+◌, ℤ, pos, ◌+ℤ◌, List, [], ◌∷◌, Bool, not, ◌&&◌, fold, filter, take, length, nat_lt, Option, Some, None, unwrap_or}
use Rattle.qz_types.specs.Rows.{JobData, TriggerData, MemberData, FiredData}
use Rattle.qz_types.specs.declared.limits.TheConstants.{FIRED_LIMIT, NUMBER_LIMIT}
use Rattle.qz_types.specs.declared.triggers.TriggerState.TheVariants as state
use Rattle.qz_types.specs.declared.fired.FiredState.TheVariants as row
use Rattle.qz_types.specs.declared.replies.Taken.{Taken}
use Rattle.qz_types.specs.declared.replies.Reply.TheVariants as reply
use Rattle.qz_types.specs.declared.replies.Refusal.{Refusal}
use Rattle.qz_types.specs.declared.replies.Refusal.TheVariants.{TooMany, UnknownEntry, NotYours, NotAcquired}
use Rattle.qz_types.specs.Changes.{in_state}
use Rattle.qz_types.specs.States.{is_acquired}
use Rattle.qz_types.specs.Tables.{SchedulerTables}
use Rattle.qz_types.specs.Outcomes.{Outcome, accepted, refused, unless}
use Rattle.qz_types.specs.Words.{same_key, with_trigger, fired_of, put_fired, without_fired}
use Rattle.qz_model.specs.Due.{due_triggers}
use Rattle.qz_model.specs.Membership.{node_refusal}
use Rattle.qz_model.specs.Tests.{refuse_if, or_refusal, is_of, stored_job}

-- Acquire.

unfoldable pub acquire_refusal : SchedulerTables → ℕ → Option Refusal
acquire_refusal T max =
    refuse_if (nat_lt FIRED_LIMIT (length T.fired + max)) (TooMany FIRED_LIMIT)
    (refuse_if (nat_lt NUMBER_LIMIT (T.next_entry + max)) (TooMany NUMBER_LIMIT) None)

-- u is a trigger of the same job as t, and executions of that job exclude each other
unfoldable pub is_sibling : List JobData → TriggerData → TriggerData → Bool
is_sibling jobs t u = (stored_job t.spec.job jobs).no_concurrent && same_key t.spec.job u.spec.job

-- the triggers, of each job whose executions exclude each other the first alone
abbrev pub first_of_each : List JobData → List TriggerData → List TriggerData
first_of_each jobs [] = []
first_of_each jobs (t ∷ ts) = t ∷ filter (λ u. not (is_sibling jobs t u)) (first_of_each jobs ts)

-- the triggers that an Acquire takes: the first ones in due order, up to the limit and to so many
unfoldable pub chosen : SchedulerTables → ℤ → ℤ → ℕ → List TriggerData
chosen T m limit max = take max (first_of_each T.jobs (due_triggers T m limit))

-- its next time, which valid tables have for each trigger that may fire
unfoldable pub next_time : TriggerData → ℤ
next_time t = unwrap_or t.next (pos 0)

-- the row of a trigger that is acquired by a member for its next time
unfoldable pub acquired_row : ℕ → MemberData → TriggerData → JobData → FiredData
acquired_row entry me t job = record {
  entry = entry;
  node = me.node;
  epoch = me.epoch;
  trigger = t.spec.key;
  job = t.spec.job;
  priority = t.spec.priority;
  state = row.Acquired;
  scheduled = next_time t;
  fired = None;
  no_concurrent = job.no_concurrent;
  requests_recovery = job.requests_recovery;
}

-- the tables with the trigger acquired, under the next entry number
unfoldable pub with_acquired : MemberData → SchedulerTables → TriggerData → SchedulerTables
with_acquired me T t = record T {
  triggers = with_trigger t.spec.key (in_state state.Acquired) T.triggers;
  fired = put_fired (acquired_row T.next_entry me t (stored_job t.spec.job T.jobs)) T.fired;
  next_entry = T.next_entry + 1;
}

-- what the reply lists, with the entry numbers from this one on
abbrev pub taken_from : ℕ → List TriggerData → List Taken
taken_from entry [] = []
taken_from entry (t ∷ ts) = record { entry = entry; trigger = t.spec.key; next = next_time t } ∷ taken_from (entry + 1) ts

-- each of these is acquired, one after the other
abbrev pub acquire_each : SchedulerTables → ℤ → MemberData → List TriggerData → Outcome
acquire_each T m me ts = accepted (record (fold (with_acquired me) T ts) { last_moment = m }) (reply.Acquired (taken_from T.next_entry ts))

-- a member acquires what is due up to `no_later + window`; where nothing is, the moment alone is recorded
abbrev pub acquire : SchedulerTables → ℤ → MemberData → ℤ → ℤ → ℕ → Outcome
acquire T m me no_later window max =
    unless (or_refusal (node_refusal T me) (acquire_refusal T max)) (acquire_each T m me (chosen T m (no_later +ℤ window) max))

-- Release.

-- the row has to be the member's own
unfoldable pub owner_refusal : MemberData → FiredData → Option Refusal
owner_refusal me f = refuse_if (not (is_of me f)) (NotYours (record { node = f.node; epoch = f.epoch })) None

-- and its execution mustn't have begun
unfoldable pub acquired_refusal : MemberData → FiredData → Option Refusal
acquired_refusal me f = or_refusal (owner_refusal me f) (refuse_if (not (is_acquired f.state)) NotAcquired None)

abbrev pub release_row : SchedulerTables → ℤ → MemberData → Option FiredData → Outcome
release_row T m me None = refused UnknownEntry
release_row T m me (Some f) = unless (acquired_refusal me f)
    (accepted (record T {
      triggers = with_trigger f.trigger (in_state state.Waiting) T.triggers;
      fired = without_fired f.entry T.fired;
      last_moment = m;
    }) reply.Done)

-- a member gives back what it acquired under this entry number
abbrev pub release : SchedulerTables → ℤ → MemberData → ℕ → Outcome
release T m me entry = unless (node_refusal T me) (release_row T m me (fired_of entry T.fired))
