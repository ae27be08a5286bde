-- Changes of tables that lose no execution and add no recovery.
use Rattle.std.proofs.Common.{◌≡◌, ℕ, ℤ, Bool, true, false, List, codes, Option, Some, None, is_some, sym, subst}
use Rattle.std.specs.List.{AllByRecursion}
use Rattle.qz_types.specs.Rows.{TriggerData, MemberData, FiredData}
use Rattle.qz_types.specs.declared.keys.Key.{Key}
use Rattle.qz_types.specs.declared.triggers.TriggerState.{TriggerState}
use Rattle.qz_types.specs.declared.triggers.TriggerState.TheVariants as state
use Rattle.qz_types.specs.declared.replies.Reply.{Reply}
use Rattle.qz_types.specs.Changes.{in_state, with_states, without_acquired}
use Rattle.qz_types.specs.States.{blocked, unblocked}
use Rattle.qz_types.specs.Tables.{SchedulerTables}
use Rattle.qz_types.specs.Words.{same_text, trigger_of, with_trigger, without_fired}
use Rattle.qz_model.specs.Completing.{with_unblocked}
use Rattle.qz_model.specs.Firing.{with_blocked, without_siblings}
use Rattle.qz_model.specs.Recovery.{has_acquired, rows_of_others, freed_by}
use Rattle.qz_model.specs.Tests.{is_of, is_trigger_of, is_row_of_job, is_row_of_trigger}
use Rattle.qz_model.specs.Triggers.{without_trigger_and_orphan}
use Rattle.qz_model.proofs.RowLaws.{All-with_trigger, All-without_trigger, All-without_fired}
use Rattle.qz_model.proofs.RowPoints.{All-changed, All-left}
use Rattle.qz_model.proofs.StateLaws.{All-with_states, All-without_acquired}
use Rattle.qz_laws.proofs.Facts.{Origin}
use Rattle.qz_laws.proofs.Quiet.{WasStored, Quiet}

-- Changes of triggers that keep their keys.

pub stored-with_trigger : (T : SchedulerTables) (key : Key) (change : TriggerData → TriggerData) (rows : List TriggerData) → ((t : TriggerData) → (change t).spec.key ≡ t.spec.key)
    → AllByRecursion (WasStored T) rows → AllByRecursion (WasStored T) (with_trigger key change rows)
stored-with_trigger T key change rows keeps all =
    All-with_trigger (WasStored T) (WasStored T) key change rows all
    (λ t at was. subst (λ (k : Key). same_text k.group (codes "RECOVERING_JOBS") ≡ true → is_some (trigger_of k T.triggers) ≡ true) (sym (keeps t)) was) (λ t differ was. was)

pub stored-with_states : (T : SchedulerTables) (change : TriggerState → TriggerState) (p : TriggerData → Bool) (rows : List TriggerData)
    → AllByRecursion (WasStored T) rows → AllByRecursion (WasStored T) (with_states change p rows)
stored-with_states T change p rows all = All-with_states change p (WasStored T) (WasStored T) rows all (λ t changed was. was) (λ t left was. was)

pub stored-with_blocked : (T : SchedulerTables) (b : Bool) (job : Key) (rows : List TriggerData) → AllByRecursion (WasStored T) rows → AllByRecursion (WasStored T) (with_blocked b job rows)
stored-with_blocked T true job rows all = stored-with_states T blocked (is_trigger_of job) rows all
stored-with_blocked T false job rows all = all

pub stored-with_unblocked : (T : SchedulerTables) (b : Bool) (job : Key) (rows : List TriggerData) → AllByRecursion (WasStored T) rows → AllByRecursion (WasStored T) (with_unblocked b job rows)
stored-with_unblocked T true job rows all = stored-with_states T unblocked (is_trigger_of job) rows all
stored-with_unblocked T false job rows all = all

pub stored-freed_by : (T : SchedulerTables) (member : MemberData) (fired : List FiredData) (rows : List TriggerData) → AllByRecursion (WasStored T) rows → AllByRecursion (WasStored T) (freed_by member fired rows)
unfolding freed_by
stored-freed_by T member fired rows all =
    All-changed (WasStored T) (WasStored T) (λ t. has_acquired member fired t.spec.key) (in_state state.Waiting) rows all (λ t waits was. was) (λ t left was. was)

-- Rows that are left out.

pub stood-without_acquired : (T : SchedulerTables) (r : Reply) (q : FiredData → Bool) (rows : List FiredData) → AllByRecursion (Origin T r) rows → AllByRecursion (Origin T r) (without_acquired q rows)
stood-without_acquired T r q rows all = All-without_acquired q (Origin T r) (Origin T r) rows all (λ f left is. is)

pub stood-without_fired : (T : SchedulerTables) (r : Reply) (entry : ℕ) (rows : List FiredData) → AllByRecursion (Origin T r) rows → AllByRecursion (Origin T r) (without_fired entry rows)
stood-without_fired T r entry rows all = All-without_fired (Origin T r) (Origin T r) entry rows all (λ f differ is. is)

pub stood-without_siblings : (T : SchedulerTables) (r : Reply) (b : Bool) (job : Key) (rows : List FiredData) → AllByRecursion (Origin T r) rows → AllByRecursion (Origin T r) (without_siblings b job rows)
stood-without_siblings T r true job rows all = stood-without_acquired T r (is_row_of_job job) rows all
stood-without_siblings T r false job rows all = all

pub stood-others : (T : SchedulerTables) (r : Reply) (member : MemberData) (rows : List FiredData) → AllByRecursion (Origin T r) rows → AllByRecursion (Origin T r) (rows_of_others member rows)
unfolding rows_of_others
stood-others T r member rows all = All-left (Origin T r) (Origin T r) (is_of member) rows all (λ f other is. is)

-- Both.

pub quiet-without_trigger : (T : SchedulerTables) (r : Reply) (U : SchedulerTables) (o : Option TriggerData) → Quiet T r U → Quiet T r (without_trigger_and_orphan U o)
unfolding without_trigger_and_orphan
quiet-without_trigger T r U None was = was
quiet-without_trigger T r U (Some t) was = record {
  next_entry = was.next_entry;
  origins = stood-without_acquired T r (is_row_of_trigger t.spec.key) U.fired was.origins;
  triggers = All-without_trigger (WasStored T) (WasStored T) t.spec.key U.triggers was.triggers (λ u differ stored. stored);
  next_epoch = was.next_epoch;
  members = was.members;
}

-- the moment is none of its points
pub at_moment : (T : SchedulerTables) (r : Reply) (U : SchedulerTables) (m : ℤ) → Quiet T r U → Quiet T r (record U { last_moment = m })
at_moment T r U m was = record { next_entry = was.next_entry; origins = was.origins; triggers = was.triggers; next_epoch = was.next_epoch; members = was.members }
