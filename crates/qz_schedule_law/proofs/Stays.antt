-- Transactions that keep the next time of a trigger, and the calendars and zones.
use Rattle.std.proofs.Common.{◌≡◌, ℤ, Bool, true, false, List, [], Option, Some, None, IsTrue, refl, sym, ap, ◌∙◌, subst}
use Rattle.std.specs.List.{AllByRecursion}
use Rattle.qz_civil.specs.Timings.{is_timing}
use Rattle.qz_types.specs.Rows.{TriggerData, MemberData, FiredData}
use Rattle.qz_types.specs.declared.keys.Key.{Key}
use Rattle.qz_types.specs.declared.triggers.TriggerSpec.{TriggerSpec}
use Rattle.qz_types.specs.declared.triggers.TriggerState.{TriggerState}
use Rattle.qz_types.specs.declared.triggers.TriggerState.TheVariants as state
use Rattle.qz_types.specs.declared.commands.Command.{Command}
use Rattle.qz_types.specs.declared.replies.Reply.{Reply}
use Rattle.qz_types.specs.Changes.{in_state, with_state, with_states}
use Rattle.qz_types.specs.States.{blocked, unblocked}
use Rattle.qz_types.specs.Tables.{SchedulerTables}
use Rattle.qz_types.specs.Outcomes.{accepted}
use Rattle.qz_types.specs.Words.{same_key, trigger_of, with_trigger}
use Rattle.qz_model.specs.Completing.{with_unblocked}
use Rattle.qz_model.specs.Firing.{with_blocked}
use Rattle.qz_model.specs.Invariant.{TablesValid}
use Rattle.qz_model.specs.Plan.{zoned_chain, next_after, first_time}
use Rattle.qz_model.specs.Recovery.{has_acquired, freed_by}
use Rattle.qz_model.specs.Tests.{is_trigger_of}
use Rattle.qz_model.specs.Triggers.{without_trigger_and_orphan}
use Rattle.qz_model.proofs.RowLaws.{trigger_of-alike, trigger_of-key, All-trigger_of, each_trigger, All-with_trigger, All-without_trigger}
use Rattle.qz_model.proofs.RowPoints.{All-weaker, All-changed}
use Rattle.qz_model.proofs.StateLaws.{All-with_states}
use Rattle.qz_schedule_law.specs.Turns.{onto_times, AreInTurn}
use Rattle.qz_schedule_law.specs.Undisturbed.{is_chain_changed}

-- A trigger that was stored before has what it had: what it was stored with, and its next time. One that wasn't begins with its
-- first time, and its timing is valid.
abbrev pub IsFrom : SchedulerTables → Option TriggerData → TriggerData → Type 0
IsFrom T None u = (u.next ≡ first_time T u.spec) × IsTrue (is_timing u.spec.timing)
IsFrom T (Some t) u = (u.spec ≡ t.spec) × (t.next ≡ u.next)

-- the trigger comes so from that of the key, if it has this key
abbrev pub IsAsBefore : SchedulerTables → Key → TriggerData → Type 0
IsAsBefore T key u = same_key key u.spec.key ≡ true → IsFrom T (trigger_of key T.triggers) u

-- Or one that was stored has gone on by the times of the reply.
abbrev pub HasTurned : SchedulerTables → Key → Reply → TriggerData → Type 0
HasTurned T key r u = same_key key u.spec.key ≡ true → (t : TriggerData) → trigger_of key T.triggers ≡ Some t → (u.spec ≡ t.spec) × AreInTurn (next_after T t.spec) t.next (onto_times key r []) u.next

-- the trigger of the key, and the plans of all triggers, are as before
pub record Stays (T : SchedulerTables) (key : Key) (U : SchedulerTables) : Type 0 where
  pub triggers : AllByRecursion (IsAsBefore T key) U.triggers
  pub calendars : U.calendars ≡ T.calendars
  pub zones : U.zones ≡ T.zones
  pub horizon : U.horizon ≡ T.horizon

-- where a trigger is stored that the command leaves alone, its plan is as before
abbrev pub KeepsPlan : SchedulerTables → Key → Command → SchedulerTables → Type 0
KeepsPlan T key c U = (t : TriggerData) → trigger_of key T.triggers ≡ Some t → is_chain_changed T t.spec c ≡ false → (a : ℤ) → next_after U t.spec a ≡ next_after T t.spec a

-- A trigger that was stored by the transaction with this reply begins with its first time, in tables that have the same plan for it.
pub record Begins (T : SchedulerTables) (key : Key) (r : Reply) (U : SchedulerTables) (u : TriggerData) : Type 0 where
  pub first : u.next ≡ first_time T u.spec
  pub timing : IsTrue (is_timing u.spec.timing)
  pub plan : (a : ℤ) → next_after U u.spec a ≡ next_after T u.spec a
  pub silent : onto_times key r [] ≡ []

-- what one accepted transaction does to the trigger of the key
pub record TurnFacts (T : SchedulerTables) (key : Key) (c : Command) (r : Reply) (U : SchedulerTables) : Type 0 where
  pub triggers : AllByRecursion (HasTurned T key r) U.triggers
  pub plan : KeepsPlan T key c U
  pub new : trigger_of key T.triggers ≡ None → (u : TriggerData) → trigger_of key U.triggers ≡ Some u → Begins T key r U u

-- plans read the calendars, the zones and the horizon alone
pub same_plan : (T U : SchedulerTables) (s : TriggerSpec) (a : ℤ) → U.calendars ≡ T.calendars → U.zones ≡ T.zones → U.horizon ≡ T.horizon → next_after U s a ≡ next_after T s a
unfolding next_after zoned_chain
same_plan T U s a calendars zones horizon = rw (calendars, zones, horizon) refl

-- a reply that is no firing of the trigger has none of its times
pub stays_turned : (T : SchedulerTables) (key : Key) (r : Reply) (u : TriggerData) → onto_times key r [] ≡ [] → IsAsBefore T key u → HasTurned T key r u
stays_turned T key r u none was same t found =
    let old : IsFrom T (Some t) u = subst (λ (o : Option TriggerData). IsFrom T o u) found (was same) in
    (old.0, subst (λ (ts : List ℤ). AreInTurn (next_after T t.spec) t.next ts u.next) (sym none) old.1)

stays_new : (T : SchedulerTables) (key : Key) (r : Reply) (U : SchedulerTables) → onto_times key r [] ≡ [] → Stays T key U → trigger_of key T.triggers ≡ None → (u : TriggerData) → trigger_of key U.triggers ≡ Some u → Begins T key r U u
stays_new T key r U none stays absent u found =
    let was = All-trigger_of (IsAsBefore T key) key u U.triggers stays.triggers found (trigger_of-key key u U.triggers found) in
    let new : IsFrom T None u = subst (λ (o : Option TriggerData). IsFrom T o u) absent was in
    record { first = new.0; timing = new.1; plan = λ a. same_plan T U u.spec a stays.calendars stays.zones stays.horizon; silent = none }

stays_facts : (T : SchedulerTables) (key : Key) (c : Command) (r : Reply) (U : SchedulerTables) → onto_times key r [] ≡ [] → Stays T key U → TurnFacts T key c r U
stays_facts T key c r U none stays = record {
  triggers = All-weaker (IsAsBefore T key) (HasTurned T key r) U.triggers (λ u was. stays_turned T key r u none was) stays.triggers;
  plan = λ t found alone a. same_plan T U t.spec a stays.calendars stays.zones stays.horizon;
  new = λ absent u found. stays_new T key r U none stays absent u found;
}

-- the tables of an accepted outcome
pub accepted_facts : (T U T' : SchedulerTables) (key : Key) (c : Command) (s r : Reply) → accepted U s ≡ accepted T' r → TurnFacts T key c s U → TurnFacts T key c r T'
accepted_facts T U T' key c s r is facts =
    let tables : U ≡ T' = cc in
    let reply : s ≡ r = cc in
    subst (λ (q : Reply). TurnFacts T key c q T') reply (subst (λ (V : SchedulerTables). TurnFacts T key c s V) tables facts)

pub accepted_stays : (T U T' : SchedulerTables) (key : Key) (c : Command) (s r : Reply) → accepted U s ≡ accepted T' r → onto_times key s [] ≡ [] → Stays T key U → TurnFacts T key c r T'
accepted_stays T U T' key c s r is none stays = accepted_facts T U T' key c s r is (stays_facts T key c s U none stays)

-- at first each is as it is
pub as_before : (T : SchedulerTables) (key : Key) → TablesValid T → AllByRecursion (IsAsBefore T key) T.triggers
as_before T key valid =
    All-weaker (λ u. trigger_of u.spec.key T.triggers ≡ Some u) (IsAsBefore T key) T.triggers
    (λ u found same. subst (λ (o : Option TriggerData). IsFrom T o u) (sym (trigger_of-alike key u.spec.key T.triggers same ∙ found)) (refl, refl))
    (each_trigger T.triggers valid.references_and_limits.ordered.triggers)

pub same_triggers : (T : SchedulerTables) (key : Key) (U : SchedulerTables) → TablesValid T → U.triggers ≡ T.triggers → U.calendars ≡ T.calendars → U.zones ≡ T.zones → U.horizon ≡ T.horizon → Stays T key U
same_triggers T key U valid triggers calendars zones horizon = record {
  triggers = subst (AllByRecursion (IsAsBefore T key)) (sym triggers) (as_before T key valid);
  calendars = calendars;
  zones = zones;
  horizon = horizon;
}

-- Changes of triggers that keep what they were stored with and their next times.

from_alike : (T : SchedulerTables) (o : Option TriggerData) (u v : TriggerData) → v.spec ≡ u.spec → v.next ≡ u.next → IsFrom T o u → IsFrom T o v
from_alike T None u v spec next is = (next ∙ is.0 ∙ ap (first_time T) (sym spec), subst (λ (s : TriggerSpec). IsTrue (is_timing s.timing)) (sym spec) is.1)
from_alike T (Some t) u v spec next is = (spec ∙ is.0, is.1 ∙ sym next)

pub alike : (T : SchedulerTables) (key : Key) (u v : TriggerData) → v.spec ≡ u.spec → v.next ≡ u.next → IsAsBefore T key u → IsAsBefore T key v
alike T key u v spec next was same =
    from_alike T (trigger_of key T.triggers) u v spec next (was (subst (λ (s : TriggerSpec). same_key key s.key ≡ true) spec same))

pub before-with_trigger : (T : SchedulerTables) (key k : Key) (change : TriggerData → TriggerData) (rows : List TriggerData) → ((t : TriggerData) → (change t).spec ≡ t.spec) → ((t : TriggerData) → (change t).next ≡ t.next)
    → AllByRecursion (IsAsBefore T key) rows → AllByRecursion (IsAsBefore T key) (with_trigger k change rows)
before-with_trigger T key k change rows specs nexts all =
    All-with_trigger (IsAsBefore T key) (IsAsBefore T key) k change rows all (λ u at was. alike T key u (change u) (specs u) (nexts u) was) (λ u differ was. was)

pub before-with_states : (T : SchedulerTables) (key : Key) (change : TriggerState → TriggerState) (p : TriggerData → Bool) (rows : List TriggerData)
    → AllByRecursion (IsAsBefore T key) rows → AllByRecursion (IsAsBefore T key) (with_states change p rows)
before-with_states T key change p rows all = All-with_states change p (IsAsBefore T key) (IsAsBefore T key) rows all (λ t changed was. alike T key t (with_state change t) refl refl was) (λ t left was. was)

pub before-with_blocked : (T : SchedulerTables) (key : Key) (b : Bool) (job : Key) (rows : List TriggerData) → AllByRecursion (IsAsBefore T key) rows → AllByRecursion (IsAsBefore T key) (with_blocked b job rows)
before-with_blocked T key true job rows all = before-with_states T key blocked (is_trigger_of job) rows all
before-with_blocked T key false job rows all = all

pub before-with_unblocked : (T : SchedulerTables) (key : Key) (b : Bool) (job : Key) (rows : List TriggerData) → AllByRecursion (IsAsBefore T key) rows → AllByRecursion (IsAsBefore T key) (with_unblocked b job rows)
before-with_unblocked T key true job rows all = before-with_states T key unblocked (is_trigger_of job) rows all
before-with_unblocked T key false job rows all = all

pub before-freed_by : (T : SchedulerTables) (key : Key) (member : MemberData) (fired : List FiredData) (rows : List TriggerData) → AllByRecursion (IsAsBefore T key) rows → AllByRecursion (IsAsBefore T key) (freed_by member fired rows)
unfolding freed_by
before-freed_by T key member fired rows all =
    All-changed (IsAsBefore T key) (IsAsBefore T key) (λ t. has_acquired member fired t.spec.key) (in_state state.Waiting) rows all (λ t waits was. alike T key t (in_state state.Waiting t) refl refl was) (λ t left was. was)

pub stays-without_trigger : (T : SchedulerTables) (key : Key) (U : SchedulerTables) (o : Option TriggerData) → Stays T key U → Stays T key (without_trigger_and_orphan U o)
unfolding without_trigger_and_orphan
stays-without_trigger T key U None was = was
stays-without_trigger T key U (Some t) was = record {
  triggers = All-without_trigger (IsAsBefore T key) (IsAsBefore T key) t.spec.key U.triggers was.triggers (λ u differ is. is);
  calendars = was.calendars;
  zones = was.zones;
  horizon = was.horizon;
}

-- the moment is none of its points
pub stays-moment : (T : SchedulerTables) (key : Key) (U : SchedulerTables) (m : ℤ) → Stays T key U → Stays T key (record U { last_moment = m })
stays-moment T key U m was = record { triggers = was.triggers; calendars = was.calendars; zones = was.zones; horizon = was.horizon }
