-- The law from the entry on that stores the trigger.
use Rattle.std.proofs.Common.{◌≡◌, ◌⊎◌, ⊎_elim, inr, ℤ, pos, Bool, true, false, ◌&&◌, List, [], ◌∷◌, Option, Some, None, IsTrue, unwrap_or, refl, sym, subst}
use Rattle.std.proofs.lemmas.Bool.{and_parts}
use Rattle.qz_civil.specs.Timings.{is_timing}
use Rattle.qz_types.specs.Rows.{TriggerData, is_key, is_calendar, is_trigger_spec}
use Rattle.qz_types.specs.Entries.{EntryData, is_entry, is_command, is_of_node, has_actor}
use Rattle.qz_types.specs.declared.keys.Key.{Key}
use Rattle.qz_types.specs.declared.triggers.TriggerSpec.{TriggerSpec}
use Rattle.qz_types.specs.declared.commands.Command.{Command}
use Rattle.qz_types.specs.declared.commands.Command.TheVariants.{AddTrigger}
use Rattle.qz_types.specs.declared.replies.Reply.{Reply}
use Rattle.qz_types.specs.declared.replies.Reply.TheVariants.{Added}
use Rattle.qz_types.specs.Tables.{SchedulerTables, recorded_moment}
use Rattle.qz_types.specs.Outcomes.{Outcome, accepted, refused, IsAccepted}
use Rattle.qz_types.specs.Words.{trigger_of, without_trigger}
use Rattle.qz_model.specs.History.{tables_left, onto_replies, replies_from}
use Rattle.qz_model.specs.Invariant.{TablesValid}
use Rattle.qz_model.specs.Plan.{next_after, first_time}
use Rattle.qz_model.specs.Transaction.{by_command, transaction}
use Rattle.qz_model.specs.Triggers.{new_trigger, add_trigger_refusal, with_new_trigger, add_trigger}
use Rattle.qz_model.proofs.Changes.{passes}
use Rattle.qz_model.proofs.RowLaws.{same_key-exact, trigger_of-put_own, trigger_of-without_own}
use Rattle.qz_schedule_law.specs.Turns.{onto_times, fired_times, AreInTurn}
use Rattle.qz_schedule_law.specs.Undisturbed.{is_replaced, IsStoredBy}
use Rattle.qz_schedule_law.proofs.Entries.{facts}
use Rattle.qz_schedule_law.proofs.Histories.{goes_on, Goes}
use Rattle.qz_schedule_law.proofs.Stays.{Begins, same_plan}
use Rattle.qz_schedule_law.proofs.Turns.{turns-alike, turns-onto}

-- the trigger that was stored: its next time is its first one, and the reply is none of its times
record IsStoredFirst (T : SchedulerTables) (s : TriggerSpec) (r : Reply) (U : SchedulerTables) : Type 0 where
  found : trigger_of s.key U.triggers ≡ Some (new_trigger T s (first_time T s))
  plan : (a : ℤ) → next_after U s a ≡ next_after T s a
  silent : (times : List ℤ) → onto_times s.key r times ≡ times

found_new : (T : SchedulerTables) (m : ℤ) (t : TriggerData) → trigger_of t.spec.key (record (with_new_trigger T t) { last_moment = m }).triggers ≡ Some t
unfolding with_new_trigger
found_new T m t = trigger_of-put_own t (without_trigger t.spec.key T.triggers) (trigger_of-without_own t.spec.key T.triggers)

plan_new : (T : SchedulerTables) (m : ℤ) (t : TriggerData) (s : TriggerSpec) (a : ℤ) → next_after (record (with_new_trigger T t) { last_moment = m }) s a ≡ next_after T s a
unfolding with_new_trigger
plan_new T m t s a = same_plan T _ s a refl refl refl

found_first : (T : SchedulerTables) (m : ℤ) (s : TriggerSpec) → trigger_of s.key (record (with_new_trigger T (new_trigger T s (first_time T s))) { last_moment = m }).triggers ≡ Some (new_trigger T s (first_time T s))
unfolding new_trigger
found_first T m s = found_new T m (new_trigger T s (first_time T s))

stored_first : (T T' : SchedulerTables) (m : ℤ) (s : TriggerSpec) (replace : Bool) (r : Reply) → add_trigger T m s replace ≡ accepted T' r → IsStoredFirst T s r T'
stored_first T T' m s replace r e =
    let way = (passes (add_trigger_refusal T s replace) _ T' r e).outcome in
    let t : TriggerData = new_trigger T s (first_time T s) in
    let tables : record (with_new_trigger T t) { last_moment = m } ≡ T' = cc in
    let reply : Added (unwrap_or (first_time T s) (pos 0)) ≡ r = cc in record {
      found = subst (λ (U : SchedulerTables). trigger_of s.key U.triggers ≡ Some t) tables (found_first T m s);
      plan = λ a. subst (λ (U : SchedulerTables). next_after U s a ≡ next_after T s a) tables (plan_new T m t s a);
      silent = λ times. subst (λ (q : Reply). onto_times s.key q times ≡ times) reply refl;
    }

stored_by : (T T' : SchedulerTables) (e : EntryData) (s : TriggerSpec) (replace : Bool) (r : Reply) → e.command ≡ AddTrigger s replace → transaction T e ≡ accepted T' r → IsStoredFirst T s r T'
stored_by T T' e s replace r is way =
    stored_first T T' (recorded_moment T e.at) s replace r (subst (λ (c : Command). by_command T (recorded_moment T e.at) e.actor c ≡ accepted T' r) is way)

-- a trigger of a valid entry has a valid timing
timing_of : (s : TriggerSpec) → is_trigger_spec s ≡ true → is_timing s.timing ≡ true
timing_of s good = (and_parts (is_key s.key && is_key s.job && is_calendar s.calendar) (is_timing s.timing) good).1

valid_timing : (e : EntryData) (s : TriggerSpec) (replace : Bool) → IsTrue (is_entry e) → e.command ≡ AddTrigger s replace → IsTrue (is_timing s.timing)
unfolding is_entry
valid_timing e s replace good is = timing_of s (subst (λ (c : Command). is_command c ≡ true) is (and_parts (is_command e.command) (has_actor (is_of_node e.command) e.actor) good).0)

begins_added : (T U : SchedulerTables) (s : TriggerSpec) (r : Reply) → IsStoredFirst T s r U → IsTrue (is_timing s.timing) → Begins T s.key r U (new_trigger T s (first_time T s))
unfolding new_trigger
begins_added T U s r stored timing = record { first = refl; timing = timing; plan = stored.plan; silent = stored.silent [] }

-- an AddTrigger of the key
begins_replaced : (T U : SchedulerTables) (e : EntryData) (key : Key) (r : Reply) (u : TriggerData) (c : Command) → IsTrue (is_entry e) → transaction T e ≡ accepted U r → e.command ≡ c → is_replaced key c ≡ true → trigger_of key U.triggers ≡ Some u
    → Begins T key r U u
begins_replaced T U e key r u (AddTrigger s replace) good way is same found =
    let stored = stored_by T U e s replace r is way in
    let own : key ≡ s.key = same_key-exact key s.key same in
    let at : trigger_of key U.triggers ≡ Some (new_trigger T s (first_time T s)) = subst (λ (k : Key). trigger_of k U.triggers ≡ Some (new_trigger T s (first_time T s))) (sym own) stored.found in
    let one : new_trigger T s (first_time T s) ≡ u = cc in
    subst (λ (v : TriggerData). Begins T key r U v) one
    (subst (λ (k : Key). Begins T k r U (new_trigger T s (first_time T s))) (sym own) (begins_added T U s r stored (valid_timing e s replace good is)))
begins_replaced T U e key r u c good way is same found = absurd (cc)

-- whatever command stores it
begins : (T U : SchedulerTables) (e : EntryData) (key : Key) (r : Reply) (u : TriggerData) → TablesValid T → IsTrue (is_entry e) → transaction T e ≡ accepted U r → (trigger_of key T.triggers ≡ None) ⊎ (is_replaced key e.command ≡ true)
    → trigger_of key U.triggers ≡ Some u → Begins T key r U u
begins T U e key r u valid good way stores found = elim (is_replaced key e.command) as (λ b. is_replaced key e.command ≡ b → Begins T key r U u) [
  | true ↦ λ replaced. begins_replaced T U e key r u e.command good way refl replaced found
  | false ↦ λ kept. ⊎_elim (λ absent. (facts T U key e r valid kept (inr absent) (inr absent) way).new absent u found) (λ wrong. absurd (cc)) stores
] refl

-- it goes on from its first time
goes_first : (T U : SchedulerTables) (key : Key) (r : Reply) (t u : TriggerData) (rs : List Reply) → Begins T key r U t → Goes U key t rs u → AreInTurn (next_after T t.spec) (first_time T t.spec) (fired_times key (r ∷ rs)) u.next
goes_first T U key r t u rs starts goes =
    let f = next_after T t.spec in
    let later : AreInTurn f t.next (fired_times key rs) u.next = turns-alike (next_after U t.spec) f starts.plan t.next (fired_times key rs) u.next goes.1 in
    turns-onto f key r (first_time T t.spec) (first_time T t.spec) u.next (fired_times key rs)
    (subst (λ (ts : List ℤ). AreInTurn f (first_time T t.spec) ts (first_time T t.spec)) (sym starts.silent) refl)
    (subst (λ (o : Option ℤ). AreInTurn f o (fired_times key rs) u.next) starts.first later)

first_at : (T : SchedulerTables) (e : EntryData) (o : Outcome) (key : Key) (t u : TriggerData) (rs : List Reply) → TablesValid T → IsTrue (is_entry e) → IsAccepted o → transaction T e ≡ o → (trigger_of key T.triggers ≡ None) ⊎ (is_replaced key e.command ≡ true)
    → trigger_of key (tables_left T o).triggers ≡ Some t → Goes (tables_left T o) key t rs u → IsTrue (is_timing t.spec.timing) × AreInTurn (next_after T t.spec) (first_time T t.spec) (fired_times key (onto_replies o rs)) u.next
first_at T e (refused x) key t u rs valid good done way stores found goes = absurd done
first_at T e (accepted U r) key t u rs valid good done way stores found goes =
    let starts = begins T U e key r t valid good way stores found in (starts.timing, goes_first T U key r t u rs starts goes)

-- it fires for the times of its schedule from the first one on
pub from_the_first : (T : SchedulerTables) (e : EntryData) (es : List EntryData) (key : Key) (t u : TriggerData) → IsStoredBy T e es key t u
    → IsTrue (is_timing t.spec.timing) × AreInTurn (next_after T t.spec) (first_time T t.spec) (fired_times key (replies_from T (e ∷ es))) u.next
from_the_first T e es key t u by =
    let along = by.stretch in
    first_at T e (transaction T e) key t u (replies_from (tables_left T (transaction T e)) es) by.valid by.entry by.accepted refl by.stores along.begins
    (goes_on (tables_left T (transaction T e)) es key t u along.valid along.entries along.legal along.begins along.ends along.goes_on)
