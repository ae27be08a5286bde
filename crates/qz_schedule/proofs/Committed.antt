-- What a command comes to that was prepared.
use Rattle.std.proofs.Common.{◌≡◌, ℤ, Bool, not, ◌&&◌, IsTrue, Option, Some, None, IsSome, is_some, is_none, refl, sym, ap, ◌∙◌, subst}
use Rattle.std.proofs.Math.Logic.{∥∥₁_map}
use Rattle.qz_types.specs.Entries.{EntryData, is_entry}
use Rattle.qz_types.specs.Rows.{TriggerData}
use Rattle.qz_types.specs.declared.keys.Key.{Key}
use Rattle.qz_types.specs.declared.commands.Actor.{Actor}
use Rattle.qz_types.specs.declared.commands.Command.{Command}
use Rattle.qz_types.specs.declared.commands.Command.TheVariants.{AddTrigger, TriggerNow}
use Rattle.qz_types.specs.declared.replies.Reply.{Reply}
use Rattle.qz_types.specs.declared.replies.Refusal.{Refusal}
use Rattle.qz_types.specs.declared.triggers.TriggerSpec.{TriggerSpec}
use Rattle.qz_types.specs.Outcomes.{Outcome, accepted, unless, IsAccepted}
use Rattle.qz_types.specs.Tables.{SchedulerTables, recorded_moment}
use Rattle.qz_types.specs.Words.{trigger_of}
use Rattle.qz_model.specs.Invariant.{TablesValid}
use Rattle.qz_model.specs.Plan.{first_time}
use Rattle.qz_model.specs.Transaction.{by_command, transaction}
use Rattle.qz_model.specs.Triggers.{new_trigger, manual_trigger, naming_refusal, add_trigger_refusal, add_trigger, trigger_now_refusal, trigger_now}
use Rattle.qz_model.proofs.Kept.{kept}
use Rattle.qz_model.proofs.Refusals.{not_refused, no_first}
use Rattle.qz_schedule.specs.Preparing.{change_for}
use Rattle.qz_schedule.proofs.Facts.{new_spec, new_next, manual_job, some_time}
use Rattle.qz_schedule.specs.declared.changes.Change.TheVariants.{Trigger, Manual}

-- Tables stay valid where a transaction is done.
pub stays_valid : (T U : SchedulerTables) (e : EntryData) (reply : Reply) → IsTrue (is_entry e) → ∥ TablesValid T ∥₁ → transaction T e ≡ accepted U reply → ∥ TablesValid U ∥₁
stays_valid T U e reply good valid ok = ∥∥₁_map valid (λ was. kept T U e reply good was ok)

-- nothing refuses what is accepted
pub clear : (x : Option Refusal) (o : Outcome) → IsAccepted (unless x o) → x ≡ None
clear None o is = refl
clear (Some r) o is = absurd is

-- an accepted AddTrigger has a first fire time
has_first_time : (T : SchedulerTables) (s : TriggerSpec) (replace : Bool) → add_trigger_refusal T s replace ≡ None → IsSome (first_time T s)
unfolding add_trigger_refusal
has_first_time T s replace none =
    let rest = (no_first (naming_refusal T s) _ none).1 in
    let timed = (not_refused (is_none (first_time T s)) _ _ (not_refused (is_some (trigger_of s.key T.triggers) && not replace) _ _ rest).1).0 in
    some_time (first_time T s) timed

-- What the change of an AddTrigger or a TriggerNow was made of.
module _ (T : SchedulerTables) (m : ℤ) (actor : Actor) where
  pub trigger_is : (c : Command) (row : TriggerData) → Trigger row ≡ change_for T m c → (replace : Bool) × (by_command T m actor c ≡ add_trigger T m row.spec replace) × (row ≡ new_trigger T row.spec (first_time T row.spec))
  trigger_is (AddTrigger s replace) row holds =
      let is : row ≡ new_trigger T s (first_time T s) = cc in
      let spec : row.spec ≡ s = ap (λ (t : TriggerData). t.spec) is ∙ new_spec T s (first_time T s) in
      (replace, ap (λ x. add_trigger T m x replace) (sym spec), is ∙ ap (λ x. new_trigger T x (first_time T x)) (sym spec))
  trigger_is c row holds = absurd cc

  pub manual_is : (c : Command) (row : TriggerData) (key : Key) → Manual row key ≡ change_for T m c
      → (by_command T m actor c ≡ trigger_now T m row.spec.job) × (row ≡ new_trigger T (manual_trigger m T.next_entry row.spec.job) (Some m)) × (key ≡ row.spec.key)
  manual_is (TriggerNow job) row key holds =
      let is : row ≡ new_trigger T (manual_trigger m T.next_entry job) (Some m) = cc in
      let named : key ≡ (manual_trigger m T.next_entry job).key = cc in
      let spec : row.spec ≡ manual_trigger m T.next_entry job = ap (λ (t : TriggerData). t.spec) is ∙ new_spec T (manual_trigger m T.next_entry job) (Some m) in
      let of : row.spec.job ≡ job = ap (λ (s : TriggerSpec). s.job) spec ∙ manual_job m T.next_entry job in
      (ap (trigger_now T m) (sym of), is ∙ ap (λ j. new_trigger T (manual_trigger m T.next_entry j) (Some m)) (sym of), named ∙ ap (λ (s : TriggerSpec). s.key) (sym spec))
  manual_is c row key holds = absurd cc

-- A new trigger is stored.
module _ (T : SchedulerTables) (e : EntryData) (row : TriggerData) (holds : Trigger row ≡ change_for T (recorded_moment T e.at) e.command) where
  abbrev given : (replace : Bool) × (transaction T e ≡ add_trigger T (recorded_moment T e.at) row.spec replace) × (row ≡ new_trigger T row.spec (first_time T row.spec))
  given = trigger_is T (recorded_moment T e.at) e.actor e.command row holds

  pub trigger_row : row ≡ new_trigger T row.spec (first_time T row.spec)
  trigger_row = given.2

  module _ (accepts : IsAccepted (transaction T e)) where
    trigger_clear : add_trigger_refusal T row.spec given.0 ≡ None
    trigger_clear = clear (add_trigger_refusal T row.spec given.0) _ (subst IsAccepted given.1 accepts)

    pub trigger_time : IsSome row.next
    trigger_time = subst IsSome (sym (ap (λ (t : TriggerData). t.next) given.2 ∙ new_next T row.spec (first_time T row.spec))) (has_first_time T row.spec given.0 trigger_clear)

    pub trigger_done : (U : SchedulerTables) (m : ℤ) (reply : Reply) → m ≡ recorded_moment T e.at → ((replace : Bool) → add_trigger_refusal T row.spec replace ≡ None → add_trigger T m row.spec replace ≡ accepted U reply)
        → transaction T e ≡ accepted U reply
    trigger_done U m reply same done = given.1 ∙ ap (λ x. add_trigger T x row.spec given.0) (sym same) ∙ done given.0 trigger_clear

-- A manual trigger is stored.
module _ (T : SchedulerTables) (e : EntryData) (row : TriggerData) (key : Key) (holds : Manual row key ≡ change_for T (recorded_moment T e.at) e.command) where
  abbrev by_hand : (transaction T e ≡ trigger_now T (recorded_moment T e.at) row.spec.job) × (row ≡ new_trigger T (manual_trigger (recorded_moment T e.at) T.next_entry row.spec.job) (Some (recorded_moment T e.at))) × (key ≡ row.spec.key)
  by_hand = manual_is T (recorded_moment T e.at) e.actor e.command row key holds

  pub manual_clear : IsAccepted (transaction T e) → trigger_now_refusal T row.spec.job ≡ None
  manual_clear accepts = clear (trigger_now_refusal T row.spec.job) _ (subst IsAccepted by_hand.0 accepts)

  pub manual_row : (m : ℤ) → m ≡ recorded_moment T e.at → row ≡ new_trigger T (manual_trigger m T.next_entry row.spec.job) (Some m)
  manual_row m same = by_hand.1 ∙ ap (λ x. new_trigger T (manual_trigger x T.next_entry row.spec.job) (Some x)) (sym same)

  pub manual_key : key ≡ row.spec.key
  manual_key = by_hand.2

  pub manual_done : (U : SchedulerTables) (m : ℤ) (reply : Reply) → m ≡ recorded_moment T e.at → trigger_now T m row.spec.job ≡ accepted U reply → transaction T e ≡ accepted U reply
  manual_done U m reply same done = by_hand.0 ∙ ap (λ x. trigger_now T x row.spec.job) (sym same) ∙ done
