-- What a Complete that isn't refused comes to.
use Rattle.std.proofs.Common.{◌≡◌, ℕ, ℤ, Bool, true, false, not, cond, ◌==◌, ◌&&◌, List, [], ◌∷◌, filter, Option, Some, None, MatchOption, refl, sym, ap, ◌∙◌, subst}
use Rattle.qz_types.specs.Rows.{TriggerData, MemberData, FiredData}
use Rattle.qz_types.specs.Entries.{EntryData}
use Rattle.qz_types.specs.declared.keys.Key.{Key}
use Rattle.qz_types.specs.declared.commands.Code.{Code}
use Rattle.qz_types.specs.declared.commands.Code.TheVariants as code
use Rattle.qz_types.specs.declared.commands.Command.TheVariants.{Complete}
use Rattle.qz_types.specs.declared.commands.Actor.TheVariants.{Node}
use Rattle.qz_types.specs.declared.triggers.TriggerState.{TriggerState}
use Rattle.qz_types.specs.declared.replies.Reply.TheVariants as reply
use Rattle.qz_types.specs.declared.replies.Refusal.{Refusal}
use Rattle.qz_types.specs.Changes.{without_acquired}
use Rattle.qz_types.specs.States.{is_acquired}
use Rattle.qz_types.specs.Tables.{SchedulerTables, recorded_moment}
use Rattle.qz_types.specs.Outcomes.{accepted, refused, IsAccepted}
use Rattle.qz_types.specs.Words.{trigger_of, fired_of, without_fired}
use Rattle.qz_model.proofs.RowLaws.{fired_of-entry}
use Rattle.qz_apply.proofs.Accepted.{no_refusal}
use Rattle.qz_apply.proofs.Refused.{of_one}
use Rattle.qz_model.specs.Completing.{with_trigger_ended, with_job_ended, with_code, without_execution, without_finished, completed, complete_refusal, complete_one, complete_row, complete}
use Rattle.qz_model.specs.Membership.{node_refusal}
use Rattle.qz_model.specs.Tests.{is_row_of_trigger, is_row_of_job}
use Rattle.qz_model.specs.Triggers.{without_trigger_and_orphan}
use Rattle.qz_model.specs.Transaction.{transaction}
use Rattle.qz_complete.specs.Ended.{unblocked_after, ended, without_row}
use Rattle.qz_complete.specs.Prepared.{change_for, ended_row, committed}
use Rattle.qz_complete.specs.declared.changes.Change.TheVariants.{End}

-- each code is accepted
one_accepted : (T : SchedulerTables) (m : ℤ) (f : FiredData) (c : Code) → IsAccepted (complete_one T m f c)
one_accepted T m f code.Noop = tt
one_accepted T m f code.ReExecuteJob = tt
one_accepted T m f code.SetTriggerComplete = tt
one_accepted T m f code.DeleteTrigger = tt
one_accepted T m f code.SetAllJobTriggersComplete = tt
one_accepted T m f code.SetTriggerError = tt
one_accepted T m f code.SetAllJobTriggersError = tt

pub of_row : (T : SchedulerTables) (m : ℤ) (me : MemberData) (f : FiredData) (c : Code) → MatchOption (complete_refusal me f) (IsAccepted (complete_row T m me (Some f) c)) (λ r. complete_row T m me (Some f) c ≡ refused r)
of_row T m me f c = of_one (complete_refusal me f) (complete_one T m f c) (one_accepted T m f c)

-- an accepted Complete is that of its row
completes : (T : SchedulerTables) (m : ℤ) (me : MemberData) (entry : ℕ) (c : Code) (f : FiredData) → IsAccepted (complete T m me entry c) → fired_of entry T.fired ≡ Some f → complete T m me entry c ≡ complete_one T m f c
completes T m me entry c f is stored =
    let clear : complete T m me entry c ≡ complete_row T m me (fired_of entry T.fired) c = no_refusal (node_refusal T me) (complete_row T m me (fired_of entry T.fired) c) is in
    let at : complete T m me entry c ≡ complete_row T m me (Some f) c = clear ∙ ap (λ o. complete_row T m me o c) stored in
    at ∙ no_refusal (complete_refusal me f) (complete_one T m f c) (subst IsAccepted at is)

-- which it has
row_of_complete : (T : SchedulerTables) (m : ℤ) (me : MemberData) (entry : ℕ) (c : Code) → IsAccepted (complete T m me entry c) → fired_of entry T.fired ≡ None → ⊥
row_of_complete T m me entry c is none =
    let clear : complete T m me entry c ≡ complete_row T m me (fired_of entry T.fired) c = no_refusal (node_refusal T me) (complete_row T m me (fired_of entry T.fired) c) is in
    subst IsAccepted (clear ∙ ap (λ o. complete_row T m me o c) none) is

some_row : (T : SchedulerTables) (m : ℤ) (me : MemberData) (entry : ℕ) (c : Code) (o : Option FiredData) {G : Type 0} → IsAccepted (complete T m me entry c) → fired_of entry T.fired ≡ o
    → ((f : FiredData) → fired_of entry T.fired ≡ Some f → G) → G
some_row T m me entry c None is found goal = absurd (row_of_complete T m me entry c is found)
some_row T m me entry c (Some f) is found goal = goal f found

-- what refuses an entry that completes
pub at_complete : (T : SchedulerTables) (e : EntryData) (me : MemberData) (entry : ℕ) (c : Code) (x : Option Refusal) → e.command ≡ Complete entry c → e.actor ≡ Node me
    → ((m : ℤ) (d : Code) → MatchOption x (IsAccepted (complete T m me entry d)) (λ r. complete T m me entry d ≡ refused r))
    → MatchOption x (IsAccepted (transaction T e)) (λ r. transaction T e ≡ refused r)
at_complete T e me entry c x command actor all =
    let is : transaction T e ≡ complete T (recorded_moment T e.at) me entry c = rw (command, actor) refl in
    subst (λ o. MatchOption x (IsAccepted o) (λ r. o ≡ refused r)) (sym is) (all (recorded_moment T e.at) c)

-- Filters in either order.
filter_filter : (p q : FiredData → Bool) (xs : List FiredData) → filter p (filter q xs) ≡ filter q (filter p xs)
filter_filter p q [] = refl
filter_filter p q (x ∷ xs) = elim (q x) as (λ b. q x ≡ b → filter p (cond b (x ∷ filter q xs) (filter q xs)) ≡ filter q (cond (p x) (x ∷ filter p xs) (filter p xs))) [
  | true ↦ λ passes. elim (p x) as (λ a. cond a (x ∷ filter p (filter q xs)) (filter p (filter q xs)) ≡ filter q (cond a (x ∷ filter p xs) (filter p xs))) [
    | true ↦ rw passes (ap (λ (ys : List FiredData). x ∷ ys) (filter_filter p q xs))
    | false ↦ filter_filter p q xs
  ]
  | false ↦ λ fails. elim (p x) as (λ a. filter p (filter q xs) ≡ filter q (cond a (x ∷ filter p xs) (filter p xs))) [
    | true ↦ rw fails (filter_filter p q xs)
    | false ↦ filter_filter p q xs
  ]
] refl

acquired_first : (q : FiredData → Bool) (entry : ℕ) (rows : List FiredData) → without_acquired q (without_fired entry rows) ≡ without_fired entry (without_acquired q rows)
unfolding without_acquired without_fired
acquired_first q entry rows = filter_filter (λ f. not (is_acquired f.state && q f)) (λ f. not (entry == f.entry)) rows

trigger_first : (T : SchedulerTables) (t : Option TriggerData) (entry : ℕ) → without_trigger_and_orphan (without_row entry T) t ≡ without_row entry (without_trigger_and_orphan T t)
unfolding without_trigger_and_orphan
trigger_first T None entry = refl
trigger_first T (Some t) entry = rw (acquired_first (is_row_of_trigger t.spec.key) entry T.fired) refl

trigger_ended_first : (T : SchedulerTables) (key : Key) (s : TriggerState) (entry : ℕ) → with_trigger_ended (without_row entry T) key s ≡ without_row entry (with_trigger_ended T key s)
unfolding with_trigger_ended
trigger_ended_first T key s entry = rw (acquired_first (is_row_of_trigger key) entry T.fired) refl

job_ended_first : (T : SchedulerTables) (job : Key) (s : TriggerState) (entry : ℕ) → with_job_ended (without_row entry T) job s ≡ without_row entry (with_job_ended T job s)
unfolding with_job_ended
job_ended_first T job s entry = rw (acquired_first (is_row_of_job job) entry T.fired) refl

-- the code can be applied where the row is gone already
code_first : (c : Code) (T : SchedulerTables) (f : FiredData) (entry : ℕ) → with_code c (without_row entry T) f ≡ without_row entry (with_code c T f)
code_first code.Noop T f entry = refl
code_first code.ReExecuteJob T f entry = refl
code_first code.SetTriggerComplete T f entry = trigger_ended_first T f.trigger _ entry
code_first code.DeleteTrigger T f entry = trigger_first T (trigger_of f.trigger T.triggers) entry
code_first code.SetAllJobTriggersComplete T f entry = job_ended_first T f.job _ entry
code_first code.SetTriggerError T f entry = trigger_ended_first T f.trigger _ entry
code_first code.SetAllJobTriggersError T f entry = job_ended_first T f.job _ entry

-- the changes, one after the other, come to the end of the execution
ended_is : (c : Code) (T : SchedulerTables) (f : FiredData) (entry : ℕ) → entry ≡ f.entry → ended c (without_row entry T) f ≡ completed T f c
unfolding without_execution
ended_is c T f entry number =
    ap (λ (u : SchedulerTables). without_finished c (unblocked_after u f) f.trigger) (code_first c T f entry)
    ∙ ap (λ (n : ℕ). without_finished c (unblocked_after (without_row n (with_code c T f)) f) f.trigger) number

-- what ends comes to that
ended_as : (T : SchedulerTables) (m : ℤ) (f : FiredData) (entry : ℕ) (c : Code) → entry ≡ f.entry → fired_of entry T.fired ≡ Some f
    → accepted (record (completed T f c) { last_moment = m }) (reply.Completed f.entry) ≡ committed T m (End entry c)
ended_as T m f entry c number stored =
    let same : completed T f c ≡ ended_row c (without_row entry T) (fired_of entry T.fired) = sym (ended_is c T f entry number) ∙ ap (ended_row c (without_row entry T)) (sym stored) in
    ap (λ (u : SchedulerTables). accepted (record u { last_moment = m }) (reply.Completed f.entry)) same
    ∙ ap (λ (n : ℕ). accepted (record (ended_row c (without_row entry T) (fired_of entry T.fired)) { last_moment = m }) (reply.Completed n)) (sym number)

-- an accepted Complete is what its change comes to
one_as : (T : SchedulerTables) (m : ℤ) (f : FiredData) (entry : ℕ) (c : Code) → entry ≡ f.entry → fired_of entry T.fired ≡ Some f → complete_one T m f c ≡ committed T m (change_for entry c)
one_as T m f entry code.Noop number stored = ended_as T m f entry code.Noop number stored
one_as T m f entry code.ReExecuteJob number stored = ap (λ (n : ℕ). accepted (record T { last_moment = m }) (reply.Again n)) (sym number)
one_as T m f entry code.SetTriggerComplete number stored = ended_as T m f entry code.SetTriggerComplete number stored
one_as T m f entry code.DeleteTrigger number stored = ended_as T m f entry code.DeleteTrigger number stored
one_as T m f entry code.SetAllJobTriggersComplete number stored = ended_as T m f entry code.SetAllJobTriggersComplete number stored
one_as T m f entry code.SetTriggerError number stored = ended_as T m f entry code.SetTriggerError number stored
one_as T m f entry code.SetAllJobTriggersError number stored = ended_as T m f entry code.SetAllJobTriggersError number stored

pub complete_as : (T : SchedulerTables) (m : ℤ) (me : MemberData) (entry : ℕ) (c : Code) → IsAccepted (complete T m me entry c) → complete T m me entry c ≡ committed T m (change_for entry c)
complete_as T m me entry c is =
    some_row T m me entry c (fired_of entry T.fired) is refl (λ f stored. completes T m me entry c f is stored ∙ one_as T m f entry c (fired_of-entry entry f T.fired stored) stored)
