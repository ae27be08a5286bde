-- No transaction makes tables old: the horizon stays, or goes on to the last moment by an upgrade.
use Rattle.std.proofs.Common.{◌≡◌, ◌∙◌, Bool, false, not, ◌&&◌, ℕ, ℤ, ◌+ℤ◌, List, [], ◌∷◌, fold, refl, sym, ap, subst}
use Rattle.std.specs.Prelude.{⊤, Option, Some, None, Ok}
use Rattle.std.specs.Ordering.{int_eq}
use Rattle.std.specs.declared.result.Result.{Result}
use Rattle.qz_civil.specs.declared.limits.TheConstants.{VERSION_ONE_LAST}
use Rattle.qz_types.specs.Rows.{FiredData, TriggerData, JobData, MemberData}
use Rattle.qz_types.specs.Entries.{EntryData}
use Rattle.qz_types.specs.declared.commands.Code.{Code}
use Rattle.qz_types.specs.declared.commands.Code.TheVariants.{Noop, ReExecuteJob, SetTriggerComplete, DeleteTrigger, SetAllJobTriggersComplete, SetTriggerError, SetAllJobTriggersError}
use Rattle.qz_types.specs.declared.commands.Command.{Command}
use Rattle.qz_types.specs.declared.commands.Command.TheVariants as command
use Rattle.qz_types.specs.declared.commands.Actor.{Actor}
use Rattle.qz_types.specs.declared.commands.Actor.TheVariants.{Client, Node}
use Rattle.qz_types.specs.declared.replies.Reply.{Reply}
use Rattle.qz_types.specs.declared.replies.Refusal.{Refusal}
use Rattle.qz_types.specs.Tables.{SchedulerTables, recorded_moment}
use Rattle.qz_types.specs.Outcomes.{Outcome, accepted, refused, unless}
use Rattle.qz_types.specs.Words.{job_of, trigger_of, fired_of, member_of}
use Rattle.qz_model.specs.Transaction.{by_command, transaction}
use Rattle.qz_model.specs.Acquiring.{acquire_refusal, chosen, with_acquired, acquired_refusal, release_row}
use Rattle.qz_model.specs.Calendars.{add_calendar_refusal, delete_calendar_refusal, add_zone_refusal, delete_zone_refusal}
use Rattle.qz_model.specs.Completing.{completed, complete_refusal, complete_one, complete_row}
use Rattle.qz_model.specs.Firing.{fire_refusal, with_begun, fire_one, fire_row}
use Rattle.qz_model.specs.Jobs.{add_job_refusal, unknown_job}
use Rattle.qz_model.specs.Membership.{node_refusal}
use Rattle.qz_model.specs.Resetting.{reset_refusal}
use Rattle.qz_model.specs.Upgrading.{upgrade_refusal, is_upgrade, version_refusal}
use Rattle.qz_model.specs.Pausing.{pause_job_group_refusal, pause_group_refusal}
use Rattle.qz_model.specs.Recovery.{recovery_refusal, recovered, recover_member, with_new_member, join_refusal, joined, leave_refusal}
use Rattle.qz_model.specs.Tests.{refuse_if, or_refusal}
use Rattle.qz_model.specs.Triggers.{add_trigger_refusal, with_new_trigger, without_trigger_and_orphan, unknown_trigger, trigger_now_refusal}
use Rattle.qz_types.specs.declared.replies.Refusal.TheVariants.{OldStore}
use Rattle.qz_model.specs.History.{tables_left, replay}
use Rattle.qz_model.proofs.Histories.{replay_from-append}
use Rattle.qz_model.proofs.KeptCompletion.{horizon-completed}
use Rattle.qz_stores.specs.Kinds.{unless_refused}
use Rattle.qz_stores.specs.Stores.{Appends}
use Rattle.qz_stores.proofs.Committing as store
use Rattle.qz_trigger_store.specs.Entries.{TriggerState, answer_of, is_old, trigger_entry}
use Rattle.qz_trigger_store.specs.Kinds.{trigger_kind}
use Rattle.qz_trigger_store.proofs.Accepting.{accepted_as}

-- if it is accepted, the tables aren't old
abbrev pub Reaches : Outcome → Type 0
Reaches (accepted T r) = is_old T ≡ false
Reaches (refused x) = ⊤

unless-reaches : (x : Option Refusal) (o : Outcome) → Reaches o → Reaches (unless x o)
unless-reaches None o is = is
unless-reaches (Some x) o is = tt

joined-reaches : (T : SchedulerTables) → is_old T ≡ false → (m : ℤ) (node : List ℕ) (member : Option MemberData) → Reaches (joined T m node member)
unfolding with_new_member recovered
joined-reaches T far m node None = far
joined-reaches T far m node (Some member) = far

recover_member-reaches : (T : SchedulerTables) → is_old T ≡ false → (m : ℤ) (member : Option MemberData) → Reaches (recover_member T m member)
unfolding recovered
recover_member-reaches T far m None = tt
recover_member-reaches T far m (Some member) = unless-reaches (recovery_refusal T member) _ far

release_row-reaches : (T : SchedulerTables) → is_old T ≡ false → (m : ℤ) (me : MemberData) (f : Option FiredData) → Reaches (release_row T m me f)
release_row-reaches T far m me None = tt
release_row-reaches T far m me (Some f) = unless-reaches (acquired_refusal me f) _ far

fire_one-reaches : (T : SchedulerTables) → is_old T ≡ false → (m : ℤ) (f : FiredData) (job : JobData) (next : Option ℤ) → Reaches (fire_one T m f job next)
unfolding with_begun
fire_one-reaches T far m f job next = far

fire_row-reaches : (T : SchedulerTables) → is_old T ≡ false → (m : ℤ) (me : MemberData) (f : Option FiredData) → Reaches (fire_row T m me f)
fire_row-reaches T far m me None = tt
fire_row-reaches T far m me (Some f) = unless-reaches (fire_refusal T m me f) _ (fire_one-reaches T far m f _ _)

-- what an execution leaves when it ends with this code isn't old
far_after : (T : SchedulerTables) → is_old T ≡ false → (f : FiredData) (code : Code) → is_old (completed T f code) ≡ false
far_after T far f code = subst (λ (h : ℤ). int_eq h VERSION_ONE_LAST ≡ false) (sym (horizon-completed T f code)) far

complete_one-reaches : (T : SchedulerTables) → is_old T ≡ false → (m : ℤ) (f : FiredData) (code : Code) → Reaches (complete_one T m f code)
complete_one-reaches T far m f Noop = far_after T far f Noop
complete_one-reaches T far m f ReExecuteJob = far
complete_one-reaches T far m f SetTriggerComplete = far_after T far f SetTriggerComplete
complete_one-reaches T far m f DeleteTrigger = far_after T far f DeleteTrigger
complete_one-reaches T far m f SetAllJobTriggersComplete = far_after T far f SetAllJobTriggersComplete
complete_one-reaches T far m f SetTriggerError = far_after T far f SetTriggerError
complete_one-reaches T far m f SetAllJobTriggersError = far_after T far f SetAllJobTriggersError

complete_row-reaches : (T : SchedulerTables) → is_old T ≡ false → (m : ℤ) (me : MemberData) (f : Option FiredData) (code : Code) → Reaches (complete_row T m me f code)
complete_row-reaches T far m me None code = tt
complete_row-reaches T far m me (Some f) code = unless-reaches (complete_refusal me f) _ (complete_one-reaches T far m f code)

-- what a command leaves of tables that aren't old isn't old
added-far : (T : SchedulerTables) (t : TriggerData) → is_old T ≡ false → is_old (with_new_trigger T t) ≡ false
unfolding with_new_trigger
added-far T t far = far

deleted-far : (T : SchedulerTables) (t : Option TriggerData) → is_old T ≡ false → is_old (without_trigger_and_orphan T t) ≡ false
unfolding without_trigger_and_orphan
deleted-far T None far = far
deleted-far T (Some t) far = far

acquired-far : (me : MemberData) (T : SchedulerTables) (ts : List TriggerData) → is_old T ≡ false → is_old (fold (with_acquired me) T ts) ≡ false
unfolding with_acquired
acquired-far me T [] far = far
acquired-far me T (t ∷ ts) far = acquired-far me (with_acquired me T t) ts far

by_command-reaches : (T : SchedulerTables) → is_old T ≡ false → (m : ℤ) (actor : Actor) (c : Command) → Reaches (by_command T m actor c)
by_command-reaches T far m actor (command.AddJob job replace) = unless-reaches (add_job_refusal T job replace) _ far
by_command-reaches T far m actor (command.DeleteJob key) = unless-reaches (unknown_job (job_of key T.jobs)) _ far
by_command-reaches T far m actor (command.AddTrigger spec replace) = unless-reaches (add_trigger_refusal T spec replace) _ (added-far T _ far)
by_command-reaches T far m actor (command.DeleteTrigger key) = unless-reaches (unknown_trigger (trigger_of key T.triggers)) _ (deleted-far T (trigger_of key T.triggers) far)
by_command-reaches T far m actor (command.PauseTrigger key) = unless-reaches (unknown_trigger (trigger_of key T.triggers)) _ far
by_command-reaches T far m actor (command.ResumeTrigger key) = unless-reaches (unknown_trigger (trigger_of key T.triggers)) _ far
by_command-reaches T far m actor (command.PauseGroup group) = unless-reaches (pause_group_refusal T group) _ far
by_command-reaches T far m actor (command.ResumeGroup group) = far
by_command-reaches T far m actor (command.AddCalendar calendar replace) = unless-reaches (add_calendar_refusal T calendar replace) _ far
by_command-reaches T far m actor (command.DeleteCalendar name) = unless-reaches (delete_calendar_refusal T name) _ far
by_command-reaches T far m actor (command.AddZone zone) = unless-reaches (add_zone_refusal T zone) _ far
by_command-reaches T far m actor (command.DeleteZone name) = unless-reaches (delete_zone_refusal T name) _ far
by_command-reaches T far m actor (command.TriggerNow job) = unless-reaches (trigger_now_refusal T job) _ far
by_command-reaches T far m actor (command.Threshold ms) = far
by_command-reaches T far m actor command.Upgrade = unless-reaches (upgrade_refusal T) _ refl
by_command-reaches T far m actor (command.ResetTrigger key) = unless-reaches (reset_refusal (trigger_of key T.triggers)) _ far
by_command-reaches T far m actor (command.PauseJobGroup group) = unless-reaches (pause_job_group_refusal T group) _ far
by_command-reaches T far m actor (command.ResumeJobGroup group) = far
by_command-reaches T far m actor (command.Join node) =
    unless-reaches (join_refusal T (member_of node T.members)) _ (joined-reaches T far m node (member_of node T.members))
by_command-reaches T far m Client command.Leave = tt
by_command-reaches T far m (Node me) command.Leave = unless-reaches (or_refusal (node_refusal T me) (leave_refusal T me)) _ far
by_command-reaches T far m Client (command.Acquire no_later window max) = tt
by_command-reaches T far m (Node me) (command.Acquire no_later window max) = unless-reaches (or_refusal (node_refusal T me) (acquire_refusal T max)) _ (acquired-far me T (chosen T m (no_later +ℤ window) max) far)
by_command-reaches T far m Client (command.Release entry) = tt
by_command-reaches T far m (Node me) (command.Release entry) = unless-reaches (node_refusal T me) _ (release_row-reaches T far m me (fired_of entry T.fired))
by_command-reaches T far m Client (command.Fire entry) = tt
by_command-reaches T far m (Node me) (command.Fire entry) = unless-reaches (node_refusal T me) _ (fire_row-reaches T far m me (fired_of entry T.fired))
by_command-reaches T far m Client (command.Complete entry code) = tt
by_command-reaches T far m (Node me) (command.Complete entry code) = unless-reaches (node_refusal T me) _ (complete_row-reaches T far m me (fired_of entry T.fired) code)
by_command-reaches T far m Client command.Misfires = tt
by_command-reaches T far m (Node me) command.Misfires = unless-reaches (node_refusal T me) _ far
by_command-reaches T far m Client (command.Recover node) = tt
by_command-reaches T far m (Node me) (command.Recover node) = unless-reaches (node_refusal T me) _ (recover_member-reaches T far m (member_of node T.members))

pub current-accepted : (T T' : SchedulerTables) (e : EntryData) (r : Reply) → is_old T ≡ false → transaction T e ≡ accepted T' r → is_old T' ≡ false
current-accepted T T' e r far way = subst Reaches way (by_command-reaches T far (recorded_moment T e.at) e.actor e.command)

-- Tables that aren't old refuse nothing on behalf of their version.
pub not_refused : (T : SchedulerTables) (c : Command) → is_old T ≡ false → version_refusal T c ≡ None
unfolding version_refusal
not_refused T c new = ap (λ (b : Bool). refuse_if (b && not (is_upgrade c)) OldStore None) new

-- So what is submitted is answered by its transaction.
pub answered_by_transaction : (T : SchedulerTables) (e : EntryData) (a : Result Reply Refusal) → is_old T ≡ false → unless_refused (version_refusal T e.command) a ≡ a
answered_by_transaction T e a new = ap (λ (x : Option Refusal). unless_refused x a) (not_refused T e.command new)

-- What is accepted when it is submitted is accepted by its transaction, whatever the version.
pub accepted_anyway : (T : SchedulerTables) (e : EntryData) (r : Reply) → unless_refused (version_refusal T e.command) (answer_of (transaction T e)) ≡ Ok r → answer_of (transaction T e) ≡ Ok r
accepted_anyway = store.accepted_anyway trigger_kind

-- A store that isn't old doesn't become so.
pub stays_current : (e : EntryData) (r : Reply) (s t : TriggerState) → is_old (replay s.history) ≡ false → Appends trigger_entry e r s t → is_old (replay t.history) ≡ false
stays_current e r s t new appends =
    let T = replay s.history in
    let left : SchedulerTables = tables_left T (transaction T e) in
    let way : transaction T e ≡ accepted left r = accepted_as T left (transaction T e) r (accepted_anyway T e r appends.accepted_as) refl in
    let after : replay t.history ≡ left = ap replay appends.history ∙ replay_from-append s.history.base s.history.entries (e ∷ []) in
    subst (λ (U : SchedulerTables). is_old U ≡ false) (sym after) (current-accepted T left e r new way)
