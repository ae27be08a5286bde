-- Which replies take memory.
use Rattle.std.proofs.Common.{◌≡◌, ℕ, ℤ, List, Option, Some, None, IsTrue, Result, Ok, Err, IfOk, refl, sym, ap, ◌∙◌, subst}
use Rattle.qz_types.specs.Rows.{MemberData}
use Rattle.qz_types.specs.Entries.{EntryData}
use Rattle.qz_types.specs.declared.commands.Command.{Command}
use Rattle.qz_types.specs.declared.commands.Command.TheVariants.{AddJob, DeleteJob, AddTrigger, DeleteTrigger, PauseTrigger, ResumeTrigger, PauseGroup, ResumeGroup, AddCalendar, DeleteCalendar, AddZone, DeleteZone, TriggerNow, Threshold, Join, Leave, Acquire, Release, Fire, Complete, Misfires, Recover, Upgrade, ResetTrigger, PauseJobGroup, ResumeJobGroup}
use Rattle.qz_types.specs.declared.commands.Actor.{Actor}
use Rattle.qz_types.specs.declared.commands.Actor.TheVariants.{Client, Node}
use Rattle.qz_types.specs.declared.replies.Reply.{Reply}
use Rattle.qz_types.specs.declared.replies.Reply.TheVariants.{Triggered}
use Rattle.qz_types.specs.declared.replies.Refusal.{Refusal}
use Rattle.qz_types.specs.Tables.{SchedulerTables, recorded_moment}
use Rattle.qz_types.specs.Outcomes.{Outcome, unless}
use Rattle.qz_types.specs.Words.{job_of, trigger_of, member_of}
use Rattle.qz_model.specs.Calendars.{add_calendar_refusal, delete_calendar_refusal, add_zone_refusal, delete_zone_refusal}
use Rattle.qz_model.specs.Jobs.{add_job_refusal, unknown_job}
use Rattle.qz_model.specs.Membership.{node_refusal}
use Rattle.qz_model.specs.Pausing.{pause_group_refusal, pause_job_group_refusal}
use Rattle.qz_model.specs.Recovery.{leave_refusal, leave, join_refusal, joined, recovery_refusal, recover_member, recover}
use Rattle.qz_model.specs.Resetting.{reset_refusal}
use Rattle.qz_model.specs.Tests.{or_refusal}
use Rattle.qz_model.specs.Triggers.{add_trigger_refusal, unknown_trigger, manual_trigger, trigger_now_refusal}
use Rattle.qz_model.specs.Transaction.{as_node, by_command, transaction}
use Rattle.qz_model.specs.Upgrading.{upgrade_refusal}
use Rattle.qz_tables.specs.Contents.{TablesData}
use Rattle.qz_types.specs.Groups.{IsOfSchedule}
use Rattle.qz_schedule.specs.Preparing.{change_for, Prepares as schedule_prepares}
use Rattle.qz_schedule.specs.declared.changes.Change.{Change as ScheduleChange}
use Rattle.qz_acquire.specs.Prepared.{committed, Prepares as acquire_prepares}
use Rattle.qz_acquire.specs.declared.changes.Change.{Change as AcquireChange}
use Rattle.qz_recover.specs.Prepared.{Prepares as recover_prepares}
use Rattle.qz_recover.specs.declared.changes.Change.{Change as RecoverChange}
use Rattle.qz_recover.specs.declared.changes.Change.TheVariants as change
use Rattle.qz_complete.specs.Prepared.{Prepares as complete_prepares}
use Rattle.qz_complete.specs.declared.changes.Change.{Change as CompleteChange}
use Rattle.qz_complete.specs.declared.changes.Change.TheVariants.{GoOn, End}
use Rattle.qz_plain.specs.Replies.{triggered, CopiesReply}

copies-unless : (copy : Option Reply) (x : Option Refusal) (o : Outcome) → CopiesReply copy o → CopiesReply copy (unless x o)
copies-unless copy None o is = is
copies-unless copy (Some r) o is = tt

-- Commands of clients.

by_change : (T : SchedulerTables) (m : ℤ) (actor : Actor) (c : Command) → IsOfSchedule c → CopiesReply (triggered m (change_for T m c)) (by_command T m actor c)
by_change T m actor (AddJob job replace) is = copies-unless None (add_job_refusal T job replace) _ refl
by_change T m actor (AddTrigger spec replace) is = copies-unless None (add_trigger_refusal T spec replace) _ refl
by_change T m actor (DeleteJob key) is = copies-unless None (unknown_job (job_of key T.jobs)) _ refl
by_change T m actor (DeleteTrigger key) is = copies-unless None (unknown_trigger (trigger_of key T.triggers)) _ refl
by_change T m actor (PauseTrigger key) is = copies-unless None (unknown_trigger (trigger_of key T.triggers)) _ refl
by_change T m actor (ResumeTrigger key) is = copies-unless None (unknown_trigger (trigger_of key T.triggers)) _ refl
by_change T m actor (PauseGroup group) is = copies-unless None (pause_group_refusal T group) _ refl
by_change T m actor (ResumeGroup group) is = refl
by_change T m actor (AddCalendar calendar replace) is = copies-unless None (add_calendar_refusal T calendar replace) _ refl
by_change T m actor (DeleteCalendar name) is = copies-unless None (delete_calendar_refusal T name) _ refl
by_change T m actor (AddZone zone) is = copies-unless None (add_zone_refusal T zone) _ refl
by_change T m actor (DeleteZone name) is = copies-unless None (delete_zone_refusal T name) _ refl
by_change T m actor (TriggerNow job) is = copies-unless (Some (Triggered (manual_trigger m T.next_entry job).key m)) (trigger_now_refusal T job) _ refl
by_change T m actor (Threshold ms) is = refl
by_change T m actor Upgrade is = copies-unless None (upgrade_refusal T) _ refl
by_change T m actor (ResetTrigger key) is = copies-unless None (reset_refusal (trigger_of key T.triggers)) _ refl
by_change T m actor (PauseJobGroup group) is = copies-unless None (pause_job_group_refusal T group) _ refl
by_change T m actor (ResumeJobGroup group) is = refl
by_change T m actor (Join node) is = absurd cc
by_change T m actor Leave is = absurd cc
by_change T m actor (Acquire no_later window max) is = absurd cc
by_change T m actor (Release entry) is = absurd cc
by_change T m actor (Fire entry) is = absurd cc
by_change T m actor (Complete entry code) is = absurd cc
by_change T m actor Misfires is = absurd cc
by_change T m actor (Recover node) is = absurd cc

pub schedule_copies : {E : Type 0} (D : TablesData) (e : EntryData) (change : ScheduleChange) (answer : Result (Option Reply) E) (m : ℤ) → schedule_prepares D e change → m ≡ recorded_moment D.tables e.at
    → IfOk answer (λ copy. copy ≡ triggered m change) → IfOk answer (λ copy. CopiesReply copy (transaction D.tables e))
schedule_copies D e change (Err error) m ready moment copied = tt
schedule_copies D e change (Ok copy) m ready moment copied =
    let at : CopiesReply (triggered (recorded_moment D.tables e.at) (change_for D.tables (recorded_moment D.tables e.at) e.command)) (transaction D.tables e) =
    by_change D.tables (recorded_moment D.tables e.at) e.actor e.command ready.command in
    let same : copy ≡ triggered (recorded_moment D.tables e.at) (change_for D.tables (recorded_moment D.tables e.at) e.command) =
    copied ∙ ap (λ (x : ℤ). triggered x change) moment ∙ ap (triggered (recorded_moment D.tables e.at)) ready.holds in
    subst (λ (x : Option Reply). CopiesReply x (transaction D.tables e)) (sym same) at

-- Commands of nodes that take triggers.

pub acquire_copies : {E : Type 0} (D : TablesData) (e : EntryData) (change : AcquireChange) (answer : Result (Option Reply) E) (m : ℤ) → acquire_prepares D e change → m ≡ recorded_moment D.tables e.at
    → ((T : SchedulerTables) → IfOk answer (λ copy. CopiesReply copy (committed T m change))) → IfOk answer (λ copy. CopiesReply copy (transaction D.tables e))
acquire_copies D e change answer m ready moment copied =
    subst (λ (o : Outcome). IfOk answer (λ copy. CopiesReply copy o)) (ap (λ (x : ℤ). committed D.tables x change) moment ∙ sym ready.outcome) (copied D.tables)

-- Commands on members.

joined-of_numbers : (T : SchedulerTables) (m : ℤ) (node : List ℕ) (o : Option MemberData) → CopiesReply None (joined T m node o)
joined-of_numbers T m node None = refl
joined-of_numbers T m node (Some member) = refl

leave-of_numbers : (T : SchedulerTables) (m : ℤ) (actor : Actor) → CopiesReply None (as_node actor (λ me. leave T m me))
leave-of_numbers T m Client = tt
leave-of_numbers T m (Node me) = copies-unless None (or_refusal (node_refusal T me) (leave_refusal T me)) _ refl

recover_member-of_numbers : (T : SchedulerTables) (m : ℤ) (o : Option MemberData) → CopiesReply None (recover_member T m o)
recover_member-of_numbers T m None = tt
recover_member-of_numbers T m (Some member) = copies-unless None (recovery_refusal T member) _ refl

recover-of_numbers : (T : SchedulerTables) (m : ℤ) (node : List ℕ) (actor : Actor) → CopiesReply None (as_node actor (λ me. recover T m me node))
recover-of_numbers T m node Client = tt
recover-of_numbers T m node (Node me) = copies-unless None (node_refusal T me) _ (recover_member-of_numbers T m (member_of node T.members))

-- the reply to such a command
at_command : (D : TablesData) (e : EntryData) (c : Command) → e.command ≡ c → CopiesReply None (by_command D.tables (recorded_moment D.tables e.at) e.actor c) → CopiesReply None (transaction D.tables e)
at_command D e c command is = subst (λ (x : Command). CopiesReply None (by_command D.tables (recorded_moment D.tables e.at) e.actor x)) (sym command) is

pub recover_of_numbers : (D : TablesData) (e : EntryData) (c : RecoverChange) → recover_prepares D e c → CopiesReply None (transaction D.tables e)
recover_of_numbers D e (change.Join name former) ready =
    at_command D e (Join name) ready.change.command (copies-unless None (join_refusal D.tables (member_of name D.tables.members)) _ (joined-of_numbers D.tables (recorded_moment D.tables e.at) name (member_of name D.tables.members)))
recover_of_numbers D e change.Leave ready = at_command D e Leave ready.change (leave-of_numbers D.tables (recorded_moment D.tables e.at) e.actor)
recover_of_numbers D e (change.Recover r) ready =
    at_command D e (Recover ready.change.node) ready.change.command (recover-of_numbers D.tables (recorded_moment D.tables e.at) ready.change.node e.actor)

-- Complete.

pub complete_of_numbers : (T : SchedulerTables) (e : EntryData) (c : CompleteChange) → complete_prepares T e c → CopiesReply None (transaction T e)
complete_of_numbers T e (GoOn entry) ready = subst (CopiesReply None) (sym ready) refl
complete_of_numbers T e (End entry code) ready = subst (CopiesReply None) (sym ready) refl
