-- An accepted transaction makes its recorded moment the last one.
use Rattle.std.proofs.Common.{◌≡◌, ℕ, ℤ, List, refl, subst}
use Rattle.std.specs.Prelude.{⊤, Option, Some, None}
use Rattle.qz_types.specs.Rows.{FiredData, JobData, MemberData}
use Rattle.qz_types.specs.Entries.{EntryData}
use Rattle.qz_types.specs.declared.commands.Code.{Code}
use Rattle.qz_types.specs.declared.commands.Code.TheVariants.{Noop, ReExecuteJob, SetTriggerComplete, DeleteTrigger, SetAllJobTriggersComplete, SetTriggerError, SetAllJobTriggersError}
use Rattle.qz_types.specs.declared.commands.Command.{Command}
use Rattle.qz_types.specs.declared.commands.Command.TheVariants as command
use Rattle.qz_types.specs.declared.commands.Actor.{Actor}
use Rattle.qz_types.specs.declared.commands.Actor.TheVariants.{Client, Node}
use Rattle.qz_types.specs.declared.replies.Reply.{Reply}
use Rattle.qz_types.specs.declared.replies.Refusal.{Refusal}
use Rattle.qz_types.specs.Tables.{SchedulerTables, recorded_moment}
use Rattle.qz_types.specs.Outcomes.{Outcome, accepted, refused, unless}
use Rattle.qz_types.specs.Words.{job_of, trigger_of, fired_of, member_of}
use Rattle.qz_model.specs.Transaction.{by_command, transaction}
use Rattle.qz_model.specs.Acquiring.{acquire_refusal, acquired_refusal, release_row}
use Rattle.qz_model.specs.Calendars.{add_calendar_refusal, delete_calendar_refusal, add_zone_refusal, delete_zone_refusal}
use Rattle.qz_model.specs.Completing.{complete_refusal, complete_one, complete_row}
use Rattle.qz_model.specs.Firing.{fire_refusal, with_begun, fire_one, fire_row}
use Rattle.qz_model.specs.Jobs.{add_job_refusal, unknown_job}
use Rattle.qz_model.specs.Membership.{node_refusal}
use Rattle.qz_model.specs.Resetting.{reset_refusal}
use Rattle.qz_model.specs.Upgrading.{upgrade_refusal}
use Rattle.qz_model.specs.Pausing.{pause_job_group_refusal, pause_group_refusal}
use Rattle.qz_model.specs.Recovery.{recovery_refusal, recover_member, join_refusal, joined, leave_refusal}
use Rattle.qz_model.specs.Tests.{or_refusal}
use Rattle.qz_model.specs.Triggers.{add_trigger_refusal, unknown_trigger, trigger_now_refusal}

-- if it is accepted, this is the last moment
abbrev pub Records : ℤ → Outcome → Type 0
Records m (accepted T r) = T.last_moment ≡ m
Records m (refused x) = ⊤

unless-records : (m : ℤ) (x : Option Refusal) (o : Outcome) → Records m o → Records m (unless x o)
unless-records m None o is = is
unless-records m (Some x) o is = tt

joined-records : (T : SchedulerTables) (m : ℤ) (node : List ℕ) (member : Option MemberData) → Records m (joined T m node member)
joined-records T m node None = refl
joined-records T m node (Some member) = refl

recover_member-records : (T : SchedulerTables) (m : ℤ) (member : Option MemberData) → Records m (recover_member T m member)
recover_member-records T m None = tt
recover_member-records T m (Some member) = unless-records m (recovery_refusal T member) _ refl

release_row-records : (T : SchedulerTables) (m : ℤ) (me : MemberData) (f : Option FiredData) → Records m (release_row T m me f)
release_row-records T m me None = tt
release_row-records T m me (Some f) = unless-records m (acquired_refusal me f) _ refl

fire_one-records : (T : SchedulerTables) (m : ℤ) (f : FiredData) (job : JobData) (next : Option ℤ) → Records m (fire_one T m f job next)
unfolding with_begun
fire_one-records T m f job next = refl

fire_row-records : (T : SchedulerTables) (m : ℤ) (me : MemberData) (f : Option FiredData) → Records m (fire_row T m me f)
fire_row-records T m me None = tt
fire_row-records T m me (Some f) = unless-records m (fire_refusal T m me f) _ (fire_one-records T m f _ _)

complete_one-records : (T : SchedulerTables) (m : ℤ) (f : FiredData) (code : Code) → Records m (complete_one T m f code)
complete_one-records T m f Noop = refl
complete_one-records T m f ReExecuteJob = refl
complete_one-records T m f SetTriggerComplete = refl
complete_one-records T m f DeleteTrigger = refl
complete_one-records T m f SetAllJobTriggersComplete = refl
complete_one-records T m f SetTriggerError = refl
complete_one-records T m f SetAllJobTriggersError = refl

complete_row-records : (T : SchedulerTables) (m : ℤ) (me : MemberData) (f : Option FiredData) (code : Code) → Records m (complete_row T m me f code)
complete_row-records T m me None code = tt
complete_row-records T m me (Some f) code = unless-records m (complete_refusal me f) _ (complete_one-records T m f code)

by_command-records : (T : SchedulerTables) (m : ℤ) (actor : Actor) (c : Command) → Records m (by_command T m actor c)
by_command-records T m actor (command.AddJob job replace) = unless-records m (add_job_refusal T job replace) _ refl
by_command-records T m actor (command.DeleteJob key) = unless-records m (unknown_job (job_of key T.jobs)) _ refl
by_command-records T m actor (command.AddTrigger spec replace) = unless-records m (add_trigger_refusal T spec replace) _ refl
by_command-records T m actor (command.DeleteTrigger key) = unless-records m (unknown_trigger (trigger_of key T.triggers)) _ refl
by_command-records T m actor (command.PauseTrigger key) = unless-records m (unknown_trigger (trigger_of key T.triggers)) _ refl
by_command-records T m actor (command.ResumeTrigger key) = unless-records m (unknown_trigger (trigger_of key T.triggers)) _ refl
by_command-records T m actor (command.PauseGroup group) = unless-records m (pause_group_refusal T group) _ refl
by_command-records T m actor (command.ResumeGroup group) = refl
by_command-records T m actor (command.AddCalendar calendar replace) = unless-records m (add_calendar_refusal T calendar replace) _ refl
by_command-records T m actor (command.DeleteCalendar name) = unless-records m (delete_calendar_refusal T name) _ refl
by_command-records T m actor (command.AddZone zone) = unless-records m (add_zone_refusal T zone) _ refl
by_command-records T m actor (command.DeleteZone name) = unless-records m (delete_zone_refusal T name) _ refl
by_command-records T m actor (command.TriggerNow job) = unless-records m (trigger_now_refusal T job) _ refl
by_command-records T m actor (command.Threshold ms) = refl
by_command-records T m actor command.Upgrade = unless-records m (upgrade_refusal T) _ refl
by_command-records T m actor (command.ResetTrigger key) = unless-records m (reset_refusal (trigger_of key T.triggers)) _ refl
by_command-records T m actor (command.PauseJobGroup group) = unless-records m (pause_job_group_refusal T group) _ refl
by_command-records T m actor (command.ResumeJobGroup group) = refl
by_command-records T m actor (command.Join node) =
    unless-records m (join_refusal T (member_of node T.members)) _ (joined-records T m node (member_of node T.members))
by_command-records T m Client command.Leave = tt
by_command-records T m (Node me) command.Leave = unless-records m (or_refusal (node_refusal T me) (leave_refusal T me)) _ refl
by_command-records T m Client (command.Acquire no_later window max) = tt
by_command-records T m (Node me) (command.Acquire no_later window max) = unless-records m (or_refusal (node_refusal T me) (acquire_refusal T max)) _ refl
by_command-records T m Client (command.Release entry) = tt
by_command-records T m (Node me) (command.Release entry) = unless-records m (node_refusal T me) _ (release_row-records T m me (fired_of entry T.fired))
by_command-records T m Client (command.Fire entry) = tt
by_command-records T m (Node me) (command.Fire entry) = unless-records m (node_refusal T me) _ (fire_row-records T m me (fired_of entry T.fired))
by_command-records T m Client (command.Complete entry code) = tt
by_command-records T m (Node me) (command.Complete entry code) = unless-records m (node_refusal T me) _ (complete_row-records T m me (fired_of entry T.fired) code)
by_command-records T m Client command.Misfires = tt
by_command-records T m (Node me) command.Misfires = unless-records m (node_refusal T me) _ refl
by_command-records T m Client (command.Recover node) = tt
by_command-records T m (Node me) (command.Recover node) = unless-records m (node_refusal T me) _ (recover_member-records T m (member_of node T.members))

pub last_moment-accepted : (T T' : SchedulerTables) (e : EntryData) (r : Reply) → transaction T e ≡ accepted T' r → T'.last_moment ≡ recorded_moment T e.at
last_moment-accepted T T' e r way = subst (Records (recorded_moment T e.at)) way (by_command-records T (recorded_moment T e.at) e.actor e.command)
