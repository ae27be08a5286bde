-- What each accepted entry does to the trigger of a key, by cases on its command.
use Rattle.std.proofs.Common.{◌≡◌, ◌⊎◌, inl, inr, ℤ, false, None}
use Rattle.qz_types.specs.Entries.{EntryData}
use Rattle.qz_types.specs.declared.keys.Key.{Key}
use Rattle.qz_types.specs.declared.commands.Command.{Command}
use Rattle.qz_types.specs.declared.commands.Command.TheVariants.{AddJob, DeleteJob, AddTrigger, DeleteTrigger, PauseTrigger, ResumeTrigger, PauseGroup, ResumeGroup, AddCalendar, DeleteCalendar, AddZone, DeleteZone, TriggerNow, Threshold, Join, Leave, Acquire, Release, Fire, Complete, Misfires, Recover, Upgrade, ResetTrigger, PauseJobGroup, ResumeJobGroup}
use Rattle.qz_types.specs.declared.commands.Actor.{Actor}
use Rattle.qz_types.specs.declared.commands.Actor.TheVariants.{Client, Node}
use Rattle.qz_types.specs.declared.replies.Reply.{Reply}
use Rattle.qz_types.specs.Tables.{SchedulerTables, IsMoment, recorded_moment}
use Rattle.qz_types.specs.Outcomes.{accepted}
use Rattle.qz_types.specs.Words.{trigger_of}
use Rattle.qz_model.specs.Invariant.{TablesValid}
use Rattle.qz_model.specs.Transaction.{by_command, transaction}
use Rattle.qz_model.proofs.Changes.{moment_within}
use Rattle.qz_model.specs.Upgrading.{is_upgrade}
use Rattle.qz_schedule_law.specs.Undisturbed.{is_replaced}
use Rattle.qz_schedule_law.proofs.Clients.{facts-add_job, facts-delete_job, facts-add_trigger, facts-delete_trigger, facts-trigger_now, facts-set_threshold, facts-pause_trigger, facts-resume_trigger, facts-pause_group, facts-resume_group, facts-pause_job_group, facts-resume_job_group, facts-reset_trigger}
use Rattle.qz_schedule_law.proofs.Fires.{facts-fire}
use Rattle.qz_schedule_law.proofs.Nodes.{IsUnlisted, facts-acquire, facts-release, facts-complete, facts-misfires, facts-leave}
use Rattle.qz_schedule_law.proofs.Plans.{facts-add_calendar, facts-delete_calendar, facts-add_zone, facts-delete_zone}
use Rattle.qz_schedule_law.proofs.Recoveries.{facts-recover, facts-join}
use Rattle.qz_schedule_law.proofs.Stays.{TurnFacts}
use Rattle.qz_schedule_law.proofs.Upgrades.{facts-upgrade}

-- the command moves no horizon, or the key wasn't even stored
abbrev pub IsSteady : SchedulerTables → Key → Command → Type 0
IsSteady T key c = (is_upgrade c ≡ false) ⊎ (trigger_of key T.triggers ≡ None)

unstored : (T : SchedulerTables) (key : Key) → IsSteady T key Upgrade → trigger_of key T.triggers ≡ None
unstored T key (inl kept) = absurd (cc)
unstored T key (inr absent) = absent

facts-by_command : (T T' : SchedulerTables) (key : Key) (m : ℤ) (actor : Actor) (c : Command) (r : Reply) → TablesValid T → IsMoment T.horizon m → is_replaced key c ≡ false → IsUnlisted T key r → IsSteady T key c → by_command T m actor c ≡ accepted T' r → TurnFacts T key c r T'
facts-by_command T T' key m actor (AddJob job replace) r valid is kept on_time steady e = facts-add_job T T' key _ m job replace r valid e
facts-by_command T T' key m actor (DeleteJob job) r valid is kept on_time steady e = facts-delete_job T T' key _ m job r valid e
facts-by_command T T' key m actor (AddTrigger spec replace) r valid is kept on_time steady e = facts-add_trigger T T' key _ m spec replace r valid kept e
facts-by_command T T' key m actor (DeleteTrigger k) r valid is kept on_time steady e = facts-delete_trigger T T' key _ m k r valid e
facts-by_command T T' key m actor (PauseTrigger k) r valid is kept on_time steady e = facts-pause_trigger T T' key _ m k r valid e
facts-by_command T T' key m actor (ResumeTrigger k) r valid is kept on_time steady e = facts-resume_trigger T T' key _ m k r valid e
facts-by_command T T' key m actor (PauseGroup group) r valid is kept on_time steady e = facts-pause_group T T' key _ m group r valid e
facts-by_command T T' key m actor (ResumeGroup group) r valid is kept on_time steady e = facts-resume_group T T' key _ m group r valid e
facts-by_command T T' key m actor (AddCalendar calendar replace) r valid is kept on_time steady e = facts-add_calendar T T' key m calendar replace r valid e
facts-by_command T T' key m actor (DeleteCalendar name) r valid is kept on_time steady e = facts-delete_calendar T T' key m name r valid e
facts-by_command T T' key m actor (AddZone zone) r valid is kept on_time steady e = facts-add_zone T T' key m zone r valid e
facts-by_command T T' key m actor (DeleteZone name) r valid is kept on_time steady e = facts-delete_zone T T' key m name r valid e
facts-by_command T T' key m actor (TriggerNow job) r valid is kept on_time steady e = facts-trigger_now T T' key _ m job r valid is e
facts-by_command T T' key m actor (Threshold ms) r valid is kept on_time steady e = facts-set_threshold T T' key _ m ms r valid e
facts-by_command T T' key m actor (Join node) r valid is kept on_time steady e = facts-join T T' key _ m node r valid e
facts-by_command T T' key m Client Leave r valid is kept on_time steady e = absurd (cc)
facts-by_command T T' key m (Node me) Leave r valid is kept on_time steady e = facts-leave T T' key _ m me r valid e
facts-by_command T T' key m Client (Acquire no_later window max) r valid is kept on_time steady e = absurd (cc)
facts-by_command T T' key m (Node me) (Acquire no_later window max) r valid is kept on_time steady e = facts-acquire T T' key _ m me no_later window max r valid e
facts-by_command T T' key m Client (Release entry) r valid is kept on_time steady e = absurd (cc)
facts-by_command T T' key m (Node me) (Release entry) r valid is kept on_time steady e = facts-release T T' key _ m me entry r valid e
facts-by_command T T' key m Client (Fire entry) r valid is kept on_time steady e = absurd (cc)
facts-by_command T T' key m (Node me) (Fire entry) r valid is kept on_time steady e = facts-fire T T' key _ m me entry r valid e
facts-by_command T T' key m Client (Complete entry code) r valid is kept on_time steady e = absurd (cc)
facts-by_command T T' key m (Node me) (Complete entry code) r valid is kept on_time steady e = facts-complete T T' key _ m me entry code r valid e
facts-by_command T T' key m Client Misfires r valid is kept on_time steady e = absurd (cc)
facts-by_command T T' key m (Node me) Misfires r valid is kept on_time steady e = facts-misfires T T' key _ m me r valid on_time e
facts-by_command T T' key m Client (Recover node) r valid is kept on_time steady e = absurd (cc)
facts-by_command T T' key m (Node me) (Recover node) r valid is kept on_time steady e = facts-recover T T' key _ m me node r valid e
facts-by_command T T' key m actor Upgrade r valid is kept on_time steady e = facts-upgrade T T' key m r (unstored T key steady) e
facts-by_command T T' key m actor (ResetTrigger k) r valid is kept on_time steady e = facts-reset_trigger T T' key _ m k r valid e
facts-by_command T T' key m actor (PauseJobGroup group) r valid is kept on_time steady e = facts-pause_job_group T T' key _ m group r valid e
facts-by_command T T' key m actor (ResumeJobGroup group) r valid is kept on_time steady e = facts-resume_job_group T T' key _ m group r valid e

pub facts : (T T' : SchedulerTables) (key : Key) (e : EntryData) (r : Reply) → TablesValid T → is_replaced key e.command ≡ false → IsUnlisted T key r → IsSteady T key e.command → transaction T e ≡ accepted T' r → TurnFacts T key e.command r T'
facts T T' key e r valid kept on_time steady way = facts-by_command T T' key (recorded_moment T e.at) e.actor e.command r valid (moment_within T e.at valid.next_times.moment) kept on_time steady way
