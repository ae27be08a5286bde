-- What each accepted entry does to executions, by cases on its command.
use Rattle.std.proofs.Common.{◌≡◌, ℤ}
use Rattle.qz_types.specs.Entries.{EntryData}
use Rattle.qz_types.specs.declared.commands.Command.{Command}
use Rattle.qz_types.specs.declared.commands.Command.TheVariants.{AddJob, DeleteJob, AddTrigger, DeleteTrigger, PauseTrigger, ResumeTrigger, PauseGroup, ResumeGroup, AddCalendar, DeleteCalendar, AddZone, DeleteZone, TriggerNow, Threshold, Join, Leave, Acquire, Release, Fire, Complete, Misfires, Recover, Upgrade, ResetTrigger, PauseJobGroup, ResumeJobGroup}
use Rattle.qz_types.specs.declared.commands.Actor.{Actor}
use Rattle.qz_types.specs.declared.commands.Actor.TheVariants.{Client, Node}
use Rattle.qz_types.specs.declared.replies.Reply.{Reply}
use Rattle.qz_types.specs.Tables.{SchedulerTables, recorded_moment}
use Rattle.qz_types.specs.Outcomes.{accepted}
use Rattle.qz_model.specs.Invariant.{TablesValid}
use Rattle.qz_model.specs.Transaction.{by_command, transaction}
use Rattle.qz_open.proofs.Facts.{ExecutionFacts}
use Rattle.qz_open.proofs.Clients.{facts-add_job, facts-delete_job, facts-add_trigger, facts-delete_trigger, facts-trigger_now, facts-set_threshold, facts-pause_trigger, facts-resume_trigger, facts-pause_group, facts-resume_group, facts-pause_job_group, facts-resume_job_group, facts-reset_trigger, facts-upgrade, facts-add_calendar, facts-delete_calendar, facts-add_zone, facts-delete_zone}
use Rattle.qz_open.proofs.Nodes.{facts-acquire, facts-release, facts-fire, facts-complete, facts-misfires, facts-leave, facts-recover, facts-join}

facts-by_command : (T T' : SchedulerTables) (m : ℤ) (who : Actor) (c : Command) (r : Reply) → TablesValid T → by_command T m who c ≡ accepted T' r → ExecutionFacts T who c r T'
facts-by_command T T' m who (AddJob job replace) r valid e = facts-add_job T T' who _ r m job replace e
facts-by_command T T' m who (DeleteJob key) r valid e = facts-delete_job T T' who _ r m key e
facts-by_command T T' m who (AddTrigger spec replace) r valid e = facts-add_trigger T T' who _ r m spec replace e
facts-by_command T T' m who (DeleteTrigger key) r valid e = facts-delete_trigger T T' who _ r m key e
facts-by_command T T' m who (PauseTrigger key) r valid e = facts-pause_trigger T T' who _ r m key e
facts-by_command T T' m who (ResumeTrigger key) r valid e = facts-resume_trigger T T' who _ r m key e
facts-by_command T T' m who (PauseGroup group) r valid e = facts-pause_group T T' who _ r m group e
facts-by_command T T' m who (ResumeGroup group) r valid e = facts-resume_group T T' who _ r m group e
facts-by_command T T' m who (AddCalendar calendar replace) r valid e = facts-add_calendar T T' who _ r m calendar replace e
facts-by_command T T' m who (DeleteCalendar name) r valid e = facts-delete_calendar T T' who _ r m name e
facts-by_command T T' m who (AddZone zone) r valid e = facts-add_zone T T' who _ r m zone e
facts-by_command T T' m who (DeleteZone name) r valid e = facts-delete_zone T T' who _ r m name e
facts-by_command T T' m who (TriggerNow job) r valid e = facts-trigger_now T T' who _ r m job e
facts-by_command T T' m who (Threshold ms) r valid e = facts-set_threshold T T' who _ r m ms e
facts-by_command T T' m who Upgrade r valid e = facts-upgrade T T' who _ r m e
facts-by_command T T' m who (ResetTrigger key) r valid e = facts-reset_trigger T T' who _ r m key e
facts-by_command T T' m who (PauseJobGroup group) r valid e = facts-pause_job_group T T' who _ r m group e
facts-by_command T T' m who (ResumeJobGroup group) r valid e = facts-resume_job_group T T' who _ r m group e
facts-by_command T T' m who (Join node) r valid e = facts-join T T' who m node r e
facts-by_command T T' m Client Leave r valid e = absurd (cc)
facts-by_command T T' m (Node me) Leave r valid e = facts-leave T T' _ _ m me r e
facts-by_command T T' m Client (Acquire no_later window max) r valid e = absurd (cc)
facts-by_command T T' m (Node me) (Acquire no_later window max) r valid e = facts-acquire T T' _ _ m me r no_later window max e
facts-by_command T T' m Client (Release entry) r valid e = absurd (cc)
facts-by_command T T' m (Node me) (Release entry) r valid e = facts-release T T' _ _ m me r entry valid e
facts-by_command T T' m Client (Fire entry) r valid e = absurd (cc)
facts-by_command T T' m (Node me) (Fire entry) r valid e = facts-fire T T' _ m me entry r valid e
facts-by_command T T' m Client (Complete entry code) r valid e = absurd (cc)
facts-by_command T T' m (Node me) (Complete entry code) r valid e = facts-complete T T' m me entry code r e
facts-by_command T T' m Client Misfires r valid e = absurd (cc)
facts-by_command T T' m (Node me) Misfires r valid e = facts-misfires T T' _ _ m me r e
facts-by_command T T' m Client (Recover node) r valid e = absurd (cc)
facts-by_command T T' m (Node me) (Recover node) r valid e = facts-recover T T' m me node r e

pub facts : (T T' : SchedulerTables) (e : EntryData) (r : Reply) → TablesValid T → transaction T e ≡ accepted T' r → ExecutionFacts T e.actor e.command r T'
facts T T' e r valid way = facts-by_command T T' (recorded_moment T e.at) e.actor e.command r valid way
