-- What each accepted entry does, by cases on its command.
use Rattle.std.proofs.Common.{◌≡◌, ℤ, refl}
use Rattle.qz_types.specs.Entries.{EntryData}
use Rattle.qz_types.specs.declared.commands.Command.{Command}
use Rattle.qz_types.specs.declared.commands.Command.TheVariants.{AddJob, DeleteJob, AddTrigger, DeleteTrigger, PauseTrigger, ResumeTrigger, PauseGroup, ResumeGroup, AddCalendar, DeleteCalendar, AddZone, DeleteZone, TriggerNow, Threshold, Join, Leave, Acquire, Release, Fire, Complete, Misfires, Recover, Upgrade, ResetTrigger, PauseJobGroup, ResumeJobGroup}
use Rattle.qz_types.specs.declared.commands.Actor.{Actor}
use Rattle.qz_types.specs.declared.commands.Actor.TheVariants.{Client, Node}
use Rattle.qz_types.specs.declared.replies.Reply.{Reply}
use Rattle.qz_types.specs.Tables.{SchedulerTables, recorded_moment}
use Rattle.qz_types.specs.Outcomes.{accepted}
use Rattle.qz_model.specs.Invariant.{TablesValid}
use Rattle.qz_model.specs.Transaction.{by_command, transaction}
use Rattle.qz_laws.proofs.Facts.{EntryFacts}
use Rattle.qz_laws.proofs.Quiet.{quiet_facts}
use Rattle.qz_laws.proofs.QuietClients.{quiet-add_job, quiet-delete_job, quiet-add_trigger, quiet-delete_trigger, quiet-trigger_now, quiet-set_threshold, quiet-pause_trigger, quiet-resume_trigger, quiet-pause_group, quiet-resume_group, quiet-pause_job_group, quiet-resume_job_group, quiet-reset_trigger, quiet-upgrade, quiet-add_calendar, quiet-delete_calendar, quiet-add_zone, quiet-delete_zone}
use Rattle.qz_laws.proofs.QuietNodes.{quiet-acquire, quiet-release, quiet-fire, quiet-complete, quiet-misfires, quiet-leave}
use Rattle.qz_laws.proofs.Recovered.{facts-recover, facts-join}

facts-by_command : (T T' : SchedulerTables) (m : ℤ) (actor : Actor) (c : Command) (r : Reply) → TablesValid T → by_command T m actor c ≡ accepted T' r → EntryFacts T c r T'
facts-by_command T T' m actor (AddJob job replace) r valid e = quiet_facts T r T' (AddJob job replace) refl (quiet-add_job T T' m job replace r valid e)
facts-by_command T T' m actor (DeleteJob key) r valid e = quiet_facts T r T' (DeleteJob key) refl (quiet-delete_job T T' m key r valid e)
facts-by_command T T' m actor (AddTrigger spec replace) r valid e = quiet_facts T r T' (AddTrigger spec replace) refl (quiet-add_trigger T T' m spec replace r valid e)
facts-by_command T T' m actor (DeleteTrigger key) r valid e = quiet_facts T r T' (DeleteTrigger key) refl (quiet-delete_trigger T T' m key r valid e)
facts-by_command T T' m actor (PauseTrigger key) r valid e = quiet_facts T r T' (PauseTrigger key) refl (quiet-pause_trigger T T' m key r valid e)
facts-by_command T T' m actor (ResumeTrigger key) r valid e = quiet_facts T r T' (ResumeTrigger key) refl (quiet-resume_trigger T T' m key r valid e)
facts-by_command T T' m actor (PauseGroup group) r valid e = quiet_facts T r T' (PauseGroup group) refl (quiet-pause_group T T' m group r valid e)
facts-by_command T T' m actor (ResumeGroup group) r valid e = quiet_facts T r T' (ResumeGroup group) refl (quiet-resume_group T T' m group r valid e)
facts-by_command T T' m actor (AddCalendar calendar replace) r valid e = quiet_facts T r T' (AddCalendar calendar replace) refl (quiet-add_calendar T T' m calendar replace r valid e)
facts-by_command T T' m actor (DeleteCalendar name) r valid e = quiet_facts T r T' (DeleteCalendar name) refl (quiet-delete_calendar T T' m name r valid e)
facts-by_command T T' m actor (AddZone zone) r valid e = quiet_facts T r T' (AddZone zone) refl (quiet-add_zone T T' m zone r valid e)
facts-by_command T T' m actor (DeleteZone name) r valid e = quiet_facts T r T' (DeleteZone name) refl (quiet-delete_zone T T' m name r valid e)
facts-by_command T T' m actor (TriggerNow job) r valid e = quiet_facts T r T' (TriggerNow job) refl (quiet-trigger_now T T' m job r valid e)
facts-by_command T T' m actor (Threshold ms) r valid e = quiet_facts T r T' (Threshold ms) refl (quiet-set_threshold T T' m ms r valid e)
facts-by_command T T' m actor (Join node) r valid e = facts-join T T' m node r valid e
facts-by_command T T' m Client Leave r valid e = absurd (cc)
facts-by_command T T' m (Node me) Leave r valid e = quiet_facts T r T' Leave refl (quiet-leave T T' m me r valid e)
facts-by_command T T' m Client (Acquire no_later window max) r valid e = absurd (cc)
facts-by_command T T' m (Node me) (Acquire no_later window max) r valid e = quiet_facts T r T' (Acquire no_later window max) refl (quiet-acquire T T' m me no_later window max r valid e)
facts-by_command T T' m Client (Release entry) r valid e = absurd (cc)
facts-by_command T T' m (Node me) (Release entry) r valid e = quiet_facts T r T' (Release entry) refl (quiet-release T T' m me entry r valid e)
facts-by_command T T' m Client (Fire entry) r valid e = absurd (cc)
facts-by_command T T' m (Node me) (Fire entry) r valid e = quiet_facts T r T' (Fire entry) refl (quiet-fire T T' m me entry r valid e)
facts-by_command T T' m Client (Complete entry code) r valid e = absurd (cc)
facts-by_command T T' m (Node me) (Complete entry code) r valid e = quiet_facts T r T' (Complete entry code) refl (quiet-complete T T' m me entry code r valid e)
facts-by_command T T' m Client Misfires r valid e = absurd (cc)
facts-by_command T T' m (Node me) Misfires r valid e = quiet_facts T r T' Misfires refl (quiet-misfires T T' m me r valid e)
facts-by_command T T' m Client (Recover node) r valid e = absurd (cc)
facts-by_command T T' m (Node me) (Recover node) r valid e = facts-recover T T' m me node r valid e
facts-by_command T T' m actor Upgrade r valid e = quiet_facts T r T' Upgrade refl (quiet-upgrade T T' m r valid e)
facts-by_command T T' m actor (ResetTrigger key) r valid e = quiet_facts T r T' (ResetTrigger key) refl (quiet-reset_trigger T T' m key r valid e)
facts-by_command T T' m actor (PauseJobGroup group) r valid e = quiet_facts T r T' (PauseJobGroup group) refl (quiet-pause_job_group T T' m group r valid e)
facts-by_command T T' m actor (ResumeJobGroup group) r valid e = quiet_facts T r T' (ResumeJobGroup group) refl (quiet-resume_job_group T T' m group r valid e)

pub facts : (T T' : SchedulerTables) (e : EntryData) (r : Reply) → TablesValid T → transaction T e ≡ accepted T' r → EntryFacts T e.command r T'
facts T T' e r valid way = facts-by_command T T' (recorded_moment T e.at) e.actor e.command r valid way
