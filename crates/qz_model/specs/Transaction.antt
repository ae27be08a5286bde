-- One transaction of the trigger store, by cases on its command.
use Rattle.std.specs.Prelude.{ℤ, None}
use Rattle.qz_types.specs.Rows.{MemberData}
use Rattle.qz_types.specs.Entries.{EntryData}
use Rattle.qz_types.specs.declared.commands.Command.{Command}
use Rattle.qz_types.specs.declared.commands.Command.TheVariants.{AddJob, DeleteJob, AddTrigger, DeleteTrigger, PauseTrigger, ResumeTrigger, PauseGroup, ResumeGroup, AddCalendar, DeleteCalendar, AddZone, DeleteZone, TriggerNow, Threshold, Join, Leave, Acquire, Release, Fire, Complete, Misfires, Recover, Upgrade, ResetTrigger, PauseJobGroup, ResumeJobGroup}
use Rattle.qz_types.specs.declared.commands.Actor.{Actor}
use Rattle.qz_types.specs.declared.commands.Actor.TheVariants.{Client, Node}
use Rattle.qz_types.specs.declared.replies.Refusal.TheVariants.{Fenced}
use Rattle.qz_types.specs.Tables.{SchedulerTables, recorded_moment}
use Rattle.qz_types.specs.Outcomes.{Outcome, refused}
use Rattle.qz_model.specs.Acquiring.{acquire, release}
use Rattle.qz_model.specs.Calendars.{add_calendar, delete_calendar, add_zone, delete_zone}
use Rattle.qz_model.specs.Completing.{complete}
use Rattle.qz_model.specs.Firing.{fire}
use Rattle.qz_model.specs.Jobs.{add_job, delete_job}
use Rattle.qz_model.specs.Misfires.{misfires}
use Rattle.qz_model.specs.Pausing.{pause_trigger, resume_trigger, pause_group, resume_group, pause_job_group, resume_job_group}
use Rattle.qz_model.specs.Recovery.{recover, join, leave}
use Rattle.qz_model.specs.Resetting.{reset_trigger}
use Rattle.qz_model.specs.Upgrading.{upgrade}
use Rattle.qz_model.specs.Triggers.{add_trigger, delete_trigger, trigger_now, set_threshold}

-- what a node does under its epoch; a client is no member
abbrev pub as_node : Actor → (MemberData → Outcome) → Outcome
as_node Client does = refused (Fenced None)
as_node (Node me) does = does me

-- The transaction at the recorded moment m.
abbrev pub by_command : SchedulerTables → ℤ → Actor → Command → Outcome
by_command T m actor (AddJob job replace) = add_job T m job replace
by_command T m actor (DeleteJob key) = delete_job T m key
by_command T m actor (AddTrigger spec replace) = add_trigger T m spec replace
by_command T m actor (DeleteTrigger key) = delete_trigger T m key
by_command T m actor (PauseTrigger key) = pause_trigger T m key
by_command T m actor (ResumeTrigger key) = resume_trigger T m key
by_command T m actor (PauseGroup group) = pause_group T m group
by_command T m actor (ResumeGroup group) = resume_group T m group
by_command T m actor (AddCalendar calendar replace) = add_calendar T m calendar replace
by_command T m actor (DeleteCalendar name) = delete_calendar T m name
by_command T m actor (AddZone zone) = add_zone T m zone
by_command T m actor (DeleteZone name) = delete_zone T m name
by_command T m actor (TriggerNow job) = trigger_now T m job
by_command T m actor (Threshold ms) = set_threshold T m ms
by_command T m actor (Join node) = join T m node
by_command T m actor Leave = as_node actor (λ me. leave T m me)
by_command T m actor (Acquire no_later window max) = as_node actor (λ me. acquire T m me no_later window max)
by_command T m actor (Release entry) = as_node actor (λ me. release T m me entry)
by_command T m actor (Fire entry) = as_node actor (λ me. fire T m me entry)
by_command T m actor (Complete entry code) = as_node actor (λ me. complete T m me entry code)
by_command T m actor Misfires = as_node actor (λ me. misfires T m me)
by_command T m actor (Recover node) = as_node actor (λ me. recover T m me node)
by_command T m actor Upgrade = upgrade T m
by_command T m actor (ResetTrigger key) = reset_trigger T m key
by_command T m actor (PauseJobGroup group) = pause_job_group T m group
by_command T m actor (ResumeJobGroup group) = resume_job_group T m group

-- what the entry comes to at these tables
abbrev pub transaction : SchedulerTables → EntryData → Outcome
transaction T e = by_command T (recorded_moment T e.at) e.actor e.command
