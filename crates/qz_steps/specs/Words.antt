-- The words under which script lines and history lines name commands.
use Rattle.std.specs.Prelude.{ℕ, List, codes}
use Rattle.qz_types.specs.declared.commands.Command.{Command}
use Rattle.qz_types.specs.declared.commands.Command.TheVariants.{AddJob, DeleteJob, AddTrigger, DeleteTrigger, PauseTrigger, ResumeTrigger, PauseGroup, ResumeGroup, AddCalendar, DeleteCalendar, AddZone, DeleteZone, TriggerNow, Threshold, Join, Leave, Acquire, Release, Fire, Complete, Misfires, Recover, Upgrade, ResetTrigger, PauseJobGroup, ResumeJobGroup}

-- the word of the lines that ask for the command; no line asks for an Upgrade, which the word of a call does
abbrev pub word_of_command : Command → List ℕ
word_of_command (AddJob job replace) = codes "add_job"
word_of_command (DeleteJob key) = codes "delete_job"
word_of_command (AddTrigger spec replace) = codes "add_trigger"
word_of_command (DeleteTrigger key) = codes "delete_trigger"
word_of_command (PauseTrigger key) = codes "pause_trigger"
word_of_command (ResumeTrigger key) = codes "resume_trigger"
word_of_command (PauseGroup group) = codes "pause_group"
word_of_command (ResumeGroup group) = codes "resume_group"
word_of_command (AddCalendar calendar replace) = codes "add_calendar"
word_of_command (DeleteCalendar name) = codes "delete_calendar"
word_of_command (AddZone zone) = codes "add_zone"
word_of_command (DeleteZone name) = codes "delete_zone"
word_of_command (TriggerNow job) = codes "trigger_now"
word_of_command (Threshold ms) = codes "threshold"
word_of_command (Join node) = codes "join"
word_of_command Leave = codes "leave"
word_of_command (Acquire no_later window max) = codes "acquire"
word_of_command (Release entry) = codes "release"
word_of_command (Fire entry) = codes "fire"
word_of_command (Complete entry code) = codes "complete"
word_of_command Misfires = codes "misfires"
word_of_command (Recover node) = codes "recover"
word_of_command Upgrade = codes "migrate"
word_of_command (ResetTrigger key) = codes "reset_trigger"
word_of_command (PauseJobGroup group) = codes "pause_job_group"
word_of_command (ResumeJobGroup group) = codes "resume_job_group"
