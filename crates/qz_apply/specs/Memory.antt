-- Which commands take memory.
use Rattle.std.specs.Prelude.{Bool, true, false}
use Rattle.qz_types.specs.declared.commands.Command.{Command}
use Rattle.qz_types.specs.declared.commands.Command.TheVariants.{DeleteJob, DeleteTrigger, PauseTrigger, ResumeTrigger, ResumeGroup, DeleteCalendar, DeleteZone, Threshold, Leave, Release, Complete, Upgrade, ResetTrigger, ResumeJobGroup}

-- the command copies something or adds a row, so memory may run out for it
abbrev pub takes_memory : Command → Bool
takes_memory (DeleteJob key) = false
takes_memory (DeleteTrigger key) = false
takes_memory (PauseTrigger key) = false
takes_memory (ResumeTrigger key) = false
takes_memory (ResumeGroup group) = false
takes_memory (DeleteCalendar name) = false
takes_memory (DeleteZone name) = false
takes_memory (Threshold ms) = false
takes_memory Leave = false
takes_memory (Release entry) = false
takes_memory (Complete entry code) = false
takes_memory Upgrade = false
takes_memory (ResetTrigger key) = false
takes_memory (ResumeJobGroup group) = false
takes_memory command = true
