-- The line of a transaction: the line of a script that asks for it once more, at its recorded moment. Of an Upgrade it is one that
-- no script has.
use Rattle.std.specs.Prelude.{ℕ, ℤ, pos, List, [], ◌∷◌, ◌++◌, Bool, codes}
use Rattle.std.specs.Fmt.{decimal, signed_decimal}
use Rattle.qz_types.specs.Entries.{EntryData}
use Rattle.qz_types.specs.declared.commands.Actor.{Actor}
use Rattle.qz_types.specs.declared.commands.Actor.TheVariants as actor
use Rattle.qz_types.specs.declared.commands.Code.{Code}
use Rattle.qz_types.specs.declared.commands.Code.TheVariants as code
use Rattle.qz_types.specs.declared.commands.Command.{Command}
use Rattle.qz_types.specs.declared.commands.Command.TheVariants.{AddJob, DeleteJob, AddTrigger, DeleteTrigger, PauseTrigger, ResumeTrigger, PauseGroup, ResumeGroup, AddCalendar, DeleteCalendar, AddZone, DeleteZone, TriggerNow, Threshold, Join, Leave, Acquire, Release, Fire, Complete, Misfires, Recover, Upgrade, ResetTrigger, PauseJobGroup, ResumeJobGroup}
use Rattle.qz_types.specs.declared.keys.Key.{Key}
use Rattle.qz_steps.specs.Words.{word_of_command}
use Rattle.qz_json_rows.specs.Json.{label, more, more_number, more_set, plain, quoted}
use Rattle.qz_json_rows.specs.Jobs.{job_text, key_members}
use Rattle.qz_json_rows.specs.Calendars.{calendar_text}
use Rattle.qz_json_rows.specs.Triggers.{trigger_text}
use Rattle.qz_json_rows.specs.Zones.{zone_members}

-- the code under which an execution ends
abbrev pub code_word : Code → List ℕ
code_word code.Noop = codes "NOOP"
code_word code.ReExecuteJob = codes "RE_EXECUTE_JOB"
code_word code.SetTriggerComplete = codes "SET_TRIGGER_COMPLETE"
code_word code.DeleteTrigger = codes "DELETE_TRIGGER"
code_word code.SetAllJobTriggersComplete = codes "SET_ALL_JOB_TRIGGERS_COMPLETE"
code_word code.SetTriggerError = codes "SET_TRIGGER_ERROR"
code_word code.SetAllJobTriggersError = codes "SET_ALL_JOB_TRIGGERS_ERROR"

-- usually NOOP
abbrev pub more_code : Code → List ℕ
more_code code.Noop = []
more_code c = more (codes "code") (plain (code_word c))

-- the node whose transaction it is
abbrev pub actor_member : Actor → List ℕ
actor_member actor.Client = []
actor_member (actor.Node member) = more (codes "node") (quoted member.node)

unfoldable pub key_of_line : Key → List ℕ
key_of_line key = 44 ∷ key_members key

unfoldable pub replacing : List ℕ → List ℕ → Bool → List ℕ
replacing name value replace = more name value ++ more_set (codes "replace") replace

unfoldable pub acquiring : ℤ → ℤ → ℕ → List ℕ
acquiring no_later window max =
    more (codes "no_later") (signed_decimal no_later) ++ more_number (codes "window") (pos 0) window
    ++ more_number (codes "max") (pos 1) (pos max)

unfoldable pub entry_member : ℕ → List ℕ
entry_member entry = more (codes "entry") (decimal entry)

-- what the line has beside its moment, its word and its node
abbrev pub command_members : Command → List ℕ
command_members (AddJob job replace) = replacing (codes "job") (job_text job) replace
command_members (DeleteJob key) = key_of_line key
command_members (AddTrigger spec replace) = replacing (codes "trigger") (trigger_text spec) replace
command_members (DeleteTrigger key) = key_of_line key
command_members (PauseTrigger key) = key_of_line key
command_members (ResumeTrigger key) = key_of_line key
command_members (PauseGroup group) = more (codes "group") (quoted group)
command_members (ResumeGroup group) = more (codes "group") (quoted group)
command_members (AddCalendar calendar replace) = replacing (codes "calendar") (calendar_text calendar) replace
command_members (DeleteCalendar name) = more (codes "name") (quoted name)
command_members (AddZone zone) = 44 ∷ zone_members zone
command_members (DeleteZone name) = more (codes "name") (quoted name)
command_members (TriggerNow job) = key_of_line job
command_members (Threshold ms) = more (codes "ms") (signed_decimal ms)
command_members (Join node) = more (codes "node") (quoted node)
command_members Leave = []
command_members (Acquire no_later window max) = acquiring no_later window max
command_members (Release entry) = entry_member entry
command_members (Fire entry) = entry_member entry
command_members (Complete entry code) = entry_member entry ++ more_code code
command_members Misfires = []
command_members (Recover node) = more (codes "failed") (quoted node)
command_members Upgrade = []
command_members (ResetTrigger key) = key_of_line key
command_members (PauseJobGroup group) = more (codes "group") (quoted group)
command_members (ResumeJobGroup group) = more (codes "group") (quoted group)

-- the moment and the word
unfoldable pub line_head : ℤ → Command → List ℕ
line_head moment command = label (codes "at") ++ signed_decimal moment ++ more (codes "do") (plain (word_of_command command))

-- the line, without a line feed
unfoldable pub line_text : ℤ → EntryData → List ℕ
line_text moment e = 123 ∷ line_head moment e.command ++ actor_member e.actor ++ command_members e.command ++ 125 ∷ []
