-- The commands of lines, each by the line's own members. They are read in this order up to the first fault, and a cron text
-- last.
use Rattle.std.specs.Prelude.{ℕ, ℤ, pos, List, Option, Result, Ok, option_map, option_and_then, codes}
use Rattle.serde_json.specs.Data.{Data}
use Rattle.serde_json.specs.Find.{get, as_str}
use Rattle.qz_civil.specs.declared.limits.TheConstants.{LONGEST}
use Rattle.qz_types.specs.declared.commands.Code.{Code}
use Rattle.qz_types.specs.declared.commands.Code.TheVariants.{Noop}
use Rattle.qz_types.specs.declared.commands.Command.{Command}
use Rattle.qz_types.specs.declared.commands.Command.TheVariants as command
use Rattle.qz_types.specs.declared.keys.Key.{Key}
use Rattle.qz_types.specs.declared.limits.TheConstants.{ACQUIRE_LIMIT, INTERVAL_LIMIT}
use Rattle.qz_job_json.specs.declared.words.KeyWord.{KeyWord}
use Rattle.qz_job_json.specs.declared.words.KeyWord.TheVariants.{DeleteJob, DeleteTrigger, PauseTrigger, ResumeTrigger, ResetTrigger, TriggerNow}
use Rattle.qz_job_json.specs.declared.words.GroupWord.{GroupWord}
use Rattle.qz_job_json.specs.declared.words.GroupWord.TheVariants.{PauseGroup, ResumeGroup, PauseJobGroup, ResumeJobGroup}
use Rattle.qz_job_json.specs.declared.words.NameWord.{NameWord}
use Rattle.qz_job_json.specs.declared.words.NameWord.TheVariants.{DeleteCalendar, DeleteZone}
use Rattle.qz_job_json.specs.declared.words.ClientWord.{ClientWord}
use Rattle.qz_job_json.specs.declared.words.ClientWord.TheVariants.{AddJob, AddTrigger, AddCalendar, AddZone, OfKey, OfGroup, OfName, Threshold}
use Rattle.qz_job_json.specs.declared.words.NodeWord.{NodeWord}
use Rattle.qz_job_json.specs.declared.words.NodeWord.TheVariants.{Leave, Acquire, Release, Fire, Complete, Misfires, Recover}
use Rattle.qz_job_json.specs.declared.faults.LineFault.{LineFault}
use Rattle.qz_job_json.specs.Calendars.{calendar_by_kind}
use Rattle.qz_job_json.specs.Clocks.{number_to}
use Rattle.qz_job_json.specs.Faults.{◌>>=◌, or_shape}
use Rattle.qz_job_json.specs.Members.{said_or, name_at, node_at, number_at, span_at, integer_in, integer_or, flag_at}
use Rattle.qz_job_json.specs.Objects.{key_at, job_of}
use Rattle.qz_job_json.specs.Schedules.{trigger_by_kind}
use Rattle.qz_job_json.specs.Words.{code_of}
use Rattle.qz_job_json.specs.Zones.{zone_given}

-- What a client asks for.

unfoldable pub add_job : Data → Result Command LineFault
add_job d =
    or_shape (flag_at (codes "replace") d) >>= λ replace.
    or_shape (get (codes "job") d) >>= λ object.
    job_of object >>= λ job.
    Ok (command.AddJob job replace)

unfoldable pub add_trigger : Data → Result Command LineFault
add_trigger d =
    or_shape (flag_at (codes "replace") d) >>= λ replace.
    or_shape (get (codes "trigger") d) >>= λ object.
    trigger_by_kind object >>= λ spec.
    Ok (command.AddTrigger spec replace)

unfoldable pub add_calendar : Data → Result Command LineFault
add_calendar d =
    or_shape (flag_at (codes "replace") d) >>= λ replace.
    or_shape (get (codes "calendar") d) >>= λ object.
    calendar_by_kind object >>= λ calendar.
    Ok (command.AddCalendar calendar replace)

unfoldable pub add_zone : Data → Result Command LineFault
add_zone d =
    or_shape (name_at (codes "name") d) >>= λ name.
    or_shape (zone_given d) >>= λ stretches.
    Ok (command.AddZone (record { name = name; stretches = stretches }))

abbrev pub of_key : KeyWord → Key → Command
of_key DeleteJob key = command.DeleteJob key
of_key DeleteTrigger key = command.DeleteTrigger key
of_key PauseTrigger key = command.PauseTrigger key
of_key ResumeTrigger key = command.ResumeTrigger key
of_key ResetTrigger key = command.ResetTrigger key
of_key TriggerNow key = command.TriggerNow key

abbrev pub of_group : GroupWord → List ℕ → Command
of_group PauseGroup group = command.PauseGroup group
of_group ResumeGroup group = command.ResumeGroup group
of_group PauseJobGroup group = command.PauseJobGroup group
of_group ResumeJobGroup group = command.ResumeJobGroup group

abbrev pub of_name : NameWord → List ℕ → Command
of_name DeleteCalendar name = command.DeleteCalendar name
of_name DeleteZone name = command.DeleteZone name

-- a threshold, in ms
abbrev pub threshold_at : Data → Option ℤ
threshold_at d = option_and_then (integer_in (pos 1) INTERVAL_LIMIT) (get (codes "ms") d)

abbrev pub client_command : ClientWord → Data → Result Command LineFault
client_command AddJob d = add_job d
client_command AddTrigger d = add_trigger d
client_command AddCalendar d = add_calendar d
client_command AddZone d = add_zone d
client_command (OfKey what) d = or_shape (option_map (of_key what) (key_at (codes "group") (codes "name") d))
client_command (OfGroup what) d = or_shape (option_map (of_group what) (name_at (codes "group") d))
client_command (OfName what) d = or_shape (option_map (of_name what) (name_at (codes "name") d))
client_command Threshold d = or_shape (option_map command.Threshold (threshold_at d))

-- What a node does under its epoch.

-- how far past `no_later` a next time may lie, in ms
abbrev pub window_at : Data → Option ℤ
window_at d = integer_or (pos 0) LONGEST (pos 0) (codes "window") d

-- how many triggers are taken at most
abbrev pub max_at : Data → Option ℕ
max_at d = said_or 1 (number_to ACQUIRE_LIMIT) (get (codes "max") d)

abbrev pub code_in : Data → Option Code
code_in d = option_and_then code_of (as_str d)

abbrev pub code_at : Data → Option Code
code_at d = said_or Noop code_in (get (codes "code") d)

abbrev pub entry_at : Data → Option ℕ
entry_at d = number_at (codes "entry") d

unfoldable pub acquire : Data → Result Command LineFault
acquire d =
    or_shape (span_at (codes "no_later") d) >>= λ no_later.
    or_shape (window_at d) >>= λ window.
    or_shape (max_at d) >>= λ max.
    Ok (command.Acquire no_later window max)

unfoldable pub complete : Data → Result Command LineFault
complete d =
    or_shape (entry_at d) >>= λ entry.
    or_shape (code_at d) >>= λ code.
    Ok (command.Complete entry code)

abbrev pub node_command : NodeWord → Data → Result Command LineFault
node_command Leave d = Ok command.Leave
node_command Acquire d = acquire d
node_command Release d = or_shape (option_map command.Release (entry_at d))
node_command Fire d = or_shape (option_map command.Fire (entry_at d))
node_command Complete d = complete d
node_command Misfires d = Ok command.Misfires
node_command Recover d = or_shape (option_map command.Recover (node_at (codes "failed") d))
