-- What a line of `times` says, and which fault it has. It is read as a line of a script; of several faults NotHere comes
-- last.
use Rattle.std.specs.Prelude.{◌≡◌, ℕ, List, Bool, true, Option, Result, Ok, Err, IsOk}
use Rattle.serde_json.specs.Data.{Data}
use Rattle.qz_types.specs.Rows.{is_trigger_spec}
use Rattle.qz_types.specs.declared.commands.Command.{Command}
use Rattle.qz_types.specs.declared.commands.Command.TheVariants as command
use Rattle.qz_steps.specs.declared.steps.Step.{Step}
use Rattle.qz_steps.specs.declared.steps.Step.TheVariants as step
use Rattle.qz_job_json.specs.declared.asked.Asked.{Asked}
use Rattle.qz_job_json.specs.declared.asked.Asked.TheVariants.{AddZone, AddCalendar, AddTrigger}
use Rattle.qz_job_json.specs.declared.lines.Given.{Given}
use Rattle.qz_job_json.specs.declared.faults.LineError.{LineError}
use Rattle.qz_job_json.specs.declared.faults.LineError.TheVariants.{Bad, NoMemory}
use Rattle.qz_job_json.specs.declared.faults.LineFault.{LineFault}
use Rattle.qz_job_json.specs.declared.faults.LineFault.TheVariants.{NotHere}
use Rattle.qz_job_json.specs.Faults.{◌>>=◌}
use Rattle.qz_job_json.specs.Lines.{json_of, said_by, meaning_of_value}

-- the trigger is valid; a zone and a calendar always are
abbrev pub is_asked : Asked → Bool
is_asked (AddZone zone) = true
is_asked (AddCalendar calendar replace) = true
is_asked (AddTrigger spec) = is_trigger_spec spec

abbrev pub asked_of_command : Command → Result Asked LineFault
asked_of_command (command.AddZone zone) = Ok (AddZone zone)
asked_of_command (command.AddCalendar calendar replace) = Ok (AddCalendar calendar replace)
asked_of_command (command.AddTrigger spec replace) = Ok (AddTrigger spec)
asked_of_command other = Err NotHere

-- what a step asks for in `times`, where a trigger isn't stored and so replaces none
abbrev pub asked_of : Step → Result Asked LineFault
asked_of (step.Client command) = asked_of_command command
asked_of other = Err NotHere

-- what a line asks for that says this in a script; its reading of the clock has no meaning
abbrev pub asked_by : Result Given LineFault → Result Asked LineFault
asked_by given = given >>= λ g. asked_of g.step

abbrev pub asked_by_value : Data → Result Asked LineFault
asked_by_value d = asked_by (meaning_of_value d)

-- What a reader answers of it. Memory runs out only where the line is right as one of a script.
abbrev pub ReadsAskedAs : Result Asked LineError → Result Given LineFault → Type 0
ReadsAskedAs (Ok asked) given = asked_by given ≡ Ok asked
ReadsAskedAs (Err (Bad fault)) given = asked_by given ≡ Err fault
ReadsAskedAs (Err NoMemory) given = IsOk given

-- a line, without its line feed; Ok None is a blank line
abbrev pub asked_meaning : List ℕ → Result (Option Asked) LineFault
asked_meaning line = json_of line >>= λ value. said_by asked_by_value value
