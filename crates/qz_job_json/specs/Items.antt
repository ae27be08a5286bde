-- The items of a document: what it adds, each an object of its own. Such an object is the one in the line that adds the
-- same, and that of a zone has the line's name and stretches. No item replaces a stored one.
use Rattle.std.specs.Prelude.{ℕ, List, [], ◌∷◌, false, if◌then◌else◌, Result, Ok, Err, codes}
use Rattle.serde_json.specs.Data.{Data}
use Rattle.qz_types.specs.declared.commands.Command.{Command}
use Rattle.qz_types.specs.declared.commands.Command.TheVariants as command
use Rattle.qz_job_json.specs.declared.items.Item.{Item}
use Rattle.qz_job_json.specs.declared.items.Item.TheVariants.{Zone, Calendar, Job, Trigger}
use Rattle.qz_job_json.specs.declared.faults.LineFault.{LineFault}
use Rattle.qz_job_json.specs.declared.faults.LineFault.TheVariants.{Shape}
use Rattle.qz_job_json.specs.Calendars.{calendar_by_kind}
use Rattle.qz_job_json.specs.Commands.{add_zone}
use Rattle.qz_job_json.specs.Faults.{◌>>=◌}
use Rattle.qz_job_json.specs.Members.{has_only}
use Rattle.qz_job_json.specs.Objects.{job_of}
use Rattle.qz_job_json.specs.Schedules.{trigger_by_kind}

-- the members of a zone
abbrev pub zone_members : List (List ℕ)
zone_members = codes "name" ∷ codes "stretches" ∷ codes "rule" ∷ []

-- the command that adds what the object is
abbrev pub item_of : Item → Data → Result Command LineFault
item_of Zone d = if has_only zone_members d then add_zone d else Err Shape
item_of Calendar d = calendar_by_kind d >>= λ calendar. Ok (command.AddCalendar calendar false)
item_of Job d = job_of d >>= λ job. Ok (command.AddJob job false)
item_of Trigger d = trigger_by_kind d >>= λ spec. Ok (command.AddTrigger spec false)
