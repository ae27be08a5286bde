-- What is ready before a command is done.
use Rattle.std.specs.Prelude.{◌≡◌, ⊤, ℤ, Bool, true, false, IsTrue, Some}
use Rattle.qz_types.specs.Entries.{EntryData}
use Rattle.qz_types.specs.declared.commands.Command.{Command}
use Rattle.qz_types.specs.declared.commands.Command.TheVariants.{AddJob, AddTrigger, PauseGroup, PauseJobGroup, AddCalendar, AddZone, TriggerNow}
use Rattle.qz_types.specs.Outcomes.{IsAccepted}
use Rattle.qz_types.specs.Tables.{SchedulerTables, recorded_moment}
use Rattle.qz_model.specs.Plan.{first_time}
use Rattle.qz_model.specs.Transaction.{transaction}
use Rattle.qz_model.specs.Triggers.{new_trigger, manual_trigger}
use Rattle.qz_tables.specs.Contents.{Spare, TablesData, HasSpare}
use Rattle.qz_types.specs.Groups.{IsOfSchedule}
use Rattle.qz_schedule.specs.declared.changes.Change.{Change}
use Rattle.qz_schedule.specs.declared.changes.Change.TheVariants.{InPlace, Job, Trigger, Group, JobGroup, Calendar, Zone, Manual}

-- the command stores something, and no fire time is searched for it
abbrev pub is_copied : Command → Bool
is_copied (AddJob job replace) = true
is_copied (PauseGroup group) = true
is_copied (PauseJobGroup group) = true
is_copied (AddCalendar calendar replace) = true
is_copied (AddZone zone) = true
is_copied (TriggerNow job) = true
is_copied command = false

-- what the command stores at these tables, where it is accepted; m is its recorded moment
abbrev pub change_for : SchedulerTables → ℤ → Command → Change
change_for T m (AddJob job replace) = Job job
change_for T m (AddTrigger spec replace) = Trigger (new_trigger T spec (first_time T spec))
change_for T m (PauseGroup group) = Group group
change_for T m (PauseJobGroup group) = JobGroup group
change_for T m (AddCalendar calendar replace) = Calendar calendar
change_for T m (AddZone zone) = Zone zone
change_for T m (TriggerNow job) = Manual (new_trigger T (manual_trigger m T.next_entry job) (Some m)) (manual_trigger m T.next_entry job).key
change_for T m command = InPlace

-- there is room for the row that is stored
abbrev pub HasRoom : Change → Spare → Type 0
HasRoom InPlace spare = ⊤
HasRoom change spare = HasSpare 1 spare

-- the tables accept the entry, and the change has all that it needs there
pub record Prepares (T : TablesData) (e : EntryData) (change : Change) : Type 0 where
  pub command : IsOfSchedule e.command
  pub accepts : IsAccepted (transaction T.tables e)
  pub holds : change ≡ change_for T.tables (recorded_moment T.tables e.at) e.command
  pub room : HasRoom change T.spare
