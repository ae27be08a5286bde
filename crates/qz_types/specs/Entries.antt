-- What contracts see of an entry of the trigger store, and which entries are valid.
use Rattle.std.specs.Prelude.{ℕ, ℤ, Bool, true, false, nat_le, ◌&&◌}
use Rattle.qz_civil.specs.Timings.{is_name, is_span}
use Rattle.qz_types.specs.Rows.{is_interval, is_key, is_node, is_trigger_spec}
use Rattle.qz_types.specs.declared.limits.TheConstants.{ACQUIRE_LIMIT}
use Rattle.qz_types.specs.declared.commands.Command.{Command}
use Rattle.qz_types.specs.declared.commands.Command.TheVariants.{AddJob, DeleteJob, AddTrigger, DeleteTrigger, PauseTrigger, ResumeTrigger, PauseGroup, ResumeGroup, AddCalendar, DeleteCalendar, AddZone, DeleteZone, TriggerNow, Threshold, Join, Leave, Acquire, Release, Fire, Complete, Misfires, Recover, Upgrade, ResetTrigger, PauseJobGroup, ResumeJobGroup}
use Rattle.qz_types.specs.declared.commands.Actor.{Actor}
use Rattle.qz_types.specs.declared.commands.Actor.TheVariants.{Client, Node}
use Rattle.qz_types.specs.declared.states.StateCommand.{StateCommand}
use Rattle.qz_types.specs.declared.states.StateCommand.TheVariants.{CheckIn, Forget}

pub record EntryData : Type 0 where
  pub at : ℤ
  pub actor : Actor
  pub seat : ℕ
  pub command : Command

-- what is in the command is within its limits; rows are valid by themselves
abbrev pub is_command : Command → Bool
is_command (AddJob job replace) = true
is_command (DeleteJob key) = is_key key
is_command (AddTrigger spec replace) = is_trigger_spec spec
is_command (DeleteTrigger key) = is_key key
is_command (PauseTrigger key) = is_key key
is_command (ResumeTrigger key) = is_key key
is_command (PauseGroup group) = is_name group
is_command (ResumeGroup group) = is_name group
is_command (AddCalendar calendar replace) = true
is_command (DeleteCalendar name) = is_name name
is_command (AddZone zone) = true
is_command (DeleteZone name) = is_name name
is_command (TriggerNow job) = is_key job
is_command (Threshold ms) = is_interval ms
is_command (Join node) = is_node node
is_command Leave = true
is_command (Acquire no_later window max) = is_span no_later && is_span window && nat_le 1 max && nat_le max ACQUIRE_LIMIT
is_command (Release entry) = true
is_command (Fire entry) = true
is_command (Complete entry code) = true
is_command Misfires = true
is_command (Recover node) = is_node node
is_command Upgrade = true
is_command (ResetTrigger key) = is_key key
is_command (PauseJobGroup group) = is_name group
is_command (ResumeJobGroup group) = is_name group

-- what a node does under its epoch; the others are a client's
abbrev pub is_of_node : Command → Bool
is_of_node Leave = true
is_of_node (Acquire no_later window max) = true
is_of_node (Release entry) = true
is_of_node (Fire entry) = true
is_of_node (Complete entry code) = true
is_of_node Misfires = true
is_of_node (Recover node) = true
is_of_node c = false

-- the actor is of the kind that the command has
abbrev pub has_actor : Bool → Actor → Bool
has_actor true (Node member) = true
has_actor true Client = false
has_actor false (Node member) = false
has_actor false Client = true

-- the command is within its limits, and its actor is of its kind
unfoldable pub is_entry : EntryData → Bool
is_entry e = is_command e.command && has_actor (is_of_node e.command) e.actor

-- What contracts see of an entry of the state store, and which are valid.

pub record StateEntryData : Type 0 where
  pub at : ℤ
  pub seat : ℕ
  pub command : StateCommand

-- the node and the interval are within their limits
abbrev pub is_state_command : StateCommand → Bool
is_state_command (CheckIn node interval) = is_node node && is_interval interval
is_state_command (Forget node last) = is_node node
