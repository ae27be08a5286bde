-- Which entries have a record of a version: numbers fit their types, texts are UTF-8, and everything is within its limits.
use Rattle.std.specs.Prelude.{◌≡◌, ◌^◌, ◌<◌, true, IfSome, FitsSigned}
use Rattle.std.specs.Int.{w32, w64}
use Rattle.qz_types.specs.Rows.{JobData, MemberData, is_interval}
use Rattle.qz_types.specs.Entries.{EntryData, has_actor, is_of_node}
use Rattle.qz_types.specs.declared.limits.TheConstants.{ACQUIRE_LIMIT, NODE_LIMIT, PAYLOAD_LIMIT}
use Rattle.qz_types.specs.declared.keys.Key.{Key}
use Rattle.qz_types.specs.declared.triggers.TriggerSpec.{TriggerSpec}
use Rattle.qz_types.specs.declared.commands.Command.{Command}
use Rattle.qz_types.specs.declared.commands.Command.TheVariants.{AddJob, DeleteJob, AddTrigger, DeleteTrigger, PauseTrigger, ResumeTrigger, PauseGroup, ResumeGroup, AddCalendar, DeleteCalendar, AddZone, DeleteZone, TriggerNow, Threshold, Join, Leave, Acquire, Release, Fire, Complete, Misfires, Recover, Upgrade, ResetTrigger, PauseJobGroup, ResumeJobGroup}
use Rattle.qz_types.specs.declared.commands.Actor.{Actor}
use Rattle.qz_types.specs.declared.commands.Actor.TheVariants.{Client, Node}
use Rattle.qz_codec.specs.Zones.{IsZoneRow}
use Rattle.qz_codec.specs.Calendars.{IsCalendarRow}
use Rattle.qz_values.specs.declared.versions.Version.{Version}
use Rattle.qz_values.specs.declared.versions.Version.TheVariants.{Two}
use Rattle.qz_values.specs.Fields.{is_long, IsText, IsName, IsNumber, IsSpan}
use Rattle.qz_values.specs.Timings.{IsTiming}

-- A row has a record where each of its texts and numbers has.
pub record IsKey (k : Key) : Type 0 where
  pub group : IsName k.group
  pub name : IsName k.name

pub record IsJob (j : JobData) : Type 0 where
  pub key : IsKey j.key
  pub class : IsName j.class
  pub payload : IsText 0 PAYLOAD_LIMIT j.payload

pub record IsSpec (version : Version) (s : TriggerSpec) : Type 0 where
  pub key : IsKey s.key
  pub job : IsKey s.job
  pub priority : FitsSigned w32 s.priority
  pub calendar : IfSome s.calendar IsName
  pub timing : IsTiming version s.timing

pub record IsMember (m : MemberData) : Type 0 where
  pub node : IsText 1 NODE_LIMIT m.node
  pub epoch : m.epoch < 2 ^ 64

-- a client, or a node under its epoch
abbrev pub IsActor : Actor → Type 0
IsActor Client = Unit {0}
IsActor (Node m) = IsMember m

-- what is in the command has a record; the last four commands have one in version two alone
abbrev pub IsCommand : Version → Command → Type 0
IsCommand version (AddJob job replace) = IsJob job
IsCommand version (DeleteJob key) = IsKey key
IsCommand version (AddTrigger spec replace) = IsSpec version spec
IsCommand version (DeleteTrigger key) = IsKey key
IsCommand version (PauseTrigger key) = IsKey key
IsCommand version (ResumeTrigger key) = IsKey key
IsCommand version (PauseGroup group) = IsName group
IsCommand version (ResumeGroup group) = IsName group
IsCommand version (AddCalendar calendar replace) = IsCalendarRow version calendar
IsCommand version (DeleteCalendar name) = IsName name
IsCommand version (AddZone zone) = IsZoneRow version zone
IsCommand version (DeleteZone name) = IsName name
IsCommand version (TriggerNow job) = IsKey job
IsCommand version (Threshold ms) = IsNumber w64 is_interval ms
IsCommand version (Join node) = IsText 1 NODE_LIMIT node
IsCommand version Leave = Unit {0}
IsCommand version (Acquire no_later window max) =
    IsSpan no_later × IsSpan window × (max < 2 ^ 32) × (is_long 1 ACQUIRE_LIMIT max ≡ true)
IsCommand version (Release entry) = entry < 2 ^ 64
IsCommand version (Fire entry) = entry < 2 ^ 64
IsCommand version (Complete entry code) = entry < 2 ^ 64
IsCommand version Misfires = Unit {0}
IsCommand version (Recover node) = IsText 1 NODE_LIMIT node
IsCommand version Upgrade = version ≡ Two
IsCommand version (ResetTrigger key) = (version ≡ Two) × IsKey key
IsCommand version (PauseJobGroup group) = (version ≡ Two) × IsName group
IsCommand version (ResumeJobGroup group) = (version ≡ Two) × IsName group

pub record IsEntry (version : Version) (e : EntryData) : Type 0 where
  pub at : FitsSigned w64 e.at
  pub actor : IsActor e.actor
  pub seat : e.seat < 2 ^ 32
  pub command : IsCommand version e.command
  -- the commands of a node have one as actor, and the others a client
  pub asked : has_actor (is_of_node e.command) e.actor ≡ true
