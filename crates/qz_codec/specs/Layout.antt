-- The bytes of an entry's record, type by type. `Fields` of qz_values has those of single fields, `Records` those of
-- whole records.
use Rattle.std.specs.Prelude.{ℕ, List, [], ◌∷◌, ◌++◌}
use Rattle.std.specs.Int.{w32, w64}
use Rattle.qz_types.specs.Rows.{JobData, MemberData}
use Rattle.qz_types.specs.Entries.{EntryData}
use Rattle.qz_types.specs.declared.keys.Key.{Key}
use Rattle.qz_types.specs.declared.triggers.TriggerSpec.{TriggerSpec}
use Rattle.qz_types.specs.declared.commands.Code.{Code}
use Rattle.qz_types.specs.declared.commands.Code.TheVariants as code
use Rattle.qz_types.specs.declared.commands.Command.{Command}
use Rattle.qz_types.specs.declared.commands.Command.TheVariants.{AddJob, DeleteJob, AddTrigger, DeleteTrigger, PauseTrigger, ResumeTrigger, PauseGroup, ResumeGroup, AddCalendar, DeleteCalendar, AddZone, DeleteZone, TriggerNow, Threshold, Join, Leave, Acquire, Release, Fire, Complete, Misfires, Recover, Upgrade, ResetTrigger, PauseJobGroup, ResumeJobGroup}
use Rattle.qz_types.specs.declared.commands.Actor.{Actor}
use Rattle.qz_types.specs.declared.commands.Actor.TheVariants.{Client, Node}
use Rattle.qz_codec.specs.Records.{recorded}
use Rattle.qz_codec.specs.Zones.{zone_row}
use Rattle.qz_codec.specs.Calendars.{calendar_row}
use Rattle.qz_values.specs.declared.versions.Version.{Version}
use Rattle.qz_values.specs.declared.versions.Version.TheVariants.{Two}
use Rattle.qz_values.specs.Fields.{number, integer, flag, text, optional}
use Rattle.qz_values.specs.Timings.{timing}

-- a key: the group, then the name
unfoldable pub key : Key → List ℕ
key k = text k.group ++ text k.name

-- a job: its key and class, its three flags, its payload
unfoldable pub job : JobData → List ℕ
job j =
    key j.key
    ++ (text j.class ++ (flag j.durable ++ (flag j.no_concurrent ++ (flag j.requests_recovery ++ text j.payload))))

-- a trigger as it is stored: its key, its job's, its priority, its calendar if it has one, its timing
unfoldable pub spec : Version → TriggerSpec → List ℕ
spec version s =
    key s.key ++ (key s.job ++ (integer w32 s.priority ++ (optional text s.calendar ++ timing version s.timing)))

-- a member: the node and its epoch
unfoldable pub member : MemberData → List ℕ
member m = text m.node ++ number w64 m.epoch

-- who acts: a client, or a node under its epoch
unfoldable pub actor : Actor → List ℕ
actor Client = 0 ∷ []
actor (Node m) = 1 ∷ member m

-- the place of a code among all codes
abbrev pub code_place : Code → ℕ
code_place code.Noop = 0
code_place code.ReExecuteJob = 1
code_place code.SetTriggerComplete = 2
code_place code.DeleteTrigger = 3
code_place code.SetAllJobTriggersComplete = 4
code_place code.SetTriggerError = 5
code_place code.SetAllJobTriggersError = 6

-- the place of a command among all commands
abbrev pub command_place : Command → ℕ
command_place (AddJob row replace) = 0
command_place (DeleteJob k) = 1
command_place (AddTrigger row replace) = 2
command_place (DeleteTrigger k) = 3
command_place (PauseTrigger k) = 4
command_place (ResumeTrigger k) = 5
command_place (PauseGroup group) = 6
command_place (ResumeGroup group) = 7
command_place (AddCalendar row replace) = 8
command_place (DeleteCalendar name) = 9
command_place (AddZone row) = 10
command_place (DeleteZone name) = 11
command_place (TriggerNow k) = 12
command_place (Threshold ms) = 13
command_place (Join node) = 14
command_place Leave = 15
command_place (Acquire no_later window max) = 16
command_place (Release entry) = 17
command_place (Fire entry) = 18
command_place (Complete entry c) = 19
command_place Misfires = 20
command_place (Recover node) = 21
command_place Upgrade = 22
command_place (ResetTrigger k) = 23
command_place (PauseJobGroup group) = 24
command_place (ResumeJobGroup group) = 25

-- its fields, in their order
abbrev pub command_fields : Version → Command → List ℕ
command_fields version (AddJob row replace) = job row ++ flag replace
command_fields version (DeleteJob k) = key k
command_fields version (AddTrigger row replace) = spec version row ++ flag replace
command_fields version (DeleteTrigger k) = key k
command_fields version (PauseTrigger k) = key k
command_fields version (ResumeTrigger k) = key k
command_fields version (PauseGroup group) = text group
command_fields version (ResumeGroup group) = text group
command_fields version (AddCalendar row replace) = calendar_row row ++ flag replace
command_fields version (DeleteCalendar name) = text name
command_fields version (AddZone row) = zone_row row
command_fields version (DeleteZone name) = text name
command_fields version (TriggerNow k) = key k
command_fields version (Threshold ms) = integer w64 ms
command_fields version (Join node) = text node
command_fields version Leave = []
command_fields version (Acquire no_later window max) =
    integer w64 no_later ++ (integer w64 window ++ number w32 max)
command_fields version (Release entry) = number w64 entry
command_fields version (Fire entry) = number w64 entry
command_fields version (Complete entry c) = number w64 entry ++ code_place c ∷ []
command_fields version Misfires = []
command_fields version (Recover node) = text node
command_fields version Upgrade = []
command_fields version (ResetTrigger k) = key k
command_fields version (PauseJobGroup group) = text group
command_fields version (ResumeJobGroup group) = text group

-- a command: its place, and its fields
unfoldable pub command : Version → Command → List ℕ
command version c = command_place c ∷ command_fields version c

-- an entry: the reading of the clock, who acts, the seat, the command
unfoldable pub entry : Version → EntryData → List ℕ
entry version e = integer w64 e.at ++ (actor e.actor ++ (number w32 e.seat ++ command version e.command))

-- the record of an entry that is written
abbrev pub record_of : EntryData → List ℕ
record_of e = recorded entry Two e
