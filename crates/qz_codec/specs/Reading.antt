-- Reading a record from left to right. `Fields` of qz_values says what a reader answers.
use Rattle.std.specs.Prelude.{◌≡◌, ℕ, ℤ, List, length, ◌==◌, Bool, Option, Some, None, Result, Ok, Err, if◌then◌else◌, ◌-◌}
use Rattle.std.specs.Int.{w64, w32}
use Rattle.qz_types.specs.Rows.{is_interval, JobData, MemberData}
use Rattle.qz_types.specs.declared.limits.TheConstants.{NODE_LIMIT, ACQUIRE_LIMIT, PAYLOAD_LIMIT}
use Rattle.qz_civil.specs.Fields.{size}
use Rattle.qz_types.specs.Entries.{EntryData}
use Rattle.qz_types.specs.declared.keys.Key.{Key}
use Rattle.qz_types.specs.declared.triggers.TriggerSpec.{TriggerSpec}
use Rattle.qz_types.specs.declared.commands.Code.{Code}
use Rattle.qz_types.specs.declared.commands.Code.TheVariants as code
use Rattle.qz_types.specs.declared.commands.Command.{Command}
use Rattle.qz_types.specs.declared.commands.Command.TheVariants.{AddJob, DeleteJob, AddTrigger, DeleteTrigger, PauseTrigger, ResumeTrigger, PauseGroup, ResumeGroup, AddCalendar, DeleteCalendar, AddZone, DeleteZone, TriggerNow, Threshold, Join, Leave, Acquire, Release, Fire, Complete, Misfires, Recover, Upgrade, ResetTrigger, PauseJobGroup, ResumeJobGroup}
use Rattle.qz_types.specs.declared.commands.Actor.{Actor}
use Rattle.qz_types.specs.declared.commands.Actor.TheVariants.{Client, Node}
use Rattle.qz_values.specs.declared.versions.Version.{Version}
use Rattle.qz_values.specs.declared.versions.Version.TheVariants.{One, Two}
use Rattle.qz_values.specs.Fields.{is_long, ◌>>=◌, Read, checked, byte_at, number_at, integer_at, flag_at, text_at, name_at, span_at, optional_at, as_variant}
use Rattle.qz_codec.specs.declared.errors.ReadError.{ReadError}
use Rattle.qz_codec.specs.declared.errors.ReadError.TheVariants as errors
use Rattle.qz_codec.specs.Zones.{zone_row_at}
use Rattle.qz_codec.specs.Calendars.{calendar_row_at}
use Rattle.qz_values.specs.Timings.{timing_at}

abbrev pub node_at : List ℕ → Read (List ℕ)
node_at bytes = text_at 1 NODE_LIMIT bytes

abbrev pub threshold_at : List ℕ → Read ℤ
threshold_at bytes = checked is_interval (integer_at w64) bytes

unfoldable pub key_at : List ℕ → Read Key
key_at bytes = do
  group ← name_at bytes
  name ← name_at group.1
  Ok (record { group = group.0; name = name.0 }, name.1)

unfoldable pub job_at : List ℕ → Read JobData
job_at bytes = do
  key ← key_at bytes
  class ← name_at key.1
  durable ← flag_at class.1
  no_concurrent ← flag_at durable.1
  requests_recovery ← flag_at no_concurrent.1
  payload ← text_at 0 PAYLOAD_LIMIT requests_recovery.1
  Ok (
    record {
      key = key.0;
      class = class.0;
      durable = durable.0;
      no_concurrent = no_concurrent.0;
      requests_recovery = requests_recovery.0;
      payload = payload.0;
    },
    payload.1,
  )

unfoldable pub spec_at : Version → List ℕ → Read TriggerSpec
spec_at version bytes = do
  key ← key_at bytes
  job ← key_at key.1
  priority ← integer_at w32 job.1
  calendar ← optional_at name_at priority.1
  timing ← timing_at version calendar.1
  Ok (record { key = key.0; job = job.0; priority = priority.0; calendar = calendar.0; timing = timing.0 }, timing.1)

unfoldable pub member_at : List ℕ → Read MemberData
member_at bytes = do
  node ← node_at bytes
  epoch ← number_at w64 node.1
  Ok (record { node = node.0; epoch = epoch.0 }, epoch.1)

unfoldable pub actor_at : List ℕ → Read Actor
actor_at bytes = do
  some ← flag_at bytes
  if some.0 then (member_at some.1 >>= λ m. Ok (Node m.0, m.1)) else Ok (Client, some.1)

-- the code of a place
abbrev pub code_of : ℕ → Option Code
code_of n =
    if n == 0 then Some code.Noop
    else if n == 1 then Some code.ReExecuteJob
    else if n == 2 then Some code.SetTriggerComplete
    else if n == 3 then Some code.DeleteTrigger
    else if n == 4 then Some code.SetAllJobTriggersComplete
    else if n == 5 then Some code.SetTriggerError
    else if n == 6 then Some code.SetAllJobTriggersError
    else None

-- where there is one
abbrev pub chosen : {A : Type 0} → Option A → ℕ → List ℕ → Read A
chosen None left rest = Err left
chosen (Some x) left rest = Ok (x, rest)

unfoldable pub code_at : List ℕ → Read Code
code_at bytes = do
  n ← byte_at bytes
  chosen (code_of n.0) (length bytes) n.1

-- a row, and whether it may replace another one
abbrev pub replacing_at : {A : Type 0} → (A → Bool → Command) → (List ℕ → Read A) → List ℕ → Read Command
replacing_at make read bytes = do
  row ← read bytes
  replace ← flag_at row.1
  Ok (make row.0 replace.0, replace.1)

unfoldable pub acquire_at : List ℕ → Read Command
acquire_at bytes = do
  no_later ← span_at bytes
  window ← span_at no_later.1
  max ← checked (is_long 1 ACQUIRE_LIMIT) (number_at w32) window.1
  Ok (Acquire no_later.0 window.0 max.0, max.1)

unfoldable pub complete_at : List ℕ → Read Command
complete_at bytes = do
  entry ← number_at w64 bytes
  code ← code_at entry.1
  Ok (Complete entry.0 code.0, code.1)

-- a client's command that version two alone has
unfoldable pub later_command_at : Version → List ℕ → Read Command
later_command_at One bytes = Err (length bytes)
later_command_at Two bytes = do
  place ← byte_at bytes
  if place.0 == 22 then Ok (Upgrade, place.1)
      else if place.0 == 23 then as_variant ResetTrigger (key_at place.1)
      else if place.0 == 24 then as_variant PauseJobGroup (name_at place.1)
      else if place.0 == 25 then as_variant ResumeJobGroup (name_at place.1)
      else Err (length bytes)

-- a command that a client gives
unfoldable pub client_command_at : Version → List ℕ → Read Command
client_command_at version bytes = do
  place ← byte_at bytes
  if place.0 == 0 then replacing_at AddJob job_at place.1
      else if place.0 == 1 then as_variant DeleteJob (key_at place.1)
      else if place.0 == 2 then replacing_at AddTrigger (spec_at version) place.1
      else if place.0 == 3 then as_variant DeleteTrigger (key_at place.1)
      else if place.0 == 4 then as_variant PauseTrigger (key_at place.1)
      else if place.0 == 5 then as_variant ResumeTrigger (key_at place.1)
      else if place.0 == 6 then as_variant PauseGroup (name_at place.1)
      else if place.0 == 7 then as_variant ResumeGroup (name_at place.1)
      else if place.0 == 8 then replacing_at AddCalendar (calendar_row_at version) place.1
      else if place.0 == 9 then as_variant DeleteCalendar (name_at place.1)
      else if place.0 == 10 then as_variant AddZone (zone_row_at version place.1)
      else if place.0 == 11 then as_variant DeleteZone (name_at place.1)
      else if place.0 == 12 then as_variant TriggerNow (key_at place.1)
      else if place.0 == 13 then as_variant Threshold (threshold_at place.1)
      else if place.0 == 14 then as_variant Join (node_at place.1)
      else later_command_at version bytes

-- a command that a node gives under its epoch
unfoldable pub node_command_at : List ℕ → Read Command
node_command_at bytes = do
  place ← byte_at bytes
  if place.0 == 15 then Ok (Leave, place.1)
      else if place.0 == 16 then acquire_at place.1
      else if place.0 == 17 then as_variant Release (number_at w64 place.1)
      else if place.0 == 18 then as_variant Fire (number_at w64 place.1)
      else if place.0 == 19 then complete_at place.1
      else if place.0 == 20 then Ok (Misfires, place.1)
      else if place.0 == 21 then as_variant Recover (node_at place.1)
      else Err (length bytes)

abbrev pub command_at : Version → Actor → List ℕ → Read Command
command_at version Client bytes = client_command_at version bytes
command_at version (Node m) bytes = node_command_at bytes

unfoldable pub entry_at : Version → List ℕ → Read EntryData
entry_at version bytes = do
  at ← integer_at w64 bytes
  actor ← actor_at at.1
  seat ← number_at w32 actor.1
  command ← command_at version actor.0 seat.1
  Ok (record { at = at.0; actor = actor.0; seat = seat.0; command = command.0 }, command.1)

-- the version of a byte
abbrev pub version_of : ℕ → Option Version
version_of n = if n == 1 then Some One else if n == 2 then Some Two else None

unfoldable pub version_at : List ℕ → Read Version
version_at bytes = do
  n ← byte_at bytes
  chosen (version_of n.0) (length bytes) n.1

-- A whole record: its version, what is read after it in that version, and nothing more. `meant` is what that means.
unfoldable pub whole_at : {A B : Type 0} → (Version → A → B) → (Version → List ℕ → Read A) → List ℕ → Result B ℕ
whole_at meant read bytes = do
  version ← version_at bytes
  value ← read version.0 version.1
  if length value.1 == 0 then Ok (meant version.0 value.0) else Err (length value.1)

-- the place of the fault, from the front
abbrev pub placed : {A : Type 0} → ℕ → Result A ℕ → Result A ℕ
placed size (Ok x) = Ok x
placed size (Err left) = Err (size - left)

-- What the record that the bytes are means, or the place of the first wrong field.
abbrev pub reading_by : {A B : Type 0} → (Version → A → B) → (Version → List ℕ → Read A) → List ℕ → Result B ℕ
reading_by meant read bytes = placed (length bytes) (whole_at meant read bytes)

-- a value with the version of its record
abbrev pub with_version : {A : Type 0} → Version → A → Version × A
with_version version x = (version, x)

-- in either version a value means itself
abbrev pub itself : {A : Type 0} → Version → A → A
itself version x = x

-- reading the record of an entry
abbrev pub reading : List ℕ → Result EntryData ℕ
reading bytes = reading_by itself entry_at bytes

-- What a call answered is what reading gives, unless memory ran out.
abbrev pub Answers : {A : Type 0} → Result A ReadError → Result A ℕ → Type 0
Answers (Ok x) read = read ≡ Ok x
Answers (Err (errors.BadRecord place)) read = read ≡ Err place
Answers (Err errors.NoMemory) read = Unit {0}
