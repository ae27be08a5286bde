-- State entries: their bytes, which have a record, how they are read, and what they mean.
use Rattle.std.specs.Prelude.{◌≡◌, ℕ, ◌^◌, ◌<◌, ℤ, pos, FitsSigned, List, ◌∷◌, ◌++◌, length, ◌==◌, Ok, Err, if◌then◌else◌}
use Rattle.std.specs.Int.{w32, w64, int_max, int_min}
use Rattle.qz_civil.specs.declared.limits.TheConstants.{VERSION_ONE_LAST}
use Rattle.qz_types.specs.Rows.{is_interval}
use Rattle.qz_types.specs.Entries.{StateEntryData}
use Rattle.qz_types.specs.declared.limits.TheConstants.{NODE_LIMIT}
use Rattle.qz_types.specs.declared.states.StateCommand.{StateCommand}
use Rattle.qz_types.specs.declared.states.StateCommand.TheVariants.{CheckIn, Forget}
use Rattle.qz_values.specs.declared.versions.Version.{Version}
use Rattle.qz_values.specs.declared.versions.Version.TheVariants.{One, Two}
use Rattle.qz_values.specs.Fields.{number, integer, text, IsText, IsNumber, ◌>>=◌, Read, checked, byte_at, number_at, integer_at}
use Rattle.qz_codec.specs.Records.{recorded}
use Rattle.qz_codec.specs.Reading.{node_at}

-- ---- bytes

-- a command of the state store: its place, the node, and the interval of its check-ins or its last check-in
unfoldable pub state_command : StateCommand → List ℕ
state_command (CheckIn node interval) = 0 ∷ (text node ++ integer w64 interval)
state_command (Forget node last) = 1 ∷ (text node ++ integer w64 last)

-- an entry: the reading of the clock, the seat, the command
unfoldable pub state_entry : StateEntryData → List ℕ
state_entry e = integer w64 e.at ++ (number w32 e.seat ++ state_command e.command)

-- ---- which have a record: the node is UTF-8, the numbers fit, and each is within its limits

abbrev pub IsStateCommand : StateCommand → Type 0
IsStateCommand (CheckIn node interval) = IsText 1 NODE_LIMIT node × IsNumber w64 is_interval interval
IsStateCommand (Forget node last) = IsText 1 NODE_LIMIT node × FitsSigned w64 last

pub record IsStateEntry (e : StateEntryData) : Type 0 where
  pub at : FitsSigned w64 e.at
  pub seat : e.seat < 2 ^ 32
  pub command : IsStateCommand e.command

-- ---- reading, field by field: the value and the bytes after it, or how many bytes are left at the first wrong field

unfoldable pub check_in_at : List ℕ → Read StateCommand
check_in_at bytes = do
  node ← node_at bytes
  interval ← checked is_interval (integer_at w64) node.1
  Ok (CheckIn node.0 interval.0, interval.1)

unfoldable pub forget_at : List ℕ → Read StateCommand
forget_at bytes = do
  node ← node_at bytes
  last ← integer_at w64 node.1
  Ok (Forget node.0 last.0, last.1)

unfoldable pub state_command_at : List ℕ → Read StateCommand
state_command_at bytes = do
  place ← byte_at bytes
  if place.0 == 0 then check_in_at place.1
      else if place.0 == 1 then forget_at place.1
      else Err (length bytes)

unfoldable pub state_entry_at : List ℕ → Read StateEntryData
state_entry_at bytes = do
  at ← integer_at w64 bytes
  seat ← number_at w32 at.1
  command ← state_command_at seat.1
  Ok (record { at = at.0; seat = seat.0; command = command.0 }, command.1)

-- ---- what they mean

-- the nearest moment from 0 to the last one of version one
abbrev pub clamped : ℤ → ℤ
clamped t = int_max (pos 0) (int_min t VERSION_ONE_LAST)

-- An entry in a record of version one means the one with its reading clamped. In version two it means itself.
abbrev pub meant : Version → StateEntryData → StateEntryData
meant One e = record { at = clamped e.at; seat = e.seat; command = e.command }
meant Two e = e

-- what is written is the same in both versions
abbrev pub state_fields : Version → StateEntryData → List ℕ
state_fields version e = state_entry e

-- The bytes are a record of the entry, in version one or in version two.
pub record IsStateRecord (bytes : List ℕ) (e : StateEntryData) : Type 0 where
  pub version : Version
  -- what stands in the record
  pub stored : StateEntryData
  pub has : IsStateEntry stored
  pub bytes_are : bytes ≡ recorded state_fields version stored
  pub means : e ≡ meant version stored
