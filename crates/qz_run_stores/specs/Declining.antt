-- Why the stores, as they stand, decline what a run asks.
use Rattle.std.specs.Prelude.{⊤, ◌≡◌, ℕ, ℤ, List, false, length, Err, IsOk}
use Rattle.qz_types.specs.Entries.{EntryData, StateEntryData}
use Rattle.qz_types.specs.declared.errors.SubmitError.{SubmitError}
use Rattle.qz_types.specs.declared.errors.SubmitError.TheVariants as submit
use Rattle.qz_types.specs.declared.limits.TheConstants.{STATE_LIMIT}
use Rattle.qz_types.specs.declared.replies.Refusal.TheVariants as refusal
use Rattle.qz_types.specs.declared.states.StateCommand.TheVariants.{CheckIn, Forget}
use Rattle.qz_codec.specs.Layout.{record_of}
use Rattle.qz_stores.specs.Stores.{LacksRoom}
use Rattle.qz_trigger_store.specs.Entries.{TriggerState, trigger_entry}
use Rattle.qz_checkin.specs.Entries.{StatesState, state_record_of, of_states}
use Rattle.qz_run.specs.declared.commands.Declined.{Declined}
use Rattle.qz_run.specs.declared.commands.Declined.TheVariants as declined
use Rattle.qz_run.specs.declared.commands.NodeCommand.{NodeCommand}
use Rattle.qz_run.specs.declared.commands.NodeCommand.TheVariants as asks
use Rattle.qz_run.specs.Stores.{IsTime, RowCommand, checks_in, forgets}

-- The trigger store declines this entry: the transaction is refused; or it would be accepted, and its record finds no room; or
-- the disk has failed and the store is closed; or memory is wanted. No node of a run is fenced.
abbrev pub DeclinesEntry : TriggerState → EntryData → Declined → Type 0
DeclinesEntry s e (declined.TooMany count) = trigger_entry.answer s.history e ≡ Err (refusal.TooMany count)
DeclinesEntry s e (declined.JournalFull need room) = IsOk (trigger_entry.answer s.history e) × LacksRoom (length (record_of e)) need room s
DeclinesEntry s e declined.Fault = s.is_open ≡ false
DeclinesEntry s e declined.NoMemory = ⊤
DeclinesEntry s e declined.Fenced = ⊥

-- the transaction is refused because there are as many rows as there may be
pub record HasNoRow (s : StatesState) (e : StateEntryData) (count : ℕ) : Type 0 where
  pub refused_as : of_states.answer s.history e ≡ Err refusal.RowsFull
  pub limit : count ≡ STATE_LIMIT

-- the state store declines this entry
abbrev pub DeclinesRow : StatesState → StateEntryData → Declined → Type 0
DeclinesRow s e (declined.TooMany count) = HasNoRow s e count
DeclinesRow s e (declined.JournalFull need room) = IsOk (of_states.answer s.history e) × LacksRoom (length (state_record_of e)) need room s
DeclinesRow s e declined.Fault = s.is_open ≡ false
DeclinesRow s e declined.NoMemory = ⊤
DeclinesRow s e declined.Fenced = ⊥

-- an entry that says this of a node's row
abbrev pub IsRowEntry : List ℕ → ℤ → RowCommand → StateEntryData → Type 0
IsRowEntry name at (checks_in interval) e = e ≡ record { at = at; seat = 0; command = CheckIn name interval }
IsRowEntry name at forgets e = (last : ℤ) × (e ≡ record { at = at; seat = 0; command = Forget name last })

-- it declines an entry that says this
abbrev pub HasDeclined : StatesState → List ℕ → ℤ → RowCommand → Declined → Type 0
HasDeclined s name at command why = (e : StateEntryData) × (IsRowEntry name at command e × DeclinesRow s e why)

-- an error that a store may answer to a run: of its refusals, only a limit
abbrev pub IsDeclinable : SubmitError → Type 0
IsDeclinable (submit.Refused (refusal.TooMany count)) = ⊤
IsDeclinable (submit.Refused refusal.RowsFull) = ⊤
IsDeclinable (submit.Refused other) = ⊥
IsDeclinable other = ⊤

-- what a run is told of it
abbrev pub declined_of : SubmitError → Declined
declined_of (submit.Refused (refusal.TooMany count)) = declined.TooMany count
declined_of (submit.Refused refusal.RowsFull) = declined.TooMany STATE_LIMIT
declined_of (submit.JournalFull need room) = declined.JournalFull need room
declined_of submit.NoMemory = declined.NoMemory
declined_of other = declined.Fault

-- a command whose number is within its limits
abbrev pub IsAskable : NodeCommand → Type 0
IsAskable (asks.Acquire no_later) = IsTime no_later
IsAskable other = ⊤
