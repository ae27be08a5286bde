-- What the entries of the state store are to it.
use Rattle.std.specs.Prelude.{⊤, ◌≡◌, ℕ, List, true, false, length, Option, Some, None, Ok, Err}
use Rattle.std.specs.declared.result.Result.{Result}
use Rattle.qz_types.specs.Entries.{StateEntryData}
use Rattle.qz_types.specs.declared.replies.Refusal.{Refusal}
use Rattle.qz_values.specs.declared.versions.Version.TheVariants.{Two}
use Rattle.qz_codec.specs.Records.{recorded}
use Rattle.qz_codec.specs.States.{state_fields, IsStateRecord}
use Rattle.qz_types.specs.declared.errors.SubmitError.{SubmitError}
use Rattle.qz_types.specs.declared.errors.SubmitError.TheVariants as submit
use Rattle.qz_stores.specs.Stores.{EntryKind, StoreState}
use Rattle.qz_checkin.specs.Rows.{StateOutcome, accepted, refused, state_transaction}
use Rattle.qz_checkin.specs.History.{StateHistory, with_state_entry, replay_states}

-- that a transaction is accepted, or why it is refused
abbrev pub answer_of : StateOutcome → Result ⊤ Refusal
answer_of (accepted T) = Ok tt
answer_of (refused refusal) = Err refusal

-- the record of an entry, as it is written: in version two
abbrev pub state_record_of : StateEntryData → List ℕ
state_record_of e = recorded state_fields Two e

-- An entry is answered as the transaction at the rows that the history leaves.
abbrev pub of_states : EntryKind StateHistory StateEntryData ⊤
of_states = record {
  answer = λ h e. answer_of (state_transaction (replay_states h) e);
  with_entry = with_state_entry;
  size = λ e. length (state_record_of e);
  IsWritten = λ e. IsStateRecord (state_record_of e) e;
}

-- a state store at one moment
abbrev pub StatesState : Type 0
StatesState = StoreState StateHistory StateEntryData

-- What is decided without memory: an open store accepts what isn't refused.
abbrev pub IsDecision : StatesState → Option Refusal → Result ⊤ SubmitError → Type 0
IsDecision s None (Ok _) = s.is_open ≡ true
IsDecision s (Some refusal) (Err (submit.Refused x)) = (s.is_open ≡ true) × (x ≡ refusal)
IsDecision s refusal (Err (submit.Closed at)) = (s.is_open ≡ false) × (at ≡ s.gate)
IsDecision s refusal result = ⊥
