-- What the entries of the trigger store are to it.
use Rattle.std.specs.Prelude.{ℕ, List, length, Bool, Ok, Err}
use Rattle.std.specs.Ordering.{int_eq}
use Rattle.qz_civil.specs.declared.limits.TheConstants.{VERSION_ONE_LAST}
use Rattle.qz_types.specs.Tables.{SchedulerTables}
use Rattle.std.specs.declared.result.Result.{Result}
use Rattle.qz_types.specs.Entries.{EntryData}
use Rattle.qz_types.specs.declared.replies.Reply.{Reply}
use Rattle.qz_types.specs.declared.replies.Refusal.{Refusal}
use Rattle.qz_types.specs.Outcomes.{Outcome, accepted, refused}
use Rattle.qz_model.specs.Transaction.{transaction}
use Rattle.qz_model.specs.Upgrading.{version_refusal}
use Rattle.qz_model.specs.History.{History, history_of_version, with_entry, replay}
use Rattle.qz_codec.specs.Layout.{entry, record_of}
use Rattle.qz_codec.specs.Records.{IsRecord}
use Rattle.qz_codec.specs.Values.{IsEntry}
use Rattle.qz_stores.specs.Stores.{EntryKind, StoreState}
use Rattle.qz_stores.specs.Kinds.{unless_refused}

-- the reply of a transaction, or why it is refused
abbrev pub answer_of : Outcome → Result Reply Refusal
answer_of (accepted T reply) = Ok reply
answer_of (refused refusal) = Err refusal

-- the tables are those of a store of version one that wasn't upgraded
abbrev pub is_old : SchedulerTables → Bool
is_old T = int_eq T.horizon VERSION_ONE_LAST

-- the bytes are a record of the entry, in version one or two
abbrev pub IsRecordOf : List ℕ → EntryData → Type 0
IsRecordOf bytes e = IsRecord entry IsEntry bytes e

-- An entry that is submitted is answered as the transaction at the tables that the history leaves. Before that a store of
-- version one refuses all but an Upgrade.
abbrev pub trigger_entry : EntryKind History EntryData Reply
trigger_entry = record {
  answer = λ h e. unless_refused (version_refusal (replay h) e.command) (answer_of (transaction (replay h) e));
  with_entry = with_entry;
  size = λ e. length (record_of e);
  IsWritten = λ e. IsRecordOf (record_of e) e;
}

-- An entry of which these bytes are the record, and which a store adopts, is answered as the transaction alone: the version of
-- the store isn't asked. These bytes are what is written.
abbrev pub adopted_entry : List ℕ → EntryKind History EntryData Reply
adopted_entry bytes = record {
  answer = λ h e. answer_of (transaction (replay h) e);
  with_entry = with_entry;
  size = λ e. length bytes;
  IsWritten = λ e. IsRecordOf bytes e;
}

-- the history of these entries from a new store of this format version on
abbrev pub history_of : ℕ → List EntryData → History
history_of version entries = record (history_of_version version) { entries = entries }

-- a trigger store at one moment
abbrev pub TriggerState : Type 0
TriggerState = StoreState History EntryData
