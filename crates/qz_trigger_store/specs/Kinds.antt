-- The trigger store as a kind of store.
use Rattle.std.specs.Prelude.{◌≡◌, ℕ, List, true, IsTrue}
use Rattle.std.proofs.Props.{props}
use Rattle.qz_types.specs.Entries.{EntryData, is_entry}
use Rattle.qz_types.specs.Tables.{SchedulerTables, empty}
use Rattle.qz_types.specs.declared.replies.Reply.{Reply}
use Rattle.qz_journal.specs.declared.layout.TheConstants.{TRIGGERS}
use Rattle.qz_codec.specs.Layout.{record_of}
use Rattle.qz_model.specs.Upgrading.{version_refusal}
use Rattle.qz_model.specs.History.{History, tables_left, IsLegalFrom, replay_from}
use Rattle.qz_model.specs.Invariant.{TablesValid}
use Rattle.qz_model.specs.Transaction.{transaction}
use Rattle.qz_snapshot.specs.Checkpoints.{snapshot_written}
use Rattle.qz_snapshot.specs.Opening.{is_part, AreCutShort}
use Rattle.qz_snapshot.specs.Snapshots as snapshots
use Rattle.qz_stores.specs.Kinds.{StoreKind}
use Rattle.qz_trigger_store.specs.Entries.{IsRecordOf, answer_of}

pub tables_once : (T U : SchedulerTables) → IsProp (T ≡ U)
tables_once T U = hlevel props

pub entries_once : (es fs : List EntryData) → IsProp (es ≡ fs)
entries_once es fs = hlevel props

-- The payloads begin with a snapshot of these tables, before which so many payloads and entries stand, whatever comes after it.
abbrev pub BeginSnapshot : List (List ℕ) → SchedulerTables → ℕ → ℕ → Type 0
BeginSnapshot payloads T before entries = (more : List (List ℕ)) × snapshots.BeginSnapshot payloads T before entries more

-- An entry whose parts are within their limits may be submitted. It is answered as the transaction at the tables, and
-- leaves what that leaves.
abbrev pub trigger_kind : StoreKind History SchedulerTables EntryData Reply
trigger_kind = record {
  number = TRIGGERS;
  record_of = record_of;
  IsRecordOf = IsRecordOf;
  is_part = is_part;
  BeginSnapshot = BeginSnapshot;
  AreCutShort = AreCutShort;
  has_snapshots = true;
  snapshot_of = snapshot_written;
  IsProper = λ e. IsTrue (is_entry e);
  empty = empty;
  IsValid = TablesValid;
  states_once = tables_once;
  lists_once = entries_once;
  version_refusal = λ T e. version_refusal T e.command;
  answer = λ T e. answer_of (transaction T e);
  after = λ T e. tables_left T (transaction T e);
  replay_from = replay_from;
  IsLegalFrom = IsLegalFrom;
  history = λ count base entries. record { base_count = count; base = base; entries = entries };
  base_count = λ h. h.base_count;
  base = λ h. h.base;
  entries = λ h. h.entries;
}
