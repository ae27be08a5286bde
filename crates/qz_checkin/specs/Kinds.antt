-- The state store as a kind of store.
use Rattle.std.specs.Prelude.{⊤, ◌≡◌, false, [], List, None}
use Rattle.std.proofs.Props.{props}
use Rattle.qz_types.specs.Entries.{StateEntryData}
use Rattle.qz_journal.specs.declared.layout.TheConstants.{STATES}
use Rattle.qz_codec.specs.States.{IsStateRecord}
use Rattle.qz_stores.specs.Kinds.{StoreKind}
use Rattle.qz_checkin.specs.Rows.{StateTables, new_state_tables, state_transaction}
use Rattle.qz_checkin.specs.Valid.{StatesValid}
use Rattle.qz_checkin.specs.History.{StateHistory, rows_left, IsLegalFrom, replay_from}
use Rattle.qz_checkin.specs.Entries.{answer_of, state_record_of}

pub rows_once : (T U : StateTables) → IsProp (T ≡ U)
rows_once T U = hlevel props

pub entries_once : (es fs : List StateEntryData) → IsProp (es ≡ fs)
entries_once es fs = hlevel props

-- Each entry may be submitted; it is answered as the transaction at the rows, and leaves what that leaves. A state store is
-- the same in either version, and has no snapshots.
abbrev pub state_kind : StoreKind StateHistory StateTables StateEntryData ⊤
state_kind = record {
  number = STATES;
  record_of = state_record_of;
  IsRecordOf = IsStateRecord;
  is_part = λ payload. false;
  BeginSnapshot = λ payloads T before entries. ⊥;
  AreCutShort = λ payloads. ⊥;
  has_snapshots = false;
  snapshot_of = λ T before entries. [];
  IsProper = λ e. ⊤;
  empty = λ version. new_state_tables;
  IsValid = StatesValid;
  states_once = rows_once;
  lists_once = entries_once;
  version_refusal = λ T e. None;
  answer = λ T e. answer_of (state_transaction T e);
  after = λ T e. rows_left T (state_transaction T e);
  replay_from = replay_from;
  IsLegalFrom = IsLegalFrom;
  history = λ count base entries. record { base_count = count; base = base; entries = entries };
  base_count = λ h. h.base_count;
  base = λ h. h.base;
  entries = λ h. h.entries;
}
